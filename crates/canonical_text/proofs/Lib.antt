mod Pieces
mod PrintedLaws
mod StretchLaws
