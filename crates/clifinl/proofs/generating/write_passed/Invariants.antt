use Rattle.clifinl.proofs.generating.write_passed.Given as goal

abbrev pub ghosts-summarize : goal.ghosts-summarize
ghosts-summarize g a = record { name = a.blank.name; parts = a.blank.parts }
