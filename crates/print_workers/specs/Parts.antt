-- A module whose text is written in parts.
use Rattle.std.specs.Prelude.{◌≡◌, ℕ, zero, suc, ◌+◌, ◌<◌, ◌≤◌, List, [], ◌∷◌, ◌++◌, Some, length, take, slice_get}
use Rattle.std.specs.Prelude.{slice_index}
use Rattle.ir_core.specs.Module.{Function, Module}
use Rattle.ir_text.specs.Text.{text_of}
use Rattle.clif_numbers.specs.Room.{NumbersInRoom, HasRoomFor}
use Rattle.text_output.specs.Output.{Start, Puts}

-- The part of the module's text that begins with a function and ends before another: with the text of the functions
-- before the part it is the text of the functions before its end.
abbrev pub IsPart : Module → ℕ → ℕ → List ℕ → Type 0
IsPart m from end part = text_of (take from m) ++ part ≡ text_of (take end m)

-- each function from a place on and before another can be numbered without memory
abbrev pub HaveRoom : Module → ℕ → ℕ → NumbersInRoom → Type 0
HaveRoom m from end n =
    (i : ℕ) (f : Function) → from ≤ i → i < end → slice_get m i ≡ Some f → HasRoomFor f n

-- this part of the text was put
pub record PutsPart {S : Type 0} (holds : Start → S → List ℕ → Type 0) (old new : S) (m : Module)
    (from end : ℕ) : Type 0 where
  pub part : List ℕ
  pub puts : Puts holds old new part
  pub is : IsPart m from end part

-- what stands before the function of a place: an empty line, but not before the first
abbrev pub before_function : ℕ → List ℕ
before_function zero = []
before_function (suc place) = 10 ∷ []

-- Where parts of a list begin, and the last ends: at its begin, in order, and at its end.
pub record AreCuts (count parts : ℕ) (cuts : List ℕ) : Type 0 where
  pub number : length cuts ≡ parts + 1
  pub first : slice_index cuts 0 ≡ 0
  pub last : slice_index cuts parts ≡ count
  pub ordered : (i : ℕ) → i < parts → slice_index cuts i ≤ slice_index cuts (i + 1)
  pub within : (i : ℕ) → i ≤ parts → slice_index cuts i ≤ count
