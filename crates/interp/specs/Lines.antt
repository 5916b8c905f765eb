-- What the code relies on at the lines of a block. Acceptance gives it: a narrow load reads 1, 2 or 4 bytes, fewer than
-- its type has, and a store has no results.
use Rattle.std.specs.Prelude.{ℕ, List, [], ◌∷◌, Bool, true, false}
use Rattle.std.specs.List.{list_all}
use Rattle.ir_core.specs.Module.{Simple, Load, Store, Instruction, Plain, Line}
use Rattle.ir_semantics.specs.TypeRules.{access_form}

abbrev pub has_none : List ℕ → Bool
has_none [] = true
has_none (v ∷ vs) = false

abbrev pub simple_fits : List ℕ → Simple → Bool
simple_fits results (Load access flags address offset) = access_form access
simple_fits results (Store narrow flags value address offset) = has_none results
simple_fits results _ = true

abbrev pub instruction_fits : List ℕ → Instruction → Bool
instruction_fits results (Plain p) = simple_fits results p
instruction_fits results _ = true

abbrev pub line_fits : Line → Bool
line_fits l = instruction_fits l.results l.inst

abbrev pub lines_fit : List Line → Bool
lines_fit ls = list_all line_fits ls
