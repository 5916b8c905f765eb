use Rattle.std.proofs.Common.{◌≡◌, ◌++◌, map, take}
use Rattle.ir_semantics.specs.Machine.{User}
use Rattle.interp.specs.Outcome.{shown_of}
use Rattle.interp.proofs.shows.show_numbers.Given as goal

abbrev pub invariant-numbers : goal.invariant-numbers
invariant-numbers l = map shown_of l.out.items ≡ map shown_of l.fn.out.items ++ map User (take l.number-index l.numbers)
