use Rattle.std.proofs.Common.{◌≡◌, ◌++◌, drop, map}
use Rattle.ir_text.specs.Numbering.{numberings_of}
use Rattle.clif_numbers.proofs.numbers.numbering.Given as goal

abbrev pub invariant-loop-i : goal.invariant-loop-i
invariant-loop-i l = map (λ n. n.numbering) l.funcs.items ++ numberings_of (drop l.i l.module) ≡ numberings_of l.module
