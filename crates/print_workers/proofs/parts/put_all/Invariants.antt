use Rattle.std.proofs.Common.{length}
use Rattle.std.specs.List.{flat_map}
use Rattle.text_output.proofs.Puts.{Going}
use Rattle.print_workers.proofs.parts.put_all.Given as goal

abbrev pub invariant-texts : goal.invariant-texts
invariant-texts g l = Going g.O.Output.holds l.initial.out l.out (flat_map (λ text. text.items) l.rest) (flat_map (λ text. text.items) l.texts)

abbrev pub decreases-texts : goal.decreases-texts
decreases-texts g l = length l.rest
