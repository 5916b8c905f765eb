use Rattle.std.proofs.Common.{drop, length}
use Rattle.std.specs.List.{flat_map}
use Rattle.text_output.proofs.Puts.{Going}
use Rattle.canonical_text.proofs.written.put_but_first.Given as goal

abbrev pub invariant-texts : goal.invariant-texts
invariant-texts g l =
    Going g.O.Output.holds l.initial.out l.out (drop l.skip (flat_map (λ text. text.items) l.rest)) (drop 1 (flat_map (λ text. text.items) l.texts))

abbrev pub decreases-texts : goal.decreases-texts
decreases-texts g l = length l.rest
