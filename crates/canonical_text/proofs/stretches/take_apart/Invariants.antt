use Rattle.std.proofs.Common.{◌≡◌}
use Rattle.std.specs.List.{flat_map}
use Rattle.canonical_text.specs.Stretches.{heads_in, text_in}
use Rattle.canonical_text.proofs.stretches.take_apart.Given as goal

abbrev pub invariant-loop-stretch : goal.invariant-loop-stretch
invariant-loop-stretch l = record {
  heads : l.heads.items ≡ heads_in l.yielded;
  texts : flat_map (λ text. text.items) l.texts.items ≡ text_in l.yielded;
}
