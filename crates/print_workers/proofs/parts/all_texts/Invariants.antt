use Rattle.std.proofs.Common.{◌≡◌, Ok, map}
use Rattle.print_workers.proofs.parts.all_texts.Given as goal

abbrev pub invariant-loop-answer : goal.invariant-loop-answer
invariant-loop-answer l = l.yielded ≡ map (λ text. Ok text) l.texts.items
