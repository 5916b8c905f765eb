use Rattle.std.proofs.Common.{ℕ, ◌+◌, [], ◌∷◌, ◌++◌, ap, ◌∙◌, arith}
use Rattle.inline_body.proofs.Pushed.{made_of_numbers}
use Rattle.inline_body.proofs.numbers.many_new_values.Goals as goal

pub loop-index-preserved : goal.loop-index-preserved
loop-index-preserved c = made_of_numbers (λ (i : ℕ). c.args.start + i) c.loop-index.index _ c.loop-index.list.items c.push.new.self.items (omega arith) c.loop-index.invariant (c.in_ok-push.ensures.items ∙ ap (λ (z : ℕ). c.loop-index.list.items ++ (z ∷ [])) c.new.ensures)
