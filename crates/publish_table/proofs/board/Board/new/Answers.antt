use Rattle.std.proofs.Common.{rules, ◌≡◌, ◌+◌, ℕ, List, length, replicate, get_or, ap, ◌∙◌, arith}
use Rattle.std.proofs.lemmas.List.{length-replicate, get_or-replicate}
use Rattle.publish_table.proofs.Bounds.{starts_at}
use Rattle.publish_table.proofs.board.Board.new.Goals as goal

pub vacant-requires : goal.vacant-requires
vacant-requires c =
    let n : ℕ = c.len-count.result in
    let zeros : c.as_slice.result.now ≡ replicate (n + 1) 0 = search rules in
    let size : n ≡ length c.of.result.value = search rules in
    starts_at _ n c.as_slice.result.now size (ap length zeros ∙ length-replicate (n + 1) 0)
    (λ i l. ap (λ (ws : List ℕ). get_or ws i 0) zeros ∙ get_or-replicate (n + 1) i 0 0 (let h = ap length zeros ∙ length-replicate (n + 1) 0 in omega arith)) (search rules)

pub returns : goal.returns
returns c = record {
  count = search rules;
  functions_are = search rules;
  policy_is = search rules;
  made = (c.in_ok-all.all.items, c.seated-last.result, search rules, search rules, search rules, search rules, search rules, search rules);
}
