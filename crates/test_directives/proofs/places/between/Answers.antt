use Rattle.std.proofs.Common.{nat_lt, map, sym, ap, subst, ◌∙◌}
use Rattle.std.specs.List.{prefix_len}
use Rattle.test_directives.specs.declared.places.PlacedComment.{PlacedComment}
use Rattle.test_directives.specs.Placing.{placed_of, InOrder, LeavesBehind}
use Rattle.test_directives.proofs.Placed.{cut_own, cut_rest, leaves_behind, in_order_left}
use Rattle.test_directives.proofs.places.between.Goals as goal

pub returns-clause-own : goal.returns-clause-own
returns-clause-own c =
    let count = c.before-count.ensures.len ∙ ap (prefix_len (λ (x : PlacedComment). nat_lt x.spot c.args.until)) c.split_at.ensures.back in
    cut_own placed_of c.args.comments.now c.args.from c.args.until c.up_to-start.result c.before-count.result c.requires.in_order c.up_to-start.ensures.len count

pub returns-clause-behind : goal.returns-clause-behind
returns-clause-behind c =
    let count = c.before-count.ensures.len ∙ ap (prefix_len (λ (x : PlacedComment). nat_lt x.spot c.args.until)) c.split_at.ensures.back in
    subst (LeavesBehind c.args.until (map placed_of c.args.comments.now))
    (sym (cut_rest placed_of c.args.comments.now c.args.from c.args.until c.up_to-start.result c.before-count.result c.up_to-start.ensures.len count))
    (leaves_behind c.args.from c.args.until (map placed_of c.args.comments.now) c.requires.ordered)

pub returns-clause-in_order : goal.returns-clause-in_order
returns-clause-in_order c =
    let count = c.before-count.ensures.len ∙ ap (prefix_len (λ (x : PlacedComment). nat_lt x.spot c.args.until)) c.split_at.ensures.back in
    subst InOrder (sym (cut_rest placed_of c.args.comments.now c.args.from c.args.until c.up_to-start.result c.before-count.result c.up_to-start.ensures.len count))
    (in_order_left c.args.from c.args.until 0 (map placed_of c.args.comments.now) c.requires.in_order)
