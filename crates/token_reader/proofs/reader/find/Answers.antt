use Rattle.std.proofs.Common.{ℕ, ◌<◌, take, drop, sym, subst, ◌∙◌, arith}
use Rattle.clif_lex.specs.declared.spans.Token.{Token}
use Rattle.token_reader.specs.Shown.{IsOf, Shows}
use Rattle.token_reader.proofs.Ends.{some_taken}
use Rattle.token_reader.proofs.Shown.{shows_at}
use Rattle.token_reader.proofs.Views.{skips, if_some}
use Rattle.token_reader.proofs.reader.find.Goals as goal

pub comments-preserved : goal.comments-preserved
comments-preserved c =
    let ts = c.args.tokens.now in
    let less : c.comments.at < c.args.«end» = omega arith in
    let kept = some_taken ts c.comments.at c.args.«end» c.get.result less c.get.ensures in
    (omega arith, skips c.args.text.now (take c.args.«end» ts) c.comments.at c.get.result kept (sym c.is_comment.ensures ∙ c.if-not-is_comment.false) ∙ c.comments.invariant.1)

pub returns-then-not-is_comment-clause-shows : goal.returns-then-not-is_comment-clause-shows
returns-then-not-is_comment-clause-shows c =
    let text = c.args.text.now in
    let ts = c.args.tokens.now in
    let less : c.comments.at < c.args.«end» = omega arith in
    let kept = some_taken ts c.comments.at c.args.«end» c.get.result less c.get.ensures in
    let is = if_some (λ (t : Token). IsOf text t c.keep.new.next) _ c.get.result c.get.ensures c.keep.ensures.token in
    let shows = shows_at text (take c.args.«end» ts) c.comments.at c.get.result c.keep.new.next kept (sym c.is_comment.ensures ∙ c.if-not-is_comment.true) is in
    subst (λ (n : ℕ). Shows text (drop n (take c.args.«end» ts)) c.keep.new.next) (sym c.keep.ensures.at) shows
