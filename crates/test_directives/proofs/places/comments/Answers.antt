use Rattle.std.proofs.Common.{ℕ, false, true, ◌+◌, List, [], ◌∷◌, ◌++◌, map, drop, subst, sym, ap, ◌∙◌, arith}
use Rattle.std.proofs.lemmas.List.{map-append, append-nil}
use Rattle.clif_lex.specs.Places.{line_at}
use Rattle.clif_lex.specs.Spelling.{StandFrom}
use Rattle.test_directives.specs.Placing.{placed_of, Counted}
use Rattle.test_directives.proofs.TokenSteps.{stand_next, comments_next}
use Rattle.test_directives.proofs.places.comments.Goals as goal

pub line_at-requires-clause-forward : goal.line_at-requires-clause-forward
line_at-requires-clause-forward c =
    (stand_next c.args.text.now c.args.tokens.now c.tokens.i c.tokens.lines.at c.get-token.result c.get-token.ensures c.tokens.invariant.stand).0

pub line_at-requires-clause-within : goal.line_at-requires-clause-within
line_at-requires-clause-within c =
    let t = (stand_next c.args.text.now c.args.tokens.now c.tokens.i c.tokens.lines.at c.get-token.result c.get-token.ensures c.tokens.invariant.stand).1 in
    let some = t.some in
    let within = t.within in
    rw c.tokens.invariant.text (omega (arith, some, within))

pub spelling-requires-clause-ordered : goal.spelling-requires-clause-ordered
spelling-requires-clause-ordered c =
    let t = (stand_next c.args.text.now c.args.tokens.now c.tokens.i c.tokens.lines.at c.get-token.result c.get-token.ensures c.tokens.invariant.stand).1 in
    let some = t.some in
    omega (arith, some)

pub spelling-requires-clause-within : goal.spelling-requires-clause-within
spelling-requires-clause-within c =
    (stand_next c.args.text.now c.args.tokens.now c.tokens.i c.tokens.lines.at c.get-token.result c.get-token.ensures c.tokens.invariant.stand).1.within

pub tokens-preserved-then-not-is_comment : goal.tokens-preserved-then-not-is_comment
tokens-preserved-then-not-is_comment c =
    let s = stand_next c.args.text.now c.args.tokens.now c.tokens.i c.tokens.lines.at c.get-token.result c.get-token.ensures c.tokens.invariant.stand in
    let plain = sym c.is_comment.ensures ∙ c.if-not-is_comment.true in
    record {
      seen = c.tokens.invariant.seen ∙ (sym (append-nil _) ∙ sym (comments_next c.args.text.now c.args.tokens.now c.tokens.i c.get-token.result false c.get-token.ensures plain));
      text = c.tokens.invariant.text;
      stand = s.3;
    }

pub tokens-preserved : goal.tokens-preserved
tokens-preserved c =
    let s = stand_next c.args.text.now c.args.tokens.now c.tokens.i c.tokens.lines.at c.get-token.result c.get-token.ensures c.tokens.invariant.stand in
    let line = c.line_at.ensures.line ∙ ap (λ (t : List ℕ). line_at t c.get-token.result.start) c.tokens.invariant.text in
    let comment = sym c.is_comment.ensures ∙ c.if-not-is_comment.false in
    record {
      seen = ap (map placed_of) c.in_ok-push.ensures.items
          ∙ (map-append placed_of c.tokens.list.items _
          ∙ ((λ j. c.tokens.invariant.seen j ++ record { spot = c.get-token.result.start; line = line j; text = c.spelling.ensures j } ∷ [])
          ∙ sym (comments_next c.args.text.now c.args.tokens.now c.tokens.i c.get-token.result true c.get-token.ensures comment)));
      text = ap (λ (v : Counted). v.text) c.line_at.ensures.at ∙ c.tokens.invariant.text;
      stand = subst (λ (n : ℕ). StandFrom c.args.text.now n (drop (c.tokens.i + 1) c.args.tokens.now)) (sym (ap (λ (v : Counted). v.at) c.line_at.ensures.at)) s.2;
    }
