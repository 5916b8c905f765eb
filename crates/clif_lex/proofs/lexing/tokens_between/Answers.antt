use Rattle.std.proofs.Common.{sym, arith, map, take}
use Rattle.std.proofs.lemmas.List.{map-append}
use Rattle.std.proofs.lemmas.Result.{err_from_is_err_and}
use Rattle.clif_lex.specs.Spans.{token_of}
use Rattle.clif_lex.specs.Stretches.{stretch_tokens}
use Rattle.clif_lex.proofs.Runs.{takes_token, meets_fault, ends, gives_fault}
use Rattle.clif_lex.proofs.Insides.{stretch_inside, stretch_fault_inside}
use Rattle.clif_lex.proofs.lexing.tokens_between.Goals as goal

pub returns-in_err-token-clause-tokens : goal.returns-in_err-token-clause-tokens
returns-in_err-token-clause-tokens c =
    let l = c.tokens in
    let stretch = take c.args.end c.args.text.now in
    let total = stretch_tokens c.args.text.now c.args.preamble c.args.from c.args.end in
    let fault = c.in_err-token.field-0.0 in
    let p = err_from_is_err_and c.from_residual.result c.from_residual.ensures.1 in
    let met = meets_fault l.in_preamble (map token_of l.spans.items) l.at stretch fault total c.tokens-test.true l.invariant.1 (sym c.in_err-token.ensures.is) l.invariant.0 in
    rw (p.1, p.2) (gives_fault fault total met)

pub returns-in_err-token-clause-spot : goal.returns-in_err-token-clause-spot
returns-in_err-token-clause-spot c =
    let l = c.tokens in
    let stretch = take c.args.end c.args.text.now in
    let total = stretch_tokens c.args.text.now c.args.preamble c.args.from c.args.end in
    let fault = c.in_err-token.field-0.0 in
    let p = err_from_is_err_and c.from_residual.result c.from_residual.ensures.1 in
    let met = meets_fault l.in_preamble (map token_of l.spans.items) l.at stretch fault total c.tokens-test.true l.invariant.1 (sym c.in_err-token.ensures.is) l.invariant.0 in
    rw (p.1, p.2) (stretch_fault_inside c.args.text.now c.args.preamble c.args.from c.args.end fault c.requires.ordered c.requires.within met)

pub tokens-smaller : goal.tokens-smaller
tokens-smaller c = omega (arith, c.tokens-test.true, c.in_ok-token.ensures.some, c.blanks_end-at-in-tokens.ensures.forward)

pub tokens-preserved : goal.tokens-preserved
tokens-preserved c =
    let l = c.tokens in
    let stretch = take c.args.end c.args.text.now in
    let total = stretch_tokens c.args.text.now c.args.preamble c.args.from c.args.end in
    let t = c.in_ok-token.token in
    let next = takes_token l.in_preamble (map token_of l.spans.items) l.at stretch t total c.tokens-test.true l.invariant.1 (sym c.in_ok-token.ensures.is) c.in_ok-token.ensures.some l.invariant.0 in
    let blanks = c.blanks_end-at-in-tokens.ensures in
    (rw (c.push_reserved.ensures.items, c.in_ok-make_room.ensures.items, map-append, c.new.ensures, c.stays_preamble-in_preamble.ensures, blanks.same) next, blanks.stop, blanks.within)

pub returns-clause-tokens : goal.returns-clause-tokens
returns-clause-tokens c =
    let l = c.tokens in
    let stretch = take c.args.end c.args.text.now in
    ends l.in_preamble (map token_of l.spans.items) l.at stretch (stretch_tokens c.args.text.now c.args.preamble c.args.from c.args.end) (omega (arith, c.tokens-test.false)) l.invariant.0

pub returns-clause-in_text : goal.returns-clause-in_text
returns-clause-in_text c =
    let l = c.tokens in
    let stretch = take c.args.end c.args.text.now in
    let total = stretch_tokens c.args.text.now c.args.preamble c.args.from c.args.end in
    let front = map token_of l.spans.items in
    stretch_inside c.args.text.now c.args.preamble c.args.from c.args.end front c.requires.ordered c.requires.within
    (ends l.in_preamble front l.at stretch total (omega (arith, c.tokens-test.false)) l.invariant.0)
