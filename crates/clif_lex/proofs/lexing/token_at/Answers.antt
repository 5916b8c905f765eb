use Rattle.std.proofs.Common.{refl, sym, ◌∙◌, ap, drop}
use Rattle.clif_lex.specs.Bytes.{is_letter, is_mark}
use Rattle.clif_lex.proofs.Fronts.{first_at, letter_token, mark_token}
use Rattle.clif_lex.proofs.lexing.token_at.Goals as goal

pub returns-then-is_letter-clause-is : goal.returns-then-is_letter-clause-is
returns-then-is_letter-clause-is c =
    let text = c.args.text.now in
    let at = c.args.at in
    let letter = ap is_letter (first_at at text c.requires.below) ∙ sym c.is_letter.ensures ∙ c.if-is_letter.true in
    rw (letter_token c.args.preamble at (drop at text) letter, c.word_at.ensures.is) refl

pub returns-then-is_mark-clause-is : goal.returns-then-is_mark-clause-is
returns-then-is_mark-clause-is c =
    let text = c.args.text.now in
    let at = c.args.at in
    let first = first_at at text c.requires.below in
    let no_letter = ap is_letter first ∙ sym c.is_letter.ensures ∙ c.if-is_letter.false in
    let mark = ap is_mark first ∙ sym c.is_mark.ensures ∙ c.if-is_mark.true in
    rw (mark_token c.args.preamble at (drop at text) no_letter mark, first) refl
