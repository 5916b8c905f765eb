use Rattle.std.proofs.Common.{drop, sym, ap, subst, ◌∙◌, arith}
use Rattle.canonical_text.specs.Accepted.{IsAcceptedText}
use Rattle.canonical_text.proofs.StretchLaws.{text_accepted}
use Rattle.canonical_text.proofs.stretches.print_stretches.Goals as goal

pub returns : goal.returns
returns g c =
    subst (IsAcceptedText c.args.text.now) (sym (c.of_texts.ensures ∙ ap (drop 1) c.in-Ok.ensures.texts))
    (text_accepted c.accepted_by_heads.ensures c.args.text.now c.in_ok-stretches.stretches.items c.in-Ok.parts.heads.items c.in-Ok-Some.heads c.in_ok-stretches.ensures c.in-Ok.ensures.heads (omega (arith, c.len.ensures, c.if-len-gt-MOST_FUNCTIONS.false))
    (rw c.in-Ok-Some.field-0-is at c.in-Ok-Some.ensures) c.declare_all.ensures.names (c.declare_all.ensures.declared c.if-not-declare_all.false))
