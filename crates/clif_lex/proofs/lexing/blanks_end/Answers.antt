use Rattle.std.proofs.Common.{arith, sym, ◌∙◌, ap}
use Rattle.clif_lex.specs.Bytes.{is_blank}
use Rattle.clif_lex.proofs.Fronts.{first_at}
use Rattle.clif_lex.proofs.Runs.{passes_blank}
use Rattle.clif_lex.proofs.lexing.blanks_end.Goals as goal

pub bytes-preserved : goal.bytes-preserved
bytes-preserved c =
    let l = c.bytes in
    let text = c.args.text.now in
    let below = c.bytes-test.true in
    let blank = ap is_blank (first_at l.end text below) ∙ sym c.is_blank.ensures ∙ c.if-is_blank.true in
    (omega (arith, l.invariant.0), omega (arith, below), λ preamble. passes_blank preamble l.end text below blank ∙ l.invariant.2 preamble)
