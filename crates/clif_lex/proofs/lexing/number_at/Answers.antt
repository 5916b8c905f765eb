use Rattle.std.proofs.Common.{◌≡◌, false, drop, arith}
use Rattle.std.proofs.lemmas.Grind.{common_steps}
use Rattle.clif_lex.specs.Bytes.{first, is_word_byte}
use Rattle.clif_lex.proofs.Plain.{plain_parts}
use Rattle.clif_lex.proofs.lexing.number_at.Goals as goal

pub returns-then-not-is_word_byte-clause-is : goal.returns-then-not-is_word_byte-clause-is
returns-then-not-is_word_byte-clause-is c =
    let digits = c.unsigned-digits.result.now in
    let count = c.digit_run-count.result in
    let stop : is_word_byte (first (drop count digits)) ≡ false = grind (arith, common_steps, c.is_word_byte.ensures, c.first.ensures, c.if-not-is_word_byte.true) in
    plain_parts c.args.at c.args.text.now digits count c.unsigned-digits.ensures c.digit_run-count.ensures.len c.if-count-le-SURE_DIGITS.true stop
