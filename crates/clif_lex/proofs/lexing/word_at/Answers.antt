use Rattle.std.proofs.Common.{◌≡◌, ◌-◌, true, false, ◌&&◌, arith, refl, sym, length, take, drop}
use Rattle.std.proofs.lemmas.List.{take_all, length-drop}
use Rattle.std.specs.List.{prefix_len}
use Rattle.clif_lex.specs.Bytes.{is_word_byte}
use Rattle.clif_lex.specs.Lexing.{is_header_word}
use Rattle.clif_lex.proofs.Fronts.{word_reach, header_at, plain_word_at}
use Rattle.clif_lex.proofs.lexing.word_at.Goals as goal
use Rattle.clif_lex.proofs.lexing.word_at.Goals.{else-preamble-via-then-preamble+else-is_header_word, else-preamble-via-else-preamble}

pub returns-then-is_header_word-clause-is : goal.returns-then-is_header_word-clause-is
returns-then-is_header_word-clause-is c =
    let rest = drop c.args.at c.args.text.now in
    let reach = word_reach c.args.at c.word_end-end.result c.args.text.now c.requires.below c.requires.letter c.word_end-end.ensures.end in
    let len : c.word_end-end.result - c.args.at ≡ prefix_len is_word_byte rest = omega (arith, reach) in
    let header : (c.args.preamble && is_header_word (take (prefix_len is_word_byte rest) rest)) ≡ true = rw (sym len, c.if-preamble.true, sym c.is_header_word.ensures, c.if-is_header_word.true) refl in
    let line = take_all (length c.args.text.now - c.args.at) rest (omega (arith, length-drop c.args.at c.args.text.now)) in
    rw (header_at c.args.preamble c.args.at rest header, c.line_run.ensures.len, line) refl

pub returns-clause-is : goal.returns-clause-is
returns-clause-is c =
    let rest = drop c.args.at c.args.text.now in
    let reach = word_reach c.args.at c.word_end-end.result c.args.text.now c.requires.below c.requires.letter c.word_end-end.ensures.end in
    let len : c.word_end-end.result - c.args.at ≡ prefix_len is_word_byte rest = omega (arith, reach) in
    let plain : (c.args.preamble && is_header_word (take (prefix_len is_word_byte rest) rest)) ≡ false = elim c.else-preamble.branch [
      | else-preamble-via-then-preamble+else-is_header_word w ↦ rw (sym len, w.if-preamble.true, sym w.is_header_word.ensures, w.if-is_header_word.false) refl
      | else-preamble-via-else-preamble w ↦ rw w.if-preamble.false refl
    ] in
    rw (plain_word_at c.args.preamble c.args.at rest plain, reach) refl
