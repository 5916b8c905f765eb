use Rattle.std.proofs.Common.{◌+◌, ◌*◌, get_or, drop, arith}
use Rattle.std.proofs.lemmas.Grind.{common_steps}
use Rattle.std.proofs.lemmas.List.{at_drop_more}
use Rattle.std.specs.Char.{digit_value}
use Rattle.clif_words.specs.Words.{decimal_after, entity_number}
use Rattle.clif_words.proofs.Decimals.{le-decimal_after}
use Rattle.clif_words.proofs.items.parse_entity_number.Goals as goal

pub returns-then-next : goal.returns-then-next
unfolding entity_number
returns-then-next c =
    let l = c.loop-c in
    let ds = c.args.digits.now in
    let next = l.number * 10 + digit_value (get_or ds l.c-index 0) in
    let turn = at_drop_more (decimal_after l.number) ds l.c-index 0 c.loop-c-test.true in
    let grown = le-decimal_after next (drop (l.c-index + 1) ds) in
    grind (arith, common_steps)
