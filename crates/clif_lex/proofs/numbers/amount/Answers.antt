use Rattle.std.proofs.Common.{◌+◌, ◌*◌, get_or, drop, arith}
use Rattle.std.proofs.lemmas.Grind.{common_steps}
use Rattle.std.proofs.lemmas.List.{at_drop_more}
use Rattle.std.specs.Char.{digit_value}
use Rattle.clif_lex.specs.Numbers.{amount_after}
use Rattle.clif_lex.proofs.Amounts.{le-amount_after}
use Rattle.clif_lex.proofs.numbers.amount.Goals as goal

pub returns-then-next : goal.returns-then-next
returns-then-next c =
    let l = c.digits in
    let ds = c.args.digits.now in
    let radix = c.args.radix in
    let next = l.value * radix + digit_value (get_or ds l.c-index 0) in
    let turn = at_drop_more (amount_after radix l.value) ds l.c-index 0 c.digits-test.true in
    let grown = le-amount_after radix next (drop (l.c-index + 1) ds) c.requires.low in
    grind (arith, common_steps)
