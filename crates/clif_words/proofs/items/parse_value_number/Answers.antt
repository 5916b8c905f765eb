use Rattle.std.proofs.Common.{◌≡◌, true, arith}
use Rattle.std.proofs.lemmas.Grind.{common_steps}
use Rattle.std.specs.Char.{is_ascii_digit}
use Rattle.std.specs.List.{list_all}
use Rattle.clif_words.specs.Words.{decimal_after}
use Rattle.clif_words.proofs.Values.{below_18, below_19, value_meaning}
use Rattle.clif_words.proofs.items.parse_value_number.Goals as goal

pub overflow_mul-number : goal.overflow_mul-number
overflow_mul-number c = let l = c.loop-c in let few = below_18 l.number l.c-index l.invariant.below (omega arith) in omega arith

pub overflow_add-number : goal.overflow_add-number
overflow_add-number c = let l = c.loop-c in let few = below_18 l.number l.c-index l.invariant.below (omega arith) in omega (arith, c.type_inv.digits l.c-index)

pub returns : goal.returns
returns c =
    let ds = c.args.digits.now in
    let l = c.loop-c in
    let all : list_all is_ascii_digit ds ≡ true = grind (arith, common_steps) in
    let value : decimal_after 0 ds ≡ l.number = grind (arith, common_steps) in
    let below = below_19 l.number l.c-index l.invariant.below (omega arith) in
    value_meaning ds l.number all (grind (arith, common_steps)) (grind (arith, common_steps)) value (omega arith)
