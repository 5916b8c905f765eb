use Rattle.std.proofs.Common.{◌+◌, arith, sym, ◌∙◌, ap, rules, get_or}
use Rattle.byte_store.proofs.Bytes.{higher_none, higher_next, higher_fits, higher_all, number_small}
use Rattle.byte_store.proofs.memory.number.Goals as goal

pub bytes-init : goal.bytes-init
bytes-init c = sym (higher_none c.args.big c.args.bytes.now)

pub overflow_mul-number : goal.overflow_mul-number
overflow_mul-number c = omega (arith, higher_fits c.args.big c.args.bytes.now (c.bytes.i + 1) c.type_inv.bytes c.requires, higher_next c.args.big c.args.bytes.now c.bytes.i c.bytes-test.true, c.bytes.invariant)

pub overflow_add-number : goal.overflow_add-number
overflow_add-number c = omega (arith, higher_fits c.args.big c.args.bytes.now (c.bytes.i + 1) c.type_inv.bytes c.requires, higher_next c.args.big c.args.bytes.now c.bytes.i c.bytes-test.true, c.bytes.invariant, c.from.ensures, ap (λ k. get_or c.args.bytes.now k 0) c.place_of.ensures.at)

pub bytes-preserved : goal.bytes-preserved
bytes-preserved c = omega (arith, higher_next c.args.big c.args.bytes.now c.bytes.i c.bytes-test.true, c.bytes.invariant, c.from.ensures, ap (λ k. get_or c.args.bytes.now k 0) c.place_of.ensures.at)

pub returns-clause-small : goal.returns-clause-small
returns-clause-small c = number_small c.args.big c.args.bytes.now c.bytes.number c.type_inv.bytes (c.bytes.invariant ∙ higher_all c.args.big c.args.bytes.now c.bytes.i (search rules))
