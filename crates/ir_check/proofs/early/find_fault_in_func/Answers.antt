use Rattle.std.proofs.Common.{List, ◌<◌, length, sym, subst}
use Rattle.std.proofs.lemmas.Option.{slice_get_within}
use Rattle.ir_core.specs.Module.{Function}
use Rattle.ir_check.specs.Faults.{first_rules, tried_at, callee_items}
use Rattle.ir_check.specs.Found.{Finds}
use Rattle.ir_check.proofs.Searching.{items_find, callees_find}
use Rattle.ir_check.proofs.Signed.{one_function}
use Rattle.ir_check.proofs.early.find_fault_in_func.Goals as goal

pub func-requires : goal.func-requires
func-requires c = subst (λ (z : List Function). c.args.number < length z) (sym c.requires.same) (slice_get_within c.args.«module».now c.args.number c.args.func.now.function c.requires.at)

pub find_fault_in_blocks-requires-clause-same : goal.find_fault_in_blocks-requires-clause-same
find_fault_in_blocks-requires-clause-same c = one_function c.args.«module».now c.args.sigs.now c.requires.same c.args.number c.args.func.now.function c.func.result c.requires.at c.func.ensures

pub returns-in-Some : goal.returns-in-Some
returns-in-Some c = callees_find c.args.«module».now c.args.number c.args.func.now.function first_rules c.in-Some.fault c.in-Some.ensures

pub returns : goal.returns
returns c =
    items_find c.args.«module».now c.args.number c.args.func.now.function first_rules c.find_fault_in_blocks.result
    (subst (λ o. Finds c.args.«module».now c.args.func.now.function (tried_at first_rules c.args.number c.args.func.now.function (callee_items 0 c.args.func.now.function.callees)) o) c.in_default.is c.find_fault_in_callees.ensures) (c.find_fault_in_blocks.ensures c.args.«module».now)
