use Rattle.std.proofs.Common.{◌≡◌, ◌≢◌, ◌+◌, ◌≤◌, suc, [], ◌∷◌, ◌++◌, length, take, sym, ap, ◌∙◌, arith}
use Rattle.std.proofs.lemmas.List.{take_all}
use Rattle.ir_core.proofs.Members.{each_join}
use Rattle.clif_read.specs.declared.raw.RawFunction.{RawFunction}
use Rattle.clif_names.specs.Faults.{of_functions}
use Rattle.clif_names.specs.FunctionNames.{NoFunctionFault}
use Rattle.clif_lines.proofs.Parting.{each_at, got, parted_next}
use Rattle.clif_resolve.proofs.BuildingLaws.{means_more, new_name}
use Rattle.clif_resolve.proofs.FaultlessLaws.{faulty_by_function, faulty_by_list, list_free, module_free}
use Rattle.clif_resolve.proofs.building.build.Goals as goal

pub returns-then-not-is_none-clause-free : goal.returns-then-not-is_none-clause-free
returns-then-not-is_none-clause-free c =
    faulty_by_list (of_functions c.args.functions.now) c.in_ok-among_functions.field-0 c.in_ok-among_functions.ensures
    (sym c.is_none.ensures ∙ c.if-not-is_none.true)

pub meant_function-requires : goal.meant_function-requires
meant_function-requires c =
    let fs = c.args.functions.now in
    let i = c.loop-func.func-index in
    each_at (λ (f : RawFunction). f.blocks ≢ []) fs i c.func-item.result c.requires
    (got fs i c.func-item.result c.loop-func-test.true c.func-item.is)

pub push-requires-clause-new : goal.push-requires-clause-new
push-requires-clause-new c =
    let fs = c.args.functions.now in
    let i = c.loop-func.func-index in
    new_name fs i c.func-item.result (got fs i c.func-item.result c.loop-func-test.true c.func-item.is)
    (list_free fs c.in_ok-among_functions.field-0 c.in_ok-among_functions.ensures (sym c.is_none.ensures ∙ c.if-not-is_none.false))
    c.loop-func.invariant.free (rw c.in-Some.is at c.in_ok-built.ensures.free) _ _ c.loop-func.invariant.means (rw c.in-Some.is at c.in_ok-built.ensures.meant)

pub returns-in-None-clause-free : goal.returns-in-None-clause-free
returns-in-None-clause-free c =
    let fs = c.args.functions.now in
    let i = c.loop-func.func-index in
    faulty_by_function (of_functions fs) i c.func-item.result (got fs i c.func-item.result c.loop-func-test.true c.func-item.is)
    (rw c.in-None.is at c.in_ok-built.ensures.free)

pub loop-func-preserved : goal.loop-func-preserved
loop-func-preserved c =
    let fs = c.args.functions.now in
    let i = c.loop-func.func-index in
    let next : take (i + 1) fs ≡ take i fs ++ c.func-item.result ∷ [] =
    ap (λ n. take n fs) (let e : i + 1 ≡ suc i = omega arith in e)
    ∙ parted_next fs i c.func-item.result (got fs i c.func-item.result c.loop-func-test.true c.func-item.is) in
    record {
      free = rw next (each_join NoFunctionFault (take i fs) (c.func-item.result ∷ []) c.loop-func.invariant.free ((rw c.in-Some.is at c.in_ok-built.ensures.free), tt));
      means = rw (c.in_ok-push-in-Some.ensures.ok, next) (means_more _ _ _ _ c.loop-func.invariant.means (rw c.in-Some.is at c.in_ok-built.ensures.meant));
    }

pub returns-clause-free : goal.returns-clause-free
returns-clause-free c =
    let fs = c.args.functions.now in
    let i = c.loop-func.func-index in
    let all : length fs ≤ i = omega arith in
    module_free (of_functions fs)
    (list_free fs c.in_ok-among_functions.field-0 c.in_ok-among_functions.ensures
    (sym c.is_none.ensures ∙ c.if-not-is_none.false))
    (rw (take_all i fs all) at c.loop-func.invariant.free)
