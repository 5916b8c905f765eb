use Rattle.std.proofs.Common.{ℕ, ◌<◌, List, length, get_or, Option, IfSome, refl, sym, ap, ◌∙◌, subst, arith}
use Rattle.std.specs.Arc.{arc_value}
use Rattle.std.proofs.lemmas.Option.{slice_get_within}
use Rattle.call_graph.specs.Numbers.{called}
use Rattle.ir_core.specs.Module.{Function, Module}
use Rattle.inline_finish.specs.Bodies.{HasCallees}
use Rattle.worker_driver.specs.declared.plan.Plan.{Plan}
use Rattle.worker_driver.proofs.ReadBodies.{list_long, stands, function_is, has_callees, callees_read, finished_of_ticket, inlined_of_ticket, some_weaker, some_both, some_always}
use Rattle.worker_driver.proofs.taking.build.Goals as goal

pub bounds-as_slice-ticket : goal.bounds-as_slice-ticket
bounds-as_slice-ticket g c = let n = list_long c.args.«module».now c.args.plan.now c.requires.plan.0 in let e = ap length c.as_slice.ensures in let l = c.requires.ticket in omega arith

pub offset_bounds-as_slice-ticket : goal.offset_bounds-as_slice-ticket
offset_bounds-as_slice-ticket g c = let n = list_long c.args.«module».now c.args.plan.now c.requires.plan.0 in let e = ap length c.as_slice.ensures in let l = c.requires.ticket in let fits = c.as_slice.type_inv.1 in omega arith

pub read_callees-requires-clause-func : goal.read_callees-requires-clause-func
read_callees-requires-clause-func g c =
    let m : Module = c.args.«module».now in let plan : Plan = c.args.plan.now in let list : List ℕ = c.as_slice.result.now in let t : ℕ = c.args.ticket in let k : ℕ = get_or list t 0 in
    let r = function_is m plan c.requires.plan.0 t k (stands m plan c.requires.plan.0 list c.as_slice.ensures t c.requires.ticket) in
    subst (λ (l : Module). k < length l) (sym c.«module».ensures.same) (slice_get_within m k r.0 r.1)

pub finish-requires-clause-func : goal.finish-requires-clause-func
finish-requires-clause-func g c =
    let m : Module = c.args.«module».now in let plan : Plan = c.args.plan.now in let list : List ℕ = c.as_slice.result.now in let t : ℕ = c.args.ticket in let k : ℕ = get_or list t 0 in
    let r = function_is m plan c.requires.plan.0 t k (stands m plan c.requires.plan.0 list c.as_slice.ensures t c.requires.ticket) in
    slice_get_within m k r.0 r.1

pub finish-requires-clause-has : goal.finish-requires-clause-has
finish-requires-clause-has g c =
    let m : Module = c.args.«module».now in let plan : Plan = c.args.plan.now in let list : List ℕ = c.as_slice.result.now in let t : ℕ = c.args.ticket in let k : ℕ = get_or list t 0 in
    let r = function_is m plan c.requires.plan.0 t k (stands m plan c.requires.plan.0 list c.as_slice.ensures t c.requires.ticket) in
    subst (λ (o : Option Function). IfSome o (λ f. HasCallees m f c.in_ok-callees.callees.known)) (sym r.1)
    (has_callees m plan c.requires.plan.0 k r.0 r.1 c.in_ok-callees.callees c.read_callees.new.seat.place.me.0 (length (called plan.graph k)) c.in_ok-callees.ensures.read refl)

pub returns-clause-body : goal.returns-clause-body
returns-clause-body g c =
    let m : Module = c.args.«module».now in let plan : Plan = c.args.plan.now in let list : List ℕ = c.as_slice.result.now in let t : ℕ = c.args.ticket in let k : ℕ = get_or list t 0 in
    let r = function_is m plan c.requires.plan.0 t k (stands m plan c.requires.plan.0 list c.as_slice.ensures t c.requires.ticket) in
    some_weaker c.finish.result _ _ (λ b h. finished_of_ticket c.args.policy m t k r.0 r.3 r.1 (arc_value b.0) h) c.finish.ensures.built

pub returns-clause-inlined : goal.returns-clause-inlined
returns-clause-inlined g c =
    let m : Module = c.args.«module».now in let plan : Plan = c.args.plan.now in let list : List ℕ = c.as_slice.result.now in let t : ℕ = c.args.ticket in let k : ℕ = get_or list t 0 in
    let r = function_is m plan c.requires.plan.0 t k (stands m plan c.requires.plan.0 list c.as_slice.ensures t c.requires.ticket) in
    some_both c.finish.result _ _ _ (λ b h e. e ∙ inlined_of_ticket c.args.policy m t k r.0 r.3 r.1 (arc_value b.0) h) c.finish.ensures.built c.finish.ensures.inlined

pub returns-clause-noted : goal.returns-clause-noted
returns-clause-noted g c =
    let m : Module = c.args.«module».now in let plan : Plan = c.args.plan.now in let list : List ℕ = c.as_slice.result.now in let t : ℕ = c.args.ticket in let k : ℕ = get_or list t 0 in
    let r = function_is m plan c.requires.plan.0 t k (stands m plan c.requires.plan.0 list c.as_slice.ensures t c.requires.ticket) in
    some_always c.finish.result _ (λ b. callees_read m plan c.requires.plan.0 k r.0 r.1 c.in_ok-callees.callees c.read_callees.new.seat.place.me.0 (length (called plan.graph k)) c.in_ok-callees.ensures.read refl t r.3)
