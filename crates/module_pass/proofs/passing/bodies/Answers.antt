use Rattle.std.proofs.Common.{◌≡◌, ℕ, ◌<◌, List, Option, Some, length, set, sym, ap, ◌∙◌, subst, arith, inl, inr}
use Rattle.std.specs.Prelude.{slice_get, slice_index_or}
use Rattle.std.proofs.lemmas.Bool.{cases_eq}
use Rattle.std.proofs.lemmas.List.{length-set}
use Rattle.std.proofs.lemmas.Option.{slice_get_within}
use Rattle.ir_core.proofs.Order.{get_set_other}
use Rattle.ir_core.specs.Module.{Module}
use Rattle.inline_finish.specs.declared.bodies.Built.{Built}
use Rattle.inline_finish.specs.declared.bodies.Policy.{Policy}
use Rattle.module_pass.specs.Places.{AreBuilt, IsFilled, AllFilled}
use Rattle.module_pass.proofs.Costs.{cost, nothing, nothing_long, nothing_at, nothing_costs, cost_more, cost_all}
use Rattle.module_pass.proofs.Filled.{if_some, filled_here, filled_still}
use Rattle.module_pass.proofs.InTurn.{below, item_at, turn_of, one_turn, has_callees}
use Rattle.module_pass.proofs.passing.bodies.Goals as goal

pub loop-func-init : goal.loop-func-init
loop-func-init g c =
    let m = c.args.«module».now in let same = c.«module».ensures.same in
    let none : c.in_ok-places.places.built ≡ nothing (length m) =
    c.in_ok-places.ensures.none ∙ ap (λ (fs : Module). nothing (length fs)) same in
    record {
      kind = (c.in_ok-places.ensures.kind.0 ∙ same, c.in_ok-places.ensures.kind.1);
      long = ap length none ∙ nothing_long (length m);
      left = λ t k l e. ap (λ (ps : List (Option Built)). slice_get ps k) none
          ∙ nothing_at (length m) k (below m c.requires.names c.args.order.now c.requires.order t k e);
      steps = let z = ap cost none ∙ nothing_costs (length m) in omega (arith, z);
      done = λ t k l e. absurd (omega (arith, l));
    }

pub finish_body-requires-clause-there : goal.finish_body-requires-clause-there
finish_body-requires-clause-there g c =
    let xs = c.as_slice-func-items.result.now in let t = c.loop-func.func-index in
    let at = item_at xs c.args.order.now.list c.as_slice-func-items.ensures t c.loop-func-test.true in
    below c.args.«module».now c.requires.names c.args.order.now c.requires.order t (slice_index_or xs t 0) at

pub finish_body-requires-clause-has : goal.finish_body-requires-clause-has
finish_body-requires-clause-has g c =
    let m = c.args.«module».now in let t = c.loop-func.func-index in
    let xs = c.as_slice-func-items.result.now in let k : ℕ = slice_index_or xs t 0 in
    let at = item_at xs c.args.order.now.list c.as_slice-func-items.ensures t c.loop-func-test.true in
    if_some _ (slice_get m k) (λ f e. has_callees m c.requires.names c.args.order.now c.requires.order
    c.loop-func.places.built t k f at e c.loop-func.invariant.done)

pub put-requires-clause-there : goal.put-requires-clause-there
put-requires-clause-there g c =
    let xs = c.as_slice-func-items.result.now in let t = c.loop-func.func-index in
    let k : ℕ = slice_index_or xs t 0 in
    let at = item_at xs c.args.order.now.list c.as_slice-func-items.ensures t c.loop-func-test.true in
    let low = below c.args.«module».now c.requires.names c.args.order.now c.requires.order t k at in
    subst (λ (m : Module). k < length m) (sym c.loop-func.invariant.kind.0) low

pub loop-func-preserved : goal.loop-func-preserved
loop-func-preserved g c =
    let m = c.args.«module».now in let places = c.loop-func.places.built in let t = c.loop-func.func-index in
    let xs = c.as_slice-func-items.result.now in let k : ℕ = slice_index_or xs t 0 in
    let at = item_at xs c.args.order.now.list c.as_slice-func-items.ensures t c.loop-func-test.true in
    let low = below m c.requires.names c.args.order.now c.requires.order t k at in
    let i = c.loop-func.invariant in let b : Built = c.in_ok-built.built in
    let within : k < length places = let l = i.long in omega arith in
    record {
      kind = (c.put.ensures.kind.0 ∙ i.kind.0, c.put.ensures.kind.1 ∙ i.kind.1);
      long = ap length c.put.ensures.more ∙ (length-set places k (Some b) ∙ i.long);
      left = λ s n l e. ap (λ (ps : List (Option Built)). slice_get ps n) c.put.ensures.more
          ∙ (get_set_other places k n (Some b)
          (λ q. let one = one_turn m c.requires.names c.args.order.now c.requires.order s t n e
          (at ∙ ap (λ (z : ℕ). Some z) (sym q)) in omega (arith, one, l))
          ∙ i.left s n (omega (arith, l)) e);
      steps = let more = ap cost c.put.ensures.more ∙ cost_more places k b (i.left t k (omega arith) at) in
          let was = i.steps in let rose = c.in_ok-built.ensures.steps in omega arith;
      done = λ s n l e. subst (λ (ps : List (Option Built)). IsFilled ps n) (sym c.put.ensures.more)
          (elim (cases_eq s t) [
            | inl q ↦ (let there = ap (slice_get c.args.order.now.list) q in let same : k ≡ n = cc in
                subst (IsFilled (set places k (Some b))) same (filled_here places k b within))
            | inr q ↦ filled_still places k b within n (i.done s n (omega (arith, l, q)) e)
          ]);
    }

pub returns-clause-all : goal.returns-clause-all
returns-clause-all g c = λ k l.
    let ends = c.loop-func-test.false in let items = ap length c.as_slice-func-items.ensures in
    let same = c.into_built.ensures.same in let many = ap length same in let long = c.loop-func.invariant.long in
    let r = turn_of c.args.«module».now c.requires.names c.args.order.now c.requires.order k (omega arith) in
    let within = slice_get_within c.args.order.now.list r.0 k r.1 in
    subst (λ (ps : List (Option Built)). IsFilled ps k) (sym same) (c.loop-func.invariant.done r.0 k (omega arith) r.1)

pub returns-clause-steps : goal.returns-clause-steps
returns-clause-steps g c =
    let m : Module = c.args.«module».now in let p : Policy = c.args.policy in let i = c.loop-func.invariant in
    let out : List (Option Built) = c.into_built.result.items in
    let are : AreBuilt p m out = subst (λ (fs : Module). AreBuilt p fs out) i.kind.0
    (subst (λ (q : Policy). AreBuilt q c.loop-func.places.functions out) i.kind.1 c.into_built.ensures.built) in
    let full : AllFilled out = returns-clause-all g c in
    let all = cost_all p m out are full in let same = ap cost c.into_built.ensures.same in
    let was = i.steps in omega arith
