-- An accepted module never gets stuck.
use Rattle.std.proofs.Common.{◌≢◌, ℕ, zero, suc, List, [], sym, subst}
use Rattle.ir_core.specs.Module.{Function, Module}
use Rattle.ir_core.specs.Lookup.{find_function, param_types}
use Rattle.ir_core.specs.Lists.{In}
use Rattle.ir_semantics.specs.Machine.{Frame, Wait, World, Stuck, Moment, On, Over}
use Rattle.ir_semantics.specs.Step.{step, step_at}
use Rattle.ir_semantics.specs.Runs.{run, first}
use Rattle.ir_core.specs.WellFormed.{WellFormed, IsModule}
use Rattle.ir_core.proofs.Members.{each_in}
use Rattle.ir_semantics.specs.Accepted.{Accepted}
use Rattle.ir_semantics.specs.NeverStuck.{NeverStuck}
use Rattle.ir_semantics.proofs.SafetyTypes.{entry_values_fit}
use Rattle.ir_semantics.proofs.SafetyPlaces.{function_in, from_get}
use Rattle.ir_semantics.proofs.SafetyStands.{NotStuck, Good, Stands, SafeMoment, begin_safe}
use Rattle.ir_semantics.proofs.SafetySteps.{line_safe}

goods : (m : Module) → IsModule m → Accepted m → (f : Function) → In f m → Good m f
goods m is accepted f there = record { there = there; accepted = accepted f there; whole = each_in WellFormed m is.whole f there }

module _ (m : Module) (good : (f : Function) → In f m → Good m f) where
  step_safe : (x : Frame) (s : List Wait) (w : World) → SafeMoment m (On x s w) → SafeMoment m (step m x s w)
  step_safe x s w (top, below) =
      let r = from_get top.k.lines top.i x.rest top.l top.from top.stands.line in
      let st : Stands m (record x { rest = r.0 }) top.b top.i top.k top.l top.defs = record { good = top.stands.good; found = top.stands.found; line = top.stands.line; reach = top.stands.reach; typed = top.stands.typed; has = top.stands.has } in
      subst (λ ls. SafeMoment m (step_at m x ls s w)) (sym r.1) (line_safe m good (record x { rest = r.0 }) top.b top.i top.k top.l top.defs st r.2 s below w)

  run_safe : (n : ℕ) (t : Moment) → SafeMoment m t → (run m n t).end ≢ Stuck
  run_safe n (Over w e) safe = λ q. subst NotStuck q safe
  run_safe zero (On x s w) safe = λ q. cc
  run_safe (suc n) (On x s w) safe = run_safe n (step m x s w) (step_safe x s w safe)

pub accepted_never_sticks : NeverStuck
accepted_never_sticks m is accepted entry args w e n =
    let f : Function = e.0 in
    let s0 = begin_safe m f (goods m is accepted f (function_in entry m f e.1)) args [] (entry_values_fit (param_types f.sig.params) args e.2) [] tt w in
    run_safe m (goods m is accepted) n (first (find_function entry m) args w) (subst (λ o. SafeMoment m (first o args w)) (sym e.1) s0)
