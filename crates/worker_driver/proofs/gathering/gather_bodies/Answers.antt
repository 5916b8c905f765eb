use Rattle.std.proofs.Common.{◌≡◌, ℕ, ◌+◌, ◌<◌, List, length, map, take, Some, refl, sym, ◌∙◌, subst, arith}
use Rattle.std.specs.Prelude.{slice_get}
use Rattle.std.specs.declared.sync.Arc.{Arc}
use Rattle.std.specs.declared.alloc.Global.{Global}
use Rattle.std.proofs.lemmas.List.{length-set}
use Rattle.std.proofs.lemmas.Option.{slice_get_read}
use Rattle.ir_core.specs.Module.{Module}
use Rattle.ir_semantics.specs.Canon.{SameUpToNumbering}
use Rattle.inline_pass.specs.Finished.{finished}
use Rattle.inline_pass.specs.Inlined.{inlined}
use Rattle.inline_finish.specs.declared.bodies.Built.{Built}
use Rattle.inline_finish.specs.declared.bodies.Policy.{Policy}
use Rattle.inline_finish.specs.Building.{policy_of}
use Rattle.worker_driver.specs.Gathered.{functions_in, inlined_in}
use Rattle.worker_driver.specs.declared.plan.Plan.{Plan}
use Rattle.worker_driver.proofs.ReadBodies.{tickets_long}
use Rattle.worker_driver.proofs.Answering.{ticket_below, next_is, none_refused, left_more, bodies_more}
use Rattle.worker_driver.proofs.Gathered.{same_with, counted_with, all_gathered}
use Rattle.worker_driver.proofs.gathering.gather_bodies.Goals as goal

pub index-ticket-requires : goal.index-ticket-requires
index-ticket-requires c = let l = tickets_long c.args.«module».now c.args.plan.now c.requires.plan in let n = c.len-i-end.ensures.count in omega (arith, c.args.plan.now.tickets.ok, c.loop-i-test.true)

pub index_mut-requires : goal.index_mut-requires
index_mut-requires c =
    let m : Module = c.args.«module».now in let plan : Plan = c.args.plan.now in let i : ℕ = c.loop-i.i in let t : ℕ = c.index-ticket.result.now in
    let long = tickets_long m plan c.requires.plan in let n = c.len-i-end.ensures.count in let l : i < length m = omega (arith, c.loop-i-test.true) in
    let at : slice_get plan.tickets.items i ≡ Some t = slice_get_read plan.tickets.items (length plan.tickets.items) i t refl (omega arith) c.index-ticket.ensures in
    let low = ticket_below c.args.policy m plan c.requires.plan i t l at in let same = c.loop-i.invariant.long in omega (arith, c.loop-i.cells.ok)

pub loop-i-preserved : goal.loop-i-preserved
loop-i-preserved c =
    let m : Module = c.args.«module».now in let plan : Plan = c.args.plan.now in let i : ℕ = c.loop-i.i in let t : ℕ = c.index-ticket.result.now in
    let p : Policy = c.args.policy in let inv = c.loop-i.invariant in
    let long = tickets_long m plan c.requires.plan in let n = c.len-i-end.ensures.count in let l : i < length m = omega (arith, c.loop-i-test.true) in
    let at : slice_get plan.tickets.items i ≡ Some t = slice_get_read plan.tickets.items (length plan.tickets.items) i t refl (omega arith) c.index-ticket.ensures in
    let r = next_is p m plan c.requires.plan c.args.cells.items c.requires.cells c.loop-i.cells.items i t l inv.long at inv.left
    c.index_mut.result.now c.in-Body.built c.index_mut.ensures.value c.in-Body.ensures.value in record {
      long = length-set c.loop-i.cells.items t c.replace.new.dest ∙ inv.long;
      left = left_more p m plan c.requires.plan c.loop-i.cells.items c.args.cells.items i (i + 1) t c.replace.new.dest l refl at inv.left;
      filled = bodies_more p m plan c.requires.plan c.loop-i.cells.items c.args.cells.items i (i + 1) t c.in-Body.built l refl at r.0 inv.filled;
      same = subst (λ (bodies : List (Arc Built Global)). SameUpToNumbering (map (finished (policy_of p) m) (take (i + 1) m)) (functions_in bodies))
          (sym c.in_ok-push.ensures.items) (same_with p m i r.1 r.2 c.loop-i.bodies.items c.in-Body.built r.3 inv.same);
      counted = subst (λ (bodies : List (Arc Built Global)). map inlined_in bodies ≡ map (inlined (policy_of p) m) (take (i + 1) m))
          (sym c.in_ok-push.ensures.items) (counted_with p m i r.1 r.2 c.loop-i.bodies.items c.in-Body.built r.3 inv.counted);
    }

pub returns-clause-none_refused : goal.returns-clause-none_refused
returns-clause-none_refused c = let long = c.len-i-end.ensures.count in
    none_refused c.args.policy c.args.«module».now c.args.plan.now c.requires.plan c.args.cells.items c.requires.cells
    (λ j t l. c.loop-i.invariant.filled j t (omega (arith, c.loop-i-test.false)))

pub returns-clause-gathered : goal.returns-clause-gathered
returns-clause-gathered c = let long = c.len-i-end.ensures.count in
    all_gathered c.args.policy c.args.«module».now c.loop-i.i c.loop-i.bodies.items (omega (arith, c.loop-i-test.false)) c.loop-i.invariant.same c.loop-i.invariant.counted
