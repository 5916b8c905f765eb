use Rattle.std.proofs.Common.{rules, ◌≡◌, ℕ, ◌<◌, length, refl, sym, subst, arith}
use Rattle.std.specs.Arc.{arc_value}
use Rattle.std.proofs.lemmas.Option.{slice_get_read}
use Rattle.ir_core.specs.Module.{Module}
use Rattle.inline_finish.specs.declared.bodies.Built.{Built}
use Rattle.inline_finish.specs.declared.bodies.Policy.{Policy}
use Rattle.publish_table.specs.declared.job.Job.{Job}
use Rattle.publish_table.specs.declared.view.View.{View}
use Rattle.publish_table.specs.Jobs.{FinishedOf, IsFinished}
use Rattle.publish_table.specs.Plays.{count}
use Rattle.worker_driver.specs.declared.plan.Plan.{Plan}
use Rattle.worker_driver.proofs.Views.{only_read_by, read_noted}
use Rattle.worker_driver.proofs.Orders.{same_item}
use Rattle.worker_driver.proofs.ReadBodies.{tickets_long, ticket_is, function_is, body_of_ticket}
use Rattle.worker_driver.proofs.taking.read_callee.Goals as goal

pub index-ticket-requires : goal.index-ticket-requires
index-ticket-requires g c = let l = tickets_long c.args.callees.now.functions c.args.plan.now c.requires.plan in let h = c.requires.callee in omega arith

pub read-requires-clause-ticket : goal.read-requires-clause-ticket
read-requires-clause-ticket g c =
    let m : Module = c.args.callees.now.functions in let plan : Plan = c.args.plan.now in
    let r = ticket_is m plan c.requires.plan c.args.callee c.requires.callee in
    let l = tickets_long m plan c.requires.plan in let h = c.requires.callee in
    let e = slice_get_read plan.tickets.items (length plan.tickets.items) c.args.callee c.index-ticket.result.now refl (omega arith) c.index-ticket.ensures in
    let q = same_item plan.tickets.items c.args.callee r.0 c.index-ticket.result.now r.1 e in
    let b = r.3 in let n = c.requires.board.0.2 in omega arith

pub put-requires : goal.put-requires
put-requires g c =
    let m : Module = c.args.callees.now.functions in let plan : Plan = c.args.plan.now in
    let r = ticket_is m plan c.requires.plan c.args.callee c.requires.callee in
    let l = tickets_long m plan c.requires.plan in let h = c.requires.callee in let ticket : ℕ = c.index-ticket.result.now in
    let e = slice_get_read plan.tickets.items (length plan.tickets.items) c.args.callee ticket refl (omega arith) c.index-ticket.ensures in
    let q : r.0 ≡ ticket = same_item plan.tickets.items c.args.callee r.0 ticket r.1 e in
    let f = function_is m plan c.requires.plan r.0 c.args.callee r.2 in
    let built : Built = arc_value c.in-Ok-Body.built in let p : Policy = c.args.callees.now.policy in
    let key : Job = c.args.board.now.table.shared.key in
    let fin : IsFinished c.args.seat.now.place.me.0.job ticket built = (rw c.in-Ok-Body.field-0-is at c.in-Ok-Body.ensures.cell).0 in
    let at_key : FinishedOf key.policy key.functions.value ticket built = subst (λ (j : Job). FinishedOf j.policy j.functions.value ticket built) c.requires.board.1.3 fin in
    let by_policy : FinishedOf p key.functions.value ticket built = subst (λ (x : Policy). FinishedOf x key.functions.value ticket built) c.requires.board.0.1 at_key in
    let by_module : FinishedOf p m ticket built = subst (λ (x : Module). FinishedOf p x ticket built) c.requires.board.0.0 by_policy in
    body_of_ticket p m r.0 c.args.callee f.0 f.3 f.1 built (subst (λ (t : ℕ). FinishedOf p m t built) (sym q) by_module)

pub returns-in-Ok-Body-clause-view : goal.returns-in-Ok-Body-clause-view
returns-in-Ok-Body-clause-view g c = let v : View = c.args.seat.now.place.me.0 in let w : View = c.read.new.seat.place.me.0 in
    only_read_by v w _ (rw c.in-Ok-Body.field-0-is at c.in-Ok-Body.ensures.cell).1

pub returns-in-Ok-Body-clause-read : goal.returns-in-Ok-Body-clause-read
returns-in-Ok-Body-clause-read g c = λ ok.
    let m : Module = c.args.callees.now.functions in let plan : Plan = c.args.plan.now in
    let r = ticket_is m plan c.requires.plan c.args.callee c.requires.callee in
    let l = tickets_long m plan c.requires.plan in let h = c.requires.callee in let ticket : ℕ = c.index-ticket.result.now in
    let e = slice_get_read plan.tickets.items (length plan.tickets.items) c.args.callee ticket refl (omega arith) c.index-ticket.ensures in
    let noted = read_noted c.args.seat.now.place.me.0 c.read.new.seat.place.me.0 ticket (rw c.in-Ok-Body.field-0-is at c.in-Ok-Body.ensures.cell).1 in
    (search rules, λ t a. subst (λ (z : ℕ). 0 < count z c.read.new.seat.place.me.0.read) (same_item plan.tickets.items c.args.callee ticket t e a) noted)

pub returns-in-Err-clause-view : goal.returns-in-Err-clause-view
returns-in-Err-clause-view g c = only_read_by c.args.seat.now.place.me.0 c.read.new.seat.place.me.0 _ c.in-Err.ensures.memory
