use Rattle.std.proofs.Common.{◌≡◌, List, All, map, length, ap, ◌∙◌, sym, subst, arith, IfOk}
use Rattle.std.proofs.lemmas.Result.{IfOk-weaker}
use Rattle.std.proofs.Math.ListN.{get_or-map}
use lib.ListN.{get_or, length-map}
use Rattle.std.proofs.lemmas.List.{take_at}
use Rattle.publish_table.specs.declared.board.Seat.{Seat}
use Rattle.worker_driver.specs.declared.outcome.Desk.{Desk}
use Rattle.worker_driver.specs.Turns.{IsIdle, IsReady, IsThroughAs, desk_of, seat_at}
use Rattle.worker_driver.proofs.Desks.{all_map}
use Rattle.worker_driver.proofs.workers.drive.Goals as goal

pub run_desks-requires-clause-desks : goal.run_desks-requires-clause-desks
run_desks-requires-clause-desks g c κs b =
    let is : c.as_mut_slice.result.now ≡ map desk_of c.args.seats.items = c.as_mut_slice.ensures.value ∙ c.in_ok-desks.ensures in
    let some = c.requires.seats.0 in let n = ap length is ∙ length-map c.args.seats.items desk_of in (
      omega (arith, c.args.seats.ok),
      subst (λ (l : List Desk). All (IsReady c.args.board.now) l) (sym is)
          (all_map (IsIdle c.args.board.now) (IsReady c.args.board.now) desk_of (λ s h. h) c.args.seats.items c.requires.seats.1),
    )

pub returns-clause-each : goal.returns-clause-each
returns-clause-each g c = let e : IfOk c.seats_of.result (λ v. v.items ≡ map seat_at c.run_desks.new.desks) =
    subst (λ (l : List Desk). IfOk c.seats_of.result (λ v. v.items ≡ map seat_at l)) (take_at c.run_desks.new.desks _ c.in_ok-desks.desks.len (c.run_desks.auto.desks ∙ c.as_mut_slice.ensures.len)) c.seats_of.ensures.seats in IfOk-weaker c.seats_of.result _ _ (λ v h. λ i d l.
    let before : c.as_mut_slice.result.now ≡ map desk_of c.args.seats.items = c.as_mut_slice.ensures.value ∙ c.in_ok-desks.ensures in
    let after : v.items ≡ map seat_at c.run_desks.new.desks = h in
    let n = ap length before ∙ length-map c.args.seats.items desk_of in
    let w = c.run_desks.ensures i (desk_of d) (omega (arith, c.args.seats.ok)) in
    let old : get_or c.as_mut_slice.result.now i (desk_of d) ≡ desk_of (get_or c.args.seats.items i d) = ap (λ (l : List Desk). get_or l i (desk_of d)) before ∙ get_or-map desk_of c.args.seats.items i d in
    let new : get_or v.items i d ≡ seat_at (get_or c.run_desks.new.desks i (desk_of d)) = ap (λ (l : List Seat). get_or l i d) after ∙ get_or-map seat_at c.run_desks.new.desks i (desk_of d) in
    subst (λ (x : Seat × Seat). IsThroughAs c.args.«module».now c.args.board.now x.0 x.1) (λ k. (ap seat_at old k, sym new k)) (w.0, w.1)) e
