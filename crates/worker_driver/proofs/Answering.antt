-- What an answered cell holds, by the number of its function.
use Rattle.std.proofs.Common.{◌≡◌, ◌≢◌, inl, inr, ℕ, ◌+◌, ◌<◌, ◌≤◌, List, length, get_or, set, Option, Some, refl, sym, ap, ◌∙◌, subst, arith}
use Rattle.std.specs.Prelude.{slice_get, IsSomeAnd}
use Rattle.std.specs.Arc.{arc_value}
use Rattle.std.specs.declared.sync.Arc.{Arc}
use Rattle.std.specs.declared.alloc.Global.{Global}
use Rattle.std.proofs.lemmas.Bool.{cases_eq}
use Rattle.std.proofs.lemmas.Option.{slice_get_within, slice_get_read}
use Rattle.ir_core.proofs.Order.{get_set_other}
use Rattle.ir_core.specs.Module.{Function, Module}
use Rattle.inline_finish.specs.declared.bodies.Built.{Built}
use Rattle.inline_finish.specs.declared.bodies.Policy.{Policy}
use Rattle.inline_finish.specs.Building.{policy_of, IsBuilt}
use Rattle.publish_table.specs.declared.view.Cell.{Cell}
use Rattle.publish_table.specs.declared.view.Cell.TheVariants.{Body, Refused}
use Rattle.publish_table.specs.Jobs.{FinishedOf}
use Rattle.worker_driver.specs.declared.plan.Plan.{Plan}
use Rattle.worker_driver.specs.Plans.{IsPlanOf}
use Rattle.worker_driver.specs.Turns.{AllAnswered, AllBodies, IsAnswer}
use Rattle.worker_driver.proofs.Orders.{same_item}
use Rattle.worker_driver.proofs.ReadBodies.{ticket_is, function_is, stands, list_long}

module _ (p : Policy) (m : Module) (plan : Plan) (is : IsPlanOf m plan) where
  -- two functions have different tickets
  pub one_function : (i j t : ℕ) → i < length m → j < length m → slice_get plan.tickets.items i ≡ Some t → slice_get plan.tickets.items j ≡ Some t → i ≡ j
  one_function i j t l h a b =
      let r = ticket_is m plan is i l in let s = ticket_is m plan is j h in
      let e : r.0 ≡ t = same_item plan.tickets.items i r.0 t r.1 a in let f : s.0 ≡ t = same_item plan.tickets.items j s.0 t s.1 b in
      same_item plan.order.list r.0 i j r.2 (subst (λ (z : ℕ). slice_get plan.order.list z ≡ Some j) (f ∙ sym e) s.2)

  pub ticket_below : (i t : ℕ) → i < length m → slice_get plan.tickets.items i ≡ Some t → t < length m
  ticket_below i t l a = let r = ticket_is m plan is i l in
      subst (λ (z : ℕ). z < length m) (same_item plan.tickets.items i r.0 t r.1 a) r.3

  module _ (cells : List Cell) (all : AllAnswered p m cells) where
    -- a body in the cell of a function's ticket is its finished body
    pub built_is : (i t : ℕ) → i < length m → slice_get plan.tickets.items i ≡ Some t → (a : Arc Built Global) → slice_get cells t ≡ Some (Body a)
        → (f : Function) × (slice_get m i ≡ Some f) × IsBuilt (policy_of p) m f (arc_value a)
    unfolding FinishedOf
    built_is i t l at a e =
        let r = ticket_is m plan is i l in
        let f = function_is m plan is r.0 i r.2 in
        let q : r.0 ≡ t = same_item plan.tickets.items i r.0 t r.1 at in
        let c = all.each t (ticket_below i t l at) in
        let same : c.0 ≡ Body a = same_item cells t c.0 (Body a) c.1 e in
        let fin : FinishedOf p m t (arc_value a) = subst (IsAnswer p m t) same c.2 in
        let fin_at : FinishedOf p m r.0 (arc_value a) = subst (λ (z : ℕ). FinishedOf p m z (arc_value a)) (sym q) fin in
        (f.0, f.1, subst (λ (o : Option Function). IsSomeAnd o (λ g. IsBuilt (policy_of p) m g (arc_value a))) f.3 fin_at)

    -- so it is where it stands in cells of which those of later tickets are as they were
    pub next_is : (now : List Cell) (i t : ℕ) → i < length m → length now ≡ length m → slice_get plan.tickets.items i ≡ Some t
        → ((j s : ℕ) → i ≤ j → slice_get plan.tickets.items j ≡ Some s → slice_get now s ≡ slice_get cells s)
        → (c : Cell) (a : Arc Built Global) → c ≡ get_or now t c → Body a ≡ c
        → (slice_get cells t ≡ Some (Body a)) × (f : Function) × (slice_get m i ≡ Some f) × IsBuilt (policy_of p) m f (arc_value a)
    next_is now i t l long at left c a here is_body =
        let e : slice_get now t ≡ Some c = slice_get_read now (length now) t c refl (subst (λ (n : ℕ). t < n) (sym long) (ticket_below i t l at)) here in
        let h : slice_get cells t ≡ Some (Body a) = sym (left i t (omega arith) at) ∙ (e ∙ ap (λ (z : Cell). Some z) (sym is_body)) in
        let b = built_is i t l at a h in (h, b.0, b.1, b.2)

    -- where no function has a refused cell, none is refused
    pub none_refused : ((j t : ℕ) → j < length m → slice_get plan.tickets.items j ≡ Some t → slice_get cells t ≢ Some Refused) → AllBodies cells
    none_refused each t e =
        let low : t < length m = subst (λ (n : ℕ). t < n) all.long (slice_get_within cells t Refused e) in
        let k : ℕ = get_or plan.order.list t 0 in
        let at = stands m plan is plan.order.list refl t low in
        let f = function_is m plan is t k at in
        each k t (slice_get_within m k f.0 f.1) (is.tickets.place t k at) e

  -- the cells of the tickets of later functions are as before, where that of one function is taken out
  pub left_more : (now first : List Cell) (i n t : ℕ) (c : Cell) → i < length m → n ≡ i + 1 → slice_get plan.tickets.items i ≡ Some t
      → ((j s : ℕ) → i ≤ j → slice_get plan.tickets.items j ≡ Some s → slice_get now s ≡ slice_get first s)
      → (j s : ℕ) → n ≤ j → slice_get plan.tickets.items j ≡ Some s → slice_get (set now t c) s ≡ slice_get first s
  left_more now first i n t c l e at left j s h a = let within = slice_get_within plan.tickets.items j s a in let long = is.tickets.long in let many = list_long m plan is in
      get_set_other now t s c (λ q. let same = one_function i j t l (omega (arith, within, long, many)) at (subst (λ (z : ℕ). slice_get plan.tickets.items j ≡ Some z) q a) in
      absurd (omega (arith, same, e, h))) ∙ left j s (omega (arith, e, h)) a

  pub bodies_more : (now first : List Cell) (i n t : ℕ) (a : Arc Built Global) → i < length m → n ≡ i + 1 → slice_get plan.tickets.items i ≡ Some t → slice_get first t ≡ Some (Body a)
      → ((j s : ℕ) → j < i → slice_get plan.tickets.items j ≡ Some s → slice_get first s ≢ Some Refused)
      → (j s : ℕ) → j < n → slice_get plan.tickets.items j ≡ Some s → slice_get first s ≢ Some Refused
  bodies_more now first i n t a l e at body so j s h b r = elim (cases_eq j i) [
    | inl q ↦ (let same : s ≡ t = same_item plan.tickets.items i s t (subst (λ (z : ℕ). slice_get plan.tickets.items z ≡ Some s) q b) at in
        let bad : Body a ≡ Refused = same_item first t (Body a) Refused body (subst (λ (z : ℕ). slice_get first z ≡ Some Refused) same r) in cc)
    | inr q ↦ so j s (omega (arith, e, h, q)) b r
  ]
