-- What is read under tickets are the bodies of callees.
use Rattle.std.proofs.Common.{◌≡◌, ◌≢◌, inl, inr, ℕ, zero, suc, ◌+◌, ◌<◌, List, [], ◌∷◌, length, map, get_or, Option, Some, None, IfSome, refl, sym, ap, ◌∙◌, subst, arith}
use Rattle.std.specs.Prelude.{slice_get, slice_index, IsSomeAnd, true}
use Rattle.ir_core.specs.declared.names.FuncName.{FuncName}
use Rattle.ir_core.specs.Module.{Function, Module}
use Rattle.ir_core.specs.Lists.{In}
use Rattle.ir_core.proofs.Indexing.{place_cases}
use Rattle.ir_core.proofs.Members.{in_left, in_right}
use Rattle.std.proofs.lemmas.List.{length-map}
use Rattle.std.proofs.lemmas.Option.{slice_get_within, slice_get-get_or}
use Rattle.ir_core.specs.WellFormed.{DifferentNames}
use Rattle.ir_core.proofs.Gets.{in_get}
use Rattle.ir_semantics.specs.Canon.{SameFunction}
use Rattle.call_graph.specs.Calls.{graph_of, number_of}
use Rattle.call_graph.specs.Numbers.{called}
use Rattle.call_graph.specs.Order.{names_of, bottom_up, piece_number}
use Rattle.call_graph.specs.Reach.{apart, called_names, calls_of}
use Rattle.call_graph.proofs.Numbers.{some_at, calls_by_numbers}
use Rattle.call_graph.proofs.PieceNumbers.{apart_by_numbers}
use Rattle.inline_outcomes.proofs.Functions.{function_name}
use Rattle.inline_pass.specs.Finished.{finished}
use Rattle.inline_pass.specs.Inlined.{inlined}
use Rattle.inline_finish.specs.declared.bodies.Built.{Built}
use Rattle.inline_finish.specs.declared.bodies.Policy.{Policy}
use Rattle.inline_finish.specs.Bodies.{HasCallees}
use Rattle.inline_finish.specs.Building.{policy_of, AreCounts, IsBuilt}
use Rattle.publish_table.specs.declared.view.View.{View}
use Rattle.publish_table.specs.Jobs.{FinishedOf, function_of}
use Rattle.worker_driver.specs.declared.plan.Plan.{Plan}
use Rattle.worker_driver.specs.Held.{Held, IsHeld}
use Rattle.worker_driver.specs.Plans.{IsPlanOf}
use Rattle.std.proofs.lemmas.Bool.{cases_eq}
use Rattle.worker_driver.specs.Reading.{ReadSoFar, ReadsStay, CalleesRead, IsNotedRead, IsReadUnder, IsReadIfApart, piece_at}
use Rattle.worker_driver.specs.Turns.{inlined_at}
use Rattle.call_graph.proofs.Bridging.{name_in, in_name}
use Rattle.worker_driver.proofs.Orders.{found, at_ticket, ticket_of, many, same_item}

-- ---- one ticket

module _ (p : Policy) (m : Module) (t k : ℕ) (f : Function) (at : function_of m t ≡ Some f) (is : slice_get m k ≡ Some f) (built : Built) where
  -- what is finished under the ticket is the finished body of its function
  pub body_of_ticket : FinishedOf p m t built → IsHeld p m k built
  unfolding FinishedOf
  body_of_ticket fin =
      let b : IsBuilt (policy_of p) m f built = subst (λ (o : Option Function). IsSomeAnd o (λ g. IsBuilt (policy_of p) m g built)) at fin in (
        subst (λ (o : Option Function). IsSomeAnd o (λ g. SameFunction (finished (policy_of p) m g) built.func.function)) (sym is) b.0,
        subst (λ (o : Option Function). IsSomeAnd o (λ g. AreCounts (policy_of p) (finished (policy_of p) m g) built.counts)) (sym is) b.2,
      )

  pub finished_of_ticket : IfSome (slice_get m k) (λ g. IsBuilt (policy_of p) m g built) → FinishedOf p m t built
  unfolding FinishedOf
  finished_of_ticket h =
      let b : IsBuilt (policy_of p) m f built = subst (λ (o : Option Function). IfSome o (λ g. IsBuilt (policy_of p) m g built)) is h in
      subst (λ (o : Option Function). IsSomeAnd o (λ g. IsBuilt (policy_of p) m g built)) (sym at) b

  pub inlined_of_ticket : IfSome (slice_get m k) (λ g. IsBuilt (policy_of p) m g built) → built.inlined ≡ inlined_at p m t
  inlined_of_ticket h =
      let b : IsBuilt (policy_of p) m f built = subst (λ (o : Option Function). IfSome o (λ g. IsBuilt (policy_of p) m g built)) is h in
      b.1 ∙ sym (ap (λ (o : Option Function). elim o [ None ↦ 0 | Some g ↦ inlined (policy_of p) m g ]) at)

-- ---- a plan

module _ (m : Module) (plan : Plan) (is : IsPlanOf m plan) where
  d : DifferentNames m
  d = is.names

  pub list_long : length plan.order.list ≡ length m
  list_long = ap length is.order.list ∙ many m d

  pub tickets_long : length plan.tickets.items ≡ length m
  tickets_long = is.tickets.long ∙ list_long

  pub pieces_long : length plan.order.piece ≡ length m
  pieces_long = ap length is.order.piece ∙ length-map m (λ f. piece_number m f.name)

  -- the ticket of a function
  pub ticket_is : (k : ℕ) → k < length m → (t : ℕ) × (slice_get plan.tickets.items k ≡ Some t) × (slice_get plan.order.list t ≡ Some k) × (t < length m)
  ticket_is k l = let r = ticket_of m d k l in
      let e : slice_get plan.order.list r.0 ≡ Some k = ap (λ (xs : List ℕ). slice_get xs r.0) is.order.list ∙ r.1 in
      (r.0, is.tickets.place r.0 k e, e, r.2)

  -- the function of a ticket
  pub function_is : (t k : ℕ) → slice_get plan.order.list t ≡ Some k
      → (f : Function) × (slice_get m k ≡ Some f) × (slice_get (bottom_up m) t ≡ Some f.name) × (function_of m t ≡ Some f)
  function_is t k e = at_ticket m d t k (sym (ap (λ (xs : List ℕ). slice_get xs t) is.order.list) ∙ e)

  -- the function that stands at a ticket of the order
  pub stands : (list : List ℕ) → list ≡ plan.order.list → (t : ℕ) → t < length m → slice_get plan.order.list t ≡ Some (get_or list t 0)
  stands list same t l = let n = list_long in
      ap (λ (xs : List ℕ). slice_get xs t) (sym same) ∙ slice_get-get_or list t 0 (let e = ap length same in omega (arith, n, e, l))

  piece_is : (k : ℕ) (f : Function) → slice_get m k ≡ Some f → piece_at plan k ≡ piece_number m f.name
  piece_is k f e = ap (λ (xs : List ℕ). slice_index xs k) is.order.piece ∙ mapped m k e
    where
      mapped : (l : List Function) (k : ℕ) → slice_get l k ≡ Some f → slice_index (map (λ g. piece_number m g.name) l) k ≡ piece_number m f.name
      mapped [] k e = absurd cc
      mapped (g ∷ gs) zero e = let q : g ≡ f = cc in ap (λ (z : Function). piece_number m z.name) q
      mapped (g ∷ gs) (suc k) e = mapped gs k e

  calls_by : Option Function → List FuncName
  calls_by o = elim o [ None ↦ [] | Some f ↦ called_names f f.blocks ]

  calls_are : (k : ℕ) (f : Function) → slice_get m k ≡ Some f → calls_of m f.name ≡ called_names f f.blocks
  unfolding calls_by
  calls_are k f e = ap calls_by (found m d k f e)

  -- a callee in another piece is one of the calls, and its piece has another number
  pub callee_is : (func : ℕ) (f : Function) → slice_get m func ≡ Some f → (y : FuncName) → In y (called_names f f.blocks) → apart m f.name y ≡ true
      → (k : ℕ) (h : Function) → slice_get m k ≡ Some h → h.name ≡ y
      → (i : ℕ) × (slice_get (called plan.graph func) i ≡ Some k) × (piece_at plan k ≢ piece_at plan func)
  callee_is func f e y i a k h at name =
      let inside : In k (called (graph_of m) func) = (calls_by_numbers m d func k f h e at).1
      (subst (λ (z : FuncName). In z (calls_of m f.name)) (sym name) (subst (λ (l : List FuncName). In y l) (sym (calls_are func f e)) i)) in
      let r = in_get (called (graph_of m) func) k inside in
      let other = (apart_by_numbers m f.name y (name_in m func f e) (subst (λ (z : FuncName). In z (names_of m)) name (name_in m k h at))).0 a in (
        r.0,
        ap (λ (g : List (List ℕ)). slice_get (called g func) r.0) is.graph ∙ r.1,
        λ q. other (sym (piece_is func f e) ∙ (sym q ∙ (piece_is k h at ∙ ap (piece_number m) name))),
      )

  module _ (func : ℕ) (f : Function) (e : slice_get m func ≡ Some f) (c : Held) (w : View) (n : ℕ)
      (read : ReadSoFar plan func n c w) (all : length (called plan.graph func) ≡ n) where
    there : (y : FuncName) → In y (called_names f f.blocks) → apart m f.name y ≡ true
        → (k : ℕ) (h : Function) → slice_get m k ≡ Some h → h.name ≡ y → In k c.known × IsNotedRead plan w k
    there y i a k h at name = let r = callee_is func f e y i a k h at name in
        read r.0 k (let l = slice_get_within (called plan.graph func) r.0 k r.1 in subst (λ (z : ℕ). r.0 < z) all l) r.1 r.2

    pub has_callees : HasCallees m f c.known
    has_callees y i a k at = let s = numbered m y k at in (there y i a k s.0 s.1 s.2).0
      where
        numbered : (m : Module) (y : FuncName) (k : ℕ) → number_of m y ≡ Some k → (h : Function) × (slice_get m k ≡ Some h) × (h.name ≡ y)
        numbered m y k at = let q = place_cases y m (Some k) (sym at) in let s = some_at m k q.0 in (s.0, s.1, function_name y m s.0 (q.1 ∙ s.1))

    pub callees_read : (t : ℕ) → function_of m t ≡ Some f → CalleesRead m w t
    callees_read t at g y gat i a n =
        let same : f ≡ g = cc in
        let s = in_name m y n in
        let r = there y (subst (λ (z : Function). In y (called_names z z.blocks)) (sym same) i) (subst (λ (z : Function). apart m z.name y ≡ true) (sym same) a) s.0 s.1 s.2 s.3 in
        let u = ticket_is s.0 (slice_get_within m s.0 s.1 s.2) in
        let v = function_is u.0 s.0 u.2 in
        let h : v.0 ≡ s.1 = same_item m s.0 v.0 s.1 v.1 s.2 in
        (u.0, v.2 ∙ ap (λ (z : FuncName). Some z) (ap (λ (z : Function). z.name) h ∙ s.3), r.1 u.0 u.1)

-- ---- one call after the other

pub read_more : (plan : Plan) (func n j k : ℕ) (c d : Held) (v w : View) → ReadSoFar plan func n c v → slice_get (called plan.graph func) n ≡ Some k → j ≡ n + 1
    → ReadsStay v w → IsReadIfApart plan func c d k w → ReadSoFar plan func j d w
read_more plan func n j k c d v w so e is stay r i h l at apart = elim (cases_eq i n) [
  | inl q ↦ (let same : k ≡ h = same_item (called plan.graph func) n k h e (subst (λ (z : ℕ). slice_get (called plan.graph func) z ≡ Some h) q at) in
      subst (λ (z : ℕ). In z d.known × IsNotedRead plan w z) same (r.1 (subst (λ (z : ℕ). piece_at plan z ≢ piece_at plan func) (sym same) apart)))
  | inr q ↦ (let s = so i h (omega (arith, l, is, q)) at apart in (r.0 h s.0, λ t a. stay t (s.1 t a)))
]

pub apart_read : (plan : Plan) (func k : ℕ) (old new : Held) (w : View) → IsReadUnder plan old new k w → IsReadIfApart plan func old new k w
apart_read plan func k old new w r = (
  λ j i. subst (In j) (sym r.0) (in_left j old.known (k ∷ []) i),
  λ n. (subst (In k) (sym r.0) (in_right k old.known (k ∷ []) (inl refl)), r.1),
)

-- ---- what may be there

module _ {A : Type 0} where
  pub some_weaker : (o : Option A) (P Q : A → Type 0) → ((a : A) → P a → Q a) → IfSome o P → IfSome o Q
  some_weaker None P Q f h = tt
  some_weaker (Some a) P Q f h = f a h

  pub some_both :
      (o : Option A) (P Q R : A → Type 0) → ((a : A) → P a → Q a → R a) → IfSome o P → IfSome o Q → IfSome o R
  some_both None P Q R f h i = tt
  some_both (Some a) P Q R f h i = f a h i

  pub some_always : (o : Option A) (Q : A → Type 0) → ((a : A) → Q a) → IfSome o Q
  some_always None Q f = tt
  some_always (Some a) Q f = f a
