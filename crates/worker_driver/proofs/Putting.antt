-- One more body among those that are held.
use Rattle.std.proofs.Common.{◌≡◌, ◌≢◌, ◌⊎◌, inl, inr, ℕ, List, [], ◌∷◌, ◌++◌, Option, Some, false, refl, sym, ◌∙◌, subst, arith}
use Rattle.std.specs.Prelude.{IsSome}
use Rattle.std.specs.Arc.{arc_value}
use Rattle.std.specs.Ordering.{nat_cmp, is_eq}
use Rattle.std.specs.BTreeMap.{BTreeMap, Updates, get}
use Rattle.std.specs.declared.sync.Arc.{Arc}
use Rattle.std.specs.declared.alloc.Global.{Global}
use Rattle.std.proofs.lemmas.Bool.{cases_eq}
use Rattle.std.proofs.lemmas.Bool.Decides.{nat_tests}
use Rattle.ir_core.proofs.Members.{in_cases}
use Rattle.ir_core.specs.Lists.{In}
use Rattle.ir_core.specs.Module.{Module}
use Rattle.inline_finish.specs.declared.bodies.Built.{Built}
use Rattle.inline_finish.specs.declared.bodies.Policy.{Policy}
use Rattle.worker_driver.specs.Held.{IsHeld, AreBodies, Has}

other_key : (x y : ℕ) → x ≢ y → is_eq (nat_cmp x y) ≡ false
other_key x y n = grind (arith, nat_tests)

module _ (p : Policy) (m : Module) (old new : BTreeMap ℕ (Arc Built Global)) (func : ℕ) (a : Arc Built Global)
    (puts : Updates nat_cmp old new func (Some a)) where
  here : get nat_cmp new func ≡ Some a
  here = puts.1

  elsewhere : (k : ℕ) → func ≢ k → get nat_cmp new k ≡ get nat_cmp old k
  elsewhere k n = puts.2 k (other_key func k n)

  pub bodies_put : AreBodies p m old → IsHeld p m func (arc_value a) → AreBodies p m new
  bodies_put all is k b e = elim (cases_eq func k) [
    | inl q ↦ (let at : get nat_cmp new k ≡ Some a = subst (λ (z : ℕ). get nat_cmp new z ≡ Some a) q here in
        let same : a ≡ b = cc in
        subst (λ (z : Arc Built Global). IsHeld p m k (arc_value z)) same
        (subst (λ (z : ℕ). IsHeld p m z (arc_value a)) q is))
    | inr q ↦ all k b (sym (elsewhere k q) ∙ e)
  ]

  pub has_put : (known after : List ℕ) → after ≡ known ++ func ∷ [] → Has old known → Has new after
  has_put known after is has k i = elim (cases_eq func k) [
    | inl q ↦ subst (λ (o : Option (Arc Built Global)). IsSome o) (sym (subst (λ (z : ℕ). get nat_cmp new z ≡ Some a) q here)) refl
    | inr q ↦ subst (λ (o : Option (Arc Built Global)). IsSome o) (sym (elsewhere k q)) (has k (kept (in_cases k known (func ∷ []) (subst (In k) is i)) q))
  ]
    where
      kept : {k : ℕ} → In k known ⊎ In k (func ∷ []) → func ≢ k → In k known
      kept (inl i) n = i
      kept (inr (inl e)) n = absurd (n (sym e))
      kept (inr (inr i)) n = elim i [ ]
