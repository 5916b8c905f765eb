-- The types of values under canonical numbers are those of the values.
use Rattle.std.proofs.Common.{◌≡◌, ◌⊎◌, ℕ, nat_eq, Bool, true, false, cond, List, [], ◌∷◌, ◌++◌, Option, Some, None, refl, sym, ap, ◌∙◌, inl, inr}
use Rattle.std.proofs.lemmas.Bool.{eqb-true}
use Rattle.ir_core.specs.declared.signatures.Ty.{Ty}
use Rattle.ir_semantics.specs.Canon.{types_in_order}
use Rattle.ir_core.specs.Lists.{In}
use Rattle.ir_core.specs.Lookup.{type_in}
use Rattle.ir_semantics.specs.Splice.{with_type}
use Rattle.text_read_back.proofs.Lists.{same_number}

module _ (new : ℕ → ℕ) (types : List (ℕ × Ty)) (v : ℕ) where
  abbrev Listed : List ℕ → Type 0
  Listed vs = In v vs ⊎ (type_in types v ≡ None)

  past_typed : (w : ℕ) (ws : List ℕ) → nat_eq (new w) (new v) ≡ false → Listed (w ∷ ws) → Listed ws
  past_typed w ws e (inl (inl s)) = absurd (let t : nat_eq (new w) (new v) ≡ true = rw s (same_number (new w)) in cc)
  past_typed w ws e (inl (inr k)) = inl k
  past_typed w ws e (inr n) = inr n

  past_plain : (w : ℕ) (ws : List ℕ) → type_in types w ≡ None → Listed (w ∷ ws) → Listed ws
  past_plain w ws e (inl (inl s)) = inr (rw s e)
  past_plain w ws e (inl (inr k)) = inl k
  past_plain w ws e (inr n) = inr n

  pub types_kept : (vs : List ℕ) → ((w : ℕ) → In w vs → new w ≡ new v → w ≡ v) → Listed vs → type_in (types_in_order new types vs) (new v) ≡ type_in types v
  types_kept [] one (inl h) = absurd h
  types_kept [] one (inr n) = sym n
  types_kept (w ∷ ws) one h = go (type_in types w) refl (types_kept ws (λ x k. one x (inr k)))
    where
      typed : (t : Ty) → type_in types w ≡ Some t → (b : Bool) → nat_eq (new w) (new v) ≡ b → (Listed ws → type_in (types_in_order new types ws) (new v) ≡ type_in types v)
          → cond b (Some t) (type_in (types_in_order new types ws) (new v)) ≡ type_in types v
      typed t e true s more = sym e ∙ ap (type_in types) (one w (inl refl) (eqb-true (new w) (new v) s))
      typed t e false s more = more (past_typed w ws s h)

      go : (o : Option Ty) → type_in types w ≡ o → (Listed ws → type_in (types_in_order new types ws) (new v) ≡ type_in types v)
          → type_in (with_type (new w) o ++ types_in_order new types ws) (new v) ≡ type_in types v
      go None e more = more (past_plain w ws e h)
      go (Some t) e more = typed t e (nat_eq (new w) (new v)) refl more
