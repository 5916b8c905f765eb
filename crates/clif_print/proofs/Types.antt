-- The types of values, which are numbered from 0.
use Rattle.std.proofs.Common.{◌≡◌, ℕ, ◌+◌, ◌≤◌, List, [], ◌∷◌, length, Bool, true, false, cond, nat_eq, None, Some, refl, arith}
use Rattle.std.specs.List.{enumerate_from}
use Rattle.std.proofs.lemmas.Bool.{eqb-true}
use Rattle.ir_core.specs.declared.signatures.Ty.{Ty}
use Rattle.ir_core.specs.Lookup.{type_in}

pub past_types : (k v : ℕ) (ts : List Ty) → k + length ts ≤ v → type_in (enumerate_from k ts) v ≡ None
past_types k v [] h = refl
past_types k v (t ∷ ts) h = go (nat_eq k v) refl (past_types (k + 1) v ts (omega arith))
  where
    go : (b : Bool) → nat_eq k v ≡ b → type_in (enumerate_from (k + 1) ts) v ≡ None → cond b (Some t) (type_in (enumerate_from (k + 1) ts) v) ≡ None
    go true e ih = absurd (omega (arith, eqb-true k v e))
    go false e ih = ih
