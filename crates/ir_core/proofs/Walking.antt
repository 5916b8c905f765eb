-- Steps through the blocks of a function, and what is found by a block's number or a value's.
use Rattle.std.proofs.Common.{◌≡◌, ℕ, zero, suc, ◌+◌, ◌<◌, ◌≤◌, List, [], ◌∷◌, ◌++◌, length, Option, Some, None, refl, sym, ap, ap₂, ◌∙◌, subst, arith, eq-eqb, ne_eqb}
use Rattle.std.specs.Prelude.{slice_get, if◌then◌else◌, is_some, true, false}
use Rattle.std.specs.List.{enumerate_from}
use Rattle.std.proofs.lemmas.Option.{slice_get_past}
use Rattle.ir_core.specs.declared.signatures.Ty.{Ty}
use Rattle.ir_core.specs.declared.func.BlockData.{BlockData}
use Rattle.ir_core.specs.Module.{Block}
use Rattle.ir_core.specs.Lookup.{type_in, block_numbers}
use Rattle.ir_core.specs.Lists.{In, Different}
use Rattle.ir_core.specs.Edits.{insert_after}
use Rattle.ir_core.specs.Layout.{walk, Linked, nexts, last_of}
use Rattle.ir_core.proofs.Laying.{nexts_get, length_nexts}
use Rattle.ir_core.proofs.Order.{last_in}

pub walk_step : (ks : List BlockData) (n left : ℕ) (o : Option ℕ) (b : ℕ) (k : BlockData) → left ≡ suc n → o ≡ Some b → slice_get ks b ≡ Some k → walk (nexts ks) left o ≡ b ∷ walk (nexts ks) n k.next
walk_step ks n left o b k e h g = ap₂ (λ l p. walk (nexts ks) l p) e h ∙ ap (λ q. elim q as (λ z. List ℕ) [ None ↦ [] | Some p ↦ b ∷ walk (nexts ks) n p ]) (nexts_get ks b k g)

pub walk_past : (ks : List BlockData) (left : ℕ) (o : Option ℕ) (b : ℕ) → o ≡ Some b → length ks ≤ b → walk (nexts ks) left o ≡ []
walk_past ks zero o b h l = refl
walk_past ks (suc n) o b h l = ap (walk (nexts ks) (suc n)) h ∙ ap (λ q. elim q as (λ z. List ℕ) [ None ↦ [] | Some p ↦ b ∷ walk (nexts ks) n p ]) (slice_get_past (nexts ks) b (omega (arith, l, length_nexts ks)))

pub has_first : (ks : List BlockData) (o : Option ℕ) (bs : List ℕ) → Linked (nexts ks) o bs → is_some o ≡ true → 0 < length bs
has_first ks o [] l h = let e : false ≡ true = sym (ap is_some l) ∙ h in cc
has_first ks o (b ∷ bs) l h = omega arith

pub type_found : (n p v : ℕ) (ts : List Ty) → p ≡ n + v → type_in (enumerate_from n ts) p ≡ slice_get ts v
type_found n p v [] e = refl
type_found n p zero (t ∷ ts) e = ap (λ c. if c then Some t else type_in (enumerate_from (n + 1) ts) p) (eq-eqb n p (omega (arith, e)))
type_found n p (suc v) (t ∷ ts) e = ap (λ c. if c then Some t else type_in (enumerate_from (n + 1) ts) p) (ne_eqb n p (λ q. omega (arith, q, e))) ∙ type_found (n + 1) p v ts (omega (arith, e))

-- a block put behind the last one
pub insert_last : (a : ℕ) (new : Block) (bs : List Block) → last_of (block_numbers bs) ≡ Some a → Different (block_numbers bs) → insert_after a new bs ≡ bs ++ (new ∷ [])
insert_last a new [] h d = cc
insert_last a new (b ∷ []) h d = let e : b.number ≡ a = some_same b.number a h in ap (λ c. if c then b ∷ (new ∷ []) else b ∷ []) (eq-eqb b.number a e)
  where
    some_same : (x y : ℕ) → Some x ≡ Some y → x ≡ y
    some_same x y e = cc
insert_last a new (b ∷ (c ∷ bs)) h d =
    let other : b.number ≡ a → ⊥ = λ e. d.0 (subst (λ z. In z (block_numbers (c ∷ bs))) (sym e) (last_in (block_numbers (c ∷ bs)) a h)) in
    ap (λ z. if z then b ∷ (new ∷ (c ∷ bs)) else b ∷ insert_after a new (c ∷ bs)) (ne_eqb b.number a other) ∙ ap (λ z. b ∷ z) (insert_last a new (c ∷ bs) h d.1)

pub none_last : (bs : List ℕ) → last_of bs ≡ None → bs ≡ []
none_last [] h = refl
none_last (b ∷ []) h = cc
none_last (b ∷ (c ∷ bs)) h = let e : c ∷ bs ≡ [] = none_last (c ∷ bs) h in cc
