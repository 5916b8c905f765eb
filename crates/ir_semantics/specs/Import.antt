-- What a function takes over from another one before it has its body. The other's slots stand behind its own. Each
-- signature of the other, in order, becomes its first equal signature, or is appended. Each callee of the other, in
-- order, becomes its first callee with equal name, `colocated` and signature, or is appended. Signatures of callees are
-- equal where their contents are.
use Rattle.std.specs.Prelude.{ℕ, suc, ◌+◌, List, [], ◌∷◌, length, Option, Some, None, Bool, true, false, ◌&&◌}
use Rattle.std.specs.Prelude.{if◌then◌else◌, slice_get}
use Rattle.ir_core.specs.declared.signatures.Sig.{Sig}
use Rattle.ir_core.specs.declared.declarations.Callee.{Callee}
use Rattle.ir_core.specs.Module.{Function}
use Rattle.ir_core.specs.Lookup.{same_name}
use Rattle.ir_core.specs.Signatures.{same_sig}

abbrev pub same_bool : Bool → Bool → Bool
same_bool true b = b
same_bool false true = false
same_bool false false = true

-- one more item at the end, where the list has no equal one
abbrev pub with_item : {A : Type 0} → (A → A → Bool) → List A → A → List A
with_item same [] x = x ∷ []
with_item same (y ∷ ys) x = if same y x then y ∷ ys else y ∷ with_item same ys x

abbrev pub with_items : {A : Type 0} → (A → A → Bool) → List A → List A → List A
with_items same ys [] = ys
with_items same ys (x ∷ xs) = with_items same (with_item same ys x) xs

-- the place of the first equal item
abbrev pub first_place : {A : Type 0} → (A → A → Bool) → List A → A → ℕ
first_place same [] x = 0
first_place same (y ∷ ys) x = if same y x then 0 else suc (first_place same ys x)

-- the number of the i-th of some items in the merged list
abbrev pub new_place : {A : Type 0} → (A → A → Bool) → List A → Option A → ℕ
new_place same ys None = length ys
new_place same ys (Some x) = first_place same ys x

abbrev pub same_sigs : Option Sig → Option Sig → Bool
same_sigs (Some a) (Some b) = same_sig a b
same_sigs (Some a) None = false
same_sigs None (Some b) = false
same_sigs None None = true

-- of callees whose signatures stand in the one list
abbrev pub same_callee : List Sig → Callee → Callee → Bool
same_callee sigs a b =
    same_name a.name b.name && same_bool a.colocated b.colocated
    && same_sigs (slice_get sigs a.sig) (slice_get sigs b.sig)

module _ (f g : Function) where
  abbrev pub sigs_after : List Sig
  sigs_after = with_items same_sig f.sigs g.sigs

  abbrev pub sig_after : ℕ → ℕ
  sig_after i = new_place same_sig sigs_after (slice_get g.sigs i)

  abbrev pub callee_with : Callee → Callee
  callee_with c = record { name = c.name; colocated = c.colocated; sig = sig_after c.sig }

  abbrev pub callees_with : List Callee → List Callee
  callees_with [] = []
  callees_with (c ∷ cs) = callee_with c ∷ callees_with cs

  abbrev pub callees_after : List Callee
  callees_after = with_items (same_callee sigs_after) f.callees (callees_with g.callees)

  abbrev pub callee_after : ℕ → ℕ
  callee_after k = new_place (same_callee sigs_after) callees_after (slice_get (callees_with g.callees) k)

  abbrev pub slot_after : ℕ → ℕ
  slot_after k = length f.slots + k
