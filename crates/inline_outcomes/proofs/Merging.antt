-- Items merged into a list: what was there stays in its place, and each new item is found at the place of the first one that
-- is the same.
use Rattle.std.proofs.Common.{◌≡◌, ℕ, zero, suc, List, [], ◌∷◌, Option, Some, None, Bool, true, false, ◌&&◌, refl, sym, ap, ◌∙◌, subst}
use Rattle.std.specs.Prelude.{slice_get, if◌then◌else◌}
use Rattle.std.proofs.lemmas.Bool.{and_parts, and_from}
use Rattle.ir_core.specs.declared.declarations.Callee.{Callee}
use Rattle.ir_core.specs.declared.signatures.Sig.{Sig}
use Rattle.ir_core.specs.Module.{Function}
use Rattle.ir_core.specs.Signatures.{same_sig}
use Rattle.ir_core.specs.Lookup.{same_name}
use Rattle.ir_semantics.specs.Import.{same_bool, with_item, with_items, first_place, new_place, same_sigs, same_callee, sigs_after, sig_after, callee_with, callees_with, callees_after, callee_after}
use Rattle.ir_core.proofs.Equal.{name_equal, name_same, sig_equal, sig_same}
use Rattle.ir_core.proofs.Gets.{some_same}
use Rattle.ir_semantics.proofs.Importing.{same_sigs_self}

-- an item of the list that is the same as x
pub record Has {A : Type 0} (same : A → A → Bool) (ys : List A) (x : A) : Type 0 where
  pub place : ℕ
  pub item : A
  pub there : slice_get ys place ≡ Some item
  pub alike : same item x ≡ true

has_later : {A : Type 0} (same : A → A → Bool) (y : A) (ys : List A) (x : A) → Has same ys x → Has same (y ∷ ys) x
has_later same y ys x h = record { place = suc h.place; item = h.item; there = h.there; alike = h.alike }

item_later : {A : Type 0} (same : A → A → Bool) (y : A) (ys : List A) (x a : A) → ((j : ℕ) → slice_get ys j ≡ Some a → slice_get (with_item same ys x) j ≡ Some a) → (k : ℕ) → slice_get (y ∷ ys) k ≡ Some a → slice_get (y ∷ with_item same ys x) k ≡ Some a
item_later same y ys x a ih zero h = h
item_later same y ys x a ih (suc k) h = ih k h

item_stays : {A : Type 0} (same : A → A → Bool) (ys : List A) (x : A) (k : ℕ) (a : A) → slice_get ys k ≡ Some a → slice_get (with_item same ys x) k ≡ Some a
item_stays same [] x k a h = cc
item_stays {A} same (y ∷ ys) x k a h = go (item_later same y ys x a (λ j e. item_stays same ys x j a e) k h) (same y x)
  where
    go : slice_get (y ∷ with_item same ys x) k ≡ Some a → (b : Bool) → slice_get (if b then y ∷ ys else y ∷ with_item same ys x) k ≡ Some a
    go ih true = h
    go ih false = ih

pub items_stay : {A : Type 0} (same : A → A → Bool) (ys xs : List A) (k : ℕ) (a : A) → slice_get ys k ≡ Some a → slice_get (with_items same ys xs) k ≡ Some a
items_stay same ys [] k a h = h
items_stay same ys (x ∷ xs) k a h = items_stay same (with_item same ys x) xs k a (item_stays same ys x k a h)

item_there : {A : Type 0} (same : A → A → Bool) → ((a : A) → same a a ≡ true) → (ys : List A) (x : A) → Has same (with_item same ys x) x
item_there same self [] x = record { place = 0; item = x; there = refl; alike = self x }
item_there {A} same self (y ∷ ys) x = go (item_there same self ys x) (same y x) refl
  where
    go : Has same (with_item same ys x) x → (b : Bool) → same y x ≡ b → Has same (if b then y ∷ ys else y ∷ with_item same ys x) x
    go ih true h = record { place = 0; item = y; there = refl; alike = h }
    go ih false h = has_later same y (with_item same ys x) x ih

pub items_there : {A : Type 0} (same : A → A → Bool) → ((a : A) → same a a ≡ true) → (ys xs : List A) (i : ℕ) (x : A) → slice_get xs i ≡ Some x → Has same (with_items same ys xs) x
items_there same self ys [] i x h = cc
items_there same self ys (z ∷ xs) zero x h =
    let p = item_there same self ys z in
    record {
      place = p.place;
      item = p.item;
      there = items_stay same (with_item same ys z) xs p.place p.item p.there;
      alike = subst (λ y. same p.item y ≡ true) (some_same h) p.alike;
    }
items_there same self ys (z ∷ xs) (suc i) x h = items_there same self (with_item same ys z) xs i x h

pub first_there : {A : Type 0} (same : A → A → Bool) (zs : List A) (x : A) → Has same zs x → (z : A) × (slice_get zs (first_place same zs x) ≡ Some z) × (same z x ≡ true)
first_there same [] x h = absurd (let e : slice_get [] h.place ≡ Some h.item = h.there in cc)
first_there {A} same (z ∷ zs) x h = go (λ k. first_there same zs x k) (same z x) refl
  where
    beyond : (k : ℕ) (a : A) → slice_get (z ∷ zs) k ≡ Some a → same a x ≡ true → same z x ≡ false → Has same zs x
    beyond zero a e t f = absurd (let q : z ≡ a = some_same e in let r : false ≡ true = sym f ∙ ap (λ y. same y x) q ∙ t in cc)
    beyond (suc k) a e t f = record { place = k; item = a; there = e; alike = t }

    go : (Has same zs x → (y : A) × (slice_get zs (first_place same zs x) ≡ Some y) × (same y x ≡ true)) → (b : Bool) → same z x ≡ b → (y : A) × (slice_get (z ∷ zs) (if b then 0 else suc (first_place same zs x)) ≡ Some y) × (same y x ≡ true)
    go ih true e = (z, refl, e)
    go ih false e = ih (beyond h.place h.item h.there h.alike e)

-- signatures and callees of f and g

same_bool_self : (b : Bool) → same_bool b b ≡ true
same_bool_self true = refl
same_bool_self false = refl

same_sigs_equal : (o : Option Sig) (s : Sig) → same_sigs o (Some s) ≡ true → o ≡ Some s
same_sigs_equal None s h = cc
same_sigs_equal (Some r) s h = ap Some (sig_equal r s h)

same_callee_self : (sigs : List Sig) (c : Callee) → same_callee sigs c c ≡ true
same_callee_self sigs c =
    and_from (same_name c.name c.name && same_bool c.colocated c.colocated) (same_sigs (slice_get sigs c.sig) (slice_get sigs c.sig)) (and_from (same_name c.name c.name) (same_bool c.colocated c.colocated) (name_same c.name) (same_bool_self c.colocated)) (same_sigs_self (slice_get sigs c.sig))

module _ (f g : Function) where
  pub own_sig : (k : ℕ) (s : Sig) → slice_get f.sigs k ≡ Some s → slice_get (sigs_after f g) k ≡ Some s
  own_sig k s h = items_stay same_sig f.sigs g.sigs k s h

  pub other_sig : (k : ℕ) (s : Sig) → slice_get g.sigs k ≡ Some s → slice_get (sigs_after f g) (sig_after f g k) ≡ Some s
  other_sig k s h =
      let p = first_there same_sig (sigs_after f g) s (items_there same_sig sig_same f.sigs g.sigs k s h) in
      ap (λ o. slice_get (sigs_after f g) (new_place same_sig (sigs_after f g) o)) h ∙ p.1 ∙ ap Some (sig_equal p.0 s p.2)

  with_get : (cs : List Callee) (k : ℕ) (c : Callee) → slice_get cs k ≡ Some c → slice_get (callees_with f g cs) k ≡ Some (callee_with f g c)
  with_get [] k c h = cc
  with_get (d ∷ cs) zero c h = ap (λ z. Some (callee_with f g z)) (some_same h)
  with_get (d ∷ cs) (suc k) c h = with_get cs k c h

  pub own_callee : (k : ℕ) (c : Callee) → slice_get f.callees k ≡ Some c → slice_get (callees_after f g) k ≡ Some c
  own_callee k c h = items_stay (same_callee (sigs_after f g)) f.callees (callees_with f g g.callees) k c h

  pub other_callee : (k : ℕ) (c : Callee) → slice_get g.callees k ≡ Some c → (c' : Callee) × (slice_get (callees_after f g) (callee_after f g k) ≡ Some c') × (c'.name ≡ c.name) × ((s : Sig) → slice_get g.sigs c.sig ≡ Some s → slice_get (sigs_after f g) c'.sig ≡ Some s)
  other_callee k c h =
      let d = callee_with f g c in
      let there : slice_get (callees_with f g g.callees) k ≡ Some d = with_get g.callees k c h in
      let p = first_there (same_callee (sigs_after f g)) (callees_after f g) d (items_there (same_callee (sigs_after f g)) (same_callee_self (sigs_after f g)) f.callees (callees_with f g g.callees) k d there) in
      let q = and_parts (same_name p.0.name d.name && same_bool p.0.colocated d.colocated) (same_sigs (slice_get (sigs_after f g) p.0.sig) (slice_get (sigs_after f g) d.sig)) p.2 in
      let r = and_parts (same_name p.0.name d.name) (same_bool p.0.colocated d.colocated) q.0 in (
        p.0,
        ap (λ o. slice_get (callees_after f g) (new_place (same_callee (sigs_after f g)) (callees_after f g) o)) there ∙ p.1,
        name_equal p.0.name d.name r.0,
        λ s e. same_sigs_equal (slice_get (sigs_after f g) p.0.sig) s (subst (λ o. same_sigs (slice_get (sigs_after f g) p.0.sig) o ≡ true) (other_sig c.sig s e) q.1),
      )
