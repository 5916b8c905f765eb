-- Keys in merged lists.
use Rattle.std.proofs.Common.{◌≡◌, ℕ, suc, ◌+◌, ◌<◌, List, [], ◌∷◌, ◌++◌, length, Bool, true, false, cond, Option, Some, None, refl, sym, ap, ap₂, ◌∙◌, arith, append_assoc, append-nil}
use Rattle.std.specs.Prelude.{if◌then◌else◌, is_some, Vec}
use Rattle.std.specs.declared.cmp.Ordering.TheVariants.{Equal}
use Rattle.std.specs.Ordering.{is_eq, nat_cmp}
use Rattle.std.specs.Cmp.Lexicographic.{slice_cmp}
use Rattle.std.specs.Map.{lookup}
use Rattle.std.specs.BTreeMap.{insert_entry, is_at}
use Rattle.std.specs.declared.alloc.Global.{Global}
use Rattle.ir_core.specs.Lookup.{same_bytes}
use Rattle.ir_core.specs.Named.{compare_texts}
use Rattle.ir_semantics.specs.Import.{with_item, with_items, first_place}
use Rattle.ir_core.proofs.Indexing.{text_test, equal_from_test, lookup_insert, place_push}
use Rattle.ir_core.proofs.Equal.{bytes_same, bytes_equal}
use Rattle.body_import.specs.Keys.{key_place}
use Rattle.body_import.specs.Merged.{is_new}

-- ---- the index

pub key_more : (start : ℕ) (keys : List (List ℕ)) (key : Vec ℕ Global) (n : ℕ) (es : List (Vec ℕ Global × ℕ)) → key_place start keys key.items ≡ None → n ≡ start + length keys → (k : List ℕ) → lookup (is_at (compare_texts k)) es ≡ key_place start keys k → lookup (is_at (compare_texts k)) (insert_entry (λ a b. slice_cmp nat_cmp a.items b.items) es key n) ≡ key_place start (keys ++ (key.items ∷ [])) k
key_more start keys key n es new number k old =
    lookup_insert (λ a b. slice_cmp nat_cmp a.items b.items) (is_at (compare_texts k)) key n same only es
    ∙ (ap₂ (λ b o. cond b (Some n) o) (text_test k key.items) old
    ∙ (go (same_bytes key.items k) (key_place start keys k) absent ∙ sym (place_push (λ x. same_bytes x k) start n keys key.items number)))
  where
    same : (e : Vec ℕ Global) → slice_cmp nat_cmp key.items e.items ≡ Equal → is_eq (slice_cmp nat_cmp k e.items) ≡ is_eq (slice_cmp nat_cmp k key.items)
    same e h = let q : e.items ≡ key.items = bytes_equal e.items key.items (sym (text_test key.items e.items) ∙ ap is_eq h) in ap (λ z. is_eq (slice_cmp nat_cmp k z)) q

    only : (e : Vec ℕ Global) → is_eq (slice_cmp nat_cmp k e.items) ≡ true → is_eq (slice_cmp nat_cmp k key.items) ≡ true → slice_cmp nat_cmp key.items e.items ≡ Equal
    only e h g =
        let a : e.items ≡ k = bytes_equal e.items k (sym (text_test k e.items) ∙ h) in
        let b : key.items ≡ k = bytes_equal key.items k (sym (text_test k key.items) ∙ g) in
        equal_from_test (slice_cmp nat_cmp key.items e.items) (text_test key.items e.items ∙ (ap₂ (λ x y. same_bytes x y) a b ∙ bytes_same k))

    absent : same_bytes key.items k ≡ true → key_place start keys k ≡ None
    absent h = ap (key_place start keys) (sym (bytes_equal key.items k h)) ∙ new

    go : (b : Bool) (o : Option ℕ) → (b ≡ true → o ≡ None) → cond b (Some n) o ≡ cond (is_some o) o (cond b (Some n) None)
    go true None h = refl
    go true (Some i) h = let q : Some i ≡ None = h refl in cc
    go false None h = refl
    go false (Some i) h = refl

-- ---- places in lists

pub found_place : (start : ℕ) (keys : List (List ℕ)) (k : List ℕ) (i : ℕ) → key_place start keys k ≡ Some i → (start + first_place same_bytes keys k ≡ i) × (i < start + length keys)
found_place start [] k i e = cc
found_place start (x ∷ keys) k i e = go (same_bytes x k) e (λ h. found_place (start + 1) keys k i h)
  where
    go : (b : Bool) → cond b (Some start) (key_place (start + 1) keys k) ≡ Some i → (key_place (start + 1) keys k ≡ Some i → (start + 1 + first_place same_bytes keys k ≡ i) × (i < start + 1 + length keys)) → (start + (if b then 0 else suc (first_place same_bytes keys k)) ≡ i) × (i < start + length (x ∷ keys))
    go true e ih = let q : start ≡ i = cc in (omega (arith, q), omega (arith, q))
    go false e ih = let r = ih e in let a = r.0 in let b = r.1 in (omega (arith, a), omega (arith, b))

pub no_place : (start : ℕ) (keys : List (List ℕ)) (k : List ℕ) → key_place start keys k ≡ None → is_new same_bytes keys k ≡ true
no_place start [] k e = refl
no_place start (x ∷ keys) k e = go (same_bytes x k) e (λ h. no_place (start + 1) keys k h)
  where
    go : (b : Bool) → cond b (Some start) (key_place (start + 1) keys k) ≡ None → (key_place (start + 1) keys k ≡ None → is_new same_bytes keys k ≡ true) → (if b then false else is_new same_bytes keys k) ≡ true
    go true e ih = cc
    go false e ih = ih e

pub a_place : (start : ℕ) (keys : List (List ℕ)) (k : List ℕ) (i : ℕ) → key_place start keys k ≡ Some i → is_new same_bytes keys k ≡ false
a_place start [] k i e = cc
a_place start (x ∷ keys) k i e = go (same_bytes x k) e (λ h. a_place (start + 1) keys k i h)
  where
    go : (b : Bool) → cond b (Some start) (key_place (start + 1) keys k) ≡ Some i → (key_place (start + 1) keys k ≡ Some i → is_new same_bytes keys k ≡ false) → (if b then false else is_new same_bytes keys k) ≡ false
    go true e ih = refl
    go false e ih = ih e

module _ {A : Type 0} (same : A → A → Bool) (x : A) where
  pub old_stays : (ys : List A) → is_new same ys x ≡ false → with_item same ys x ≡ ys
  old_stays [] e = cc
  old_stays (y ∷ ys) e = go (same y x) e (λ h. old_stays ys h)
    where
      go : (b : Bool) → (if b then false else is_new same ys x) ≡ false → (is_new same ys x ≡ false → with_item same ys x ≡ ys) → (if b then y ∷ ys else y ∷ with_item same ys x) ≡ y ∷ ys
      go true e ih = refl
      go false e ih = ap (λ z. y ∷ z) (ih e)

  pub new_goes : (ys : List A) → is_new same ys x ≡ true → with_item same ys x ≡ ys ++ (x ∷ [])
  new_goes [] e = refl
  new_goes (y ∷ ys) e = go (same y x) e (λ h. new_goes ys h)
    where
      go : (b : Bool) → (if b then false else is_new same ys x) ≡ true → (is_new same ys x ≡ true → with_item same ys x ≡ ys ++ (x ∷ [])) → (if b then y ∷ ys else y ∷ with_item same ys x) ≡ y ∷ (ys ++ (x ∷ []))
      go true e ih = cc
      go false e ih = ap (λ z. y ∷ z) (ih e)

  pub old_left : (ys zs : List A) → is_new same ys x ≡ false → (is_new same (ys ++ zs) x ≡ false) × (first_place same (ys ++ zs) x ≡ first_place same ys x)
  old_left [] zs e = cc
  old_left (y ∷ ys) zs e = go (same y x) e (λ h. old_left ys zs h)
    where
      go : (b : Bool) → (if b then false else is_new same ys x) ≡ false → (is_new same ys x ≡ false → (is_new same (ys ++ zs) x ≡ false) × (first_place same (ys ++ zs) x ≡ first_place same ys x)) → ((if b then false else is_new same (ys ++ zs) x) ≡ false) × ((if b then 0 else suc (first_place same (ys ++ zs) x)) ≡ (if b then 0 else suc (first_place same ys x)))
      go true e ih = (refl, refl)
      go false e ih = let r = ih e in (r.0, ap suc r.1)

  pub new_left : (ys zs : List A) → is_new same ys x ≡ true → (is_new same (ys ++ zs) x ≡ is_new same zs x) × (first_place same (ys ++ zs) x ≡ length ys + first_place same zs x)
  new_left [] zs e = (refl, omega arith)
  new_left (y ∷ ys) zs e = go (same y x) e (λ h. new_left ys zs h)
    where
      go : (b : Bool) → (if b then false else is_new same ys x) ≡ true → (is_new same ys x ≡ true → (is_new same (ys ++ zs) x ≡ is_new same zs x) × (first_place same (ys ++ zs) x ≡ length ys + first_place same zs x)) → ((if b then false else is_new same (ys ++ zs) x) ≡ is_new same zs x) × ((if b then 0 else suc (first_place same (ys ++ zs) x)) ≡ length (y ∷ ys) + first_place same zs x)
      go true e ih = cc
      go false e ih = let r = ih e in let a = r.1 in (r.0, omega (arith, a))

  pub place_not_new : (ys : List A) → first_place same ys x < length ys → is_new same ys x ≡ false
  place_not_new [] h = absurd (omega (arith, h))
  place_not_new (y ∷ ys) h = go (same y x) h (λ g. place_not_new ys g)
    where
      go : (b : Bool) → (if b then 0 else suc (first_place same ys x)) < length (y ∷ ys) → (first_place same ys x < length ys → is_new same ys x ≡ false) → (if b then false else is_new same ys x) ≡ false
      go true h ih = refl
      go false h ih = ih (omega (arith, h))

-- the merged list begins with the first one
pub record Longer {A : Type 0} (ys zs : List A) : Type 0 where
  pub more : List A
  pub is : zs ≡ ys ++ more

one_longer : {A : Type 0} (same : A → A → Bool) (ys : List A) (x : A) → Longer ys (with_item same ys x)
one_longer same ys x = go (is_new same ys x) refl
  where
    go : (b : Bool) → is_new same ys x ≡ b → Longer ys (with_item same ys x)
    go true e = record { more = x ∷ []; is = new_goes same x ys e }
    go false e = record { more = []; is = old_stays same x ys e ∙ sym (append-nil ys) }

pub longer : {A : Type 0} (same : A → A → Bool) (ys xs : List A) → Longer ys (with_items same ys xs)
longer same ys [] = record { more = []; is = sym (append-nil ys) }
longer same ys (x ∷ xs) =
    let a = one_longer same ys x in
    let b = longer same (with_item same ys x) xs in
    record { more = a.more ++ b.more; is = b.is ∙ (ap (λ z. z ++ b.more) a.is ∙ append_assoc ys a.more b.more) }

-- a key that is there already, put behind
pub key_again : (start : ℕ) (keys : List (List ℕ)) (key : List ℕ) (i : ℕ) → key_place start keys key ≡ Some i → (k : List ℕ) → key_place start (keys ++ (key ∷ [])) k ≡ key_place start keys k
key_again start keys key i e k = place_push (λ x. same_bytes x k) start (start + length keys) keys key refl ∙ go (same_bytes key k) (key_place start keys k) present
  where
    present : same_bytes key k ≡ true → key_place start keys k ≡ Some i
    present h = ap (key_place start keys) (sym (bytes_equal key k h)) ∙ e

    go : (b : Bool) (o : Option ℕ) → (b ≡ true → o ≡ Some i) → cond (is_some o) o (cond b (Some (start + length keys)) None) ≡ o
    go true None h = let q : None ≡ Some i = h refl in cc
    go true (Some j) h = refl
    go false None h = refl
    go false (Some j) h = refl
