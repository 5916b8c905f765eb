-- Items compared with one another: the walk that finds the first equal one, and the walk that puts items behind others.
use Rattle.std.proofs.Common.{◌≡◌, ℕ, suc, ◌+◌, ◌<◌, ◌≤◌, List, [], ◌∷◌, ◌++◌, map, length, Bool, true, false, refl, sym, ap, ◌∙◌, arith, eq-eqb, append_assoc, append-nil, length-append}
use Rattle.std.proofs.lemmas.Bool.{eqb-true}
use Rattle.std.specs.Prelude.{if◌then◌else◌, nat_eq}
use Rattle.ir_core.specs.Lookup.{same_bytes}
use Rattle.ir_core.proofs.Equal.{bytes_same}
use Rattle.ir_semantics.specs.Import.{with_item, with_items, first_place}
use Rattle.body_import.specs.Merged.{is_new, keep}
use Rattle.body_import.specs.Compared.{IsPlaced}
use Rattle.body_import.proofs.Lists.{old_stays, new_goes, old_left, new_left, place_not_new, longer}

module _ {A : Type 0} (same : A → A → Bool) where
  place_within : (xs : List A) (x : A) → first_place same xs x ≤ length xs
  place_within [] x = omega arith
  place_within (y ∷ xs) x = go (same y x) (place_within xs x)
    where
      go : (b : Bool) → first_place same xs x ≤ length xs → (if b then 0 else suc (first_place same xs x)) ≤ length (y ∷ xs)
      go true h = omega arith
      go false h = omega (arith, h)

  at_end : (xs : List A) (x : A) → length xs ≤ first_place same xs x → is_new same xs x ≡ true
  at_end [] x h = refl
  at_end (y ∷ xs) x h = go (same y x) h (λ g. at_end xs x g)
    where
      go : (b : Bool) → length (y ∷ xs) ≤ (if b then 0 else suc (first_place same xs x)) → (length xs ≤ first_place same xs x → is_new same xs x ≡ true) → (if b then false else is_new same xs x) ≡ true
      go true h ih = absurd (omega (arith, h))
      go false h ih = ih (omega (arith, h))

  module _ (own added : List A) (x : A) (p : ℕ) (first : p ≡ first_place same own x) where
    pub put_own : p < length own → IsPlaced same own added added x p
    put_own l =
        let old = place_not_new same x own (omega (arith, l, first)) in
        let r = old_left same x own added old in
        record { list = sym (old_stays same x (own ++ added) r.0); first = first ∙ sym r.1; fewer = omega arith }

    -- x is put behind where it is nowhere before
    pub put_behind : (q n : ℕ) (flag : Bool) (new : List A) → q ≡ first_place same added x → length own ≤ p → n ≡ p + q → flag ≡ nat_eq q (length added) → new ≡ added ++ keep (flag ∷ []) (x ∷ []) → IsPlaced same own added new x n
    put_behind q n flag new second end sum test e = go flag (sym test) e
      where
        next : (is_new same (own ++ added) x ≡ is_new same added x) × (n ≡ first_place same (own ++ added) x)
        next =
            let r = new_left same x own added (at_end own x (omega (arith, end, first))) in
            let at = r.1 in
            let w = place_within own x in
            (r.0, omega (arith, at, w, first, second, end, sum))

        go : (b : Bool) → nat_eq q (length added) ≡ b → new ≡ added ++ keep (b ∷ []) (x ∷ []) → IsPlaced same own added new x n
        go true t e =
            let is = eqb-true q (length added) t in
            let l : length added ≤ q = omega (arith, is) in
            let m = ap length e in
            let k = length-append added (x ∷ []) in
            record {
              list = ap (λ z. own ++ z) e ∙ (sym (append_assoc own added (x ∷ [])) ∙ sym (new_goes same x (own ++ added) (next.0 ∙ at_end added x (omega (arith, l, second)))));
              first = next.1;
              fewer = omega (arith, m, k);
            }
        go false t e =
            let w = place_within added x in
            let ne : q ≡ length added → ⊥ = λ h. let y = eq-eqb q (length added) h in cc in
            let l : q < length added = omega (arith, ne, w, second) in
            let same_list : new ≡ added = e ∙ append-nil added in
            let m = ap length same_list in
            record {
              list = ap (λ z. own ++ z) same_list ∙ sym (old_stays same x (own ++ added) (next.0 ∙ place_not_new same x added (omega (arith, l, second))));
              first = next.1;
              fewer = omega (arith, m);
            }

-- ---- the walk: of the items `all` those of `rest` are left

pub record Walked {A : Type 0} (same : A → A → Bool) (own added : List A) (places : List ℕ) (all rest : List A) : Type 0 where
  pub left : with_items same (own ++ added) rest ≡ with_items same own all
  pub placed : places ++ map (first_place same (with_items same own all)) rest ≡ map (first_place same (with_items same own all)) all
  pub fewer : length added + length rest ≤ length all

-- further items do not change the place at which x was put
stays : {A : Type 0} (same : A → A → Bool) → ((x : A) → same x x ≡ true) → (ys more : List A) (x : A) → first_place same (with_item same ys x ++ more) x ≡ first_place same ys x
stays same self ys more x = go (is_new same ys x) refl
  where
    go : (b : Bool) → is_new same ys x ≡ b → first_place same (with_item same ys x ++ more) x ≡ first_place same ys x
    go false e = ap (λ z. first_place same (z ++ more) x) (old_stays same x ys e) ∙ (old_left same x ys more e).1
    go true e =
        let put : with_item same ys x ++ more ≡ ys ++ (x ∷ more) = ap (λ z. z ++ more) (new_goes same x ys e) ∙ append_assoc ys (x ∷ []) more in
        let a = (new_left same x ys (x ∷ more) e).1 in
        let itself : first_place same (x ∷ more) x ≡ 0 = ap (λ (b : Bool). if b then 0 else suc (first_place same more x)) (self x) in
        let b = (new_left same x ys [] e).1 in
        let c : first_place same (ys ++ []) x ≡ first_place same ys x = ap (λ z. first_place same z x) (append-nil ys) in
        ap (λ z. first_place same z x) put ∙ omega (arith, a, itself, b, c)

pub walk_step : {A : Type 0} (same : A → A → Bool) (self : (x : A) → same x x ≡ true) (own added added' : List A) (places places' : List ℕ) (all rest : List A) (x : A) (p : ℕ) → Walked same own added places all (x ∷ rest) → IsPlaced same own added added' x p → places' ≡ places ++ (p ∷ []) → Walked same own added' places' all rest
walk_step same self own added added' places places' all rest x p w s e =
    let after = with_items same own all in
    let now : with_items same (own ++ added') rest ≡ after = ap (λ z. with_items same z rest) s.list ∙ w.left in
    let l = longer same (with_item same (own ++ added) x) rest in
    let at : p ≡ first_place same after x = s.first ∙ (sym (stays same self (own ++ added) l.more x) ∙ ap (λ z. first_place same z x) (sym l.is ∙ w.left)) in
    let f = s.fewer in
    let g = w.fewer in
    record {
      left = now;
      placed =
          ap (λ (z : List ℕ). z ++ map (first_place same after) rest) e
          ∙ (append_assoc places (p ∷ []) (map (first_place same after) rest) ∙ (ap (λ (z : ℕ). places ++ (z ∷ map (first_place same after) rest)) at ∙ w.placed));
      fewer = omega (arith, f, g);
    }

-- ---- an item is the same as itself

pub same_self : {A : Type 0} (same : A → A → Bool) (key : A → List ℕ) → ((x y : A) → same x y ≡ same_bytes (key x) (key y)) → (x : A) → same x x ≡ true
same_self same key decide x = decide x x ∙ bytes_same (key x)
