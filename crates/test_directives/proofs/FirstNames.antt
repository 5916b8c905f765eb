-- The first place of a name, and the function that stands there.
use Rattle.std.proofs.Common.{◌≡◌, ℕ, suc, ◌+◌, ◌<◌, Bool, true, false, cond, List, [], ◌∷◌, ◌++◌, length, slice_get, Option, Some, None, is_some, refl, sym, ap, ◌∙◌, arith}
use Rattle.std.specs.Str.{bytes_eq}
use Rattle.std.specs.Map.{lookup}
use Rattle.std.proofs.lemmas.Slice.Eq.{bytes_eq-Decides}
use Rattle.clif_read.specs.declared.raw.RawFunction.{RawFunction}
use Rattle.test_directives.specs.Directives.{spelled_name}
use Rattle.test_directives.specs.Names.{names_of, place_from, first_place}
use Rattle.test_directives.specs.Tests.{first_named, or_else}

pub lookup_last : {K X : Type 0} (test : K → Bool) (es : List (K × X)) (k : K) (x : X) → lookup test (es ++ (k, x) ∷ []) ≡ or_else (lookup test es) (cond (test k) (Some x) None)
lookup_last test [] k x = refl
lookup_last test (e ∷ es) k x = go (test e.0) (lookup_last test es k x)
  where
    go : (b : Bool) → lookup test (es ++ (k, x) ∷ []) ≡ or_else (lookup test es) (cond (test k) (Some x) None)
        → cond b (Some e.1) (lookup test (es ++ (k, x) ∷ [])) ≡ or_else (cond b (Some e.1) (lookup test es)) (cond (test k) (Some x) None)
    go true ih = refl
    go false ih = ih

place_last : (n : ℕ) (name : List ℕ) (xs : List (List ℕ)) (x : List ℕ) → place_from n name (xs ++ x ∷ []) ≡ or_else (place_from n name xs) (cond (bytes_eq name x) (Some (n + length xs)) None)
place_last n name [] x = let e : n ≡ n + 0 = omega arith in ap (λ (k : ℕ). cond (bytes_eq name x) (Some k) None) e
place_last n name (y ∷ ys) x = go (bytes_eq name y) (place_last (suc n) name ys x)
  where
    len : suc n + length ys ≡ n + length (y ∷ ys)
    len = omega arith

    go : (b : Bool) → place_from (suc n) name (ys ++ x ∷ []) ≡ or_else (place_from (suc n) name ys) (cond (bytes_eq name x) (Some (suc n + length ys)) None)
        → cond b (Some n) (place_from (suc n) name (ys ++ x ∷ [])) ≡ or_else (cond b (Some n) (place_from (suc n) name ys)) (cond (bytes_eq name x) (Some (n + length (y ∷ ys))) None)
    go true ih = refl
    go false ih = ih ∙ ap (λ (k : ℕ). or_else (place_from (suc n) name ys) (cond (bytes_eq name x) (Some k) None)) len

pub first_place_last : (name : List ℕ) (xs : List (List ℕ)) (x : List ℕ) → first_place name (xs ++ x ∷ []) ≡ or_else (first_place name xs) (cond (bytes_eq name x) (Some (length xs)) None)
first_place_last name xs x = let e : 0 + length xs ≡ length xs = omega arith in place_last 0 name xs x ∙ ap (λ (k : ℕ). or_else (first_place name xs) (cond (bytes_eq name x) (Some k) None)) e

-- a name that is there stays where it is
pub first_place_kept : (name : List ℕ) (xs : List (List ℕ)) (x : List ℕ) → is_some (first_place x xs) ≡ true → ((b : Bool) → bytes_eq name x ≡ true → name ≡ x)
    → first_place name (xs ++ x ∷ []) ≡ first_place name xs
first_place_kept name xs x there same = first_place_last name xs x ∙ go (bytes_eq name x) refl (first_place name xs) refl
  where
    go : (b : Bool) → bytes_eq name x ≡ b → (o : Option ℕ) → first_place name xs ≡ o → or_else o (cond b (Some (length xs)) None) ≡ o
    go b e (Some k) p = refl
    go false e None p = refl
    go true e None p = absurd (let q : first_place x xs ≡ None = ap (λ (n : List ℕ). first_place n xs) (sym (same true e)) ∙ p in let r : is_some (first_place x xs) ≡ false = ap is_some q in (let t : true ≡ false = sym there ∙ r in cc))

-- the function at the first place of a name is the first one of it
pub found : (n k : ℕ) (name : List ℕ) (fs : List RawFunction) → place_from n name (names_of fs) ≡ Some k
    → (j : ℕ) × (k ≡ n + j) × (slice_get fs j ≡ first_named name fs) × (j < length fs)
found n k name [] e = absurd cc
found n k name (f ∷ fs) e = go (bytes_eq name (spelled_name f.name)) refl (found (suc n) k name fs) e
  where
    go : (b : Bool) → bytes_eq name (spelled_name f.name) ≡ b
        → (place_from (suc n) name (names_of fs) ≡ Some k → (j : ℕ) × (k ≡ suc n + j) × (slice_get fs j ≡ first_named name fs) × (j < length fs))
        → cond b (Some n) (place_from (suc n) name (names_of fs)) ≡ Some k
        → (j : ℕ) × (k ≡ n + j) × (slice_get (f ∷ fs) j ≡ first_named name (f ∷ fs)) × (j < length (f ∷ fs))
    go true h ih p =
        let q : n ≡ k = cc in
        (0, (omega (arith, q)), sym (ap (λ (b : Bool). cond b (Some f) (first_named name fs)) h), omega arith)
    go false h ih p =
        let r = ih p in
        let l = r.1 in
        let m = r.3 in
        (suc r.0, omega arith, r.2 ∙ sym (ap (λ (b : Bool). cond b (Some f) (first_named name fs)) h), omega arith)

pub found_none : (n : ℕ) (name : List ℕ) (fs : List RawFunction) → place_from n name (names_of fs) ≡ None → first_named name fs ≡ None
found_none n name [] e = refl
found_none n name (f ∷ fs) e = go (bytes_eq name (spelled_name f.name)) refl (found_none (suc n) name fs) e
  where
    go : (b : Bool) → bytes_eq name (spelled_name f.name) ≡ b → (place_from (suc n) name (names_of fs) ≡ None → first_named name fs ≡ None)
        → cond b (Some n) (place_from (suc n) name (names_of fs)) ≡ None → first_named name (f ∷ fs) ≡ None
    go true h ih p = absurd cc
    go false h ih p = ap (λ (b : Bool). cond b (Some f) (first_named name fs)) h ∙ ih p

same_text : (x name : List ℕ) → bytes_eq x name ≡ true → x ≡ name
same_text x name e = (bytes_eq-Decides x name).0 e

or_none : (o : Option ℕ) → o ≡ or_else o None
or_none (Some k) = refl
or_none None = refl

-- a name that is not there goes behind all
pub inserted : (name x : List ℕ) (xs : List (List ℕ)) (i : ℕ) (new : Option ℕ) → is_some (first_place x xs) ≡ false → i ≡ length xs
    → new ≡ cond (bytes_eq x name) (Some i) (first_place name xs) → new ≡ first_place name (xs ++ x ∷ [])
inserted name x xs i new absent at e = e ∙ (go (bytes_eq x name) refl (bytes_eq name x) refl ∙ sym (first_place_last name xs x))
  where
    none : (o : Option ℕ) → is_some o ≡ false → o ≡ None
    none None h = refl
    none (Some k) h = absurd cc

    go : (a : Bool) → bytes_eq x name ≡ a → (b : Bool) → bytes_eq name x ≡ b → cond (bytes_eq x name) (Some i) (first_place name xs) ≡ or_else (first_place name xs) (cond (bytes_eq name x) (Some (length xs)) None)
    go true p b q =
        let same = same_text x name p in
        let away : first_place name xs ≡ None = ap (λ (n : List ℕ). first_place n xs) (sym same) ∙ none (first_place x xs) absent in
        let back : bytes_eq name x ≡ true = (bytes_eq-Decides name x).1 (sym same) in
        ap (λ (d : Bool). cond d (Some i) (first_place name xs)) p ∙ (ap (λ (k : ℕ). Some k) at
        ∙ sym ((λ j. or_else (away j) (cond (back j) (Some (length xs)) None))))
    go false p true q = absurd (let t : bytes_eq x name ≡ true = (bytes_eq-Decides x name).1 (sym (same_text name x q)) in let f : true ≡ false = sym t ∙ p in cc)
    go false p false q =
        ap (λ (d : Bool). cond d (Some i) (first_place name xs)) p ∙ (or_none (first_place name xs) ∙ sym (ap (λ (d : Bool). or_else (first_place name xs) (cond d (Some (length xs)) None)) q))

pub kept : (name x : List ℕ) (xs : List (List ℕ)) → is_some (first_place x xs) ≡ true → first_place name xs ≡ first_place name (xs ++ x ∷ [])
kept name x xs there = sym (first_place_kept name xs x there (λ b e. same_text name x e))
