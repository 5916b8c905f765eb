-- The first function whose name has a hash, and one more function.
use Rattle.std.proofs.Common.{inl, inr, ◌≡◌, ℕ, suc, ◌+◌, ◌-◌, ◌<◌, ◌≤◌, List, [], ◌∷◌, ◌++◌, map, length, get_or, Bool, true, false, cond, Option, Some, None, refl, sym, ap, ap₂, ◌∙◌, subst, arith, eq-eqb}
use Rattle.std.specs.Prelude.{is_some, slice_get, MatchOption, nat_eq}
use Rattle.std.specs.List.{position_from}
use Rattle.std.proofs.lemmas.List.{length-map}
use Rattle.std.proofs.lemmas.Option.{slice_get_read}
use Rattle.std.specs.HashMap as hashed
use Rattle.ir_core.specs.declared.names.FuncName.{FuncName}
use Rattle.ir_core.specs.Module.{Function}
use Rattle.ir_core.specs.declared.index.Names.{Names}
use Rattle.ir_core.specs.Lookup.{same_name}
use Rattle.ir_core.specs.Edits.{Body}
use Rattle.ir_core.specs.Named.{function_in, IsIndex, name_hash, place_of, place_of_hash, is_first}
use Rattle.ir_core.proofs.Equal.{name_equal, equal_name, cases_name, number_equal}
use Rattle.ir_core.proofs.Indexing.{place_push, place_more}
use Rattle.ir_core.proofs.Gets.{get_mapped}

-- names of different hashes differ
hash_apart : (m n : FuncName) → nat_eq (name_hash m) (name_hash n) ≡ false → same_name m n ≡ false
hash_apart m n h = go (same_name m n) refl
  where
    go : (b : Bool) → same_name m n ≡ b → b ≡ false
    go true e = let q : true ≡ false = sym (eq-eqb (name_hash m) (name_hash n) (ap name_hash (name_equal m n e))) ∙ h in q
    go false e = refl

-- the test by which the place of a name's hash is found
abbrev has_hash : FuncName → Function → Bool
has_hash n f = nat_eq (name_hash f.name) (name_hash n)

-- where the first function with the hash of a name has the name, its place is that of the name
pub first_place : (n : FuncName) (i : ℕ) (fs : List Function) → is_first n fs ≡ true → position_from (λ f. nat_eq (name_hash f.name) (name_hash n)) i fs ≡ position_from (λ f. same_name f.name n) i fs
first_place n i [] h = cc
first_place n i (f ∷ fs) h = go (has_hash n f) refl h (first_place n (i + 1) fs)
  where
    by_hash : Option ℕ
    by_hash = position_from (λ g. nat_eq (name_hash g.name) (name_hash n)) (i + 1) fs

    by_name : Option ℕ
    by_name = position_from (λ g. same_name g.name n) (i + 1) fs

    go : (b : Bool) → has_hash n f ≡ b → cond b (same_name f.name n) (is_first n fs) ≡ true → (is_first n fs ≡ true → by_hash ≡ by_name) → cond b (Some i) by_hash ≡ cond (same_name f.name n) (Some i) by_name
    go true e h r = ap (λ b. cond b (Some i) by_name) (sym h)
    go false e h r = r h ∙ ap (λ b. cond b (Some i) by_name) (sym (hash_apart f.name n e))

-- where no function has the hash of a name, none has the name
pub no_hash : (n : FuncName) (i : ℕ) (fs : List Function) → position_from (λ f. nat_eq (name_hash f.name) (name_hash n)) i fs ≡ None → position_from (λ f. same_name f.name n) i fs ≡ None
no_hash n i [] h = refl
no_hash n i (f ∷ fs) h = go (has_hash n f) refl h (no_hash n (i + 1) fs)
  where
    by_hash : Option ℕ
    by_hash = position_from (λ g. nat_eq (name_hash g.name) (name_hash n)) (i + 1) fs

    by_name : Option ℕ
    by_name = position_from (λ g. same_name g.name n) (i + 1) fs

    go : (b : Bool) → has_hash n f ≡ b → cond b (Some i) by_hash ≡ None → (by_hash ≡ None → by_name ≡ None) → cond (same_name f.name n) (Some i) by_name ≡ None
    go true e h r = cc
    go false e h r = ap (λ b. cond b (Some i) by_name) (hash_apart f.name n e) ∙ r h

-- the place of a name's hash, and the function there
pub hash_found : (n : FuncName) (i : ℕ) (fs : List Function) → MatchOption (position_from (λ f. nat_eq (name_hash f.name) (name_hash n)) i fs) (is_first n fs ≡ false) (λ k. (i ≤ k) × (k < i + length fs) × ((g : Function) → slice_get fs (k - i) ≡ Some g → is_first n fs ≡ same_name g.name n))
hash_found n i [] = refl
hash_found n i (f ∷ fs) = go (has_hash n f) (position_from (λ g. nat_eq (name_hash g.name) (name_hash n)) (i + 1) fs) (hash_found n (i + 1) fs)
  where
    tail : (k : ℕ) → i + 1 ≤ k → slice_get fs (k - (i + 1)) ≡ slice_get (f ∷ fs) (k - i)
    tail k h = let e : k - i ≡ suc (k - (i + 1)) = omega (arith, h) in ap (slice_get (f ∷ fs)) (sym e)

    head : (g : Function) → slice_get (f ∷ fs) (i - i) ≡ Some g → same_name f.name n ≡ same_name g.name n
    head g e =
        let z : i - i ≡ 0 = omega arith in
        let q : Some f ≡ Some g = ap (slice_get (f ∷ fs)) (sym z) ∙ e in
        let w : f ≡ g = cc in
        ap (λ x. same_name x.name n) w

    go : (b : Bool) (o : Option ℕ) → MatchOption o (is_first n fs ≡ false) (λ k. (i + 1 ≤ k) × (k < i + 1 + length fs) × ((g : Function) → slice_get fs (k - (i + 1)) ≡ Some g → is_first n fs ≡ same_name g.name n)) → MatchOption (cond b (Some i) o) (cond b (same_name f.name n) (is_first n fs) ≡ false) (λ k. (i ≤ k) × (k < i + length (f ∷ fs)) × ((g : Function) → slice_get (f ∷ fs) (k - i) ≡ Some g → cond b (same_name f.name n) (is_first n fs) ≡ same_name g.name n))
    go true o r = (omega arith, omega arith, head)
    go false None r = r
    go false (Some k) r = (omega (arith, r.0), omega (arith, r.1), λ g e. r.2 g (tail k r.0 ∙ e))

-- one more function

pub first_before : (n : FuncName) (fs : List Function) (f : Function) → is_first n (fs ++ (f ∷ [])) ≡ false → is_first n fs ≡ false
first_before n [] f h = refl
first_before n (g ∷ fs) f h = go (has_hash n g) h (first_before n fs f)
  where
    go : (b : Bool) → cond b (same_name g.name n) (is_first n (fs ++ (f ∷ []))) ≡ false → (is_first n (fs ++ (f ∷ [])) ≡ false → is_first n fs ≡ false) → cond b (same_name g.name n) (is_first n fs) ≡ false
    go true h r = h
    go false h r = r h

first_of_hash : (n : FuncName) (i : ℕ) (fs : List Function) (f : Function) → f.name ≡ n → position_from (λ g. nat_eq (name_hash g.name) (name_hash n)) i fs ≡ None → is_first n (fs ++ (f ∷ [])) ≡ true
first_of_hash n i [] f e h = ap₂ (λ a b. cond a b false) (eq-eqb (name_hash f.name) (name_hash n) (ap name_hash e)) (equal_name f.name n e)
first_of_hash n i (g ∷ fs) f e h = go (has_hash n g) h (first_of_hash n (i + 1) fs f e)
  where
    go : (b : Bool) → cond b (Some i) (position_from (λ g. nat_eq (name_hash g.name) (name_hash n)) (i + 1) fs) ≡ None → (position_from (λ g. nat_eq (name_hash g.name) (name_hash n)) (i + 1) fs ≡ None → is_first n (fs ++ (f ∷ [])) ≡ true) → cond b (same_name g.name n) (is_first n (fs ++ (f ∷ []))) ≡ true
    go true h r = cc
    go false h r = r h

-- the first function with its hash is no other name's place
pub place_stays : (n : FuncName) (fs : List Function) (f : Function) → place_of_hash (name_hash f.name) fs ≡ None → is_first n (fs ++ (f ∷ [])) ≡ false → place_of n (fs ++ (f ∷ [])) ≡ place_of n fs
place_stays n fs f new h = place_more n fs f false other (λ q. cc)
  where
    other : same_name f.name n ≡ false
    other = elim (cases_name f.name n) [
      | inl e ↦ let q : true ≡ false = sym (first_of_hash n 0 fs f e (ap (λ m. place_of_hash (name_hash m) fs) (sym e) ∙ new)) ∙ h in cc
      | inr e ↦ e
    ]

-- places by hash

pub hash_new : (fs : List Function) (f : Function) (k h : ℕ) → k ≡ length fs → place_of_hash (name_hash f.name) fs ≡ None → place_of_hash h (fs ++ (f ∷ [])) ≡ cond (nat_eq (name_hash f.name) h) (Some k) (place_of_hash h fs)
hash_new fs f k h e new = place_push (λ g. nat_eq (name_hash g.name) h) 0 k fs f (omega (arith, e)) ∙ go (nat_eq (name_hash f.name) h) refl (place_of_hash h fs) refl
  where
    go : (b : Bool) → nat_eq (name_hash f.name) h ≡ b → (o : Option ℕ) → place_of_hash h fs ≡ o → cond (is_some o) o (cond b (Some k) None) ≡ cond b (Some k) o
    go true e None q = refl
    go true e (Some j) q = let w : Some j ≡ None = sym q ∙ (ap (λ x. place_of_hash x fs) (sym (number_equal (name_hash f.name) h e)) ∙ new) in cc
    go false e None q = refl
    go false e (Some j) q = refl

pub hash_known : (fs : List Function) (f : Function) (h : ℕ) → is_some (place_of_hash (name_hash f.name) fs) ≡ true → place_of_hash h (fs ++ (f ∷ [])) ≡ place_of_hash h fs
hash_known fs f h known = place_push (λ g. nat_eq (name_hash g.name) h) 0 (length fs) fs f (omega arith) ∙ go (nat_eq (name_hash f.name) h) refl (place_of_hash h fs) refl
  where
    go : (b : Bool) → nat_eq (name_hash f.name) h ≡ b → (o : Option ℕ) → place_of_hash h fs ≡ o → cond (is_some o) o (cond b (Some (length fs)) None) ≡ o
    go true e None q = let w : false ≡ true = ap is_some (sym q ∙ ap (λ x. place_of_hash x fs) (sym (number_equal (name_hash f.name) h e))) ∙ known in cc
    go true e (Some j) q = refl
    go false e None q = refl
    go false e (Some j) q = refl

-- a function of the module

pub none_of : (o : Option ℕ) → is_some o ≡ false → o ≡ None
none_of None h = refl
none_of (Some k) h = cc

-- the place of a hash, and the function there
there : (n : FuncName) (k : ℕ) (fs : List Function) → Some k ≡ place_of_hash (name_hash n) fs → (k < length fs) × ((g : Function) → slice_get fs k ≡ Some g → is_first n fs ≡ same_name g.name n)
there n k fs e = go (subst (λ o. MatchOption o (is_first n fs ≡ false) (λ j. (0 ≤ j) × (j < 0 + length fs) × ((g : Function) → slice_get fs (j - 0) ≡ Some g → is_first n fs ≡ same_name g.name n))) (sym e) (hash_found n 0 fs))
  where
    go : (0 ≤ k) × (k < 0 + length fs) × ((g : Function) → slice_get fs (k - 0) ≡ Some g → is_first n fs ≡ same_name g.name n) → (k < length fs) × ((g : Function) → slice_get fs k ≡ Some g → is_first n fs ≡ same_name g.name n)
    go r = (omega (arith, r.1), λ g q. r.2 g (let z : k - 0 ≡ k = omega arith in ap (slice_get fs) z ∙ q))

pub place_within : (n : FuncName) (k : ℕ) (xs : List Body) → Some k ≡ place_of_hash (name_hash n) (map function_in xs) → k < length xs
place_within n k xs e = omega (arith, (there n k (map function_in xs) e).0, length-map xs function_in)

-- what comparing the name there with this one tells
pub is_first_by : (n : FuncName) (k : ℕ) (xs : List Body) (x : Body) (m : FuncName) (b : Bool) → Some k ≡ place_of_hash (name_hash n) (map function_in xs) → x ≡ get_or xs k x → m ≡ x.function.name → b ≡ same_name m n → is_first n (map function_in xs) ≡ b
is_first_by n k xs x m b e q named told =
    (there n k (map function_in xs) e).1 x.function (get_mapped function_in xs k x (slice_get_read xs (length xs) k x refl (place_within n k xs e) q))
    ∙ (ap (λ z. same_name z n) (sym named) ∙ sym told)

-- what the index has at a name's hash
pub place_in : (names : Names) (fs : List Function) (n : FuncName) (h : ℕ) (o : Option ℕ) → IsIndex names fs → o ≡ hashed.get nat_eq names.places h → h ≡ name_hash n → o ≡ place_of_hash (name_hash n) fs
place_in names fs n h o index e hash = e ∙ (index.places h ∙ ap (λ z. place_of_hash z fs) hash)

-- whether the index has a name's hash
pub known_in : (names : Names) (fs : List Function) (n : FuncName) (h : ℕ) (known : Bool) → IsIndex names fs → known ≡ is_some (hashed.get nat_eq names.places h) → h ≡ name_hash n → known ≡ is_some (place_of_hash (name_hash n) fs)
known_in names fs n h known index e hash = e ∙ ap is_some (place_in names fs n h (hashed.get nat_eq names.places h) index refl hash)
