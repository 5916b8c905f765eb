-- An index of places by name, and one more name in it.
use Rattle.std.proofs.Common.{inl, inr, ◌≡◌, ℕ, zero, suc, ◌+◌, ◌-◌, ◌<◌, ◌≤◌, List, [], ◌∷◌, ◌++◌, map, length, Bool, true, false, cond, Option, Some, None, refl, sym, ap, ap₂, ◌∙◌, subst, arith, eq-eqb, ne_eqb}
use Rattle.std.specs.Prelude.{is_some, slice_get, MatchOption, nat_eq, ◌&&◌, Vec}
use Rattle.std.proofs.lemmas.Bool.{cases_eq, eqb-true}
use Rattle.std.proofs.lemmas.Cmp.{ranked}
use Rattle.std.proofs.lemmas.Map.Text.{is_eq-slice_cmp}
use Rattle.std.specs.declared.cmp.Ordering.{Ordering}
use Rattle.std.specs.declared.cmp.Ordering.TheVariants.{Less, Equal, Greater}
use Rattle.std.specs.Ordering.{is_eq, nat_cmp, ordering_then, match_ordering}
use Rattle.std.specs.Cmp.Lexicographic.{slice_cmp}
use Rattle.std.specs.List.{position_from}
use Rattle.std.specs.Map.{lookup}
use Rattle.std.specs.BTreeMap.{insert_entry, is_at}
use Rattle.std.specs.declared.alloc.Global.{Global}
use Rattle.ir_core.specs.declared.names.FuncName.{FuncName}
use Rattle.ir_core.specs.declared.names.FuncName.TheVariants as name
use Rattle.ir_core.specs.Module.{Function}
use Rattle.ir_core.specs.Lookup.{same_bytes, same_name, find_function}
use Rattle.ir_core.specs.Lists.{Each}
use Rattle.ir_core.specs.Named.{place_of, compare_users, compare_texts}
use Rattle.ir_core.proofs.Equal.{bytes_same, bytes_equal, bytes_flip, eq_bytes}

-- bytes

pub text_test : (xs ys : List ℕ) → is_eq (slice_cmp nat_cmp xs ys) ≡ same_bytes ys xs
text_test xs ys = is_eq-slice_cmp xs ys ∙ eq_bytes xs ys ∙ bytes_flip xs ys

pub equal_from_test : (o : Ordering) → is_eq o ≡ true → o ≡ Equal
equal_from_test Less h = cc
equal_from_test Equal h = refl
equal_from_test Greater h = cc

-- numbers

nat_same : (x : ℕ) (o : Ordering) → o ≡ nat_cmp x x → o ≡ Equal
nat_same x Less h = absurd (omega (arith, ranked x x Less h))
nat_same x Equal h = refl
nat_same x Greater h = absurd (omega (arith, ranked x x Greater h))

pub users_test : (p q : ℕ × ℕ) → is_eq (compare_users p q) ≡ (nat_eq q.0 p.0 && nat_eq q.1 p.1)
users_test p q =
    elim (cases_eq p.0 q.0) [
      | inl e ↦
          ap (λ z. is_eq (ordering_then (nat_cmp z q.0) (nat_cmp p.1 q.1))) e
          ∙ (ap (λ z. is_eq (ordering_then z (nat_cmp p.1 q.1))) (nat_same q.0 (nat_cmp q.0 q.0) refl)
          ∙ (number p.1 q.1 ∙ ap (λ b. b && nat_eq q.1 p.1) (sym (eq-eqb q.0 p.0 (sym e)))))
      | inr e ↦ other (nat_cmp p.0 q.0) refl e ∙ ap (λ b. b && nat_eq q.1 p.1) (sym (ne_eqb q.0 p.0 (λ h. e (sym h))))
    ]
  where
    number : (x y : ℕ) → is_eq (nat_cmp x y) ≡ nat_eq y x
    number x y = elim (cases_eq x y) [
      | inl e ↦ ap (λ z. is_eq (nat_cmp z y)) e ∙ (ap is_eq (nat_same y (nat_cmp y y) refl) ∙ sym (eq-eqb y x (sym e)))
      | inr e ↦ unlike x y (nat_cmp x y) refl e ∙ sym (ne_eqb y x (λ h. e (sym h)))
    ]
      where
        unlike : (x y : ℕ) (o : Ordering) → o ≡ nat_cmp x y → (x ≡ y → ⊥) → is_eq o ≡ false
        unlike x y Less h e = refl
        unlike x y Equal h e = absurd (e (ranked x y Equal h))
        unlike x y Greater h e = refl

    other : (o : Ordering) → o ≡ nat_cmp p.0 q.0 → (p.0 ≡ q.0 → ⊥) → is_eq (ordering_then o (nat_cmp p.1 q.1)) ≡ false
    other Less h e = refl
    other Equal h e = absurd (e (ranked p.0 q.0 Equal h))
    other Greater h e = refl

-- one more entry

module _ {K X : Type 0} (cmp : K → K → Ordering) (test : K → Bool) (key : K) (v : X) (same : (e : K) → cmp key e ≡ Equal → test e ≡ test key) (only : (e : K) → test e ≡ true → test key ≡ true → cmp key e ≡ Equal) where
  twice : (b : Bool) (w : X) (l : Option X) → cond b (Some v) l ≡ cond b (Some v) (cond b (Some w) l)
  twice true w l = refl
  twice false w l = refl

  swapped : (a b : Bool) (w : X) (l : Option X) → (a ≡ true → b ≡ true → ⊥) → cond a (Some w) (cond b (Some v) l) ≡ cond b (Some v) (cond a (Some w) l)
  swapped true true w l h = absurd (h refl refl)
  swapped true false w l h = refl
  swapped false true w l h = refl
  swapped false false w l h = refl

  stepped : (e : K × X) (es : List (K × X)) (o : Ordering) → cmp key e.0 ≡ o → lookup test (insert_entry cmp es key v) ≡ cond (test key) (Some v) (lookup test es) → lookup test (match_ordering o ((key, v) ∷ (e ∷ es)) ((e.0, v) ∷ es) (e ∷ insert_entry cmp es key v)) ≡ cond (test key) (Some v) (lookup test (e ∷ es))
  stepped e es Less h r = refl
  stepped e es Equal h r = ap (λ b. cond b (Some v) (lookup test es)) (same e.0 h) ∙ (twice (test key) e.1 (lookup test es) ∙ ap (λ b. cond (test key) (Some v) (cond b (Some e.1) (lookup test es))) (sym (same e.0 h)))
  stepped e es Greater h r = ap (cond (test e.0) (Some e.1)) r ∙ swapped (test e.0) (test key) e.1 (lookup test es) (λ a b. let q : Greater ≡ Equal = sym h ∙ only e.0 a b in cc)

  pub lookup_insert : (es : List (K × X)) → lookup test (insert_entry cmp es key v) ≡ cond (test key) (Some v) (lookup test es)
  lookup_insert [] = refl
  lookup_insert (e ∷ es) = stepped e es (cmp key e.0) refl (lookup_insert es)

-- places

pub place_push : {A : Type 0} (p : A → Bool) (i n : ℕ) (xs : List A) (y : A) → n ≡ i + length xs → position_from p i (xs ++ (y ∷ [])) ≡ cond (is_some (position_from p i xs)) (position_from p i xs) (cond (p y) (Some n) None)
place_push p i n [] y e = let q : i ≡ n = omega (arith, e) in ap (λ z. cond (p y) (Some z) None) q
place_push p i n (x ∷ xs) y e = go (p x) (place_push p (i + 1) n xs y (omega (arith, e)))
  where
    go : (b : Bool) → position_from p (i + 1) (xs ++ (y ∷ [])) ≡ cond (is_some (position_from p (i + 1) xs)) (position_from p (i + 1) xs) (cond (p y) (Some n) None) → cond b (Some i) (position_from p (i + 1) (xs ++ (y ∷ []))) ≡ cond (is_some (cond b (Some i) (position_from p (i + 1) xs))) (cond b (Some i) (position_from p (i + 1) xs)) (cond (p y) (Some n) None)
    go true r = refl
    go false r = r

-- the place of a name's function, and that function
pub place_found : (n : FuncName) (i : ℕ) (fs : List Function) → MatchOption (position_from (λ f. same_name f.name n) i fs) (find_function n fs ≡ None) (λ k. (i ≤ k) × (k < i + length fs) × (find_function n fs ≡ slice_get fs (k - i)))
place_found n i [] = refl
place_found n i (f ∷ fs) = go (same_name f.name n) (position_from (λ f. same_name f.name n) (i + 1) fs) (place_found n (i + 1) fs)
  where
    tail : (k : ℕ) → i + 1 ≤ k → slice_get fs (k - (i + 1)) ≡ slice_get (f ∷ fs) (k - i)
    tail k h = let e : k - i ≡ suc (k - (i + 1)) = omega (arith, h) in ap (slice_get (f ∷ fs)) (sym e)

    go : (b : Bool) (o : Option ℕ) → MatchOption o (find_function n fs ≡ None) (λ k. (i + 1 ≤ k) × (k < i + 1 + length fs) × (find_function n fs ≡ slice_get fs (k - (i + 1)))) → MatchOption (cond b (Some i) o) (cond b (Some f) (find_function n fs) ≡ None) (λ k. (i ≤ k) × (k < i + length (f ∷ fs)) × (cond b (Some f) (find_function n fs) ≡ slice_get (f ∷ fs) (k - i)))
    go true o r = (omega arith, omega arith, let z : i - i ≡ 0 = omega arith in ap (slice_get (f ∷ fs)) (sym z))
    go false None r = r
    go false (Some k) r = (omega (arith, r.0), omega (arith, r.1), r.2 ∙ tail k r.0)

-- where no function has the name, it has no place
pub no_place : (n : FuncName) (fs : List Function) → find_function n fs ≡ None → place_of n fs ≡ None
no_place n fs h = go (place_of n fs) (place_found n 0 fs)
  where
    present : (gs : List Function) (k : ℕ) → k < length gs → slice_get gs k ≡ None → ⊥
    present [] k l e = omega (arith, l)
    present (g ∷ gs) zero l e = cc
    present (g ∷ gs) (suc k) l e = present gs k (omega (arith, l)) e

    go : (o : Option ℕ) → MatchOption o (find_function n fs ≡ None) (λ k. (0 ≤ k) × (k < 0 + length fs) × (find_function n fs ≡ slice_get fs (k - 0))) → o ≡ None
    go None r = refl
    go (Some k) r = absurd (present fs (k - 0) (omega (arith, r.1)) (sym r.2 ∙ h))

-- one more function of a new name
pub place_more : (n : FuncName) (fs : List Function) (f : Function) (test : Bool) → same_name f.name n ≡ test → (test ≡ true → place_of n fs ≡ None) → place_of n (fs ++ (f ∷ [])) ≡ cond test (Some (length fs)) (place_of n fs)
place_more n fs f test e new = place_push (λ g. same_name g.name n) 0 (length fs) fs f (omega arith) ∙ (ap (λ b. cond (is_some (place_of n fs)) (place_of n fs) (cond b (Some (length fs)) None)) e ∙ go test (place_of n fs) new)
  where
    go : (b : Bool) (o : Option ℕ) → (b ≡ true → o ≡ None) → cond (is_some o) o (cond b (Some (length fs)) None) ≡ cond b (Some (length fs)) o
    go true None h = refl
    go true (Some k) h = let q : Some k ≡ None = h refl in cc
    go false None h = refl
    go false (Some k) h = refl

pub place_cases : (n : FuncName) (fs : List Function) (o : Option ℕ) → o ≡ place_of n fs → MatchOption o (find_function n fs ≡ None) (λ i. (i < length fs) × (find_function n fs ≡ slice_get fs i))
place_cases n fs o e = go o (subst (λ z. MatchOption z (find_function n fs ≡ None) (λ k. (0 ≤ k) × (k < 0 + length fs) × (find_function n fs ≡ slice_get fs (k - 0)))) (sym e) (place_found n 0 fs))
  where
    go : (o : Option ℕ) → MatchOption o (find_function n fs ≡ None) (λ k. (0 ≤ k) × (k < 0 + length fs) × (find_function n fs ≡ slice_get fs (k - 0))) → MatchOption o (find_function n fs ≡ None) (λ i. (i < length fs) × (find_function n fs ≡ slice_get fs i))
    go None r = r
    go (Some k) r = (omega (arith, r.1), let z : k - 0 ≡ k = omega arith in r.2 ∙ ap (slice_get fs) z)

-- a name that is a text, indexed

pub text_more : (fs : List Function) (f : Function) (key : Vec ℕ Global) (n : ℕ) (es : List (Vec ℕ Global × ℕ)) → f.name ≡ name.Text key.items → find_function f.name fs ≡ None → n ≡ length fs → (text : List ℕ) → lookup (is_at (compare_texts text)) es ≡ place_of (name.Text text) fs → lookup (is_at (compare_texts text)) (insert_entry (λ a b. slice_cmp nat_cmp a.items b.items) es key n) ≡ place_of (name.Text text) (fs ++ (f ∷ []))
text_more fs f key n es named new number text old =
    lookup_insert (λ a b. slice_cmp nat_cmp a.items b.items) (is_at (compare_texts text)) key n same only es
    ∙ (ap (λ b. cond b (Some n) (lookup (is_at (compare_texts text)) es)) (text_test text key.items)
    ∙ (ap₂ (λ m o. cond (same_bytes key.items text) (Some m) o) number old
    ∙ sym (place_more (name.Text text) fs f (same_bytes key.items text) (ap (λ z. same_name z (name.Text text)) named) absent)))
  where
    same : (e : Vec ℕ Global) → slice_cmp nat_cmp key.items e.items ≡ Equal → is_eq (slice_cmp nat_cmp text e.items) ≡ is_eq (slice_cmp nat_cmp text key.items)
    same e h = let q : e.items ≡ key.items = bytes_equal e.items key.items (sym (text_test key.items e.items) ∙ ap is_eq h) in ap (λ z. is_eq (slice_cmp nat_cmp text z)) q

    only : (e : Vec ℕ Global) → is_eq (slice_cmp nat_cmp text e.items) ≡ true → is_eq (slice_cmp nat_cmp text key.items) ≡ true → slice_cmp nat_cmp key.items e.items ≡ Equal
    only e h k =
        let a : e.items ≡ text = bytes_equal e.items text (sym (text_test text e.items) ∙ h) in
        let b : key.items ≡ text = bytes_equal key.items text (sym (text_test text key.items) ∙ k) in
        equal_from_test (slice_cmp nat_cmp key.items e.items) (text_test key.items e.items ∙ (ap₂ (λ x y. same_bytes x y) a b ∙ bytes_same text))

    absent : same_bytes key.items text ≡ true → place_of (name.Text text) fs ≡ None
    absent h = ap (λ z. place_of z fs) (sym (named ∙ ap (λ z. name.Text z) (bytes_equal key.items text h))) ∙ no_place f.name fs new

pub users_stay : (fs : List Function) (f : Function) (text : List ℕ) → f.name ≡ name.Text text → (a b : ℕ) → place_of (name.User a b) (fs ++ (f ∷ [])) ≡ place_of (name.User a b) fs
users_stay fs f text named a b = place_more (name.User a b) fs f false (ap (λ z. same_name z (name.User a b)) named) (λ h. cc)

-- a name that is two numbers, indexed

pub user_more : (fs : List Function) (f : Function) (key : ℕ × ℕ) (n : ℕ) (es : List ((ℕ × ℕ) × ℕ)) → f.name ≡ name.User key.0 key.1 → find_function f.name fs ≡ None → n ≡ length fs → (a b : ℕ) → lookup (is_at (compare_users (a, b))) es ≡ place_of (name.User a b) fs → lookup (is_at (compare_users (a, b))) (insert_entry compare_users es key n) ≡ place_of (name.User a b) (fs ++ (f ∷ []))
user_more fs f key n es named new number a b old =
    lookup_insert compare_users (is_at (compare_users (a, b))) key n same only es
    ∙ (ap (λ z. cond z (Some n) (lookup (is_at (compare_users (a, b))) es)) (users_test (a, b) key)
    ∙ (ap₂ (λ m o. cond (nat_eq key.0 a && nat_eq key.1 b) (Some m) o) number old
    ∙ sym (place_more (name.User a b) fs f (nat_eq key.0 a && nat_eq key.1 b) (ap (λ z. same_name z (name.User a b)) named) absent)))
  where
    both : (x y p q : ℕ) → (nat_eq x p && nat_eq y q) ≡ true → (x ≡ p) × (y ≡ q)
    both x y p q h =
        elim (cases_eq x p) [
          | inl e ↦ (e, eqb-true y q (ap (λ z. z && nat_eq y q) (sym (eq-eqb x p e)) ∙ h))
          | inr e ↦ let f : false ≡ true = ap (λ z. z && nat_eq y q) (sym (ne_eqb x p e)) ∙ h in cc
        ]

    same : (e : ℕ × ℕ) → compare_users key e ≡ Equal → is_eq (compare_users (a, b) e) ≡ is_eq (compare_users (a, b) key)
    same e h = let q : (e.0 ≡ key.0) × (e.1 ≡ key.1) = both e.0 e.1 key.0 key.1 (sym (users_test key e) ∙ ap is_eq h) in ap₂ (λ x y. is_eq (compare_users (a, b) (x, y))) q.0 q.1

    only : (e : ℕ × ℕ) → is_eq (compare_users (a, b) e) ≡ true → is_eq (compare_users (a, b) key) ≡ true → compare_users key e ≡ Equal
    only e h k =
        let p : (e.0 ≡ a) × (e.1 ≡ b) = both e.0 e.1 a b (sym (users_test (a, b) e) ∙ h) in
        let q : (key.0 ≡ a) × (key.1 ≡ b) = both key.0 key.1 a b (sym (users_test (a, b) key) ∙ k) in
        equal_from_test (compare_users key e) (users_test key e ∙ (ap₂ (λ x y. x && y) (eq-eqb e.0 key.0 (p.0 ∙ sym q.0)) (eq-eqb e.1 key.1 (p.1 ∙ sym q.1))))

    absent : (nat_eq key.0 a && nat_eq key.1 b) ≡ true → place_of (name.User a b) fs ≡ None
    absent h = let q : (key.0 ≡ a) × (key.1 ≡ b) = both key.0 key.1 a b h in ap (λ z. place_of z fs) (sym (named ∙ ap₂ (λ x y. name.User x y) q.0 q.1)) ∙ no_place f.name fs new

pub texts_stay : (fs : List Function) (f : Function) (a b : ℕ) → f.name ≡ name.User a b → (text : List ℕ) → place_of (name.Text text) (fs ++ (f ∷ [])) ≡ place_of (name.Text text) fs
texts_stay fs f a b named text = place_more (name.Text text) fs f false (ap (λ z. same_name z (name.Text text)) named) (λ h. cc)

-- a function of the module

pub each_mapped : {A B : Type 0} (P : B → Type 0) (f : A → B) (xs : List A) (i : ℕ) (x : A) → Each P (map f xs) → slice_get xs i ≡ Some x → P (f x)
each_mapped P f [] i x h e = cc
each_mapped P f (y ∷ xs) zero x h e = let q : y ≡ x = cc in subst (λ z. P (f z)) q h.0
each_mapped P f (y ∷ xs) (suc i) x h e = each_mapped P f xs i x h.1 e
