-- Sets of names, and the first name that an earlier function has.
use Rattle.std.proofs.Common.{◌≡◌, ℕ, zero, suc, ◌+◌, ◌<◌, ◌≤◌, ◌⊎◌, inl, inr, Bool, true, false, not, List, [], ◌∷◌, ◌++◌, length, take, get_or, slice_get, Option, Some, ℤ, Bor, refl, sym, ap, ◌∙◌, arith}
use Rattle.std.specs.Prelude.{nat_eq, if◌then◌else◌, MatchBool}
use Rattle.std.specs.Cmp.Lexicographic.{pointwise}
use Rattle.std.specs.Ordering.{int_eq}
use Rattle.std.proofs.lemmas.Bool.{eq-eqb}
use Rattle.std.proofs.lemmas.Bool.Decides.{eqb_tells, Decides-int_eq}
use Rattle.token_reader.specs.declared.raw.RawName.{RawName}
use Rattle.token_reader.specs.declared.raw.RawNumber.{RawNumber}
use Rattle.std.specs.List.{list_any}
use Rattle.std.proofs.lemmas.List.{take_more, length-take-le}
use Rattle.std.proofs.lemmas.Option.{slice_get_within}
use Rattle.clif_read.specs.declared.raw.RawFuncName.{RawFuncName}
use Rattle.clif_read.specs.declared.raw.RawFuncName.TheVariants as func_name
use Rattle.clif_read.specs.declared.raw.RawFunction.{RawFunction}
use Rattle.clif_read.specs.Marks.{name_spot}
use Rattle.clif_names.specs.Faults.{SameName, RepeatsName, IsOneTooMany}
use Rattle.name_tables.specs.Least.{IsLeast, earlier_spot}
use Rattle.indexmap.specs.IndexSet.{keys}
use Rattle.clif_names.specs.declared.repeated.NameSet.{NameSet}
use Rattle.clif_names.specs.NameSets.{Holds, Has, AddsName, inserted, same_pair}
use Rattle.name_tables.proofs.LeastLaws.{get_push, get_front, get_last, least_add, least_same}

-- ---- keys

-- the test of the keys tells whether their values are the same
abbrev pub Tests : {K V : Type 0} → (K → K → Bool) → (K → V) → Type 0
Tests {K} eq value = ((k l : K) → eq k l ≡ true → value k ≡ value l) × ((k l : K) → value k ≡ value l → eq k l ≡ true)

module _ {K V : Type 0} (eq : K → K → Bool) (value : K → V) (tests : Tests eq value) where
  pub held : (ks : List K) (k : K) → list_any (eq k) ks ≡ true → Holds value ks (value k)
  held [] k h = absurd cc
  held (x ∷ xs) k h = by (eq k x) refl (held xs k)
    where
      by : (b : Bool) → eq k x ≡ b → (list_any (eq k) xs ≡ true → Holds value xs (value k)) → Holds value (x ∷ xs) (value k)
      by true e rest = (zero, x, refl, sym (tests.0 k x e))
      by false e rest = (let g = rw e at h in let (i, y, at, is) = rest g in (suc i, y, at, is))

  pub not_held : (ks : List K) (k : K) → list_any (eq k) ks ≡ false → Holds value ks (value k) → ⊥
  not_held [] k h (i, x, at, is) = absurd cc
  not_held (y ∷ ys) k h (i, x, at, is) = by (eq k y) refl i at (not_held ys k)
    where
      by : (b : Bool) → eq k y ≡ b → (i : ℕ) → slice_get (y ∷ ys) i ≡ Some x → (list_any (eq k) ys ≡ false → Holds value ys (value k) → ⊥) → ⊥
      by true e i at rest = (let g = rw e at h in absurd cc)
      by false e zero at rest = (let s : y ≡ x = cc in let g = tests.1 k y (sym is ∙ ap value (sym s)) in let q = sym e ∙ g in absurd cc)
      by false e (suc i) at rest = (let g = rw e at h in rest g (i, x, at, is))

  pub only : (ks : List K) (k : K) (v : V) → Holds value (inserted eq ks k) v → Holds value ks v ⊎ (value k ≡ v)
  only ks k v h = by (list_any (eq k) ks) h
    where
      by : (b : Bool) → Holds value (if b then ks else ks ++ k ∷ []) v → Holds value ks v ⊎ (value k ≡ v)
      by true h = inl h
      by false (i, x, at, is) = elim (get_push ks k i x at) [ inl a ↦ inl (i, x, a, is) | inr e ↦ inr (ap value (sym e.1) ∙ is) ]

  pub kept : (ks : List K) (k : K) (v : V) → Holds value ks v → Holds value (inserted eq ks k) v
  kept ks k v (i, x, at, is) = by (list_any (eq k) ks)
    where
      by : (b : Bool) → Holds value (if b then ks else ks ++ k ∷ []) v
      by true = (i, x, at, is)
      by false = (i, x, get_front ks (k ∷ []) i x at, is)

  pub added : (ks : List K) (k : K) (v : V) → value k ≡ v → Holds value (inserted eq ks k) v
  added ks k v e = by (list_any (eq k) ks) refl
    where
      by : (b : Bool) → list_any (eq k) ks ≡ b → Holds value (if b then ks else ks ++ k ∷ []) v
      by true h = (let (i, x, at, is) = held ks k h in (i, x, at, is ∙ e))
      by false h = (length ks, k, get_last ks k, e)

-- ---- functions

abbrev pub Earlier : List RawFunction → RawFuncName → Type 0
Earlier fs name = (j : ℕ) × (g : RawFunction) × (slice_get fs j ≡ Some g) × SameName g.name name

repeats_more : (fs : List RawFunction) (f : RawFunction) (s : ℕ) → RepeatsName fs s → RepeatsName (fs ++ f ∷ []) s
repeats_more fs f s (i, j, a, b, at, is, less, at_j, same) = (i, j, a, b, get_front fs (f ∷ []) i a at, is, less, get_front fs (f ∷ []) j b at_j, same)

repeats_here : (fs : List RawFunction) (f : RawFunction) → Earlier fs f.name → RepeatsName (fs ++ f ∷ []) (name_spot f.name)
repeats_here fs f (j, g, at, same) = (length fs, j, f, g, get_last fs f, refl, slice_get_within fs j g at, get_front fs (f ∷ []) j g at, same)

repeats_split : (fs : List RawFunction) (f : RawFunction) (s : ℕ) → RepeatsName (fs ++ f ∷ []) s → RepeatsName fs s ⊎ ((s ≡ name_spot f.name) × Earlier fs f.name)
repeats_split fs f s (i, j, a, b, at, is, less, at_j, same) = elim (get_push fs f i a at) [
  | inl p ↦ inl (i, j, a, b, p, is, less, earlier (slice_get_within fs i a p), same)
  | inr q ↦ inr (sym is ∙ ap (λ (x : RawFunction). name_spot x.name) q.1, (j, b, earlier_at q.0, (let e : a ≡ f = q.1 in rw e at same)))
]
  where
    earlier : i < length fs → slice_get fs j ≡ Some b
    earlier within = elim (get_push fs f j b at_j) [ inl p ↦ p | inr q ↦ absurd (let e : j ≡ length fs = q.0 in omega arith) ]

    earlier_at : i ≡ length fs → slice_get fs j ≡ Some b
    earlier_at e = elim (get_push fs f j b at_j) [ inl p ↦ p | inr q ↦ absurd (let g : j ≡ length fs = q.0 in omega arith) ]

pub repeated_again : (fs : List RawFunction) (f : RawFunction) (o : Option ℕ) → Earlier fs f.name → IsLeast (RepeatsName fs) o → IsLeast (RepeatsName (fs ++ f ∷ [])) (earlier_spot o (name_spot f.name))
repeated_again fs f o again h = least_add (RepeatsName fs) (RepeatsName (fs ++ f ∷ [])) o (name_spot f.name) h (repeats_here fs f again) (repeats_more fs f) (λ s q. elim (repeats_split fs f s q) [ inl p ↦ inl p | inr r ↦ inr r.0 ])

pub repeated_not : (fs : List RawFunction) (f : RawFunction) (o : Option ℕ) → (Earlier fs f.name → ⊥) → IsLeast (RepeatsName fs) o → IsLeast (RepeatsName (fs ++ f ∷ [])) o
repeated_not fs f o none h = least_same (RepeatsName fs) (RepeatsName (fs ++ f ∷ [])) o h (repeats_more fs f) (λ s q. elim (repeats_split fs f s q) [ inl p ↦ p | inr r ↦ absurd (none r.1) ])

-- ---- too many functions

many_more : (fs : List RawFunction) (f : RawFunction) (s : ℕ) → IsOneTooMany fs s → IsOneTooMany (fs ++ f ∷ []) s
many_more fs f s (i, a, at, is, le) = (i, a, get_front fs (f ∷ []) i a at, is, le)

many_split : (fs : List RawFunction) (f : RawFunction) (s : ℕ) → IsOneTooMany (fs ++ f ∷ []) s → IsOneTooMany fs s ⊎ ((s ≡ name_spot f.name) × (65536 ≤ length fs))
many_split fs f s (i, a, at, is, le) = elim (get_push fs f i a at) [
  | inl p ↦ inl (i, a, p, is, le)
  | inr q ↦ inr (sym is ∙ ap (λ (x : RawFunction). name_spot x.name) q.1, (let e : i ≡ length fs = q.0 in omega arith))
]

pub many_here : (fs : List RawFunction) (f : RawFunction) (o : Option ℕ) → 65536 ≤ length fs → IsLeast (IsOneTooMany fs) o → IsLeast (IsOneTooMany (fs ++ f ∷ [])) (earlier_spot o (name_spot f.name))
many_here fs f o le h = least_add (IsOneTooMany fs) (IsOneTooMany (fs ++ f ∷ [])) o (name_spot f.name) h (length fs, f, get_last fs f, refl, le) (many_more fs f) (λ s q. elim (many_split fs f s q) [ inl p ↦ inl p | inr r ↦ inr r.0 ])

pub few_here : (fs : List RawFunction) (f : RawFunction) (o : Option ℕ) → length fs < 65536 → IsLeast (IsOneTooMany fs) o → IsLeast (IsOneTooMany (fs ++ f ∷ [])) o
few_here fs f o lt h = least_same (IsOneTooMany fs) (IsOneTooMany (fs ++ f ∷ [])) o h (many_more fs f) (λ s q. elim (many_split fs f s q) [ inl p ↦ p | inr r ↦ absurd (let le : 65536 ≤ length fs = r.1 in omega arith) ])

-- ---- the names of the first functions

abbrev pub AreNames : List RawFunction → NameSet → Type 0
AreNames fs set = (q : RawFuncName) → (Has set q → Earlier fs q) × (Earlier fs q → Has set q)

names_next : (fs : List RawFunction) (f : RawFunction) (old new : NameSet) → AreNames fs old → AddsName old new f.name → AreNames (fs ++ f ∷ []) new
names_next fs f old new h add q = (up, down)
  where
    up : Has new q → Earlier (fs ++ f ∷ []) q
    up has = elim (add.only q has) [
      | inl a ↦ (let (j, g, at, same) = (h q).0 a in (j, g, get_front fs (f ∷ []) j g at, same))
      | inr same ↦ (length fs, f, get_last fs f, same)
    ]

    down : Earlier (fs ++ f ∷ []) q → Has new q
    down (j, g, at, same) = elim (get_push fs f j g at) [
      | inl a ↦ add.kept q ((h q).1 (j, g, a, same))
      | inr e ↦ add.added q (let s : g ≡ f = e.1 in rw s at same)
    ]

module _ (fs : List RawFunction) (i : ℕ) (f d : RawFunction) (within : i < length fs) (is : f ≡ get_or fs i d) where
  long : length (take i fs) ≡ i
  long = length-take-le i fs (let w : i < length fs = within in omega arith)

  pub names_more : (old new : NameSet) → AreNames (take i fs) old → AddsName old new f.name → AreNames (take (i + 1) fs) new
  names_more old new h add = rw (take_more fs i d within, ← is) (names_next (take i fs) f old new h add)

  pub repeated_more : (old : NameSet) (o : Option ℕ) → AreNames (take i fs) old → Has old f.name → IsLeast (RepeatsName (take i fs)) o → IsLeast (RepeatsName (take (i + 1) fs)) (earlier_spot o (name_spot f.name))
  repeated_more old o h has least = rw (take_more fs i d within, ← is) (repeated_again (take i fs) f o ((h f.name).0 has) least)

  pub repeated_same : (old : NameSet) (o : Option ℕ) → AreNames (take i fs) old → (Has old f.name → ⊥) → IsLeast (RepeatsName (take i fs)) o → IsLeast (RepeatsName (take (i + 1) fs)) o
  repeated_same old o h none least = rw (take_more fs i d within, ← is) (repeated_not (take i fs) f o (λ e. none ((h f.name).1 e)) least)

  pub many_next : (o : Option ℕ) → 65536 ≤ i → IsLeast (IsOneTooMany (take i fs)) o → IsLeast (IsOneTooMany (take (i + 1) fs)) (earlier_spot o (name_spot f.name))
  many_next o le least = rw (take_more fs i d within, ← is) (many_here (take i fs) f o (omega (arith, long)) least)

  pub few_next : (o : Option ℕ) → i < 65536 → IsLeast (IsOneTooMany (take i fs)) o → IsLeast (IsOneTooMany (take (i + 1) fs)) o
  few_next o lt least = rw (take_more fs i d within, ← is) (few_here (take i fs) f o (omega (arith, long)) least)

-- ---- one more name

bytes_test : (xs ys : List ℕ) → pointwise nat_eq xs ys ≡ true → xs ≡ ys
bytes_test [] [] h = refl
bytes_test [] (y ∷ ys) h = absurd cc
bytes_test (x ∷ xs) [] h = absurd cc
bytes_test (x ∷ xs) (y ∷ ys) h = elim (eqb_tells x y) [
  | inl t ↦ (let k = rw t.0 at h in let e : x ≡ y = t.1 in let r : xs ≡ ys = bytes_test xs ys k in cc)
  | inr f ↦ absurd (let k = rw f.0 at h in cc)
]

bytes_pass : (xs : List ℕ) → pointwise nat_eq xs xs ≡ true
bytes_pass [] = refl
bytes_pass (x ∷ xs) = rw (eq-eqb x x refl) (bytes_pass xs)

abbrev pub same_text : Bor (List ℕ) → Bor (List ℕ) → Bool
same_text k l = pointwise nat_eq k.now l.now

abbrev pub text_of : Bor (List ℕ) → List ℕ
text_of k = k.now

text_tests : Tests same_text text_of
text_tests = (λ k l h. bytes_test k.now l.now h, λ k l e. rw e (bytes_pass l.now))

int_test : (x y : ℤ) → int_eq x y ≡ true → x ≡ y
int_test x y h = (Decides-int_eq x y).0 h

int_pass : (x : ℤ) → int_eq x x ≡ true
int_pass x = (Decides-int_eq x x).1 refl

pair_test : (k l : ℕ × ℤ) → same_pair k l ≡ true → k ≡ l
pair_test (a, x) (b, y) h = elim (eqb_tells a b) [
  | inl t ↦ (let k = rw t.0 at h in let e : a ≡ b = t.1 in let r : x ≡ y = int_test x y k in cc)
  | inr f ↦ absurd (let k = rw f.0 at h in cc)
]

pair_pass : (k : ℕ × ℤ) → same_pair k k ≡ true
pair_pass (a, x) = rw (eq-eqb a a refl) (int_pass x)

abbrev pub pair_of : ℕ × ℤ → ℕ × ℤ
pair_of k = k

pair_tests : Tests same_pair pair_of
pair_tests = (λ k l h. pair_test k l h, λ k l e. rw e (pair_pass l))

pub new_text : (set : NameSet) (key : Bor (List ℕ)) (bytes : List ℕ) (spot : ℕ) (b : Bool) → key.now ≡ bytes → b ≡ not (list_any (same_text key) (keys set.texts))
    → MatchBool b (Has set (func_name.Text bytes spot) → ⊥) (Has set (func_name.Text bytes spot))
new_text set key bytes spot b e is = by (list_any (same_text key) (keys set.texts)) refl
  where
    by : (a : Bool) → list_any (same_text key) (keys set.texts) ≡ a → MatchBool b (Has set (func_name.Text bytes spot) → ⊥) (Has set (func_name.Text bytes spot))
    by true h = rw (is, h, ← e) (held same_text text_of text_tests (keys set.texts) key h)
    by false h = rw (is, h, ← e) (not_held same_text text_of text_tests (keys set.texts) key h)

pub adds_text : (old new : NameSet) (key : Bor (List ℕ)) (bytes : List ℕ) (spot : ℕ) → key.now ≡ bytes → keys new.texts ≡ inserted same_text (keys old.texts) key → new.users ≡ old.users
    → AddsName old new (func_name.Text bytes spot)
adds_text old new key bytes spot e is users = record { only = less; kept = more; added = here }
  where
    less : (q : RawFuncName) → Has new q → Has old q ⊎ SameName (func_name.Text bytes spot) q
    less (func_name.Text other at) h = elim (only same_text text_of text_tests (keys old.texts) key other (rw is at h)) [ inl a ↦ inl a | inr s ↦ inr (sym e ∙ s) ]
    less (func_name.User space number) h = inl (rw users at h)

    more : (q : RawFuncName) → Has old q → Has new q
    more (func_name.Text other at) h = rw is (kept same_text text_of text_tests (keys old.texts) key other h)
    more (func_name.User space number) h = rw users h

    here : (q : RawFuncName) → SameName (func_name.Text bytes spot) q → Has new q
    here (func_name.Text other at) s = rw is (added same_text text_of text_tests (keys old.texts) key other (e ∙ s))
    here (func_name.User space number) s = absurd s

pub new_user : (set : NameSet) (space : RawName) (number : RawNumber) (b : Bool) → b ≡ not (list_any (same_pair (space.number, number.value)) (keys set.users))
    → MatchBool b (Has set (func_name.User space number) → ⊥) (Has set (func_name.User space number))
new_user set space number b is = by (list_any (same_pair (space.number, number.value)) (keys set.users)) refl
  where
    by : (a : Bool) → list_any (same_pair (space.number, number.value)) (keys set.users) ≡ a → MatchBool b (Has set (func_name.User space number) → ⊥) (Has set (func_name.User space number))
    by true h = rw (is, h) (held same_pair pair_of pair_tests (keys set.users) (space.number, number.value) h)
    by false h = rw (is, h) (not_held same_pair pair_of pair_tests (keys set.users) (space.number, number.value) h)

pub adds_user : (old new : NameSet) (space : RawName) (number : RawNumber) → keys new.users ≡ inserted same_pair (keys old.users) (space.number, number.value) → new.texts ≡ old.texts
    → AddsName old new (func_name.User space number)
adds_user old new space number is texts = record { only = less; kept = more; added = here }
  where
    less : (q : RawFuncName) → Has new q → Has old q ⊎ SameName (func_name.User space number) q
    less (func_name.User a i) h = elim (only same_pair pair_of pair_tests (keys old.users) (space.number, number.value) (a.number, i.value) (rw is at h)) [
      | inl p ↦ inl p
      | inr s ↦ inr (ap (λ (p : ℕ × ℤ). p.0) s, ap (λ (p : ℕ × ℤ). p.1) s)
    ]
    less (func_name.Text other at) h = inl (rw texts at h)

    more : (q : RawFuncName) → Has old q → Has new q
    more (func_name.User a i) h = rw is (kept same_pair pair_of pair_tests (keys old.users) (space.number, number.value) (a.number, i.value) h)
    more (func_name.Text other at) h = rw texts h

    here : (q : RawFuncName) → SameName (func_name.User space number) q → Has new q
    here (func_name.User a i) (s, t) = rw is (added same_pair pair_of pair_tests (keys old.users) (space.number, number.value) (a.number, i.value) (let e : space.number ≡ a.number = s in let g : number.value ≡ i.value = t in cc))
    here (func_name.Text other at) s = absurd s

-- ---- what an answer tells

pub when_new : (b : Bool) (P Q : Type 0) → MatchBool b P Q → b ≡ true → P
when_new true P Q h e = h
when_new false P Q h e = absurd cc

pub when_old : (b : Bool) (P Q : Type 0) → MatchBool b P Q → b ≡ false → Q
when_old true P Q h e = absurd cc
when_old false P Q h e = h
