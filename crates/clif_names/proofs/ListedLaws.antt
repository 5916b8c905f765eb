-- Each fault is listed.
use Rattle.std.proofs.Common.{◌≡◌, ℕ, zero, suc, ◌<◌, ◌≤◌, inl, inr, Bool, true, false, List, [], ◌∷◌, ◌++◌, length, take, drop, ℤ, pos, negsuc, slice_get, Option, None, Some, refl, sym, ap, ◌∙◌, arith, append_assoc}
use Rattle.std.specs.Prelude.{nat_eq, nat_lt, nat_le, flat_map}
use Rattle.std.specs.List.{list_all}
use Rattle.std.proofs.lemmas.Bool.Decides.{leb_tells, eqb_tells}
use Rattle.std.proofs.lemmas.List.{append-nil}
use Rattle.std.proofs.lemmas.Bool.{and_parts}
use Rattle.ir_core.specs.Lists.{In}
use Rattle.ir_core.proofs.Members.{in_left, in_right}
use Rattle.ir_core.proofs.Equal.{bytes_same}
use Rattle.clif_read.specs.declared.raw.RawFuncName.{RawFuncName}
use Rattle.clif_read.specs.declared.raw.RawFuncName.TheVariants as func_name
use Rattle.clif_lex.specs.declared.faults.TextKind.{TextKind}
use Rattle.clif_lex.specs.declared.faults.TextKind.TheVariants.{BadChar, BadNumber, Syntax, UnknownOpcode, Unsupported, Duplicate, Undefined, NumberRange, Untyped, TooLarge, NoTerminator, EntryTarget, CountMismatch, TypeMismatch, Convention, SignatureMismatch, SlotRange, TagPlace, NotAvailable}
use Rattle.token_reader.specs.declared.raw.RawName.{RawName}
use Rattle.clif_read.specs.declared.raw.RawFunction.{RawFunction}
use Rattle.clif_read.specs.declared.raw.RawModule.{RawModule}
use Rattle.name_tables.specs.declared.firsts.Def.{Def}
use Rattle.name_tables.specs.Definitions.{Kind, all_kinds, Slots, Sigs, Callees, Blocks, Values, Step, definitions, steps, defs_of, value_defs, names_of}
use Rattle.name_tables.specs.Uses.{uses}
use Rattle.name_tables.specs.Words.{IsDefined, Repeats, IsMissing}
use Rattle.name_tables.specs.Chains.{Ending, Ends, Lost, look, chain, IsEndless, HasNumber}
use Rattle.clif_names.specs.declared.limits.Limited.{Limited}
use Rattle.clif_names.specs.Limits.{limits, keeps, IsOutside}
use Rattle.clif_names.specs.Sizes.{raw_size, greatest_size, most_functions}
use Rattle.clif_names.specs.Typing.{step_inst, IsUntyped}
use Rattle.clif_read.specs.Marks.{name_spot}
use Rattle.clif_names.specs.Faults.{FunctionFault, ListFault, Before, rank, SameName}
use Rattle.clif_names.specs.Listed
use Rattle.name_tables.proofs.ChainLaws.{found_at, in_found, one_end}

-- ---- lists

in_flat : {X A : Type 0} (f : X → List A) (xs : List X) (i : ℕ) (x : X) (a : A) → slice_get xs i ≡ Some x → In a (f x) → In a (flat_map f xs)
in_flat f [] i x a at h = absurd cc
in_flat f (y ∷ ys) zero x a at h = in_left a (f y) (flat_map f ys) (let e : y ≡ x = cc in rw e h)
in_flat f (y ∷ ys) (suc i) x a at h = in_right a (f y) (flat_map f ys) (in_flat f ys i x a at h)

-- ---- booleans

when_true : (b : Bool) (spot : ℕ) → b ≡ true → In spot (Listed.spot_where b spot)
when_true b spot e = rw e (inl refl)

when_false : (b : Bool) (spot : ℕ) → (b ≡ true → ⊥) → In spot (Listed.spot_unless b spot)
when_false b spot not_so = by b not_so
  where
    by : (b : Bool) → (b ≡ true → ⊥) → In spot (Listed.spot_unless b spot)
    by true = λ n. absurd (n refl)
    by false = λ n. inl refl

same_number : (a b : ℕ) → a ≡ b → nat_eq a b ≡ true
same_number a b e = elim (eqb_tells a b) [ inl t ↦ t.0 | inr f ↦ absurd (f.1 e) ]

pub defined : (defs : List RawName) (n : ℕ) → Listed.is_defined defs n ≡ true → IsDefined defs n
defined [] n h = absurd cc
defined (d ∷ ds) n h = elim (eqb_tells n d.number) [
  | inl t ↦ (zero, d, refl, sym t.1)
  | inr f ↦ (let g = rw f.0 at h in let p = defined ds n g in (suc p.0, p.1, p.2, p.3))
]

-- ---- faults of definitions and uses

repeated : (ds : List RawName) (i j : ℕ) (d e : RawName) → slice_get ds i ≡ Some d → j < i → slice_get ds j ≡ Some e → e.number ≡ d.number → In d.spot (Listed.repeats ds)
repeated [] i j d e at lt at' same = absurd cc
repeated (x ∷ xs) zero j d e at lt at' same = absurd (omega (arith, lt))
repeated (x ∷ xs) (suc i) zero d e at lt at' same =
    in_left d.spot (flat_map (Listed.same_word x) xs) (Listed.repeats xs)
    (in_flat (Listed.same_word x) xs i d d.spot at (when_true (nat_eq x.number d.number) d.spot (same_number x.number d.number (let s : x ≡ e = cc in ap (λ (r : RawName). r.number) s ∙ same))))
repeated (x ∷ xs) (suc i) (suc j) d e at lt at' same =
    in_right d.spot (flat_map (Listed.same_word x) xs) (Listed.repeats xs) (repeated xs i j d e at (omega (arith, lt)) at' same)

repeats_listed : (ds : List RawName) (spot : ℕ) → Repeats ds spot → In spot (Listed.repeats ds)
repeats_listed ds spot (i, j, d, e, at, here, lt, at', same) = rw (sym here) (repeated ds i j d e at lt at' same)

missing_listed : (ds us : List RawName) (spot : ℕ) → IsMissing ds us spot → In spot (Listed.missing ds us)
missing_listed ds us spot (i, u, at, here, none) =
    rw (sym here) (in_flat (Listed.missing_at ds) us i u u.spot at (when_false (Listed.is_defined ds u.number) u.spot (λ e. none (defined ds u.number e))))

outside_listed : (ns : List Limited) (spot : ℕ) → IsOutside ns spot → In spot (flat_map Listed.outside_at ns)
outside_listed ns spot (i, n, at, here, out) =
    rw (sym here) (in_flat Listed.outside_at ns i n n.spot at (when_false (keeps n.limit n.value) n.spot (λ e. let f = sym out ∙ e in cc)))

endless_listed : (ds : List Def) (spot : ℕ) → IsEndless ds spot → In spot (Listed.endless ds)
endless_listed ds spot (n, d, found, here, never) =
    let p = found_at ds n d found in
    rw (sym here) (in_flat (Listed.endless_at ds) ds p.0 d d.name.spot p.1 (rw (never (length ds)) (inl refl)))

-- ---- late operands

late_listed : (ds : List Def) (before rest : List Step) (i : ℕ) (s : Step) (spot : ℕ) → slice_get rest i ≡ Some s
    → In spot (Listed.late_inst ds (before ++ take i rest) (step_inst s)) → In spot (Listed.late_from ds before rest)
late_listed ds before [] i s spot at h = absurd cc
late_listed ds before (x ∷ xs) zero s spot at h =
    in_left spot (Listed.late_inst ds before (step_inst x)) (Listed.late_from ds (before ++ x ∷ []) xs)
    (let e : x ≡ s = cc in rw (e, sym (append-nil before)) h)
late_listed ds before (x ∷ xs) (suc i) s spot at h =
    in_right spot (Listed.late_inst ds before (step_inst x)) (Listed.late_from ds (before ++ x ∷ []) xs)
    (late_listed ds (before ++ x ∷ []) xs i s spot at (rw (append_assoc before (x ∷ []) (take i xs)) h))

late_chain : (ds : List Def) (before : List Step) (spot k : ℕ) (d e : Def) (o : Option Ending) → chain ds k d ≡ Some (Ends e) → chain ds (length ds) d ≡ o
    → (IsDefined (names_of (defs_of before)) e.name.number → ⊥) → In spot (Listed.late_end before spot o)
late_chain ds before spot k d e None h g late = inl refl
late_chain ds before spot k d e (Some Lost) h g late = let p = one_end ds k (length ds) d (Ends e) Lost h g in absurd cc
late_chain ds before spot k d e (Some (Ends x)) h g late =
    let p = one_end ds k (length ds) d (Ends e) (Ends x) h g in
    let q : e ≡ x = cc in
    when_false (Listed.is_defined (names_of (defs_of before)) x.name.number) spot (λ t. late (rw q (defined (names_of (defs_of before)) x.name.number t)))

untyped_listed : (f : RawFunction) (spot : ℕ) → IsUntyped f spot → In spot (Listed.late_from (value_defs f) [] (steps f))
untyped_listed f spot (i, s, inst, x, e, at, does, here, asked, (d, found, (k, c)), late) =
    late_listed (value_defs f) [] (steps f) i s spot at
    (rw (does, asked, found, here) (late_chain (value_defs f) (take i (steps f)) spot k d e (chain (value_defs f) (length (value_defs f)) d) c refl late))

-- ---- all

kind_place : (k : Kind) → (i : ℕ) × (slice_get all_kinds i ≡ Some k)
kind_place Slots = (0, refl)
kind_place Sigs = (1, refl)
kind_place Callees = (2, refl)
kind_place Blocks = (3, refl)
kind_place Values = (4, refl)

in_kind : (g : Kind → List ℕ) (k : Kind) (spot : ℕ) → In spot (g k) → In spot (Listed.of_each_kind g)
in_kind g k spot h = let p = kind_place k in in_flat g all_kinds p.0 k spot p.1 h

undefined_listed : (f : RawFunction) (spot : ℕ) → FunctionFault f Undefined spot → In spot (Listed.function_listed Undefined f)
undefined_listed f spot (inl (k, h)) =
    in_left spot (Listed.of_each_kind (λ j. Listed.missing (definitions f j) (uses f j))) (Listed.endless (value_defs f))
    (in_kind (λ j. Listed.missing (definitions f j) (uses f j)) k spot (missing_listed (definitions f k) (uses f k) spot h))
undefined_listed f spot (inr h) =
    in_right spot (Listed.of_each_kind (λ j. Listed.missing (definitions f j) (uses f j))) (Listed.endless (value_defs f)) (endless_listed (value_defs f) spot h)

large_listed : (f : RawFunction) (spot : ℕ) → FunctionFault f TooLarge spot → In spot (Listed.function_listed TooLarge f)
large_listed f spot (here, large) =
    rw (sym here) (when_true (nat_lt greatest_size (raw_size f)) (name_spot f.name) (elim (leb_tells (suc greatest_size) (raw_size f)) [ inl t ↦ t.0 | inr b ↦ absurd (let p : raw_size f < suc greatest_size = b.1 in omega (arith, p, large)) ]))

in_function : (f : RawFunction) (kind : TextKind) (spot : ℕ) → FunctionFault f kind spot → In spot (Listed.function_listed kind f)
in_function f Duplicate spot (k, h) = in_kind (λ j. Listed.repeats (definitions f j)) k spot (repeats_listed (definitions f k) spot h)
in_function f Undefined spot h = undefined_listed f spot h
in_function f NumberRange spot h = outside_listed (limits f) spot h
in_function f Untyped spot h = untyped_listed f spot h
in_function f TooLarge spot h = large_listed f spot h
in_function f BadChar spot h = absurd h
in_function f BadNumber spot h = absurd h
in_function f Syntax spot h = absurd h
in_function f UnknownOpcode spot h = absurd h
in_function f Unsupported spot h = absurd h
in_function f NoTerminator spot h = absurd h
in_function f EntryTarget spot h = absurd h
in_function f CountMismatch spot h = absurd h
in_function f TypeMismatch spot h = absurd h
in_function f Convention spot h = absurd h
in_function f SignatureMismatch spot h = absurd h
in_function f SlotRange spot h = absurd h
in_function f TagPlace spot h = absurd h
in_function f NotAvailable spot h = absurd h

-- ---- among functions

integer_is : (z : ℤ) → Listed.same_integer z z ≡ true
integer_is (pos n) = same_number n n refl
integer_is (negsuc n) = same_number n n refl

name_is : (a b : RawFuncName) → SameName a b → Listed.same_name a b ≡ true
name_is (func_name.Text a s) (func_name.Text b t) h = rw h (bytes_same b)
name_is (func_name.User a i) (func_name.User b j) (h, g) = rw (same_number a.number b.number h, g) (integer_is j.value)
name_is (func_name.Text a s) (func_name.User b j) h = absurd h
name_is (func_name.User a i) (func_name.Text b t) h = absurd h

names_again : (fs : List RawFunction) (i j : ℕ) (f g : RawFunction) → slice_get fs i ≡ Some f → j < i → slice_get fs j ≡ Some g → SameName g.name f.name → In (name_spot f.name) (Listed.repeated_names fs)
names_again [] i j f g at lt at' same = absurd cc
names_again (x ∷ xs) zero j f g at lt at' same = absurd (omega (arith, lt))
names_again (x ∷ xs) (suc i) zero f g at lt at' same =
    in_left (name_spot f.name) (flat_map (Listed.name_again x) xs) (Listed.repeated_names xs)
    (in_flat (Listed.name_again x) xs i f (name_spot f.name) at (when_true (Listed.same_name x.name f.name) (name_spot f.name) (let s : x ≡ g = cc in rw s (name_is g.name f.name same))))
names_again (x ∷ xs) (suc i) (suc j) f g at lt at' same =
    in_right (name_spot f.name) (flat_map (Listed.name_again x) xs) (Listed.repeated_names xs) (names_again xs i j f g at (omega (arith, lt)) at' same)

get_drop : {A : Type 0} (n i : ℕ) (xs : List A) (x : A) → n ≤ i → slice_get xs i ≡ Some x → (j : ℕ) × (slice_get (drop n xs) j ≡ Some x)
get_drop zero i xs x le at = (i, at)
get_drop (suc n) i [] x le at = absurd cc
get_drop (suc n) zero (y ∷ ys) x le at = absurd (omega (arith, le))
get_drop (suc n) (suc i) (y ∷ ys) x le at = get_drop n i ys x (omega (arith, le)) at

in_list : (fs : List RawFunction) (kind : TextKind) (spot : ℕ) → ListFault fs kind spot → In spot (Listed.list_listed kind fs)
in_list fs Duplicate spot (i, j, f, g, at, here, lt, at', same) = rw (sym here) (names_again fs i j f g at lt at' same)
in_list fs TooLarge spot (i, f, at, here, many) =
    let p = get_drop most_functions i fs f many at in
    rw (sym here) (in_flat Listed.function_spot (drop most_functions fs) p.0 f (name_spot f.name) p.1 (inl refl))
in_list fs _ spot h = absurd h

pub all_listed : Listed.AllListed
all_listed raw kind spot (inl h) = in_left spot (Listed.list_listed kind raw.functions) (flat_map (Listed.function_listed kind) raw.functions) (in_list raw.functions kind spot h)
all_listed raw kind spot (inr (i, f, at, h)) =
    in_right spot (Listed.list_listed kind raw.functions) (flat_map (Listed.function_listed kind) raw.functions)
    (in_flat (Listed.function_listed kind) raw.functions i f spot at (in_function f kind spot h))

-- ---- the first by the list

pub all_in : {A : Type 0} (p : A → Bool) (xs : List A) (x : A) → list_all p xs ≡ true → In x xs → p x ≡ true
all_in p [] x h m = absurd m
all_in p (y ∷ ys) x h (inl e) = let q = and_parts (p y) (list_all p ys) h in rw e q.0
all_in p (y ∷ ys) x h (inr m) = let q = and_parts (p y) (list_all p ys) h in all_in p ys x q.1 m

before_in : (kind other : TextKind) (spot at : ℕ) (spots : List ℕ) → Listed.none_before kind spot other spots ≡ true → In at spots → Before kind spot other at
before_in kind other spot at spots h m = elim (leb_tells (rank kind) (rank other)) [
  | inl t ↦ (let g = rw t.0 at h in
      elim (leb_tells spot at) [
        | inl a ↦ elim (leb_tells (suc spot) at) [ inl b ↦ inl b.1 | inr b ↦ inr (let p : spot ≤ at = a.1 in let q : at < suc spot = b.1 in omega (arith, p, q), t.1) ]
        | inr f ↦ absurd (let e = sym (all_in (λ x. nat_le spot x) spots at g m) ∙ f.0 in cc)
      ])
  | inr f ↦ (let g = rw f.0 at h in
      elim (leb_tells (suc spot) at) [ inl b ↦ inl b.1 | inr b ↦ absurd (let e = sym (all_in (λ x. nat_lt spot x) spots at g m) ∙ b.0 in cc) ])
]

leads_one : (raw : RawModule) (kind : TextKind) (spot : ℕ) → Listed.leads raw kind spot ≡ true → (other : TextKind) (at : ℕ) → In other Listed.names_kinds → In at (Listed.listed raw other) → Before kind spot other at
leads_one raw kind spot lead other at among m =
    before_in kind other spot at (Listed.listed raw other) (all_in (λ x. Listed.none_before kind spot x (Listed.listed raw x)) Listed.names_kinds other lead among) m

none_in : (fs : List RawFunction) (spot : ℕ) → In spot (flat_map (λ (f : RawFunction). []) fs) → ⊥
none_in [] spot h = h
none_in (f ∷ fs) spot h = none_in fs spot h

-- only the kinds of names are listed
among : (raw : RawModule) (kind : TextKind) (spot : ℕ) → In spot (Listed.listed raw kind) → In kind Listed.names_kinds
among raw Duplicate spot h = inl refl
among raw Undefined spot h = inr (inl refl)
among raw NumberRange spot h = inr (inr (inl refl))
among raw Untyped spot h = inr (inr (inr (inl refl)))
among raw TooLarge spot h = inr (inr (inr (inr (inl refl))))
among raw _ spot h = absurd (none_in raw.functions spot h)

pub listed_first : Listed.ListedFirst
listed_first raw kind spot fault lead = (fault, λ other at f. let m = all_listed raw other at f in leads_one raw kind spot lead other at (among raw other at m) m)

empty_in : (ns : List ℕ) (n : ℕ) → Listed.is_empty ns ≡ true → In n ns → ⊥
empty_in [] n e h = h
empty_in (m ∷ ms) n e h = absurd cc

pub listed_none : Listed.ListedNone
listed_none raw none kind spot f =
    let m = all_listed raw kind spot f in
    empty_in (Listed.listed raw kind) spot (all_in (λ k. Listed.is_empty (Listed.listed raw k)) Listed.names_kinds kind none (among raw kind spot m)) m

-- ---- numbers of values

ends_by : (ds : List Def) (d : Def) (o : Option Ending) → chain ds (length ds) d ≡ o → Listed.has_end o ≡ true → HasNumber ds (Some d) (Listed.end_place ds o)
ends_by ds d None c h = absurd cc
ends_by ds d (Some Lost) c h = absurd cc
ends_by ds d (Some (Ends e)) c h = (e, (length ds, c), refl)

word_number : (ds : List Def) (n : ℕ) → Listed.chains_end ds ≡ true → (o : Option Def) → look ds n ≡ o → HasNumber ds o (Listed.word_place ds o)
word_number ds n ends None found = refl
word_number ds n ends (Some d) found =
    let p = found_at ds n d found in
    ends_by ds d (chain ds (length ds) d) refl (all_in (λ x. Listed.has_end (chain ds (length ds) x)) ds d ends (in_found ds p.0 d p.1))

pub chains_number : Listed.ChainsEnd
chains_number ds ends n = word_number ds n ends (look ds n) refl

-- ---- words without a definition

pub undefined : (ds : List RawName) (n : ℕ) → Listed.is_defined ds n ≡ false → IsDefined ds n → ⊥
undefined ds n h (i, d, at, same) = let e = sym (is_in ds i d at same) ∙ h in cc
  where
    is_in : (ds : List RawName) (i : ℕ) (d : RawName) → slice_get ds i ≡ Some d → d.number ≡ n → Listed.is_defined ds n ≡ true
    is_in [] i d at same = absurd cc
    is_in (x ∷ xs) zero d at same = rw (same_number n x.number (let e : x ≡ d = cc in sym same ∙ ap (λ (r : RawName). r.number) (sym e))) refl
    is_in (x ∷ xs) (suc i) d at same = elim (eqb_tells n x.number) [ inl t ↦ rw t.0 refl | inr f ↦ rw f.0 (is_in xs i d at same) ]
