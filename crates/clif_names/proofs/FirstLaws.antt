-- The first fault is the first of the least ones of each kind.
use Rattle.std.proofs.Common.{◌≡◌, ℕ, suc, ◌+◌, ◌<◌, ◌≤◌, ◌⊎◌, inl, inr, List, [], ◌∷◌, ◌++◌, length, take, get_or, Option, None, Some, refl, ap, arith}
use Rattle.std.proofs.lemmas.List.{take_more}
use Rattle.std.proofs.lemmas.Bool.Decides.{leb_tells}
use Rattle.clif_lex.specs.declared.faults.TextKind.{TextKind}
use Rattle.clif_lex.specs.declared.faults.TextKind.TheVariants.{BadChar, BadNumber, Syntax, UnknownOpcode, Unsupported, Duplicate, Undefined, NumberRange, Untyped, TooLarge, NoTerminator, EntryTarget, CountMismatch, TypeMismatch, Convention, SignatureMismatch, SlotRange, TagPlace, NotAvailable}
use Rattle.clif_read.specs.declared.raw.RawFunction.{RawFunction}
use Rattle.clif_read.specs.declared.raw.RawModule.{RawModule}
use Rattle.clif_names.specs.declared.first.NamesFault.{NamesFault}
use Rattle.clif_names.specs.declared.least.LeastSpots.{LeastSpots}
use Rattle.clif_names.specs.Faults.{FunctionFault, IsFault, IsOneTooMany, ListFault, InSomeFunction, RepeatsName, rank, Before}
use Rattle.clif_names.specs.FirstOf.{IsFirstFault, or_earlier, first_of}
use Rattle.name_tables.specs.Least.{IsLeast}
use Rattle.clif_names.specs.LeastSpots.{AreLeast, joined, no_spots}
use Rattle.name_tables.proofs.LeastLaws.{get_push, get_front, get_last, least_same, least_of_both}

-- two sets of faults together
pub joined_least : (P Q : TextKind → ℕ → Type 0) (a b : LeastSpots) → AreLeast P a → AreLeast Q b → AreLeast (λ k s. P k s ⊎ Q k s) (joined a b)
joined_least P Q a b h g = record {
  duplicate = least_of_both (P Duplicate) (Q Duplicate) a.duplicate b.duplicate h.duplicate g.duplicate;
  undefined = least_of_both (P Undefined) (Q Undefined) a.undefined b.undefined h.undefined g.undefined;
  number_range = least_of_both (P NumberRange) (Q NumberRange) a.number_range b.number_range h.number_range g.number_range;
  untyped = least_of_both (P Untyped) (Q Untyped) a.untyped b.untyped h.untyped g.untyped;
  too_large = least_of_both (P TooLarge) (Q TooLarge) a.too_large b.too_large h.too_large g.too_large;
}

-- the answer is the first of a set of faults
IsFirst : (TextKind → ℕ → Type 0) → Option NamesFault → Type 0
IsFirst Stands None = (k : TextKind) (s : ℕ) → Stands k s → ⊥
IsFirst Stands (Some f) = Stands f.kind f.spot × ((k : TextKind) (s : ℕ) → Stands k s → Before f.kind f.spot k s)

module _ (P : TextKind → ℕ → Type 0) (kind : TextKind) (below : (k : TextKind) (s : ℕ) → P k s → rank k < rank kind) (Q : ℕ → Type 0) where
  abbrev Both : TextKind → ℕ → Type 0
  Both k s = P k s ⊎ ((k ≡ kind) × Q s)

  at_or_past : (k : TextKind) (s t : ℕ) → k ≡ kind → s ≤ t → Before kind s k t
  at_or_past k s t e le = elim (leb_tells (suc s) t) [
    | inl a ↦ inl a.1
    | inr a ↦ inr ((let lt : t < suc s = a.1 in omega arith), (let q : rank k ≡ rank kind = ap rank e in omega arith))
  ]

  past : (f : NamesFault) (k : TextKind) (s t : ℕ) → s < f.spot → Before f.kind f.spot k t → Before kind s k t
  past f k s t lt (inl a) = inl (omega arith)
  past f k s t lt (inr a) = inl (let e : f.spot ≡ t = a.0 in omega arith)

  stays : (f : NamesFault) (k : TextKind) (s t : ℕ) → P f.kind f.spot → f.spot < suc s → k ≡ kind → s ≤ t → Before f.kind f.spot k t
  stays f k s t p le e lt = elim (leb_tells (suc f.spot) t) [
    | inl a ↦ inl a.1
    | inr a ↦ inr ((let l : t < suc f.spot = a.1 in omega arith), (let q : rank k ≡ rank kind = ap rank e in let r : rank f.kind < rank kind = below f.kind f.spot p in omega arith))
  ]

  or_next : (first : Option NamesFault) (o : Option ℕ) → IsFirst P first → IsLeast Q o → IsFirst Both (or_earlier first kind o)
  unfolding IsFirst
  or_next None None h g = λ k s e. elim e [ inl p ↦ h k s p | inr q ↦ g s q.1 ]
  or_next (Some f) None h g = (inl h.0, λ k s e. elim e [ inl p ↦ h.1 k s p | inr q ↦ absurd (g s q.1) ])
  or_next None (Some s) h g = (inr (refl, g.0), λ k t e. elim e [ inl p ↦ absurd (h k t p) | inr q ↦ at_or_past k s t q.0 (g.1 t q.1) ])
  or_next (Some f) (Some s) h g = elim (leb_tells (suc s) f.spot) [
    | inl a ↦ rw a.0 (inr (refl, g.0), λ k t e. elim e [ inl p ↦ past f k s t a.1 (h.1 k t p) | inr q ↦ at_or_past k s t q.0 (g.1 t q.1) ])
    | inr a ↦ rw a.0 (inl h.0, λ k t e. elim e [ inl p ↦ h.1 k t p | inr q ↦ stays f k s t h.0 a.1 q.0 (g.1 t q.1) ])
  ]

module _ (Stands : TextKind → ℕ → Type 0) (least : LeastSpots) (h : AreLeast Stands least) where
  abbrev None_ : TextKind → ℕ → Type 0
  None_ k s = ⊥

  abbrev One : TextKind → ℕ → Type 0
  One k s = None_ k s ⊎ ((k ≡ Duplicate) × Stands Duplicate s)

  abbrev Two : TextKind → ℕ → Type 0
  Two k s = One k s ⊎ ((k ≡ Undefined) × Stands Undefined s)

  abbrev Three : TextKind → ℕ → Type 0
  Three k s = Two k s ⊎ ((k ≡ NumberRange) × Stands NumberRange s)

  abbrev Four : TextKind → ℕ → Type 0
  Four k s = Three k s ⊎ ((k ≡ Untyped) × Stands Untyped s)

  abbrev Five : TextKind → ℕ → Type 0
  Five k s = Four k s ⊎ ((k ≡ TooLarge) × Stands TooLarge s)

  one_below : (k : TextKind) (s : ℕ) → One k s → rank k < 6
  one_below k s (inl e) = absurd e
  one_below k s (inr e) = (let q : rank k ≡ 5 = ap rank e.0 in omega arith)

  two_below : (k : TextKind) (s : ℕ) → Two k s → rank k < 7
  two_below k s (inl e) = (let q = one_below k s e in omega arith)
  two_below k s (inr e) = (let q : rank k ≡ 6 = ap rank e.0 in omega arith)

  three_below : (k : TextKind) (s : ℕ) → Three k s → rank k < 8
  three_below k s (inl e) = (let q = two_below k s e in omega arith)
  three_below k s (inr e) = (let q : rank k ≡ 7 = ap rank e.0 in omega arith)

  four_below : (k : TextKind) (s : ℕ) → Four k s → rank k < 9
  four_below k s (inl e) = (let q = three_below k s e in omega arith)
  four_below k s (inr e) = (let q : rank k ≡ 8 = ap rank e.0 in omega arith)

  all_kinds : IsFirst Five (first_of least)
  unfolding IsFirst
  all_kinds =
      or_next Four TooLarge four_below (Stands TooLarge) _ least.too_large
      (or_next Three Untyped three_below (Stands Untyped) _ least.untyped
      (or_next Two NumberRange two_below (Stands NumberRange) _ least.number_range
      (or_next One Undefined one_below (Stands Undefined) _ least.undefined
      (or_next None_ Duplicate (λ k s e. absurd e) (Stands Duplicate) None least.duplicate (λ k s e. e) h.duplicate) h.undefined) h.number_range) h.untyped) h.too_large

  five_stand : (k : TextKind) (s : ℕ) → Five k s → Stands k s
  five_stand k s (inr e) = rw (e.0) e.1
  five_stand k s (inl (inr e)) = rw (e.0) e.1
  five_stand k s (inl (inl (inr e))) = rw (e.0) e.1
  five_stand k s (inl (inl (inl (inr e)))) = rw (e.0) e.1
  five_stand k s (inl (inl (inl (inl (inr e))))) = rw (e.0) e.1
  five_stand k s (inl (inl (inl (inl (inl e))))) = absurd e

module _ (raw : RawModule) (least : LeastSpots) (h : AreLeast (IsFault raw) least) where
  faults_five : (k : TextKind) (s : ℕ) → IsFault raw k s → Five (IsFault raw) least h k s
  faults_five Duplicate s f = inl (inl (inl (inl (inr (refl, f)))))
  faults_five Undefined s f = inl (inl (inl (inr (refl, f))))
  faults_five NumberRange s f = inl (inl (inr (refl, f)))
  faults_five Untyped s f = inl (inr (refl, f))
  faults_five TooLarge s f = inr (refl, f)
  faults_five BadChar s f = absurd (elim f [ inl e ↦ e | inr (i, g, at, e) ↦ e ])
  faults_five BadNumber s f = absurd (elim f [ inl e ↦ e | inr (i, g, at, e) ↦ e ])
  faults_five Syntax s f = absurd (elim f [ inl e ↦ e | inr (i, g, at, e) ↦ e ])
  faults_five UnknownOpcode s f = absurd (elim f [ inl e ↦ e | inr (i, g, at, e) ↦ e ])
  faults_five Unsupported s f = absurd (elim f [ inl e ↦ e | inr (i, g, at, e) ↦ e ])
  faults_five NoTerminator s f = absurd (elim f [ inl e ↦ e | inr (i, g, at, e) ↦ e ])
  faults_five EntryTarget s f = absurd (elim f [ inl e ↦ e | inr (i, g, at, e) ↦ e ])
  faults_five CountMismatch s f = absurd (elim f [ inl e ↦ e | inr (i, g, at, e) ↦ e ])
  faults_five TypeMismatch s f = absurd (elim f [ inl e ↦ e | inr (i, g, at, e) ↦ e ])
  faults_five Convention s f = absurd (elim f [ inl e ↦ e | inr (i, g, at, e) ↦ e ])
  faults_five SignatureMismatch s f = absurd (elim f [ inl e ↦ e | inr (i, g, at, e) ↦ e ])
  faults_five SlotRange s f = absurd (elim f [ inl e ↦ e | inr (i, g, at, e) ↦ e ])
  faults_five TagPlace s f = absurd (elim f [ inl e ↦ e | inr (i, g, at, e) ↦ e ])
  faults_five NotAvailable s f = absurd (elim f [ inl e ↦ e | inr (i, g, at, e) ↦ e ])

  pub first_is : IsFirstFault raw (first_of least)
  unfolding IsFirst
  first_is = by (first_of least) (all_kinds (IsFault raw) least h)
    where
      by : (o : Option NamesFault) → IsFirst (Five (IsFault raw) least h) o → IsFirstFault raw o
      by None g = λ k s f. g k s (faults_five k s f)
      by (Some x) g = (five_stand (IsFault raw) least h x.kind x.spot g.0, λ k s f. g.1 k s (faults_five k s f))

-- ---- functions one by one

in_more : (fs : List RawFunction) (f : RawFunction) (k : TextKind) (s : ℕ) → InSomeFunction fs k s ⊎ FunctionFault f k s → InSomeFunction (fs ++ f ∷ []) k s
in_more fs f k s (inl (i, g, at, h)) = (i, g, get_front fs (f ∷ []) i g at, h)
in_more fs f k s (inr h) = (length fs, f, get_last fs f, h)

in_split : (fs : List RawFunction) (f : RawFunction) (k : TextKind) (s : ℕ) → InSomeFunction (fs ++ f ∷ []) k s → InSomeFunction fs k s ⊎ FunctionFault f k s
in_split fs f k s (i, g, at, h) = elim (get_push fs f i g at) [ inl a ↦ inl (i, g, a, h) | inr e ↦ inr (let q : g ≡ f = e.1 in rw q at h) ]

pub along : (P Q : TextKind → ℕ → Type 0) (least : LeastSpots) → ((k : TextKind) (s : ℕ) → P k s → Q k s) → ((k : TextKind) (s : ℕ) → Q k s → P k s) → AreLeast P least → AreLeast Q least
along P Q least up down h = record {
  duplicate = least_same (P Duplicate) (Q Duplicate) least.duplicate h.duplicate (up Duplicate) (down Duplicate);
  undefined = least_same (P Undefined) (Q Undefined) least.undefined h.undefined (up Undefined) (down Undefined);
  number_range = least_same (P NumberRange) (Q NumberRange) least.number_range h.number_range (up NumberRange) (down NumberRange);
  untyped = least_same (P Untyped) (Q Untyped) least.untyped h.untyped (up Untyped) (down Untyped);
  too_large = least_same (P TooLarge) (Q TooLarge) least.too_large h.too_large (up TooLarge) (down TooLarge);
}

pub one_more_function : (fs : List RawFunction) (i : ℕ) (f d : RawFunction) (a b : LeastSpots) → i < length fs → f ≡ get_or fs i d
    → AreLeast (InSomeFunction (take i fs)) a → AreLeast (FunctionFault f) b → AreLeast (InSomeFunction (take (i + 1) fs)) (joined a b)
one_more_function fs i f d a b within is h g =
    rw (take_more fs i d within, ← is) (along (λ k s. InSomeFunction (take i fs) k s ⊎ FunctionFault f k s) (InSomeFunction (take i fs ++ f ∷ [])) (joined a b) (in_more (take i fs) f) (in_split (take i fs) f)
    (joined_least (InSomeFunction (take i fs)) (FunctionFault f) a b h g))

pub no_functions : AreLeast (InSomeFunction []) no_spots
no_functions = record {
  duplicate = λ s (i, f, at, h). absurd cc;
  undefined = λ s (i, f, at, h). absurd cc;
  number_range = λ s (i, f, at, h). absurd cc;
  untyped = λ s (i, f, at, h). absurd cc;
  too_large = λ s (i, f, at, h). absurd cc;
}

pub among : (fs : List RawFunction) (a b : Option ℕ) → IsLeast (RepeatsName fs) a → IsLeast (IsOneTooMany fs) b → AreLeast (ListFault fs) (record no_spots { duplicate = a; too_large = b })
among fs a b h g = record { duplicate = h; undefined = λ s e. e; number_range = λ s e. e; untyped = λ s e. e; too_large = g }
