-- One first fault at most, and one where any fault stands.
use Rattle.std.proofs.Common.{◌≡◌, ℕ, zero, suc, ◌+◌, ◌*◌, ◌<◌, ◌≤◌, inl, inr, refl, sym, ap, ◌∙◌, arith}
use Rattle.std.specs.Prelude.{◌==◌, if◌then◌else◌}
use Rattle.std.proofs.lemmas.Bool.Decides.{leb_tells}
use Rattle.clif_lex.specs.declared.faults.TextKind.{TextKind}
use Rattle.clif_lex.specs.declared.faults.TextKind.TheVariants.{BadChar, BadNumber, Syntax, UnknownOpcode, Unsupported, Duplicate, Undefined, NumberRange, Untyped, TooLarge, NoTerminator, EntryTarget, CountMismatch, TypeMismatch, Convention, SignatureMismatch, SlotRange, TagPlace, NotAvailable}
use Rattle.clif_read.specs.declared.raw.RawModule.{RawModule}
use Rattle.clif_names.specs.Faults.{IsFault, NoFault, rank, Before, FirstFault, OneFirstFault, FirstWhereAny}

-- the kind at a place
kind_at : ℕ → TextKind
kind_at n =
    if n == 0 then BadChar else if n == 1 then BadNumber else if n == 2 then Syntax else if n == 3 then UnknownOpcode else
    if n == 4 then Unsupported else if n == 5 then Duplicate else if n == 6 then Undefined else if n == 7 then NumberRange else
    if n == 8 then Untyped else if n == 9 then TooLarge else if n == 10 then NoTerminator else if n == 11 then EntryTarget else
    if n == 12 then CountMismatch else if n == 13 then TypeMismatch else if n == 14 then Convention else
    if n == 15 then SignatureMismatch else if n == 16 then SlotRange else if n == 17 then TagPlace else NotAvailable

kind_back : (k : TextKind) → kind_at (rank k) ≡ k
unfolding kind_at
kind_back BadChar = refl
kind_back BadNumber = refl
kind_back Syntax = refl
kind_back UnknownOpcode = refl
kind_back Unsupported = refl
kind_back Duplicate = refl
kind_back Undefined = refl
kind_back NumberRange = refl
kind_back Untyped = refl
kind_back TooLarge = refl
kind_back NoTerminator = refl
kind_back EntryTarget = refl
kind_back CountMismatch = refl
kind_back TypeMismatch = refl
kind_back Convention = refl
kind_back SignatureMismatch = refl
kind_back SlotRange = refl
kind_back TagPlace = refl
kind_back NotAvailable = refl

rank_below : (k : TextKind) → rank k < 19
rank_below BadChar = omega arith
rank_below BadNumber = omega arith
rank_below Syntax = omega arith
rank_below UnknownOpcode = omega arith
rank_below Unsupported = omega arith
rank_below Duplicate = omega arith
rank_below Undefined = omega arith
rank_below NumberRange = omega arith
rank_below Untyped = omega arith
rank_below TooLarge = omega arith
rank_below NoTerminator = omega arith
rank_below EntryTarget = omega arith
rank_below CountMismatch = omega arith
rank_below TypeMismatch = omega arith
rank_below Convention = omega arith
rank_below SignatureMismatch = omega arith
rank_below SlotRange = omega arith
rank_below TagPlace = omega arith
rank_below NotAvailable = omega arith

same_kind : (k l : TextKind) → rank k ≡ rank l → k ≡ l
same_kind k l e = sym (kind_back k) ∙ ap kind_at e ∙ kind_back l

both_before : (k l : TextKind) (s t : ℕ) → Before k s l t → Before l t k s → (k ≡ l) × (s ≡ t)
both_before k l s t (inl a) (inl b) = absurd (omega (arith, a, b))
both_before k l s t (inl a) (inr b) = absurd (let e : t ≡ s = b.0 in omega (arith, a, e))
both_before k l s t (inr a) (inl b) = absurd (let e : s ≡ t = a.0 in omega (arith, b, e))
both_before k l s t (inr a) (inr b) = (same_kind k l (let p : rank k ≤ rank l = a.1 in let q : rank l ≤ rank k = b.1 in omega (arith, p, q)), a.0)

pub one_first_fault : OneFirstFault
one_first_fault raw k l s t f g = both_before k l s t (f.1 l t g.0) (g.1 k s f.0)

module _ (raw : RawModule) (none : (k : TextKind) (s : ℕ) → FirstFault raw k s → ⊥) where
  -- where each fault that is before another one cannot be, that one is the first
  abbrev NoneBelow : ℕ → Type 0
  NoneBelow n = (k : TextKind) (s : ℕ) → 19 * s + rank k < n → IsFault raw k s → ⊥

  is_before : (n : ℕ) → NoneBelow n → (k : TextKind) (s : ℕ) → 19 * s + rank k < suc n → (l : TextKind) (t : ℕ) → IsFault raw l t → Before k s l t
  is_before n below k s small l t other = elim (leb_tells (suc s) t) [
    | inl a ↦ inl a.1
    | inr b ↦ elim (leb_tells s t) [
      | inl c ↦ elim (leb_tells (rank k) (rank l)) [
        | inl d ↦ inr (let p : t < suc s = b.1 in let q : s ≤ t = c.1 in omega (arith, p, q), d.1)
        | inr e ↦ absurd (below l t (let p : t < suc s = b.1 in let q : rank l < rank k = e.1 in omega (arith, p, q, small)) other)
      ]
      | inr g ↦ absurd (below l t (let p : t < s = g.1 in omega (arith, p, rank_below l, small)) other)
    ]
  ]

  below : (n : ℕ) → NoneBelow n
  below zero k s small fault = omega (arith, small)
  below (suc n) k s small fault = none k s (fault, is_before n (below n) k s small)

  pub no_fault : NoFault raw
  no_fault k s fault = below (suc (19 * s + rank k)) k s (omega arith) fault

pub first_where_any : FirstWhereAny
first_where_any raw = (λ none. no_fault raw none, λ none k s f. none k s f.0)
