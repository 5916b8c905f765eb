-- What is kept of the words of a kind says which are defined, and where the first faults among them stand.
use Rattle.std.proofs.Common.{◌≡◌, ℕ, suc, ◌<◌, ◌⊎◌, List, [], ◌∷◌, ◌++◌, length, slice_get, Option, None, Some, map, refl, sym, ap, ◌∙◌, arith, inl, inr, append_assoc}
use Rattle.std.specs.Prelude.{nat_eq, fold, position}
use Rattle.std.proofs.lemmas.Bool.{eq-eqb}
use Rattle.std.proofs.lemmas.Bool.Decides.{eqb_tells, leb_tells}
use Rattle.std.proofs.lemmas.List.{append-nil, map-append}
use Rattle.std.proofs.lemmas.Option.{slice_get_within}
use Rattle.ir_text.specs.Writable.{greatest_number}
use Rattle.token_reader.specs.declared.raw.RawName.{RawName}
use Rattle.name_tables.specs.declared.names.Names.{Names}
use Rattle.name_tables.specs.Least.{IsLeast}
use Rattle.name_tables.specs.Taking.{no_names, see, declare, refer}
use Rattle.name_tables.specs.Words.{Repeats, IsDefined, IsMissing}
use Rattle.name_tables.proofs.LeastLaws.{get_push, get_front, get_last, least_add, least_same}
use Rattle.name_tables.proofs.WordPlaces.{at_end, position_new, position_more}

-- a word at this spot with a number above the limit
abbrev pub IsAbove : List RawName → ℕ → Type 0
IsAbove names spot = (i : ℕ) × (n : RawName) × (slice_get names i ≡ Some n) × (n.spot ≡ spot) × (greatest_number < n.number)

not_both : (a b : ℕ) → a < b → b < suc a → ⊥
not_both a b h k = omega arith

pub above_next : (names : List RawName) (t : Names) (n : RawName) → IsLeast (IsAbove names) t.outside → IsLeast (IsAbove (names ++ n ∷ [])) (see t n).outside
above_next names t n h = elim (leb_tells (suc greatest_number) n.number) [
  | inl a ↦ rw a.0 (least_add (IsAbove names) (IsAbove (names ++ n ∷ [])) t.outside n.spot h (length names, n, get_last names n, refl, a.1) up (λ s q. elim (split s q) [ inl p ↦ inl p | inr e ↦ inr e.0 ]))
  | inr b ↦ rw b.0 (least_same (IsAbove names) (IsAbove (names ++ n ∷ [])) t.outside h up (λ s q. elim (split s q) [ inl p ↦ p | inr e ↦ absurd (not_both greatest_number n.number e.1 b.1) ]))
]
  where
    up : (s : ℕ) → IsAbove names s → IsAbove (names ++ n ∷ []) s
    up s (i, m, at, is, big) = (i, m, get_front names (n ∷ []) i m at, is, big)

    split : (s : ℕ) → IsAbove (names ++ n ∷ []) s → IsAbove names s ⊎ ((s ≡ n.spot) × (greatest_number < n.number))
    split s (i, m, at, is, big) = elim (get_push names n i m at) [ inl a ↦ inl (i, m, a, is, big) | inr e ↦ inr (sym is ∙ ap (λ (x : RawName). x.spot) e.1, (let e1 : m.number ≡ n.number = ap (λ (x : RawName). x.number) e.1 in omega arith)) ]

-- the words are those of the definitions
pub record Holds (defs : List RawName) (t : Names) : Type 0 where
  pub has : (n p : ℕ) → position (nat_eq n) t.words ≡ Some p → IsDefined defs n
  pub lacks : (n : ℕ) → position (nat_eq n) t.words ≡ None → IsDefined defs n → ⊥
  pub repeated : IsLeast (Repeats defs) t.repeated
  pub outside : IsLeast (IsAbove defs) t.outside

defined_more : (defs : List RawName) (d : RawName) (n : ℕ) → IsDefined defs n → IsDefined (defs ++ d ∷ []) n
defined_more defs d n (i, e, at, is) = (i, e, get_front defs (d ∷ []) i e at, is)

defined_split : (defs : List RawName) (d : RawName) (n : ℕ) → IsDefined (defs ++ d ∷ []) n → IsDefined defs n ⊎ (d.number ≡ n)
defined_split defs d n (i, e, at, is) = elim (get_push defs d i e at) [ inl a ↦ inl (i, e, a, is) | inr b ↦ inr (sym (ap (λ (x : RawName). x.number) b.1) ∙ is) ]

repeats_more : (defs : List RawName) (d : RawName) (s : ℕ) → Repeats defs s → Repeats (defs ++ d ∷ []) s
repeats_more defs d s (i, j, a, b, at, is, less, at_j, same) = (i, j, a, b, get_front defs (d ∷ []) i a at, is, less, get_front defs (d ∷ []) j b at_j, same)

repeats_here : (defs : List RawName) (d : RawName) → IsDefined defs d.number → Repeats (defs ++ d ∷ []) d.spot
repeats_here defs d (j, e, at, is) = (length defs, j, d, e, get_last defs d, refl, slice_get_within defs j e at, get_front defs (d ∷ []) j e at, is)

repeats_split : (defs : List RawName) (d : RawName) (s : ℕ) → Repeats (defs ++ d ∷ []) s → Repeats defs s ⊎ ((s ≡ d.spot) × IsDefined defs d.number)
repeats_split defs d s (i, j, a, b, at, is, less, at_j, same) = elim (get_push defs d i a at) [
  | inl p ↦ inl (i, j, a, b, p, is, less, earlier (slice_get_within defs i a p), same)
  | inr q ↦ inr (sym is ∙ ap (λ (x : RawName). x.spot) q.1, (j, b, earlier_at q.0, same ∙ ap (λ (x : RawName). x.number) q.1))
]
  where
    earlier : i < length defs → slice_get defs j ≡ Some b
    earlier within = elim (get_push defs d j b at_j) [ inl p ↦ p | inr q ↦ absurd (let e : j ≡ length defs = q.0 in omega arith) ]

    earlier_at : i ≡ length defs → slice_get defs j ≡ Some b
    earlier_at e = elim (get_push defs d j b at_j) [ inl p ↦ p | inr q ↦ absurd (let f : j ≡ length defs = q.0 in omega arith) ]

pub holds_next : (defs : List RawName) (t : Names) (d : RawName) → Holds defs t → Holds (defs ++ d ∷ []) (declare t d)
unfolding declare
holds_next defs t d h = by (position (nat_eq d.number) t.words) refl
  where
    here : position (nat_eq d.number) t.words ≡ None → position (nat_eq d.number) (t.words ++ d.number ∷ []) ≡ Some (length t.words)
    here e = position_new (nat_eq d.number) t.words d.number (at_end (nat_eq d.number) t.words e) (eq-eqb d.number d.number refl)

    has : position (nat_eq d.number) t.words ≡ None → (n p : ℕ) → position (nat_eq n) (t.words ++ d.number ∷ []) ≡ Some p → IsDefined (defs ++ d ∷ []) n
    has e n p k = elim (eqb_tells n d.number) [
      | inl s ↦ (length defs, d, get_last defs d, sym s.1)
      | inr f ↦ defined_more defs d n (h.has n p (sym (position_more (nat_eq n) t.words d.number f.0) ∙ k))
    ]

    lacks : position (nat_eq d.number) t.words ≡ None → (n : ℕ) → position (nat_eq n) (t.words ++ d.number ∷ []) ≡ None → IsDefined (defs ++ d ∷ []) n → ⊥
    lacks e n k q = elim (eqb_tells n d.number) [
      | inl s ↦ (let g = rw s.1 at k in let j = sym (here e) ∙ g in cc)
      | inr f ↦ elim (defined_split defs d n q) [
        | inl p ↦ h.lacks n (sym (position_more (nat_eq n) t.words d.number f.0) ∙ k) p
        | inr s ↦ f.1 (sym s)
      ]
    ]

    by : (o : Option ℕ) → position (nat_eq d.number) t.words ≡ o → Holds (defs ++ d ∷ []) (declare t d)
    by (Some p) e = rw e (record {
      has = λ n p k. defined_more defs d n (h.has n p k);
      lacks = λ n k q. elim (defined_split defs d n q) [ inl p ↦ h.lacks n k p | inr f ↦ absurd (let x : position (nat_eq n) t.words ≡ Some p = rw (← f) e in let y = sym k ∙ x in cc) ];
      repeated = least_add (Repeats defs) (Repeats (defs ++ d ∷ [])) t.repeated d.spot h.repeated (repeats_here defs d (h.has d.number p e)) (repeats_more defs d) (λ s q. elim (repeats_split defs d s q) [ inl p ↦ inl p | inr r ↦ inr r.0 ]);
      outside = above_next defs t d h.outside;
    })
    by None e = rw e (record {
      has = has e;
      lacks = lacks e;
      repeated = least_same (Repeats defs) (Repeats (defs ++ d ∷ [])) t.repeated h.repeated (repeats_more defs d) (λ s q. elim (repeats_split defs d s q) [ inl p ↦ p | inr r ↦ absurd (h.lacks d.number e r.1) ]);
      outside = above_next defs t d h.outside;
    })

pub holds_none : Holds [] no_names
holds_none = record { has = λ n p k. absurd cc; lacks = λ n k q. absurd cc; repeated = λ s q. absurd cc; outside = λ s q. absurd cc }

-- all definitions of a text, taken one by one
pub holds_all : (defs more : List RawName) (t : Names) → Holds defs t → Holds (defs ++ more) (fold declare t more)
holds_all defs [] t h = rw append-nil h
holds_all defs (d ∷ more) t h = rw (← append_assoc defs (d ∷ []) more) (holds_all (defs ++ d ∷ []) more (declare t d) (holds_next defs t d h))

pub declared : (defs : List RawName) → Holds defs (fold declare no_names defs)
declared defs = holds_all [] defs no_names holds_none

-- then the uses are taken
pub record Refers (defs uses names : List RawName) (words : List ℕ) (repeated : Option ℕ) (t : Names) : Type 0 where
  pub stays : t.words ≡ words
  pub repeats : t.repeated ≡ repeated
  pub missing : IsLeast (IsMissing defs uses) t.missing
  pub outside : IsLeast (IsAbove names) t.outside

pub refers_next : (defs uses names : List RawName) (t s : Names) (u : RawName) → Holds defs s → Refers defs uses names s.words s.repeated t
    → Refers defs (uses ++ u ∷ []) (names ++ u ∷ []) s.words s.repeated (refer t u)
unfolding refer
refers_next defs uses names t s u h r = record { stays = r.stays; repeats = r.repeats; missing = by (position (nat_eq u.number) t.words) refl; outside = above_next names t u r.outside }
  where
    up : (a : ℕ) → IsMissing defs uses a → IsMissing defs (uses ++ u ∷ []) a
    up a (i, m, at, is, none) = (i, m, get_front uses (u ∷ []) i m at, is, none)

    split : (a : ℕ) → IsMissing defs (uses ++ u ∷ []) a → IsMissing defs uses a ⊎ ((a ≡ u.spot) × (IsDefined defs u.number → ⊥))
    split a (i, m, at, is, none) = elim (get_push uses u i m at) [ inl p ↦ inl (i, m, p, is, none) | inr q ↦ inr (sym is ∙ ap (λ (x : RawName). x.spot) q.1, (let e : m.number ≡ u.number = ap (λ (x : RawName). x.number) q.1 in rw e at none)) ]

    by : (o : Option ℕ) → position (nat_eq u.number) t.words ≡ o → IsLeast (IsMissing defs (uses ++ u ∷ [])) (refer t u).missing
    by (Some p) e = rw e (least_same (IsMissing defs uses) (IsMissing defs (uses ++ u ∷ [])) t.missing r.missing up (λ a q. elim (split a q) [ inl p ↦ p | inr f ↦ absurd (f.1 (h.has u.number p (rw r.stays at e))) ]))
    by None e = rw e (least_add (IsMissing defs uses) (IsMissing defs (uses ++ u ∷ [])) t.missing u.spot r.missing (length uses, u, get_last uses u, refl, h.lacks u.number (rw r.stays at e)) up (λ a q. elim (split a q) [ inl p ↦ inl p | inr f ↦ inr f.0 ]))

pub refers_all : (defs uses names more : List RawName) (t s : Names) → Holds defs s → Refers defs uses names s.words s.repeated t
    → Refers defs (uses ++ more) (names ++ more) s.words s.repeated (fold refer t more)
refers_all defs uses names [] t s h r = rw (append-nil uses, append-nil names) r
refers_all defs uses names (u ∷ more) t s h r = rw (← append_assoc uses (u ∷ []) more, ← append_assoc names (u ∷ []) more) (refers_all defs (uses ++ u ∷ []) (names ++ u ∷ []) more (refer t u) s h (refers_next defs uses names t s u h r))

-- nothing is missing before the first use
missing_stays : (defs : List RawName) (t : Names) → (fold declare t defs).missing ≡ t.missing
unfolding declare
missing_stays [] t = refl
missing_stays (d ∷ defs) t = missing_stays defs (declare t d)

-- the words of a kind, all defined and then all used
pub taken : (defs uses : List RawName) → Refers defs uses (defs ++ uses) (fold declare no_names defs).words (fold declare no_names defs).repeated (fold refer (fold declare no_names defs) uses)
taken defs uses = refers_all defs [] defs uses (fold declare no_names defs) (fold declare no_names defs) (declared defs) (record {
  stays = refl;
  repeats = refl;
  missing = rw (missing_stays defs no_names) (λ s (i, m, at, is, none). absurd cc);
  outside = (declared defs).outside;
})

-- ---- without a repeated word, the words of a kind are those of its definitions

abbrev pub numbers_of : List RawName → List ℕ
numbers_of names = map (λ (n : RawName). n.number) names

pub fresh : (done more : List RawName) (d : RawName) → ((s : ℕ) → Repeats (done ++ d ∷ more) s → ⊥) → IsDefined done d.number → ⊥
fresh done more d none (j, e, at, is) = none d.spot (length done, j, d, e, middle done, refl, slice_get_within done j e at, get_front done (d ∷ more) j e at, is)
  where
    middle : (xs : List RawName) → slice_get (xs ++ d ∷ more) (length xs) ≡ Some d
    middle [] = refl
    middle (x ∷ xs) = middle xs

words_from : (done more : List RawName) (t : Names) → Holds done t → t.words ≡ numbers_of done → ((s : ℕ) → Repeats (done ++ more) s → ⊥) → (fold declare t more).words ≡ numbers_of (done ++ more)
unfolding declare
words_from done [] t h w none = rw append-nil w
words_from done (d ∷ more) t h w none =
    let e : done ++ (d ∷ more) ≡ (done ++ d ∷ []) ++ more = sym (append_assoc done (d ∷ []) more) in
    rw e (words_from (done ++ d ∷ []) more (declare t d) (holds_next done t d h) (next (position (nat_eq d.number) t.words) refl) (rw e at none))
  where
    next : (o : Option ℕ) → position (nat_eq d.number) t.words ≡ o → (declare t d).words ≡ numbers_of (done ++ d ∷ [])
    next (Some p) f = absurd (fresh done more d none (h.has d.number p f))
    next None f = rw f (ap (λ (l : List ℕ). l ++ d.number ∷ []) w ∙ sym (map-append (λ (n : RawName). n.number) done (d ∷ [])))

pub words_are : (defs : List RawName) → ((s : ℕ) → Repeats defs s → ⊥) → (fold declare no_names defs).words ≡ numbers_of defs
words_are defs none = words_from [] defs no_names holds_none refl none

-- the words so far are the first ones of all
pub declared_more : (names : List RawName) (t : Names) → (more : List ℕ) × ((fold declare t names).words ≡ t.words ++ more)
unfolding declare
declared_more [] t = ([], sym (append-nil t.words))
declared_more (n ∷ names) t = by (position (nat_eq n.number) t.words) refl (declared_more names (declare t n))
  where
    by : (o : Option ℕ) → position (nat_eq n.number) t.words ≡ o → (more : List ℕ) × ((fold declare (declare t n) names).words ≡ (declare t n).words ++ more)
        → (more : List ℕ) × ((fold declare (declare t n) names).words ≡ t.words ++ more)
    by (Some p) e q = (q.0, q.1 ∙ rw e refl)
    by None e q = (n.number ∷ q.0, q.1 ∙ rw e (append_assoc t.words (n.number ∷ []) q.0))
