-- The least spots that are found in a function are those of its faults.
use Rattle.std.proofs.Common.{◌≡◌, ℕ, zero, suc, ◌<◌, ◌≤◌, ◌⊎◌, inl, inr, true, false, Bool, List, [], ◌∷◌, ◌++◌, slice_get, Option, None, Some, map, pos, refl, sym, ap, ◌∙◌, arith, append_assoc}
use Rattle.std.specs.Prelude.{fold, flat_map, if◌then◌else◌}
use Rattle.std.proofs.lemmas.Bool.Decides.{leb_tells}
use Rattle.std.proofs.lemmas.List.{map-append}
use Rattle.ir_core.specs.Size.{capped}
use Rattle.ir_text.specs.Writable.{greatest_number}
use Rattle.clif_lex.specs.declared.faults.TextKind.TheVariants.{TooLarge}
use Rattle.token_reader.specs.declared.raw.RawName.{RawName}
use Rattle.clif_read.specs.declared.raw.RawDecl.{RawDecl}
use Rattle.clif_read.specs.declared.raw.RawDecl.TheVariants as decl
use Rattle.clif_read.specs.declared.raw.RawFunction.{RawFunction}
use Rattle.clif_names.specs.declared.limits.Limit.TheVariants.{Entity}
use Rattle.clif_names.specs.declared.limits.Limited.{Limited}
use Rattle.name_tables.specs.declared.links.End.{End}
use Rattle.name_tables.specs.declared.names.Names.{Names}
use Rattle.clif_names.specs.declared.uses.Uses.{Uses}
use Rattle.name_tables.specs.Aliases.{link_of, least_endless}
use Rattle.name_tables.specs.Chains.{IsEndless}
use Rattle.name_tables.specs.Defining.{no_tables, define_value, defined}
use Rattle.name_tables.specs.Definitions.{Kind, Slots, Sigs, Callees, Blocks, Values, all_kinds, definitions, steps, value_defs, lines}
use Rattle.clif_read.specs.Marks.{name_spot}
use Rattle.clif_names.specs.Faults.{FunctionFault}
use Rattle.name_tables.specs.Least.{IsLeast, earlier_of, earlier_spot}
use Rattle.clif_names.specs.LeastSpots.{AreLeast, earliest, least_of, too_large_of}
use Rattle.clif_names.specs.Limits.{of_word, keeps, words, all_words, limits, name_limits, decl_limits, line_limits, IsOutside}
use Rattle.name_tables.specs.Links as places
use Rattle.clif_names.specs.Noting.{note}
use Rattle.clif_names.specs.Sizes.{raw_size, greatest_size}
use Rattle.name_tables.specs.Taking.{no_names, declare, refer}
use Rattle.clif_names.specs.Typing.{IsUntyped}
use Rattle.name_tables.specs.Uses.{uses}
use Rattle.clif_names.specs.Using.{table_at, note_name, use_decl, use_function, uses_of}
use Rattle.name_tables.specs.Words.{Repeats, IsMissing}
use Rattle.name_tables.proofs.ChainPlaces.{number, Firsts, firsts}
use Rattle.name_tables.proofs.DefiningLaws.{names_at, defined_names, defined_values}
use Rattle.name_tables.proofs.EndlessLaws.{endless_least}
use Rattle.clif_names.proofs.LateLaws.{use_step, steps_used, UntypedAt, late}
use Rattle.name_tables.proofs.LeastLaws.{least_of_both, least_same, SomeBad, least_of_list, add_spot, add_none}
use Rattle.name_tables.proofs.TakingLaws.{IsAbove, declared, taken}
use Rattle.clif_names.proofs.UntypedLaws.{untyped_up, untyped_down}
use Rattle.clif_names.proofs.UsingLaws.{each_kind, Adds, adds_function}

-- ---- the kinds of words together

of_kinds : (P : Kind → ℕ → Type 0) (o : Kind → Option ℕ) → ((k : Kind) → IsLeast (P k) (o k)) → IsLeast (λ s. (k : Kind) × P k s) (earliest (o Slots) (o Sigs) (o Callees) (o Blocks) (o Values))
unfolding earliest
of_kinds P o h = least_same (λ s. (((P Slots s ⊎ P Sigs s) ⊎ P Callees s) ⊎ P Blocks s) ⊎ P Values s) (λ s. (k : Kind) × P k s) _
    (least_of_both (λ s. ((P Slots s ⊎ P Sigs s) ⊎ P Callees s) ⊎ P Blocks s) (P Values) _ _
    (least_of_both (λ s. (P Slots s ⊎ P Sigs s) ⊎ P Callees s) (P Blocks) _ _
    (least_of_both (λ s. P Slots s ⊎ P Sigs s) (P Callees) _ _ (least_of_both (P Slots) (P Sigs) _ _ (h Slots) (h Sigs)) (h Callees)) (h Blocks)) (h Values))
    up (λ s (k, p). down s k p)
  where
    up : (s : ℕ) → (((P Slots s ⊎ P Sigs s) ⊎ P Callees s) ⊎ P Blocks s) ⊎ P Values s → (k : Kind) × P k s
    up s (inr p) = (Values, p)
    up s (inl (inr p)) = (Blocks, p)
    up s (inl (inl (inr p))) = (Callees, p)
    up s (inl (inl (inl (inr p)))) = (Sigs, p)
    up s (inl (inl (inl (inl p)))) = (Slots, p)

    down : (s : ℕ) (k : Kind) → P k s → (((P Slots s ⊎ P Sigs s) ⊎ P Callees s) ⊎ P Blocks s) ⊎ P Values s
    down s Slots p = inl (inl (inl (inl p)))
    down s Sigs p = inl (inl (inl (inr p)))
    down s Callees p = inl (inl (inr p))
    down s Blocks p = inl (inr p)
    down s Values p = inr p

-- ---- numbers

abbrev bad_number : Limited → ℕ → Type 0
bad_number n s = (n.spot ≡ s) × (keeps n.limit n.value ≡ false)

one_number : (n : Limited) (P : ℕ → Type 0) (o : Option ℕ) → IsLeast P o → IsLeast (λ s. P s ⊎ bad_number n s) (note o n)
unfolding note
one_number n P o h = by (keeps n.limit n.value) refl
  where
    by : (b : Bool) → keeps n.limit n.value ≡ b → IsLeast (λ s. P s ⊎ bad_number n s) (if b then o else earlier_spot o n.spot)
    by true e = add_none P (bad_number n) o h (λ s (at, bad). (let q = sym e ∙ bad in cc))
    by false e = add_spot P (bad_number n) o n.spot h (refl, e) (λ s (at, bad). sym at)

pub numbers_least : (ns : List Limited) → IsLeast (IsOutside ns) (fold note None ns)
numbers_least ns = least_same (SomeBad bad_number note one_number ns) (IsOutside ns) (fold note None ns) (least_of_list bad_number note one_number ns)
    (λ s (i, n, at, (is, bad)). (i, n, at, is, bad)) (λ s (i, n, at, is, bad). (i, n, at, (is, bad)))

outside_left : (xs ys : List Limited) (s : ℕ) → IsOutside xs s → IsOutside (xs ++ ys) s
outside_left [] ys s (i, n, at, is, bad) = absurd cc
outside_left (x ∷ xs) ys s (zero, n, at, is, bad) = (zero, n, at, is, bad)
outside_left (x ∷ xs) ys s (suc i, n, at, is, bad) = let (j, m, q, p, b) = outside_left xs ys s (i, n, at, is, bad) in (suc j, m, q, p, b)

outside_right : (xs ys : List Limited) (s : ℕ) → IsOutside ys s → IsOutside (xs ++ ys) s
outside_right [] ys s h = h
outside_right (x ∷ xs) ys s h = let (j, m, q, p, b) = outside_right xs ys s h in (suc j, m, q, p, b)

outside_split : (xs ys : List Limited) (s : ℕ) → IsOutside (xs ++ ys) s → IsOutside xs s ⊎ IsOutside ys s
outside_split [] ys s h = inr h
outside_split (x ∷ xs) ys s (zero, n, at, is, bad) = inl (zero, n, at, is, bad)
outside_split (x ∷ xs) ys s (suc i, n, at, is, bad) = elim (outside_split xs ys s (i, n, at, is, bad)) [ inl h ↦ (let (j, m, q, p, b) = h in inl (suc j, m, q, p, b)) | inr p ↦ inr p ]

above_limit : (n : ℕ) → greatest_number < n → keeps Entity (pos n) ≡ false
above_limit n h = elim (leb_tells 0 n) [
  | inl z ↦ elim (leb_tells n greatest_number) [ inl t ↦ absurd (let le : n ≤ greatest_number = t.1 in not_both greatest_number n h le) | inr f ↦ rw (z.0, f.0) refl ]
  | inr z ↦ absurd (let lt : n < 0 = z.1 in omega arith)
]
  where
    not_both : (a b : ℕ) → a < b → b ≤ a → ⊥
    not_both a b h k = omega arith

limit_above : (n : ℕ) → keeps Entity (pos n) ≡ false → greatest_number < n
limit_above n h = elim (leb_tells 0 n) [
  | inl z ↦ elim (leb_tells n greatest_number) [ inl t ↦ absurd (let k = rw (z.0, t.0) at h in cc) | inr f ↦ f.1 ]
  | inr z ↦ absurd (let lt : n < 0 = z.1 in omega arith)
]

above_outside : (ws : List RawName) (s : ℕ) → IsAbove ws s → IsOutside (map (of_word Entity) ws) s
above_outside [] s (i, n, at, is, big) = absurd cc
above_outside (w ∷ ws) s (zero, n, at, is, big) = (let e : w ≡ n = cc in (zero, of_word Entity w, refl, rw e is, above_limit w.number (rw e big)))
above_outside (w ∷ ws) s (suc i, n, at, is, big) = let (j, m, q, p, b) = above_outside ws s (i, n, at, is, big) in (suc j, m, q, p, b)

outside_above : (ws : List RawName) (s : ℕ) → IsOutside (map (of_word Entity) ws) s → IsAbove ws s
outside_above [] s (i, n, at, is, bad) = absurd cc
outside_above (w ∷ ws) s (zero, n, at, is, bad) = (let e : of_word Entity w ≡ n = some_same at in
    (zero, w, refl, ap (λ (x : Limited). x.spot) e ∙ is, limit_above w.number (let q = rw (← e) at bad in q)))
  where
    some_same : {a b : Limited} → Some a ≡ Some b → a ≡ b
    some_same h = cc
outside_above (w ∷ ws) s (suc i, n, at, is, bad) = let (j, m, q, is, big) = outside_above ws s (i, n, at, is, bad) in (suc j, m, q, is, big)

module _ (f : RawFunction) where
  words_outside : (ks : List Kind) (s : ℕ) → IsOutside (map (of_word Entity) (flat_map (words f) ks)) s → (k : Kind) × IsAbove (words f k) s
  words_outside [] s (i, n, at, is, bad) = absurd cc
  words_outside (k ∷ ks) s h = elim (outside_split (map (of_word Entity) (words f k)) (map (of_word Entity) (flat_map (words f) ks)) s (rw map-append at h)) [
    | inl p ↦ (k, outside_above (words f k) s p)
    | inr p ↦ words_outside ks s p
  ]

  outside_words : (ks : List Kind) (j : ℕ) (k : Kind) (s : ℕ) → slice_get ks j ≡ Some k → IsAbove (words f k) s → IsOutside (map (of_word Entity) (flat_map (words f) ks)) s
  outside_words [] j k s at h = absurd cc
  outside_words (l ∷ ks) zero k s at h = rw map-append (outside_left (map (of_word Entity) (words f l)) (map (of_word Entity) (flat_map (words f) ks)) s (above_outside (words f l) s (let e : l ≡ k = cc in rw e h)))
  outside_words (l ∷ ks) (suc j) k s at h = rw map-append (outside_right (map (of_word Entity) (words f l)) (map (of_word Entity) (flat_map (words f) ks)) s (outside_words ks j k s at h))

  kind_at : (k : Kind) → (j : ℕ) × (slice_get all_kinds j ≡ Some k)
  kind_at Slots = (0, refl)
  kind_at Sigs = (1, refl)
  kind_at Callees = (2, refl)
  kind_at Blocks = (3, refl)
  kind_at Values = (4, refl)

  abbrev others : List Limited
  others = name_limits f.name ++ (flat_map decl_limits f.decls ++ flat_map line_limits (lines f))

  limits_are : limits f ≡ map (of_word Entity) (all_words f) ++ others
  limits_are = rw (append_assoc, append_assoc) refl

  up_limits : (s : ℕ) → ((k : Kind) × IsAbove (words f k) s) ⊎ IsOutside others s → IsOutside (limits f) s
  up_limits s (inl (k, h)) = rw limits_are (outside_left (map (of_word Entity) (all_words f)) others s (outside_words all_kinds (kind_at k).0 k s (kind_at k).1 h))
  up_limits s (inr h) = rw limits_are (outside_right (map (of_word Entity) (all_words f)) others s h)

  down_limits : (s : ℕ) → IsOutside (limits f) s → ((k : Kind) × IsAbove (words f k) s) ⊎ IsOutside others s
  down_limits s h = elim (outside_split (map (of_word Entity) (all_words f)) others s (rw limits_are at h)) [ inl p ↦ inl (words_outside all_kinds s p) | inr p ↦ inr p ]

  -- ---- sizes

  size_least : IsLeast (FunctionFault f TooLarge) (too_large_of f)
  size_least = elim (leb_tells (suc greatest_size) (capped (raw_size f))) [
    | inl t ↦ rw t.0 ((refl, more (raw_size f) t.1), λ s (at, big). (let q : name_spot f.name ≡ s = at in omega arith))
    | inr t ↦ rw t.0 (λ s (at, big). less (raw_size f) t.1 big)
  ]
    where
      more : (n : ℕ) → 262144 < capped n → 262144 < n
      more n h = omega arith

      less : (n : ℕ) → capped n < 262145 → 262144 < n → ⊥
      less n h k = omega arith

  module _ (ends : List End) (right : places.AreEnds (map (link_of (defined f).values.words) (defined f).firsts) ends) where
    abbrev before : Uses
    before = uses_of (defined f)

    abbrev after : Uses
    after = use_function ends before f

    adds : Adds before after (uses f) others
    adds = adds_function ends before f

    pub table_is : (k : Kind) → table_at after k ≡ fold refer (fold declare no_names (definitions f k)) (uses f k)
    table_is k = adds.words_taken k ∙ ap (λ (t : Names). fold refer t (uses f k)) (each_kind (λ k. table_at before k ≡ names_at (defined f) k) refl refl refl refl refl k ∙ defined_names f k)

    repeated : (k : Kind) → IsLeast (Repeats (definitions f k)) (table_at after k).repeated
    repeated k = rw (ap (λ (t : Names). t.repeated) (table_is k) ∙ (taken (definitions f k) (uses f k)).repeats) (declared (definitions f k)).repeated

    missing : (k : Kind) → IsLeast (IsMissing (definitions f k) (uses f k)) (table_at after k).missing
    missing k = rw (ap (λ (t : Names). t.missing) (table_is k)) (taken (definitions f k) (uses f k)).missing

    above : (k : Kind) → IsLeast (IsAbove (words f k)) (table_at after k).outside
    above k = rw (ap (λ (t : Names). t.outside) (table_is k)) (taken (definitions f k) (uses f k)).outside

    -- the first definitions of values
    first : Firsts (value_defs f) (fold define_value no_tables (value_defs f))
    first = firsts (value_defs f)

    pub same_firsts : (defined f).firsts ≡ (fold define_value no_tables (value_defs f)).firsts
    same_firsts = (defined_values f).firsts

    same_words : (defined f).values.words ≡ map number (fold define_value no_tables (value_defs f)).firsts
    same_words = ap (λ (t : Names). t.words) (defined_values f).values ∙ sym first.words

    pub right_firsts : places.AreEnds (map (link_of (map number (fold define_value no_tables (value_defs f)).firsts)) (fold define_value no_tables (value_defs f)).firsts) ends
    right_firsts = rw (same_words, same_firsts) at right

    endless : IsLeast (IsEndless (value_defs f)) (least_endless (defined f).firsts ends)
    endless = rw same_firsts (endless_least (value_defs f) (fold define_value no_tables (value_defs f)) first ends right_firsts)

    abbrev W : List ℕ
    W = (fold declare no_names (definitions f Values)).words

    begun : Uses
    begun = fold use_decl (note_name before f.name) f.decls

    decls_quiet : (u : Uses) (ds : List RawDecl) → ((fold use_decl u ds).values ≡ u.values) × ((fold use_decl u ds).defined ≡ u.defined) × ((fold use_decl u ds).untyped ≡ u.untyped)
    decls_quiet u [] = (refl, refl, refl)
    decls_quiet u (decl.Slot n a b ∷ ds) = decls_quiet (use_decl u (decl.Slot n a b)) ds
    decls_quiet u (decl.Sig n a ∷ ds) = decls_quiet (use_decl u (decl.Sig n a)) ds
    decls_quiet u (decl.Callee a n e b ∷ ds) = decls_quiet (use_decl u (decl.Callee a n e b)) ds

    after_is : after ≡ fold (use_step ends) begun (steps f)
    unfolding begun
    after_is = steps_used ends begun f.blocks

    untyped_at : IsLeast (UntypedAt W ends (steps f)) after.untyped
    unfolding begun
    untyped_at =
        let q = decls_quiet (note_name before f.name) f.decls in
        rw (ap (λ (u : Uses). u.untyped) after_is) (late W ends (steps f) begun refl (ap (λ (t : Names). t.words) (q.0 ∙ defined_names f Values)) q.1 q.2)

    pub same_late : W ≡ map number (fold define_value no_tables (value_defs f)).firsts
    same_late = sym (ap (λ (t : Names). t.words) (defined_names f Values)) ∙ same_words

    untyped : IsLeast (IsUntyped f) after.untyped
    untyped = least_same (UntypedAt W ends (steps f)) (IsUntyped f) after.untyped untyped_at
        (untyped_up f (fold define_value no_tables (value_defs f)) first ends right_firsts same_late)
        (untyped_down f (fold define_value no_tables (value_defs f)) first ends right_firsts same_late)

    number_range : IsLeast (IsOutside (limits f)) (earlier_of (earliest after.slots.outside after.sigs.outside after.callees.outside after.blocks.outside after.values.outside) after.outside)
    number_range = least_same (λ s. ((k : Kind) × IsAbove (words f k) s) ⊎ IsOutside others s) (IsOutside (limits f)) _
        (least_of_both (λ s. (k : Kind) × IsAbove (words f k) s) (IsOutside others) _ _
        (of_kinds (λ k. IsAbove (words f k)) (λ k. (table_at after k).outside) above)
        (rw adds.numbers_seen (numbers_least others)))
        up_limits down_limits

    pub function_least : AreLeast (FunctionFault f) (least_of after (least_endless (defined f).firsts ends) f)
    function_least = record {
      duplicate = of_kinds (λ k. Repeats (definitions f k)) (λ k. (table_at after k).repeated) repeated;
      undefined = least_of_both (λ s. (k : Kind) × IsMissing (definitions f k) (uses f k) s) (IsEndless (value_defs f)) _ _
          (of_kinds (λ k. IsMissing (definitions f k) (uses f k)) (λ k. (table_at after k).missing) missing) endless;
      number_range = number_range;
      untyped = untyped;
      too_large = size_least;
    }
