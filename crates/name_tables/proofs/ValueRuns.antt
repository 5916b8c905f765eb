-- Where no definition is an alias line: each is the end of its own chain, and all before it define values.
use Rattle.std.proofs.Common.{◌≡◌, ℕ, zero, suc, ◌+◌, ◌-◌, ◌<◌, ◌≤◌, false, List, [], ◌∷◌, ◌++◌, length, length-append, take, map, get_or, slice_get, Option, None, Some, refl, sym, ap, ◌∙◌, arith}
use Rattle.std.specs.Prelude.{fold, zip}
use Rattle.std.specs.List.{list_any, range_with_len}
use Rattle.std.proofs.lemmas.Grind.{fold-append}
use Rattle.std.proofs.lemmas.Option.{slice_get-get_or}
use Rattle.std.proofs.lemmas.List.{append-nil, length-map, take_more, length-take-le}
use Rattle.std.proofs.lemmas.List.FromFn.{length-range_with_len, length-map-range_with_len, get_or-range_with_len, get_or-map-range_with_len}
use Rattle.ir_core.specs.Size.{total}
use Rattle.token_reader.specs.declared.raw.RawName.{RawName}
use Rattle.name_tables.specs.declared.firsts.Def.{Def}
use Rattle.name_tables.specs.declared.links.Link.TheVariants.{Value}
use Rattle.name_tables.specs.declared.links.End.{End}
use Rattle.name_tables.specs.declared.links.End.TheVariants.{At, Nowhere}
use Rattle.name_tables.specs.Links.{AreEnds, ends_of}
use Rattle.name_tables.specs.Aliases.{link_of, is_alias, note_end, note_pair, least_endless, value_count, counts_of, AreCounts}
use Rattle.name_tables.proofs.Walks.{at_value}

value_links : (ws : List ℕ) (fs : List Def) → list_any is_alias fs ≡ false → (i : ℕ) → get_or (map (link_of ws) fs) i Value ≡ Value
value_links ws [] none i = refl
value_links ws (d ∷ fs) none i = by d.target refl i (value_links ws fs)
  where
    by : (t : Option RawName) → d.target ≡ t → (i : ℕ) → (list_any is_alias fs ≡ false → (k : ℕ) → get_or (map (link_of ws) fs) k Value ≡ Value)
        → get_or (map (link_of ws) (d ∷ fs)) i Value ≡ Value
    by None e zero others = rw e refl
    by None e (suc i) others = let rest = rw e at none in others rest i
    by (Some m) e i others = absurd (let k = rw e at none in cc)

module _ (fs : List Def) (none : list_any is_alias fs ≡ false) where
  pub value_ends : (ws : List ℕ) → AreEnds (map (link_of ws) fs) (ends_of (length fs) [])
  value_ends ws = rw append-nil (
    length-map-range_with_len At 0 (length fs) ∙ sym (length-map fs (link_of ws)),
    λ i h.
        let n : i < length fs = omega (arith, h, length-map fs (link_of ws)) in
        rw (get_or-map-range_with_len At 0 (length fs) i i Nowhere n (omega arith)) (at_value (map (link_of ws) fs) i (value_links ws fs none i)),
  )

total_values : (fs : List Def) → list_any is_alias fs ≡ false → (i : ℕ) → i ≤ length fs → total value_count (take i fs) ≡ i
total_values fs none zero h = refl
total_values [] none (suc i) h = absurd (omega (arith, h))
total_values (d ∷ fs) none (suc i) h = by d.target refl (total_values fs)
  where
    by : (t : Option RawName) → d.target ≡ t → (list_any is_alias fs ≡ false → (k : ℕ) → k ≤ length fs → total value_count (take k fs) ≡ k)
        → total value_count (take (suc i) (d ∷ fs)) ≡ suc i
    by None e others = let rest = rw e at none in let more = others rest i (omega (arith, h)) in rw e (omega (arith, more))
    by (Some m) e others = absurd (let k = rw e at none in cc)

pub value_counts : (fs : List Def) → list_any is_alias fs ≡ false → AreCounts fs (counts_of (length fs + 1) [])
value_counts fs none = record {
  long = rw append-nil (length-range_with_len 0 (length fs + 1));
  each = λ i h. rw append-nil (get_or-range_with_len 0 (length fs + 1) i 0 h ∙ (let more = total_values fs none i (omega (arith, h)) in omega (arith, more)));
}

-- ---- what is read in a list of two parts

module _ {A : Type 0} where
  get_front : (xs ys : List A) (i : ℕ) → i < length xs → slice_get (xs ++ ys) i ≡ slice_get xs i
  get_front [] ys i h = absurd (omega (arith, h))
  get_front (x ∷ xs) ys zero h = refl
  get_front (x ∷ xs) ys (suc i) h = get_front xs ys i (omega (arith, h))

  get_behind : (xs ys : List A) (i : ℕ) → length xs ≤ i → slice_get (xs ++ ys) i ≡ slice_get ys (i - length xs)
  get_behind [] ys i h = let e : i ≡ i - 0 = omega arith in ap (slice_get ys) e
  get_behind (x ∷ xs) ys zero h = absurd (omega (arith, h))
  get_behind (x ∷ xs) ys (suc i) h = let e : i - length xs ≡ suc i - length (x ∷ xs) = omega arith in get_behind xs ys i (omega (arith, h)) ∙ ap (slice_get ys) e

module _ (run : ℕ) (listed : List End) (i : ℕ) where
  pub end_in_run : i < run → slice_get (ends_of run listed) i ≡ Some (At i)
  end_in_run h =
      let long = length-map-range_with_len At 0 run in
      let within : i < length (map At (range_with_len 0 run)) = omega (arith, h, long) in
      get_front (map At (range_with_len 0 run)) listed i within ∙ slice_get-get_or (map At (range_with_len 0 run)) i Nowhere within
      ∙ ap Some (get_or-map-range_with_len At 0 run i i Nowhere h (omega arith))

  pub end_behind : run ≤ i → slice_get (ends_of run listed) i ≡ slice_get listed (i - run)
  end_behind h =
      let long = length-map-range_with_len At 0 run in
      get_behind (map At (range_with_len 0 run)) listed i (omega (arith, h, long)) ∙ ap (λ k. slice_get listed (i - k)) long

module _ (run : ℕ) (listed : List ℕ) where
  pub counts_length : length (counts_of run listed) ≡ run + length listed
  counts_length = length-append (range_with_len 0 run) listed ∙ ap (λ k. k + length listed) (length-range_with_len 0 run)

  pub count_in_run : (i : ℕ) → i < run → slice_get (counts_of run listed) i ≡ Some i
  count_in_run i h =
      let long = length-range_with_len 0 run in
      let within : i < length (range_with_len 0 run) = omega (arith, h, long) in
      get_front (range_with_len 0 run) listed i within ∙ slice_get-get_or (range_with_len 0 run) i 0 within
      ∙ ap Some (let at = get_or-range_with_len 0 run i 0 h in omega (arith, at))

  pub count_behind : (i : ℕ) → run ≤ i → slice_get (counts_of run listed) i ≡ slice_get listed (i - run)
  count_behind i h =
      let long = length-range_with_len 0 run in
      get_behind (range_with_len 0 run) listed i (omega (arith, h, long)) ∙ ap (λ k. slice_get listed (i - k)) long

pub all_in_run : (run : ℕ) (listed : List End) → length listed ≡ 0 → ends_of run listed ≡ ends_of (length (ends_of run listed)) []
all_in_run run [] none = ap (λ k. ends_of k []) (sym long)
  where
    long : length (ends_of run []) ≡ run
    long = rw append-nil (length-map-range_with_len At 0 run)
all_in_run run (e ∷ es) none = absurd (omega (arith, none))

-- ---- the first definition whose chain never ends

no_values_endless : (fs : List Def) (a n : ℕ) → fold note_pair None (zip fs (map At (range_with_len a n) ++ [])) ≡ None
no_values_endless [] a n = refl
no_values_endless (d ∷ fs) a zero = refl
no_values_endless (d ∷ fs) a (suc n) = no_values_endless fs (a + 1) n

pub none_endless : (fs : List Def) (n : ℕ) → least_endless fs (ends_of n []) ≡ None
none_endless fs n = no_values_endless fs 0 n

-- one more definition
abbrev pub noted : Option ℕ → Def → Option End → Option ℕ
noted least d None = least
noted least d (Some e) = note_end least d.name.spot e

abbrev with_end : Def → Option End → List (Def × End)
with_end d None = []
with_end d (Some e) = (d, e) ∷ []

zip_push : (fs : List Def) (d : Def) (es : List End) → zip (fs ++ d ∷ []) es ≡ zip fs es ++ with_end d (slice_get es (length fs))
zip_push [] d [] = refl
zip_push [] d (e ∷ es) = refl
zip_push (f ∷ fs) d [] = refl
zip_push (f ∷ fs) d (e ∷ es) = ap (λ l. (f, e) ∷ l) (zip_push fs d es)

fold_end : (o : Option ℕ) (d : Def) (e : Option End) → fold note_pair o (with_end d e) ≡ noted o d e
fold_end o d None = refl
fold_end o d (Some e) = refl

pub endless_more : (fs : List Def) (es : List End) (i : ℕ) (d : Def) (e : Option End) → i < length fs → slice_get es i ≡ e
    → least_endless (take (i + 1) fs) es ≡ noted (least_endless (take i fs) es) (get_or fs i d) e
endless_more fs es i d e h at =
    let long : length (take i fs) ≡ i = length-take-le i fs (omega (arith, h)) in
    let here : slice_get es (length (take i fs)) ≡ e = ap (slice_get es) long ∙ at in
    ap (λ l. least_endless l es) (take_more fs i d h)
    ∙ ap (fold note_pair None) (zip_push (take i fs) (get_or fs i d) es)
    ∙ fold-append note_pair None (zip (take i fs) es) (with_end (get_or fs i d) (slice_get es (length (take i fs))))
    ∙ fold_end (least_endless (take i fs) es) (get_or fs i d) (slice_get es (length (take i fs)))
    ∙ ap (noted (least_endless (take i fs) es) (get_or fs i d)) here
