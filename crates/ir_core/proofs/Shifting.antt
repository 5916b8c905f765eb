-- An instruction put between the ranges of others.
use Rattle.std.proofs.Common.{◌≡◌, ℕ, zero, suc, ◌+◌, ◌-◌, ◌<◌, ◌≤◌, ◌⊎◌, inl, inr, List, [], ◌∷◌, ◌++◌, map, length, take, drop, get_or, Option, Some, None, refl, sym, ap, ap₂, ◌∙◌, subst, arith}
use Rattle.std.specs.Prelude.{slice_get, if◌then◌else◌, nat_le, true, false, Bool}
use Rattle.std.proofs.lemmas.Bool.{cases_eq, leb-true, leb-false}
use Rattle.std.proofs.Math.ListN.{set}
use Rattle.std.proofs.lemmas.Option.{slice_get_within, slice_get_read}
use Rattle.std.proofs.lemmas.List.{get_or-set_same, get_or-set_other, get_or_default, map-append}
use Rattle.ir_core.specs.declared.instructions.InstData.{InstData}
use Rattle.ir_core.specs.declared.func.BlockData.{BlockData}
use Rattle.ir_core.specs.Lists.{Different}
use Rattle.ir_core.specs.Viewed.{line_of}
use Rattle.ir_core.specs.Shift.{shifted}
use Rattle.ir_core.specs.Edits.{at_block, put_line}
use Rattle.ir_core.specs.Layout.{walk, Linked, nexts, range, block_by, block_at, order, Apart, Laid, last_of}
use Rattle.ir_core.proofs.Order.{get_set_same, get_set_other}
use Rattle.ir_core.proofs.Laying.{nexts_set, nexts_get, set_same, length_set, blocks_at}

-- lists

pub sub_before : {X : Type 0} (xs : List X) (x : X) (e s n : ℕ) → s + n ≤ e → e ≤ length xs → take n (drop s (take e xs ++ (x ∷ drop e xs))) ≡ take n (drop s xs)
sub_before xs x e s zero h l = refl
sub_before xs x zero s (suc n) h l = absurd (omega (arith, h))
sub_before [] x (suc e) s (suc n) h l = absurd (omega (arith, l))
sub_before (y ∷ xs) x (suc e) zero (suc n) h l = ap (λ r. y ∷ r) (sub_before xs x e zero n (omega (arith, h)) (omega (arith, l)))
sub_before (y ∷ xs) x (suc e) (suc s) (suc n) h l = sub_before xs x e s (suc n) (omega (arith, h)) (omega (arith, l))

pub drop_behind : {X : Type 0} (xs : List X) (x : X) (e s : ℕ) → e ≤ s → drop (suc s) (take e xs ++ (x ∷ drop e xs)) ≡ drop s xs
drop_behind xs x zero s h = refl
drop_behind [] x (suc e) s h = refl
drop_behind (y ∷ xs) x (suc e) zero h = absurd (omega (arith, h))
drop_behind (y ∷ xs) x (suc e) (suc s) h = drop_behind xs x e s (omega (arith, h))

pub sub_here : {X : Type 0} (xs : List X) (x : X) (e s n : ℕ) → e ≡ s + n → e ≤ length xs → take (suc n) (drop s (take e xs ++ (x ∷ drop e xs))) ≡ take n (drop s xs) ++ (x ∷ [])
sub_here xs x zero zero zero h l = refl
sub_here xs x zero zero (suc n) h l = absurd (omega (arith, h))
sub_here xs x zero (suc s) n h l = absurd (omega (arith, h))
sub_here [] x (suc e) s n h l = absurd (omega (arith, l))
sub_here (y ∷ xs) x (suc e) zero zero h l = absurd (omega (arith, h))
sub_here (y ∷ xs) x (suc e) zero (suc n) h l = ap (λ r. y ∷ r) (sub_here xs x e zero n (omega (arith, h)) (omega (arith, l)))
sub_here (y ∷ xs) x (suc e) (suc s) n h l = sub_here xs x e s n (omega (arith, h)) (omega (arith, l))

pub length_between : {X : Type 0} (xs : List X) (x : X) (e : ℕ) → length (take e xs ++ (x ∷ drop e xs)) ≡ length xs + 1
length_between xs x zero = omega arith
length_between [] x (suc e) = refl
length_between (y ∷ xs) x (suc e) = omega (arith, length_between xs x e)

-- moved ranges

nexts_shifted : (e : ℕ) (ks : List BlockData) → nexts (map (shifted e) ks) ≡ nexts ks
nexts_shifted e [] = refl
nexts_shifted e (k ∷ ks) = ap (λ r. k.next ∷ r) (nexts_shifted e ks)

pub length_shifted : (e : ℕ) (ks : List BlockData) → length (map (shifted e) ks) ≡ length ks
length_shifted e [] = refl
length_shifted e (k ∷ ks) = ap suc (length_shifted e ks)

pub get_shifted : (e : ℕ) (ks : List BlockData) (b : ℕ) (k : BlockData) → slice_get ks b ≡ Some k → slice_get (map (shifted e) ks) b ≡ Some (shifted e k)
get_shifted e [] b k h = cc
get_shifted e (j ∷ ks) zero k h = let q : j ≡ k = cc in ap (λ z. Some (shifted e z)) q
get_shifted e (j ∷ ks) (suc b) k h = get_shifted e ks b k h

get_shifted_none : (e : ℕ) (ks : List BlockData) (b : ℕ) → slice_get ks b ≡ None → slice_get (map (shifted e) ks) b ≡ None
get_shifted_none e [] b h = refl
get_shifted_none e (j ∷ ks) zero h = cc
get_shifted_none e (j ∷ ks) (suc b) h = get_shifted_none e ks b h

-- what is in the moved list
shifted_from : (e : ℕ) (ks : List BlockData) (b : ℕ) (y : BlockData) → slice_get (map (shifted e) ks) b ≡ Some y → (z : BlockData) × (slice_get ks b ≡ Some z) × (y ≡ shifted e z)
shifted_from e [] b y h = cc
shifted_from e (j ∷ ks) zero y h = let q : shifted e j ≡ y = cc in (j, refl, sym q)
shifted_from e (j ∷ ks) (suc b) y h = shifted_from e ks b y h

-- where a range starts after the move
pub start_moved : (e : ℕ) (k : BlockData) → ((e ≤ k.start) × ((shifted e k).start ≡ k.start + 1)) ⊎ ((k.start < e) × ((shifted e k).start ≡ k.start))
start_moved e k = go (nat_le e k.start) refl
  where
    go : (b : Bool) → nat_le e k.start ≡ b → ((e ≤ k.start) × ((shifted e k).start ≡ k.start + 1)) ⊎ ((k.start < e) × ((shifted e k).start ≡ k.start))
    go true h = inl (leb-true e k.start h, ap (λ c. if c then k.start + 1 else k.start) h)
    go false h = inr (leb-false e k.start h, ap (λ c. if c then k.start + 1 else k.start) h)

module _ (xs : List InstData) (ks : List BlockData) (o last : Option ℕ) (a : ℕ) (k : BlockData) (x : InstData) (laid : Laid xs ks o last) (old : slice_get ks a ≡ Some k) (full : k.len ≡ k.cap) (some : 0 < k.cap) (e : ℕ) (is_end : e ≡ k.start + k.len) where
  abbrev longer_k : BlockData
  longer_k = record k { len = k.len + 1; cap = k.cap + 1 }

  abbrev moved : List BlockData
  moved = map (shifted e) (set ks a longer_k)

  abbrev between : List InstData
  between = take e xs ++ (x ∷ drop e xs)

  inside : e ≤ length xs
  inside = omega (arith, is_end, full, laid.within a k old)

  nexts_moved : nexts moved ≡ nexts ks
  nexts_moved = nexts_shifted e (set ks a longer_k) ∙ (nexts_set ks a longer_k ∙ set_same (nexts ks) a k.next (nexts_get ks a k old))

  length_moved : length moved ≡ length ks
  length_moved = length_shifted e (set ks a longer_k) ∙ length_set ks a longer_k

  order_moved : order moved o ≡ order ks o
  order_moved = ap₂ (λ n l. walk n l o) nexts_moved length_moved

  -- another block's range ends before this one's, or starts behind it, or is empty
  side : (b : ℕ) (j : BlockData) → slice_get ks b ≡ Some j → (b ≡ a → ⊥) → (j.cap ≡ 0) ⊎ ((j.start + j.cap ≤ k.start) ⊎ (e ≤ j.start))
  side b j g n = go j.cap refl (split (j.start) k.start) (split j.start e)
    where
      split : (p q : ℕ) → (p < q) ⊎ (q ≤ p)
      split p zero = inr (omega arith)
      split zero (suc q) = inl (omega arith)
      split (suc p) (suc q) = elim (split p q) [ inl h ↦ inl (omega (arith, h)) | inr h ↦ inr (omega (arith, h)) ]

      go : (c : ℕ) → j.cap ≡ c → (j.start < k.start) ⊎ (k.start ≤ j.start) → (j.start < e) ⊎ (e ≤ j.start) → (j.cap ≡ 0) ⊎ ((j.start + j.cap ≤ k.start) ⊎ (e ≤ j.start))
      go zero c l r = inl c
      go (suc m) c (inl l) r =
          elim (split k.start (j.start + j.cap)) [
            | inl h ↦ absurd (laid.apart b a j k g old n k.start (omega (arith, l)) h (omega arith) (omega (arith, some)))
            | inr h ↦ inr (inl h)
          ]
      go (suc m) c (inr l) (inl r) = absurd (laid.apart b a j k g old n j.start (omega arith) (omega (arith, c)) l (omega (arith, r, is_end, full)))
      go (suc m) c (inr l) (inr r) = inr (inr r)

  -- the block itself doesn't move
  here_start : (shifted e longer_k).start ≡ k.start
  here_start = elim (start_moved e longer_k) [ inl q ↦ absurd (omega (arith, q.0, is_end, full, some)) | inr q ↦ q.1 ]

  in_moved : (b : ℕ) (y : BlockData) → slice_get moved b ≡ Some y → ((b ≡ a) × (y ≡ shifted e longer_k)) ⊎ ((b ≡ a → ⊥) × ((z : BlockData) × (slice_get ks b ≡ Some z) × (y ≡ shifted e z)))
  in_moved b y h =
      let f = shifted_from e (set ks a longer_k) b y h in
      elim (cases_eq b a) [
        | inl q ↦
            let g : slice_get (set ks a longer_k) b ≡ Some longer_k = ap (slice_get (set ks a longer_k)) q ∙ get_set_same ks a longer_k (slice_get_within ks a k old) in
            let p : longer_k ≡ f.0 = some_same longer_k f.0 (sym g ∙ f.1) in
            inl (q, f.2 ∙ ap (shifted e) (sym p))
        | inr q ↦ inr (q, (f.0, sym (get_set_other ks a b longer_k q) ∙ f.1, f.2))
      ]
    where
      some_same : (u v : BlockData) → Some u ≡ Some v → u ≡ v
      some_same u v h = cc

  here_apart : (b : ℕ) (z : BlockData) → slice_get ks b ≡ Some z → (b ≡ a → ⊥) → Apart (shifted e longer_k) (shifted e z)
  here_apart b z g n p e1 e2 e3 e4 =
      elim (side b z g n) [
        | inl c ↦ omega (arith, c, e3, e4)
        | inr q ↦ elim q [
          | inl l ↦ elim (start_moved e z) [ inl m ↦ omega (arith, m.0, l, is_end, full, e4, e3) | inr m ↦ omega (arith, m.1, l, e4, e1, here_start) ]
          | inr l ↦ elim (start_moved e z) [ inl m ↦ omega (arith, m.1, l, e3, e2, here_start, is_end, full) | inr m ↦ omega (arith, m.0, l) ]
        ]
      ]

  others_apart : (b c : ℕ) (y z : BlockData) → slice_get ks b ≡ Some y → slice_get ks c ≡ Some z → (b ≡ a → ⊥) → (c ≡ a → ⊥) → (b ≡ c → ⊥) → Apart (shifted e y) (shifted e z)
  others_apart b c y z g h nb nc n p e1 e2 e3 e4 =
      elim (start_moved e y) [
        | inl my ↦ elim (start_moved e z) [
          | inl mz ↦ laid.apart b c y z g h n (p - 1) (omega (arith, my.1, e1)) (omega (arith, my.1, e1, e2)) (omega (arith, mz.1, e3)) (omega (arith, mz.1, e3, e4))
          | inr mz ↦ elim (side c z h nc) [
            | inl q ↦ omega (arith, q, e3, e4)
            | inr q ↦ elim q [ inl l ↦ omega (arith, my.1, my.0, e1, mz.1, e4, l, is_end) | inr l ↦ omega (arith, mz.0, l) ]
          ]
        ]
        | inr my ↦ elim (start_moved e z) [
          | inl mz ↦ elim (side b y g nb) [
            | inl q ↦ omega (arith, q, e1, e2)
            | inr q ↦ elim q [ inl l ↦ omega (arith, mz.1, mz.0, e3, my.1, e2, l, is_end) | inr l ↦ omega (arith, my.0, l) ]
          ]
          | inr mz ↦ laid.apart b c y z g h n p (omega (arith, my.1, e1)) (omega (arith, my.1, e2)) (omega (arith, mz.1, e3)) (omega (arith, mz.1, e4))
        ]
      ]

  start_at_most : (z : BlockData) → (shifted e z).start ≤ z.start + 1
  start_at_most z = elim (start_moved e z) [ inl m ↦ omega (arith, m.1) | inr m ↦ omega (arith, m.1) ]

  pub moved_laid : Laid between moved o last
  moved_laid =
      record {
        linked = subst (λ z. Linked z o (order moved o)) (sym nexts_moved) (subst (Linked (nexts ks) o) (sym order_moved) laid.linked);
        different = subst Different (sym order_moved) laid.different;
        full = ap length order_moved ∙ (laid.full ∙ sym length_moved);
        ends = laid.ends ∙ ap last_of (sym order_moved);
        short = λ b y h. elim (in_moved b y h) [ inl (q, p) ↦ subst (λ (z : BlockData). z.len ≤ z.cap) (sym p) (omega (arith, full)) | inr (n, (z, g, p)) ↦ subst (λ (z : BlockData). z.len ≤ z.cap) (sym p) (laid.short b z g) ];
        within = λ b y h. elim (in_moved b y h) [
          | inl (q, p) ↦ subst (λ (z : BlockData). z.start + z.cap ≤ length between) (sym p) (omega (arith, here_start, length_between xs x e, laid.within a k old))
          | inr (n, (z, g, p)) ↦ subst (λ (z : BlockData). z.start + z.cap ≤ length between) (sym p) (omega (arith, start_at_most z, length_between xs x e, laid.within b z g))
        ];
        apart = λ b c y w h i n. elim (in_moved b y h) [
          | inl (q, p) ↦ elim (in_moved c w i) [
            | inl (q', p') ↦ absurd (n (q ∙ sym q'))
            | inr (n', (z, g, p')) ↦ subst (λ u. Apart u w) (sym p) (subst (λ u. Apart (shifted e longer_k) u) (sym p') (here_apart c z g n'))
          ]
          | inr (n', (z, g, p)) ↦ elim (in_moved c w i) [
            | inl (q', p') ↦ subst (λ u. Apart u w) (sym p) (subst (λ u. Apart (shifted e z) u) (sym p') (λ r e1 e2 e3 e4. here_apart b z g n' r e3 e4 e1 e2))
            | inr (n'', (z', g', p')) ↦ subst (λ u. Apart u w) (sym p) (subst (λ u. Apart (shifted e z) u) (sym p') (others_apart b c z z' g g' n' n'' n))
          ]
        ];
      }

  -- the lines of the others stay
  range_moved : (b : ℕ) (z : BlockData) → slice_get ks b ≡ Some z → (b ≡ a → ⊥) → range between (shifted e z) ≡ range xs z
  range_moved b z g n =
      elim (side b z g n) [
        | inl c ↦ let none : z.len ≡ 0 = omega (arith, c, laid.short b z g) in ap (λ m. map line_of (take m (drop (shifted e z).start between))) none ∙ ap (λ m. map line_of (take m (drop z.start xs))) (sym none)
        | inr q ↦ elim q [
          | inl l ↦ elim (start_moved e z) [
            | inl m ↦ let none : z.len ≡ 0 = omega (arith, m.0, l, is_end, full, laid.short b z g) in ap (λ m. map line_of (take m (drop (shifted e z).start between))) none ∙ ap (λ m. map line_of (take m (drop z.start xs))) (sym none)
            | inr m ↦ ap (λ s. map line_of (take z.len (drop s between))) m.1 ∙ ap (map line_of) (sub_before xs x e z.start z.len (omega (arith, l, is_end, laid.short b z g)) inside)
          ]
          | inr l ↦ elim (start_moved e z) [
            | inl m ↦ let up : (shifted e z).start ≡ suc z.start = omega (arith, m.1) in ap (λ s. map line_of (take z.len (drop s between))) up ∙ ap (λ r. map line_of (take z.len r)) (drop_behind xs x e z.start m.0)
            | inr m ↦ absurd (omega (arith, m.0, l))
          ]
        ]
      ]

  pub moved_blocks : map (block_at between moved) (order moved o) ≡ at_block a (put_line (line_of x)) (map (block_at xs ks) (order ks o))
  moved_blocks = ap (map (block_at between moved)) order_moved ∙ blocks_at (block_at between moved) (block_at xs ks) a (put_line (line_of x)) (order ks o) (λ b. refl) (λ b n. kept b n (slice_get ks b) refl) here
    where
      kept : (b : ℕ) → (b ≡ a → ⊥) → (p : Option BlockData) → slice_get ks b ≡ p → block_at between moved b ≡ block_by xs b (slice_get ks b)
      kept b n None g = ap (block_by between b) (get_shifted_none e (set ks a longer_k) b (get_set_other ks a b longer_k n ∙ g)) ∙ ap (block_by xs b) (sym g)
      kept b n (Some z) g = ap (block_by between b) (get_shifted e (set ks a longer_k) b z (get_set_other ks a b longer_k n ∙ g)) ∙ (ap (λ r. record { number = b; params = z.params; lines = r }) (range_moved b z g n) ∙ ap (block_by xs b) (sym g))

      here : block_at between moved a ≡ put_line (line_of x) (block_at xs ks a)
      here =
          let up : k.len + 1 ≡ suc k.len = omega arith in
          ap (block_by between a) (get_shifted e (set ks a longer_k) a longer_k (get_set_same ks a longer_k (slice_get_within ks a k old)))
          ∙ (ap₂ (λ s n. record { number = a; params = k.params; lines = map line_of (take n (drop s between)) }) here_start up
          ∙ (ap (λ r. record { number = a; params = k.params; lines = map line_of r }) (sub_here xs x e k.start k.len is_end inside)
          ∙ (ap (λ r. record { number = a; params = k.params; lines = r }) (map-append line_of (take k.len (drop k.start xs)) (x ∷ []))
          ∙ ap (λ z. put_line (line_of x) (block_by xs a z)) (sym old))))

-- where the ranges start before the move
pub starts_within : (xs : List InstData) (ks : List BlockData) (o last : Option ℕ) (a : ℕ) (k j : BlockData) → Laid xs ks o last → slice_get ks a ≡ Some k → j.start ≡ k.start → (i : ℕ) (d : BlockData) → i < length ks → (get_or (set ks a j) i d).start ≤ length xs
starts_within xs ks o last a k j laid old same i d h =
    elim (cases_eq i a) [
      | inl e ↦ omega (arith, ap (λ z. (get_or (set ks a j) z d).start) e, ap (λ (z : BlockData). z.start) (get_or-set_same ks a j d (slice_get_within ks a k old)), same, laid.within a k old)
      | inr e ↦ omega (arith, ap (λ (z : BlockData). z.start) (get_or-set_other ks a i j d e), laid.within i (get_or ks i d) (slice_get_read ks (length ks) i (get_or ks i d) refl h (get_or_default ks i d (get_or ks i d) h)))
    ]

pub shifted_up : (e : ℕ) (k : BlockData) → e ≤ k.start → shifted e k ≡ record k { start = k.start + 1 }
shifted_up e k h = elim (start_moved e k) [ inl m ↦ ap (λ s. record k { start = s }) m.1 | inr m ↦ absurd (omega (arith, h, m.0)) ]

pub shifted_stay : (e : ℕ) (k : BlockData) → k.start < e → shifted e k ≡ k
shifted_stay e k h = elim (start_moved e k) [ inl m ↦ absurd (omega (arith, h, m.0)) | inr m ↦ ap (λ s. record k { start = s }) m.1 ]

-- one more element mapped in place
mapped_step : (f : BlockData → BlockData) (xs : List BlockData) (i : ℕ) (x : BlockData) → slice_get xs i ≡ Some x → set (map f (take i xs) ++ drop i xs) i (f x) ≡ map f (take (suc i) xs) ++ drop (suc i) xs
mapped_step f [] i x h = cc
mapped_step f (y ∷ xs) zero x h = let e : y ≡ x = cc in ap (λ z. f z ∷ xs) (sym e)
mapped_step f (y ∷ xs) (suc i) x h = ap (λ r. f y ∷ r) (mapped_step f xs i x h)

mapped_get : (f : BlockData → BlockData) (xs : List BlockData) (i : ℕ) → slice_get (map f (take i xs) ++ drop i xs) i ≡ slice_get xs i
mapped_get f [] zero = refl
mapped_get f [] (suc i) = refl
mapped_get f (y ∷ xs) zero = refl
mapped_get f (y ∷ xs) (suc i) = mapped_get f xs i

pub mapped_more : (f : BlockData → BlockData) (xs ys : List BlockData) (i : ℕ) (x : BlockData) → ys ≡ map f (take i xs) ++ drop i xs → i < length ys → x ≡ get_or ys i x → set ys i (f x) ≡ map f (take (i + 1) xs) ++ drop (i + 1) xs
mapped_more f xs ys i x e h g =
    let up : suc i ≡ i + 1 = omega arith in
    ap (λ z. set z i (f x)) e
    ∙ (mapped_step f xs i x (sym (mapped_get f xs i) ∙ (ap (λ z. slice_get z i) (sym e) ∙ slice_get_read ys (length ys) i x refl h g))
    ∙ ap (λ n. map f (take n xs) ++ drop n xs) up)
