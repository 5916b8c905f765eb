-- A block's range changed.
use Rattle.std.proofs.Common.{◌≡◌, ℕ, zero, suc, ◌+◌, ◌-◌, ◌<◌, ◌≤◌, ◌⊎◌, inl, inr, List, [], ◌∷◌, ◌++◌, map, length, take, drop, get_or, Option, Some, None, refl, sym, ap, ap₂, ◌∙◌, subst, arith, eq-eqb, ne_eqb, length-append}
use Rattle.std.specs.Prelude.{slice_get, if◌then◌else◌, Result, IsOk, is_ok}
use Rattle.std.proofs.lemmas.Bool.{cases_eq}
use Rattle.std.proofs.Math.ListN.{set}
use Rattle.std.proofs.lemmas.Option.{slice_get_within, slice_get_read}
use Rattle.std.proofs.lemmas.List.{map-append}
use Rattle.ir_core.specs.Module.{Block, Line}
use Rattle.ir_core.specs.Lookup.{block_numbers}
use Rattle.ir_core.specs.declared.instructions.InstData.{InstData}
use Rattle.ir_core.specs.declared.func.BlockData.{BlockData}
use Rattle.ir_core.specs.declared.func.Func.TheInside.{Inside}
use Rattle.ir_core.specs.Lists.{In, Different}
use Rattle.ir_core.specs.Viewed.{line_of}
use Rattle.ir_core.specs.Edits.{Body, at_block, put_param, put_line, but_last, change_last, with_lines, lines_of, params_of, first_number, number_after}
use Rattle.ir_core.specs.Layout.{walk, Linked, nexts, range, params_at, lines_at, block_by, block_at, order, Apart, Laid, IsLaidOut, body_of, last_of}
use Rattle.ir_core.proofs.Ranges.{sub_push, sub_end, sub_set_out, sub_set_end, sub_last, sub_take, sub_drop, map_take, map_drop}
use Rattle.ir_core.proofs.Order.{linked_below, get_set_same, get_set_other}
use Rattle.ir_core.proofs.Laying.{names_blocks, length_nexts, nexts_set, nexts_get, set_same, length_set, blocks_at}

module _ (xs xs' : List InstData) (ks : List BlockData) (o last : Option ℕ) (a : ℕ) (k k' : BlockData) (laid : Laid xs ks o last) (old : slice_get ks a ≡ Some k) (next : k'.next ≡ k.next) (longer : length xs ≤ length xs') (short : k'.len ≤ k'.cap) (within : k'.start + k'.cap ≤ length xs') (apart : (b : ℕ) (j : BlockData) → slice_get ks b ≡ Some j → (b ≡ a → ⊥) → Apart k' j) where
  nexts_changed : nexts (set ks a k') ≡ nexts ks
  nexts_changed = nexts_set ks a k' ∙ set_same (nexts ks) a k'.next (nexts_get ks a k old ∙ ap (λ z. Some z) (sym next))

  pub order_changed : order (set ks a k') o ≡ order ks o
  order_changed = ap₂ (λ n l. walk n l o) nexts_changed (length_set ks a k')

  in_changed : (b : ℕ) (y : BlockData) → slice_get (set ks a k') b ≡ Some y → ((b ≡ a) × (y ≡ k')) ⊎ ((b ≡ a → ⊥) × (slice_get ks b ≡ Some y))
  in_changed b y h =
      elim (cases_eq b a) [
        | inl e ↦ let g : slice_get (set ks a k') b ≡ Some k' = ap (slice_get (set ks a k')) e ∙ get_set_same ks a k' (slice_get_within ks a k old) in inl (e, cc)
        | inr e ↦ inr (e, sym (get_set_other ks a b k' e) ∙ h)
      ]

  pub changed_laid : Laid xs' (set ks a k') o last
  changed_laid =
      record {
        linked = subst (λ z. Linked z o (order (set ks a k') o)) (sym nexts_changed) (subst (Linked (nexts ks) o) (sym order_changed) laid.linked);
        different = subst Different (sym order_changed) laid.different;
        full = ap length order_changed ∙ (laid.full ∙ sym (length_set ks a k'));
        ends = laid.ends ∙ ap last_of (sym order_changed);
        short = λ b y h. elim (in_changed b y h) [ inl (e, p) ↦ subst (λ (z : BlockData). z.len ≤ z.cap) (sym p) short | inr (n, g) ↦ laid.short b y g ];
        within = λ b y h. elim (in_changed b y h) [ inl (e, p) ↦ subst (λ (z : BlockData). z.start + z.cap ≤ length xs') (sym p) within | inr (n, g) ↦ omega (arith, laid.within b y g, longer) ];
        apart = λ b c y w h i n. elim (in_changed b y h) [
          | inl (e, p) ↦ elim (in_changed c w i) [ inl (e', p') ↦ absurd (n (e ∙ sym e')) | inr (n', g') ↦ subst (λ z. Apart z w) (sym p) (apart c w g' n') ]
          | inr (n', g) ↦ elim (in_changed c w i) [ inl (e', p') ↦ subst (λ z. Apart y z) (sym p') ((λ p e1 e2 e3 e4. apart b y g n' p e3 e4 e1 e2)) | inr (n'', g') ↦ laid.apart b c y w g g' n ]
        ];
      }

  pub changed_blocks : (g : Block → Block) → ((b : ℕ) (j : BlockData) → slice_get ks b ≡ Some j → (b ≡ a → ⊥) → range xs' j ≡ range xs j) → block_by xs' a (Some k') ≡ g (block_by xs a (Some k)) → map (block_at xs' (set ks a k')) (order (set ks a k') o) ≡ at_block a g (map (block_at xs ks) (order ks o))
  changed_blocks g others inside = ap (map (block_at xs' (set ks a k'))) order_changed ∙ blocks_at (block_at xs' (set ks a k')) (block_at xs ks) a g (order ks o) (λ b. refl) (λ b n. ap (block_by xs' b) (get_set_other ks a b k' n) ∙ kept b n (slice_get ks b) refl) here
    where
      kept : (b : ℕ) → (b ≡ a → ⊥) → (p : Option BlockData) → slice_get ks b ≡ p → block_by xs' b p ≡ block_by xs b p
      kept b n None e = refl
      kept b n (Some j) e = ap (λ r. record { number = b; params = j.params; lines = r }) (others b j e n)

      here : block_at xs' (set ks a k') a ≡ g (block_at xs ks a)
      here = ap (block_by xs' a) (get_set_same ks a k' (slice_get_within ks a k old)) ∙ (inside ∙ ap (λ z. g (block_by xs a z)) (sym old))

  -- the old blocks from the new
  pub restored_blocks : (g : Block → Block) → ((b : ℕ) (j : BlockData) → slice_get ks b ≡ Some j → (b ≡ a → ⊥) → range xs' j ≡ range xs j) → block_by xs a (Some k) ≡ g (block_by xs' a (Some k')) → map (block_at xs ks) (order ks o) ≡ at_block a g (map (block_at xs' (set ks a k')) (order (set ks a k') o))
  restored_blocks g others inside = blocks_at (block_at xs ks) (block_at xs' (set ks a k')) a g (order ks o) (λ b. refl) (λ b n. sym (ap (block_by xs' b) (get_set_other ks a b k' n) ∙ kept b n (slice_get ks b) refl)) here ∙ ap (λ z. at_block a g (map (block_at xs' (set ks a k')) z)) (sym order_changed)
    where
      kept : (b : ℕ) → (b ≡ a → ⊥) → (p : Option BlockData) → slice_get ks b ≡ p → block_by xs' b p ≡ block_by xs b p
      kept b n None e = refl
      kept b n (Some j) e = ap (λ r. record { number = b; params = j.params; lines = r }) (others b j e n)

      here : block_at xs ks a ≡ g (block_at xs' (set ks a k') a)
      here = ap (block_by xs a) old ∙ (inside ∙ ap (λ z. g (block_by xs' a z)) (sym (get_set_same ks a k' (slice_get_within ks a k old))))

-- the lines of a block changed alone
abbrev lines_put : List InstData → ℕ → BlockData → List Line → Block
lines_put xs a k ls = record { number = a; params = k.params; lines = ls }

one : (n : ℕ) → n + 1 ≡ suc n
one n = omega arith

less : (n : ℕ) → 0 < n → n ≡ suc (n - 1)
less n h = omega (arith, h)

split : (p e : ℕ) → (p < e) ⊎ (e ≤ p)
split p zero = inr (omega arith)
split zero (suc e) = inl (omega arith)
split (suc p) (suc e) = elim (split p e) [ inl q ↦ inl (omega (arith, q)) | inr q ↦ inr (omega (arith, q)) ]

outside : (p s e : ℕ) → (s ≤ p → p < e → ⊥) → (p < s) ⊎ (e ≤ p)
outside p s e h = elim (split p s) [ inl q ↦ inl q | inr q ↦ elim (split p e) [ inl r ↦ absurd (h q r) | inr r ↦ inr r ] ]

pub but_last_end : (ls : List Line) (l : Line) → but_last (ls ++ (l ∷ [])) ≡ ls
but_last_end [] l = refl
but_last_end (x ∷ []) l = refl
but_last_end (x ∷ (y ∷ ls)) l = ap (λ r. x ∷ r) (but_last_end (y ∷ ls) l)

-- what stands for a line

pub lines_found : (xs : List InstData) (ks : List BlockData) (bs : List ℕ) (a : ℕ) (k : BlockData) → In a bs → slice_get ks a ≡ Some k → lines_of a (map (block_at xs ks) bs) ≡ range xs k
lines_found xs ks [] a k i h = elim i [ ]
lines_found xs ks (b ∷ bs) a k i h =
    elim (cases_eq b a) [
      | inl e ↦ ap (λ c. if c then (block_at xs ks b).lines else lines_of a (map (block_at xs ks) bs)) (eq-eqb b a e) ∙ (ap (λ z. lines_at xs (slice_get ks z)) e ∙ ap (lines_at xs) h)
      | inr e ↦ ap (λ c. if c then (block_at xs ks b).lines else lines_of a (map (block_at xs ks) bs)) (ne_eqb b a e) ∙ lines_found xs ks bs a k (elim i [ inl q ↦ absurd (e (sym q)) | inr r ↦ r ]) h
    ]

pub range_push : (xs : List InstData) (x : InstData) (k : BlockData) → k.start + k.len ≤ length xs → range (xs ++ (x ∷ [])) k ≡ range xs k
range_push xs x k h = ap (map line_of) (sub_push xs x k.start k.len h)

pub range_set : (xs : List InstData) (p : ℕ) (x : InstData) (k : BlockData) → (p < k.start) ⊎ (k.start + k.len ≤ p) → range (set xs p x) k ≡ range xs k
range_set xs p x k h = ap (map line_of) (sub_set_out xs p x k.start k.len h)

module _ (xs : List InstData) (ks : List BlockData) (o last : Option ℕ) (a : ℕ) (k : BlockData) (x : InstData) (laid : Laid xs ks o last) (old : slice_get ks a ≡ Some k) where
  others_push : (b : ℕ) (j : BlockData) → slice_get ks b ≡ Some j → (b ≡ a → ⊥) → range (xs ++ (x ∷ [])) j ≡ range xs j
  others_push b j g n = range_push xs x j (omega (arith, laid.short b j g, laid.within b j g))

  others_set : (p : ℕ) → k.start ≤ p → p < k.start + k.cap → (b : ℕ) (j : BlockData) → slice_get ks b ≡ Some j → (b ≡ a → ⊥) → range (set xs p x) j ≡ range xs j
  others_set p lo hi b j g n = range_set xs p x j (elim (outside p j.start (j.start + j.cap) (λ u v. laid.apart b a j k g old n p u v lo hi)) [ inl q ↦ inl q | inr q ↦ inr (omega (arith, q, laid.short b j g)) ])

  -- an instruction put in the space after a block
  module _ (room : k.len < k.cap) where
    abbrev gap_k : BlockData
    gap_k = record k { len = k.len + 1 }

    gap_apart : (b : ℕ) (j : BlockData) → slice_get ks b ≡ Some j → (b ≡ a → ⊥) → Apart gap_k j
    gap_apart b j g n = laid.apart a b k j old g (λ e. n (sym e))

    pub gap_laid : Laid (set xs (k.start + k.len) x) (set ks a gap_k) o last
    gap_laid = changed_laid xs (set xs (k.start + k.len) x) ks o last a k gap_k laid old refl (omega (arith, length_set xs (k.start + k.len) x)) (omega (arith, room)) (omega (arith, laid.within a k old, length_set xs (k.start + k.len) x)) gap_apart

    pub gap_blocks : map (block_at (set xs (k.start + k.len) x) (set ks a gap_k)) (order (set ks a gap_k) o) ≡ at_block a (put_line (line_of x)) (map (block_at xs ks) (order ks o))
    gap_blocks =
        changed_blocks xs (set xs (k.start + k.len) x) ks o last a k gap_k laid old refl (omega (arith, length_set xs (k.start + k.len) x)) (omega (arith, room)) (omega (arith, laid.within a k old, length_set xs (k.start + k.len) x)) gap_apart (put_line (line_of x)) (others_set (k.start + k.len) (omega arith) (omega (arith, room)))
        (ap (lines_put xs a k) (ap (λ n. map line_of (take n (drop k.start (set xs (k.start + k.len) x)))) (one k.len) ∙ (ap (map line_of) (sub_set_end xs x k.start k.len (k.start + k.len) refl (omega (arith, room, laid.within a k old))) ∙ map-append line_of (take k.len (drop k.start xs)) (x ∷ []))))

  -- at the end of the arena
  module _ (full : k.len ≡ k.cap) (at_end : k.start + k.cap ≡ length xs) where
    abbrev end_k : BlockData
    end_k = record k { len = k.len + 1; cap = k.cap + 1 }

    long : length (xs ++ (x ∷ [])) ≡ length xs + 1
    long = length-append xs (x ∷ [])

    end_apart : (b : ℕ) (j : BlockData) → slice_get ks b ≡ Some j → (b ≡ a → ⊥) → Apart end_k j
    end_apart b j g n p e1 e2 e3 e4 = laid.apart a b k j old g (λ e. n (sym e)) p e1 (omega (arith, at_end, laid.within b j g, e4)) e3 e4

    pub end_laid : Laid (xs ++ (x ∷ [])) (set ks a end_k) o last
    end_laid = changed_laid xs (xs ++ (x ∷ [])) ks o last a k end_k laid old refl (omega (arith, long)) (omega (arith, full)) (omega (arith, at_end, long)) end_apart

    pub end_blocks : map (block_at (xs ++ (x ∷ [])) (set ks a end_k)) (order (set ks a end_k) o) ≡ at_block a (put_line (line_of x)) (map (block_at xs ks) (order ks o))
    end_blocks =
        changed_blocks xs (xs ++ (x ∷ [])) ks o last a k end_k laid old refl (omega (arith, long)) (omega (arith, full)) (omega (arith, at_end, long)) end_apart (put_line (line_of x)) others_push
        (ap (lines_put xs a k) (ap (λ n. map line_of (take n (drop k.start (xs ++ (x ∷ []))))) (one k.len) ∙ (ap (map line_of) (sub_end xs x k.start k.len (omega (arith, full, at_end))) ∙ map-append line_of (take k.len (drop k.start xs)) (x ∷ []))))

  -- the first of a block
  module _ (empty : k.cap ≡ 0) (k' : BlockData) (next : k'.next ≡ k.next) (params : k'.params ≡ k.params) (start : k'.start ≡ length xs) (len : k'.len ≡ 1) (cap : k'.cap ≡ 1) where
    first_long : length (xs ++ (x ∷ [])) ≡ length xs + 1
    first_long = length-append xs (x ∷ [])

    first_apart : (b : ℕ) (j : BlockData) → slice_get ks b ≡ Some j → (b ≡ a → ⊥) → Apart k' j
    first_apart b j g n p e1 e2 e3 e4 = omega (arith, laid.within b j g, e1, e4, start)

    pub first_laid : Laid (xs ++ (x ∷ [])) (set ks a k') o last
    first_laid = changed_laid xs (xs ++ (x ∷ [])) ks o last a k k' laid old next (omega (arith, first_long)) (omega (arith, len, cap)) (omega (arith, first_long, start, cap)) first_apart

    pub first_blocks : map (block_at (xs ++ (x ∷ [])) (set ks a k')) (order (set ks a k') o) ≡ at_block a (put_line (line_of x)) (map (block_at xs ks) (order ks o))
    first_blocks =
        let none : k.len ≡ 0 = omega (arith, empty, laid.short a k old) in
        changed_blocks xs (xs ++ (x ∷ [])) ks o last a k k' laid old next (omega (arith, first_long)) (omega (arith, len, cap)) (omega (arith, first_long, start, cap)) first_apart (put_line (line_of x)) others_push
        (ap₂ (λ p r. record { number = a; params = p; lines = r }) params
        (ap₂ (λ n s. map line_of (take n (drop s (xs ++ (x ∷ []))))) len start
        ∙ (ap (map line_of) (sub_end xs x (length xs) 0 (omega arith)) ∙ ap (λ n. map line_of (take n (drop k.start xs)) ++ (line_of x ∷ [])) (sym none))))

  -- the last taken away, and another put in its place
  module _ (dead : InstData) (some : 0 < k.len) (at : slice_get xs (k.start + (k.len - 1)) ≡ Some x) where
    abbrev less_k : BlockData
    less_k = record k { len = k.len - 1 }

    less_apart : (b : ℕ) (j : BlockData) → slice_get ks b ≡ Some j → (b ≡ a → ⊥) → Apart less_k j
    less_apart b j g n = laid.apart a b k j old g (λ e. n (sym e))

    less_others : (b : ℕ) (j : BlockData) → slice_get ks b ≡ Some j → (b ≡ a → ⊥) → range (set xs (k.start + (k.len - 1)) dead) j ≡ range xs j
    less_others b j g n = range_set xs (k.start + (k.len - 1)) dead j (elim (outside (k.start + (k.len - 1)) j.start (j.start + j.cap) (λ u v. laid.apart b a j k g old n (k.start + (k.len - 1)) u v (omega arith) (omega (arith, some, laid.short a k old)))) [ inl q ↦ inl q | inr q ↦ inr (omega (arith, q, laid.short b j g)) ])

    pub less_laid : Laid (set xs (k.start + (k.len - 1)) dead) (set ks a less_k) o last
    less_laid = changed_laid xs (set xs (k.start + (k.len - 1)) dead) ks o last a k less_k laid old refl (omega (arith, length_set xs (k.start + (k.len - 1)) dead)) (omega (arith, laid.short a k old)) (omega (arith, laid.within a k old, length_set xs (k.start + (k.len - 1)) dead)) less_apart

    pub less_blocks : map (block_at xs ks) (order ks o) ≡ at_block a (put_line (line_of x)) (map (block_at (set xs (k.start + (k.len - 1)) dead) (set ks a less_k)) (order (set ks a less_k) o))
    less_blocks =
        restored_blocks xs (set xs (k.start + (k.len - 1)) dead) ks o last a k less_k laid old refl (omega (arith, length_set xs (k.start + (k.len - 1)) dead)) (omega (arith, laid.short a k old)) (omega (arith, laid.within a k old, length_set xs (k.start + (k.len - 1)) dead)) less_apart (put_line (line_of x)) less_others
        (ap (lines_put xs a k) (ap (λ n. map line_of (take n (drop k.start xs))) (less k.len some) ∙ (ap (map line_of) (sub_last xs x k.start (k.len - 1) (k.start + (k.len - 1)) refl at) ∙ (map-append line_of (take (k.len - 1) (drop k.start xs)) (x ∷ []) ∙ ap (λ r. r ++ (line_of x ∷ [])) (sym (range_set xs (k.start + (k.len - 1)) dead less_k (inr (omega arith))))))))

-- another instruction in the place of the last
module _ (xs : List InstData) (ks : List BlockData) (o last : Option ℕ) (a : ℕ) (k : BlockData) (x y : InstData) (laid : Laid xs ks o last) (old : slice_get ks a ≡ Some k) (some : 0 < k.len) (at : slice_get xs (k.start + (k.len - 1)) ≡ Some y) where
  last_apart : (b : ℕ) (j : BlockData) → slice_get ks b ≡ Some j → (b ≡ a → ⊥) → Apart k j
  last_apart b j g n = laid.apart a b k j old g (λ e. n (sym e))

  last_others : (b : ℕ) (j : BlockData) → slice_get ks b ≡ Some j → (b ≡ a → ⊥) → range (set xs (k.start + (k.len - 1)) x) j ≡ range xs j
  last_others b j g n = range_set xs (k.start + (k.len - 1)) x j (elim (outside (k.start + (k.len - 1)) j.start (j.start + j.cap) (λ u v. laid.apart b a j k g old n (k.start + (k.len - 1)) u v (omega arith) (omega (arith, some, laid.short a k old)))) [ inl q ↦ inl q | inr q ↦ inr (omega (arith, q, laid.short b j g)) ])

  pub last_laid : Laid (set xs (k.start + (k.len - 1)) x) ks o last
  last_laid = subst (λ z. Laid (set xs (k.start + (k.len - 1)) x) z o last) (set_same ks a k old) (changed_laid xs (set xs (k.start + (k.len - 1)) x) ks o last a k k laid old refl (omega (arith, length_set xs (k.start + (k.len - 1)) x)) (laid.short a k old) (omega (arith, laid.within a k old, length_set xs (k.start + (k.len - 1)) x)) last_apart)

  last_inside : range (set xs (k.start + (k.len - 1)) x) k ≡ but_last (range xs k) ++ (line_of x ∷ [])
  last_inside =
      let before : range xs k ≡ map line_of (take (k.len - 1) (drop k.start xs)) ++ (line_of y ∷ []) = ap (λ n. map line_of (take n (drop k.start xs))) (less k.len some) ∙ (ap (map line_of) (sub_last xs y k.start (k.len - 1) (k.start + (k.len - 1)) refl at) ∙ map-append line_of (take (k.len - 1) (drop k.start xs)) (y ∷ [])) in
      ap (λ n. map line_of (take n (drop k.start (set xs (k.start + (k.len - 1)) x)))) (less k.len some) ∙ (ap (map line_of) (sub_set_end xs x k.start (k.len - 1) (k.start + (k.len - 1)) refl (slice_get_within xs (k.start + (k.len - 1)) y at)) ∙ (map-append line_of (take (k.len - 1) (drop k.start xs)) (x ∷ []) ∙ ap (λ z. z ++ (line_of x ∷ [])) (sym (ap but_last before ∙ but_last_end (map line_of (take (k.len - 1) (drop k.start xs))) (line_of y)))))

  pub last_blocks : map (block_at (set xs (k.start + (k.len - 1)) x) ks) (order ks o) ≡ at_block a (change_last (line_of x)) (map (block_at xs ks) (order ks o))
  last_blocks = ap (λ z. map (block_at (set xs (k.start + (k.len - 1)) x) z) (order z o)) (sym (set_same ks a k old)) ∙ changed_blocks xs (set xs (k.start + (k.len - 1)) x) ks o last a k k laid old refl (omega (arith, length_set xs (k.start + (k.len - 1)) x)) (laid.short a k old) (omega (arith, laid.within a k old, length_set xs (k.start + (k.len - 1)) x)) last_apart (change_last (line_of x)) last_others (ap (lines_put xs a k) last_inside)

-- a block cut in two
module _ (xs : List InstData) (ks : List BlockData) (o last : Option ℕ) (a c i : ℕ) (k j : BlockData) (laid : Laid xs ks o last) (there : In a (order ks o)) (old : slice_get ks a ≡ Some k) (other : (a ≡ c → ⊥)) (at_i : i ≤ k.len) where
  abbrev cut_k : BlockData
  cut_k = record k { len = i; cap = i }

  abbrev cut_j : BlockData
  cut_j = record j { start = k.start + i; len = k.len - i; cap = k.cap - i }

  cut_apart : (b : ℕ) (y : BlockData) → slice_get ks b ≡ Some y → (b ≡ a → ⊥) → Apart cut_k y
  cut_apart b y g n p e1 e2 e3 e4 = laid.apart a b k y old g (λ e. n (sym e)) p e1 (omega (arith, e2, at_i, laid.short a k old)) e3 e4

  one_laid : Laid xs (set ks a cut_k) o last
  one_laid = changed_laid xs xs ks o last a k cut_k laid old refl (omega arith) (omega arith) (omega (arith, laid.within a k old, at_i, laid.short a k old)) cut_apart

  module _ (found : slice_get (set ks a cut_k) c ≡ Some j) where
    two_apart : (b : ℕ) (y : BlockData) → slice_get (set ks a cut_k) b ≡ Some y → (b ≡ c → ⊥) → Apart cut_j y
    two_apart b y g n =
        elim (cases_eq b a) [
          | inl e ↦ let h : slice_get (set ks a cut_k) b ≡ Some cut_k = ap (slice_get (set ks a cut_k)) e ∙ get_set_same ks a cut_k (slice_get_within ks a k old) in let s : cut_k ≡ y = cc in subst (λ z. Apart cut_j z) s (λ p e1 e2 e3 e4. omega (arith, e1, e4))
          | inr e ↦ (λ p e1 e2 e3 e4. laid.apart a b k y old (sym (get_set_other ks a b cut_k e) ∙ g) (λ q. e (sym q)) p (omega (arith, e1)) (omega (arith, e2, at_i, laid.short a k old)) e3 e4)
        ]

    pub cut_laid : Laid xs (set (set ks a cut_k) c cut_j) o last
    cut_laid = changed_laid xs xs (set ks a cut_k) o last c j cut_j one_laid found refl (omega arith) (omega (arith, laid.short a k old)) (omega (arith, laid.within a k old, at_i, laid.short a k old)) two_apart

    pub cut_blocks : map (block_at xs (set (set ks a cut_k) c cut_j)) (order (set (set ks a cut_k) c cut_j) o) ≡ at_block c (with_lines (drop i (range xs k))) (at_block a (with_lines (take i (range xs k))) (map (block_at xs ks) (order ks o)))
    cut_blocks =
        changed_blocks xs xs (set ks a cut_k) o last c j cut_j one_laid found refl (omega arith) (omega (arith, laid.short a k old)) (omega (arith, laid.within a k old, at_i, laid.short a k old)) two_apart (with_lines (drop i (range xs k))) (λ b y g n. refl)
        (ap (lines_put xs c j) (ap (map line_of) (sub_drop xs k.start k.len i (k.len - i) (k.start + i) (omega (arith, at_i)) refl) ∙ map_drop line_of i (take k.len (drop k.start xs))))
        ∙ ap (at_block c (with_lines (drop i (range xs k))))
        (changed_blocks xs xs ks o last a k cut_k laid old refl (omega arith) (omega arith) (omega (arith, laid.within a k old, at_i, laid.short a k old)) cut_apart (with_lines (take i (range xs k))) (λ b y g n. refl)
        (ap (lines_put xs a k) (ap (map line_of) (sub_take (drop k.start xs) k.len i at_i) ∙ map_take line_of i (take k.len (drop k.start xs)))))

-- a block of the view is in the arena

pub present : (s : Inside) (v : Body) (a : ℕ) → IsLaidOut s → body_of s ≡ v → In a (block_numbers v.function.blocks) → In a (order s.blocks.items s.first)
present s v a laid is i = subst (In a) (names_blocks s.insts.items s.blocks.items (order s.blocks.items s.first)) (subst (λ z. In a (block_numbers z.function.blocks)) (sym is) i)

pub below : (s : Inside) (v : Body) (a : ℕ) → IsLaidOut s → body_of s ≡ v → In a (block_numbers v.function.blocks) → a < length s.blocks.items
below s v a laid is i = omega (arith, linked_below (nexts s.blocks.items) s.first (order s.blocks.items s.first) a laid.laid.linked (present s v a laid is i), length_nexts s.blocks.items)

pub found : (s : Inside) (v : Body) (a : ℕ) (k : BlockData) → IsLaidOut s → body_of s ≡ v → In a (block_numbers v.function.blocks) → k ≡ get_or s.blocks.items a k → slice_get s.blocks.items a ≡ Some k
found s v a k laid is i e = slice_get_read s.blocks.items (length s.blocks.items) a k refl (below s v a laid is i) e

pub lines_seen : (s : Inside) (v : Body) (a : ℕ) (k : BlockData) → IsLaidOut s → body_of s ≡ v → In a (block_numbers v.function.blocks) → slice_get s.blocks.items a ≡ Some k → lines_of a v.function.blocks ≡ range s.insts.items k
lines_seen s v a k laid is i g = ap (λ z. lines_of a z.function.blocks) (sym is) ∙ lines_found s.insts.items s.blocks.items (order s.blocks.items s.first) a k (present s v a laid is i) g

-- the block of a number that a call of `number` answered
pub named : (v : Body) (n a : ℕ) → n ≡ a → In a (block_numbers v.function.blocks) → In n (block_numbers v.function.blocks)
named v n a e i = subst (λ z. In z (block_numbers v.function.blocks)) (sym e) i

pub inside_arena : (s : Inside) (v : Body) (a : ℕ) (k : BlockData) → IsLaidOut s → body_of s ≡ v → In a (block_numbers v.function.blocks) → k ≡ get_or s.blocks.items a k → k.start + k.len ≤ length s.insts.items
inside_arena s v a k laid is i e = let g : slice_get s.blocks.items a ≡ Some k = found s v a k laid is i e in omega (arith, laid.laid.within a k g, laid.laid.short a k g)

pub length_range : (xs : List InstData) (k : BlockData) → k.start + k.len ≤ length xs → length (range xs k) ≡ k.len
length_range xs k h = length_map line_of (take k.len (drop k.start xs)) ∙ length_sub xs k.start k.len h
  where
    length_map : {X Y : Type 0} (f : X → Y) (l : List X) → length (map f l) ≡ length l
    length_map f [] = refl
    length_map f (y ∷ ys) = ap suc (length_map f ys)

    length_sub : {X : Type 0} (l : List X) (s n : ℕ) → s + n ≤ length l → length (take n (drop s l)) ≡ n
    length_sub l s zero h = refl
    length_sub [] s (suc n) h = absurd (omega (arith, h))
    length_sub (y ∷ l) zero (suc n) h = ap suc (length_sub l zero n (omega (arith, h)))
    length_sub (y ∷ l) (suc s) (suc n) h = length_sub l s (suc n) (omega (arith, h))

-- a block with lines has a length
pub some_len : (xs : List InstData) (k : BlockData) → (range xs k ≡ [] → ⊥) → 0 < k.len
some_len xs k h = go k.len refl
  where
    go : (n : ℕ) → k.len ≡ n → 0 < k.len
    go zero e = absurd (h (ap (λ n. map line_of (take n (drop k.start xs))) e))
    go (suc n) e = omega (arith, e)

-- an arena made longer by a list

pub range_more : (xs ys : List InstData) (k : BlockData) → k.start + k.len ≤ length xs → range (xs ++ ys) k ≡ range xs k
range_more xs ys k h = ap (map line_of) (go xs k.start k.len h)
  where
    go : (l : List InstData) (s n : ℕ) → s + n ≤ length l → take n (drop s (l ++ ys)) ≡ take n (drop s l)
    go l s zero h = refl
    go [] s (suc n) h = absurd (omega (arith, h))
    go (y ∷ l) zero (suc n) h = ap (λ r. y ∷ r) (go l zero n (omega (arith, h)))
    go (y ∷ l) (suc s) (suc n) h = go l s (suc n) (omega (arith, h))

pub if_ok : {T E X : Type 0} (r : Result T E) (a b : X) → IsOk r → (if is_ok r then a else b) ≡ a
if_ok r a b h = ap (λ c. if c then a else b) h

pub params_found : (xs : List InstData) (ks : List BlockData) (bs : List ℕ) (a : ℕ) (k : BlockData) → In a bs → slice_get ks a ≡ Some k → params_of a (map (block_at xs ks) bs) ≡ k.params
params_found xs ks [] a k i h = elim i [ ]
params_found xs ks (b ∷ bs) a k i h =
    elim (cases_eq b a) [
      | inl e ↦ ap (λ c. if c then (block_at xs ks b).params else params_of a (map (block_at xs ks) bs)) (eq-eqb b a e) ∙ (ap (λ z. params_at (slice_get ks z)) e ∙ ap params_at h)
      | inr e ↦ ap (λ c. if c then (block_at xs ks b).params else params_of a (map (block_at xs ks) bs)) (ne_eqb b a e) ∙ params_found xs ks bs a k (elim i [ inl q ↦ absurd (e (sym q)) | inr r ↦ r ]) h
    ]

first_linked : (xs : List InstData) (ks : List BlockData) (o : Option ℕ) (bs : List ℕ) → Linked (nexts ks) o bs → first_number (map (block_at xs ks) bs) ≡ o
first_linked xs ks o [] l = sym l
first_linked xs ks o (b ∷ bs) l = sym l.0

pub next_found : (xs : List InstData) (ks : List BlockData) (o : Option ℕ) (bs : List ℕ) (a : ℕ) (k : BlockData) → Linked (nexts ks) o bs → In a bs → slice_get ks a ≡ Some k → number_after a (map (block_at xs ks) bs) ≡ k.next
next_found xs ks o [] a k l i h = elim i [ ]
next_found xs ks o (b ∷ bs) a k (e, (p, g, l)) i h =
    elim (cases_eq b a) [
      | inl q ↦
          let g' : slice_get (nexts ks) a ≡ Some p = subst (λ z. slice_get (nexts ks) z ≡ Some p) q g in
          let same : p ≡ k.next = some_next p k.next (sym g' ∙ nexts_get ks a k h) in
          ap (λ c. if c then first_number (map (block_at xs ks) bs) else number_after a (map (block_at xs ks) bs)) (eq-eqb b a q) ∙ (first_linked xs ks p bs l ∙ same)
      | inr q ↦ ap (λ c. if c then first_number (map (block_at xs ks) bs) else number_after a (map (block_at xs ks) bs)) (ne_eqb b a q) ∙ next_found xs ks p bs a k l (elim i [ inl z ↦ absurd (q (sym z)) | inr r ↦ r ]) h
    ]
  where
    some_next : (x y : Option ℕ) → Some x ≡ Some y → x ≡ y
    some_next x y e = cc

-- a parameter put at a block's end
module _ (xs : List InstData) (ks : List BlockData) (o last : Option ℕ) (a v : ℕ) (k k' : BlockData) (laid : Laid xs ks o last) (old : slice_get ks a ≡ Some k) (start : k'.start ≡ k.start) (len : k'.len ≡ k.len) (cap : k'.cap ≡ k.cap) (next : k'.next ≡ k.next) (params : k'.params ≡ k.params ++ (v ∷ [])) where
  param_apart : (b : ℕ) (j : BlockData) → slice_get ks b ≡ Some j → (b ≡ a → ⊥) → Apart k' j
  param_apart b j g n p e1 e2 e3 e4 = laid.apart a b k j old g (λ e. n (sym e)) p (omega (arith, e1, start)) (omega (arith, e2, start, cap)) e3 e4

  pub param_laid : Laid xs (set ks a k') o last
  param_laid = changed_laid xs xs ks o last a k k' laid old next (omega arith) (omega (arith, len, cap, laid.short a k old)) (omega (arith, start, cap, laid.within a k old)) param_apart

  pub param_blocks : map (block_at xs (set ks a k')) (order (set ks a k') o) ≡ at_block a (put_param v) (map (block_at xs ks) (order ks o))
  param_blocks =
      changed_blocks xs xs ks o last a k k' laid old next (omega arith) (omega (arith, len, cap, laid.short a k old)) (omega (arith, start, cap, laid.within a k old)) param_apart (put_param v) (λ b y g n. refl)
      (ap₂ (λ p r. record { number = a; params = p; lines = r }) params (ap₂ (λ l s. map line_of (take l (drop s xs))) len start))

-- a block's parameters held elsewhere
at_block_same : (a : ℕ) (bs : List Block) → at_block a (λ b. b) bs ≡ bs
at_block_same a [] = refl
at_block_same a (b ∷ bs) = elim (cases_eq b.number a) [
  | inl e ↦ ap₂ (λ x xs. x ∷ xs) (ap (λ c. if c then b else b) (eq-eqb b.number a e)) (at_block_same a bs)
  | inr e ↦ ap₂ (λ x xs. x ∷ xs) (ap (λ c. if c then b else b) (ne_eqb b.number a e)) (at_block_same a bs)
]

module _ (xs : List InstData) (ks : List BlockData) (o last : Option ℕ) (a : ℕ) (k k' : BlockData) (laid : Laid xs ks o last) (old : slice_get ks a ≡ Some k) (start : k'.start ≡ k.start) (len : k'.len ≡ k.len) (cap : k'.cap ≡ k.cap) (next : k'.next ≡ k.next) (params : k'.params ≡ k.params) where
  held_apart : (b : ℕ) (j : BlockData) → slice_get ks b ≡ Some j → (b ≡ a → ⊥) → Apart k' j
  held_apart b j g n p e1 e2 e3 e4 = laid.apart a b k j old g (λ e. n (sym e)) p (omega (arith, e1, start)) (omega (arith, e2, start, cap)) e3 e4

  pub held_laid : Laid xs (set ks a k') o last
  held_laid = changed_laid xs xs ks o last a k k' laid old next (omega arith) (omega (arith, len, cap, laid.short a k old)) (omega (arith, start, cap, laid.within a k old)) held_apart

  pub held_blocks : map (block_at xs (set ks a k')) (order (set ks a k') o) ≡ map (block_at xs ks) (order ks o)
  held_blocks =
      changed_blocks xs xs ks o last a k k' laid old next (omega arith) (omega (arith, len, cap, laid.short a k old)) (omega (arith, start, cap, laid.within a k old)) held_apart (λ b. b) (λ b y g n. refl)
      (ap₂ (λ p r. record { number = a; params = p; lines = r }) params (ap₂ (λ l s. map line_of (take l (drop s xs))) len start))
      ∙ at_block_same a (map (block_at xs ks) (order ks o))
