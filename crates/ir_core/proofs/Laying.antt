-- What the calls make of the arenas.
use Rattle.std.proofs.Common.{◌≡◌, ℕ, zero, suc, ◌+◌, ◌<◌, ◌≤◌, ◌⊎◌, inl, inr, List, [], ◌∷◌, ◌++◌, map, length, Option, Some, None, refl, sym, ap, ap₂, ◌∙◌, subst, arith, eq-eqb, ne_eqb, length-append}
use Rattle.std.specs.Prelude.{if◌then◌else◌, slice_get}
use Rattle.std.proofs.lemmas.Bool.{cases_eq}
use Rattle.std.proofs.Math.ListN.{set}
use Rattle.std.proofs.lemmas.Option.{slice_get_within}
use Rattle.ir_core.specs.Module.{Block}
use Rattle.ir_core.specs.Lookup.{block_numbers}
use Rattle.ir_core.specs.Lists.{In, Different}
use Rattle.ir_core.specs.declared.instructions.InstData.{InstData}
use Rattle.ir_core.specs.declared.func.BlockData.{BlockData}
use Rattle.ir_core.specs.Edits.{at_block, insert_after}
use Rattle.ir_core.specs.Layout.{Linked, nexts, range, block_by, block_at, order, Laid, last_of}
use Rattle.ir_core.proofs.Order.{get_set_same, get_set_other, get_push_old, get_push_new, get_push_below, get_push_cases, length_walk, walk_linked, linked_below, put_after, put_after_hit, put_after_miss, length_put_after, different_put_after, linked_insert}

-- next blocks

pub nexts_push : (ks : List BlockData) (x : BlockData) → nexts (ks ++ (x ∷ [])) ≡ nexts ks ++ (x.next ∷ [])
nexts_push [] x = refl
nexts_push (k ∷ ks) x = ap (λ r. k.next ∷ r) (nexts_push ks x)

pub nexts_set : (ks : List BlockData) (a : ℕ) (x : BlockData) → nexts (set ks a x) ≡ set (nexts ks) a x.next
nexts_set [] a x = refl
nexts_set (k ∷ ks) zero x = refl
nexts_set (k ∷ ks) (suc a) x = ap (λ r. k.next ∷ r) (nexts_set ks a x)

pub nexts_get : (ks : List BlockData) (a : ℕ) (k : BlockData) → slice_get ks a ≡ Some k → slice_get (nexts ks) a ≡ Some k.next
nexts_get [] a k h = cc
nexts_get (j ∷ ks) zero k h = let e : j ≡ k = cc in ap (λ z. Some z.next) e
nexts_get (j ∷ ks) (suc a) k h = nexts_get ks a k h

pub length_nexts : (ks : List BlockData) → length (nexts ks) ≡ length ks
length_nexts [] = refl
length_nexts (k ∷ ks) = ap suc (length_nexts ks)

pub set_same : {X : Type 0} (xs : List X) (a : ℕ) (x : X) → slice_get xs a ≡ Some x → set xs a x ≡ xs
set_same [] a x h = refl
set_same (y ∷ xs) zero x h = let e : y ≡ x = cc in ap (λ z. z ∷ xs) (sym e)
set_same (y ∷ xs) (suc a) x h = ap (λ r. y ∷ r) (set_same xs a x h)

pub length_set : {X : Type 0} (xs : List X) (a : ℕ) (x : X) → length (set xs a x) ≡ length xs
length_set [] a x = refl
length_set (y ∷ xs) zero x = refl
length_set (y ∷ xs) (suc a) x = ap suc (length_set xs a x)

-- blocks

pub names_blocks : (xs : List InstData) (ks : List BlockData) (bs : List ℕ) → block_numbers (map (block_at xs ks) bs) ≡ bs
names_blocks xs ks [] = refl
names_blocks xs ks (b ∷ bs) = ap (λ r. b ∷ r) (names_blocks xs ks bs)

pub blocks_same : (u v : ℕ → Block) (bs : List ℕ) → ((b : ℕ) → In b bs → u b ≡ v b) → map u bs ≡ map v bs
blocks_same u v [] h = refl
blocks_same u v (b ∷ bs) h = ap₂ (λ x xs. x ∷ xs) (h b (inl refl)) (blocks_same u v bs (λ c i. h c (inr i)))

pub blocks_put_after : (u v : ℕ → Block) (a n : ℕ) (new : Block) (bs : List ℕ) → ((b : ℕ) → (v b).number ≡ b) → ((b : ℕ) → In b bs → u b ≡ v b) → u n ≡ new → map u (put_after a n bs) ≡ insert_after a new (map v bs)
blocks_put_after u v a n new [] number h e = refl
blocks_put_after u v a n new (b ∷ bs) number h e =
    elim (cases_eq b a) [
      | inl p ↦ ap (map u) (put_after_hit a n b bs p) ∙ (ap₂ (λ x xs. x ∷ xs) (h b (inl refl)) (ap₂ (λ x xs. x ∷ xs) e (blocks_same u v bs (λ c i. h c (inr i)))) ∙ ap (λ c. if c then v b ∷ (new ∷ map v bs) else v b ∷ insert_after a new (map v bs)) (sym (eq-eqb (v b).number a (number b ∙ p))))
      | inr p ↦ ap (map u) (put_after_miss a n b bs p) ∙ (ap₂ (λ x xs. x ∷ xs) (h b (inl refl)) (blocks_put_after u v a n new bs number (λ c i. h c (inr i)) e) ∙ ap (λ c. if c then v b ∷ (new ∷ map v bs) else v b ∷ insert_after a new (map v bs)) (sym (ne_eqb (v b).number a (λ q. p (sym (number b) ∙ q)))))
    ]

pub blocks_at : (u v : ℕ → Block) (a : ℕ) (f : Block → Block) (bs : List ℕ) → ((b : ℕ) → (v b).number ≡ b) → ((b : ℕ) → (b ≡ a → ⊥) → u b ≡ v b) → u a ≡ f (v a) → map u bs ≡ at_block a f (map v bs)
blocks_at u v a f [] number h e = refl
blocks_at u v a f (b ∷ bs) number h e =
    ap₂ (λ x xs. x ∷ xs)
    (elim (cases_eq b a) [
      | inl p ↦ (ap u p ∙ (e ∙ ap (λ z. f (v z)) (sym p))) ∙ ap (λ c. if c then f (v b) else v b) (sym (eq-eqb (v b).number a (number b ∙ p)))
      | inr p ↦ h b p ∙ ap (λ c. if c then f (v b) else v b) (sym (ne_eqb (v b).number a (λ q. p (sym (number b) ∙ q))))
    ])
    (blocks_at u v a f bs number h e)

-- a new block linked in

module _ (xs xs' : List InstData) (ks : List BlockData) (o last last' : Option ℕ) (a : ℕ) (k k' new : BlockData) (laid : Laid xs ks o last) (there : In a (order ks o)) (old : slice_get ks a ≡ Some k) (at : slice_get (ks ++ (new ∷ [])) a ≡ Some k') (next : new.next ≡ k.next) (ends' : last' ≡ last_of (put_after a (length ks) (order ks o))) (longer : length xs ≤ length xs') (new_short : new.len ≤ new.cap) (new_within : new.start + new.cap ≤ length xs') (free : (p : ℕ) → new.start ≤ p → p < new.start + new.cap → length xs ≤ p) where
  abbrev ins : List BlockData
  ins = set (ks ++ (new ∷ [])) a (record k' { next = Some (length ks) })

  same_old : k' ≡ k
  same_old = let e : slice_get (ks ++ (new ∷ [])) a ≡ Some k = get_push_old ks a new k old in cc

  nexts_ins : nexts ins ≡ set (nexts ks ++ (k.next ∷ [])) a (Some (length (nexts ks)))
  nexts_ins = nexts_set (ks ++ (new ∷ [])) a (record k' { next = Some (length ks) }) ∙ (ap (λ z. set z a (Some (length ks))) (nexts_push ks new ∙ ap (λ z. nexts ks ++ (z ∷ [])) next) ∙ ap (λ z. set (nexts ks ++ (k.next ∷ [])) a (Some z)) (sym (length_nexts ks)))

  length_ins : length ins ≡ suc (length ks)
  length_ins = length_set (ks ++ (new ∷ [])) a (record k' { next = Some (length ks) }) ∙ (length-append ks (new ∷ []) ∙ omega arith)

  ins_linked : Linked (nexts ins) o (put_after a (length ks) (order ks o))
  ins_linked = subst (λ z. Linked z o (put_after a (length ks) (order ks o))) (sym nexts_ins) (subst (λ z. Linked (set (nexts ks ++ (k.next ∷ [])) a (Some (length (nexts ks)))) o (put_after a z (order ks o))) (length_nexts ks) (linked_insert (nexts ks) o k.next a (order ks o) laid.linked laid.different there (nexts_get ks a k old)))

  ins_order : order ins o ≡ put_after a (length ks) (order ks o)
  ins_order = walk_linked (nexts ins) (length ins) o (put_after a (length ks) (order ks o)) ins_linked (omega (arith, length_ins, length_put_after a (length ks) (order ks o) there, length_walk (nexts ks) (length ks) o))

  fresh : In (length ks) (order ks o) → ⊥
  fresh i = omega (arith, linked_below (nexts ks) o (order ks o) (length ks) laid.linked i, length_nexts ks)

  -- what is in the list is old up to its next block, or new
  ins_cases : (b : ℕ) (y : BlockData) → slice_get ins b ≡ Some y → ((z : BlockData) × (slice_get ks b ≡ Some z) × (z.start ≡ y.start) × (z.len ≡ y.len) × (z.cap ≡ y.cap)) ⊎ ((b ≡ length ks) × (y ≡ new))
  ins_cases b y h =
      elim (cases_eq b a) [
        | inl e ↦
            let lt : a < length (ks ++ (new ∷ [])) = slice_get_within (ks ++ (new ∷ [])) a k' at in
            let g : slice_get ins a ≡ Some (record k' { next = Some (length ks) }) = get_set_same (ks ++ (new ∷ [])) a (record k' { next = Some (length ks) }) lt in
            let same : record k' { next = Some (length ks) } ≡ y = cc in
            inl (k, subst (λ z. slice_get ks z ≡ Some k) (sym e) old, ap (λ (z : BlockData). z.start) (sym same_old) ∙ ap (λ (z : BlockData). z.start) same, ap (λ (z : BlockData). z.len) (sym same_old) ∙ ap (λ (z : BlockData). z.len) same, ap (λ (z : BlockData). z.cap) (sym same_old) ∙ ap (λ (z : BlockData). z.cap) same)
        | inr e ↦ elim (get_push_cases ks b new y (sym (get_set_other (ks ++ (new ∷ [])) a b (record k' { next = Some (length ks) }) e) ∙ h)) [ inl g ↦ inl (y, g, refl, refl, refl) | inr g ↦ inr (g.0, sym g.1) ]
      ]

  pub inserted_laid : Laid xs' ins o last'
  inserted_laid = record {
    linked = subst (Linked (nexts ins) o) (sym ins_order) ins_linked;
    different = subst Different (sym ins_order) (different_put_after a (length ks) (order ks o) laid.different fresh);
    full = ap length ins_order ∙ (length_put_after a (length ks) (order ks o) there ∙ (ap suc laid.full ∙ sym length_ins));
    ends = ends' ∙ ap last_of (sym ins_order);
    short = λ b y h. elim (ins_cases b y h) [ inl (z, g, s, l, c) ↦ omega (arith, laid.short b z g, l, c) | inr (p, q) ↦ subst (λ (z : BlockData). z.len ≤ z.cap) (sym q) new_short ];
    within = λ b y h. elim (ins_cases b y h) [ inl (z, g, s, l, c) ↦ omega (arith, laid.within b z g, s, c, longer) | inr (p, q) ↦ subst (λ (z : BlockData). z.start + z.cap ≤ length xs') (sym q) new_within ];
    apart = λ b d y w h i n p e1 e2 e3 e4. elim (ins_cases b y h) [
      | inl (z, g, s, l, c) ↦ elim (ins_cases d w i) [
        | inl (z', g', s', l', c') ↦ laid.apart b d z z' g g' n p (omega (arith, s, e1)) (omega (arith, s, c, e2)) (omega (arith, s', e3)) (omega (arith, s', c', e4))
        | inr (u, q) ↦ omega (arith, e2, laid.within b z g, s, c, free p (subst (λ (z : BlockData). z.start ≤ p) q e3) (subst (λ (z : BlockData). p < z.start + z.cap) q e4))
      ]
      | inr (u, q) ↦ elim (ins_cases d w i) [
        | inl (z', g', s', l', c') ↦ omega (arith, e4, laid.within d z' g', s', c', free p (subst (λ (z : BlockData). z.start ≤ p) q e1) (subst (λ (z : BlockData). p < z.start + z.cap) q e2))
        | inr (u', q') ↦ n (u ∙ sym u')
      ]
    ];
  }

  pub inserted_blocks : ((b : ℕ) (k : BlockData) → slice_get ks b ≡ Some k → range xs' k ≡ range xs k) → map (block_at xs' ins) (order ins o) ≡ insert_after a (record { number = length ks; params = new.params; lines = range xs' new }) (map (block_at xs ks) (order ks o))
  inserted_blocks same = ap (map (block_at xs' ins)) ins_order ∙ blocks_put_after (block_at xs' ins) (block_at xs ks) a (length ks) (record { number = length ks; params = new.params; lines = range xs' new }) (order ks o) (λ b. refl) (λ b i. kept b i) new_one
    where
      seen : (b : ℕ) (p : Option BlockData) → slice_get ks b ≡ p → block_by xs' b p ≡ block_by xs b p
      seen b None e = refl
      seen b (Some y) e = ap (λ r. record { number = b; params = y.params; lines = r }) (same b y e)

      kept : (b : ℕ) → In b (order ks o) → block_at xs' ins b ≡ block_at xs ks b
      kept b i =
          elim (cases_eq b a) [
            | inl e ↦
                let lt : a < length (ks ++ (new ∷ [])) = slice_get_within (ks ++ (new ∷ [])) a k' at in
                let g : slice_get ins a ≡ Some (record k' { next = Some (length ks) }) = get_set_same (ks ++ (new ∷ [])) a (record k' { next = Some (length ks) }) lt in
                ap (λ z. block_by xs' b (slice_get ins z)) e ∙ (ap (block_by xs' b) g ∙ (ap (λ (z : BlockData). block_by xs' b (Some z)) same_old ∙ (ap (block_by xs' b) (sym old) ∙ (ap (λ z. block_by xs' b (slice_get ks z)) (sym e) ∙ seen b (slice_get ks b) refl))))
            | inr e ↦
                let lt : b < length (nexts ks) = linked_below (nexts ks) o (order ks o) b laid.linked i in
                ap (block_by xs' b) (get_set_other (ks ++ (new ∷ [])) a b (record k' { next = Some (length ks) }) e ∙ get_push_below ks b new (omega (arith, lt, length_nexts ks))) ∙ seen b (slice_get ks b) refl
          ]

      new_one : block_at xs' ins (length ks) ≡ record { number = length ks; params = new.params; lines = range xs' new }
      new_one =
          let lt : a < length ks = slice_get_within ks a k old in
          ap (block_by xs' (length ks)) (get_set_other (ks ++ (new ∷ [])) a (length ks) (record k' { next = Some (length ks) }) (λ e. omega (arith, e, lt)) ∙ get_push_new ks new)

pub length_seen : (xs : List InstData) (ks : List BlockData) (bs : List ℕ) → length (map (block_at xs ks) bs) ≡ length bs
length_seen xs ks [] = refl
length_seen xs ks (b ∷ bs) = ap suc (length_seen xs ks bs)
