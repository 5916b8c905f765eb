-- A block put into a function.
use Rattle.std.proofs.Common.{◌≡◌, ℕ, ◌+◌, ◌-◌, ◌<◌, ◌≤◌, ◌^◌, inl, inr, List, [], ◌∷◌, ◌++◌, map, length, take, drop, get_or, Option, Some, None, refl, sym, ap, ap₂, ◌∙◌, subst, arith, append_assoc, length-append}
use Rattle.std.specs.Prelude.{slice_get, is_some, true, false}
use Rattle.std.proofs.lemmas.Option.{slice_get_read}
use Rattle.std.proofs.Math.ListN.{set}
use Rattle.ir_core.specs.declared.func.BlockData.{BlockData}
use Rattle.ir_core.specs.declared.func.Func.TheInside.{Inside}
use Rattle.ir_core.specs.Module.{Block, Function}
use Rattle.ir_core.specs.Lookup.{definitions, block_numbers}
use Rattle.ir_core.specs.Lists.{In, Different, Below, Each}
use Rattle.ir_core.specs.Sound.{Counts, counts_of, BlockInRange, CanAdd, IsSound}
use Rattle.ir_core.specs.Viewed.{line_of}
use Rattle.ir_core.specs.Edits.{Body, insert_after}
use Rattle.ir_core.specs.Layout.{order, nexts, range, blocks_in, Laid, IsLaidOut, body_of, function_of, last_of}
use Rattle.ir_core.proofs.Members.{different_changed, each_left, each_right, each_join, below_more, below_join, below_left, below_right, below_in}
use Rattle.ir_core.proofs.Splitting.{split, block_definitions, definitions_split, count_split}
use Rattle.ir_core.proofs.Keeping.{with_blocks, AtMost, callees_more, blocks_more}
use Rattle.ir_core.proofs.Order.{put_after, last_put_end, last_put_within}
use Rattle.ir_core.proofs.Laying.{nexts_get, inserted_laid, inserted_blocks, length_seen}
use Rattle.ir_core.proofs.Changing.{present, below, found}
use Rattle.ir_core.proofs.Counting.{defined_bound}
use Rattle.ir_core.proofs.ByNumber.{numbers_join}

-- one more between
between : {A : Type 0} (P : List A) (x : A) (X Q : List A) → P ++ (x ∷ (X ++ Q)) ≡ (P ++ (x ∷ [])) ++ (X ++ Q)
between P x X Q = sym (append_assoc P (x ∷ []) (X ++ Q))

module _ (f : Function) (a n : ℕ) (ps : List ℕ) (sound : IsSound f) (there : In a (block_numbers f.blocks)) (few : CanAdd (length f.blocks)) (number : n ≡ length f.blocks) (declared : Below (length f.types) ps) (different : Different ps) (undefined : (v : ℕ) → In v ps → In v (definitions f.blocks) → ⊥) where
  abbrev new : Block
  new = record { number = n; params = ps; lines = [] }

  pub sound_insert : IsSound (with_blocks f (insert_after a new f.blocks))
  sound_insert =
      let s = split a f.blocks there sound.blocks_differ in
      let xs = s.before in
      let b = s.here in
      let ys = s.behind in
      let was : IsSound (with_blocks f (xs ++ (b ∷ ys))) = subst (λ z. IsSound (with_blocks f z)) s.is sound in
      let count : length f.blocks ≡ length (xs ++ (b ∷ ys)) = ap length s.is in
      let long : length (xs ++ (b ∷ (new ∷ ys))) ≡ length (xs ++ (b ∷ ys)) + 1 = omega (arith, length-append xs (b ∷ (new ∷ ys)), length-append xs (b ∷ ys)) in
      let more : AtMost (counts_of (with_blocks f (xs ++ (b ∷ ys)))) (counts_of (with_blocks f (xs ++ (b ∷ (new ∷ ys))))) = record { values = omega arith; blocks = omega (arith, long); slots = omega arith; sigs = omega arith; callees = omega arith } in
      let m : Counts = counts_of (with_blocks f (xs ++ (b ∷ (new ∷ ys)))) in
      let blocks : Each (BlockInRange m) (xs ++ (b ∷ ys)) = blocks_more _ _ more (xs ++ (b ∷ ys)) was.blocks in
      let undefined_here : (v : ℕ) → In v ps → In v (definitions (xs ++ (b ∷ ys))) → ⊥ = λ v i j. undefined v i (subst (λ z. In v (definitions z)) (sym s.is) j) in
      let numbers : block_numbers (xs ++ (b ∷ (new ∷ ys))) ≡ (block_numbers xs ++ (b.number ∷ [])) ++ ((n ∷ []) ++ block_numbers ys) = numbers_join xs (b ∷ (new ∷ ys)) ∙ between (block_numbers xs) b.number (n ∷ []) (block_numbers ys) in
      let numbers_were : block_numbers (xs ++ (b ∷ ys)) ≡ (block_numbers xs ++ (b.number ∷ [])) ++ ([] ++ block_numbers ys) = numbers_join xs (b ∷ ys) ∙ between (block_numbers xs) b.number [] (block_numbers ys) in
      let range : Below (length (xs ++ (b ∷ (new ∷ ys)))) ((block_numbers xs ++ (b.number ∷ [])) ++ block_numbers ys) = below_more (length (xs ++ (b ∷ ys))) (length (xs ++ (b ∷ (new ∷ ys)))) (omega (arith, long)) _ (subst (Below (length (xs ++ (b ∷ ys)))) numbers_were was.block_range) in
      let defs : definitions (xs ++ (b ∷ (new ∷ ys))) ≡ (definitions xs ++ block_definitions b) ++ (ps ++ definitions ys) = definitions_split xs (new ∷ ys) b ∙ sym (append_assoc (definitions xs) (block_definitions b) (ps ++ definitions ys)) in
      let defs_were : definitions (xs ++ (b ∷ ys)) ≡ (definitions xs ++ block_definitions b) ++ ([] ++ definitions ys) = definitions_split xs ys b ∙ sym (append_assoc (definitions xs) (block_definitions b) (definitions ys)) in
      subst (λ z. IsSound (with_blocks f z)) (sym (s.insert new))
      (record {
        callees = callees_more _ _ more f.callees was.callees;
        blocks = each_join (BlockInRange m) xs (b ∷ (new ∷ ys)) (each_left (BlockInRange m) xs (b ∷ ys) blocks) ((each_right (BlockInRange m) xs (b ∷ ys) blocks).0, (record { params = declared; lines = tt }, (each_right (BlockInRange m) xs (b ∷ ys) blocks).1));
        numbered = was.numbered;
        defined_once =
            subst Different (sym defs)
            (different_changed (definitions xs ++ block_definitions b) [] ps (definitions ys) (subst Different defs_were was.defined_once) different (λ v i. inr (λ j. undefined_here v i (subst (In v) (sym defs_were) j))));
        block_range =
            subst (Below (length (xs ++ (b ∷ (new ∷ ys))))) (sym numbers)
            (below_join (length (xs ++ (b ∷ (new ∷ ys)))) (block_numbers xs ++ (b.number ∷ [])) (n ∷ block_numbers ys) (below_left (length (xs ++ (b ∷ (new ∷ ys)))) (block_numbers xs ++ (b.number ∷ [])) (block_numbers ys) range) (omega (arith, long, number, count), below_right (length (xs ++ (b ∷ (new ∷ ys)))) (block_numbers xs ++ (b.number ∷ [])) (block_numbers ys) range));
        blocks_differ =
            subst Different (sym numbers)
            (different_changed (block_numbers xs ++ (b.number ∷ [])) [] (n ∷ []) (block_numbers ys) (subst Different numbers_were was.blocks_differ) ((λ i. elim i [ ]), tt)
            (λ v i. inr (λ j. elim i [ inl e ↦ omega (arith, e, number, count, below_in (length (xs ++ (b ∷ ys))) (block_numbers (xs ++ (b ∷ ys))) v was.block_range (subst (In v) (sym numbers_were) j)) | inr q ↦ elim q [ ] ])));
        small = record { slots = was.small.slots; sigs = was.small.sigs; callees = was.small.callees; values = was.small.values; blocks = omega (arith, long, count, few); instructions = omega (arith, was.small.instructions, count_split xs (new ∷ ys) b, count_split xs ys b) };
      })

  -- as many more values are defined
  pub length_insert : length (definitions (insert_after a new f.blocks)) ≡ length (definitions f.blocks) + length ps
  length_insert =
      let s = split a f.blocks there sound.blocks_differ in
      ap (λ z. length (definitions z)) (s.insert new)
      ∙ (ap length (definitions_split s.before (new ∷ s.behind) s.here)
      ∙ (counted (definitions s.before) (block_definitions s.here) (definitions s.behind)
      ∙ ap (λ z. z + length ps) (sym (ap (λ z. length (definitions z)) s.is ∙ ap length (definitions_split s.before s.behind s.here)))))
    where
      counted : (p q r : List ℕ) → length (p ++ (q ++ (ps ++ r))) ≡ length (p ++ (q ++ r)) + length ps
      counted p q r = omega (arith, length-append p (q ++ (ps ++ r)), length-append q (ps ++ r), length-append ps r, length-append p (q ++ r), length-append q r)

-- no more values are defined than declared, with those of a new block
pub defined_room : (f : Function) (a : ℕ) (ps : List ℕ) → IsSound f → In a (block_numbers f.blocks) → CanAdd (length f.blocks) → Below (length f.types) ps → Different ps → ((v : ℕ) → In v ps → In v (definitions f.blocks) → ⊥) → length (definitions f.blocks) + length ps ≤ length f.types
defined_room f a ps sound there few declared different undefined = omega (arith, length_insert f a (length f.blocks) ps sound there few refl declared different undefined, defined_bound (with_blocks f (insert_after a (record { number = length f.blocks; params = ps; lines = [] }) f.blocks)) (sound_insert f a (length f.blocks) ps sound there few refl declared different undefined))

-- a block linked in behind another
module _ (s : Inside) (w : Body) (laid : IsLaidOut s) (is : body_of s ≡ w) (a n : ℕ) (k k' new : BlockData) (ks : List BlockData) (ps : List ℕ) (there : In a (block_numbers w.function.blocks)) (at : k ≡ get_or s.blocks.items a k) (at' : k' ≡ get_or ks a k') (pushed : ks ≡ s.blocks.items ++ (new ∷ [])) (next : new.next ≡ k.next) (start : new.start ≡ length s.insts.items) (len : new.len ≡ 0) (cap : new.cap ≡ 0) (number : n ≡ length s.blocks.items) (params : new.params ≡ ps) where
  abbrev linked : List BlockData
  linked = set ks a (record k' { next = Some n })

  abbrev linked_end : List BlockData
  linked_end = set (s.blocks.items ++ (new ∷ [])) a (record k' { next = Some (length s.blocks.items) })

  same_linked : linked ≡ linked_end
  same_linked = ap₂ (λ l z. set l a (record k' { next = Some z })) pushed number

  present_here : In a (order s.blocks.items s.first)
  present_here = present s w a laid is there

  old_here : slice_get s.blocks.items a ≡ Some k
  old_here = found s w a k laid is there at

  at_here : slice_get (s.blocks.items ++ (new ∷ [])) a ≡ Some k'
  at_here = subst (λ z. slice_get z a ≡ Some k') pushed (slice_get_read ks (length ks) a k' refl (omega (arith, below s w a laid is there, ap length pushed, length-append s.blocks.items (new ∷ []))) at')

  module _ (last' : Option ℕ) (ends : last' ≡ last_of (put_after a (length s.blocks.items) (order s.blocks.items s.first))) where
    pub linked_laid : Laid s.insts.items linked s.first last'
    linked_laid = subst (λ z. Laid s.insts.items z s.first last') (sym same_linked) (inserted_laid s.insts.items s.insts.items s.blocks.items s.first s.last last' a k k' new laid.laid present_here old_here at_here next ends (omega arith) (omega (arith, len, cap)) (omega (arith, start, cap)) (λ p u v. omega (arith, u, v, cap)))

  pub linked_blocks : blocks_in s.insts.items linked s.first ≡ insert_after a (record { number = n; params = ps; lines = [] }) (function_of s).blocks
  linked_blocks =
      ap (λ z. blocks_in s.insts.items z s.first) same_linked
      ∙ (inserted_blocks s.insts.items s.insts.items s.blocks.items s.first s.last (last_of (put_after a (length s.blocks.items) (order s.blocks.items s.first))) a k k' new laid.laid present_here old_here at_here next refl (omega arith) (omega (arith, len, cap)) (omega (arith, start, cap)) (λ p u v. omega (arith, u, v, cap)) (λ b y g. refl)
      ∙ (ap (λ z. insert_after a (record { number = z; params = new.params; lines = range s.insts.items new }) (function_of s).blocks) (sym number)
      ∙ ap₂ (λ p l. insert_after a (record { number = n; params = p; lines = l }) (function_of s).blocks) params (ap (λ z. map line_of (take z (drop new.start s.insts.items))) len)))

  -- the new block is the last where the other was
  pub last_linked : k.next ≡ None → Some n ≡ last_of (put_after a (length s.blocks.items) (order s.blocks.items s.first))
  last_linked e = ap (λ z. Some z) number ∙ sym (last_put_end (nexts s.blocks.items) s.first a (length s.blocks.items) (order s.blocks.items s.first) laid.laid.linked laid.laid.different present_here (nexts_get s.blocks.items a k old_here ∙ ap (λ z. Some z) e))

  pub last_kept : (o : Option ℕ) → k.next ≡ o → is_some o ≡ true → s.last ≡ last_of (put_after a (length s.blocks.items) (order s.blocks.items s.first))
  last_kept None e f = cc
  last_kept (Some m) e f = laid.laid.ends ∙ sym (last_put_within (nexts s.blocks.items) s.first a (length s.blocks.items) m (order s.blocks.items s.first) laid.laid.linked laid.laid.different present_here (nexts_get s.blocks.items a k old_here ∙ ap (λ z. Some z) e))

  module _ (few : CanAdd (length w.function.blocks)) (declared : Below (length w.function.types) ps) (different : Different ps) (undefined : (v : ℕ) → In v ps → In v (definitions w.function.blocks) → ⊥) where
    number_seen : n ≡ length (function_of s).blocks
    number_seen = number ∙ (sym laid.laid.full ∙ sym (length_seen s.insts.items s.blocks.items (order s.blocks.items s.first)))

    pub linked_sound : IsSound (with_blocks (function_of s) (blocks_in s.insts.items linked s.first))
    linked_sound =
        subst (λ z. IsSound (with_blocks (function_of s) z)) (sym linked_blocks)
        (sound_insert (function_of s) a n ps laid.sound (subst (λ z. In a (block_numbers z.function.blocks)) (sym is) there) (subst (λ z. CanAdd (length z.function.blocks)) (sym is) few) number_seen (subst (λ z. Below (length z.function.types) ps) (sym is) declared) different (λ v i j. undefined v i (subst (λ z. In v (definitions z.function.blocks)) is j)))

    pub linked_defined : s.defined + length ps ≡ length (definitions (blocks_in s.insts.items linked s.first))
    linked_defined =
        ap (λ z. z + length ps) laid.defined
        ∙ (sym (length_insert (function_of s) a n ps laid.sound (subst (λ z. In a (block_numbers z.function.blocks)) (sym is) there) (subst (λ z. CanAdd (length z.function.blocks)) (sym is) few) number_seen (subst (λ z. Below (length z.function.types) ps) (sym is) declared) different (λ v i j. undefined v i (subst (λ z. In v (definitions z.function.blocks)) is j)))
        ∙ ap (λ z. length (definitions z)) (sym linked_blocks))

pub insert_fits : (s : Inside) (w : Body) (laid : IsLaidOut s) (is : body_of s ≡ w) (a : ℕ) (ps : List ℕ) (there : In a (block_numbers w.function.blocks)) (few : CanAdd (length w.function.blocks)) (declared : Below (length w.function.types) ps) (different : Different ps) (undefined : (v : ℕ) → In v ps → In v (definitions w.function.blocks) → ⊥) → s.defined + length ps < 2 ^ 32 - 1
insert_fits s w laid is a ps there few declared different undefined = omega (arith, laid.defined, laid.sound.small.values, defined_room (function_of s) a ps laid.sound (subst (λ z. In a (block_numbers z.function.blocks)) (sym is) there) (subst (λ z. CanAdd (length z.function.blocks)) (sym is) few) (subst (λ z. Below (length z.function.types) ps) (sym is) declared) different (λ v i j. undefined v i (subst (λ z. In v (definitions z.function.blocks)) is j)))

pub if_none : {A : Type 0} (o : Option A) → is_some o ≡ false → o ≡ None
if_none None h = refl
if_none (Some x) h = cc

-- the next number is no block's
pub fresh_number : (s : Inside) (w : Body) (n : ℕ) → IsLaidOut s → body_of s ≡ w → n ≡ length s.blocks.items → In n (block_numbers w.function.blocks) → ⊥
fresh_number s w n laid is e i = omega (arith, below s w n laid is i, e)
