-- What keeps a function sound.
use Rattle.std.proofs.Common.{◌≡◌, ℕ, suc, ◌+◌, ◌-◌, ◌<◌, ◌≤◌, ◌^◌, ◌⊎◌, inl, inr, List, [], ◌∷◌, ◌++◌, map, length, refl, sym, ap, ◌∙◌, subst, arith, append_assoc, length-append}
use Rattle.std.specs.List.{enumerate_from}
use Rattle.ir_core.specs.declared.signatures.Ty.{Ty}
use Rattle.ir_core.specs.declared.signatures.Sig.{Sig}
use Rattle.ir_core.specs.declared.declarations.SlotDecl.{SlotDecl}
use Rattle.ir_core.specs.declared.declarations.Callee.{Callee}
use Rattle.ir_core.specs.Module.{Block, Line, Function}
use Rattle.ir_core.specs.Lookup.{definitions, line_definitions, block_numbers}
use Rattle.ir_core.specs.Lists.{In, Different, Below, Each}
use Rattle.ir_core.specs.Sound.{Counts, counts_of, LineInRange, BlockInRange, CalleeInRange, instruction_count, CanAdd, IsSound}
use Rattle.ir_core.specs.Edits.{at_block, put_param}
use Rattle.ir_core.proofs.Members.{in_left, in_right, in_cases, different_left, different_right, different_changed, each_left, each_right, each_join, each_more, below_more, below_join}
use Rattle.ir_core.proofs.Splitting.{Split, split, block_definitions, definitions_split, count_split, numbers_split, length_split}

pub record AtMost (n m : Counts) : Type 0 where
  pub values : n.values ≤ m.values
  pub blocks : n.blocks ≤ m.blocks
  pub slots : n.slots ≤ m.slots
  pub sigs : n.sigs ≤ m.sigs
  pub callees : n.callees ≤ m.callees

pub line_more : (n m : Counts) → AtMost n m → (l : Line) → LineInRange n l → LineInRange m l
line_more n m h l r =
    record {
      values = below_more n.values m.values h.values _ r.values;
      blocks = below_more n.blocks m.blocks h.blocks _ r.blocks;
      slots = below_more n.slots m.slots h.slots _ r.slots;
      shown = below_more n.slots m.slots h.slots _ r.shown;
      callees = below_more n.callees m.callees h.callees _ r.callees;
      sigs = below_more n.sigs m.sigs h.sigs _ r.sigs;
      results = below_more n.values m.values h.values _ r.results;
    }

pub block_more : (n m : Counts) → AtMost n m → (b : Block) → BlockInRange n b → BlockInRange m b
block_more n m h b r = record { params = below_more n.values m.values h.values _ r.params; lines = each_more (LineInRange n) (LineInRange m) (line_more n m h) b.lines r.lines }

pub callees_more : (n m : Counts) → AtMost n m → (cs : List Callee) → Each (CalleeInRange n) cs → Each (CalleeInRange m) cs
callees_more n m h cs r = each_more (CalleeInRange n) (CalleeInRange m) (λ c q. omega (arith, q, h.sigs)) cs r

pub blocks_more : (n m : Counts) → AtMost n m → (bs : List Block) → Each (BlockInRange n) bs → Each (BlockInRange m) bs
blocks_more n m h bs r = each_more (BlockInRange n) (BlockInRange m) (block_more n m h) bs r

length_one : {A : Type 0} (xs : List A) (x : A) → length (xs ++ (x ∷ [])) ≡ length xs + 1
length_one xs x = length-append xs (x ∷ [])

-- declarations appended

pub sound_slot : (f : Function) (d : SlotDecl) → IsSound f → CanAdd (length f.slots) → IsSound (record f { slots = f.slots ++ (d ∷ []) })
sound_slot f d s few =
    let more : AtMost (counts_of f) (counts_of (record f { slots = f.slots ++ (d ∷ []) })) = record { values = omega arith; blocks = omega arith; slots = omega (arith, length_one f.slots d); sigs = omega arith; callees = omega arith } in
    record {
      callees = callees_more _ _ more f.callees s.callees;
      blocks = blocks_more _ _ more f.blocks s.blocks;
      numbered = s.numbered;
      defined_once = s.defined_once;
      block_range = s.block_range;
      blocks_differ = s.blocks_differ;
      small = record { slots = omega (arith, length_one f.slots d, few); sigs = s.small.sigs; callees = s.small.callees; values = s.small.values; blocks = s.small.blocks; instructions = s.small.instructions };
    }

pub sound_sig : (f : Function) (d : Sig) → IsSound f → CanAdd (length f.sigs) → IsSound (record f { sigs = f.sigs ++ (d ∷ []) })
sound_sig f d s few =
    let more : AtMost (counts_of f) (counts_of (record f { sigs = f.sigs ++ (d ∷ []) })) = record { values = omega arith; blocks = omega arith; slots = omega arith; sigs = omega (arith, length_one f.sigs d); callees = omega arith } in
    record {
      callees = callees_more _ _ more f.callees s.callees;
      blocks = blocks_more _ _ more f.blocks s.blocks;
      numbered = s.numbered;
      defined_once = s.defined_once;
      block_range = s.block_range;
      blocks_differ = s.blocks_differ;
      small = record { slots = s.small.slots; sigs = omega (arith, length_one f.sigs d, few); callees = s.small.callees; values = s.small.values; blocks = s.small.blocks; instructions = s.small.instructions };
    }

pub sound_callee : (f : Function) (d : Callee) → IsSound f → CanAdd (length f.callees) → d.sig < length f.sigs → IsSound (record f { callees = f.callees ++ (d ∷ []) })
sound_callee f d s few in_range =
    let more : AtMost (counts_of f) (counts_of (record f { callees = f.callees ++ (d ∷ []) })) = record { values = omega arith; blocks = omega arith; slots = omega arith; sigs = omega arith; callees = omega (arith, length_one f.callees d) } in
    record {
      callees = each_join (CalleeInRange (counts_of (record f { callees = f.callees ++ (d ∷ []) }))) f.callees (d ∷ []) (callees_more _ _ more f.callees s.callees) (in_range, tt);
      blocks = blocks_more _ _ more f.blocks s.blocks;
      numbered = s.numbered;
      defined_once = s.defined_once;
      block_range = s.block_range;
      blocks_differ = s.blocks_differ;
      small = record { slots = s.small.slots; sigs = s.small.sigs; callees = omega (arith, length_one f.callees d, few); values = s.small.values; blocks = s.small.blocks; instructions = s.small.instructions };
    }

-- numbered from n on, and one more
pub numbered_one : (n m : ℕ) (ts : List Ty) (t : Ty) → m ≡ n + length ts → enumerate_from n (ts ++ (t ∷ [])) ≡ enumerate_from n ts ++ ((m, t) ∷ [])
numbered_one n m [] t e = let q : n ≡ m = omega (arith, e) in ap (λ z. (z, t) ∷ []) q
numbered_one n m (u ∷ ts) t e = ap (λ r. (n, u) ∷ r) (numbered_one (n + 1) m ts t (omega (arith, e)))

pub length_numbered : (n : ℕ) (ts : List Ty) → length (enumerate_from n ts) ≡ length ts
length_numbered n [] = refl
length_numbered n (t ∷ ts) = ap suc (length_numbered (n + 1) ts)

pub types_numbered : (n : ℕ) (ts : List Ty) → map (λ typed. typed.1) (enumerate_from n ts) ≡ ts
types_numbered n [] = refl
types_numbered n (t ∷ ts) = ap (λ r. t ∷ r) (types_numbered (n + 1) ts)

pub sound_value : (f : Function) (ts : List Ty) (t : Ty) → f.types ≡ enumerate_from 0 ts → IsSound f → CanAdd (length f.types) → IsSound (record f { types = enumerate_from 0 (ts ++ (t ∷ [])) })
sound_value f ts t is s few =
    let long : length (enumerate_from 0 (ts ++ (t ∷ []))) ≡ length f.types + 1 = length_numbered 0 (ts ++ (t ∷ [])) ∙ (length_one ts t ∙ ap (λ z. z + 1) (sym (ap length is ∙ length_numbered 0 ts))) in
    let more : AtMost (counts_of f) (counts_of (record f { types = enumerate_from 0 (ts ++ (t ∷ [])) })) = record { values = omega (arith, long); blocks = omega arith; slots = omega arith; sigs = omega arith; callees = omega arith } in
    record {
      callees = callees_more _ _ more f.callees s.callees;
      blocks = blocks_more _ _ more f.blocks s.blocks;
      numbered = ap (enumerate_from 0) (sym (types_numbered 0 (ts ++ (t ∷ []))));
      defined_once = s.defined_once;
      block_range = s.block_range;
      blocks_differ = s.blocks_differ;
      small = record { slots = s.small.slots; sigs = s.small.sigs; callees = s.small.callees; values = omega (arith, long, few); blocks = s.small.blocks; instructions = s.small.instructions };
    }

-- numbered from n on, and more
pub numbered_more : (n m : ℕ) (ts us : List Ty) → m ≡ n + length ts → enumerate_from n (ts ++ us) ≡ enumerate_from n ts ++ enumerate_from m us
numbered_more n m [] us e = let q : n ≡ m = omega (arith, e) in ap (λ z. enumerate_from z us) q
numbered_more n m (t ∷ ts) us e = ap (λ r. (n, t) ∷ r) (numbered_more (n + 1) m ts us (omega (arith, e)))

-- several of each kind appended
pub sound_append : (f : Function) (ts us : List Ty) (slots : List SlotDecl) (sigs : List Sig) (callees : List Callee) → f.types ≡ enumerate_from 0 ts → IsSound f → length f.slots + length slots < 2 ^ 32 - 1 → length f.sigs + length sigs < 2 ^ 32 - 1 → length f.callees + length callees < 2 ^ 32 - 1 → length f.types + length us < 2 ^ 32 - 1 → Each (λ callee. callee.sig < length f.sigs + length sigs) callees → IsSound (record f { slots = f.slots ++ slots; sigs = f.sigs ++ sigs; callees = f.callees ++ callees; types = enumerate_from 0 (ts ++ us) })
sound_append f ts us slots sigs callees is s few_slots few_sigs few_callees few_values in_range =
    let long : length (enumerate_from 0 (ts ++ us)) ≡ length f.types + length us = length_numbered 0 (ts ++ us) ∙ (length-append ts us ∙ ap (λ z. z + length us) (sym (ap length is ∙ length_numbered 0 ts))) in
    let m : Counts = counts_of (record f { slots = f.slots ++ slots; sigs = f.sigs ++ sigs; callees = f.callees ++ callees; types = enumerate_from 0 (ts ++ us) }) in
    let more : AtMost (counts_of f) m = record { values = omega (arith, long); blocks = omega arith; slots = omega (arith, length-append f.slots slots); sigs = omega (arith, length-append f.sigs sigs); callees = omega (arith, length-append f.callees callees) } in
    record {
      callees = each_join (CalleeInRange m) f.callees callees (callees_more _ _ more f.callees s.callees) (each_more (λ callee. callee.sig < length f.sigs + length sigs) (CalleeInRange m) (λ c q. omega (arith, q, length-append f.sigs sigs)) callees in_range);
      blocks = blocks_more _ _ more f.blocks s.blocks;
      numbered = ap (enumerate_from 0) (sym (types_numbered 0 (ts ++ us)));
      defined_once = s.defined_once;
      block_range = s.block_range;
      blocks_differ = s.blocks_differ;
      small = record { slots = omega (arith, length-append f.slots slots, few_slots); sigs = omega (arith, length-append f.sigs sigs, few_sigs); callees = omega (arith, length-append f.callees callees, few_callees); values = omega (arith, long, few_values); blocks = s.small.blocks; instructions = s.small.instructions };
    }

-- declarations in place of none

pub sound_declared : (f : Function) (slots : List SlotDecl) (sigs : List Sig) (callees : List Callee) → f.slots ≡ [] → f.sigs ≡ [] → f.callees ≡ [] → IsSound f → length slots < 2 ^ 32 - 1 → length sigs < 2 ^ 32 - 1 → length callees < 2 ^ 32 - 1 → Each (λ callee. callee.sig < length sigs) callees → IsSound (record f { slots = slots; sigs = sigs; callees = callees })
sound_declared f slots sigs callees no_slots no_sigs no_callees s few_slots few_sigs few_callees in_range =
    let m : Counts = counts_of (record f { slots = slots; sigs = sigs; callees = callees }) in
    let more : AtMost (counts_of f) m = record { values = omega arith; blocks = omega arith; slots = omega (arith, ap length no_slots); sigs = omega (arith, ap length no_sigs); callees = omega (arith, ap length no_callees) } in
    record {
      callees = in_range;
      blocks = blocks_more _ _ more f.blocks s.blocks;
      numbered = s.numbered;
      defined_once = s.defined_once;
      block_range = s.block_range;
      blocks_differ = s.blocks_differ;
      small = record { slots = few_slots; sigs = few_sigs; callees = few_callees; values = s.small.values; blocks = s.small.blocks; instructions = s.small.instructions };
    }

pub sound_valued : (f : Function) (us : List Ty) → f.types ≡ [] → IsSound f → length us < 2 ^ 32 - 1 → IsSound (record f { types = enumerate_from 0 us })
sound_valued f us none s few =
    let long : length (enumerate_from 0 us) ≡ length us = length_numbered 0 us in
    let more : AtMost (counts_of f) (counts_of (record f { types = enumerate_from 0 us })) = record { values = omega (arith, ap length none); blocks = omega arith; slots = omega arith; sigs = omega arith; callees = omega arith } in
    record {
      callees = callees_more _ _ more f.callees s.callees;
      blocks = blocks_more _ _ more f.blocks s.blocks;
      numbered = ap (enumerate_from 0) (sym (types_numbered 0 us));
      defined_once = s.defined_once;
      block_range = s.block_range;
      blocks_differ = s.blocks_differ;
      small = record { slots = s.small.slots; sigs = s.small.sigs; callees = s.small.callees; values = omega (arith, long, few); blocks = s.small.blocks; instructions = s.small.instructions };
    }

-- a block changed

abbrev pub with_blocks : Function → List Block → Function
with_blocks f bs = record f { blocks = bs }

pub sound_changed : (f : Function) (xs ys : List Block) (b c : Block) → IsSound (with_blocks f (xs ++ (b ∷ ys))) → c.number ≡ b.number → BlockInRange (counts_of (with_blocks f (xs ++ (b ∷ ys)))) c → Different (block_definitions c) → ((v : ℕ) → In v (block_definitions c) → In v (block_definitions b) ⊎ (In v (definitions (xs ++ (b ∷ ys))) → ⊥)) → instruction_count (xs ++ (c ∷ ys)) < 2 ^ 32 - 1 → IsSound (with_blocks f (xs ++ (c ∷ ys)))
sound_changed f xs ys b c s same in_range differ old_or_new few =
    let n : Counts = counts_of (with_blocks f (xs ++ (b ∷ ys))) in
    let long : length (xs ++ (c ∷ ys)) ≡ length (xs ++ (b ∷ ys)) = length_split xs ys b c in
    let more : AtMost n (counts_of (with_blocks f (xs ++ (c ∷ ys)))) = record { values = omega arith; blocks = omega (arith, long); slots = omega arith; sigs = omega arith; callees = omega arith } in
    record {
      callees = callees_more _ _ more f.callees s.callees;
      blocks = blocks_more _ _ more (xs ++ (c ∷ ys)) (each_join (BlockInRange n) xs (c ∷ ys) (each_left (BlockInRange n) xs (b ∷ ys) s.blocks) (in_range, (each_right (BlockInRange n) xs (b ∷ ys) s.blocks).1));
      numbered = s.numbered;
      defined_once =
          subst Different (sym (definitions_split xs ys c))
          (different_changed (definitions xs) (block_definitions b) (block_definitions c) (definitions ys) (subst Different (definitions_split xs ys b) s.defined_once) differ
          (λ v i. elim (old_or_new v i) [ inl q ↦ inl q | inr q ↦ inr (λ j. q (subst (In v) (sym (definitions_split xs ys b)) j)) ]));
      block_range = subst (λ z. Below z (block_numbers (xs ++ (c ∷ ys)))) (sym long) (subst (Below (length (xs ++ (b ∷ ys)))) (sym (numbers_split xs ys b c same)) s.block_range);
      blocks_differ = subst Different (sym (numbers_split xs ys b c same)) s.blocks_differ;
      small = record { slots = s.small.slots; sigs = s.small.sigs; callees = s.small.callees; values = s.small.values; blocks = omega (arith, long, s.small.blocks); instructions = few };
    }

-- a parameter put at a block's end

module _ (f : Function) (a v : ℕ) (sound : IsSound f) (there : In a (block_numbers f.blocks)) (declared : v < length f.types) (undefined : In v (definitions f.blocks) → ⊥) where
  param_split : Split a f.blocks
  param_split = split a f.blocks there sound.blocks_differ

  pub sound_param : IsSound (with_blocks f (at_block a (put_param v) f.blocks))
  sound_param =
      let s = split a f.blocks there sound.blocks_differ in
      let before : IsSound (with_blocks f (s.before ++ (s.here ∷ s.behind))) = subst (λ z. IsSound (with_blocks f z)) s.is sound in
      let fresh : In v (definitions (s.before ++ (s.here ∷ s.behind))) → ⊥ = λ i. undefined (subst (λ z. In v (definitions z)) (sym s.is) i) in
      let n : Counts = counts_of (with_blocks f (s.before ++ (s.here ∷ s.behind))) in
      let here : BlockInRange n s.here = (each_right (BlockInRange n) s.before (s.here ∷ s.behind) before.blocks).0 in
      let once : Different (block_definitions s.here) = different_left (block_definitions s.here) (definitions s.behind) (different_right (definitions s.before) (block_definitions s.here ++ definitions s.behind) (subst Different (definitions_split s.before s.behind s.here) before.defined_once)) in
      let absent : In v (block_definitions s.here) → ⊥ = λ i. fresh (subst (In v) (sym (definitions_split s.before s.behind s.here)) (in_right v (definitions s.before) (block_definitions s.here ++ definitions s.behind) (in_left v (block_definitions s.here) (definitions s.behind) i))) in
      subst (λ z. IsSound (with_blocks f z)) (sym (s.at (put_param v)))
      (sound_changed f s.before s.behind s.here (put_param v s.here) before refl
      (record { params = below_join n.values s.here.params (v ∷ []) here.params (declared, tt); lines = here.lines })
      (subst Different (sym (append_assoc s.here.params (v ∷ []) (line_definitions s.here.lines)))
      (different_changed s.here.params [] (v ∷ []) (line_definitions s.here.lines) once ((λ i. elim i [ ]), tt) (λ w i. elim i [ inl q ↦ inr (λ j. absent (subst (λ z. In z (block_definitions s.here)) q j)) | inr q ↦ elim q [ ] ])))
      (λ w i. elim (in_cases w (s.here.params ++ (v ∷ [])) (line_definitions s.here.lines) i) [
        | inl q ↦ elim (in_cases w s.here.params (v ∷ []) q) [
          | inl r ↦ inl (in_left w s.here.params (line_definitions s.here.lines) r)
          | inr r ↦ elim r [ inl e ↦ inr (λ j. fresh (subst (λ z. In z (definitions (s.before ++ (s.here ∷ s.behind)))) e j)) | inr e ↦ elim e [ ] ]
        ]
        | inr q ↦ inl (in_right w s.here.params (line_definitions s.here.lines) q)
      ])
      (omega (arith, before.small.instructions, count_split s.before s.behind s.here, count_split s.before s.behind (put_param v s.here))))

  -- one more value is defined
  pub length_param : length (definitions (at_block a (put_param v) f.blocks)) ≡ length (definitions f.blocks) + 1
  length_param =
      let s = split a f.blocks there sound.blocks_differ in
      ap (λ z. length (definitions z)) (s.at (put_param v)) ∙ (ap length (definitions_split s.before s.behind (put_param v s.here)) ∙ (counted (definitions s.before) s.here.params (line_definitions s.here.lines) (definitions s.behind) ∙ ap (λ z. z + 1) (sym (ap (λ z. length (definitions z)) s.is ∙ ap length (definitions_split s.before s.behind s.here)))))
    where
      counted : (p q r t : List ℕ) → length (p ++ (((q ++ (v ∷ [])) ++ r) ++ t)) ≡ length (p ++ ((q ++ r) ++ t)) + 1
      counted p q r t = omega (arith, length-append p (((q ++ (v ∷ [])) ++ r) ++ t), length-append ((q ++ (v ∷ [])) ++ r) t, length-append (q ++ (v ∷ [])) r, length-append q (v ∷ []), length-append p ((q ++ r) ++ t), length-append (q ++ r) t, length-append q r)
