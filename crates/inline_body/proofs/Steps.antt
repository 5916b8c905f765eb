-- The functions that a caller becomes as a body is put into it.
use Rattle.std.proofs.Common.{◌≡◌, ℕ, ◌+◌, ◌≤◌, ◌⊎◌, inl, inr, List, [], ◌∷◌, ◌++◌, length, Some, sym, ap, ap₂, ◌∙◌, subst, arith}
use Rattle.std.specs.Prelude.{slice_get}
use Rattle.ir_core.specs.Module.{Block, Line, Function}
use Rattle.ir_core.specs.Lookup.{block_numbers, definitions}
use Rattle.ir_core.specs.Lists.{In, Different, Each}
use Rattle.ir_core.specs.Sound.{IsSound, counts_of, instruction_count}
use Rattle.ir_core.specs.Edits.{at_block, put_line, lines_of}
use Rattle.ir_core.proofs.Members.{in_left, in_right}
use Rattle.ir_core.proofs.Splitting.{split}
use Rattle.ir_core.proofs.Sizing.{each_in}
use Rattle.ir_core.proofs.ByNumber.{numbers_join}
use Rattle.inline_body.specs.Opened.{taken, parted}
use Rattle.inline_body.specs.declared.blocks.BlockLines.{BlockLines}
use Rattle.inline_body.specs.Inlined.{blocks_from}
use Rattle.inline_body.specs.WithBody.{with_body, empty_from, behind, blocks_with_lines, all_of, numbers_of, counts_with}
use Rattle.inline_body.proofs.Fills.{numbers_still, as_many, defined_now, counted}
use Rattle.inline_body.proofs.BodyBlocks.{opened_with, opened_is, inserted_is, first_there, site_there, long, few, defined, all_is, empty_defines, empty_count, empty_length}

module _ (f f1 : Function) (a i k k' : ℕ) (ps rs : List ℕ) (there : In a (block_numbers f.blocks)) (sound : IsSound f) (e1 : f1 ≡ record f { blocks = parted k k' rs (taken a i k ps f.blocks) }) (ek : k ≡ length f.blocks) (ek' : k' ≡ length f.blocks + 1) where
  abbrev pub blocks_with : List Block → List Block
  blocks_with E = opened_with i (length f.blocks) (length f.blocks + 1) ps rs E (split a f.blocks there sound.blocks_differ).before (split a f.blocks there sound.blocks_differ).here (split a f.blocks there sound.blocks_differ).behind

  pub first_blocks : f1 ≡ record f { blocks = parted (length f.blocks) (length f.blocks + 1) rs (taken a i (length f.blocks) ps f.blocks) }
  first_blocks = e1 ∙ ap₂ (λ (x y : ℕ). record f { blocks = parted x y rs (taken a i x ps f.blocks) }) ek ek'

  pub opened : f1 ≡ record f { blocks = blocks_with [] }
  opened = first_blocks ∙ ap (λ (z : List Block). record f { blocks = z }) (opened_is a i (length f.blocks) (length f.blocks + 1) ps rs f.blocks there sound.blocks_differ sound.block_range)

  opened_blocks : f1.blocks ≡ blocks_with []
  opened_blocks = ap (λ (z : Function). z.blocks) opened

  pub there1 : In k (block_numbers f1.blocks)
  there1 = subst (λ (z : ℕ). In z (block_numbers f1.blocks)) (sym ek) (subst (λ (z : List Block). In (length f.blocks) (block_numbers z)) (sym opened_blocks) (first_there a i (length f.blocks) (length f.blocks + 1) ps rs f.blocks there sound.blocks_differ sound.block_range []))

  pub long1 : length f1.blocks ≡ length f.blocks + 2
  long1 = ap length opened_blocks ∙ let h = long a i (length f.blocks) (length f.blocks + 1) ps rs f.blocks there sound.blocks_differ sound.block_range [] in omega (arith, h)

  pub types1 : length f1.types ≡ length f.types
  types1 = ap (λ (z : Function). length z.types) opened

  pub defined1 : (l : Line) → slice_get (lines_of a f.blocks) i ≡ Some l → rs ≡ l.results → (v : ℕ) → In v (definitions f1.blocks) → In v ps ⊎ In v (definitions f.blocks)
  defined1 l get res v j =
      elim (defined a i (length f.blocks) (length f.blocks + 1) ps rs f.blocks there sound.blocks_differ sound.block_range [] l get res v (subst (λ (z : List Block). In v (definitions z)) opened_blocks j)) [
        | inl q ↦ elim q [ inl x ↦ inl x | inr x ↦ elim x [ ] ]
        | inr q ↦ inr q
      ]

module _ (f f1 : Function) (a i k k' : ℕ) (ps rs : List ℕ) (there : In a (block_numbers f.blocks)) (sound : IsSound f) (e1 : f1 ≡ record f { blocks = parted k k' rs (taken a i k ps f.blocks) }) (ek : k ≡ length f.blocks) (ek' : k' ≡ length f.blocks + 1) (f2 : Function) (block_params : List (List ℕ)) (e2 : f2 ≡ record f1 { blocks = behind k (empty_from (length f1.blocks) block_params) f1.blocks }) where
  abbrev pub more : List Block
  more = empty_from (length f.blocks + 2) block_params

  pub inserted : f2 ≡ record f { blocks = blocks_with f f1 a i k k' ps rs there sound e1 ek ek' more }
  inserted =
      let X = parted (length f.blocks) (length f.blocks + 1) rs (taken a i (length f.blocks) ps f.blocks) in
      let len : length X ≡ length f.blocks + 2 = sym (ap (λ (z : Function). length z.blocks) (first_blocks f f1 a i k k' ps rs there sound e1 ek ek')) ∙ long1 f f1 a i k k' ps rs there sound e1 ek ek' in
      e2
      ∙ (ap (λ (x : ℕ). record f1 { blocks = behind x (empty_from (length f1.blocks) block_params) f1.blocks }) ek
      ∙ (ap (λ (z : Function). record z { blocks = behind (length f.blocks) (empty_from (length z.blocks) block_params) z.blocks }) (first_blocks f f1 a i k k' ps rs there sound e1 ek ek')
      ∙ (ap (λ (x : ℕ). record f { blocks = behind (length f.blocks) (empty_from x block_params) X }) len
      ∙ ap (λ (z : List Block). record f { blocks = z }) (inserted_is a i (length f.blocks) (length f.blocks + 1) ps rs f.blocks there sound.blocks_differ sound.block_range more))))

  pub inserted_blocks : f2.blocks ≡ blocks_with f f1 a i k k' ps rs there sound e1 ek ek' more
  inserted_blocks = ap (λ (z : Function). z.blocks) inserted

  pub there2 : In a (block_numbers f2.blocks)
  there2 = subst (λ (z : List Block). In a (block_numbers z)) (sym inserted_blocks) (site_there a i (length f.blocks) (length f.blocks + 1) ps rs f.blocks there sound.blocks_differ sound.block_range more)

  pub long2 : length f2.blocks ≡ length f.blocks + (length block_params + 2)
  long2 = ap length inserted_blocks ∙ let h = long a i (length f.blocks) (length f.blocks + 1) ps rs f.blocks there sound.blocks_differ sound.block_range more in let e = empty_length (length f.blocks + 2) block_params in omega (arith, h, e)

  pub counts2 : counts_of f2 ≡ counts_with f (length block_params + 2)
  counts2 = ap counts_of inserted ∙ ap (λ (n : ℕ). record (counts_of f) { blocks = n }) (sym (ap length inserted_blocks) ∙ long2)

  pub few2 : instruction_count f2.blocks ≤ instruction_count f.blocks
  few2 = subst (λ (z : List Block). instruction_count z ≤ instruction_count f.blocks) (sym inserted_blocks) (few a i (length f.blocks) (length f.blocks + 1) ps rs f.blocks there sound.blocks_differ sound.block_range more (empty_count (length f.blocks + 2) block_params))

  pub defined2 : (l : Line) → slice_get (lines_of a f.blocks) i ≡ Some l → rs ≡ l.results → (v : ℕ) → In v (definitions f2.blocks) → In v (ps ++ all_of block_params) ⊎ In v (definitions f.blocks)
  defined2 l get res v j =
      elim (defined a i (length f.blocks) (length f.blocks + 1) ps rs f.blocks there sound.blocks_differ sound.block_range more l get res v (subst (λ (z : List Block). In v (definitions z)) inserted_blocks j)) [
        | inl q ↦ elim q [ inl x ↦ inl (in_left v ps (all_of block_params) x) | inr x ↦ inl (in_right v ps (all_of block_params) (empty_defines (length f.blocks + 2) block_params v x)) ]
        | inr q ↦ inr q
      ]

  number_there : (v : ℕ) → In v (length f.blocks ∷ block_numbers more) → In v (block_numbers f2.blocks)
  number_there v j =
      let P = (split a f.blocks there sound.blocks_differ).before in
      subst (λ (z : List Block). In v (block_numbers z)) (sym inserted_blocks) (subst (In v) (sym (numbers_join P _))
      (in_right v (block_numbers P) _ (elim j [ inl q ↦ inr (inl q) | inr q ↦ inr (inr (subst (In v) (sym (numbers_join more _)) (in_left v (block_numbers more) _ q))) ])))

  pub there3 : (xs : List BlockLines) → numbers_of xs ≡ length f.blocks ∷ block_numbers more → Each (λ n. In n (block_numbers f2.blocks)) (numbers_of xs)
  there3 xs e = each_in (block_numbers f2.blocks) (numbers_of xs) (λ v j. number_there v (subst (In v) e j))

module _ (f f1 : Function) (a i k k' : ℕ) (ps rs : List ℕ) (there : In a (block_numbers f.blocks)) (sound : IsSound f) (e1 : f1 ≡ record f { blocks = parted k k' rs (taken a i k ps f.blocks) }) (ek : k ≡ length f.blocks) (ek' : k' ≡ length f.blocks + 1) (f2 : Function) (block_params : List (List ℕ)) (e2 : f2 ≡ record f1 { blocks = behind k (empty_from (length f1.blocks) block_params) f1.blocks }) (f3 : Function) (jump : Line) (no_results : jump.results ≡ []) (e3 : f3 ≡ record f2 { blocks = at_block a (put_line jump) f2.blocks }) (xs : List BlockLines) (numbers : numbers_of xs ≡ length f.blocks ∷ block_numbers (empty_from (length f.blocks + 2) block_params)) where
  blocks3 : f3.blocks ≡ at_block a (put_line jump) f2.blocks
  blocks3 = ap (λ (z : Function). z.blocks) e3

  pub numbers3 : block_numbers f3.blocks ≡ block_numbers f2.blocks
  numbers3 = ap block_numbers blocks3 ∙ numbers_still a (jump ∷ []) f2.blocks

  pub counts3 : counts_of f3 ≡ counts_with f (length block_params + 2)
  counts3 = ap counts_of e3 ∙ (ap (λ (n : ℕ). record (counts_of f2) { blocks = n }) (as_many a (jump ∷ []) f2.blocks) ∙ counts2 f f1 a i k k' ps rs there sound e1 ek ek' f2 block_params e2)

  pub few3 : Different (block_numbers f2.blocks) → instruction_count f3.blocks ≤ instruction_count f.blocks + 1
  few3 d = let h = ap instruction_count blocks3 ∙ counted a (jump ∷ []) f2.blocks (there2 f f1 a i k k' ps rs there sound e1 ek ek' f2 block_params e2) d in let g = few2 f f1 a i k k' ps rs there sound e1 ek ek' f2 block_params e2 in omega (arith, h, g)

  pub defined3 : (v : ℕ) → In v (definitions f3.blocks) → In v (definitions f2.blocks)
  defined3 v j = elim (defined_now a (jump ∷ []) f2.blocks v (subst (λ (z : List Block). In v (definitions z)) blocks3 j)) [ inl q ↦ elim (subst (λ (z : List ℕ). In v (z ++ [])) no_results q) [ ] | inr q ↦ q ]

  pub all3 : (f4 : Function) → Different (block_numbers f2.blocks) → f4 ≡ record f3 { blocks = blocks_with_lines xs f3.blocks } → f4 ≡ record f { blocks = with_body a i jump (blocks_from (ps ∷ block_params) xs) (length f.blocks + 1) rs f.blocks }
  all3 f4 d e4 =
      let B = blocks_with f f1 a i k k' ps rs there sound e1 ek ek' (empty_from (length f.blocks + 2) block_params) in
      e4
      ∙ (ap (λ (z : Function). record z { blocks = blocks_with_lines xs z.blocks }) (e3 ∙ ap (λ (z : Function). record z { blocks = at_block a (put_line jump) z.blocks }) (inserted f f1 a i k k' ps rs there sound e1 ek ek' f2 block_params e2))
      ∙ ap (λ (z : List Block). record f { blocks = z }) (all_is a i (length f.blocks) (length f.blocks + 1) ps rs f.blocks there sound.blocks_differ sound.block_range jump block_params xs numbers (subst (λ (z : List Block). Different (block_numbers z)) (inserted_blocks f f1 a i k k' ps rs there sound e1 ek ek' f2 block_params e2) d)))
