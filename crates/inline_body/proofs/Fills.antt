-- Lines put into blocks, one block after another.
use Rattle.std.proofs.Common.{◌≡◌, ℕ, suc, ◌+◌, ◌-◌, ◌<◌, ◌^◌, ◌⊎◌, inl, inr, List, [], ◌∷◌, ◌++◌, map, length, Bool, true, false, refl, sym, ap, ap₂, ◌∙◌, subst, arith, length-append}
use Rattle.std.specs.Prelude.{if◌then◌else◌, nat_eq}
use Rattle.ir_core.specs.Module.{Block, Line, Function}
use Rattle.ir_core.specs.Lookup.{block_numbers, definitions, line_definitions}
use Rattle.ir_core.specs.Lists.{In, Different, Each}
use Rattle.ir_core.specs.Sound.{LineInRange, counts_of, instruction_count}
use Rattle.ir_core.specs.Edits.{at_block}
use Rattle.ir_core.specs.Viewed.{line_of}
use Rattle.ir_core.proofs.Members.{in_left, in_right, in_cases, different_right, different_apart, each_right}
use Rattle.ir_core.proofs.Splitting.{split, Split, line_definitions_join, count_split}
use Rattle.inline_body.specs.Opened.{with_more}
use Rattle.inline_body.specs.declared.blocks.BlockLines.{BlockLines}
use Rattle.inline_body.specs.WithBody.{blocks_with_lines, lines_in, numbers_of}

pub numbers_still : (a : ℕ) (ls : List Line) (bs : List Block) → block_numbers (at_block a (with_more ls) bs) ≡ block_numbers bs
numbers_still a ls [] = refl
numbers_still a ls (b ∷ bs) = ap₂ (λ (x : ℕ) (xs : List ℕ). x ∷ xs) (go (nat_eq b.number a)) (numbers_still a ls bs)
  where
    go : (c : Bool) → (if c then with_more ls b else b).number ≡ b.number
    go true = refl
    go false = refl

pub as_many : (a : ℕ) (ls : List Line) (bs : List Block) → length (at_block a (with_more ls) bs) ≡ length bs
as_many a ls [] = refl
as_many a ls (b ∷ bs) = ap suc (as_many a ls bs)

pub defined_now : (a : ℕ) (ls : List Line) (bs : List Block) (v : ℕ) → In v (definitions (at_block a (with_more ls) bs)) → In v (line_definitions ls) ⊎ In v (definitions bs)
defined_now a ls [] v i = elim i [ ]
defined_now a ls (b ∷ bs) v i = go (nat_eq b.number a) i (λ j. defined_now a ls bs v j)
  where
    behind : (In v (definitions (at_block a (with_more ls) bs)) → In v (line_definitions ls) ⊎ In v (definitions bs)) → In v (definitions (at_block a (with_more ls) bs)) → In v (line_definitions ls) ⊎ In v (definitions (b ∷ bs))
    behind ih j = elim (ih j) [ inl u ↦ inl u | inr u ↦ inr (in_right v b.params _ (in_right v (line_definitions b.lines) (definitions bs) u)) ]

    go : (c : Bool) → In v (definitions ((if c then with_more ls b else b) ∷ at_block a (with_more ls) bs)) → (In v (definitions (at_block a (with_more ls) bs)) → In v (line_definitions ls) ⊎ In v (definitions bs)) → In v (line_definitions ls) ⊎ In v (definitions (b ∷ bs))
    go false j ih = elim (in_cases v b.params _ j) [
      | inl u ↦ inr (in_left v b.params _ u)
      | inr u ↦ elim (in_cases v (line_definitions b.lines) _ u) [ inl w ↦ inr (in_right v b.params _ (in_left v (line_definitions b.lines) (definitions bs) w)) | inr w ↦ behind ih w ]
    ]
    go true j ih = elim (in_cases v b.params _ j) [
      | inl u ↦ inr (in_left v b.params _ u)
      | inr u ↦ elim (in_cases v (line_definitions (b.lines ++ ls)) _ u) [
        | inl w ↦ elim (in_cases v (line_definitions b.lines) (line_definitions ls) (subst (In v) (line_definitions_join b.lines ls) w)) [
          | inl x ↦ inr (in_right v b.params _ (in_left v (line_definitions b.lines) (definitions bs) x))
          | inr x ↦ inl x
        ]
        | inr w ↦ behind ih w
      ]
    ]

pub counted : (a : ℕ) (ls : List Line) (bs : List Block) → In a (block_numbers bs) → Different (block_numbers bs) → instruction_count (at_block a (with_more ls) bs) ≡ instruction_count bs + length ls
counted a ls bs i d =
    let s : Split a bs = split a bs i d in
    let now = ap instruction_count (s.at (with_more ls)) ∙ count_split s.before s.behind (with_more ls s.here) in
    let was = ap instruction_count s.is ∙ count_split s.before s.behind s.here in
    let more = length-append s.here.lines ls in
    omega (arith, now, was, more)

-- ---- the loop: f0 was there at first, f is there now; of the block_lines `all` those of `rest` are left

pub record Fills (f0 f : Function) (all rest : List BlockLines) : Type 0 where
  pub left : blocks_with_lines rest f.blocks ≡ blocks_with_lines all f0.blocks
  pub others : f ≡ record f0 { blocks = f.blocks }
  pub numbers : block_numbers f.blocks ≡ block_numbers f0.blocks
  pub counts : counts_of f ≡ counts_of f0
  pub there : Each (λ n. In n (block_numbers f0.blocks)) (numbers_of rest)
  pub differ : Different (block_numbers f0.blocks)
  pub range : Each (LineInRange (counts_of f0)) (lines_in rest)
  pub different : Different (line_definitions (lines_in rest))
  pub undefined : (v : ℕ) → In v (line_definitions (lines_in rest)) → In v (definitions f.blocks) → ⊥
  pub few : instruction_count f.blocks + length (lines_in rest) < 2 ^ 32 - 1

pub fill_step : (f0 f g : Function) (all rest : List BlockLines) (x : BlockLines) → Fills f0 f all (x ∷ rest) → g ≡ record f { blocks = at_block x.block (with_more (map line_of x.lines)) f.blocks } → Fills f0 g all rest
fill_step f0 f g all rest x p is =
    let ls = map line_of x.lines in
    let blocks : g.blocks ≡ at_block x.block (with_more ls) f.blocks = ap (λ (z : Function). z.blocks) is in
    let join = line_definitions_join ls (lines_in rest) in
    let few = p.few in
    let more = length-append ls (lines_in rest) in
    let count = ap instruction_count blocks ∙ counted x.block ls f.blocks (subst (In x.block) (sym p.numbers) p.there.0) (subst Different (sym p.numbers) p.differ) in
    record {
      left = ap (blocks_with_lines rest) blocks ∙ p.left;
      others = is ∙ (ap (λ (z : Function). record z { blocks = at_block x.block (with_more ls) f.blocks }) p.others ∙ ap (λ (z : List Block). record f0 { blocks = z }) (sym blocks));
      numbers = ap block_numbers blocks ∙ (numbers_still x.block ls f.blocks ∙ p.numbers);
      counts = ap counts_of is ∙ (ap (λ (n : ℕ). record (counts_of f) { blocks = n }) (as_many x.block ls f.blocks) ∙ p.counts);
      there = p.there.1;
      differ = p.differ;
      range = each_right (LineInRange (counts_of f0)) ls (lines_in rest) p.range;
      different = different_right (line_definitions ls) (line_definitions (lines_in rest)) (subst Different join p.different);
      undefined = λ v i j. elim (defined_now x.block ls f.blocks v (subst (λ z. In v (definitions z)) blocks j)) [
        | inl q ↦ different_apart (line_definitions ls) (line_definitions (lines_in rest)) v (subst Different join p.different) q i
        | inr q ↦ p.undefined v (subst (In v) (sym join) (in_right v (line_definitions ls) (line_definitions (lines_in rest)) i)) q
      ];
      few = omega (arith, few, more, count);
    }

pub fill_end : (f0 f : Function) (all : List BlockLines) → Fills f0 f all [] → f ≡ record f0 { blocks = blocks_with_lines all f0.blocks }
fill_end f0 f all p = p.others ∙ ap (λ (z : List Block). record f0 { blocks = z }) p.left
