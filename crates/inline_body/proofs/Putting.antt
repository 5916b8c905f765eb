-- Lines put at a block's end, one after another.
use Rattle.std.proofs.Common.{◌≡◌, ℕ, ◌+◌, ◌<◌, ◌^◌, ◌-◌, inl, inr, List, [], ◌∷◌, ◌++◌, length, Bool, true, false, refl, sym, ap, ap₂, ◌∙◌, subst, arith, append_assoc, append-nil}
use Rattle.std.specs.Prelude.{if◌then◌else◌, nat_eq}
use Rattle.ir_core.specs.Module.{Block, Line, Function}
use Rattle.ir_core.specs.Lookup.{block_numbers, definitions, line_definitions}
use Rattle.ir_core.specs.Lists.{In, Different, Each}
use Rattle.ir_core.specs.Sound.{LineInRange, counts_of, instruction_count}
use Rattle.ir_core.specs.Edits.{at_block, put_line}
use Rattle.ir_core.proofs.Members.{in_left, in_right, different_right, different_apart, different_left}
use Rattle.inline_body.specs.Opened.{with_more}
use Rattle.inline_body.proofs.Fills.{numbers_still, as_many, defined_now, counted}

-- ---- what a line put does to blocks

at_twice : (a : ℕ) (l : Line) (ls : List Line) (bs : List Block) → at_block a (with_more ls) (at_block a (put_line l) bs) ≡ at_block a (with_more (l ∷ ls)) bs
at_twice a l ls [] = refl
at_twice a l ls (b ∷ bs) = ap₂ (λ (x : Block) xs. x ∷ xs) (go (nat_eq b.number a) refl) (at_twice a l ls bs)
  where
    go : (c : Bool) → nat_eq b.number a ≡ c → (if nat_eq (if c then put_line l b else b).number a then with_more ls (if c then put_line l b else b) else (if c then put_line l b else b)) ≡ (if c then with_more (l ∷ ls) b else b)
    go true e = ap (λ z. if z then with_more ls (put_line l b) else put_line l b) e ∙ ap (λ z. record b { lines = z }) (append_assoc b.lines (l ∷ []) ls)
    go false e = ap (λ z. if z then with_more ls b else b) e

at_none : (a : ℕ) (bs : List Block) → at_block a (with_more []) bs ≡ bs
at_none a [] = refl
at_none a (b ∷ bs) = ap₂ (λ (x : Block) xs. x ∷ xs) (go (nat_eq b.number a)) (at_none a bs)
  where
    go : (c : Bool) → (if c then with_more [] b else b) ≡ b
    go true = ap (λ z. record b { lines = z }) (append-nil b.lines)
    go false = refl

-- ---- the loop: f0 was there at first, f is there now; of the lines `all` those of `rest` are left

pub record Putting (a : ℕ) (f0 f : Function) (all rest : List Line) : Type 0 where
  pub left : at_block a (with_more rest) f.blocks ≡ at_block a (with_more all) f0.blocks
  pub others : f ≡ record f0 { blocks = f.blocks }
  pub numbers : block_numbers f.blocks ≡ block_numbers f0.blocks
  pub many : length f.blocks ≡ length f0.blocks
  pub there : In a (block_numbers f0.blocks)
  pub differ : Different (block_numbers f0.blocks)
  pub range : Each (LineInRange (counts_of f0)) rest
  pub different : Different (line_definitions rest)
  pub undefined : (v : ℕ) → In v (line_definitions rest) → In v (definitions f.blocks) → ⊥
  pub few : instruction_count f.blocks + length rest < 2 ^ 32 - 1

pub put_start : (a : ℕ) (f : Function) (all : List Line) → In a (block_numbers f.blocks) → Different (block_numbers f.blocks) → Each (LineInRange (counts_of f)) all → Different (line_definitions all) → ((v : ℕ) → In v (line_definitions all) → In v (definitions f.blocks) → ⊥) → instruction_count f.blocks + length all < 2 ^ 32 - 1 → Putting a f f all all
put_start a f all there differ range different undefined few = record { left = refl; others = refl; numbers = refl; many = refl; there = there; differ = differ; range = range; different = different; undefined = undefined; few = few }

counts_still : (f0 f : Function) → f ≡ record f0 { blocks = f.blocks } → length f.blocks ≡ length f0.blocks → counts_of f0 ≡ counts_of f
counts_still f0 f e n = ap (λ k. record (counts_of f0) { blocks = k }) (sym n) ∙ sym (ap counts_of e)

module _ (a : ℕ) (f0 f : Function) (all rest : List Line) (l : Line) (p : Putting a f0 f all (l ∷ rest)) where
  pub line_there : In a (block_numbers f.blocks)
  line_there = subst (In a) (sym p.numbers) p.there

  pub line_range : LineInRange (counts_of f) l
  line_range = subst (λ n. LineInRange n l) (counts_still f0 f p.others p.many) p.range.0

  pub line_different : Different l.results
  line_different = different_left l.results (line_definitions rest) p.different

  pub line_undefined : (v : ℕ) → In v l.results → In v (definitions f.blocks) → ⊥
  line_undefined v i j = p.undefined v (in_left v l.results (line_definitions rest) i) j

  pub line_few : instruction_count f.blocks + 1 < 2 ^ 32 - 1
  line_few = omega (arith, p.few)

  pub put_step : (f' : Function) → f' ≡ record f { blocks = at_block a (put_line l) f.blocks } → Putting a f0 f' all rest
  put_step f' e =
      let blocks : f'.blocks ≡ at_block a (put_line l) f.blocks = ap (λ (z : Function). z.blocks) e in
      let one : instruction_count f'.blocks ≡ instruction_count f.blocks + 1 = ap instruction_count blocks ∙ counted a (l ∷ []) f.blocks line_there (subst Different (sym p.numbers) p.differ) in
      record {
        left = ap (at_block a (with_more rest)) blocks ∙ (at_twice a l rest f.blocks ∙ p.left);
        others = e ∙ (ap (λ (z : Function). record z { blocks = at_block a (put_line l) f.blocks }) p.others ∙ ap (λ bs. record f0 { blocks = bs }) (sym blocks));
        numbers = ap block_numbers blocks ∙ (numbers_still a (l ∷ []) f.blocks ∙ p.numbers);
        many = ap length blocks ∙ (as_many a (l ∷ []) f.blocks ∙ p.many);
        there = p.there;
        differ = p.differ;
        range = p.range.1;
        different = different_right l.results (line_definitions rest) p.different;
        undefined = λ v i j. elim (defined_now a (l ∷ []) f.blocks v (subst (λ z. In v (definitions z)) blocks j)) [
          | inl u ↦ different_apart l.results (line_definitions rest) v p.different (subst (In v) (append-nil l.results) u) i
          | inr u ↦ p.undefined v (in_right v l.results (line_definitions rest) i) u
        ];
        few = omega (arith, p.few, one);
      }

pub put_end : (a : ℕ) (f0 f : Function) (all : List Line) → Putting a f0 f all [] → f ≡ record f0 { blocks = at_block a (with_more all) f0.blocks }
put_end a f0 f all p = p.others ∙ ap (λ bs. record f0 { blocks = bs }) (sym (at_none a f.blocks) ∙ p.left)
