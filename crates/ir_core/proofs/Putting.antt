-- What putting an instruction at a block's end makes of the fields.
use Rattle.std.proofs.Common.{◌≡◌, ℕ, ◌+◌, ◌-◌, ◌<◌, ◌^◌, List, [], ◌∷◌, length, Bool, true, false, refl, sym, ap, ap₂, ◌∙◌, subst, arith}
use Rattle.std.specs.Prelude.{nat_eq, if◌then◌else◌}
use Rattle.ir_core.specs.declared.instructions.InstData.{InstData}
use Rattle.ir_core.specs.declared.func.Func.TheInside.{Inside}
use Rattle.ir_core.specs.Module.{Block, Line}
use Rattle.ir_core.specs.Lookup.{definitions, block_numbers}
use Rattle.ir_core.specs.Lists.{In, Different}
use Rattle.ir_core.specs.Viewed.{line_of}
use Rattle.ir_core.specs.Sound.{LineInRange, counts_of, instruction_count, CanAdd, IsSound}
use Rattle.ir_core.specs.Edits.{Body, at_block, put_line}
use Rattle.ir_core.specs.Layout.{IsLaidOut, body_of, function_of}
use Rattle.ir_core.proofs.Keeping.{with_blocks}
use Rattle.ir_core.proofs.Counting.{defined_bound}
use Rattle.ir_core.proofs.Writing.{sound_line, length_line, sound_unline}

module _ (s : Inside) (w : Body) (laid : IsLaidOut s) (is : body_of s ≡ w) (a : ℕ) (x : InstData) (there : In a (block_numbers w.function.blocks)) (in_range : LineInRange (counts_of w.function) (line_of x)) (different : Different x.results) (undefined : (v : ℕ) → In v x.results → In v (definitions w.function.blocks) → ⊥) (few : CanAdd (instruction_count w.function.blocks)) where
  here : In a (block_numbers (function_of s).blocks)
  here = subst (λ z. In a (block_numbers z.function.blocks)) (sym is) there

  sound_after : IsSound (with_blocks (function_of s) (at_block a (put_line (line_of x)) (function_of s).blocks))
  sound_after = sound_line (function_of s) a (line_of x) laid.sound here (subst (λ z. LineInRange (counts_of z.function) (line_of x)) (sym is) in_range) different (λ v i j. undefined v i (subst (λ z. In v (definitions z.function.blocks)) is j)) (subst (λ z. CanAdd (instruction_count z.function.blocks)) (sym is) few)

  defined_after : s.defined + length x.results ≡ length (definitions (at_block a (put_line (line_of x)) (function_of s).blocks))
  defined_after = ap (λ z. z + length x.results) laid.defined ∙ sym (length_line a (line_of x) (function_of s).blocks here laid.sound.blocks_differ)

  pub put_fits : s.defined + length x.results < 2 ^ 32 - 1
  put_fits = omega (arith, defined_after, defined_bound (with_blocks (function_of s) (at_block a (put_line (line_of x)) (function_of s).blocks)) sound_after, sound_after.small.values)

  module _ (bs : List Block) (put : bs ≡ at_block a (put_line (line_of x)) (function_of s).blocks) where
    pub put_sound : IsSound (with_blocks (function_of s) bs)
    put_sound = subst (λ z. IsSound (with_blocks (function_of s) z)) (sym put) sound_after

    pub put_defined : s.defined + length x.results ≡ length (definitions bs)
    put_defined = defined_after ∙ ap (λ z. length (definitions z)) (sym put)

    pub put_function : (b : ℕ) → a ≡ b → with_blocks (function_of s) bs ≡ with_blocks w.function (at_block b (put_line (line_of x)) w.function.blocks)
    put_function b e = ap (with_blocks (function_of s)) put ∙ (ap (λ z. with_blocks z.function (at_block a (put_line (line_of x)) z.function.blocks)) is ∙ ap (λ z. with_blocks w.function (at_block z (put_line (line_of x)) w.function.blocks)) e)

-- what taking the last instruction of a block away makes of them

numbers_at : (a : ℕ) (l : Line) (bs : List Block) → block_numbers (at_block a (put_line l) bs) ≡ block_numbers bs
numbers_at a l [] = refl
numbers_at a l (b ∷ bs) = ap₂ (λ n ns. n ∷ ns) (same (nat_eq b.number a)) (numbers_at a l bs)
  where
    same : (c : Bool) → (if c then put_line l b else b).number ≡ b.number
    same true = refl
    same false = refl

module _ (s : Inside) (w : Body) (laid : IsLaidOut s) (is : body_of s ≡ w) (a : ℕ) (x : InstData) (there : In a (block_numbers w.function.blocks)) (bs : List Block) (taken : (function_of s).blocks ≡ at_block a (put_line (line_of x)) bs) where
  numbers_taken : block_numbers (function_of s).blocks ≡ block_numbers bs
  numbers_taken = ap block_numbers taken ∙ numbers_at a (line_of x) bs

  there_taken : In a (block_numbers bs)
  there_taken = subst (In a) numbers_taken (subst (λ z. In a (block_numbers z.function.blocks)) (sym is) there)

  differ_taken : Different (block_numbers bs)
  differ_taken = subst Different numbers_taken laid.sound.blocks_differ

  pub taken_sound : IsSound (with_blocks (function_of s) bs)
  taken_sound = sound_unline (function_of s) a (line_of x) bs (subst (λ z. IsSound (with_blocks (function_of s) z)) taken laid.sound) there_taken differ_taken

  pub taken_defined : s.defined ≡ length (definitions bs) + length x.results
  taken_defined = laid.defined ∙ (ap (λ z. length (definitions z)) taken ∙ length_line a (line_of x) bs there_taken differ_taken)

  pub taken_function : (b : ℕ) (y : InstData) → a ≡ b → x ≡ y → w.function ≡ with_blocks (function_of s) (at_block b (put_line (line_of y)) bs)
  taken_function b y e f = ap (λ z. z.function) (sym is) ∙ (ap (with_blocks (function_of s)) taken ∙ ap₂ (λ n z. with_blocks (function_of s) (at_block n (put_line (line_of z)) bs)) e f)
