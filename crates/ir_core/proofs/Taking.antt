-- A block's last line taken away: where what was is what is left with the line at its end, what is left is what was without
-- its last line.
use Rattle.std.proofs.Common.{◌≡◌, ℕ, List, [], ◌∷◌, Bool, true, false, cond, refl, sym, ap, ap₂, ◌∙◌, subst}
use Rattle.std.specs.Prelude.{nat_eq}
use Rattle.ir_core.specs.Module.{Line, Block, Function}
use Rattle.ir_core.specs.Edits.{at_block, put_line, with_lines, but_last}
use Rattle.ir_core.proofs.Changing.{but_last_end}

abbrev pub without_last : Block → Block
without_last b = with_lines (but_last b.lines) b

left_blocks : (a : ℕ) (l : Line) (bs : List Block) → bs ≡ at_block a without_last (at_block a (put_line l) bs)
left_blocks a l [] = refl
left_blocks a l (b ∷ bs) = ap₂ (λ x xs. x ∷ xs) (go (nat_eq b.number a) refl) (left_blocks a l bs)
  where
    go : (is : Bool) → nat_eq b.number a ≡ is → b ≡ cond (nat_eq (cond is (put_line l b) b).number a) (without_last (cond is (put_line l b) b)) (cond is (put_line l b) b)
    go true e = ap (λ ls. with_lines ls b) (sym (but_last_end b.lines l)) ∙ ap (λ is. cond is (without_last (put_line l b)) (put_line l b)) (sym e)
    go false e = ap (λ is. cond is (without_last b) b) (sym e)

pub left_function : (a : ℕ) (l : Line) (f g : Function) → f ≡ record g { blocks = at_block a (put_line l) g.blocks } → g ≡ record f { blocks = at_block a without_last f.blocks }
left_function a l f g e = subst (λ z. g ≡ record z { blocks = at_block a without_last z.blocks }) (sym e) (ap (λ bs. record g { blocks = bs }) (left_blocks a l g.blocks))
