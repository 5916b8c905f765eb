-- Tests over the text itself.
use Rattle.std.proofs.Common.{◌≡◌, [], ◌∷◌, ◌++◌, Some, Bool, true, false, refl, ap, ◌∙◌}
use Rattle.std.specs.Prelude.{if◌then◌else◌, slice_get}
use Rattle.ir_core.proofs.ByNumber.{in_find}
use Rattle.ir_check.specs.Twins.{if_some, kept_at_line, kept_at_block, kept_at_callee, first_failing, or_else}
use Rattle.ir_check.specs.Laws as law

pub in_parts : law.InParts
in_parts t [] ys = refl
in_parts t (c ∷ xs) ys = go (t c) (in_parts t xs ys)
  where
    go : (z : Bool) → first_failing t (xs ++ ys) ≡ or_else (first_failing t xs) (first_failing t ys) → (if z then first_failing t (xs ++ ys) else Some c) ≡ or_else (if z then first_failing t xs else Some c) (first_failing t ys)
    go true h = h
    go false h = refl

pub at_callee : law.AtCallee
at_callee available m f k c r h = ap (λ o. if_some o (λ d. kept_at_callee available m f d r)) h

pub at_block : law.AtBlock
at_block available m f b r d i = ap (λ o. if_some o (λ k. kept_at_block available f b.number k r)) (in_find b f.blocks d i)

pub at_line : law.AtLine
at_line available m f b i l r d j h =
    ap (λ o. if_some o (λ k. if_some (slice_get k.lines i) (λ l. kept_at_line available f b.number k i l r))) (in_find b f.blocks d j) ∙ ap (λ o. if_some o (λ l. kept_at_line available f b.number b i l r)) h
