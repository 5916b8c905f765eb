-- What is left of a list.
use Rattle.std.proofs.Common.{◌≡◌, ℕ, zero, suc, [], ◌∷◌, Some, sym, ap, ◌∙◌}
use Rattle.std.specs.List.{slice_get}
use Rattle.ir_core.specs.Module.{Function, Module}
use Rattle.ir_text.specs.Numbering.{Numbering, numbering_of, numberings_of}

-- the numbers of a function of a module
pub numbering_at : (m : Module) (i : ℕ) (f : Function) (n : Numbering) → slice_get m i ≡ Some f → slice_get (numberings_of m) i ≡ Some n → n ≡ numbering_of f
numbering_at [] i f n e k = absurd cc
numbering_at (g ∷ m) zero f n e k = let a : g ≡ f = cc in let b : numbering_of g ≡ n = cc in sym b ∙ ap numbering_of a
numbering_at (g ∷ m) (suc i) f n e k = numbering_at m i f n e k
