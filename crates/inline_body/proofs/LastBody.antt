-- The body at a tail call, line by line.
use Rattle.std.proofs.Common.{◌≡◌, ℕ, suc, List, [], ◌∷◌, ◌++◌, map, refl, ap, ap₂, ◌∙◌}
use Rattle.ir_core.specs.Module.{Line, Block}
use Rattle.ir_semantics.specs.Splice.{Splicing, Kind, callee_line, Fragment, fragment_by, fragment, body, front}
use Rattle.inline_body.specs.declared.names.Names.{Names}
use Rattle.inline_body.specs.Named.{names_of}
use Rattle.inline_body.specs.Inlined.{copied_line}
use Rattle.inline_body.specs.Within.{LastNumbers}
use Rattle.inline_body.proofs.CalleeLines.{IsNumbering, values_are, line_is}

module _ (p : Splicing) (n : Names) (is : LastNumbers p n) where
  own : IsNumbering p n
  own = record { value = is.value; block = is.block; slots = is.slots; sig = is.sig; callee = is.callee }

  abbrev as_piece : List Line → Fragment
  as_piece ls = record { lines = ls; more = [] }

  piece_is : (c j : ℕ) (ls : List Line) → fragment p c j ls ≡ as_piece (map (copied_line n p.site.tags) ls)
  piece_is c j [] = refl
  piece_is c j (l ∷ ls) =
      ap (λ (k : Kind). fragment_by p k c j l (fragment p c (suc j) ls)) is.kind
      ∙ (ap (λ (q : Fragment). front p (callee_line p l) q) (piece_is c (suc j) ls) ∙ ap (λ (z : Line). as_piece (z ∷ map (copied_line n p.site.tags) ls)) (line_is p n own l))

  pub body_is : (bs : List Block) → body p bs ≡ map (λ b. record { number = (names_of n).block b.number; params = map (names_of n).value b.params; lines = map (copied_line n p.site.tags) b.lines }) bs
  body_is [] = refl
  body_is (b ∷ bs) =
      ap (λ (q : Fragment). record { number = p.naming.callee_block b.number; params = map p.naming.callee_value b.params; lines = q.lines } ∷ (q.more ++ body p bs)) (piece_is b.number 0 b.lines)
      ∙ (ap₂ (λ (x : ℕ) (y : List ℕ). record { number = x; params = y; lines = map (copied_line n p.site.tags) b.lines } ∷ body p bs) (is.block b.number) (values_are p n own b.params)
      ∙ ap (λ (z : List Block). record { number = (names_of n).block b.number; params = map (names_of n).value b.params; lines = map (copied_line n p.site.tags) b.lines } ∷ z) (body_is bs))
