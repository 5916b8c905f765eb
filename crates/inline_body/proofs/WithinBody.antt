-- The body at a plain call, line by line.
use Rattle.std.proofs.Common.{◌≡◌, ℕ, suc, ◌+◌, List, [], ◌∷◌, ◌++◌, map, length, get_or, refl, ap, ap₂, ◌∙◌}
use Rattle.debug_tags.specs.declared.tags.Tag.{Tag}
use Rattle.ir_core.specs.Module.{Instruction, CallTarget, Plain, Branches, SequencePoint, Return, Call, ReturnCall, TryCall, Line, Block}
use Rattle.ir_semantics.specs.Renaming.{called_under}
use Rattle.ir_semantics.specs.Splice.{Splicing, Kind, callee_names, joined_tags, line_with, to_after, new_results, from, within_fragment, Fragment, fragment_by, fragment, body}
use Rattle.inline_body.specs.declared.names.Names.{Names}
use Rattle.inline_body.specs.Named.{names_of}
use Rattle.inline_body.specs.Inlined.{jump_line, call_in_place, inlined_line, inlined_lines, results_from, inlined_block}
use Rattle.inline_body.specs.Within.{Numbers}
use Rattle.inline_body.proofs.CalleeLines.{IsNumbering, values_are, called_are, joined_are, line_is}

mapped_same : (f g : ℕ → ℕ) → ((i : ℕ) → f i ≡ g i) → (xs : List ℕ) → map f xs ≡ map g xs
mapped_same f g h [] = refl
mapped_same f g h (x ∷ xs) = ap₂ (λ (y : ℕ) (ys : List ℕ). y ∷ ys) (h x) (mapped_same f g h xs)

module _ (p : Splicing) (n : Names) (starts : List ℕ) (is : Numbers p n starts) where
  own : IsNumbering p n
  own = record { value = is.value; block = is.block; slots = is.slots; sig = is.sig; callee = is.callee }

  results_are : (c : ℕ) → new_results p c ≡ results_from starts (length p.site.results) c
  results_are c = mapped_same (p.naming.new_value c) (λ i. get_or starts c 0 + i) (is.new_value c) (from 0 (length p.site.results))

  abbrev made : ℕ → List Line → List Line
  made c ls = inlined_lines n p.site.tags p.naming.after (results_from starts (length p.site.results) c) ls

  abbrev as_piece : List Line → Fragment
  as_piece ls = record { lines = ls; more = [] }

  call_is : (c : ℕ) (l : Line) (t : CallTarget) (args : List ℕ) → line_with p (record l { inst = ReturnCall t args }) (Call (called_under (callee_names p) t) (map p.naming.callee_value args)) (new_results p c) ≡ call_in_place n p.site.tags (results_from starts (length p.site.results) c) l t args
  call_is c l t args =
      ap₂ (λ (x : CallTarget) (y : List ℕ). record { inst = Call x y; ty = l.ty; results = new_results p c; tags = joined_tags p (ReturnCall t args) l.tags }) (called_are p n own t) (values_are p n own args)
      ∙ ap₂ (λ (x : List ℕ) (y : List Tag). record { inst = Call (called_under (names_of n) t) (map (names_of n).value args); ty = l.ty; results = x; tags = y }) (results_are c) (joined_are p n own (ReturnCall t args) l.tags)

  step : (c j : ℕ) (l : Line) (i : Instruction) (ls : List Line) → l.inst ≡ i → within_fragment p c j l i (as_piece (made c ls)) ≡ as_piece (inlined_line n p.site.tags p.naming.after (results_from starts (length p.site.results) c) l i ++ made c ls)
  step c j l (Plain x) ls e = ap (λ (z : Line). as_piece (z ∷ made c ls)) (line_is p n own l)
  step c j l (Branches x) ls e = ap (λ (z : Line). as_piece (z ∷ made c ls)) (line_is p n own l)
  step c j l SequencePoint ls e = ap (λ (z : Line). as_piece (z ∷ made c ls)) (line_is p n own l)
  step c j l (Return vs) ls e = ap (λ (z : List ℕ). as_piece (jump_line p.naming.after z ∷ made c ls)) (values_are p n own vs)
  step c j l (Call t args) ls e = ap (λ (z : Line). as_piece (z ∷ made c ls)) (line_is p n own l)
  step c j l (ReturnCall t args) ls e =
      ap (λ (z : Instruction). as_piece (line_with p (record l { inst = z }) (Call (called_under (callee_names p) t) (map p.naming.callee_value args)) (new_results p c) ∷ (to_after p (new_results p c) ∷ made c ls))) e
      ∙ ap₂ (λ (x : Line) (y : List ℕ). as_piece (x ∷ (jump_line p.naming.after y ∷ made c ls))) (call_is c l t args) (results_are c)
  step c j l (TryCall t sig args normal table) ls e = ap (λ (z : Line). as_piece (z ∷ made c ls)) (line_is p n own l)

  piece_is : (c j : ℕ) (ls : List Line) → fragment p c j ls ≡ as_piece (made c ls)
  piece_is c j [] = refl
  piece_is c j (l ∷ ls) =
      ap (λ (k : Kind). fragment_by p k c j l (fragment p c (suc j) ls)) is.kind
      ∙ (ap (λ (q : Fragment). within_fragment p c j l l.inst q) (piece_is c (suc j) ls) ∙ step c j l l.inst ls refl)

  pub body_is : (bs : List Block) → body p bs ≡ map (inlined_block n p.site.tags p.naming.after starts (length p.site.results)) bs
  body_is [] = refl
  body_is (b ∷ bs) =
      ap (λ (q : Fragment). record { number = p.naming.callee_block b.number; params = map p.naming.callee_value b.params; lines = q.lines } ∷ (q.more ++ body p bs)) (piece_is b.number 0 b.lines)
      ∙ (ap₂ (λ (x : ℕ) (y : List ℕ). record { number = x; params = y; lines = made b.number b.lines } ∷ body p bs) (is.block b.number) (values_are p n own b.params)
      ∙ ap (λ (z : List Block). inlined_block n p.site.tags p.naming.after starts (length p.site.results) b ∷ z) (body_is bs))
