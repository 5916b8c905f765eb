-- Checks of what the pass makes of a module.
use Rattle.std.proofs.Common.{◌≡◌, ℕ, Bool, true, false, List, [], ◌∷◌, ◌++◌, map, refl, sym, ap, ap₂, subst, ◌∙◌, append-nil}
use mathlib.Core.List.{map-map}
use Rattle.ir_core.specs.Lists.{Each}
use Rattle.ir_core.specs.Module.{Function, Module}
use Rattle.ir_core.specs.WellFormed.{WellFormed}
use Rattle.ir_semantics.specs.Canon.{canonical, canonical_module, SameUpToNumbering}
use Rattle.ir_text.specs.Text.{function_text_of, text_of}
use Rattle.inline_numbering.proofs.Texts.{numbering_keeps_text}
use Rattle.inline_pass.specs.Finished.{finished, passed}
use Rattle.inline_pass.specs.Inlined.{inlined}
use Rattle.inline_pass.specs.Policy.{Policy}
use Rattle.test_directives.specs.Commands.{Command}
use Rattle.test_directives.specs.Tests.{FunctionTests}
use Rattle.filetest.specs.Checks.{each, line_check, output_check, inlined_check, finished_text}
use Rattle.filetest.specs.Outputs.{line_checks, output_checks}
use Rattle.filetest.specs.Telling.{Told, Tells}

-- ---- texts in place of functions

pub each_lines : (g : Function → List ℕ) (m : Module) (ts : List FunctionTests) → line_checks (map g m) ts ≡ each (line_check g) m ts
each_lines g [] [] = refl
each_lines g [] (t ∷ ts) = refl
each_lines g (f ∷ m) [] = refl
each_lines g (f ∷ m) (t ∷ ts) = ap (λ xs. line_check g f t ++ xs) (each_lines g m ts)

pub each_outputs : (n : Function → ℕ) (g : Function → List ℕ) (m : Module) (ts : List FunctionTests) → output_checks (map n m) (map g m) ts ≡ each (output_check n g) m ts
each_outputs n g [] [] = refl
each_outputs n g [] (t ∷ ts) = refl
each_outputs n g (f ∷ m) [] = refl
each_outputs n g (f ∷ m) (t ∷ ts) = ap (λ xs. output_check n g f t ++ xs) (each_outputs n g m ts)

-- ---- texts do not depend on numbers

one_text : (f g : Function) → WellFormed f → WellFormed g → canonical f ≡ canonical g → function_text_of g ≡ function_text_of f
one_text f g wf wg e =
    let h : text_of (f ∷ []) ≡ text_of (g ∷ []) = numbering_keeps_text (f ∷ []) (g ∷ []) ((wf, tt), (wg, tt), ap (λ x. x ∷ []) e) in
    sym (append-nil (function_text_of g)) ∙ (sym h ∙ append-nil (function_text_of f))

texts_same : (m r : Module) → Each WellFormed m → Each WellFormed r → canonical_module m ≡ canonical_module r → map function_text_of r ≡ map function_text_of m
texts_same [] [] a b e = refl
texts_same [] (g ∷ r) a b e = cc
texts_same (f ∷ m) [] a b e = cc
texts_same (f ∷ m) (g ∷ r) a b e =
    let both : canonical f ∷ canonical_module m ≡ canonical g ∷ canonical_module r = e in
    ap₂ (λ (x : List ℕ) (xs : List (List ℕ)). x ∷ xs) (one_text f g a.0 b.0 (cc)) (texts_same m r a.1 b.1 (cc))

finished_texts : (p : Policy) (m r : Module) → SameUpToNumbering (passed p m) r → map function_text_of r ≡ map (finished_text p m) m
finished_texts p m r h = texts_same (passed p m) r h.0 h.1 h.2 ∙ map-map function_text_of (finished p m) m

module _ (p : Policy) (m r : Module) (ts : List FunctionTests) (h : SameUpToNumbering (passed p m) r) where
  pub passed_lines : line_checks (map function_text_of r) ts ≡ each (line_check (finished_text p m)) m ts
  passed_lines = ap (λ xs. line_checks xs ts) (finished_texts p m r h) ∙ each_lines (finished_text p m) m ts

  pub passed_outputs : (ns : List ℕ) → ns ≡ map (inlined p m) m → output_checks ns (map function_text_of r) ts ≡ each (output_check (inlined p m) (finished_text p m)) m ts
  passed_outputs ns e =
      ap (λ xs. output_checks xs (map function_text_of r) ts) e
      ∙ (ap (λ xs. output_checks (map (inlined p m) m) xs ts) (finished_texts p m r h) ∙ each_outputs (inlined p m) (finished_text p m) m ts)

-- what is told of the module that the pass made
module _ (p : Policy) (m r made : Module) (ts : List FunctionTests) (h : SameUpToNumbering (passed p m) made) (e : r ≡ made) (a b : Told) (command : Command) (precise : Bool) where
  pub lines_told : precise ≡ false → Tells a b command (line_checks (map function_text_of r) ts) → Tells a b command (each (inlined_check precise p m) m ts)
  lines_told t k = subst (Tells a b command)
      (ap (λ x. line_checks (map function_text_of x) ts) e ∙ (passed_lines p m made ts h ∙ sym (ap (λ z. each (inlined_check z p m) m ts) t))) k

  pub outputs_told : (ns sites : List ℕ) → ns ≡ sites → sites ≡ map (inlined p m) m → precise ≡ true
      → Tells a b command (output_checks ns (map function_text_of r) ts) → Tells a b command (each (inlined_check precise p m) m ts)
  outputs_told ns sites en es t k = subst (Tells a b command)
      (ap (λ x. output_checks ns (map function_text_of x) ts) e ∙ (passed_outputs p m made ts h ns (en ∙ es) ∙ sym (ap (λ z. each (inlined_check z p m) m ts) t))) k
