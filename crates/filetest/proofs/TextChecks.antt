-- Checks of texts, one function after another.
use Rattle.std.proofs.Common.{◌≡◌, ℕ, ◌+◌, ◌<◌, ◌≤◌, List, [], ◌∷◌, length, drop, map, get_or, slice_get, Some, IfSome, refl, sym, ap, subst, ◌∙◌, arith, ◌⊎◌, inl, inr, min}
use Rattle.std.proofs.lemmas.Bool.Decides.{leb_tells}
use Rattle.std.proofs.lemmas.List.{drop_more, drop_all, drop-map}
use Rattle.body_import.proofs.Walks.{next_is}
use Rattle.ir_core.specs.Module.{Function, Module}
use Rattle.ir_core.proofs.Gets.{next_left, get_some}
use Rattle.ir_text.specs.Text.{function_text_of}
use Rattle.test_directives.specs.Commands.{Command}
use Rattle.test_directives.specs.Tests.{FunctionTests}
use Rattle.test_directives.specs.Views.{function_of}
use Rattle.test_directives.specs.declared.tests.FunctionTests.{FunctionTests as CodeTests}
use Rattle.filetest.specs.Report.{Check}
use Rattle.filetest.specs.Outputs.{line_check_of, line_checks, output_check_of, output_checks}
use Rattle.filetest.specs.Telling.{Told, Tells, TellsWith}
use Rattle.filetest.proofs.Telling.{tells_front}

texts_at : (m : Module) (i : ℕ) (f : Function) → slice_get m i ≡ Some f → drop i (map function_text_of m) ≡ function_text_of f ∷ drop (i + 1) (map function_text_of m)
texts_at m i f e = drop-map function_text_of i m ∙ (ap (map function_text_of) (next_left m i f e) ∙ ap (λ xs. function_text_of f ∷ xs) (sym (drop-map function_text_of (i + 1) m)))

pub mapped_at : {A B : Type 0} (f : A → B) (xs : List A) (i : ℕ) (x : A) → i < length xs → x ≡ get_or xs i x → drop i (map f xs) ≡ f x ∷ drop (i + 1) (map f xs)
mapped_at f xs i x l e =
    drop-map f i xs ∙ (ap (map f) (next_is xs i x l e) ∙ ap (λ ys. f x ∷ ys) (sym (drop-map f (i + 1) xs)))

module _ (a b d : Told) (command : Command) (m : Module) (ts : List CodeTests) (i : ℕ) (t : CodeTests) (all : List Check)
    (l : i < length ts) (e : t ≡ get_or ts i t) where
  pub lines_more : IfSome (slice_get m i) (λ f. Tells b d command (line_check_of (function_text_of f) (function_of t)))
      → i < length m
      → TellsWith a b command (line_checks (drop i (map function_text_of m)) (drop i (map function_of ts))) all
      → TellsWith a d command (line_checks (drop (i + 1) (map function_text_of m)) (drop (i + 1) (map function_of ts))) all
  lines_more h n p =
      let (f, q) = get_some m i n in
      tells_front a b d command _ (line_check_of (function_text_of f) (function_of t)) _ all
      (ap (λ xs. line_checks xs (drop i (map function_of ts))) (texts_at m i f q) ∙ ap (line_checks (function_text_of f ∷ drop (i + 1) (map function_text_of m))) (mapped_at function_of ts i t l e))
      p (subst (λ o. IfSome o (λ g. Tells b d command (line_check_of (function_text_of g) (function_of t)))) q h)

  pub outputs_more : (ns : List ℕ) (other : ℕ) → i < length ns
      → IfSome (slice_get m i) (λ f. Tells b d command (output_check_of (get_or ns i other) (function_text_of f) (function_of t) ∷ []))
      → i < length m
      → TellsWith a b command (output_checks (drop i ns) (drop i (map function_text_of m)) (drop i (map function_of ts))) all
      → TellsWith a d command (output_checks (drop (i + 1) ns) (drop (i + 1) (map function_text_of m)) (drop (i + 1) (map function_of ts))) all
  outputs_more ns other ln h lm p =
      let (f, q) = get_some m i lm in
      tells_front a b d command _ (output_check_of (get_or ns i other) (function_text_of f) (function_of t) ∷ []) _ all
      (ap (λ xs. output_checks xs (drop i (map function_text_of m)) (drop i (map function_of ts))) (drop_more ns i other ln)
      ∙ (ap (λ xs. output_checks (get_or ns i other ∷ drop (i + 1) ns) xs (drop i (map function_of ts))) (texts_at m i f q)
      ∙ ap (output_checks (get_or ns i other ∷ drop (i + 1) ns) (function_text_of f ∷ drop (i + 1) (map function_text_of m))) (mapped_at function_of ts i t l e)))
      p (subst (λ o. IfSome o (λ g. Tells b d command (output_check_of (get_or ns i other) (function_text_of g) (function_of t) ∷ []))) q h)

-- none is left where one of the lists ends
pub lines_end : (texts : List (List ℕ)) (ts : List FunctionTests) → (texts ≡ []) ⊎ (ts ≡ []) → line_checks texts ts ≡ []
lines_end texts ts (inl e) = ap (λ xs. line_checks xs ts) e
lines_end [] ts (inr e) = refl
lines_end (x ∷ xs) ts (inr e) = ap (line_checks (x ∷ xs)) e

pub outputs_end : (ns : List ℕ) (texts : List (List ℕ)) (ts : List FunctionTests) → (ns ≡ []) ⊎ ((texts ≡ []) ⊎ (ts ≡ [])) → output_checks ns texts ts ≡ []
outputs_end ns texts ts (inl e) = ap (λ xs. output_checks xs texts ts) e
outputs_end [] texts ts (inr e) = refl
outputs_end (n ∷ ns) texts ts (inr (inl e)) = ap (λ xs. output_checks (n ∷ ns) xs ts) e
outputs_end (n ∷ ns) [] ts (inr (inr e)) = refl
outputs_end (n ∷ ns) (x ∷ texts) ts (inr (inr e)) = ap (output_checks (n ∷ ns) (x ∷ texts)) e

pub ended : (a b i : ℕ) → min a b ≤ i → (a ≤ i) ⊎ (b ≤ i)
ended a b i h = elim (leb_tells a i) [ inl t ↦ inl t.1 | inr t ↦ let l : i < a = t.1 in inr (omega arith) ]

pub lines_done : (texts : List (List ℕ)) (ts : List FunctionTests) (i : ℕ) → min (length texts) (length ts) ≤ i → line_checks (drop i texts) (drop i ts) ≡ []
lines_done texts ts i h = elim (ended (length texts) (length ts) i h) [
  | inl l ↦ lines_end (drop i texts) (drop i ts) (inl (drop_all i texts l))
  | inr l ↦ lines_end (drop i texts) (drop i ts) (inr (drop_all i ts l))
]

pub outputs_done : (ns : List ℕ) (texts : List (List ℕ)) (ts : List FunctionTests) (i : ℕ) → min (length ns) (min (length texts) (length ts)) ≤ i → output_checks (drop i ns) (drop i texts) (drop i ts) ≡ []
outputs_done ns texts ts i h = elim (ended (length ns) (min (length texts) (length ts)) i h) [
  | inl l ↦ outputs_end (drop i ns) (drop i texts) (drop i ts) (inl (drop_all i ns l))
  | inr r ↦ elim (ended (length texts) (length ts) i r) [
    | inl l ↦ outputs_end (drop i ns) (drop i texts) (drop i ts) (inr (inl (drop_all i texts l)))
    | inr l ↦ outputs_end (drop i ns) (drop i texts) (drop i ts) (inr (inr (drop_all i ts l)))
  ]
]
