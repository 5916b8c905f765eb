-- Checks of first faults, one function after another.
use Rattle.std.proofs.Common.{◌≡◌, ℕ, ◌+◌, ◌<◌, ◌≤◌, List, [], ◌∷◌, length, drop, map, get_or, Option, refl, ap, ap₂, ◌∙◌, ◌⊎◌, inl, inr, min}
use Rattle.std.proofs.lemmas.List.{drop_more, drop_all}
use Rattle.test_directives.specs.Commands.{Command}
use Rattle.test_directives.specs.Tests.{FunctionTests}
use Rattle.test_directives.specs.Views.{function_of}
use Rattle.test_directives.specs.declared.tests.FunctionTests.{FunctionTests as CodeTests}
use Rattle.filetest.specs.LineTests.{Pair, pair}
use Rattle.filetest.specs.Report.{Check}
use Rattle.filetest.specs.Ends.{unless}
use Rattle.filetest.specs.Checks.{same_fault, shown_fault, fault_check, fault_checks}
use Rattle.filetest.specs.Telling.{Told, Tells, TellsWith}
use Rattle.filetest.proofs.Telling.{tells_same, tells_step}
use Rattle.filetest.proofs.TextChecks.{mapped_at, ended}

abbrev made : ℕ → List ℕ → Option Pair → Check
made line name failure = record { name = name; line = line; failure = failure }

module _ (a b d : Told) (command : Command) (ts : List CodeTests) (faults : List (Option ℕ)) (all : List Check) where
  pub faults_more : (i : ℕ) (t : CodeTests) (other : Option ℕ) (name : List ℕ) (failure : Option Pair)
      → i < length ts → t ≡ get_or ts i t → i < length faults
      → name ≡ t.name → failure ≡ unless (same_fault t.error (get_or faults i other)) (pair (shown_fault t.error) (shown_fault (get_or faults i other)))
      → Tells b d command (record { name = name; line = t.line; failure = failure } ∷ [])
      → TellsWith a b command (fault_checks (drop i (map function_of ts)) (drop i faults)) all
      → TellsWith a d command (fault_checks (drop (i + 1) (map function_of ts)) (drop (i + 1) faults)) all
  faults_more i t other name failure l e m n f h p =
      tells_step a b d command (fault_check (function_of t) (get_or faults i other)) (made t.line name failure) _ all
      (tells_same a b command _ _ all
      (ap (λ xs. fault_checks xs (drop i faults)) (mapped_at function_of ts i t l e)
      ∙ ap (fault_checks (function_of t ∷ drop (i + 1) (map function_of ts))) (drop_more faults i other m))
      p)
      h (ap₂ (made t.line) n f)

faults_end : (ts : List FunctionTests) (faults : List (Option ℕ)) → (ts ≡ []) ⊎ (faults ≡ []) → fault_checks ts faults ≡ []
faults_end ts faults (inl e) = ap (λ xs. fault_checks xs faults) e
faults_end [] faults (inr e) = refl
faults_end (t ∷ ts) faults (inr e) = ap (fault_checks (t ∷ ts)) e

-- none is left where one of the lists ends
pub faults_done : (ts : List FunctionTests) (faults : List (Option ℕ)) (i : ℕ) → min (length ts) (length faults) ≤ i → fault_checks (drop i ts) (drop i faults) ≡ []
faults_done ts faults i h = elim (ended (length ts) (length faults) i h) [
  | inl l ↦ faults_end (drop i ts) (drop i faults) (inl (drop_all i ts l))
  | inr l ↦ faults_end (drop i ts) (drop i faults) (inr (drop_all i faults l))
]
