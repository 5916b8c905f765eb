-- Checks of runs.
use Rattle.std.proofs.Common.{◌≡◌, ℕ, ℤ, ◌<◌, List, [], ◌∷◌, length, drop, map, replicate, get_or, slice_get, Option, Some, None, sym, ap, subst, ◌∙◌, ap₂, All, ◌+◌, true}
use Rattle.ir_core.specs.declared.names.FuncName.{FuncName}
use Rattle.ir_core.specs.declared.signatures.Ty.{Ty}
use Rattle.ir_semantics.specs.Machine.{World}
use Rattle.std.proofs.lemmas.List.Elements.{All-get_or}
use Rattle.clk_num.specs.Operations.{DataValue}
use Rattle.ir_core.specs.Lookup.{and_then, find_function, param_types}
use Rattle.ir_core.specs.Module.{Function, Module}
use Rattle.ir_core.specs.WellFormed.{DifferentNames}
use Rattle.ir_core.proofs.Gets.{get_in}
use Rattle.ir_semantics.specs.Runs.{Outcome, outcome}
use Rattle.ir_semantics.specs.Values.{values_for}
use Rattle.body_import.proofs.Walks.{next_is}
use Rattle.inline_pass.proofs.Finishing.{found_by_name}
use Rattle.interp.specs.Entries.{entry_values}
use Rattle.interp_run.specs.Answers.{IsRefusal}
use Rattle.interp_run.specs.declared.run.RunErr.{RunErr}
use Rattle.interp_run.specs.declared.run.RunErr.TheVariants as run_err
use Rattle.test_directives.specs.Commands.{Command}
use Rattle.test_directives.specs.Tests.{RunTest}
use Rattle.test_directives.specs.Views.{function_of, run_of}
use Rattle.test_directives.specs.declared.tests.FunctionTests.{FunctionTests as CodeTests}
use Rattle.test_directives.specs.declared.tests.RunTest.{RunTest as CodeRun}
use Rattle.filetest.specs.LineTests.{Pair}
use Rattle.filetest.specs.Ends.{outcome_failure, run_failure, memory_size, step_bound}
use Rattle.filetest.specs.Refusing.{is_of_call}
use Rattle.filetest.specs.Checks.{function_spelled, run_check, run_checks}
use Rattle.filetest.specs.Report.{Check}
use Rattle.filetest.specs.Telling.{Told, Tells, TellsWith}
use Rattle.filetest.proofs.Telling.{tells_front, tells_same, tells_step}

pub finds_own : (m : Module) → DifferentNames m → (i : ℕ) (f : Function) → slice_get m i ≡ Some f → find_function f.name m ≡ Some f
finds_own m d i f e = found_by_name m d f (get_in m i f e)

module _ (m : Module) (test : RunTest) where
  -- no function has the place
  pub not_there : (i : ℕ) → slice_get m i ≡ function_spelled test.call.name m → slice_get m i ≡ None → None ≡ (run_check m test).failure
  not_there i placed past = sym (ap (λ (o : Option Function). and_then o (λ f. run_failure m f test)) (sym placed ∙ past))

  module _ (i : ℕ) (f : Function) (names : DifferentNames m) (at : slice_get m i ≡ Some f) (placed : slice_get m i ≡ function_spelled test.call.name m) where
    found_is : run_failure m f test ≡ (run_check m test).failure
    found_is = sym (ap (λ (o : Option Function). and_then o (λ g. run_failure m g test)) (sym placed ∙ at))

    pub ran : (args : List DataValue) (o : Outcome) (p : Option Pair)
        → entry_values m f.name test.call.numbers ≡ Some args
        → o ≡ outcome m f.name args (record { memory = replicate memory_size 0; replies = test.script; events = [] }) step_bound
        → p ≡ outcome_failure (param_types f.sig.results) test o
        → p ≡ (run_check m test).failure
    ran args o p entry eo ep =
        let after : Outcome → Option Pair = outcome_failure (param_types f.sig.results) test in
        let run : List DataValue → Outcome = λ xs. outcome m f.name xs (record { memory = replicate memory_size 0; replies = test.script; events = [] }) step_bound in
        let values : values_for (param_types f.sig.params) test.call.numbers ≡ Some args =
        sym (ap (λ (q : Option Function). and_then q (λ g. values_for (param_types g.sig.params) test.call.numbers)) (finds_own m names i f at)) ∙ entry in
        ep ∙ (ap after eo ∙ (sym (ap (λ (q : Option (List DataValue)). and_then q (λ xs. after (run xs))) values) ∙ found_is))

    pub unfit : (g : Function) → find_function f.name m ≡ Some g → values_for (param_types g.sig.params) test.call.numbers ≡ None → None ≡ (run_check m test).failure
    unfit g found none =
        let same : f ≡ g = let q : Some f ≡ Some g = sym (finds_own m names i f at) ∙ found in cc in
        let values : values_for (param_types f.sig.params) test.call.numbers ≡ None = ap (λ (h : Function). values_for (param_types h.sig.params) test.call.numbers) same ∙ none in
        sym (ap (λ (q : Option (List DataValue)). and_then q (λ xs. outcome_failure (param_types f.sig.results) test (outcome m f.name xs (record { memory = replicate memory_size 0; replies = test.script; events = [] }) step_bound))) values) ∙ found_is

    pub no_such : find_function f.name m ≡ None → None ≡ (run_check m test).failure
    no_such none = let bad : None ≡ Some f = sym none ∙ finds_own m names i f at in cc

module _ (M m : Module) (test : RunTest) (i : ℕ) (f : Function) (n : FuncName) where
  -- as the code finds it
  pub ran_as : (xs : List ℤ) (w : World) (k : ℕ) (types : List Ty) (args : List DataValue) (o : Outcome) (p : Option Pair)
      → M ≡ m → DifferentNames M → slice_get M i ≡ Some f → slice_get m i ≡ function_spelled test.call.name m
      → n ≡ f.name → xs ≡ test.call.numbers → w ≡ record { memory = replicate memory_size 0; replies = test.script; events = [] } → k ≡ step_bound
      → types ≡ param_types f.sig.results
      → entry_values m n xs ≡ Some args → o ≡ outcome m n args w k → p ≡ outcome_failure types test o → p ≡ (run_check m test).failure
  ran_as xs w k types args o p em d at placed en ex ew ek et entry eo ep =
      ran m test i f (subst DifferentNames em d) (ap (λ z. slice_get z i) (sym em) ∙ at) placed args o p
      (ap (λ z. entry_values m z test.call.numbers) (sym en) ∙ (ap (λ z. entry_values m n z) (sym ex) ∙ entry))
      (eo ∙ (ap (λ z. outcome m z args w k) en ∙ (ap (λ z. outcome m f.name args z k) ew ∙ ap (outcome m f.name args (record { memory = replicate memory_size 0; replies = test.script; events = [] })) ek)))
      (ep ∙ ap (λ z. outcome_failure z test o) et)

  pub no_such_as : M ≡ m → DifferentNames M → slice_get M i ≡ Some f → slice_get m i ≡ function_spelled test.call.name m
      → n ≡ f.name → find_function n m ≡ None → None ≡ (run_check m test).failure
  no_such_as em d at placed en none =
      no_such m test i f (subst DifferentNames em d) (ap (λ z. slice_get z i) (sym em) ∙ at) placed (ap (λ z. find_function z m) (sym en) ∙ none)

  -- the call is refused
  pub refused_as : (xs : List ℤ) (e : RunErr) → M ≡ m → DifferentNames M → slice_get M i ≡ Some f → slice_get m i ≡ function_spelled test.call.name m
      → n ≡ f.name → xs ≡ test.call.numbers → IsRefusal m n xs e → is_of_call e ≡ true → None ≡ (run_check m test).failure
  refused_as xs run_err.NoEntry em d at placed en ex h t = no_such_as em d at placed en h
  refused_as xs run_err.BadArgs em d at placed en ex (g, found, none) t =
      unfit m test i f (subst DifferentNames em d) (ap (λ z. slice_get z i) (sym em) ∙ at) placed g (ap (λ z. find_function z m) (sym en) ∙ found)
      (ap (values_for (param_types g.sig.params)) (sym ex) ∙ none)
  refused_as xs run_err.NoMemory em d at placed en ex h t = cc

-- ---- one after the other

abbrev made : ℕ → List ℕ → Option Pair → Check
made line name failure = record { name = name; line = line; failure = failure }

pub holds_at : {A : Type 0} (P : A → Type 0) (xs : List A) (i : ℕ) (x : A) → i < length xs → x ≡ get_or xs i x → All P xs → P x
holds_at P xs i x l e h = subst P (sym e) (All-get_or P xs i x l h)

module _ (a b d : Told) (command : Command) (m : Module) (all : List Check) where
  pub run_more : (rs : List CodeRun) (i : ℕ) (r : CodeRun) (name : List ℕ) (failure : Option Pair)
      → i < length rs → r ≡ get_or rs i r → name ≡ r.name → failure ≡ (run_check m (run_of r)).failure
      → Tells b d command (record { name = name; line = r.line; failure = failure } ∷ [])
      → TellsWith a b command (map (run_check m) (map run_of (drop i rs))) all
      → TellsWith a d command (map (run_check m) (map run_of (drop (i + 1) rs))) all
  run_more rs i r name failure l e n f h p =
      tells_step a b d command (run_check m (run_of r)) (made r.line name failure) _ all
      (tells_same a b command _ _ all (ap (λ xs. map (run_check m) (map run_of xs)) (next_is rs i r l e)) p)
      h (ap₂ (made r.line) n f)

  pub runs_more : (M : Module) (ts : List CodeTests) (i : ℕ) (t : CodeTests) (rs : List CodeRun)
      → M ≡ m → i < length ts → t ≡ get_or ts i t → rs ≡ t.runs.items
      → Tells b d command (map (run_check M) (map run_of rs))
      → TellsWith a b command (run_checks m (map function_of (drop i ts))) all
      → TellsWith a d command (run_checks m (map function_of (drop (i + 1) ts))) all
  runs_more M ts i t rs em l e er h p =
      tells_front a b d command _ (map (run_check m) (map run_of t.runs.items)) _ all
      (ap (λ xs. run_checks m (map function_of xs)) (next_is ts i t l e)) p
      (subst (λ z. Tells b d command (map (run_check z) (map run_of t.runs.items))) em
      (subst (λ z. Tells b d command (map (run_check M) (map run_of z))) er h))
