-- The run of a function is a function of its settings and the bytes.
use Rattle.std.proofs.Common.{◌≡◌, ℕ, ℤ, ◌+◌, List, [], Option, None, Some, inl, inr, refl, sym, ap, subst, arith, ◌∙◌}
use Rattle.std.specs.Prelude.{◌⊎◌, replicate}
use Rattle.clif_check.specs.Faults.{IsAccepted}
use Rattle.clif_check.proofs.Stages.{one_module}
use Rattle.clk_num.specs.Operations.{DataValue}
use Rattle.ir_core.specs.declared.names.FuncName.{FuncName}
use Rattle.ir_core.specs.declared.names.FuncName.TheVariants as name
use Rattle.ir_core.specs.Lookup.{and_then, param_types}
use Rattle.ir_core.specs.Module.{Function, Module}
use Rattle.ir_core.proofs.Gets.{each_at, some_same}
use Rattle.ir_semantics.specs.Values.{values_for}
use Rattle.ir_semantics.specs.Machine.{Reply}
use Rattle.ir_semantics.specs.Runs as runs
use Rattle.ir_text.specs.TextTree.{spelled}
use Rattle.ir_text.specs.Writable.{FunctionWritable, NameWritable, Writable}
use Rattle.host_script.specs.declared.script.Script.{Script}
use Rattle.host_script.specs.Script.{replies_of}
use Rattle.interp.specs.declared.outcome.Outcome.{Outcome}
use Rattle.interp.specs.Entries.{entry_values}
use Rattle.interp.specs.Outcome.{outcome_of}
use Rattle.interp_run.specs.Answers.{IsRefusal, IsRunOf}
use Rattle.interp_run.specs.declared.run.RunErr.TheVariants as err
use Rattle.program_run.specs.EntryName.{HasShortNumbers, IsSpelledEntry, NamesDiffer}
use Rattle.program_run.specs.RunText.{run_text}
use Rattle.read_writable.specs.Laws.{ReadIsWritable}
use Rattle.script_text.specs.Grammar as grammar
use Rattle.script_text.specs.Values.{number_list_value, script_value}
use Rattle.script_text.proofs.Places.{none_where_read, one_place_of_text}
use Rattle.settings.specs.Settings.{RunSettings}
use Rattle.clifinl.specs.declared.status.Status.{Status}
use Rattle.clifinl.specs.declared.status.Status.TheVariants.{Done, Refused}
use Rattle.clifinl.specs.declared.status.Refusal.TheVariants.{BadScript, NoEntry, BadArgs}
use Rattle.clifinl.specs.RunCommand.{HasEntry, HasOutcome, HasRunText, HasUnfitNumbers, IsEntryRefusal, IsNoList, IsScriptFault, IsScriptText, ReadsScript}
use Rattle.clifinl.proofs.Once.{IsFaulty, OfBytes, Once, StopsAs, faulty_once, of_bytes_once, same_stop}
use Rattle.clifinl.proofs.RunEnds.{entry_there, found_at, one_value}
use Rattle.clifinl.proofs.Runs.{honest}

-- ---- names of a writable module

short : (n : FuncName) → NameWritable n → HasShortNumbers n
short (name.Text bytes) can = tt
short (name.User space index) can = (omega (arith, can.0), omega (arith, can.1))

short_entry : (m : Module) (text : List ℕ) (n : FuncName) → Writable m → IsSpelledEntry m text n → HasShortNumbers n
short_entry m text n can entry =
    let found = found_at m n entry.1.0 entry.1.1 in
    short n (subst NameWritable found.2 (each_at FunctionWritable m found.0 entry.1.0 can.functions found.1).name)

one_entry : NamesDiffer → (m : Module) (text : List ℕ) (a b : FuncName) → Writable m → IsSpelledEntry m text a → IsSpelledEntry m text b → a ≡ b
one_entry differ m text a b can p q =
    differ a b (short_entry m text a can p) (short_entry m text b can q) (p.0 ∙ sym q.0)

-- ---- runs

module _ (differ : NamesDiffer) (s : RunSettings) (m : Module) (can : Writable m) where
  -- of one entry, one list of numbers and one script there is one outcome
  one_run : (script other : Script) (numbers : List ℤ) (a b : FuncName) (o r : Outcome) → replies_of script ≡ replies_of other → a ≡ b
      → IsRunOf m a numbers script (replicate s.memory 0) s.steps o → IsRunOf m b numbers other (replicate s.memory 0) s.steps r
      → outcome_of o ≡ outcome_of r
  one_run script other numbers a b o r replies same p q =
      let moved : IsRunOf m a numbers other (replicate s.memory 0) s.steps r = subst (λ (n : FuncName). IsRunOf m n numbers other (replicate s.memory 0) s.steps r) (sym same) q in
      let args : p.0 ≡ moved.0 = some_same (sym p.1 ∙ moved.1) in
      p.2 ∙ ap (λ (vs : List DataValue). runs.outcome m a vs (record { memory = replicate s.memory 0; replies = replies_of script; events = [] }) s.steps) args
      ∙ ap (λ (rs : List Reply). runs.outcome m a moved.0 (record { memory = replicate s.memory 0; replies = rs; events = [] }) s.steps) replies ∙ sym moved.2

  one_script : (script other : Script) → ReadsScript s.script script → ReadsScript s.script other → replies_of script ≡ replies_of other
  one_script script other p q = one_value grammar.script script_value s.script (replies_of script) (replies_of other) p q

  one_outcome : (script other : Script) (o r : Outcome) → ReadsScript s.script script → ReadsScript s.script other
      → HasOutcome s script m o → HasOutcome s other m r → outcome_of o ≡ outcome_of r
  one_outcome script other o r read read' (numbers, reads, (a, entry, run)) (numbers', reads', (b, entry', run')) =
      let same : numbers' ≡ numbers = one_value grammar.number_list number_list_value s.args numbers' numbers reads' reads in
      one_run script other numbers a b o r (one_script script other read read') (one_entry differ m s.entry a b can entry entry') run
      (subst (λ (ns : List ℤ). IsRunOf m b ns other (replicate s.memory 0) s.steps r) same run')

  -- an entry whose numbers do not fit has no run
  unfit : (numbers : List ℤ) (a b : FuncName) (script : Script) (o : Outcome) → a ≡ b → IsRefusal m a numbers err.BadArgs
      → IsRunOf m b numbers script (replicate s.memory 0) s.steps o → ⊥
  unfit numbers a b script o same (f, found, none) run =
      let moved : IsRunOf m a numbers script (replicate s.memory 0) s.steps o = subst (λ (n : FuncName). IsRunOf m n numbers script (replicate s.memory 0) s.steps o) (sym same) run in
      let values : entry_values m a numbers ≡ None =
      ap (λ (g : Option Function). and_then g (λ (h : Function). values_for (param_types h.sig.params) numbers)) found ∙ none in
      let other : entry_values m a numbers ≡ Some moved.0 = moved.1 in
      absurd cc

  not_both : (script : Script) (o : Outcome) → HasOutcome s script m o → IsNoList s.args ⊎ HasUnfitNumbers s m → ⊥
  not_both script o (numbers, reads, (a, entry, run)) (inl none) = none numbers reads
  not_both script o (numbers, reads, (a, entry, run)) (inr (others, reads', (b, entry', refused))) =
      let same : others ≡ numbers = one_value grammar.number_list number_list_value s.args others numbers reads' reads in
      unfit numbers b a script o (one_entry differ m s.entry b a can entry' entry)
      (subst (λ (ns : List ℤ). IsRefusal m b ns err.BadArgs) same refused) run

  has_entry : (script : Script) (o : Outcome) → HasOutcome s script m o → HasEntry m s.entry
  has_entry script o (numbers, reads, (a, entry, run)) = (a, entry)

  -- how the run of an accepted module ends, and what it writes
  abbrev IsRunEnd : Script → Status → List ℕ → Type 0
  IsRunEnd script status output =
      ((status ≡ Done) × HasRunText s script m output)
      ⊎ ((IsEntryRefusal s m (Refused NoEntry) × StopsAs (Refused NoEntry) status output)
      ⊎ (IsEntryRefusal s m (Refused BadArgs) × StopsAs (Refused BadArgs) status output))

  run_end_once : (script other : Script) (a b : Status) (x y : List ℕ) → ReadsScript s.script script → ReadsScript s.script other
      → IsRunEnd script a x → IsRunEnd other b y → (a ≡ b) × (x ≡ y)
  run_end_once script other a b x y read read' (inl (done, (o, has, is))) (inl (done', (r, has', is'))) =
      (done ∙ sym done', is ∙ ap (λ (t : runs.Outcome). spelled (run_text t)) (one_outcome script other o r read read' has has') ∙ sym is')
  run_end_once script other a b x y read read' (inl (done, (o, has, is))) (inr (inl q)) = absurd (entry_there m s.entry (has_entry script o has) q.0)
  run_end_once script other a b x y read read' (inl (done, (o, has, is))) (inr (inr q)) = absurd (not_both script o has q.0.1)
  run_end_once script other a b x y read read' (inr (inl p)) (inl (done, (o, has, is))) = absurd (entry_there m s.entry (has_entry other o has) p.0)
  run_end_once script other a b x y read read' (inr (inr p)) (inl (done, (o, has, is))) = absurd (not_both other o has p.0.1)
  run_end_once script other a b x y read read' (inr (inl p)) (inr (inl q)) = same_stop _ _ a b x y refl p.1 q.1
  run_end_once script other a b x y read read' (inr (inl p)) (inr (inr q)) = absurd (entry_there m s.entry q.0.0 p.0)
  run_end_once script other a b x y read read' (inr (inr p)) (inr (inl q)) = absurd (entry_there m s.entry p.0.0 q.0)
  run_end_once script other a b x y read read' (inr (inr p)) (inr (inr q)) = same_stop _ _ a b x y refl p.1 q.1

-- ---- the command

module _ (differ : NamesDiffer) (writable : ReadIsWritable) (s : RunSettings) (bytes : List ℕ) where
  abbrev HasRun : Status → List ℕ → Type 0
  HasRun status output =
      (script : Script) × (m : Module) × ReadsScript s.script script × IsAccepted bytes m
      × (((status ≡ Done) × HasRunText s script m output)
      ⊎ ((IsEntryRefusal s m (Refused NoEntry) × StopsAs (Refused NoEntry) status output)
      ⊎ (IsEntryRefusal s m (Refused BadArgs) × StopsAs (Refused BadArgs) status output)))

  has_run_once : Once HasRun
  has_run_once a b x y (script, m, read, accepted, end) (other, n, read', accepted', end') =
      let same : n ≡ m = one_module bytes n m accepted' accepted in
      run_end_once differ s m (writable bytes m accepted.reads) script other a b x y read read' end
      (subst (λ (k : Module). ((b ≡ Done) × HasRunText s other k y)
      ⊎ ((IsEntryRefusal s k (Refused NoEntry) × StopsAs (Refused NoEntry) b y)
      ⊎ (IsEntryRefusal s k (Refused BadArgs) × StopsAs (Refused BadArgs) b y))) same end')

  abbrev OfModule : Status → List ℕ → Type 0
  OfModule status output = HasRun status output ⊎ IsFaulty bytes status output

  of_module_once : Once OfModule
  of_module_once a b x y (inl p) (inl q) = has_run_once a b x y p q
  of_module_once a b x y (inl p) (inr q) = absurd (honest bytes q.0 q.1 p.1 q.2 p.3)
  of_module_once a b x y (inr p) (inl q) = absurd (honest bytes p.0 p.1 q.1 p.2 q.3)
  of_module_once a b x y (inr p) (inr q) = faulty_once bytes a b x y p q

  -- the script is read first
  abbrev pub OfRun : Status → List ℕ → Type 0
  OfRun status output =
      (IsScriptText s.script × OfBytes bytes OfModule status output)
      ⊎ ((count : ℕ) × IsScriptFault s.script count × StopsAs (Refused (BadScript count)) status output)

  pub of_run_once : Once OfRun
  of_run_once a b x y (inl p) (inl q) = of_bytes_once bytes OfModule of_module_once a b x y p.1 q.1
  of_run_once a b x y (inl p) (inr q) = absurd (none_where_read grammar.script s.script q.1.0 p.0.1.0 p.0.1.1 q.1.1)
  of_run_once a b x y (inr p) (inl q) = absurd (none_where_read grammar.script s.script p.1.0 q.0.1.0 q.0.1.1 p.1.1)
  of_run_once a b x y (inr (n, fault, stop)) (inr (k, fault', stop')) =
      let spot : fault.0 ≡ fault'.0 = one_place_of_text grammar.script s.script fault.0 fault'.0 fault.1 fault'.1 in
      let count : n ≡ k = fault.2 ∙ ap (λ (i : ℕ). i + 1) spot ∙ sym fault'.2 in
      same_stop _ _ a b x y (ap (λ (i : ℕ). Refused (BadScript i)) count) stop stop'
