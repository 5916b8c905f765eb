-- The report of a text, and why it has none.
use Rattle.std.proofs.Common.{◌≡◌, ℕ, Bool, true, false, List, map, length, Ok, Err, Option, refl, sym, ap, subst, ◌∙◌, inl, inr, All}
use Rattle.std.specs.List.{list_any}
use Rattle.std.proofs.lemmas.List.Elements.{All-from_recursion, All-same, All-weaker}
use Rattle.clif_lex.specs.declared.faults.LexErr.{LexErr}
use Rattle.clif_lex.specs.declared.faults.LexErr.TheVariants as lex
use Rattle.clif_lex.specs.declared.faults.TextErr.{TextErr}
use Rattle.clif_lex.specs.declared.faults.TextErr.TheVariants as text_err
use Rattle.clif_lex.specs.declared.spans.Token.{Token}
use Rattle.clif_lex.specs.Faults.{text_err_of}
use Rattle.clif_lex.specs.Lexing.{tokens_of, Gives}
use Rattle.clif_meaning.specs.Meaning.{HasBlocks}
use Rattle.clif_meaning.proofs.ModuleLaws.{meant_is_module}
use Rattle.clif_read.specs.declared.raw.RawModule.{RawModule}
use Rattle.clif_read.specs.Texts.{IsFirstFault}
use Rattle.clif_read.specs.Texts.{IsModule, Stopped}
use Rattle.clif_words.specs.Lexemes.{lexemes}
use Rattle.ir_core.specs.Module.{Module}
use Rattle.test_directives.specs.Tests.{all_tests, commands, headers}
use Rattle.test_directives.specs.Views.{command_of, function_of, IsBad, IsFile, IsPlaced}
use Rattle.test_directives.specs.declared.commands.Command.{Command as CodeCommand}
use Rattle.test_directives.specs.declared.tests.DirectiveErr.{DirectiveErr}
use Rattle.test_directives.specs.declared.tests.DirectiveErr.TheVariants as directive_err
use Rattle.test_directives.specs.declared.tests.FunctionTests.{FunctionTests as CodeTests}
use Rattle.test_directives.specs.declared.tests.RunTest.{RunTest as CodeRun}
use Rattle.test_directives.specs.declared.tests.TestFile.{TestFile}
use Rattle.filetest.specs.declared.report.Report.{Report}
use Rattle.filetest.specs.declared.testing.TestErr.{TestErr}
use Rattle.filetest.specs.declared.testing.TestErr.TheVariants as err
use Rattle.filetest.specs.Limits.{IsLimitedCommand}
use Rattle.filetest.specs.Placing.{IsPlacedIn, ArePlaced}
use Rattle.filetest.specs.Refusing.{of_directive_err, of_text_err, IsCheckRefusal}
use Rattle.filetest.specs.Reporting.{IsReportOf}
use Rattle.filetest.specs.Tested.{asked, is_verifier, needs_module, HasFaultLines, IsRefusal, IsReport, IsTestedModule}
use Rattle.filetest.proofs.Limits.{commands_limited}
use Rattle.filetest.proofs.Placing.{place_same}

-- ---- what the commands go by

module _ (text : List ℕ) (ts : List Token) (raw : RawModule) (file : TestFile) (is_file : IsFile text ts raw file) where
  pub all_limited : (cs : List CodeCommand) → cs ≡ file.commands.items → All IsLimitedCommand (map command_of cs)
  all_limited cs e =
      All-same IsLimitedCommand (map command_of cs) (commands (headers text ts)) (ap (map command_of) e ∙ is_file.commands)
      (All-from_recursion IsLimitedCommand (commands (headers text ts)) (commands_limited (headers text ts)))

  placed_so : (needed : Bool) (m : Module) → HasBlocks raw → IsTestedModule needed raw m → (r : CodeRun) → IsPlaced raw.functions r → IsPlacedIn m r
  placed_so true m b h r e =
      place_same raw.functions m (λ i s at kind spot f. h.free kind spot (inr (i, s, at, f))) h.means (meant_is_module raw m h.free b h.means).names r.name r.func e
  placed_so false m b h r e = subst (λ x. IsPlacedIn x r) (sym h) refl

  pub all_placed : (needed : Bool) (m : Module) (fs : List CodeTests) → HasBlocks raw → IsTestedModule needed raw m → fs ≡ file.functions.items → ArePlaced m fs
  all_placed needed m fs b h e =
      All-same (λ t. All (IsPlacedIn m) t.runs.items) fs file.functions.items e
      (All-weaker (λ t. All (IsPlaced raw.functions) t.runs.items) (λ t. All (IsPlacedIn m) t.runs.items)
      (λ t p. All-weaker (IsPlaced raw.functions) (IsPlacedIn m) (placed_so needed m b h) t.runs.items p)
      file.functions.items is_file.placed)

  pub whole_report : (cs : List CodeCommand) (fs : List CodeTests) (needed verified : Bool) (m : Module) (faults : List (Option ℕ)) (report : Report)
      → tokens_of text ≡ Ok ts → IsModule (lexemes text ts) raw → cs ≡ file.commands.items → fs ≡ file.functions.items
      → needed ≡ needs_module (map command_of cs) → IsTestedModule needed raw m
      → verified ≡ list_any is_verifier (map command_of cs) → HasFaultLines verified text raw faults
      → IsReportOf m (map function_of fs) faults (map command_of cs) report → IsReport text report
  whole_report cs fs needed verified m faults report lexed read ec ef n tested v lines r =
      let e : map command_of cs ≡ asked text ts = ap (map command_of) ec ∙ is_file.commands in
      let f : map function_of fs ≡ all_tests text ts raw.functions = ap (map function_of) ef ∙ is_file.functions in
      let told : IsReportOf m (all_tests text ts raw.functions) faults (asked text ts) report =
      subst (λ x. IsReportOf m x faults (asked text ts) report) f (subst (λ x. IsReportOf m (map function_of fs) faults x report) e r) in
      record {
        tokens = ts;
        raw = raw;
        read = record { tokens = lexed; read = read };
        good = is_file.good;
        tested = m;
        is_tested = subst (λ b. IsTestedModule b raw m) (n ∙ ap needs_module e) tested;
        faults = faults;
        are_faults = subst (λ b. HasFaultLines b text raw faults) (v ∙ ap (list_any is_verifier) e) lines;
        text_is = told.text_is;
        passed_is = told.passed_is;
        failed_is = told.failed_is;
        skipped_is = told.skipped_is;
      }

  pub refused_module : (cs : List CodeCommand) (needed : Bool) (e : TestErr)
      → tokens_of text ≡ Ok ts → IsModule (lexemes text ts) raw → cs ≡ file.commands.items
      → needed ≡ needs_module (map command_of cs) → IsCheckRefusal needed raw e → IsRefusal text e
  refused_module cs needed (err.Text k spot) lexed read ec n h =
      inr (ts, raw, record { tokens = lexed; read = read }, is_file.good, sym (n ∙ ap needs_module (ap (map command_of) ec ∙ is_file.commands)) ∙ h.0, h.1)
  refused_module cs needed (err.BadDirective line) lexed read ec n h = absurd h
  refused_module cs needed err.NoMemory lexed read ec n h = tt

-- ---- why there is none

pub refused_tokens : (text : List ℕ) (fault : LexErr) (e : TestErr) → Gives (Err fault) (tokens_of text) → e ≡ of_text_err (text_err_of fault) → IsRefusal text e
refused_tokens text (lex.BadChar at) e h q = subst (IsRefusal text) (sym q) (inl (subst (λ r. IsFirstFault text r (text_err_of (lex.BadChar at))) (sym h) refl))
refused_tokens text (lex.BadNumber at) e h q = subst (IsRefusal text) (sym q) (inl (subst (λ r. IsFirstFault text r (text_err_of (lex.BadNumber at))) (sym h) refl))
refused_tokens text lex.NoMemory e h q = subst (IsRefusal text) (sym q) tt

pub refused_text : (text : List ℕ) (ts : List Token) (fault : TextErr) (e : TestErr) → tokens_of text ≡ Ok ts → Stopped (lexemes text ts) (length text) fault → e ≡ of_text_err fault → IsRefusal text e
refused_text text ts (text_err.Fault k spot) e h s q = subst (IsRefusal text) (sym q) (inl (subst (λ r. IsFirstFault text r (text_err.Fault k spot)) (sym h) s))
refused_text text ts text_err.NoMemory e h s q = subst (IsRefusal text) (sym q) tt

pub refused_directive : (text : List ℕ) (ts : List Token) (raw : RawModule) (fault : DirectiveErr) (e : TestErr) → tokens_of text ≡ Ok ts → IsModule (lexemes text ts) raw
    → IsBad text ts raw fault → e ≡ of_directive_err fault → IsRefusal text e
refused_directive text ts raw (directive_err.BadDirective line) e h r b q = subst (IsRefusal text) (sym q) (ts, raw, record { tokens = h; read = r }, b)
refused_directive text ts raw directive_err.NoMemory e h r b q = subst (IsRefusal text) (sym q) tt

pub refused_memory : (text : List ℕ) (e : TestErr) → e ≡ err.NoMemory → IsRefusal text e
refused_memory text e q = subst (IsRefusal text) (sym q) tt
