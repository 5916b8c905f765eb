-- A text has one report, and no refusal where it can be tested.
use Rattle.std.proofs.Common.{◌≡◌, ℕ, zero, suc, Bool, true, false, List, [], ◌∷◌, ◌++◌, length, flat_map, slice_get, Option, None, Some, refl, sym, ap, subst, inl, inr, arith, ◌∙◌}
use Rattle.std.specs.Prelude.{if◌then◌else◌}
use Rattle.std.specs.List.{list_any}
use Rattle.clif_lex.specs.declared.faults.TextKind.{TextKind}
use Rattle.clif_lex.specs.declared.spans.Token.{Token}
use Rattle.clif_lex.specs.Places.{line_at}
use Rattle.clif_read.specs.declared.raw.RawModule.{RawModule}
use Rattle.clif_read.specs.Texts.{IsModuleText}
use Rattle.clif_names.proofs.FaultLaws.{one_first_fault}
use Rattle.clif_meaning.specs.Reads.{alone}
use Rattle.clif_meaning.proofs.OneMeaning.{one_meaning}
use Rattle.clif_check.specs.Faults.{FirstOfRaw, BreaksRule, IsAcceptedRaw}
use Rattle.clif_check.proofs.Stages.{meant_is_faultless, one_raw, read_is_faultless}
use Rattle.ir_check.specs.Faults as rules
use Rattle.ir_check.proofs.Firsts.{at_most_one}
use Rattle.ir_core.specs.Module.{Module}
use Rattle.filetest.specs.declared.report.Report.{Report}
use Rattle.filetest.specs.Checks.{checks_of, command_text, failed, is_skipped, passed, report_text, skipped}
use Rattle.filetest.specs.Report as report
use Rattle.filetest.specs.Report.{Check, check_text, last_line, skip_text}
use Rattle.filetest.specs.FaultLines.{AreFaultLines, IsFaultLine}
use Rattle.filetest.specs.declared.testing.TestErr.TheVariants as err
use Rattle.filetest.specs.Laws.{CanTest, CanTestIsNotRefused, OneReport, ReportedCanBeTested}
use Rattle.filetest.specs.Tested.{HasBadLine, HasFaultLines, HasLaterFault, IsRaw, IsReport, IsTestedModule, asked, is_verifier, needs_module}
use Rattle.test_directives.specs.Commands as command
use Rattle.test_directives.specs.Commands.{Command}
use Rattle.test_directives.specs.Tests.{FunctionTests, all_tests, bad_line}

-- ---- a text has one raw module

pub is_module : (text : List ℕ) (ts : List Token) (raw : RawModule) → IsRaw text ts raw → IsModuleText text raw
is_module text ts raw is = record { tokens = ts; lexed = is.tokens; read = is.read }

pub one_list : (text : List ℕ) (ts us : List Token) (a b : RawModule) → IsRaw text ts a → IsRaw text us b → ts ≡ us
one_list text ts us a b p q = let e = sym p.tokens ∙ q.tokens in cc

pub same_raw : (text : List ℕ) (ts us : List Token) (a b : RawModule) → IsRaw text ts a → IsRaw text us b → a ≡ b
same_raw text ts us a b p q = one_raw text a b (is_module text ts a p) (is_module text us b q)

-- ---- lists

same_items : {A : Type 0} (xs ys : List A) → length xs ≡ length ys → ((i : ℕ) (x y : A) → slice_get xs i ≡ Some x → slice_get ys i ≡ Some y → x ≡ y) → xs ≡ ys
same_items [] [] e same = refl
same_items [] (y ∷ ys) e same = absurd (omega (arith, e))
same_items (x ∷ xs) [] e same = absurd (omega (arith, e))
same_items (x ∷ xs) (y ∷ ys) e same =
    let first : x ≡ y = same zero x y refl refl in
    let others : xs ≡ ys = same_items xs ys (omega (arith, e)) (λ i a b p q. same (suc i) a b p q) in
    cc

-- ---- a raw module has one first fault

one_broken : (raw : RawModule) (k l : TextKind) (s t : ℕ) → BreaksRule raw k s → BreaksRule raw l t → s ≡ t
one_broken raw k l s t a b =
    let meant : b.meant ≡ a.meant = one_meaning raw b.meant a.meant a.free b.means a.means in
    let first : rules.FirstFault a.meant b.func b.item b.rule = subst (λ (m : Module). rules.FirstFault m b.func b.item b.rule) meant b.first in
    let same = at_most_one a.meant a.func b.func a.item b.item a.rule b.rule a.first first in
    let func = same.0 in let item = same.1 in
    let x = a.spot_is in let y = b.spot_is in
    cc

one_spot : (raw : RawModule) (k l : TextKind) (s t : ℕ) → FirstOfRaw raw k s → FirstOfRaw raw l t → s ≡ t
one_spot raw k l s t (inl a) (inl b) = (one_first_fault raw k l s t a b).1
one_spot raw k l s t (inl a) (inr b) = absurd (b.free k s a.0)
one_spot raw k l s t (inr a) (inl b) = absurd (a.free l t b.0)
one_spot raw k l s t (inr a) (inr b) = one_broken raw k l s t a b

one_line : (text : List ℕ) (raw : RawModule) (a b : Option ℕ) → IsFaultLine text raw a → IsFaultLine text raw b → a ≡ b
one_line text raw None None p q = refl
one_line text raw None (Some l) p q = absurd (meant_is_faultless raw p.0 q.1.0 q.0 p.1.free p.1.means p.1.accepted q.1.1)
one_line text raw (Some l) None p q = absurd (meant_is_faultless raw q.0 p.1.0 p.0 q.1.free q.1.means q.1.accepted p.1.1)
one_line text raw (Some l) (Some m) p q =
    let same : p.0 ≡ q.0 = one_spot raw p.1.0 q.1.0 p.0 q.0 p.1.1 q.1.1 in
    ap (λ (n : ℕ). Some n) (p.2 ∙ ap (line_at text) same ∙ sym q.2)

one_lines : (text : List ℕ) (raw : RawModule) (fs gs : List (Option ℕ)) → AreFaultLines text raw fs → AreFaultLines text raw gs → fs ≡ gs
one_lines text raw fs gs p q =
    same_items fs gs (p.count ∙ sym q.count) (λ i a b is at. one_line text (alone raw i) a b (p.each i a is) (q.each i b at))

-- ---- the checks do not depend on how the report came about

one_tested : (b : Bool) (raw : RawModule) (m n : Module) → IsTestedModule b raw m → IsTestedModule b raw n → m ≡ n
one_tested true raw m n p q = one_meaning raw m n p.free p.means q.means
one_tested false raw m n p q = p ∙ sym q

module _ (m : Module) (ts : List FunctionTests) (fs gs : List (Option ℕ)) where
  -- the lines of faults count for `verifier` alone
  without_faults : (c : Command) → is_verifier c ≡ false → checks_of m ts fs c ≡ checks_of m ts gs c
  without_faults command.Verifier other = absurd cc
  without_faults command.Cat other = refl
  without_faults command.Interpret other = refl
  without_faults command.Run other = refl
  without_faults (command.Inline words) other = refl
  without_faults (command.Other word) other = refl

  none_verified : (cs : List Command) → list_any is_verifier cs ≡ false → flat_map (checks_of m ts fs) cs ≡ flat_map (checks_of m ts gs) cs
  none_verified [] none = refl
  none_verified (c ∷ cs) none = go (is_verifier c) refl none (none_verified cs)
    where
      go : (b : Bool) → is_verifier c ≡ b → list_any is_verifier (c ∷ cs) ≡ false
          → (list_any is_verifier cs ≡ false → flat_map (checks_of m ts fs) cs ≡ flat_map (checks_of m ts gs) cs)
          → flat_map (checks_of m ts fs) (c ∷ cs) ≡ flat_map (checks_of m ts gs) (c ∷ cs)
      go true is all more = absurd (grind (arith, is, all))
      go false is all more =
          let first = without_faults c is in
          let others : flat_map (checks_of m ts fs) cs ≡ flat_map (checks_of m ts gs) cs = more (grind (arith, is, all)) in
          ap (λ l. l ++ flat_map (checks_of m ts fs) cs) first ∙ ap (λ l. checks_of m ts gs c ++ l) others

  none_told : (cs : List Command) → list_any is_verifier cs ≡ false → flat_map (command_text m ts fs) cs ≡ flat_map (command_text m ts gs) cs
  none_told [] none = refl
  none_told (c ∷ cs) none = go (is_verifier c) refl none (none_told cs)
    where
      go : (b : Bool) → is_verifier c ≡ b → list_any is_verifier (c ∷ cs) ≡ false
          → (list_any is_verifier cs ≡ false → flat_map (command_text m ts fs) cs ≡ flat_map (command_text m ts gs) cs)
          → flat_map (command_text m ts fs) (c ∷ cs) ≡ flat_map (command_text m ts gs) (c ∷ cs)
      go true is all more = absurd (grind (arith, is, all))
      go false is all more =
          let first : command_text m ts fs c ≡ command_text m ts gs c =
          ap (λ (ks : List Check). if is_skipped c then skip_text c else flat_map (check_text c) ks) (without_faults c is) in
          let others : flat_map (command_text m ts fs) cs ≡ flat_map (command_text m ts gs) cs = more (grind (arith, is, all)) in
          ap (λ l. l ++ flat_map (command_text m ts fs) cs) first ∙ ap (λ l. command_text m ts gs c ++ l) others

  one_checks : (b : Bool) (text : List ℕ) (raw : RawModule) (cs : List Command) → list_any is_verifier cs ≡ b
      → HasFaultLines b text raw fs → HasFaultLines b text raw gs → flat_map (checks_of m ts fs) cs ≡ flat_map (checks_of m ts gs) cs
  one_checks true text raw cs is p q = ap (λ (ls : List (Option ℕ)). flat_map (checks_of m ts ls) cs) (one_lines text raw fs gs p q)
  one_checks false text raw cs is p q = none_verified cs is

  one_report_text : (b : Bool) (text : List ℕ) (raw : RawModule) (cs : List Command) → list_any is_verifier cs ≡ b
      → HasFaultLines b text raw fs → HasFaultLines b text raw gs → report_text m ts fs cs ≡ report_text m ts gs cs
  one_report_text true text raw cs is p q = ap (λ (ls : List (Option ℕ)). report_text m ts ls cs) (one_lines text raw fs gs p q)
  one_report_text false text raw cs is p q =
      let told : flat_map (command_text m ts fs) cs ≡ flat_map (command_text m ts gs) cs = none_told cs is in
      let checks : flat_map (checks_of m ts fs) cs ≡ flat_map (checks_of m ts gs) cs = none_verified cs is in
      ap (λ l. l ++ last_line (passed m ts fs cs) (failed m ts fs cs) (skipped cs)) told
      ∙ ap (λ (ks : List Check). flat_map (command_text m ts gs) cs ++ last_line (report.passed ks) (report.failed ks) (skipped cs)) checks

-- ---- the laws

module _ (text : List ℕ) (r s : Report) (p : IsReport text r) (q : IsReport text s) where
  tokens_same : q.tokens ≡ p.tokens
  tokens_same = one_list text q.tokens p.tokens q.raw p.raw q.read p.read

  raws_same : q.raw ≡ p.raw
  raws_same = same_raw text q.tokens p.tokens q.raw p.raw q.read p.read

  -- what is known of the tokens and the raw module of the second is known of those of the first
  moved : (P : List Token → RawModule → Type 0) → P q.tokens q.raw → P p.tokens p.raw
  moved P h = subst (λ (w : RawModule). P p.tokens w) raws_same (subst (λ (ts : List Token). P ts q.raw) tokens_same h)

  tested_same : q.tested ≡ p.tested
  tested_same = one_tested (needs_module (asked text p.tokens)) p.raw q.tested p.tested (moved (λ ts raw. IsTestedModule (needs_module (asked text ts)) raw q.tested) q.is_tested) p.is_tested

  faults_there : HasFaultLines (list_any is_verifier (asked text p.tokens)) text p.raw q.faults
  faults_there = moved (λ ts raw. HasFaultLines (list_any is_verifier (asked text ts)) text raw q.faults) q.are_faults

  abbrev Tests : List FunctionTests
  Tests = all_tests text p.tokens p.raw.functions

  -- what both reports say of the module, the tests, the lines of faults and the commands
  one_part : {A : Type 0} (f : Module → List FunctionTests → List (Option ℕ) → List Command → A) (a b : A)
      → a ≡ f p.tested Tests p.faults (asked text p.tokens)
      → b ≡ f q.tested (all_tests text q.tokens q.raw.functions) q.faults (asked text q.tokens)
      → f p.tested Tests p.faults (asked text p.tokens) ≡ f p.tested Tests q.faults (asked text p.tokens) → a ≡ b
  one_part f a b x y same =
      let z : b ≡ f q.tested Tests q.faults (asked text p.tokens) = moved (λ ts raw. b ≡ f q.tested (all_tests text ts raw.functions) q.faults (asked text ts)) y in
      x ∙ same ∙ ap (λ (m : Module). f m Tests q.faults (asked text p.tokens)) (sym tested_same) ∙ sym z

  checks_same : flat_map (checks_of p.tested Tests p.faults) (asked text p.tokens) ≡ flat_map (checks_of p.tested Tests q.faults) (asked text p.tokens)
  checks_same = one_checks p.tested Tests p.faults q.faults (list_any is_verifier (asked text p.tokens)) text p.raw (asked text p.tokens) refl p.are_faults faults_there

  one_text : r.text ≡ s.text
  one_text = one_part report_text r.text s.text p.text_is q.text_is
      (one_report_text p.tested Tests p.faults q.faults (list_any is_verifier (asked text p.tokens)) text p.raw (asked text p.tokens) refl p.are_faults faults_there)

  one_passed : r.passed ≡ s.passed
  one_passed = one_part passed r.passed s.passed p.passed_is q.passed_is (ap report.passed checks_same)

  one_failed : r.failed ≡ s.failed
  one_failed = one_part failed r.failed s.failed p.failed_is q.failed_is (ap report.failed checks_same)

  one_skipped : r.skipped ≡ s.skipped
  one_skipped = one_part (λ m ts faults cs. skipped cs) r.skipped s.skipped p.skipped_is q.skipped_is refl

abbrev made : List ℕ → ℕ → ℕ → ℕ → Report
made text passed failed skipped = record { text = text; passed = passed; failed = failed; skipped = skipped }

-- reports with the same parts are the same
same_parts : (r s : Report) → r.text ≡ s.text → r.passed ≡ s.passed → r.failed ≡ s.failed → r.skipped ≡ s.skipped → r ≡ s
same_parts r s a b c d =
    let same : made r.text r.passed r.failed r.skipped ≡ made s.text s.passed s.failed s.skipped =
    ap (λ t. made t r.passed r.failed r.skipped) a ∙ ap (λ n. made s.text n r.failed r.skipped) b
    ∙ ap (λ n. made s.text s.passed n r.skipped) c ∙ ap (λ n. made s.text s.passed s.failed n) d in
    same

pub one_report : OneReport
one_report text r s p q = same_parts r s (one_text text r s p q) (one_passed text r s p q) (one_failed text r s p q) (one_skipped text r s p q)

-- ---- a text that can be tested

pub reported_can_be_tested : ReportedCanBeTested
reported_can_be_tested text r report = record {
  tokens = report.tokens;
  raw = report.raw;
  read = report.read;
  good = report.good;
  tested = report.tested;
  is_tested = report.is_tested;
}

no_bad_line : (text : List ℕ) (line : ℕ) → CanTest text → HasBadLine text line → ⊥
no_bad_line text line can (ts, raw, is, bad) =
    let tokens : ts ≡ can.tokens = one_list text ts can.tokens raw can.raw is can.read in
    let same : raw ≡ can.raw = same_raw text ts can.tokens raw can.raw is can.read in
    let moved : bad_line text can.tokens can.raw ≡ Some line =
    subst (λ (m : RawModule). bad_line text can.tokens m ≡ Some line) same (subst (λ (us : List Token). bad_line text us raw ≡ Some line) tokens bad) in
    let good = can.good in
    absurd cc

no_later_fault : (text : List ℕ) (k : TextKind) (spot : ℕ) → CanTest text → HasLaterFault text k spot → ⊥
no_later_fault text k spot can (ts, raw, is, good, needed, first) =
    let tokens : ts ≡ can.tokens = one_list text ts can.tokens raw can.raw is can.read in
    let same : raw ≡ can.raw = same_raw text ts can.tokens raw can.raw is can.read in
    let asks : needs_module (asked text can.tokens) ≡ true = subst (λ (us : List Token). needs_module (asked text us) ≡ true) tokens needed in
    let accepted : IsAcceptedRaw can.raw can.tested = subst (λ (b : Bool). IsTestedModule b can.raw can.tested) asks can.is_tested in
    meant_is_faultless can.raw can.tested k spot accepted.free accepted.means accepted.accepted (subst (λ (m : RawModule). FirstOfRaw m k spot) same first)

pub can_test_is_not_refused : CanTestIsNotRefused
can_test_is_not_refused text (err.BadDirective line) can bad = absurd (no_bad_line text line can bad)
can_test_is_not_refused text (err.Text k spot) can (inl unread) = absurd (read_is_faultless text can.raw k spot (is_module text can.tokens can.raw can.read) unread)
can_test_is_not_refused text (err.Text k spot) can (inr later) = absurd (no_later_fault text k spot can later)
can_test_is_not_refused text err.NoMemory can why = refl
