-- The tests of a text are a function of its bytes.
use Rattle.std.proofs.Common.{◌≡◌, ℕ, List, Some, inl, inr, refl, sym, ap, subst, ◌∙◌}
use Rattle.std.specs.Prelude.{◌⊎◌}
use Rattle.clif_lex.specs.declared.faults.Place.{Place}
use Rattle.clif_lex.specs.declared.faults.TextKind.{TextKind}
use Rattle.clif_lex.specs.declared.spans.Token.{Token}
use Rattle.clif_check.specs.Faults.{FirstFault}
use Rattle.clif_check.proofs.Stages.{read_is_faultless}
use Rattle.clif_read.specs.declared.raw.RawModule.{RawModule}
use Rattle.filetest.specs.declared.report.Report.{Report}
use Rattle.filetest.specs.declared.testing.TestErr.TheVariants as err
use Rattle.filetest.specs.Tested.{HasBadLine, IsRefusal, IsReport}
use Rattle.test_directives.specs.Tests.{bad_line}
use Rattle.clifinl.specs.declared.status.Status.{Status}
use Rattle.clifinl.specs.declared.status.Status.TheVariants.{Refused}
use Rattle.clifinl.specs.declared.status.Refusal.TheVariants.{BadDirective, Text}
use Rattle.clifinl.specs.TestCommand.{IsTestFault, end_of}
use Rattle.clifinl.proofs.Once.{Once, StopsAs, first_once, same_stop}
use Rattle.filetest.proofs.OneReport.{is_module, one_list, one_report, reported_can_be_tested, same_raw}
use Rattle.clifinl.proofs.TestEnds.{no_bad_line, no_fault}

-- ---- refusals

-- why a text has no report is its first fault
is_first : (text : List ℕ) (k : TextKind) (spot : ℕ) → IsRefusal text (err.Text k spot) → FirstFault text k spot
is_first text k spot (inl unread) = inl unread
is_first text k spot (inr (ts, raw, is, good, needed, first)) = inr (raw, is_module text ts raw is, first)

one_bad_line : (text : List ℕ) (l m : ℕ) → HasBadLine text l → HasBadLine text m → l ≡ m
one_bad_line text l m (ts, raw, is, bad) (us, other, is', bad') =
    let tokens : us ≡ ts = one_list text us ts other raw is' is in
    let same : other ≡ raw = same_raw text us ts other raw is' is in
    let moved : bad_line text ts raw ≡ Some m =
    subst (λ (r : RawModule). bad_line text ts r ≡ Some m) same (subst (λ (vs : List Token). bad_line text vs other ≡ Some m) tokens bad') in
    cc

no_both : (text : List ℕ) (k : TextKind) (spot line : ℕ) → IsRefusal text (err.Text k spot) → HasBadLine text line → ⊥
no_both text k spot line (inl unread) (us, other, is, bad) = read_is_faultless text other k spot (is_module text us other is) unread
no_both text k spot line (inr (ts, raw, is, good, needed, first)) (us, other, is', bad) =
    let tokens : us ≡ ts = one_list text us ts other raw is' is in
    let same : other ≡ raw = same_raw text us ts other raw is' is in
    let moved : bad_line text ts raw ≡ Some line =
    subst (λ (r : RawModule). bad_line text ts r ≡ Some line) same (subst (λ (vs : List Token). bad_line text vs other ≡ Some line) tokens bad) in
    absurd cc

-- ---- the command

module _ (bytes : List ℕ) where
  abbrev IsReported : Status → List ℕ → Type 0
  IsReported status output = (r : Report) × IsReport bytes r × (status ≡ end_of r) × (output ≡ r.text)

  abbrev IsTestFaulty : Status → List ℕ → Type 0
  IsTestFaulty status output = (k : TextKind) × (place : Place) × IsTestFault bytes k place × StopsAs (Refused (Text k place)) status output

  abbrev IsMisdirected : Status → List ℕ → Type 0
  IsMisdirected status output = (line : ℕ) × HasBadLine bytes line × StopsAs (Refused (BadDirective line)) status output

  abbrev pub OfTest : Status → List ℕ → Type 0
  OfTest status output = IsReported status output ⊎ (IsTestFaulty status output ⊎ IsMisdirected status output)

  pub of_test_once : Once OfTest
  of_test_once a b x y (inl (r, report, end, is)) (inl (q, report', end', is')) =
      let same : r ≡ q = one_report bytes r q report report' in
      (end ∙ ap end_of same ∙ sym end', is ∙ ap (λ (s : Report). s.text) same ∙ sym is')
  of_test_once a b x y (inl (r, report, end, is)) (inr (inl (k, place, fault, stop))) = absurd (no_fault bytes k fault.0 (reported_can_be_tested bytes r report) fault.1)
  of_test_once a b x y (inl (r, report, end, is)) (inr (inr (line, bad, stop))) = absurd (no_bad_line bytes line (reported_can_be_tested bytes r report) bad)
  of_test_once a b x y (inr (inl (k, place, fault, stop))) (inl (r, report, end, is)) = absurd (no_fault bytes k fault.0 (reported_can_be_tested bytes r report) fault.1)
  of_test_once a b x y (inr (inr (line, bad, stop))) (inl (r, report, end, is)) = absurd (no_bad_line bytes line (reported_can_be_tested bytes r report) bad)
  of_test_once a b x y (inr (inl (k, place, fault, stop))) (inr (inl (l, other, fault', stop'))) =
      same_stop _ _ a b x y
      (first_once bytes k l fault.0 fault'.0 place other (is_first bytes k fault.0 fault.1) (is_first bytes l fault'.0 fault'.1) fault.2 fault'.2)
      stop stop'
  of_test_once a b x y (inr (inl (k, place, fault, stop))) (inr (inr (line, bad, stop'))) = absurd (no_both bytes k fault.0 line fault.1 bad)
  of_test_once a b x y (inr (inr (line, bad, stop))) (inr (inl (k, place, fault, stop'))) = absurd (no_both bytes k fault.0 line fault.1 bad)
  of_test_once a b x y (inr (inr (l, bad, stop))) (inr (inr (m, bad', stop'))) =
      same_stop _ _ a b x y (ap (λ (n : ℕ). Refused (BadDirective n)) (one_bad_line bytes l m bad bad')) stop stop'
