-- How runs of `test` end.
use Rattle.std.proofs.Common.{◌≡◌, ℕ, ◌<◌, List, Option, Some, length, refl, sym, ap, subst, inl, inr, arith}
use Rattle.std.specs.Prelude.{Bool, true, false, ◌==◌}
use Rattle.clif_lex.specs.declared.faults.Place.{Place}
use Rattle.clif_lex.specs.declared.faults.TextKind.{TextKind}
use Rattle.clk_flow.specs.Faults.{Rose}
use Rattle.filetest.specs.declared.report.Report.{Report}
use Rattle.filetest.specs.declared.testing.TestErr.TheVariants as err
use Rattle.filetest.specs.Laws.{CanTest}
use Rattle.filetest.specs.Tested.{IsRefusal, IsReport}
use Rattle.filetest.proofs.OneReport.{can_test_is_not_refused}
use Rattle.clifinl.specs.declared.status.Status.{Status}
use Rattle.clifinl.specs.declared.status.Status.TheVariants.{Done, Refused, Usage, ReadFault, WriteFault, NoMemory, ChecksFailed}
use Rattle.clifinl.specs.declared.status.Refusal.TheVariants.{Text, TooLong, BadScript, NoEntry, BadArgs, BadDirective}
use Rattle.clifinl.specs.Runs.{GivesTooMany, NoText, Outside, ReadsWhole, Stopped, most_bytes}
use Rattle.clifinl.specs.TestCommand.{HasNoReport, IsTestFault, IsTestRun, ReportEnds, TookReport, end_of}
use Rattle.clifinl.proofs.Runs.{told, told_long}

-- ---- a text that can be tested is not refused

pub no_bad_line : (text : List ℕ) (line : ℕ) → CanTest text → IsRefusal text (err.BadDirective line) → ⊥
no_bad_line text line can why = let same = can_test_is_not_refused text (err.BadDirective line) can why in absurd cc

pub no_fault : (text : List ℕ) (k : TextKind) (spot : ℕ) → CanTest text → IsRefusal text (err.Text k spot) → ⊥
no_fault text k spot can why = let same = can_test_is_not_refused text (err.Text k spot) can why in absurd cc

-- ---- how the failed checks decide

pub done_end : (r : Report) → r.failed ≡ 0 → Done ≡ end_of r
done_end r none = rw none refl

pub failed_end : (r : Report) → (r.failed ≡ 0 → ⊥) → ChecksFailed ≡ end_of r
failed_end r some = let other : (r.failed == 0) ≡ false = grind (arith, some) in rw other refl

-- ---- a run for each end

module _ (before after : Outside) where
  abbrev Ends : Status → Type 0
  Ends status = IsTestRun before after status

  pub out_of_memory : Ends NoMemory
  out_of_memory = record {
    cause = tt;
    complete = λ bytes is short can none. inr refl;
    refuses = λ bytes is short no. inr (inr refl);
    too_long = λ bytes is long. inr (inr refl);
  }

  not_read : Rose before.read_faults after.read_faults → Ends ReadFault
  not_read rose = record {
    cause = rose;
    complete = λ bytes is short can none. absurd (none.reads rose);
    refuses = λ bytes is short no. inr (inl refl);
    too_long = λ bytes is long. inr (inl refl);
  }

  given_too_many : GivesTooMany before.left after.left → Ends (Refused TooLong)
  given_too_many many = record {
    cause = many;
    complete = λ bytes is short can none. let long = told_long _ _ _ many is in absurd (omega (arith, long, short));
    refuses = λ bytes is short no. let long = told_long _ _ _ many is in absurd (omega (arith, long, short));
    too_long = λ bytes is long. inl refl;
  }

  -- a text that was read whole is not too long
  not_long : {Q : Type 0} (own bytes : List ℕ) → ReadsWhole before.left after.left own → before.left ≡ Some bytes → most_bytes < length bytes → Q
  not_long own bytes whole is long =
      let same : own ≡ bytes = told _ _ _ _ whole is in absurd (omega (arith, long, whole.short, ap length same))

  -- the bytes that are told are those that were read
  of_own : (own bytes : List ℕ) (P : List ℕ → Type 0) → ReadsWhole before.left after.left own → before.left ≡ Some bytes → P bytes → P own
  of_own own bytes P whole is has = subst P (sym (told _ _ _ _ whole is)) has

  faulty : (k : TextKind) (place : Place) (bytes : List ℕ) → ReadsWhole before.left after.left bytes → IsTestFault bytes k place → Ends (Refused (Text k place))
  faulty k place bytes whole fault = record {
    cause = (bytes, whole, fault);
    complete = λ all is short can none. absurd (no_fault bytes k fault.0 (of_own bytes all CanTest whole is can) fault.1);
    refuses = λ all is short no. inl (inl tt);
    too_long = λ all is long. not_long bytes all whole is long;
  }

  misdirected : (line : ℕ) (bytes : List ℕ) → ReadsWhole before.left after.left bytes → IsRefusal bytes (err.BadDirective line) → Ends (Refused (BadDirective line))
  misdirected line bytes whole bad = record {
    cause = (bytes, whole, bad);
    complete = λ all is short can none. absurd (no_bad_line bytes line (of_own bytes all CanTest whole is can) bad);
    refuses = λ all is short no. inl (inr tt);
    too_long = λ all is long. not_long bytes all whole is long;
  }

  pub stopped : (status : Status) → HasNoReport before.left after.left before.read_faults after.read_faults status → Ends status
  stopped (Refused (Text k place)) why = faulty k place why.0 why.1 why.2
  stopped (Refused (BadDirective line)) why = misdirected line why.0 why.1 why.2
  stopped (Refused TooLong) why = given_too_many why
  stopped ReadFault why = not_read why
  stopped NoMemory why = out_of_memory
  stopped (Refused (BadScript count)) why = absurd why
  stopped (Refused NoEntry) why = absurd why
  stopped (Refused BadArgs) why = absurd why
  stopped Done why = absurd why
  stopped Usage why = absurd why
  stopped WriteFault why = absurd why
  stopped ChecksFailed why = absurd why

  module _ (r : Report) (took : TookReport before.left after.left r) where
    -- the text has a report
    has_report : {Q : Type 0} (bytes : List ℕ) → before.left ≡ Some bytes → ((s : Report) → IsReport bytes s → ⊥) → Q
    has_report bytes is without = absurd (without r (subst (λ (b : List ℕ). IsReport b r) (told _ _ _ _ took.1 is) took.2))

    -- it is that of the bytes that are told
    its_report : (bytes : List ℕ) → before.left ≡ Some bytes → IsReport bytes r
    its_report bytes is = subst (λ (b : List ℕ). IsReport b r) (told _ _ _ _ took.1 is) took.2

    pub ended : (status : Status) → ReportEnds r before.written after.written before.write_faults after.write_faults status → Ends status
    ended Done ends = record {
      cause = (r, took, ends);
      complete = λ bytes is short can none. inl (r, its_report bytes is, done_end r ends.0);
      refuses = λ bytes is short no. has_report bytes is no;
      too_long = λ bytes is long. not_long took.0 bytes took.1 is long;
    }
    ended ChecksFailed ends = record {
      cause = (r, took, ends);
      complete = λ bytes is short can none. inl (r, its_report bytes is, failed_end r ends.0);
      refuses = λ bytes is short no. has_report bytes is no;
      too_long = λ bytes is long. not_long took.0 bytes took.1 is long;
    }
    ended WriteFault ends = record {
      cause = (r, took, ends);
      complete = λ bytes is short can none. absurd (none.writes ends.1);
      refuses = λ bytes is short no. has_report bytes is no;
      too_long = λ bytes is long. not_long took.0 bytes took.1 is long;
    }
    ended (Refused refusal) ends = absurd ends
    ended Usage ends = absurd ends
    ended ReadFault ends = absurd ends
    ended NoMemory ends = absurd ends

-- ---- reading

-- where the source was not read whole, there is no report
pub not_whole : (before after : Option (List ℕ)) (faults now : ℕ) (status : Status) → Stopped NoText before after faults now status → HasNoReport before after faults now status
not_whole before after faults now (Refused (Text k place)) why = absurd why.2
not_whole before after faults now (Refused TooLong) why = why
not_whole before after faults now (Refused (BadDirective line)) why = absurd why
not_whole before after faults now (Refused (BadScript count)) why = absurd why
not_whole before after faults now (Refused NoEntry) why = absurd why
not_whole before after faults now (Refused BadArgs) why = absurd why
not_whole before after faults now ReadFault why = why
not_whole before after faults now NoMemory why = tt
not_whole before after faults now Done why = absurd why
not_whole before after faults now Usage why = absurd why
not_whole before after faults now WriteFault why = absurd why
not_whole before after faults now ChecksFailed why = absurd why
