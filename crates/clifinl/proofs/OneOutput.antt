-- Two runs of a command over the same bytes end the same and write the same.
use Rattle.std.proofs.Common.{◌≡◌, ◌≢◌, ℕ, ◌≤◌, List, [], length, Some, inl, inr, refl, sym, subst, ◌∙◌}
use Rattle.std.specs.Prelude.{◌⊎◌}
use Rattle.std.specs.Io.KnownBytes.{Appends}
use Rattle.clif_check.specs.Faults.{IsAccepted}
use Rattle.clif_lex.specs.declared.faults.Place.{Place}
use Rattle.clif_lex.specs.declared.faults.TextKind.{TextKind}
use Rattle.inlined_reads.specs.Laws.{inlined_text}
use Rattle.ir_core.specs.Module.{Module}
use Rattle.ir_text.specs.Text.{text_of}
use Rattle.program_run.specs.EntryName.{NamesDiffer}
use Rattle.read_writable.specs.Laws.{ReadIsWritable}
use Rattle.settings.specs.Settings.{GenSettings, RunSettings, Settings, Check, Print, Inline, Run, Gen, Test}
use Rattle.clifinl.specs.declared.status.Refusal.{Refusal}
use Rattle.clifinl.specs.declared.status.Status.{Status}
use Rattle.clifinl.specs.declared.status.Status.TheVariants.{Done, Refused, Usage, ReadFault, WriteFault, NoMemory, ChecksFailed}
use Rattle.clifinl.specs.declared.status.Refusal.TheVariants.{Text, TooLong, BadScript, NoEntry, BadArgs, BadDirective}
use Rattle.clifinl.specs.GenCommand.{gen_text}
use Rattle.clifinl.specs.InlineCommand.{policy_of}
use Rattle.clifinl.specs.Laws.{IsWholeRun, OneOutput}
use Rattle.clifinl.specs.RunCommand as function
use Rattle.clifinl.specs.Runs.{GivesTooMany, HasCause, HasNoFault, IsFirstFault, Outside, ReadsWhole, Wrote, count_line, most_bytes}
use Rattle.filetest.specs.Tested.{HasBadLine, IsReport}
use Rattle.clifinl.specs.TestCommand as testing
use Rattle.clifinl.proofs.Once.{IsFaulty, OfBytes, OfText, Once, nothing_more, of_bytes_once, of_text_once}
use Rattle.clifinl.proofs.OnceRun.{OfRun, of_run_once}
use Rattle.clifinl.proofs.OnceTest.{OfTest, of_test_once}
use Rattle.clifinl.proofs.Runs.{told, told_long}
use Rattle.clifinl.proofs.TestEnds.{done_end, failed_end}

-- the run of the settings over the bytes ends so and writes this
abbrev Answer : NamesDiffer → ReadIsWritable → Settings → List ℕ → Status → List ℕ → Type 0
Answer differ writable Check bytes = OfBytes bytes (OfText count_line bytes)
Answer differ writable Print bytes = OfBytes bytes (OfText text_of bytes)
Answer differ writable (Inline s) bytes = OfBytes bytes (OfText (inlined_text (policy_of s)) bytes)
Answer differ writable (Run s) bytes = OfRun differ writable s bytes
Answer differ writable (Gen s) bytes = λ status output. (status ≡ Done) × (output ≡ gen_text s)
Answer differ writable Test bytes = OfBytes bytes (OfTest bytes)

answer_once : (differ : NamesDiffer) (writable : ReadIsWritable) (s : Settings) (bytes : List ℕ) → Once (Answer differ writable s bytes)
answer_once differ writable Check bytes = of_bytes_once bytes (OfText count_line bytes) (of_text_once count_line bytes)
answer_once differ writable Print bytes = of_bytes_once bytes (OfText text_of bytes) (of_text_once text_of bytes)
answer_once differ writable (Inline s) bytes = of_bytes_once bytes (OfText (inlined_text (policy_of s)) bytes) (of_text_once (inlined_text (policy_of s)) bytes)
answer_once differ writable (Run s) bytes = of_run_once differ writable s bytes
answer_once differ writable (Gen s) bytes = λ a b x y p q. (p.0 ∙ sym q.0, p.1 ∙ sym q.1)
answer_once differ writable Test bytes = of_bytes_once bytes (OfTest bytes) (of_test_once bytes)

-- ---- a whole run has an answer

module _ (bytes : List ℕ) (before after : Outside) (is : before.left ≡ Some bytes) (none : HasNoFault before after) where
  abbrev Answered : (Status → List ℕ → Type 0) → Status → Type 0
  Answered P status = (output : List ℕ) × Appends before.written after.written output × P status output

  abbrev Nothing : Status → Type 0
  Nothing status = (after.written ≡ before.written) ⊎ ((status ≡ Done) ⊎ ((status ≡ ChecksFailed) ⊎ (status ≡ WriteFault)))

  silent : (refusal : Refusal) → Nothing (Refused refusal) → Appends before.written after.written []
  silent refusal (inl same) = nothing_more before.written after.written same
  silent refusal (inr (inl other)) = absurd cc
  silent refusal (inr (inr (inl other))) = absurd cc
  silent refusal (inr (inr (inr other))) = absurd cc

  stops : (refusal : Refusal) (P : Status → List ℕ → Type 0) → Nothing (Refused refusal) → P (Refused refusal) [] → Answered P (Refused refusal)
  stops refusal P nothing why = ([], silent refusal nothing, why)

  own_short : (own : List ℕ) → ReadsWhole before.left after.left own → length bytes ≤ most_bytes
  own_short own whole = subst (λ (b : List ℕ). length b ≤ most_bytes) (told _ _ _ _ whole is) whole.short

  own_is : (P : List ℕ → Type 0) (own : List ℕ) → ReadsWhole before.left after.left own → P own → P bytes
  own_is P own whole has = subst P (told _ _ _ _ whole is) has

  too_long : (P : Status → List ℕ → Type 0) → GivesTooMany before.left after.left → OfBytes bytes P (Refused TooLong) []
  too_long P many = inr (told_long _ _ _ many is, (refl, refl))

  faulty : (k : TextKind) (place : Place) (own : List ℕ) → ReadsWhole before.left after.left own → IsFirstFault own k place
      → IsFaulty bytes (Refused (Text k place)) []
  faulty k place own whole fault = (k, place, own_is (λ b. IsFirstFault b k place) own whole fault, (refl, refl))

  module _ (of_module : Module → List ℕ) where
    of_run : (status : Status) → HasCause IsAccepted IsFirstFault of_module before after status → Nothing status → status ≢ NoMemory
        → Answered (OfBytes bytes (OfText of_module bytes)) status
    of_run Done (m, took, wrote) nothing enough =
        (of_module m, wrote, inl (own_short took.bytes took.whole, inl (m, own_is (λ b. IsAccepted b m) took.bytes took.whole took.takes, refl, refl)))
    of_run (Refused (Text k place)) (own, whole, fault) nothing enough =
        stops (Text k place) (OfBytes bytes (OfText of_module bytes)) nothing (inl (own_short own whole, inr (faulty k place own whole fault)))
    of_run (Refused TooLong) many nothing enough = stops TooLong (OfBytes bytes (OfText of_module bytes)) nothing (too_long (OfText of_module bytes) many)
    of_run WriteFault (m, took, part, rose) nothing enough = absurd (none.writes rose)
    of_run ReadFault rose nothing enough = absurd (none.reads rose)
    of_run NoMemory why nothing enough = absurd (enough refl)
    of_run (Refused (BadScript count)) why nothing enough = absurd why
    of_run (Refused NoEntry) why nothing enough = absurd why
    of_run (Refused BadArgs) why nothing enough = absurd why
    of_run (Refused (BadDirective line)) why nothing enough = absurd why
    of_run Usage why nothing enough = absurd why
    of_run ChecksFailed why nothing enough = absurd why

  of_gen : (s : GenSettings) (status : Status) → Wrote (gen_text s) before.written after.written before.write_faults after.write_faults status
      → status ≢ NoMemory → Answered (λ end output. (end ≡ Done) × (output ≡ gen_text s)) status
  of_gen s Done wrote enough = (gen_text s, wrote, (refl, refl))
  of_gen s WriteFault (part, rose) enough = absurd (none.writes rose)
  of_gen s NoMemory wrote enough = absurd (enough refl)
  of_gen s (Refused refusal) wrote enough = absurd wrote
  of_gen s Usage wrote enough = absurd wrote
  of_gen s ReadFault wrote enough = absurd wrote
  of_gen s ChecksFailed wrote enough = absurd wrote

  of_test : (status : Status) → testing.HasCause before after status → Nothing status → status ≢ NoMemory
      → Answered (OfBytes bytes (OfTest bytes)) status
  of_test Done (r, (own, whole, report), (zero-failed, wrote)) nothing enough =
      (r.text, wrote, inl (own_short own whole, inl (r, own_is (λ b. IsReport b r) own whole report, done_end r zero-failed, refl)))
  of_test ChecksFailed (r, (own, whole, report), (some-failed, wrote)) nothing enough =
      (r.text, wrote, inl (own_short own whole, inl (r, own_is (λ b. IsReport b r) own whole report, failed_end r some-failed, refl)))
  of_test WriteFault (r, took, (part, rose)) nothing enough = absurd (none.writes rose)
  of_test (Refused (Text k place)) (own, whole, fault) nothing enough =
      stops (Text k place) (OfBytes bytes (OfTest bytes)) nothing
      (inl (own_short own whole, inr (inl (k, place, own_is (λ b. testing.IsTestFault b k place) own whole fault, (refl, refl)))))
  of_test (Refused (BadDirective line)) (own, whole, bad) nothing enough =
      stops (BadDirective line) (OfBytes bytes (OfTest bytes)) nothing
      (inl (own_short own whole, inr (inr (line, own_is (λ b. HasBadLine b line) own whole bad, (refl, refl)))))
  of_test (Refused TooLong) many nothing enough = stops TooLong (OfBytes bytes (OfTest bytes)) nothing (too_long (OfTest bytes) many)
  of_test ReadFault rose nothing enough = absurd (none.reads rose)
  of_test NoMemory why nothing enough = absurd (enough refl)
  of_test (Refused (BadScript count)) why nothing enough = absurd why
  of_test (Refused NoEntry) why nothing enough = absurd why
  of_test (Refused BadArgs) why nothing enough = absurd why
  of_test Usage why nothing enough = absurd why

  module _ (differ : NamesDiffer) (writable : ReadIsWritable) (s : RunSettings) where
    abbrev End : Status → List ℕ → Type 0
    End = OfRun differ writable s bytes

    of_function : (status : Status) → function.HasCause s before after status → Nothing status → status ≢ NoMemory → Answered End status
    of_function Done (script, m, read, took, (text, has, wrote)) nothing enough = (
      text,
      wrote,
      inl (
        (script, read),
        inl (
          own_short took.bytes took.whole,
          inl (script, m, read, own_is (λ b. IsAccepted b m) took.bytes took.whole took.takes, inl (refl, has)),
        ),
      ),
    )
    of_function (Refused NoEntry) (script, m, read, took, ends) nothing enough =
        stops NoEntry End nothing (inl (
          (script, read),
          inl (
            own_short took.bytes took.whole,
            inl (script, m, read, own_is (λ b. IsAccepted b m) took.bytes took.whole took.takes, inr (inl (ends, (refl, refl)))),
          ),
        ))
    of_function (Refused BadArgs) (script, m, read, took, ends) nothing enough =
        stops BadArgs End nothing (inl (
          (script, read),
          inl (
            own_short took.bytes took.whole,
            inl (script, m, read, own_is (λ b. IsAccepted b m) took.bytes took.whole took.takes, inr (inr (ends, (refl, refl)))),
          ),
        ))
    of_function (Refused (BadScript count)) (fault, unread) nothing enough = stops (BadScript count) End nothing (inr (count, fault, (refl, refl)))
    of_function (Refused (Text k place)) (script, (own, whole, fault)) nothing enough =
        stops (Text k place) End nothing (inl (script, inl (own_short own whole, inr (faulty k place own whole fault))))
    of_function (Refused TooLong) (script, many) nothing enough = stops TooLong End nothing (inl (script, inr (told_long _ _ _ many is, (refl, refl))))
    of_function WriteFault (script, m, read, took, (text, has, part, rose)) nothing enough = absurd (none.writes rose)
    of_function ReadFault (script, rose) nothing enough = absurd (none.reads rose)
    of_function NoMemory why nothing enough = absurd (enough refl)
    of_function (Refused (BadDirective line)) (script, why) nothing enough = absurd why
    of_function Usage (script, why) nothing enough = absurd why
    of_function ChecksFailed (script, why) nothing enough = absurd why

-- ---- the law

module _ (differ : NamesDiffer) (writable : ReadIsWritable) where
  answered : (s : Settings) (bytes : List ℕ) (before after : Outside) (status : Status) → IsWholeRun s bytes before after status
      → (output : List ℕ) × Appends before.written after.written output × Answer differ writable s bytes status output
  answered Check bytes before after status whole = of_run bytes before after whole.told whole.no_fault count_line status whole.run.cause whole.nothing whole.enough_memory
  answered Print bytes before after status whole = of_run bytes before after whole.told whole.no_fault text_of status whole.run.run.cause whole.nothing whole.enough_memory
  answered (Inline s) bytes before after status whole =
      of_run bytes before after whole.told whole.no_fault (inlined_text (policy_of s)) status whole.run.run.cause whole.nothing whole.enough_memory
  answered (Run s) bytes before after status whole = of_function bytes before after whole.told whole.no_fault differ writable s status whole.run.cause whole.nothing whole.enough_memory
  answered (Gen s) bytes before after status whole = of_gen bytes before after whole.told whole.no_fault s status whole.run.cause whole.enough_memory
  answered Test bytes before after status whole = of_test bytes before after whole.told whole.no_fault status whole.run.cause whole.nothing whole.enough_memory

  pub one_output : OneOutput
  one_output s bytes before after other later status end whole whole' =
      let a = answered s bytes before after status whole in
      let b = answered s bytes other later end whole' in
      let same = answer_once differ writable s bytes status end a.0 b.0 a.2 b.2 in
      (same.0, (a.0, a.1, subst (Appends other.written later.written) (sym same.1) b.1))
