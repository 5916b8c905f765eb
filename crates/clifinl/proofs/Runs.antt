-- How the runs of a command end.
use Rattle.std.proofs.Common.{◌≡◌, ℕ, ◌<◌, ◌++◌, List, length, Option, None, Some, inl, inr, refl, sym, ap, subst, ◌∙◌, arith, append-nil, length-append}
use Rattle.std.specs.Io.KnownBytes.{Appends}
use Rattle.clk_flow.specs.Faults.{Rose}
use Rattle.clk_flow.specs.Whole.{AppendsPrefix}
use Rattle.clif_lex.specs.declared.faults.Place.{Place}
use Rattle.clif_lex.specs.declared.faults.TextKind.{TextKind}
use Rattle.ir_core.specs.Module.{Module}
use Rattle.clifinl.specs.declared.status.Status.{Status}
use Rattle.clifinl.specs.declared.status.Status.TheVariants.{Done, Refused, Usage, ReadFault, WriteFault, NoMemory, ChecksFailed}
use Rattle.clifinl.specs.declared.status.Refusal.TheVariants.{Text, TooLong, BadScript, NoEntry, BadArgs, BadDirective}
use Rattle.clif_check.specs.Faults.{IsAccepted}
use Rattle.clif_check.proofs.Stages.{accepted_has_no_fault}
use Rattle.clifinl.specs.Runs.{IsFirstFault, most_bytes, ReadsWhole, GivesTooMany, Outside, Took, Stopped, Wrote, IsRun}

-- ---- where the source tells its bytes

-- what is read whole is all that there was
pub told : (before after : Option (List ℕ)) (bytes all : List ℕ) → ReadsWhole before after bytes → before ≡ Some all → bytes ≡ all
told None after bytes all whole is = absurd cc
told (Some xs) None bytes all whole is = absurd whole.taken
told (Some xs) (Some ys) bytes all whole is =
    let same : xs ≡ all = cc in sym (append-nil bytes) ∙ ap (λ (rest : List ℕ). bytes ++ rest) (sym whole.ended) ∙ sym whole.taken ∙ same

-- a source that gave too many has too many
pub told_long : (before after : Option (List ℕ)) (all : List ℕ) → GivesTooMany before after → before ≡ Some all → most_bytes < length all
told_long None after all many is = absurd cc
told_long (Some xs) None all many is = absurd many.1
told_long (Some xs) (Some ys) all many is =
    let same : xs ≡ all = cc in
    let long : length all ≡ length (many.0 ++ ys) = ap length (sym same ∙ many.1) in
    omega (arith, long, length-append many.0 ys, many.2)

-- ---- a run for each end

module _ (Takes : List ℕ → Module → Type 0) (Refuses : List ℕ → TextKind → Place → Type 0) (output : Module → List ℕ)
    (before after : Outside) where
  abbrev Ends : Status → Type 0
  Ends status = IsRun Takes Refuses output before after status

  done : (m : Module) → Took Takes before.left after.left m → Appends before.written after.written (output m) → Ends Done
  done m took wrote = record {
    cause = (m, took, wrote);
    complete = λ bytes n is short takes none. inl refl;
    refuses = λ bytes is short no. absurd (no m (subst (λ (b : List ℕ). Takes b m) (told _ _ _ _ took.whole is) took.takes));
    too_long = λ bytes is long. let same : took.bytes ≡ bytes = told _ _ _ _ took.whole is in absurd (omega (arith, long, took.whole.short, ap length same));
  }

  not_written : (m : Module) → Took Takes before.left after.left m → AppendsPrefix before.written after.written (output m)
      → Rose before.write_faults after.write_faults → Ends WriteFault
  not_written m took part rose = record {
    cause = (m, took, part, rose);
    complete = λ bytes n is short takes none. absurd (none.writes rose);
    refuses = λ bytes is short no. absurd (no m (subst (λ (b : List ℕ). Takes b m) (told _ _ _ _ took.whole is) took.takes));
    too_long = λ bytes is long. let same : took.bytes ≡ bytes = told _ _ _ _ took.whole is in absurd (omega (arith, long, took.whole.short, ap length same));
  }

  pub out_of_memory : Ends NoMemory
  out_of_memory = record {
    cause = tt;
    complete = λ bytes n is short takes none. inr refl;
    refuses = λ bytes is short no. inr (inr refl);
    too_long = λ bytes is long. inr (inr refl);
  }

  not_read : Rose before.read_faults after.read_faults → Ends ReadFault
  not_read rose = record {
    cause = rose;
    complete = λ bytes n is short takes none. absurd (none.reads rose);
    refuses = λ bytes is short no. inr (inl refl);
    too_long = λ bytes is long. inr (inl refl);
  }

  given_too_many : GivesTooMany before.left after.left → Ends (Refused TooLong)
  given_too_many many = record {
    cause = many;
    complete = λ bytes n is short takes none. let long = told_long _ _ _ many is in absurd (omega (arith, long, short));
    refuses = λ bytes is short no. let long = told_long _ _ _ many is in absurd (omega (arith, long, short));
    too_long = λ bytes is long. inl refl;
  }

  pub written : (m : Module) (status : Status) → Took Takes before.left after.left m → Wrote (output m) before.written after.written before.write_faults after.write_faults status → Ends status
  written m Done took wrote = done m took wrote
  written m WriteFault took wrote = not_written m took wrote.0 wrote.1
  written m NoMemory took wrote = out_of_memory
  written m (Refused refusal) took wrote = absurd wrote
  written m Usage took wrote = absurd wrote
  written m ReadFault took wrote = absurd wrote
  written m ChecksFailed took wrote = absurd wrote

  -- a text that is refused is none that is taken
  module _ (honest : (bytes : List ℕ) (k : TextKind) (place : Place) (m : Module) → Refuses bytes k place → Takes bytes m → ⊥) where
    refused : (k : TextKind) (place : Place) (bytes : List ℕ) → ReadsWhole before.left after.left bytes → Refuses bytes k place → Ends (Refused (Text k place))
    refused k place bytes whole refuses = record {
      cause = (bytes, whole, refuses);
      complete = λ all n is short takes none. absurd (honest bytes k place n refuses (subst (λ (b : List ℕ). Takes b n) (sym (told _ _ _ _ whole is)) takes));
      refuses = λ all is short no. inl tt;
      too_long = λ all is long. let same : bytes ≡ all = told _ _ _ _ whole is in absurd (omega (arith, long, whole.short, ap length same));
    }

    pub stopped : (status : Status) → Stopped Refuses before.left after.left before.read_faults after.read_faults status → Ends status
    stopped (Refused (Text k place)) why = refused k place why.0 why.1 why.2
    stopped (Refused TooLong) why = given_too_many why
    stopped (Refused (BadScript count)) why = absurd why
    stopped (Refused NoEntry) why = absurd why
    stopped (Refused BadArgs) why = absurd why
    stopped (Refused (BadDirective line)) why = absurd why
    stopped ReadFault why = not_read why
    stopped NoMemory why = out_of_memory
    stopped Done why = absurd why
    stopped Usage why = absurd why
    stopped WriteFault why = absurd why
    stopped ChecksFailed why = absurd why

-- an accepted text is not refused
pub honest : (bytes : List ℕ) (k : TextKind) (place : Place) (m : Module) → IsFirstFault bytes k place → IsAccepted bytes m → ⊥
honest bytes k place m fault accepted = accepted_has_no_fault bytes m k fault.0 accepted fault.1
