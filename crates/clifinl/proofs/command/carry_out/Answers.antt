use Rattle.std.proofs.Common.{refl}
use Rattle.settings.specs.Shown.{run_shown}
use Rattle.clifinl.proofs.Asked.{run_unread}
use Rattle.clifinl.proofs.GenEnds.{gen_run}
use Rattle.clifinl.proofs.command.carry_out.Goals as goal

pub returns-in-Check-clause-run : goal.returns-in-Check-clause-run
returns-in-Check-clause-run g c = rw c.in-Check.is c.check.ensures.run

pub returns-in-Print-clause-run : goal.returns-in-Print-clause-run
returns-in-Print-clause-run g c = rw c.in-Print.is c.print.ensures.run

pub returns-in-Inline-clause-run : goal.returns-in-Inline-clause-run
returns-in-Inline-clause-run g c = rw c.in-Inline.is c.inline.ensures.run

pub returns-in-Run-clause-run : goal.returns-in-Run-clause-run
returns-in-Run-clause-run g c = rw c.in-Run.is c.run.ensures.run

pub returns-in-Test-clause-run : goal.returns-in-Test-clause-run
returns-in-Test-clause-run g c = rw c.in-Test.is c.test.ensures.run

pub returns-in-Gen-clause-run : goal.returns-in-Gen-clause-run
returns-in-Gen-clause-run g c = rw c.in-Gen.is (gen_run _ _ _ _ (record { left = refl; faults = refl }) c.generated.ensures.wrote (λ done. c.generated.ensures.reads_back))

pub returns-in-Run-clause-unread : goal.returns-in-Run-clause-unread
returns-in-Run-clause-unread g c = λ nothing. run_unread (run_shown c.in-Run.options) _ (rw c.in-Run.is at nothing) c.run.ensures.unread

pub returns-in-Gen-clause-unread : goal.returns-in-Gen-clause-unread
returns-in-Gen-clause-unread g c = λ nothing. refl

pub returns-in-Check-clause-unread : goal.returns-in-Check-clause-unread
returns-in-Check-clause-unread g c = λ nothing. absurd (rw c.in-Check.is at nothing)

pub returns-in-Print-clause-unread : goal.returns-in-Print-clause-unread
returns-in-Print-clause-unread g c = λ nothing. absurd (rw c.in-Print.is at nothing)

pub returns-in-Inline-clause-unread : goal.returns-in-Inline-clause-unread
returns-in-Inline-clause-unread g c = λ nothing. absurd (rw c.in-Inline.is at nothing)

pub returns-in-Test-clause-unread : goal.returns-in-Test-clause-unread
returns-in-Test-clause-unread g c = λ nothing. absurd (rw c.in-Test.is at nothing)
