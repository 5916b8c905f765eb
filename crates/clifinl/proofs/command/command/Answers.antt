use Rattle.std.proofs.Common.{refl}
use Rattle.clifinl.proofs.Asked.{never_usage, no_memory}
use Rattle.clifinl.proofs.command.command.Goals as goal

pub returns-in-Err-NoMemory-clause-run : goal.returns-in-Err-NoMemory-clause-run
returns-in-Err-NoMemory-clause-run g c = λ s _. no_memory s _ _ (record { left = refl; faults = refl })

pub returns-clause-usage : goal.returns-clause-usage
returns-clause-usage g c = λ usage. absurd (never_usage _ _ _ _ c.carry_out-status.ensures.run usage)
