-- The exit status of a process by how its run ended.
use Rattle.std.specs.Prelude.{ℕ}
use Rattle.clifinl.specs.declared.status.Status.{Status}
use Rattle.clifinl.specs.declared.status.Status.TheVariants.{Done, Refused, Usage, ReadFault, WriteFault}
use Rattle.clifinl.specs.declared.status.Status.TheVariants.{NoMemory, ChecksFailed}

abbrev pub code_of : Status → ℕ
code_of Done = 0
code_of (Refused refusal) = 1
code_of Usage = 2
code_of ReadFault = 3
code_of WriteFault = 4
code_of NoMemory = 5
code_of ChecksFailed = 6
