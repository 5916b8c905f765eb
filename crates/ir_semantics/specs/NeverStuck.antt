-- What acceptance is for: the run of an entry call never gets stuck.
use Rattle.std.specs.Prelude.{List}
use Rattle.clk_num.specs.Operations.{DataValue}
use Rattle.ir_core.specs.declared.names.FuncName.{FuncName}
use Rattle.ir_core.specs.Module.{Module}
use Rattle.ir_core.specs.WellFormed.{IsModule}
use Rattle.ir_semantics.specs.Accepted.{Accepted}
use Rattle.ir_semantics.specs.Machine.{World}
use Rattle.ir_semantics.specs.Runs.{IsEntry}
use Rattle.ir_semantics.specs.Same.{Safe}

abbrev pub NeverStuck : Type 0
NeverStuck =
    (m : Module) → IsModule m → Accepted m → (entry : FuncName) (args : List DataValue) (w : World)
    → IsEntry m entry args → Safe m entry args w
