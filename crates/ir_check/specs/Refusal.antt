-- Why a module is refused: by its first fault, or because memory ran out.
use Rattle.std.specs.Prelude.{⊤}
use Rattle.ir_core.specs.Module.{Module}
use Rattle.ir_check.specs.declared.checking.CheckErr.{CheckErr}
use Rattle.ir_check.specs.declared.checking.CheckErr.TheVariants as err
use Rattle.ir_check.specs.Faults.{FirstFault}
use Rattle.ir_check.specs.Kinds.{rule_of}

abbrev pub IsRefusal : Module → CheckErr → Type 0
IsRefusal m (err.Fault kind func item) = FirstFault m func item (rule_of kind)
IsRefusal m err.NoMemory = ⊤
