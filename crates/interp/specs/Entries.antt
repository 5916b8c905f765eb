-- When a name and numbers are an entry call: the module has a function of the name, there are as many numbers as it has
-- parameters, and each number is a value of its parameter's type, as signed or as unsigned.
use Rattle.std.specs.Prelude.{◌≡◌, ℤ, List, Option, Some}
use Rattle.clk_num.specs.Operations.{DataValue}
use Rattle.ir_core.specs.declared.names.FuncName.{FuncName}
use Rattle.ir_core.specs.Module.{Module}
use Rattle.ir_core.specs.Lookup.{and_then, find_function, param_types}
use Rattle.ir_semantics.specs.Values.{values_for}
use Rattle.ir_semantics.specs.Runs.{IsEntry}

-- the values of the entry call
abbrev pub entry_values : Module → FuncName → List ℤ → Option (List DataValue)
entry_values m entry numbers = and_then (find_function entry m) (λ f. values_for (param_types f.sig.params) numbers)

-- such a call is an entry call by the definition of runs
abbrev pub NumbersEnter : Type 0
NumbersEnter =
    (m : Module) (entry : FuncName) (numbers : List ℤ) (args : List DataValue)
    → entry_values m entry numbers ≡ Some args → IsEntry m entry args
