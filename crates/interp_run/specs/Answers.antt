-- What a run answers.
use Rattle.std.specs.Prelude.{◌≡◌, ⊤, ℕ, ℤ, List, [], None, Some}
use Rattle.clk_num.specs.Operations.{DataValue}
use Rattle.ir_core.specs.declared.names.FuncName.{FuncName}
use Rattle.ir_core.specs.Module.{Function, Module}
use Rattle.ir_core.specs.Lookup.{find_function, param_types}
use Rattle.ir_semantics.specs.Values.{Memory, values_for}
use Rattle.ir_semantics.specs.Machine.{World}
use Rattle.ir_semantics.specs.Runs.{outcome}
use Rattle.host_script.specs.declared.script.Script.{Script}
use Rattle.host_script.specs.Script.{replies_of}
use Rattle.interp.specs.declared.outcome.Outcome.{Outcome}
use Rattle.interp.specs.Entries.{entry_values}
use Rattle.interp.specs.Outcome.{outcome_of}
use Rattle.interp_run.specs.declared.run.RunErr.{RunErr}
use Rattle.interp_run.specs.declared.run.RunErr.TheVariants as err

-- the world in which a run begins
abbrev pub first_world : Script → Memory → World
first_world script memory = record { memory = memory; replies = replies_of script; events = [] }

-- the outcome, after so many steps, of the entry call of the name with the values that the numbers are
abbrev pub IsRunOf : Module → FuncName → List ℤ → Script → Memory → ℕ → Outcome → Type 0
IsRunOf m entry numbers script memory steps o =
    (args : List DataValue) × (entry_values m entry numbers ≡ Some args)
    × (outcome_of o ≡ outcome m entry args (first_world script memory) steps)

-- no function has the name; or one has it, and the numbers are not as many as its parameters or one is no value of its
-- parameter's type; or memory ran out
abbrev pub IsRefusal : Module → FuncName → List ℤ → RunErr → Type 0
IsRefusal m entry numbers err.NoEntry = find_function entry m ≡ None
IsRefusal m entry numbers err.BadArgs =
    (f : Function) × (find_function entry m ≡ Some f) × (values_for (param_types f.sig.params) numbers ≡ None)
IsRefusal m entry numbers err.NoMemory = ⊤
