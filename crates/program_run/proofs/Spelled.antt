-- Runs by the spelling of the entry's name.
use Rattle.std.proofs.Common.{◌≡◌, ℕ, ℤ, List, Some, None, Result, Ok, Err, IfOk, IfErr, sym, ◌∙◌}
use Rattle.ir_core.specs.declared.names.FuncName.{FuncName}
use Rattle.ir_core.specs.Module.{Function, Module}
use Rattle.ir_semantics.specs.Values.{Memory}
use Rattle.host_script.specs.declared.script.Script.{Script}
use Rattle.interp.specs.declared.outcome.Outcome.{Outcome}
use Rattle.interp_run.specs.Answers.{IsRunOf, IsRefusal}
use Rattle.interp_run.specs.declared.run.RunErr.{RunErr}
use Rattle.interp_run.specs.declared.run.RunErr.TheVariants as err
use Rattle.program_run.specs.EntryName.{IsSpelledEntry, IsRunOfSpelled, IsRefusalOfSpelled}

pub run_of_spelled : (m : Module) (text : List ℕ) (numbers : List ℤ) (script : Script) (memory : Memory) (steps : ℕ) (name : FuncName) (r : Result Outcome RunErr) → IsSpelledEntry m text name → IfOk r (IsRunOf m name numbers script memory steps) → IfOk r (IsRunOfSpelled m text numbers script memory steps)
run_of_spelled m text numbers script memory steps name (Ok o) s h = (name, s, h)
run_of_spelled m text numbers script memory steps name (Err e) s h = tt

-- a function has the name, so its lack is no cause
pub refusal_of_spelled : (m : Module) (text : List ℕ) (numbers : List ℤ) (name : FuncName) (r : Result Outcome RunErr) → IsSpelledEntry m text name → IfErr r (IsRefusal m name numbers) → IfErr r (IsRefusalOfSpelled m text numbers)
refusal_of_spelled m text numbers name (Ok o) s h = tt
refusal_of_spelled m text numbers name (Err err.NoEntry) s h =
    let f : Function = s.1.0 in
    let q : None ≡ Some f = sym h ∙ s.1.1 in
    absurd cc
refusal_of_spelled m text numbers name (Err err.BadArgs) s h = (name, s, h)
refusal_of_spelled m text numbers name (Err err.NoMemory) s h = tt
