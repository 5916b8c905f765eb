-- What is known of the signatures of a module and of a function.
use Rattle.std.specs.Prelude.{List}
use Rattle.ir_core.specs.Module.{Function}
use Rattle.sig_numbers.specs.declared.sigs.ModuleSigs.TheInside as modules
use Rattle.sig_numbers.specs.declared.sigs.FuncSigs.TheInside as functions
use Rattle.sig_numbers.specs.declared.sigs.OwnSigs.TheInside as owners
use Rattle.sig_numbers.specs.Tables.{Entered, AreTables}

abbrev pub module_of : modules.Inside → List Function
module_of s = s.«module».now

abbrev pub KnowsModule : modules.Inside → Type 0
KnowsModule s = AreTables (module_of s) s.tables.items

abbrev pub function_of : functions.Inside → Function
function_of s = s.func.now.function

abbrev pub KnowsFunction : functions.Inside → Type 0
KnowsFunction s = Entered (function_of s) s.entries.now

abbrev pub owner_of : owners.Inside → Function
owner_of s = s.func.now.function

abbrev pub KnowsOwner : owners.Inside → Type 0
KnowsOwner s = Entered (owner_of s) s.entries.items
