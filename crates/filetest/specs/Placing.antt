-- Where the functions of runs stand in a module.
use Rattle.std.specs.Prelude.{◌≡◌, List, slice_get, All}
use Rattle.ir_core.specs.Module.{Module}
use Rattle.test_directives.specs.declared.tests.FunctionTests.{FunctionTests}
use Rattle.test_directives.specs.declared.tests.RunTest.{RunTest}
use Rattle.filetest.specs.Checks.{function_spelled}

-- the place is that of the function that the run names
abbrev pub IsPlacedIn : Module → RunTest → Type 0
IsPlacedIn m t = slice_get m t.func ≡ function_spelled t.name m

abbrev pub ArePlaced : Module → List FunctionTests → Type 0
ArePlaced m ts = All (λ t. All (IsPlacedIn m) t.runs.items) ts
