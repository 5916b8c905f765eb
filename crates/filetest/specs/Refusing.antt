-- Why a text is refused, as the parts of the code tell of it.
use Rattle.std.specs.Prelude.{◌≡◌, ⊤, Bool, true, false}
use Rattle.clif_lex.specs.declared.faults.TextErr.{TextErr}
use Rattle.clif_lex.specs.declared.faults.TextErr.TheVariants as text_err
use Rattle.clif_read.specs.declared.raw.RawModule.{RawModule}
use Rattle.clif_check.specs.Faults.{FirstOfRaw}
use Rattle.interp_run.specs.declared.run.RunErr.{RunErr}
use Rattle.interp_run.specs.declared.run.RunErr.TheVariants as run_err
use Rattle.test_directives.specs.declared.tests.DirectiveErr.{DirectiveErr}
use Rattle.test_directives.specs.declared.tests.DirectiveErr.TheVariants as directive_err
use Rattle.filetest.specs.declared.testing.TestErr.{TestErr}
use Rattle.filetest.specs.declared.testing.TestErr.TheVariants as err

abbrev pub of_text_err : TextErr → TestErr
of_text_err (text_err.Fault k spot) = err.Text k spot
of_text_err text_err.NoMemory = err.NoMemory

abbrev pub of_directive_err : DirectiveErr → TestErr
of_directive_err (directive_err.BadDirective line) = err.BadDirective line
of_directive_err directive_err.NoMemory = err.NoMemory

-- a module is needed, and the raw module has this first fault; memory may run out at any time
abbrev pub IsCheckRefusal : Bool → RawModule → TestErr → Type 0
IsCheckRefusal needed raw (err.Text k spot) = (needed ≡ true) × FirstOfRaw raw k spot
IsCheckRefusal needed raw (err.BadDirective line) = ⊥
IsCheckRefusal needed raw err.NoMemory = ⊤

-- a run is refused by what is called, and not for want of memory
abbrev pub is_of_call : RunErr → Bool
is_of_call run_err.NoEntry = true
is_of_call run_err.BadArgs = true
is_of_call run_err.NoMemory = false
