-- What a caller keeps beside its function.
use Rattle.std.specs.Prelude.{◌≡◌, length, true}
use Rattle.ir_core.specs.Module.{Function}
use Rattle.body_import.specs.Imports.{IsIndexOf}
use Rattle.inline_caller.specs.declared.caller.Caller.TheInside.{Inside}

abbrev pub function_of : Inside → Function
function_of s = s.func.function

-- the number of the function's blocks, and the index of its declarations where it is marked as that
pub record IsCaller (s : Inside) : Type 0 where
  pub counted : s.block_count ≡ length (function_of s).blocks
  pub indexed : s.indexed ≡ true → IsIndexOf (function_of s) s.index
