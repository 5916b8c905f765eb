-- The canonical text of a module is read as its raw module, and as nothing else, but for the spots.
use Rattle.std.specs.Prelude.{◌≡◌, List, ℕ}
use Rattle.ir_core.specs.Module.{Module}
use Rattle.ir_text.specs.Text.{text_of}
use Rattle.clif_read.specs.Texts.{IsModuleText}
use Rattle.clif_read.specs.declared.raw.RawModule.{RawModule}
use Rattle.text_read_back.specs.Bare.{bare_module}
use Rattle.text_read_back.specs.RawOf.{raw_of}

-- a text is one raw module, and this is what it says
pub record Says (text : List ℕ) (m : RawModule) : Type 0 where
  pub raw : RawModule
  pub is : IsModuleText text raw
  pub says : bare_module raw ≡ m
  pub only : (other : RawModule) → IsModuleText text other → other ≡ raw

abbrev pub ReadsBack : Module → Type 0
ReadsBack m = Says (text_of m) (raw_of m)
