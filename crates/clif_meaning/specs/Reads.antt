-- What a text means: its tokens are one raw module, which has no fault and means the module.
use Rattle.std.specs.Prelude.{◌≡◌, ℕ, List, take, drop}
use Rattle.clif_read.specs.declared.raw.RawModule.{RawModule}
use Rattle.clif_read.specs.Texts.{IsModuleText}
use Rattle.ir_core.specs.Module.{Module}
use Rattle.ir_core.specs.WellFormed.{IsModule}
use Rattle.clif_names.specs.Faults.{NoFault}
use Rattle.clif_meaning.specs.Meaning.{Means}

-- some text is this raw module
abbrev pub FromText : RawModule → Type 0
FromText raw = (text : List ℕ) × IsModuleText text raw

-- the raw module that has one of the functions alone
abbrev pub alone : RawModule → ℕ → RawModule
alone raw i = record { headers = raw.headers; functions = take 1 (drop i raw.functions) }

abbrev pub Reads : List ℕ → Module → Type 0
Reads text m = (raw : RawModule) × IsModuleText text raw × NoFault raw × Means raw m

-- ---- laws

abbrev pub OneReading : Type 0
OneReading = (text : List ℕ) (m n : Module) → Reads text m → Reads text n → m ≡ n

abbrev pub ReadIsModule : Type 0
ReadIsModule = (text : List ℕ) (m : Module) → Reads text m → IsModule m
