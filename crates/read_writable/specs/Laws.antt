-- What a text is read as is writable: it has a text that reads as it again.
use Rattle.std.specs.Prelude.{ℕ, List}
use Rattle.ir_core.specs.Module.{Module}
use Rattle.ir_text.specs.Writable.{Writable}
use Rattle.clif_read.specs.Formed.{IsFormed}
use Rattle.clif_read.specs.declared.raw.RawModule.{RawModule}
use Rattle.clif_names.specs.Faults.{NoFault}
use Rattle.clif_meaning.specs.Meaning.{Means}
use Rattle.clif_meaning.specs.Reads.{Reads}

-- what a raw module that is formed as the grammar has it and that has no fault means is writable
abbrev pub MeantIsWritable : Type 0
MeantIsWritable = (len : ℕ) (raw : RawModule) (m : Module) → NoFault raw → IsFormed len raw → Means raw m → Writable m

-- what a text is read as is writable
abbrev pub ReadIsWritable : Type 0
ReadIsWritable = (text : List ℕ) (m : Module) → Reads text m → Writable m
