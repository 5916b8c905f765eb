-- What is left of the stretches of a text that are printed.
use Rattle.std.specs.Prelude.{ℕ, List, flat_map}
use Rattle.ir_core.specs.Edits.{Body}
use Rattle.clif_read.specs.declared.raw.RawFunction.{RawFunction}
use Rattle.clif_read.specs.declared.raw.RawModule.{RawModule}
use Rattle.clif_read.specs.Texts.{IsModuleText}
use Rattle.read_workers.specs.Ranges.{AreFunctions}
use Rattle.canonical_text.specs.declared.stretches.Stretch.{Stretch}
use Rattle.canonical_text.specs.Printed.{ArePrinted}

-- the heads of all stretches, and their text
abbrev pub heads_in : List Stretch → List Body
heads_in stretches = flat_map (λ s. s.heads.items) stretches

abbrev pub text_in : List Stretch → List ℕ
text_in stretches = flat_map (λ s. s.text.items) stretches

-- between two places of the text stand functions of which this is left, and nothing else
abbrev pub PrintedOfRange : List ℕ → ℕ → ℕ → List Stretch → Type 0
PrintedOfRange text from to stretches =
    (rs : List RawFunction) × AreFunctions text from to rs × ArePrinted rs (heads_in stretches) (text_in stretches)

-- the text is a raw module of whose functions this is left
abbrev pub PrintedOfText : List ℕ → List Stretch → Type 0
PrintedOfText text stretches =
    (raw : RawModule) × IsModuleText text raw × ArePrinted raw.functions (heads_in stretches) (text_in stretches)
