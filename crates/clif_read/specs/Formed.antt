-- What the grammar gives of every module of a text, whatever its words are.
use Rattle.std.specs.Prelude.{◌≢◌, ℕ, ⊤, []}
use Rattle.ir_core.specs.Lists.{Each}
use Rattle.clif_insts.specs.OfForm.{InstFormed}
use Rattle.clif_insts.specs.Marks.{MarksFormed}
use Rattle.clif_read.specs.declared.raw.RawLine.{RawLine}
use Rattle.clif_read.specs.declared.raw.RawLine.TheVariants as raw_lines
use Rattle.clif_read.specs.declared.raw.RawBlock.{RawBlock}
use Rattle.clif_read.specs.declared.raw.RawFunction.{RawFunction}
use Rattle.clif_read.specs.declared.raw.RawModule.{RawModule}
use Rattle.clif_read.specs.Marks.{module_marks}

abbrev pub LineFormed : RawLine → Type 0
LineFormed (raw_lines.Alias location alias value) = ⊤
LineFormed (raw_lines.Inst location tags results inst) = InstFormed inst

abbrev pub BlockFormed : RawBlock → Type 0
BlockFormed b = Each LineFormed b.lines

pub record FunctionFormed (f : RawFunction) : Type 0 where
  pub begins : f.blocks ≢ []
  pub blocks : Each BlockFormed f.blocks

-- A module of a text of so many bytes: in each function a block, in each instruction operands of the opcode's form,
-- numbers of 64 bits, names of name bytes, and spots that stand in the text and rise.
pub record IsFormed (len : ℕ) (m : RawModule) : Type 0 where
  pub functions : Each FunctionFormed m.functions
  pub marks : MarksFormed len (module_marks m)
