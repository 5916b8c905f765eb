-- What a raw function defines, in order of the text: slots, signatures, callees, blocks and values. A value is defined
-- by a parameter of a block, as a result of an instruction, or by an alias line.
use Rattle.std.specs.Prelude.{List, [], ◌∷◌, ◌++◌, None, Some, map, flat_map}
use Rattle.token_reader.specs.declared.raw.RawName.{RawName}
use Rattle.name_tables.specs.declared.firsts.Def.{Def}
use Rattle.clif_read.specs.declared.raw.RawBlockParam.{RawBlockParam}
use Rattle.clif_read.specs.declared.raw.RawLine.{RawLine}
use Rattle.clif_read.specs.declared.raw.RawLine.TheVariants as line
use Rattle.clif_read.specs.declared.raw.RawBlock.{RawBlock}
use Rattle.clif_read.specs.declared.raw.RawDecl.{RawDecl}
use Rattle.clif_read.specs.declared.raw.RawDecl.TheVariants as decl
use Rattle.clif_read.specs.declared.raw.RawFunction.{RawFunction}

-- the kinds of words that a function defines
pub data Kind : Type 0 where
  Slots : Kind
  Sigs : Kind
  Callees : Kind
  Blocks : Kind
  Values : Kind

abbrev pub all_kinds : List Kind
all_kinds = Slots ∷ Sigs ∷ Callees ∷ Blocks ∷ Values ∷ []

-- ---- declarations

abbrev pub slot_names : RawDecl → List RawName
slot_names (decl.Slot n size align) = n ∷ []
slot_names (decl.Sig n signature) = []
slot_names (decl.Callee colocated n sig name) = []

abbrev pub sig_names : RawDecl → List RawName
sig_names (decl.Slot n size align) = []
sig_names (decl.Sig n signature) = n ∷ []
sig_names (decl.Callee colocated n sig name) = []

abbrev pub callee_names : RawDecl → List RawName
callee_names (decl.Slot n size align) = []
callee_names (decl.Sig n signature) = []
callee_names (decl.Callee colocated n sig name) = n ∷ []

-- ---- values

abbrev pub value_def : RawName → Def
value_def n = record { name = n; target = None }

-- a parameter of a block, or a line
pub data Step : Type 0 where
  Param : RawBlockParam → Step
  Line : RawLine → Step

abbrev pub line_defs : RawLine → List Def
line_defs (line.Alias location n m) = record { name = n; target = Some m } ∷ []
line_defs (line.Inst location tags results inst) = map value_def results

abbrev pub param_defs : RawBlockParam → List Def
param_defs p = value_def p.value ∷ []

abbrev pub step_defs : Step → List Def
step_defs (Param p) = param_defs p
step_defs (Line l) = line_defs l

abbrev pub block_steps : RawBlock → List Step
block_steps b = map Param b.params ++ map Line b.lines

abbrev pub steps : RawFunction → List Step
steps f = flat_map block_steps f.blocks

abbrev pub defs_of : List Step → List Def
defs_of ss = flat_map step_defs ss

abbrev pub value_defs : RawFunction → List Def
value_defs f = defs_of (steps f)

abbrev pub names_of : List Def → List RawName
names_of ds = map (λ d. d.name) ds

-- ---- all kinds

abbrev pub definitions : RawFunction → Kind → List RawName
definitions f Slots = flat_map slot_names f.decls
definitions f Sigs = flat_map sig_names f.decls
definitions f Callees = flat_map callee_names f.decls
definitions f Blocks = map (λ b. b.block) f.blocks
definitions f Values = names_of (value_defs f)

abbrev pub lines : RawFunction → List RawLine
lines f = flat_map (λ b. b.lines) f.blocks
