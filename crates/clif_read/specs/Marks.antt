-- What a module takes from its words, in the order of the text: names and numbers, each with its spot.
use Rattle.std.specs.Prelude.{ℕ, List, [], ◌∷◌, ◌++◌, map, Option, Some, None}
use Rattle.std.specs.List.{flat_map}
use Rattle.clif_insts.specs.Marks.{Mark, Spot, Word, Number, Name, name_marks, names_marks, number_marks, offset_marks}
use Rattle.clif_insts.specs.Marks.{inst_marks}
use Rattle.clif_read.specs.declared.raw.RawFuncName.{RawFuncName}
use Rattle.clif_read.specs.declared.raw.RawFuncName.TheVariants as names
use Rattle.clif_read.specs.declared.raw.RawCalleeSig.{RawCalleeSig}
use Rattle.clif_read.specs.declared.raw.RawCalleeSig.TheVariants as callee_sigs
use Rattle.clif_read.specs.declared.raw.RawDecl.{RawDecl}
use Rattle.clif_read.specs.declared.raw.RawDecl.TheVariants as decls
use Rattle.clif_read.specs.declared.raw.RawTag.{RawTag}
use Rattle.clif_read.specs.declared.raw.RawTag.TheVariants as tags
use Rattle.clif_read.specs.declared.raw.RawLine.{RawLine}
use Rattle.clif_read.specs.declared.raw.RawLine.TheVariants as raw_lines
use Rattle.clif_read.specs.declared.raw.RawBlockParam.{RawBlockParam}
use Rattle.clif_read.specs.declared.raw.RawBlock.{RawBlock}
use Rattle.clif_read.specs.declared.raw.RawFunction.{RawFunction}
use Rattle.clif_read.specs.declared.raw.RawModule.{RawModule}

-- the first byte of a function's name
abbrev pub name_spot : RawFuncName → ℕ
name_spot (names.Text bytes spot) = spot
name_spot (names.User space number) = space.spot

abbrev pub func_name_marks : RawFuncName → List Mark
func_name_marks (names.Text bytes spot) = Name bytes spot ∷ []
func_name_marks (names.User space number) = Word space ∷ Number number ∷ []

abbrev pub callee_sig_marks : RawCalleeSig → List Mark
callee_sig_marks (callee_sigs.Declared sig) = name_marks sig
callee_sig_marks (callee_sigs.Inline signature) = []

abbrev pub decl_marks : RawDecl → List Mark
decl_marks (decls.Slot slot size align) = Word slot ∷ Number size ∷ offset_marks align
decl_marks (decls.Sig sig signature) = name_marks sig
decl_marks (decls.Callee colocated callee sig name) = Word callee ∷ (func_name_marks name ++ callee_sig_marks sig)

abbrev pub tag_marks : RawTag → List Mark
tag_marks (tags.User n) = number_marks n
tag_marks (tags.Slot n) = name_marks n

abbrev pub location_marks : Option ℕ → List Mark
location_marks None = []
location_marks (Some spot) = Spot spot ∷ []

abbrev pub line_marks : RawLine → List Mark
line_marks (raw_lines.Alias location alias value) = location_marks location ++ (Word alias ∷ Word value ∷ [])
line_marks (raw_lines.Inst location tags results inst) =
    location_marks location ++ (flat_map tag_marks tags ++ (names_marks results ++ inst_marks inst))

abbrev pub block_param_marks : RawBlockParam → List Mark
block_param_marks param = name_marks param.value

abbrev pub block_marks : RawBlock → List Mark
block_marks b = Word b.block ∷ (flat_map block_param_marks b.params ++ flat_map line_marks b.lines)

abbrev pub function_marks : RawFunction → List Mark
function_marks f =
    Spot f.spot
    ∷ (func_name_marks f.name
    ++ (flat_map decl_marks f.decls ++ (flat_map block_marks f.blocks ++ (Spot f.end_spot ∷ []))))

abbrev pub module_marks : RawModule → List Mark
module_marks m = map Spot m.headers ++ flat_map function_marks m.functions
