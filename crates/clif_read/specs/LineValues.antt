-- What the trees of lines mean, one definition a rule. The values of a `return` stand behind it, and are given to it.
use Rattle.std.specs.Prelude.{ℕ, List, [], ◌∷◌, map, Option, Some, None, ◌⊎◌}
use Rattle.grammar.specs.Rules.{Opt, Many, Tree}
use Rattle.clif_words.specs.declared.class.Class.TheVariants as classes
use Rattle.token_reader.specs.declared.raw.RawName.{RawName}
use Rattle.clif_insts.specs.declared.raw.RawInst.{RawInst}
use Rattle.clif_insts.specs.declared.raw.RawOperands.TheVariants as operands
use Rattle.clif_words.specs.Terminals.{◌then◌, ◌or◌, comma, arrow, value}
use Rattle.token_reader.specs.Grammar.{commas}
use Rattle.clif_insts.specs.Grammar.{inst}
use Rattle.token_reader.specs.Reading.{name}
use Rattle.token_reader.specs.Values.{◌otherwise◌, perhaps, commas_value, number_value}
use Rattle.clif_insts.specs.InstValues.{raw, inst_value}
use Rattle.clif_read.specs.declared.raw.RawTag.{RawTag}
use Rattle.clif_read.specs.declared.raw.RawTag.TheVariants as tag_kinds
use Rattle.clif_read.specs.declared.raw.RawLine.{RawLine}
use Rattle.clif_read.specs.declared.raw.RawLine.TheVariants as raw_lines
use Rattle.clif_read.specs.ModuleGrammar.{debug_tag, debug_tags, made, named, named_or_values, tagged, located}
use Rattle.clif_read.specs.ModuleGrammar.{other_line, line, line_or_values, lines}

-- what stands where a line may begin: a line, or behind a `return` its values
pub data LinePart : Type 0 where
  Whole : RawLine → LinePart
  Values : List RawName → LinePart

abbrev pub made_value : Tree made → RawInst
made_value v = inst_value [] v.1

abbrev pub debug_tag_value : Tree debug_tag → RawTag
debug_tag_value = (λ v. tag_kinds.User (number_value v)) otherwise (λ x. tag_kinds.Slot (name x))

abbrev pub debug_tags_value : Tree debug_tags → List RawTag
debug_tags_value v = commas_value debug_tag debug_tag_value v.1.0

-- the first of some values, and the others
abbrev pub values_from : RawName → Tree (Many (comma then value)) → List RawName
values_from first v = first ∷ map (λ x. name x.1) v

-- what stands behind a first value
abbrev pub named_by : Option ℕ → RawName → Tree ((arrow then value) or (Many (comma then value) then made)) → RawLine
named_by location first =
    (λ v. raw_lines.Alias location first (name v.1))
    otherwise (λ v. raw_lines.Inst location [] (values_from first v.0) (made_value v.1))

abbrev pub named_value : Option ℕ → Tree named → RawLine
named_value location v = named_by location (name v.0) v.1

-- an instruction behind its tags, with results or without
abbrev pub tagged_by : Option ℕ → List RawTag → Tree ((commas value then made) or inst (classes.Value ∷ [])) → RawLine
tagged_by location tags =
    (λ v. raw_lines.Inst location tags (commas_value value name v.0) (made_value v.1))
    otherwise (λ v. raw_lines.Inst location tags [] (inst_value (classes.Value ∷ []) v))

abbrev pub tagged_value : Option ℕ → Tree tagged → RawLine
tagged_value location v = tagged_by location (debug_tags_value v.0) v.1

abbrev pub located_value : ℕ → Tree located → RawLine
located_value spot =
    named_value (Some spot) otherwise tagged_value (Some spot)
    otherwise (λ v. raw_lines.Inst (Some spot) [] [] (inst_value (classes.Value ∷ []) v))

abbrev pub other_line_value : Tree other_line → RawLine
other_line_value =
    tagged_value None otherwise (λ v. located_value v.0.spot v.1)
    otherwise (λ v. raw_lines.Inst None [] [] (inst_value (classes.Value ∷ classes.Block ∷ []) v))

abbrev pub line_value : Tree line → LinePart
line_value = (λ v. Whole (named_value None v)) otherwise (λ v. Whole (other_line_value v))

-- values, and perhaps the instruction of which they are the results
abbrev pub values_by : List RawName → Tree (Opt made) → LinePart
values_by values = perhaps (Values values) (λ v. Whole (raw_lines.Inst None [] values (made_value v)))

abbrev pub named_or_values_by : RawName → Tree ((arrow then value) or (Many (comma then value) then Opt made))
    → LinePart
named_or_values_by first =
    (λ v. Whole (raw_lines.Alias None first (name v.1))) otherwise (λ v. values_by (values_from first v.0) v.1)

abbrev pub named_or_values_value : Tree named_or_values → LinePart
named_or_values_value v = named_or_values_by (name v.0) v.1

abbrev pub line_or_values_value : Tree line_or_values → LinePart
line_or_values_value = named_or_values_value otherwise (λ v. Whole (other_line_value v))

-- a line with these values; only a `return` has such
abbrev pub with_values : List RawName → RawLine → RawLine
with_values values (raw_lines.Inst location tags results i) =
    raw_lines.Inst location tags results (raw i.opcode i.suffix (operands.Return values))
with_values values (raw_lines.Alias location alias x) = raw_lines.Alias location alias x

-- a line, and what stands behind it: values are given to it
abbrev pub lines_from : RawLine → List LinePart → List RawLine
lines_from l [] = l ∷ []
lines_from l (Values values ∷ more) = lines_from (with_values values l) more
lines_from l (Whole next ∷ more) = l ∷ lines_from next more

-- what a block's parts are; no values stand before the first line
abbrev pub lines_of_parts : List LinePart → List RawLine
lines_of_parts [] = []
lines_of_parts (Whole l ∷ more) = lines_from l more
lines_of_parts (Values values ∷ more) = lines_of_parts more

abbrev pub part_value : Tree line ⊎ Tree line_or_values → LinePart
part_value = line_value otherwise line_or_values_value

abbrev pub lines_value : Tree lines → List RawLine
lines_value v = lines_of_parts (map part_value v)
