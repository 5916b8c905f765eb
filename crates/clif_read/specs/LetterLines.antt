-- The lines of a block by the letter of the EBNF, where an instruction has the values of a `return`:
-- line = [ Srcloc ] vN Arrow vN
--      | [ Srcloc ] [ "<" tag { "," tag } ">" ] [ vN { "," vN } "=" ] inst
use Rattle.std.specs.Prelude.{ℕ, List, [], map, Option, Some, None}
use Rattle.grammar.specs.Rules.{Rule, Opt, Many, Tree}
use Rattle.token_reader.specs.declared.raw.RawName.{RawName}
use Rattle.clif_words.specs.Terminals.{◌then◌, ◌or◌, srcloc, value, arrow, equals}
use Rattle.token_reader.specs.Grammar.{commas}
use Rattle.clif_insts.specs.Grammar.{whole_inst}
use Rattle.token_reader.specs.Reading.{name}
use Rattle.token_reader.specs.Values.{◌otherwise◌, perhaps, commas_value}
use Rattle.clif_insts.specs.InstValues.{whole_value}
use Rattle.clif_read.specs.declared.raw.RawTag.{RawTag}
use Rattle.clif_read.specs.declared.raw.RawLine.{RawLine}
use Rattle.clif_read.specs.declared.raw.RawLine.TheVariants as raw_lines
use Rattle.clif_read.specs.ModuleGrammar.{debug_tags}
use Rattle.clif_read.specs.LineValues.{debug_tags_value}

abbrev pub results : Rule
results = commas value then equals

abbrev pub alias_line : Rule
alias_line = Opt srcloc then value then arrow then value

abbrev pub inst_line : Rule
inst_line = Opt srcloc then Opt debug_tags then Opt results then whole_inst

abbrev pub letter_line : Rule
letter_line = alias_line or inst_line

abbrev pub letter_lines : Rule
letter_lines = Many letter_line

-- where a location stands
abbrev pub location : Tree (Opt srcloc) → Option ℕ
location = perhaps None (λ x. Some x.spot)

abbrev pub results_value : Tree (Opt results) → List RawName
results_value = perhaps [] (λ v. commas_value value name v.0)

abbrev pub tags_value : Tree (Opt debug_tags) → List RawTag
tags_value = perhaps [] debug_tags_value

abbrev pub alias_line_value : Tree alias_line → RawLine
alias_line_value v = raw_lines.Alias (location v.0) (name v.1.0) (name v.1.1.1)

abbrev pub inst_line_value : Tree inst_line → RawLine
inst_line_value v = raw_lines.Inst (location v.0) (tags_value v.1.0) (results_value v.1.1.0) (whole_value v.1.1.1)

abbrev pub letter_line_value : Tree letter_line → RawLine
letter_line_value = alias_line_value otherwise inst_line_value

abbrev pub letter_lines_value : Tree letter_lines → List RawLine
letter_lines_value = map letter_line_value
