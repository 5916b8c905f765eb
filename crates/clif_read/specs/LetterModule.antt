-- A module whose blocks have lines by the letter of the EBNF:
-- function = "function" name signature "{" { decl } block { block } "}"
-- block = blockN [ "(" [ bparam { "," bparam } ] ")" ] [ "cold" ] ":" { line }
use Rattle.std.specs.Prelude.{[], ◌∷◌, map}
use Rattle.grammar.specs.Rules.{Rule, Opt, Many, Tree}
use Rattle.clif_words.specs.Terminals.{◌then◌, header, function_word, left_brace, right_brace, colon, block, cold}
use Rattle.token_reader.specs.Reading.{name}
use Rattle.token_reader.specs.Values.{perhaps}
use Rattle.clif_read.specs.declared.raw.RawBlock.{RawBlock}
use Rattle.clif_read.specs.declared.raw.RawFunction.{RawFunction}
use Rattle.clif_read.specs.declared.raw.RawModule.{RawModule}
use Rattle.clif_read.specs.ModuleGrammar.{block_params, func_name, signature, decl}
use Rattle.clif_read.specs.DeclarationValues.{func_name_value, signature_value, decl_value}
use Rattle.clif_read.specs.ModuleValues.{block_params_value, is_cold}
use Rattle.clif_read.specs.LetterLines.{letter_lines, letter_lines_value}

abbrev pub letter_block : Rule
letter_block = block then Opt block_params then Opt cold then colon then letter_lines

abbrev pub letter_function : Rule
letter_function =
    function_word then func_name then signature then left_brace then Many decl then letter_block then Many letter_block
    then right_brace

abbrev pub letter_module : Rule
letter_module = Many header then Many letter_function

abbrev pub letter_block_value : Tree letter_block → RawBlock
letter_block_value v =
    record {
      block = name v.0;
      params = perhaps [] block_params_value v.1.0;
      cold = is_cold v.1.1.0;
      lines = letter_lines_value v.1.1.1.1;
    }

abbrev pub letter_function_value : Tree letter_function → RawFunction
letter_function_value v = record {
  spot = v.0.spot;
  name = func_name_value v.1.0;
  signature = signature_value v.1.1.0;
  decls = map decl_value v.1.1.1.1.0;
  blocks = letter_block_value v.1.1.1.1.1.0 ∷ map letter_block_value v.1.1.1.1.1.1.0;
  end_spot = v.1.1.1.1.1.1.1.spot;
}

abbrev pub letter_module_value : Tree letter_module → RawModule
letter_module_value v = record { headers = map (λ x. x.spot) v.0; functions = map letter_function_value v.1 }
