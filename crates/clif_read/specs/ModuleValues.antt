-- What the trees of blocks, functions and modules mean, one definition a rule.
use Rattle.std.specs.Prelude.{List, [], ◌∷◌, map, Bool, true, false}
use Rattle.grammar.specs.Rules.{Opt, Tree}
use Rattle.clif_words.specs.Terminals.{cold}
use Rattle.token_reader.specs.Reading.{name}
use Rattle.token_reader.specs.Values.{perhaps, commas_value, any_type_value}
use Rattle.clif_read.specs.declared.raw.RawBlockParam.{RawBlockParam}
use Rattle.clif_read.specs.declared.raw.RawBlock.{RawBlock}
use Rattle.clif_read.specs.declared.raw.RawFunction.{RawFunction}
use Rattle.clif_read.specs.declared.raw.RawModule.{RawModule}
use Rattle.clif_read.specs.ModuleGrammar.{block_param, block_params, block_rule, function, module_rule}
use Rattle.clif_read.specs.DeclarationValues.{func_name_value, signature_value, decl_value}
use Rattle.clif_read.specs.LineValues.{lines_value}

abbrev pub block_param_value : Tree block_param → RawBlockParam
block_param_value v = record { value = name v.0; ty = any_type_value v.1.1 }

abbrev pub block_params_value : Tree block_params → List RawBlockParam
block_params_value v = perhaps [] (commas_value block_param block_param_value) v.1.0

abbrev pub is_cold : Tree (Opt cold) → Bool
is_cold = perhaps false (λ x. true)

abbrev pub block_value : Tree block_rule → RawBlock
block_value v =
    record {
      block = name v.0;
      params = perhaps [] block_params_value v.1.0;
      cold = is_cold v.1.1.0;
      lines = lines_value v.1.1.1.1;
    }

abbrev pub function_value : Tree function → RawFunction
function_value v = record {
  spot = v.0.spot;
  name = func_name_value v.1.0;
  signature = signature_value v.1.1.0;
  decls = map decl_value v.1.1.1.1.0;
  blocks = block_value v.1.1.1.1.1.0 ∷ map block_value v.1.1.1.1.1.1.0;
  end_spot = v.1.1.1.1.1.1.1.spot;
}

abbrev pub module_value : Tree module_rule → RawModule
module_value v = record { headers = map (λ x. x.spot) v.0; functions = map function_value v.1 }
