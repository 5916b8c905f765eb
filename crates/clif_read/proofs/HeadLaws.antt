-- Headers and the parameters of blocks are read as their rules of the grammar say.
use Rattle.std.proofs.Common.{ℕ, map, Ok}
use Rattle.grammar.specs.Rules.{Lexeme, Many, ◌>>=◌}
use Rattle.ir_core.specs.declared.signatures.Ty.{Ty}
use Rattle.clif_words.specs.declared.class.Class.TheVariants as classes
use Rattle.clif_words.specs.Terminals.{◌then◌, header, colon}
use Rattle.token_reader.specs.declared.raw.RawName.{RawName}
use Rattle.token_reader.specs.Grammar.{any_type}
use Rattle.token_reader.specs.Reading.{name_at}
use Rattle.token_reader.specs.Types.{type_at}
use Rattle.token_reader.specs.Values.{any_type_value}
use Rattle.token_reader.proofs.Seen.{Is, then_is, map_is, many_is, name_is}
use Rattle.token_reader.proofs.TypeLaws.{type_is, commas_is}
use Rattle.clif_insts.proofs.PartLaws.{within_is}
use Rattle.clif_read.specs.declared.raw.RawBlockParam.{RawBlockParam}
use Rattle.clif_read.specs.ModuleGrammar.{block_param, block_params}
use Rattle.clif_read.specs.ModuleValues.{block_param_value, block_params_value}
use Rattle.clif_read.specs.Heads.{header_at, headers_at, block_param_at, block_params_at}

-- ---- headers

abbrev header_value : Lexeme → ℕ
header_value x = x.spot

header_is : Is header header_value header_at
unfolding header_at
header_is = map_is (name_is classes.Header) (λ x. x.spot)

pub headers_is : Is (Many header) (map header_value) headers_at
unfolding headers_at
headers_is = map_is (many_is header_is) (λ hs. hs)

-- ---- parameters of blocks

abbrev raw_block_param : RawName → Ty → RawBlockParam
raw_block_param v t = record { value = v; ty = t }

block_param_is : Is block_param block_param_value block_param_at
unfolding block_param_at
block_param_is =
    then_is (name_is classes.Value) (colon then any_type) (λ v w. raw_block_param v (any_type_value w.1)) (λ v ts. name_at classes.Colon ts >>= λ c. type_at c.1 >>= λ t. Ok (raw_block_param v t.0, t.1))
    (λ v. then_is (name_is classes.Colon) any_type (λ c w. raw_block_param v (any_type_value w)) (λ c ts. type_at ts >>= λ t. Ok (raw_block_param v t.0, t.1))
    (λ c. map_is type_is (λ t. raw_block_param v t)))

pub block_params_is : Is block_params block_params_value block_params_at
unfolding block_params_at
block_params_is = within_is classes.LeftParen classes.RightParen (commas_is block_param_is)
