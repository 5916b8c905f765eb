-- Signatures are read as their rule of the grammar says.
use Rattle.std.proofs.Common.{List, [], Option, Some, None, Ok}
use Rattle.grammar.specs.Rules.{Lexeme, Rule, Opt, Tree, Out, ◌>>=◌}
use Rattle.ir_core.specs.declared.signatures.Ty.{Ty}
use Rattle.ir_core.specs.declared.signatures.Conv.{Conv}
use Rattle.ir_core.specs.declared.signatures.Conv.TheVariants as convs
use Rattle.clif_words.specs.declared.class.Class.TheVariants as classes
use Rattle.clif_words.specs.Terminals.{◌then◌, ◌or◌, right_paren, arrow, ext}
use Rattle.token_reader.specs.Reading.{name_at}
use Rattle.token_reader.specs.Values.{perhaps}
use Rattle.token_reader.proofs.Seen.{Is, then_is, map_is, opt_is, alt_is, name_is}
use Rattle.token_reader.proofs.TypeLaws.{type_is, commas_is}
use Rattle.clif_read.specs.declared.raw.RawAttribute.{RawAttribute}
use Rattle.clif_read.specs.declared.raw.RawParam.{RawParam}
use Rattle.clif_read.specs.declared.raw.RawSignature.{RawSignature}
use Rattle.clif_read.specs.ModuleGrammar.{purpose, param, params, convention, signature}
use Rattle.clif_read.specs.DeclarationValues.{attributes_value, param_value, params_value, convention_of, convention_value, signature_value}
use Rattle.clif_read.specs.Attributes.{attributes_at}
use Rattle.clif_read.specs.Signatures.{param_at, params_at, opt_params_at, results_at, opt_results_at, convention_at, opt_convention_at, signature_at}
use Rattle.clif_read.proofs.AttributeLaws.{attributes_is}

-- ---- parameters

abbrev raw_param : Ty → List RawAttribute → RawParam
raw_param t a = record { ty = t; attributes = a }

pub param_is : Is param param_value param_at
unfolding param_at
param_is =
    then_is type_is (Opt ((ext then Opt purpose) or (purpose then Opt ext))) (λ t v. raw_param t (perhaps [] attributes_value v))
    (λ t ts. attributes_at ts >>= λ a. Ok (raw_param t a.0, a.1)) (λ t. map_is attributes_is (raw_param t))

params_is : Is params params_value params_at
params_is = commas_is param_is

opt_params_is : Is (Opt params) (perhaps [] params_value) opt_params_at
unfolding opt_params_at
opt_params_is = opt_is params_is []

results_is : Is (arrow then params) (λ v. params_value v.1) results_at
unfolding results_at
results_is = then_is (name_is classes.Arrow) params (λ a v. params_value v) (λ a. params_at) (λ a. params_is)

opt_results_is : Is (Opt (arrow then params)) (perhaps [] (λ v. params_value v.1)) opt_results_at
unfolding opt_results_at
opt_results_is = opt_is results_is []

-- ---- conventions and signatures

convention_is : Is convention convention_value convention_at
unfolding convention_at
convention_is = alt_is (map_is (name_is classes.Conv) (λ x. convention_of x.number)) (map_is (name_is classes.Cold) (λ x. convs.Cold))

opt_convention_is : Is (Opt convention) (perhaps None (λ v. Some (convention_value v))) opt_convention_at
unfolding opt_convention_at
opt_convention_is = opt_is (map_is convention_is Some) None

abbrev raw_signature : List RawParam → List RawParam → Option Conv → RawSignature
raw_signature ps rs c = record { params = ps; results = rs; conv = c }

-- a signature behind its parameters
abbrev behind_params : Rule
behind_params = right_paren then Opt (arrow then params) then Opt convention

abbrev with_params : List RawParam → Tree behind_params → RawSignature
with_params ps v = raw_signature ps (perhaps [] (λ w. params_value w.1) v.1.0) (perhaps None (λ w. Some (convention_value w)) v.1.1)

abbrev behind_params_at : List RawParam → List Lexeme → Out RawSignature
behind_params_at ps ts = name_at classes.RightParen ts >>= λ r. opt_results_at r.1 >>= λ rs. opt_convention_at rs.1 >>= λ c. Ok (raw_signature ps rs.0 c.0, c.1)

behind_params_is : (ps : List RawParam) → Is behind_params (with_params ps) (behind_params_at ps)
behind_params_is ps =
    then_is (name_is classes.RightParen) (Opt (arrow then params) then Opt convention) (λ r v. raw_signature ps (perhaps [] (λ w. params_value w.1) v.0) (perhaps None (λ w. Some (convention_value w)) v.1))
    (λ r ts. opt_results_at ts >>= λ rs. opt_convention_at rs.1 >>= λ c. Ok (raw_signature ps rs.0 c.0, c.1))
    (λ r. then_is opt_results_is (Opt convention) (λ rs v. raw_signature ps rs (perhaps None (λ w. Some (convention_value w)) v))
    (λ rs ts. opt_convention_at ts >>= λ c. Ok (raw_signature ps rs c.0, c.1))
    (λ rs. map_is opt_convention_is (λ c. raw_signature ps rs c)))

pub signature_is : Is signature signature_value signature_at
unfolding signature_at
signature_is =
    then_is (name_is classes.LeftParen) (Opt params then behind_params) (λ l v. with_params (perhaps [] params_value v.0) v.1)
    (λ l ts. opt_params_at ts >>= λ ps. behind_params_at ps.0 ps.1)
    (λ l. then_is opt_params_is behind_params with_params behind_params_at behind_params_is)
