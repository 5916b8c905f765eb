-- Blocks, functions and modules are read as the grammar says.
use Rattle.std.proofs.Common.{ℕ, Bool, true, false, List, [], ◌∷◌, ◌++◌, map, Ok}
use Rattle.grammar.specs.Rules.{Opt, Many, ◌>>=◌}
use Rattle.clif_words.specs.declared.class.Class.TheVariants as classes
use Rattle.clif_words.specs.Terminals.{◌then◌, left_brace, right_brace, colon, cold}
use Rattle.token_reader.specs.declared.raw.RawName.{RawName}
use Rattle.token_reader.specs.Reading.{name_at}
use Rattle.token_reader.specs.Values.{perhaps}
use Rattle.token_reader.proofs.Seen.{Is, then_is, map_is, opt_is, many_is, name_is}
use Rattle.clif_read.specs.declared.raw.RawFuncName.{RawFuncName}
use Rattle.clif_read.specs.declared.raw.RawSignature.{RawSignature}
use Rattle.clif_read.specs.declared.raw.RawDecl.{RawDecl}
use Rattle.clif_read.specs.declared.raw.RawLine.{RawLine}
use Rattle.clif_read.specs.declared.raw.RawBlockParam.{RawBlockParam}
use Rattle.clif_read.specs.declared.raw.RawBlock.{RawBlock}
use Rattle.clif_read.specs.declared.raw.RawFunction.{RawFunction}
use Rattle.clif_read.specs.declared.raw.RawModule.{RawModule}
use Rattle.clif_read.specs.ModuleGrammar.{func_name, signature, decl, lines, block_params, block_rule, function, module_rule}
use Rattle.clif_read.specs.DeclarationValues.{func_name_value, signature_value, decl_value}
use Rattle.clif_read.specs.LineValues.{lines_value}
use Rattle.clif_read.specs.ModuleValues.{block_params_value, is_cold, block_value, function_value, module_value}
use Rattle.clif_read.specs.Signatures.{signature_at}
use Rattle.clif_read.specs.Declarations.{func_name_at, decls_at}
use Rattle.clif_read.specs.Lines.{lines_at}
use Rattle.clif_read.specs.Modules.{opt_block_params_at, opt_cold_at, block_at, more_blocks_at, function_at, functions_at, module_at}
use Rattle.clif_read.proofs.SignatureLaws.{signature_is}
use Rattle.clif_read.proofs.DeclarationLaws.{func_name_is, decls_is}
use Rattle.clif_read.proofs.HeadLaws.{headers_is, block_params_is}
use Rattle.clif_read.proofs.LineLaws.{lines_is}

opt_block_params_is : Is (Opt block_params) (perhaps [] block_params_value) opt_block_params_at
unfolding opt_block_params_at
opt_block_params_is = opt_is block_params_is []

opt_cold_is : Is (Opt cold) is_cold opt_cold_at
unfolding opt_cold_at
opt_cold_is = opt_is (map_is (name_is classes.Cold) (λ c. true)) false

abbrev raw_block : RawName → List RawBlockParam → Bool → List RawLine → RawBlock
raw_block block params cold lines = record { block = block; params = params; cold = cold; lines = lines }

block_is : Is block_rule block_value block_at
unfolding block_at
block_is =
    then_is (name_is classes.Block) (Opt block_params then Opt cold then colon then lines) (λ b v. raw_block b (perhaps [] block_params_value v.0) (is_cold v.1.0) (lines_value v.1.1.1))
    (λ b ts. opt_block_params_at ts >>= λ ps. opt_cold_at ps.1 >>= λ c. name_at classes.Colon c.1 >>= λ k. lines_at k.1 >>= λ ls. Ok (raw_block b ps.0 c.0 ls.0, ls.1))
    (λ b. then_is opt_block_params_is (Opt cold then colon then lines) (λ ps v. raw_block b ps (is_cold v.0) (lines_value v.1.1))
    (λ ps ts. opt_cold_at ts >>= λ c. name_at classes.Colon c.1 >>= λ k. lines_at k.1 >>= λ ls. Ok (raw_block b ps c.0 ls.0, ls.1))
    (λ ps. then_is opt_cold_is (colon then lines) (λ c v. raw_block b ps c (lines_value v.1)) (λ c ts. name_at classes.Colon ts >>= λ k. lines_at k.1 >>= λ ls. Ok (raw_block b ps c ls.0, ls.1))
    (λ c. then_is (name_is classes.Colon) lines (λ k v. raw_block b ps c (lines_value v)) (λ k ts. lines_at ts >>= λ ls. Ok (raw_block b ps c ls.0, ls.1))
    (λ k. map_is lines_is (raw_block b ps c)))))

more_blocks_is : (front : List RawBlock) → Is (Many block_rule) (λ vs. front ++ map block_value vs) (more_blocks_at front)
unfolding more_blocks_at
more_blocks_is front = map_is (many_is block_is) (λ vs. front ++ vs)

abbrev raw_function : ℕ → RawFuncName → RawSignature → List RawDecl → List RawBlock → ℕ → RawFunction
raw_function spot called sig ds bs end_spot = record { spot = spot; name = called; signature = sig; decls = ds; blocks = bs; end_spot = end_spot }

pub function_is : Is function function_value function_at
unfolding function_at
function_is =
    then_is (name_is classes.Function) (func_name then signature then left_brace then Many decl then block_rule then Many block_rule then right_brace) (λ word v. raw_function word.spot (func_name_value v.0) (signature_value v.1.0) (map decl_value v.1.1.1.0) (block_value v.1.1.1.1.0 ∷ map block_value v.1.1.1.1.1.0) v.1.1.1.1.1.1.spot)
    (λ word ts. func_name_at ts >>= λ called. signature_at called.1 >>= λ sig. name_at classes.LeftBrace sig.1 >>= λ left. decls_at left.1 >>= λ ds. block_at ds.1 >>= λ first. more_blocks_at (first.0 ∷ []) first.1 >>= λ bs. name_at classes.RightBrace bs.1 >>= λ right. Ok (raw_function word.spot called.0 sig.0 ds.0 bs.0 right.0.spot, right.1))
    (λ word. then_is func_name_is (signature then left_brace then Many decl then block_rule then Many block_rule then right_brace) (λ called v. raw_function word.spot called (signature_value v.0) (map decl_value v.1.1.0) (block_value v.1.1.1.0 ∷ map block_value v.1.1.1.1.0) v.1.1.1.1.1.spot)
    (λ called ts. signature_at ts >>= λ sig. name_at classes.LeftBrace sig.1 >>= λ left. decls_at left.1 >>= λ ds. block_at ds.1 >>= λ first. more_blocks_at (first.0 ∷ []) first.1 >>= λ bs. name_at classes.RightBrace bs.1 >>= λ right. Ok (raw_function word.spot called sig.0 ds.0 bs.0 right.0.spot, right.1))
    (λ called. then_is signature_is (left_brace then Many decl then block_rule then Many block_rule then right_brace) (λ sig v. raw_function word.spot called sig (map decl_value v.1.0) (block_value v.1.1.0 ∷ map block_value v.1.1.1.0) v.1.1.1.1.spot)
    (λ sig ts. name_at classes.LeftBrace ts >>= λ left. decls_at left.1 >>= λ ds. block_at ds.1 >>= λ first. more_blocks_at (first.0 ∷ []) first.1 >>= λ bs. name_at classes.RightBrace bs.1 >>= λ right. Ok (raw_function word.spot called sig ds.0 bs.0 right.0.spot, right.1))
    (λ sig. then_is (name_is classes.LeftBrace) (Many decl then block_rule then Many block_rule then right_brace) (λ left v. raw_function word.spot called sig (map decl_value v.0) (block_value v.1.0 ∷ map block_value v.1.1.0) v.1.1.1.spot)
    (λ left ts. decls_at ts >>= λ ds. block_at ds.1 >>= λ first. more_blocks_at (first.0 ∷ []) first.1 >>= λ bs. name_at classes.RightBrace bs.1 >>= λ right. Ok (raw_function word.spot called sig ds.0 bs.0 right.0.spot, right.1))
    (λ left. then_is decls_is (block_rule then Many block_rule then right_brace) (λ ds v. raw_function word.spot called sig ds (block_value v.0 ∷ map block_value v.1.0) v.1.1.spot)
    (λ ds ts. block_at ts >>= λ first. more_blocks_at (first.0 ∷ []) first.1 >>= λ bs. name_at classes.RightBrace bs.1 >>= λ right. Ok (raw_function word.spot called sig ds bs.0 right.0.spot, right.1))
    (λ ds. then_is block_is (Many block_rule then right_brace) (λ first v. raw_function word.spot called sig ds (first ∷ map block_value v.0) v.1.spot)
    (λ first ts. more_blocks_at (first ∷ []) ts >>= λ bs. name_at classes.RightBrace bs.1 >>= λ right. Ok (raw_function word.spot called sig ds bs.0 right.0.spot, right.1))
    (λ first. then_is (more_blocks_is (first ∷ [])) right_brace (λ bs v. raw_function word.spot called sig ds bs v.spot)
    (λ bs ts. name_at classes.RightBrace ts >>= λ right. Ok (raw_function word.spot called sig ds bs right.0.spot, right.1))
    (λ bs. map_is (name_is classes.RightBrace) (λ right. raw_function word.spot called sig ds bs right.spot))))))))

pub functions_is : Is (Many function) (map function_value) functions_at
unfolding functions_at
functions_is = map_is (many_is function_is) (λ vs. [] ++ vs)

abbrev raw_module : List ℕ → List RawFunction → RawModule
raw_module headers functions = record { headers = headers; functions = functions }

pub module_is : Is module_rule module_value module_at
unfolding module_at
module_is =
    then_is headers_is (Many function) (λ hs v. raw_module hs (map function_value v)) (λ hs ts. functions_at ts >>= λ fs. Ok (raw_module hs fs.0, fs.1))
    (λ hs. map_is functions_is (raw_module hs))
