-- A module of the grammar is one of the EBNF.
use Rattle.std.proofs.Common.{ℕ, List, ◌∷◌, [], map, refl}
use Rattle.grammar.specs.Rules.{Lexeme, Opt, Many, Tree}
use Rattle.clif_words.specs.Terminals.{◌then◌, right_brace, cold}
use Rattle.token_reader.specs.Reading.{name}
use Rattle.token_reader.specs.Values.{perhaps}
use Rattle.clif_read.specs.declared.raw.RawBlock.{RawBlock}
use Rattle.clif_read.specs.declared.raw.RawFunction.{RawFunction}
use Rattle.clif_read.specs.declared.raw.RawModule.{RawModule}
use Rattle.clif_read.specs.declared.raw.RawLine.{RawLine}
use Rattle.clif_read.specs.ModuleGrammar.{block_params, func_name, signature, decl, block_rule, function, module_rule}
use Rattle.clif_read.specs.DeclarationValues.{func_name_value, signature_value, decl_value}
use Rattle.clif_read.specs.LineValues.{lines_value}
use Rattle.clif_read.specs.ModuleValues.{block_params_value, is_cold, block_value, function_value, module_value}
use Rattle.clif_read.specs.LetterLines.{letter_lines_value}
use Rattle.clif_read.specs.LetterModule.{letter_block, letter_function, letter_module, letter_block_value, letter_function_value, letter_module_value}
use Rattle.clif_read.specs.Alike.{Alike}
use Rattle.clif_read.proofs.Alike.{alike_same, alike_map, seq_alike, seq_second, many_alike}
use Rattle.clif_read.proofs.LetterLines.{lines_alike}

-- ---- blocks

abbrev block_of : Lexeme → Tree (Opt block_params) → Tree (Opt cold) → List RawLine → RawBlock
block_of b ps c ls = record { block = name b; params = perhaps [] block_params_value ps; cold = is_cold c; lines = ls }

block_alike : Alike letter_block block_rule letter_block_value block_value
block_alike =
    seq_second (λ b. b) (λ b v. block_of b v.0 v.1.0 (letter_lines_value v.1.1.1)) (λ b v. block_of b v.0 v.1.0 (lines_value v.1.1.1))
    (λ b. seq_second (λ ps. ps) (λ ps v. block_of b ps v.0 (letter_lines_value v.1.1)) (λ ps v. block_of b ps v.0 (lines_value v.1.1))
    (λ ps. seq_second (λ c. c) (λ c v. block_of b ps c (letter_lines_value v.1)) (λ c v. block_of b ps c (lines_value v.1))
    (λ c. seq_second (λ k. k) (λ k v. block_of b ps c (letter_lines_value v)) (λ k v. block_of b ps c (lines_value v))
    (λ k. alike_map (block_of b ps c) lines_alike))))

-- ---- functions

-- the blocks of a function, and the spot of what ends it
abbrev ending : List RawBlock → ℕ → List RawBlock × ℕ
ending blocks spot = (blocks, spot)

abbrev function_of : Lexeme → Tree func_name → Tree signature → List (Tree decl) → List RawBlock × ℕ → RawFunction
function_of f n s ds rest = record { spot = f.spot; name = func_name_value n; signature = signature_value s; decls = map decl_value ds; blocks = rest.0; end_spot = rest.1 }

more_alike : Alike (Many letter_block then right_brace) (Many block_rule then right_brace) (λ v. ending (map letter_block_value v.0) v.1.spot) (λ v. ending (map block_value v.0) v.1.spot)
more_alike = seq_alike {fb = λ (x : Lexeme). x} {fd = λ (x : Lexeme). x} (λ (blocks : List RawBlock) (brace : Lexeme). ending blocks brace.spot) (many_alike block_alike) (alike_same right_brace (λ x. x) (λ x. x) (λ x. refl))

blocks_alike : Alike (letter_block then Many letter_block then right_brace) (block_rule then Many block_rule then right_brace) (λ v. ending (letter_block_value v.0 ∷ map letter_block_value v.1.0) v.1.1.spot) (λ v. ending (block_value v.0 ∷ map block_value v.1.0) v.1.1.spot)
blocks_alike = seq_alike (λ (b : RawBlock) (rest : List RawBlock × ℕ). ending (b ∷ rest.0) rest.1) block_alike more_alike

function_alike : Alike letter_function function letter_function_value function_value
function_alike =
    seq_second (λ f. f) (λ f v. function_of f v.0 v.1.0 v.1.1.1.0 (ending (letter_block_value v.1.1.1.1.0 ∷ map letter_block_value v.1.1.1.1.1.0) v.1.1.1.1.1.1.spot)) (λ f v. function_of f v.0 v.1.0 v.1.1.1.0 (ending (block_value v.1.1.1.1.0 ∷ map block_value v.1.1.1.1.1.0) v.1.1.1.1.1.1.spot))
    (λ f. seq_second (λ n. n) (λ n v. function_of f n v.0 v.1.1.0 (ending (letter_block_value v.1.1.1.0 ∷ map letter_block_value v.1.1.1.1.0) v.1.1.1.1.1.spot)) (λ n v. function_of f n v.0 v.1.1.0 (ending (block_value v.1.1.1.0 ∷ map block_value v.1.1.1.1.0) v.1.1.1.1.1.spot))
    (λ n. seq_second (λ s. s) (λ s v. function_of f n s v.1.0 (ending (letter_block_value v.1.1.0 ∷ map letter_block_value v.1.1.1.0) v.1.1.1.1.spot)) (λ s v. function_of f n s v.1.0 (ending (block_value v.1.1.0 ∷ map block_value v.1.1.1.0) v.1.1.1.1.spot))
    (λ s. seq_second (λ l. l) (λ l v. function_of f n s v.0 (ending (letter_block_value v.1.0 ∷ map letter_block_value v.1.1.0) v.1.1.1.spot)) (λ l v. function_of f n s v.0 (ending (block_value v.1.0 ∷ map block_value v.1.1.0) v.1.1.1.spot))
    (λ l. seq_second (λ ds. ds) (λ ds v. function_of f n s ds (ending (letter_block_value v.0 ∷ map letter_block_value v.1.0) v.1.1.spot)) (λ ds v. function_of f n s ds (ending (block_value v.0 ∷ map block_value v.1.0) v.1.1.spot))
    (λ ds. alike_map (function_of f n s ds) blocks_alike)))))

-- ---- modules

abbrev module_of : List Lexeme → List RawFunction → RawModule
module_of hs fs = record { headers = map (λ (x : Lexeme). x.spot) hs; functions = fs }

pub module_alike : Alike letter_module module_rule letter_module_value module_value
module_alike = seq_second (λ hs. hs) (λ hs v. module_of hs (map letter_function_value v)) (λ hs v. module_of hs (map function_value v)) (λ hs. alike_map (module_of hs) (many_alike function_alike))
