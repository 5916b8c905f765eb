-- The canonical text of a module: what the CLIF reference writes for its functions, with one spelling for each thing.
-- Values and blocks have their canonical numbers, slots, signatures and callees those of their lists, and numbers of
-- constants and immediates are signed decimal.
use Rattle.std.specs.Prelude.{ℕ, ◌+◌, List, [], ◌∷◌, length, codes}
use Rattle.ir_core.specs.Lookup.{type_of}
use Rattle.ir_core.specs.Module.{Line, Block, Function, Module}
use Rattle.ir_text.specs.Numbering.{Numbering, numbering_of}
use Rattle.ir_text.specs.TextTree.{Text, Nothing, Word, Mark, ◌▹◌, spelled, space, line_end, indent, colon, equals}
use Rattle.ir_text.specs.TextTree.{separated, in_parentheses}
use Rattle.ir_text.specs.TextDeclarations.{function_name, signature, slot_line, signature_line, callee_line}
use Rattle.ir_text.specs.TextDeclarations.{declarations, after_declarations}
use Rattle.ir_text.specs.TextInstructions.{debug_tags, value, values, block_reference, instruction, typing_operand}
use Rattle.ir_text.specs.TextInstructions.{shown_suffix, type_text, next_after}

-- ---- lines, blocks, functions: `next` is the number of the next value that is defined

module _ (f : Function) (n : Numbering) where
  abbrev pub results : List ℕ → Text
  results [] = Nothing
  results (v ∷ vs) = values n (v ∷ vs) ▹ equals

  abbrev pub line : ℕ → Line → Text
  line next l =
      indent ▹ debug_tags l.tags ▹ results l.results
      ▹ instruction n (shown_suffix f n next l.ty (typing_operand l.inst)) l.inst ▹ line_end

  abbrev pub lines : ℕ → List Line → Text
  lines next [] = Nothing
  lines next (l ∷ ls) = line next l ▹ lines (next + length l.results) ls

  -- `v0: i64`
  abbrev pub block_parameter : ℕ → Text
  block_parameter v = value n v ▹ colon ▹ space ▹ type_text (type_of f v)

  abbrev pub block_parameters : List ℕ → Text
  block_parameters [] = Nothing
  block_parameters (v ∷ vs) = in_parentheses (separated block_parameter (v ∷ vs))

  abbrev pub block : ℕ → Block → Text
  block next b =
      block_reference n b.number ▹ block_parameters b.params ▹ colon ▹ line_end ▹ lines (next + length b.params) b.lines

  -- further blocks, each behind an empty line
  abbrev pub more_blocks : ℕ → List Block → Text
  more_blocks next [] = Nothing
  more_blocks next (b ∷ bs) = line_end ▹ block next b ▹ more_blocks (next_after next b) bs

  abbrev pub blocks : List Block → Text
  blocks [] = Nothing
  blocks (b ∷ bs) = block 0 b ▹ more_blocks (next_after 0 b) bs

-- a function with these numbers
abbrev pub function : Numbering → Function → Text
function n f =
    Word (codes "function") ▹ space ▹ function_name f.name ▹ signature f.sig ▹ space ▹ Mark 123 ▹ line_end
    ▹ declarations slot_line 0 f.slots ▹ declarations signature_line 0 f.sigs ▹ declarations callee_line 0 f.callees
    ▹ after_declarations f
    ▹ blocks f n f.blocks ▹ Mark 125 ▹ line_end

abbrev pub canonical_function : Function → Text
canonical_function f = function (numbering_of f) f

-- further functions, each behind an empty line
abbrev pub more_functions : Module → Text
more_functions [] = Nothing
more_functions (f ∷ fs) = line_end ▹ canonical_function f ▹ more_functions fs

abbrev pub canonical_text : Module → Text
canonical_text [] = Nothing
canonical_text (f ∷ fs) = canonical_function f ▹ more_functions fs

-- the bytes of the canonical text
abbrev pub text_of : Module → List ℕ
text_of m = spelled (canonical_text m)

-- the bytes of one function's text
abbrev pub function_text_of : Function → List ℕ
function_text_of f = spelled (canonical_function f)
