-- The definitions tried by computation, on a function whose values are not numbered in order: v5, and v9, which is one more.
use Rattle.std.proofs.Common.{◌≡◌, [], ◌∷◌, Some, None, refl}
use Rattle.clk_num.specs.declared.op.Op.TheVariants.{Iadd, Uextend}
use Rattle.clk_num.specs.declared.width.Width.TheVariants.{W32, W64}
use Rattle.clk_num.specs.Numbers.{signed, wrapped}
use Rattle.ir_core.specs.declared.instructions.Access.TheVariants.{Full, Uload}
use Rattle.ir_core.specs.declared.names.FuncName.TheVariants.{Text}
use Rattle.ir_core.specs.declared.signatures.Conv.TheVariants.{Fast}
use Rattle.ir_core.specs.declared.signatures.Ext.TheVariants as ext
use Rattle.ir_core.specs.declared.signatures.Purpose.TheVariants as purpose
use Rattle.ir_core.specs.declared.signatures.Ty.TheVariants.{I32, I64}
use Rattle.ir_core.specs.Module.{Const, Pure, PureImm, Plain, Return, Line, Block, Function}
use Rattle.ir_semantics.specs.Canon.{canonical}
use Rattle.ir_semantics.specs.Renaming.{Renaming}
use Rattle.ir_text.specs.Numbering.{numbering_of}
use Rattle.clif_words.specs.Opcodes.{opcode_of}
use Rattle.clif_words.specs.Table.{all_words}
use Rattle.clif_words.specs.Words.{word_meaning}
use Rattle.clif_meaning.specs.Meaning.{numbers, function_with}
use Rattle.text_read_back.specs.RawOf.{raw_function}
use Rattle.names_read_back.specs.ReadNames.{read_under, AccessType, IsTypeFor, value_number}

abbrev sum_line : Line
sum_line = record { inst = Plain (PureImm Iadd 5 (record { width = W64; value = 1 })); ty = Some I64; results = 9 ∷ []; tags = [] }

abbrev return_line : Line
return_line = record { inst = Return (9 ∷ []); ty = None; results = []; tags = [] }

abbrev the_block : Block
the_block = record { number = 3; params = 5 ∷ []; lines = sum_line ∷ return_line ∷ [] }

abbrev the_function : Function
the_function = record {
  name = Text (102 ∷ []);
  sig = record { params = record { ty = I64; ext = ext.No; purpose = purpose.Normal } ∷ []; results = record { ty = I64; ext = ext.No; purpose = purpose.Normal } ∷ []; conv = Fast };
  slots = [];
  sigs = [];
  callees = [];
  types = (9, I64) ∷ (5, I64) ∷ [];
  blocks = the_block ∷ [];
}

-- the words v0 and v1 of its text, and a word that it has not
first_word : value_number the_function 0 ≡ 0
first_word = refl

second_word : value_number the_function 1 ≡ 1
second_word = refl

no_word : value_number the_function 9 ≡ 2
no_word = refl

abbrev read : Renaming
read = read_under (numbering_of the_function) (numbers (raw_function the_function) (value_number the_function))

value_read : read.value 9 ≡ 1
value_read = refl

block_read : read.block 3 ≡ 0
block_read = refl

-- what its raw function means, with the types of the canonical form
meant : function_with (raw_function the_function) (value_number the_function) (canonical the_function).types ≡ canonical the_function
unfolding word_meaning all_words opcode_of signed wrapped
meant = refl

-- ---- types that a reader takes

const_type : IsTypeFor I64 (Plain (Const (record { width = W64; value = 1 })))
const_type = refl

not_const_type : IsTypeFor I32 (Plain (Const (record { width = W64; value = 1 }))) → ⊥
not_const_type e = absurd cc

not_conversion_type : IsTypeFor I64 (Plain (Pure (Uextend W32) (0 ∷ []))) → ⊥
not_conversion_type e = absurd cc

any_type_at_32_bits : AccessType I32 (Uload I64 4)
any_type_at_32_bits = tt

not_access_type : AccessType I32 (Full I64) → ⊥
not_access_type e = absurd cc
