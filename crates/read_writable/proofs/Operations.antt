-- The operation of an opcode has the operands of the opcode's form, and a suffix as the form has it.
use Rattle.std.proofs.Common.{◌≡◌, ◌⊎◌, true, false, None, Some, refl, sym, subst, ◌∙◌, inl, inr}
use Rattle.std.specs.Prelude.{Bool, is_some}
use Rattle.grammar.specs.Rules.{member}
use Rattle.ir_core.specs.declared.signatures.Ty.{Ty}
use Rattle.ir_core.specs.Forms.{has_immediate}
use Rattle.ir_core.specs.Lookup.{width_of}
use Rattle.ir_text.specs.Writable.{op_operands, conversion}
use Rattle.clif_words.specs.declared.class.Class.{Class}
use Rattle.clif_words.specs.declared.class.Class.TheVariants as classes
use Rattle.clif_words.specs.declared.opcodes.Opcode.{Opcode}
use Rattle.clif_words.specs.declared.opcodes.Opcode.TheVariants as opcode
use Rattle.clif_words.specs.Classes.{code}
use Rattle.clif_words.specs.OpcodeForms.{form}
use Rattle.clif_words.specs.Terminals.{codes_of}
use Rattle.token_reader.specs.declared.raw.RawName.{RawName}
use Rattle.token_reader.specs.declared.raw.RawNumber.{RawNumber}
use Rattle.clif_insts.specs.declared.raw.RawOperands.{RawOperands}
use Rattle.clif_insts.specs.declared.raw.RawOperands.TheVariants as operands
use Rattle.clif_insts.specs.OfForm.{operand_forms, IsOfForm}
use Rattle.clif_names.specs.Typing.{gives_type}
use Rattle.clif_meaning.specs.Instructions.{may_leave_out}
use Rattle.clif_meaning.specs.Operations.{operation}

-- ---- how many operands

pub unary_count : (o : Opcode) (t : Ty) (x : RawName) → IsOfForm o (operands.Unary x) → op_operands (operation o t) ≡ 1
unary_count opcode.Ineg t x h = refl
unary_count opcode.Bnot t x h = refl
unary_count opcode.Iabs t x h = refl
unary_count opcode.Clz t x h = refl
unary_count opcode.Ctz t x h = refl
unary_count opcode.Popcnt t x h = refl
unary_count opcode.Bitrev t x h = refl
unary_count opcode.Bswap t x h = refl
unary_count opcode.Isplit t x h = refl
unary_count opcode.Uextend t x h = refl
unary_count opcode.Sextend t x h = refl
unary_count opcode.Ireduce t x h = refl
unary_count _ t x h = absurd cc

pub binary_count : (o : Opcode) (t : Ty) (x y : RawName) → IsOfForm o (operands.Binary x y) → op_operands (operation o t) ≡ 2
binary_count opcode.Ineg t x y h = absurd cc
binary_count opcode.Bnot t x y h = absurd cc
binary_count opcode.Iabs t x y h = absurd cc
binary_count opcode.Clz t x y h = absurd cc
binary_count opcode.Ctz t x y h = absurd cc
binary_count opcode.Popcnt t x y h = absurd cc
binary_count opcode.Bitrev t x y h = absurd cc
binary_count opcode.Bswap t x y h = absurd cc
binary_count opcode.Isplit t x y h = absurd cc
binary_count opcode.Select t x y h = absurd cc
binary_count opcode.Uextend t x y h = absurd cc
binary_count opcode.Sextend t x y h = absurd cc
binary_count opcode.Ireduce t x y h = absurd cc
binary_count _ t x y h = refl

pub ternary_count : (o : Opcode) (t : Ty) (c x y : RawName) → IsOfForm o (operands.Ternary c x y) → op_operands (operation o t) ≡ 3
ternary_count opcode.Select t c x y h = refl
ternary_count _ t c x y h = absurd cc

pub immediate_is : (o : Opcode) (t : Ty) (x : RawName) (n : RawNumber) → IsOfForm o (operands.BinaryImm x n) → has_immediate (operation o t) ≡ true
immediate_is opcode.IaddImm t x n h = refl
immediate_is opcode.ImulImm t x n h = refl
immediate_is opcode.BandImm t x n h = refl
immediate_is opcode.BorImm t x n h = refl
immediate_is opcode.BxorImm t x n h = refl
immediate_is opcode.IshlImm t x n h = refl
immediate_is opcode.UshrImm t x n h = refl
immediate_is opcode.SshrImm t x n h = refl
immediate_is _ t x n h = absurd cc

-- ---- conversions, and the suffix that may be left out

abbrev pub IsNot : Class → Opcode → Type 0
IsNot c o = form o ≡ c → ⊥

abbrev pub is_of : Class → RawOperands → Bool
is_of c op = member (code c) (codes_of (operand_forms op))

-- an opcode of these operands is of none of the other forms
pub other_form : (c : Class) (op : RawOperands) → is_of c op ≡ false → (o : Opcode) → IsOfForm o op → IsNot c o
other_form c op out o h e = absurd (let k : is_of c op ≡ true = subst (λ (x : Class). is_of x op ≡ true) e h in let bad = sym out ∙ k in cc)

pub no_conversion : (o : Opcode) (t : Ty) → IsNot classes.Convert o → conversion (operation o t) ≡ None
no_conversion opcode.Uextend t h = absurd (h refl)
no_conversion opcode.Sextend t h = absurd (h refl)
no_conversion opcode.Ireduce t h = absurd (h refl)
no_conversion _ t h = refl

pub its_conversion : (o : Opcode) (t : Ty) → form o ≡ classes.Convert → conversion (operation o t) ≡ Some (width_of t)
its_conversion opcode.Uextend t e = refl
its_conversion opcode.Sextend t e = refl
its_conversion opcode.Ireduce t e = refl
its_conversion _ t e = absurd cc

pub leaves_out : (o : Opcode) (op : RawOperands) → IsNot classes.Convert o → IsNot classes.LoadWide o → may_leave_out o op ≡ is_some (gives_type op)
leaves_out opcode.Uextend op h k = absurd (h refl)
leaves_out opcode.Sextend op h k = absurd (h refl)
leaves_out opcode.Ireduce op h k = absurd (h refl)
leaves_out opcode.Uload32 op h k = absurd (k refl)
leaves_out opcode.Sload32 op h k = absurd (k refl)
leaves_out _ op h k = refl

pub keeps_suffix : (o : Opcode) (op : RawOperands) → form o ≡ classes.Convert → may_leave_out o op ≡ false
keeps_suffix opcode.Uextend op e = refl
keeps_suffix opcode.Sextend op e = refl
keeps_suffix opcode.Ireduce op e = refl
keeps_suffix _ op e = absurd cc

pub unary_form : (o : Opcode) (x : RawName) → IsOfForm o (operands.Unary x) → (form o ≡ classes.Unary) ⊎ (form o ≡ classes.Convert)
unary_form opcode.Ineg x h = inl refl
unary_form opcode.Bnot x h = inl refl
unary_form opcode.Iabs x h = inl refl
unary_form opcode.Clz x h = inl refl
unary_form opcode.Ctz x h = inl refl
unary_form opcode.Popcnt x h = inl refl
unary_form opcode.Bitrev x h = inl refl
unary_form opcode.Bswap x h = inl refl
unary_form opcode.Isplit x h = inl refl
unary_form opcode.Uextend x h = inr refl
unary_form opcode.Sextend x h = inr refl
unary_form opcode.Ireduce x h = inr refl
unary_form _ x h = absurd cc
