-- Each instruction but a `return`, read as what it says.
use Rattle.std.proofs.Common.{◌≡◌, ℕ, ◌^◌, ◌<◌, ◌≤◌, true, not, ◌&&◌, List, [], ◌∷◌, ◌++◌, length, Option, Some, None, refl, sym, ap, subst, arith}
use Rattle.std.specs.Prelude.{codes, ℤ, nat_lt, ⊤}
use Rattle.std.specs.Fmt.{decimal}
use Rattle.clif_lex.specs.declared.spans.TokenKind.TheVariants as kind
use Rattle.clk_num.specs.Numbers.{signed}
use Rattle.clk_num.specs.Operations.{DataValue}
use Rattle.clk_num.specs.Width.{bits_of}
use Rattle.clk_num.specs.declared.op.Op.{Op}
use Rattle.clk_num.specs.declared.op.Op.TheVariants as ops
use Rattle.exn_tables.specs.declared.table.Entry.{Entry}
use Rattle.ir_core.specs.declared.instructions.Arg.{Arg}
use Rattle.ir_core.specs.declared.instructions.BlockCall.{BlockCall}
use Rattle.ir_core.specs.Lists.{Each}
use Rattle.ir_core.specs.Uses.{simple_used, table_targets}
use Rattle.ir_core.specs.declared.instructions.Access.{Access}
use Rattle.ir_core.specs.declared.instructions.Access.TheVariants as access
use Rattle.ir_core.specs.declared.instructions.Flags.{Flags}
use Rattle.ir_core.specs.declared.signatures.Ty.{Ty}
use Rattle.ir_core.specs.declared.signatures.Ty.TheVariants as ty
use Rattle.ir_core.specs.Forms.{has_immediate}
use Rattle.ir_core.specs.Module.{Simple, Branch, CallTarget, Instruction, Line, Function}
use Rattle.ir_core.specs.Module as insts
use Rattle.ir_text.specs.Numbering.{Numbering}
use Rattle.ir_text.specs.TextTree.{Text, Nothing, Word, Numbered, ◌▹◌, space}
use Rattle.ir_text.specs.TextInstructions as text
use Rattle.ir_core.specs.Lookup.{ty_of}
use Rattle.ir_text.specs.Words.{op_word}
use Rattle.ir_text.specs.Writable.{greatest_number, ValueArg, NormalArg, TableArg, TargetWritable, TableWritable, op_operands, is_bytes, AccessForm, StoreForm, SimpleForm, InstructionForm}
use Rattle.clif_words.specs.declared.class.Class.{Class}
use Rattle.clif_words.specs.declared.class.Class.TheVariants as classes
use Rattle.clif_words.specs.Classes.{code}
use Rattle.clif_words.specs.Table.{all_words}
use Rattle.clif_words.specs.Terminals.{one}
use Rattle.clif_words.specs.Words.{word_meaning}
use Rattle.clif_insts.specs.declared.raw.RawOperands.{RawOperands}
use Rattle.clif_insts.specs.declared.raw.RawOperands.TheVariants as operands
use Rattle.clif_insts.specs.InstValues.{raw}
use Rattle.text_read_back.proofs.NumberTokens.{is_64_bits}
use Rattle.text_read_back.proofs.Stretches.{is_word}
use Rattle.text_read_back.specs.RawOf as raws
use Rattle.text_read_back.proofs.Spellable.{ValueFits, ArgFits, TargetFits, ArgReads, TargetReads, EntryReads, SimpleNumbers, Spellable}
use Rattle.text_read_back.proofs.Bytes.{at_8, at_16, at_32, by_bytes}
use Rattle.text_read_back.proofs.Told.{lexeme_as, Reads}
use Rattle.text_read_back.proofs.Terms.{opcode_named}
use Rattle.text_read_back.proofs.Forms.{IsOpcode, opcode_reads, nullary_form, trap_form, iconst_form, binary_form, unary_form, convert_form, select_form, icmp_form, binary_imm_form, icmp_imm_form, load_form, load_wide_form, store_form, stack_load_form, stack_store_form, func_addr_form, trap_if_form, jump_form, brif_form, br_table_form, call_form, call_indirect_form, try_call_form, try_call_indirect_form}
use Rattle.text_read_back.proofs.Slots.{IsInst, in_iconst, in_binary, in_unary, in_icmp, in_select, in_convert, in_binary_imm, in_icmp_imm, in_load, in_load_wide, in_store, in_stack_load, in_stack_store, in_func_addr, in_nullary, in_jump, in_brif, in_br_table, in_trap_inst, in_trap_if, in_call, in_try_call, in_call_indirect, in_try_call_indirect}
use Rattle.text_read_back.proofs.Constants.{constant_64_bits, immediate_64_bits, offset_64_bits}

-- ---- opcodes that end with a number of bits

sized_reads : (w : List ℕ) (k : ℕ) (c : Class) → is_word w ≡ true → nat_lt k (2 ^ 64) ≡ true → (word_meaning (w ++ decimal k)).class ≡ c → Reads (one c) opcode_named (raws.opcode (w ++ decimal k)) (Numbered w k)
sized_reads w k c plain lt e = record {
  clear = λ b h. rw (plain, lt, h) refl;
  told = λ at. record { tree = lexeme_as kind.Word (w ++ decimal k) at; derived = (refl, ap code e); says = refl };
}

uload8 : Reads (one classes.Load) opcode_named (raws.opcode (codes "uload" ++ decimal 8)) (Numbered (codes "uload") 8)
unfolding word_meaning all_words
uload8 = sized_reads (codes "uload") 8 classes.Load refl refl (rw at_8 refl)

uload16 : Reads (one classes.Load) opcode_named (raws.opcode (codes "uload" ++ decimal 16)) (Numbered (codes "uload") 16)
unfolding word_meaning all_words
uload16 = sized_reads (codes "uload") 16 classes.Load refl refl (rw at_16 refl)

uload32 : Reads (one classes.LoadWide) opcode_named (raws.opcode (codes "uload" ++ decimal 32)) (Numbered (codes "uload") 32)
unfolding word_meaning all_words
uload32 = sized_reads (codes "uload") 32 classes.LoadWide refl refl (rw at_32 refl)

sload8 : Reads (one classes.Load) opcode_named (raws.opcode (codes "sload" ++ decimal 8)) (Numbered (codes "sload") 8)
unfolding word_meaning all_words
sload8 = sized_reads (codes "sload") 8 classes.Load refl refl (rw at_8 refl)

sload16 : Reads (one classes.Load) opcode_named (raws.opcode (codes "sload" ++ decimal 16)) (Numbered (codes "sload") 16)
unfolding word_meaning all_words
sload16 = sized_reads (codes "sload") 16 classes.Load refl refl (rw at_16 refl)

sload32 : Reads (one classes.LoadWide) opcode_named (raws.opcode (codes "sload" ++ decimal 32)) (Numbered (codes "sload") 32)
unfolding word_meaning all_words
sload32 = sized_reads (codes "sload") 32 classes.LoadWide refl refl (rw at_32 refl)

istore8 : Reads (one classes.Store) opcode_named (raws.opcode (codes "istore" ++ decimal 8)) (Numbered (codes "istore") 8)
unfolding word_meaning all_words
istore8 = sized_reads (codes "istore") 8 classes.Store refl refl (rw at_8 refl)

istore16 : Reads (one classes.Store) opcode_named (raws.opcode (codes "istore" ++ decimal 16)) (Numbered (codes "istore") 16)
unfolding word_meaning all_words
istore16 = sized_reads (codes "istore") 16 classes.Store refl refl (rw at_16 refl)

istore32 : Reads (one classes.Store) opcode_named (raws.opcode (codes "istore" ++ decimal 32)) (Numbered (codes "istore") 32)
unfolding word_meaning all_words
istore32 = sized_reads (codes "istore") 32 classes.Store refl refl (rw at_32 refl)

-- ---- operations on values

module _ (n : Numbering) (e : List Class) where
  binary_args : (w : List ℕ) → IsOpcode w classes.Binary → (s : Option Ty) (args : List ℕ) → length args ≡ 2 → Each (ValueFits n) args → (k : List ℕ → RawOperands) → ((x y : ℕ) → k (x ∷ y ∷ []) ≡ operands.Binary (raws.value n x) (raws.value n y))
      → IsInst e (raw (raws.opcode w) s (k args)) (Word w ▹ text.suffix_if s ▹ Nothing ▹ text.operands n args)
  binary_args w is s [] h fits k same = absurd (omega arith)
  binary_args w is s (x ∷ []) h fits k same = absurd (omega arith)
  binary_args w is s (x ∷ y ∷ []) h fits k same =
      subst (λ (o : RawOperands). IsInst e (raw (raws.opcode w) s o) (Word w ▹ text.suffix_if s ▹ Nothing ▹ text.operands n (x ∷ y ∷ []))) (sym (same x y)) (in_binary e (binary_form n w is s x y fits.0 fits.1.0))
  binary_args w is s (x ∷ y ∷ z ∷ more) h fits k same = absurd (omega arith)

  unary_args : (w : List ℕ) → IsOpcode w classes.Unary → (s : Option Ty) (args : List ℕ) → length args ≡ 1 → Each (ValueFits n) args → (k : List ℕ → RawOperands) → ((x : ℕ) → k (x ∷ []) ≡ operands.Unary (raws.value n x))
      → IsInst e (raw (raws.opcode w) s (k args)) (Word w ▹ text.suffix_if s ▹ Nothing ▹ text.operands n args)
  unary_args w is s [] h fits k same = absurd (omega arith)
  unary_args w is s (x ∷ []) h fits k same =
      subst (λ (o : RawOperands). IsInst e (raw (raws.opcode w) s o) (Word w ▹ text.suffix_if s ▹ Nothing ▹ text.operands n (x ∷ []))) (sym (same x)) (in_unary e (unary_form n w is s x fits.0))
  unary_args w is s (x ∷ y ∷ more) h fits k same = absurd (omega arith)

  convert_args : (w : List ℕ) → IsOpcode w classes.Convert → (t : Ty) (args : List ℕ) → length args ≡ 1 → Each (ValueFits n) args → (k : List ℕ → RawOperands) → ((x : ℕ) → k (x ∷ []) ≡ operands.Unary (raws.value n x))
      → IsInst e (raw (raws.opcode w) (Some t) (k args)) (Word w ▹ text.suffix t ▹ Nothing ▹ text.operands n args)
  convert_args w is t [] h fits k same = absurd (omega arith)
  convert_args w is t (x ∷ []) h fits k same =
      subst (λ (o : RawOperands). IsInst e (raw (raws.opcode w) (Some t) o) (Word w ▹ text.suffix t ▹ Nothing ▹ text.operands n (x ∷ []))) (sym (same x)) (in_convert e (convert_form n w is t x fits.0))
  convert_args w is t (x ∷ y ∷ more) h fits k same = absurd (omega arith)

  pure_read : (op : Op) (s : Option Ty) (args : List ℕ) → length args ≡ op_operands op → Each (ValueFits n) args → IsInst e (raws.simple n s (insts.Pure op args)) (text.simple n s (insts.Pure op args))
  unfolding word_meaning all_words
  pure_read ops.Iadd s args h k = binary_args (op_word ops.Iadd) (record { plain = refl; class = refl }) s args h k (raws.value_operands n ops.Iadd) (λ x y. refl)
  pure_read ops.Isub s args h k = binary_args (op_word ops.Isub) (record { plain = refl; class = refl }) s args h k (raws.value_operands n ops.Isub) (λ x y. refl)
  pure_read ops.Imul s args h k = binary_args (op_word ops.Imul) (record { plain = refl; class = refl }) s args h k (raws.value_operands n ops.Imul) (λ x y. refl)
  pure_read ops.Band s args h k = binary_args (op_word ops.Band) (record { plain = refl; class = refl }) s args h k (raws.value_operands n ops.Band) (λ x y. refl)
  pure_read ops.Bor s args h k = binary_args (op_word ops.Bor) (record { plain = refl; class = refl }) s args h k (raws.value_operands n ops.Bor) (λ x y. refl)
  pure_read ops.Bxor s args h k = binary_args (op_word ops.Bxor) (record { plain = refl; class = refl }) s args h k (raws.value_operands n ops.Bxor) (λ x y. refl)
  pure_read ops.Smin s args h k = binary_args (op_word ops.Smin) (record { plain = refl; class = refl }) s args h k (raws.value_operands n ops.Smin) (λ x y. refl)
  pure_read ops.Smax s args h k = binary_args (op_word ops.Smax) (record { plain = refl; class = refl }) s args h k (raws.value_operands n ops.Smax) (λ x y. refl)
  pure_read ops.Umin s args h k = binary_args (op_word ops.Umin) (record { plain = refl; class = refl }) s args h k (raws.value_operands n ops.Umin) (λ x y. refl)
  pure_read ops.Umax s args h k = binary_args (op_word ops.Umax) (record { plain = refl; class = refl }) s args h k (raws.value_operands n ops.Umax) (λ x y. refl)
  pure_read ops.Umulhi s args h k = binary_args (op_word ops.Umulhi) (record { plain = refl; class = refl }) s args h k (raws.value_operands n ops.Umulhi) (λ x y. refl)
  pure_read ops.Smulhi s args h k = binary_args (op_word ops.Smulhi) (record { plain = refl; class = refl }) s args h k (raws.value_operands n ops.Smulhi) (λ x y. refl)
  pure_read ops.Udiv s args h k = binary_args (op_word ops.Udiv) (record { plain = refl; class = refl }) s args h k (raws.value_operands n ops.Udiv) (λ x y. refl)
  pure_read ops.Urem s args h k = binary_args (op_word ops.Urem) (record { plain = refl; class = refl }) s args h k (raws.value_operands n ops.Urem) (λ x y. refl)
  pure_read ops.Sdiv s args h k = binary_args (op_word ops.Sdiv) (record { plain = refl; class = refl }) s args h k (raws.value_operands n ops.Sdiv) (λ x y. refl)
  pure_read ops.Srem s args h k = binary_args (op_word ops.Srem) (record { plain = refl; class = refl }) s args h k (raws.value_operands n ops.Srem) (λ x y. refl)
  pure_read ops.Ishl s args h k = binary_args (op_word ops.Ishl) (record { plain = refl; class = refl }) s args h k (raws.value_operands n ops.Ishl) (λ x y. refl)
  pure_read ops.Ushr s args h k = binary_args (op_word ops.Ushr) (record { plain = refl; class = refl }) s args h k (raws.value_operands n ops.Ushr) (λ x y. refl)
  pure_read ops.Sshr s args h k = binary_args (op_word ops.Sshr) (record { plain = refl; class = refl }) s args h k (raws.value_operands n ops.Sshr) (λ x y. refl)
  pure_read ops.Rotl s args h k = binary_args (op_word ops.Rotl) (record { plain = refl; class = refl }) s args h k (raws.value_operands n ops.Rotl) (λ x y. refl)
  pure_read ops.Rotr s args h k = binary_args (op_word ops.Rotr) (record { plain = refl; class = refl }) s args h k (raws.value_operands n ops.Rotr) (λ x y. refl)
  pure_read ops.UaddOverflow s args h k = binary_args (op_word ops.UaddOverflow) (record { plain = refl; class = refl }) s args h k (raws.value_operands n ops.UaddOverflow) (λ x y. refl)
  pure_read ops.SaddOverflow s args h k = binary_args (op_word ops.SaddOverflow) (record { plain = refl; class = refl }) s args h k (raws.value_operands n ops.SaddOverflow) (λ x y. refl)
  pure_read ops.UsubOverflow s args h k = binary_args (op_word ops.UsubOverflow) (record { plain = refl; class = refl }) s args h k (raws.value_operands n ops.UsubOverflow) (λ x y. refl)
  pure_read ops.SsubOverflow s args h k = binary_args (op_word ops.SsubOverflow) (record { plain = refl; class = refl }) s args h k (raws.value_operands n ops.SsubOverflow) (λ x y. refl)
  pure_read ops.Iconcat s args h k = binary_args (op_word ops.Iconcat) (record { plain = refl; class = refl }) s args h k (raws.value_operands n ops.Iconcat) (λ x y. refl)
  pure_read ops.Ineg s args h k = unary_args (op_word ops.Ineg) (record { plain = refl; class = refl }) s args h k (raws.value_operands n ops.Ineg) (λ x. refl)
  pure_read ops.Bnot s args h k = unary_args (op_word ops.Bnot) (record { plain = refl; class = refl }) s args h k (raws.value_operands n ops.Bnot) (λ x. refl)
  pure_read ops.Iabs s args h k = unary_args (op_word ops.Iabs) (record { plain = refl; class = refl }) s args h k (raws.value_operands n ops.Iabs) (λ x. refl)
  pure_read ops.Clz s args h k = unary_args (op_word ops.Clz) (record { plain = refl; class = refl }) s args h k (raws.value_operands n ops.Clz) (λ x. refl)
  pure_read ops.Ctz s args h k = unary_args (op_word ops.Ctz) (record { plain = refl; class = refl }) s args h k (raws.value_operands n ops.Ctz) (λ x. refl)
  pure_read ops.Popcnt s args h k = unary_args (op_word ops.Popcnt) (record { plain = refl; class = refl }) s args h k (raws.value_operands n ops.Popcnt) (λ x. refl)
  pure_read ops.Bitrev s args h k = unary_args (op_word ops.Bitrev) (record { plain = refl; class = refl }) s args h k (raws.value_operands n ops.Bitrev) (λ x. refl)
  pure_read ops.Bswap s args h k = unary_args (op_word ops.Bswap) (record { plain = refl; class = refl }) s args h k (raws.value_operands n ops.Bswap) (λ x. refl)
  pure_read ops.Isplit s args h k = unary_args (op_word ops.Isplit) (record { plain = refl; class = refl }) s args h k (raws.value_operands n ops.Isplit) (λ x. refl)
  pure_read (ops.Uextend w) s args h k = convert_args (op_word (ops.Uextend w)) (record { plain = refl; class = refl }) (ty_of w) args h k (raws.value_operands n (ops.Uextend w)) (λ x. refl)
  pure_read (ops.Sextend w) s args h k = convert_args (op_word (ops.Sextend w)) (record { plain = refl; class = refl }) (ty_of w) args h k (raws.value_operands n (ops.Sextend w)) (λ x. refl)
  pure_read (ops.Ireduce w) s args h k = convert_args (op_word (ops.Ireduce w)) (record { plain = refl; class = refl }) (ty_of w) args h k (raws.value_operands n (ops.Ireduce w)) (λ x. refl)
  pure_read (ops.Icmp c) s [] h k = absurd (omega arith)
  pure_read (ops.Icmp c) s (x ∷ []) h k = absurd (omega arith)
  pure_read (ops.Icmp c) s (x ∷ y ∷ []) h k = in_icmp e (icmp_form n (codes "icmp") (record { plain = refl; class = refl }) s c x y k.0 k.1.0)
  pure_read (ops.Icmp c) s (x ∷ y ∷ z ∷ more) h k = absurd (omega arith)
  pure_read ops.Select s [] h k = absurd (omega arith)
  pure_read ops.Select s (c ∷ []) h k = absurd (omega arith)
  pure_read ops.Select s (c ∷ x ∷ []) h k = absurd (omega arith)
  pure_read ops.Select s (c ∷ x ∷ y ∷ []) h k = in_select e (select_form n (codes "select") (record { plain = refl; class = refl }) s c x y k.0 k.1.0 k.1.1.0)
  pure_read ops.Select s (c ∷ x ∷ y ∷ z ∷ more) h k = absurd (omega arith)

  immediate_read : (op : Op) (s : Option Ty) (x : ℕ) → ValueFits n x → (d : DataValue) → has_immediate op ≡ true → is_64_bits (signed (bits_of d.width) d.value) ≡ true → IsInst e (raws.simple n s (insts.PureImm op x d)) (text.simple n s (insts.PureImm op x d))
  unfolding word_meaning all_words
  immediate_read ops.Iadd s x v d h k = in_binary_imm e (binary_imm_form n (op_word ops.Iadd ++ codes "_imm") (record { plain = refl; class = refl }) s x v (signed (bits_of d.width) d.value) k)
  immediate_read ops.Imul s x v d h k = in_binary_imm e (binary_imm_form n (op_word ops.Imul ++ codes "_imm") (record { plain = refl; class = refl }) s x v (signed (bits_of d.width) d.value) k)
  immediate_read ops.Band s x v d h k = in_binary_imm e (binary_imm_form n (op_word ops.Band ++ codes "_imm") (record { plain = refl; class = refl }) s x v (signed (bits_of d.width) d.value) k)
  immediate_read ops.Bor s x v d h k = in_binary_imm e (binary_imm_form n (op_word ops.Bor ++ codes "_imm") (record { plain = refl; class = refl }) s x v (signed (bits_of d.width) d.value) k)
  immediate_read ops.Bxor s x v d h k = in_binary_imm e (binary_imm_form n (op_word ops.Bxor ++ codes "_imm") (record { plain = refl; class = refl }) s x v (signed (bits_of d.width) d.value) k)
  immediate_read ops.Ishl s x v d h k = in_binary_imm e (binary_imm_form n (op_word ops.Ishl ++ codes "_imm") (record { plain = refl; class = refl }) s x v (signed (bits_of d.width) d.value) k)
  immediate_read ops.Ushr s x v d h k = in_binary_imm e (binary_imm_form n (op_word ops.Ushr ++ codes "_imm") (record { plain = refl; class = refl }) s x v (signed (bits_of d.width) d.value) k)
  immediate_read ops.Sshr s x v d h k = in_binary_imm e (binary_imm_form n (op_word ops.Sshr ++ codes "_imm") (record { plain = refl; class = refl }) s x v (signed (bits_of d.width) d.value) k)
  immediate_read (ops.Icmp c) s x v d h k = in_icmp_imm e (icmp_imm_form n (codes "icmp_imm") (record { plain = refl; class = refl }) s c x v (signed (bits_of d.width) d.value) k)
  immediate_read ops.Isub s x v d h k = absurd cc
  immediate_read ops.Smin s x v d h k = absurd cc
  immediate_read ops.Smax s x v d h k = absurd cc
  immediate_read ops.Umin s x v d h k = absurd cc
  immediate_read ops.Umax s x v d h k = absurd cc
  immediate_read ops.Umulhi s x v d h k = absurd cc
  immediate_read ops.Smulhi s x v d h k = absurd cc
  immediate_read ops.Udiv s x v d h k = absurd cc
  immediate_read ops.Urem s x v d h k = absurd cc
  immediate_read ops.Sdiv s x v d h k = absurd cc
  immediate_read ops.Srem s x v d h k = absurd cc
  immediate_read ops.Rotl s x v d h k = absurd cc
  immediate_read ops.Rotr s x v d h k = absurd cc
  immediate_read ops.UaddOverflow s x v d h k = absurd cc
  immediate_read ops.SaddOverflow s x v d h k = absurd cc
  immediate_read ops.UsubOverflow s x v d h k = absurd cc
  immediate_read ops.SsubOverflow s x v d h k = absurd cc
  immediate_read ops.Iconcat s x v d h k = absurd cc
  immediate_read ops.Ineg s x v d h k = absurd cc
  immediate_read ops.Bnot s x v d h k = absurd cc
  immediate_read ops.Iabs s x v d h k = absurd cc
  immediate_read ops.Clz s x v d h k = absurd cc
  immediate_read ops.Ctz s x v d h k = absurd cc
  immediate_read ops.Popcnt s x v d h k = absurd cc
  immediate_read ops.Bitrev s x v d h k = absurd cc
  immediate_read ops.Bswap s x v d h k = absurd cc
  immediate_read ops.Isplit s x v d h k = absurd cc
  immediate_read ops.Select s x v d h k = absurd cc
  immediate_read (ops.Uextend w) s x v d h k = absurd cc
  immediate_read (ops.Sextend w) s x v d h k = absurd cc
  immediate_read (ops.Ireduce w) s x v d h k = absurd cc

  -- ---- memory

  abbrev LoadRead : Access → Flags → ℕ → ℤ → Type 0
  LoadRead a f p o = (s : Option Ty) → IsInst e (raws.simple n s (insts.Load a f p o)) (text.simple n s (insts.Load a f p o))

  full_read : (t : Ty) (f : Flags) (p : ℕ) (o : ℤ) → ValueFits n p → not (f.big && f.little) ≡ true → is_64_bits o ≡ true → LoadRead (access.Full t) f p o
  unfolding word_meaning all_words
  full_read t f p o v h k s = in_load e (load_form n (Word (codes "load")) (codes "load") (opcode_reads (codes "load") classes.Load (record { plain = refl; class = refl })) t f p o v h k)

  -- a suffix that is left out where it says i64
  wide_suffix : (s : Option Ty) → text.suffix_but_i64 s ≡ text.suffix_if (raws.but_i64 s)
  wide_suffix None = refl
  wide_suffix (Some ty.I8) = refl
  wide_suffix (Some ty.I16) = refl
  wide_suffix (Some ty.I32) = refl
  wide_suffix (Some ty.I64) = refl
  wide_suffix (Some ty.I128) = refl

  wide_read : (w : Text) (word : List ℕ) → Reads (one classes.LoadWide) opcode_named (raws.opcode word) w → (f : Flags) (p : ℕ) (o : ℤ) → ValueFits n p → not (f.big && f.little) ≡ true → is_64_bits o ≡ true → (s : Option Ty)
      → IsInst e (raw (raws.opcode word) (raws.but_i64 s) (operands.Load (raws.flags f) (raws.value n p) (raws.offset o))) ((w ▹ text.suffix_but_i64 s) ▹ space ▹ text.flags f ▹ text.address n p o)
  wide_read w word opcode f p o v h k s =
      subst (λ (t : Text). IsInst e (raw (raws.opcode word) (raws.but_i64 s) (operands.Load (raws.flags f) (raws.value n p) (raws.offset o))) ((w ▹ t) ▹ space ▹ text.flags f ▹ text.address n p o))
      (sym (wide_suffix s)) (in_load_wide e (load_wide_form n w word opcode (raws.but_i64 s) f p o v h k))

  uload_read : (t : Ty) (bytes : ℕ) (f : Flags) (p : ℕ) (o : ℤ) → ValueFits n p → is_bytes bytes ≡ true → not (f.big && f.little) ≡ true → is_64_bits o ≡ true → LoadRead (access.Uload t bytes) f p o
  uload_read t bytes f p o v is h k = by_bytes (λ (b : ℕ). LoadRead (access.Uload t b) f p o) bytes is
      (λ s. in_load e (load_form n (Numbered (codes "uload") 8) (codes "uload" ++ decimal 8) uload8 t f p o v h k))
      (λ s. in_load e (load_form n (Numbered (codes "uload") 16) (codes "uload" ++ decimal 16) uload16 t f p o v h k))
      (wide_read (Numbered (codes "uload") 32) (codes "uload" ++ decimal 32) uload32 f p o v h k)

  sload_read : (t : Ty) (bytes : ℕ) (f : Flags) (p : ℕ) (o : ℤ) → ValueFits n p → is_bytes bytes ≡ true → not (f.big && f.little) ≡ true → is_64_bits o ≡ true → LoadRead (access.Sload t bytes) f p o
  sload_read t bytes f p o v is h k = by_bytes (λ (b : ℕ). LoadRead (access.Sload t b) f p o) bytes is
      (λ s. in_load e (load_form n (Numbered (codes "sload") 8) (codes "sload" ++ decimal 8) sload8 t f p o v h k))
      (λ s. in_load e (load_form n (Numbered (codes "sload") 16) (codes "sload" ++ decimal 16) sload16 t f p o v h k))
      (wide_read (Numbered (codes "sload") 32) (codes "sload" ++ decimal 32) sload32 f p o v h k)

  load_read : (l : Line) (a : Access) (f : Flags) (p : ℕ) (o : ℤ) → ValueFits n p → not (f.big && f.little) ≡ true → is_64_bits o ≡ true → AccessForm l a → LoadRead a f p o
  load_read l (access.Full t) f p o v h k form = full_read t f p o v h k
  load_read l (access.Uload t bytes) f p o v h k form = uload_read t bytes f p o v form.0 h k
  load_read l (access.Sload t bytes) f p o v h k form = sload_read t bytes f p o v form.0 h k

  abbrev StoreRead : Option ℕ → Flags → ℕ → ℕ → ℤ → Type 0
  StoreRead narrow f x p o = (s : Option Ty) → IsInst e (raws.simple n s (insts.Store narrow f x p o)) (text.simple n s (insts.Store narrow f x p o))

  store_read : (narrow : Option ℕ) (f : Flags) (x p : ℕ) (o : ℤ) → ValueFits n x → ValueFits n p → not (f.big && f.little) ≡ true → is_64_bits o ≡ true → StoreForm narrow → StoreRead narrow f x p o
  unfolding word_meaning all_words
  store_read None f x p o u v h k form s = in_store e (store_form n (Word (codes "store")) (codes "store") (opcode_reads (codes "store") classes.Store (record { plain = refl; class = refl })) s f x p o u v h k)
  store_read (Some bytes) f x p o u v h k form s = by_bytes (λ (b : ℕ). StoreRead (Some b) f x p o) bytes form
      (λ s. in_store e (store_form n (Numbered (codes "istore") 8) (codes "istore" ++ decimal 8) istore8 s f x p o u v h k))
      (λ s. in_store e (store_form n (Numbered (codes "istore") 16) (codes "istore" ++ decimal 16) istore16 s f x p o u v h k))
      (λ s. in_store e (store_form n (Numbered (codes "istore") 32) (codes "istore" ++ decimal 32) istore32 s f x p o u v h k)) s

  -- ---- all forms

  small_number : (k : ℕ) → k ≤ greatest_number → k < 2 ^ 64
  small_number k h = omega arith

  simple_read : (f : Function) (l : Line) (s : Option Ty) (i : Simple) → SimpleForm f l i → SimpleNumbers i → Each (ValueFits n) (simple_used i) → IsInst e (raws.simple n s i) (text.simple n s i)
  unfolding word_meaning all_words
  simple_read f l s insts.Nop h k v = in_nullary e (nullary_form (codes "nop") (record { plain = refl; class = refl }))
  simple_read f l s (insts.Const d) h k v = in_iconst e (iconst_form (codes "iconst") (record { plain = refl; class = refl }) (ty_of d.width) (signed (bits_of d.width) d.value) (constant_64_bits d h.1))
  simple_read f l s (insts.Pure op args) h k v = pure_read op s args h.0 v
  simple_read f l s (insts.PureImm op x d) h k v = immediate_read op s x v.0 d h.0 (immediate_64_bits op d h.1)
  simple_read f l s (insts.Load a g p o) h k v = load_read l a g p o v.0 h.0 (offset_64_bits o h.1) h.2 s
  simple_read f l s (insts.Store narrow g x p o) h k v = store_read narrow g x p o v.0 v.1.0 h.0 (offset_64_bits o h.1) h.2 s
  simple_read f l s (insts.StackLoad t slot o) h k v = in_stack_load e (stack_load_form n (codes "stack_load") (record { plain = refl; class = refl }) t slot o (small_number slot k) (offset_64_bits o h.0))
  simple_read f l s (insts.StackStore x slot o) h k v = in_stack_store e (stack_store_form n (codes "stack_store") (record { plain = refl; class = refl }) s x slot o v.0 (small_number slot k) (offset_64_bits o h.0))
  simple_read f l s (insts.FuncAddr callee) h k v = in_func_addr e (func_addr_form n (codes "func_addr") (record { plain = refl; class = refl }) callee (small_number callee k))
  simple_read f l s (insts.Trap c) h k v = in_trap_inst e (trap_form (codes "trap") (record { plain = refl; class = refl }) c h.0)
  simple_read f l s (insts.Trapz x c) h k v = in_trap_if e (trap_if_form n (codes "trapz") (record { plain = refl; class = refl }) s x c v.0 h.0)
  simple_read f l s (insts.Trapnz x c) h k v = in_trap_if e (trap_if_form n (codes "trapnz") (record { plain = refl; class = refl }) s x c v.0 h.0)

-- a `return` has its values behind it
abbrev pub NoReturn : Instruction → Type 0
NoReturn (insts.Return vs) = ⊥
NoReturn i = ⊤

-- ---- targets: what is asked of them where they stand, and that their numbers are those of words

module _ (n : Numbering) where
  args_fit : (P : Arg → Type 0) (xs : List Arg) → Each P xs → Each (ArgFits n) xs → Each (ArgReads n P) xs
  args_fit P [] h k = tt
  args_fit P (x ∷ xs) h k = ((h.0, k.0), args_fit P xs h.1 k.1)

  target_fits : (P : Arg → Type 0) (t : BlockCall) → TargetWritable P t → TargetFits n t → TargetReads n P t
  target_fits P t h k = (k.0, args_fit P t.args h k.1)

  targets_fit : (P : Arg → Type 0) (ts : List BlockCall) → Each (TargetWritable P) ts → Each (TargetFits n) ts → Each (TargetReads n P) ts
  targets_fit P [] h k = tt
  targets_fit P (t ∷ ts) h k = (target_fits P t h.0 k.0, targets_fit P ts h.1 k.1)

  entries_fit : (es : List (Entry BlockCall)) → Each TableWritable es → Each (TargetFits n) (table_targets es) → Each (EntryReads n) es
  entries_fit [] h k = tt
  entries_fit (x ∷ es) h k = ((h.0.0, target_fits TableArg x.target h.0.1 k.0), entries_fit es h.1 k.1)

module _ (n : Numbering) (e : List Class) where
  pub inst_read : (f : Function) (l : Line) (s : Option Ty) (i : Instruction) → InstructionForm f l i → Spellable n i → NoReturn i → IsInst e (raws.instruction n s i) (text.instruction n s i)
  unfolding word_meaning all_words
  inst_read f l s (insts.Plain i) h k r = simple_read n e f l s i h k.numbers k.values
  inst_read f l s (insts.Branches (insts.Jump t)) h k r =
      let ts = k.targets in
      in_jump e (jump_form n (codes "jump") (record { plain = refl; class = refl }) t (target_fits n ValueArg t h.1.0 ts.0))
  inst_read f l s (insts.Branches (insts.Brif x t u)) h k r =
      let vs = k.values in let ts = k.targets in
      in_brif e (brif_form n (codes "brif") (record { plain = refl; class = refl }) s x t u vs.0 (target_fits n ValueArg t h.1.0 ts.0) (target_fits n ValueArg u h.1.1.0 ts.1.0))
  inst_read f l s (insts.Branches (insts.BrTable x t ts)) h k r =
      let vs = k.values in let us = k.targets in
      in_br_table e (br_table_form n (codes "br_table") (record { plain = refl; class = refl }) x t ts vs.0 (target_fits n ValueArg t h.1.0 us.0) (targets_fit n ValueArg ts h.1.1 us.1))
  inst_read f l s insts.SequencePoint h k r = in_nullary e (nullary_form (codes "sequence_point") (record { plain = refl; class = refl }))
  inst_read f l s (insts.Return vs) h k r = absurd r
  inst_read f l s (insts.Call (insts.Direct callee) args) h k r =
      let a = k.numbers in
      in_call e (call_form n (codes "call") (record { plain = refl; class = refl }) callee args k.values (omega arith))
  inst_read f l s (insts.Call (insts.Indirect sig p) args) h k r =
      let a = k.numbers in let vs = k.values in
      in_call_indirect e (call_indirect_form n (codes "call_indirect") (record { plain = refl; class = refl }) sig p args vs.0 vs.1 (omega arith))
  inst_read f l s (insts.ReturnCall (insts.Direct callee) args) h k r =
      let a = k.numbers in
      in_call e (call_form n (codes "return_call") (record { plain = refl; class = refl }) callee args k.values (omega arith))
  inst_read f l s (insts.ReturnCall (insts.Indirect sig p) args) h k r =
      let a = k.numbers in let vs = k.values in
      in_call_indirect e (call_indirect_form n (codes "return_call_indirect") (record { plain = refl; class = refl }) sig p args vs.0 vs.1 (omega arith))
  inst_read f l s (insts.TryCall (insts.TryDirect callee) sig args normal table) h k r =
      let c = k.numbers in let a = c.0 in let b = c.1 in let ts = k.targets in
      in_try_call e (try_call_form n (codes "try_call") (record { plain = refl; class = refl }) callee sig args normal table k.values (omega arith) (omega arith)
      (target_fits n NormalArg normal h.1 ts.0) (entries_fit n table h.2 ts.1))
  inst_read f l s (insts.TryCall (insts.TryIndirect p) sig args normal table) h k r =
      let c = k.numbers in let b = c.1 in let vs = k.values in let ts = k.targets in
      in_try_call_indirect e (try_call_indirect_form n (codes "try_call_indirect") (record { plain = refl; class = refl }) p sig args normal table vs.0 vs.1 (omega arith)
      (target_fits n NormalArg normal h.1 ts.0) (entries_fit n table h.2 ts.1))
