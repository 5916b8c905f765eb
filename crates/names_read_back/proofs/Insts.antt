-- Each form of a raw instruction means its instruction, under the numbers that the text's numbers mean.
use Rattle.std.proofs.Common.{◌≡◌, ℕ, ◌++◌, ◌==◌, true, List, [], ◌∷◌, length, Option, Some, None, refl, sym, ap, ap₂, ◌∙◌, arith}
use Rattle.std.specs.Prelude.{codes, map, ℤ}
use Rattle.std.specs.Fmt.{decimal}
use Rattle.clk_num.specs.Numbers.{signed}
use Rattle.clk_num.specs.Operations.{DataValue}
use Rattle.clk_num.specs.Width.{bits_of}
use Rattle.clk_num.specs.declared.width.Width.{Width}
use Rattle.clk_num.specs.declared.op.Cc.{Cc}
use Rattle.clk_num.specs.declared.op.Op.{Op}
use Rattle.clk_num.specs.declared.op.Op.TheVariants as ops
use Rattle.clk_num.specs.declared.op.TrapCode.{TrapCode}
use Rattle.exn_tables.specs.declared.table.Entry.{Entry}
use Rattle.ir_core.specs.declared.instructions.Access.{Access}
use Rattle.ir_core.specs.declared.instructions.Access.TheVariants as access
use Rattle.ir_core.specs.declared.instructions.BlockCall.{BlockCall}
use Rattle.ir_core.specs.declared.instructions.Flags.{Flags}
use Rattle.ir_core.specs.declared.signatures.Ty.{Ty}
use Rattle.ir_core.specs.Forms.{has_immediate}
use Rattle.ir_core.specs.Lookup.{width_of, ty_of}
use Rattle.ir_core.specs.Module.{Simple, Branch, CallTarget, TryTarget, Instruction, Line, Function}
use Rattle.ir_core.specs.Module as insts
use Rattle.ir_text.specs.Numbering.{Numbering}
use Rattle.ir_semantics.specs.Renaming.{Renaming, simple_under, instruction_under, target_under, entry_under}
use Rattle.ir_text.specs.Words.{op_word}
use Rattle.ir_text.specs.Writable.{op_operands, conversion, ImmediateWritable, NarrowForm, AccessForm, StoreForm, SimpleForm, InstructionForm}
use Rattle.clif_words.specs.declared.opcodes.Opcode.{Opcode}
use Rattle.clif_words.specs.declared.opcodes.Opcode.TheVariants as opcode
use Rattle.clif_words.specs.Opcodes.{opcode_of}
use Rattle.clif_words.specs.Table.{all_words}
use Rattle.clif_words.specs.Words.{word_meaning}
use Rattle.clif_insts.specs.declared.raw.RawInst.{RawInst}
use Rattle.clif_insts.specs.declared.raw.RawOperands.{RawOperands}
use Rattle.clif_insts.specs.declared.raw.RawOperands.TheVariants as form
use Rattle.clif_meaning.specs.Operations.{operation, access_of, stored_bytes}
use Rattle.clif_meaning.specs.Instructions as says
use Rattle.text_read_back.specs.RawOf as raws
use Rattle.names_read_back.specs.ReadNames.{read_under, ConversionType, NarrowType, AccessType, SimpleType, IsTypeFor}
use Rattle.names_read_back.proofs.Opcodes.{Spells, plain_opcode, op_spells, uload_8, uload_16, uload_32, sload_8, sload_16, sload_32, istore_8, istore_16, istore_32, load_spells, store_spells, trapz_spells, trapnz_spells, call_spells, return_call_spells, call_indirect_spells, return_call_indirect_spells, nop_spells, sequence_point_spells}
use Rattle.names_read_back.proofs.Operands.{code_back, offset_back, flags_back, values_back, target_back, targets_back, entries_back}
use Rattle.ir_semantics.proofs.SafetyTypes.{width_ty}
use Rattle.names_read_back.proofs.Constants.{constant_back, immediate_back}
use Rattle.text_read_back.proofs.Bytes.{by_bytes}

module _ (n : Numbering) (at : Renaming) where
  abbrev r : Renaming
  r = read_under n at

  -- what a raw instruction means as one of type t
  abbrev meaning : Ty → RawInst → Instruction
  meaning t i = says.instruction_of at (i.opcode.kind) t i.operands

  -- ---- operations on values

  module _ (o : Op) (t : Ty) (same : operation (plain_opcode o) t ≡ o) (k : List ℕ → RawOperands) where
    pure_with : (vs : List ℕ) → operation ((raws.opcode (op_word o)).kind) t ≡ o
    pure_with vs = ap (λ (c : Opcode). operation c t) (op_spells o) ∙ same

    binary_back : ((x y : ℕ) → k (x ∷ y ∷ []) ≡ form.Binary (raws.value n x) (raws.value n y)) → (args : List ℕ) → length args ≡ 2
        → says.instruction_of at ((raws.opcode (op_word o)).kind) t (k args) ≡ insts.Plain (insts.Pure o (map r.value args))
    binary_back is [] h = absurd (omega arith)
    binary_back is (x ∷ []) h = absurd (omega arith)
    binary_back is (x ∷ y ∷ []) h =
        ap (says.instruction_of at ((raws.opcode (op_word o)).kind) t) (is x y)
        ∙ ap (λ (p : Op). insts.Plain (insts.Pure p (r.value x ∷ r.value y ∷ []))) (pure_with [])
    binary_back is (x ∷ y ∷ z ∷ more) h = absurd (omega arith)

    unary_back : ((x : ℕ) → k (x ∷ []) ≡ form.Unary (raws.value n x)) → (args : List ℕ) → length args ≡ 1
        → says.instruction_of at ((raws.opcode (op_word o)).kind) t (k args) ≡ insts.Plain (insts.Pure o (map r.value args))
    unary_back is [] h = absurd (omega arith)
    unary_back is (x ∷ []) h =
        ap (says.instruction_of at ((raws.opcode (op_word o)).kind) t) (is x)
        ∙ ap (λ (p : Op). insts.Plain (insts.Pure p (r.value x ∷ []))) (pure_with [])
    unary_back is (x ∷ y ∷ more) h = absurd (omega arith)

    ternary_back : ((c x y : ℕ) → k (c ∷ x ∷ y ∷ []) ≡ form.Ternary (raws.value n c) (raws.value n x) (raws.value n y)) → (args : List ℕ) → length args ≡ 3
        → says.instruction_of at ((raws.opcode (op_word o)).kind) t (k args) ≡ insts.Plain (insts.Pure o (map r.value args))
    ternary_back is [] h = absurd (omega arith)
    ternary_back is (c ∷ []) h = absurd (omega arith)
    ternary_back is (c ∷ x ∷ []) h = absurd (omega arith)
    ternary_back is (c ∷ x ∷ y ∷ []) h =
        ap (says.instruction_of at ((raws.opcode (op_word o)).kind) t) (is c x y)
        ∙ ap (λ (p : Op). insts.Plain (insts.Pure p (r.value c ∷ r.value x ∷ r.value y ∷ []))) (pure_with [])
    ternary_back is (c ∷ x ∷ y ∷ z ∷ more) h = absurd (omega arith)

  compare_back : (c : Cc) (t : Ty) (args : List ℕ) → length args ≡ 2
      → says.instruction_of at ((raws.opcode (op_word (ops.Icmp c))).kind) t (raws.value_operands n (ops.Icmp c) args) ≡ insts.Plain (insts.Pure (ops.Icmp c) (map r.value args))
  compare_back c t [] h = absurd (omega arith)
  compare_back c t (x ∷ []) h = absurd (omega arith)
  compare_back c t (x ∷ y ∷ []) h = refl
  compare_back c t (x ∷ y ∷ z ∷ more) h = absurd (omega arith)

  converts : (t : Ty) (w : Width) (o : Width → Op) → t ≡ ty_of w → o (width_of t) ≡ o w
  converts t w o e = ap (λ (u : Ty). o (width_of u)) e ∙ ap o (width_ty w)

  pure_back : (o : Op) (t : Ty) (args : List ℕ) → length args ≡ op_operands o → ConversionType t (conversion o)
      → meaning t (raws.simple n None (insts.Pure o args)) ≡ insts.Plain (insts.Pure o (map r.value args))
  pure_back ops.Iadd t args h k = binary_back ops.Iadd t refl (raws.value_operands n ops.Iadd) (λ x y. refl) args h
  pure_back ops.Isub t args h k = binary_back ops.Isub t refl (raws.value_operands n ops.Isub) (λ x y. refl) args h
  pure_back ops.Imul t args h k = binary_back ops.Imul t refl (raws.value_operands n ops.Imul) (λ x y. refl) args h
  pure_back ops.Band t args h k = binary_back ops.Band t refl (raws.value_operands n ops.Band) (λ x y. refl) args h
  pure_back ops.Bor t args h k = binary_back ops.Bor t refl (raws.value_operands n ops.Bor) (λ x y. refl) args h
  pure_back ops.Bxor t args h k = binary_back ops.Bxor t refl (raws.value_operands n ops.Bxor) (λ x y. refl) args h
  pure_back ops.Smin t args h k = binary_back ops.Smin t refl (raws.value_operands n ops.Smin) (λ x y. refl) args h
  pure_back ops.Smax t args h k = binary_back ops.Smax t refl (raws.value_operands n ops.Smax) (λ x y. refl) args h
  pure_back ops.Umin t args h k = binary_back ops.Umin t refl (raws.value_operands n ops.Umin) (λ x y. refl) args h
  pure_back ops.Umax t args h k = binary_back ops.Umax t refl (raws.value_operands n ops.Umax) (λ x y. refl) args h
  pure_back ops.Umulhi t args h k = binary_back ops.Umulhi t refl (raws.value_operands n ops.Umulhi) (λ x y. refl) args h
  pure_back ops.Smulhi t args h k = binary_back ops.Smulhi t refl (raws.value_operands n ops.Smulhi) (λ x y. refl) args h
  pure_back ops.Udiv t args h k = binary_back ops.Udiv t refl (raws.value_operands n ops.Udiv) (λ x y. refl) args h
  pure_back ops.Urem t args h k = binary_back ops.Urem t refl (raws.value_operands n ops.Urem) (λ x y. refl) args h
  pure_back ops.Sdiv t args h k = binary_back ops.Sdiv t refl (raws.value_operands n ops.Sdiv) (λ x y. refl) args h
  pure_back ops.Srem t args h k = binary_back ops.Srem t refl (raws.value_operands n ops.Srem) (λ x y. refl) args h
  pure_back ops.Ishl t args h k = binary_back ops.Ishl t refl (raws.value_operands n ops.Ishl) (λ x y. refl) args h
  pure_back ops.Ushr t args h k = binary_back ops.Ushr t refl (raws.value_operands n ops.Ushr) (λ x y. refl) args h
  pure_back ops.Sshr t args h k = binary_back ops.Sshr t refl (raws.value_operands n ops.Sshr) (λ x y. refl) args h
  pure_back ops.Rotl t args h k = binary_back ops.Rotl t refl (raws.value_operands n ops.Rotl) (λ x y. refl) args h
  pure_back ops.Rotr t args h k = binary_back ops.Rotr t refl (raws.value_operands n ops.Rotr) (λ x y. refl) args h
  pure_back ops.UaddOverflow t args h k = binary_back ops.UaddOverflow t refl (raws.value_operands n ops.UaddOverflow) (λ x y. refl) args h
  pure_back ops.SaddOverflow t args h k = binary_back ops.SaddOverflow t refl (raws.value_operands n ops.SaddOverflow) (λ x y. refl) args h
  pure_back ops.UsubOverflow t args h k = binary_back ops.UsubOverflow t refl (raws.value_operands n ops.UsubOverflow) (λ x y. refl) args h
  pure_back ops.SsubOverflow t args h k = binary_back ops.SsubOverflow t refl (raws.value_operands n ops.SsubOverflow) (λ x y. refl) args h
  pure_back ops.Iconcat t args h k = binary_back ops.Iconcat t refl (raws.value_operands n ops.Iconcat) (λ x y. refl) args h
  pure_back ops.Ineg t args h k = unary_back ops.Ineg t refl (raws.value_operands n ops.Ineg) (λ x. refl) args h
  pure_back ops.Bnot t args h k = unary_back ops.Bnot t refl (raws.value_operands n ops.Bnot) (λ x. refl) args h
  pure_back ops.Iabs t args h k = unary_back ops.Iabs t refl (raws.value_operands n ops.Iabs) (λ x. refl) args h
  pure_back ops.Clz t args h k = unary_back ops.Clz t refl (raws.value_operands n ops.Clz) (λ x. refl) args h
  pure_back ops.Ctz t args h k = unary_back ops.Ctz t refl (raws.value_operands n ops.Ctz) (λ x. refl) args h
  pure_back ops.Popcnt t args h k = unary_back ops.Popcnt t refl (raws.value_operands n ops.Popcnt) (λ x. refl) args h
  pure_back ops.Bitrev t args h k = unary_back ops.Bitrev t refl (raws.value_operands n ops.Bitrev) (λ x. refl) args h
  pure_back ops.Bswap t args h k = unary_back ops.Bswap t refl (raws.value_operands n ops.Bswap) (λ x. refl) args h
  pure_back ops.Isplit t args h k = unary_back ops.Isplit t refl (raws.value_operands n ops.Isplit) (λ x. refl) args h
  pure_back ops.Select t args h k = ternary_back ops.Select t refl (raws.value_operands n ops.Select) (λ c x y. refl) args h
  pure_back (ops.Icmp c) t args h k = compare_back c t args h
  pure_back (ops.Uextend w) t args h k = unary_back (ops.Uextend w) t (converts t w ops.Uextend k) (raws.value_operands n (ops.Uextend w)) (λ x. refl) args h
  pure_back (ops.Sextend w) t args h k = unary_back (ops.Sextend w) t (converts t w ops.Sextend k) (raws.value_operands n (ops.Sextend w)) (λ x. refl) args h
  pure_back (ops.Ireduce w) t args h k = unary_back (ops.Ireduce w) t (converts t w ops.Ireduce k) (raws.value_operands n (ops.Ireduce w)) (λ x. refl) args h

  -- ---- immediates

  -- the operation of an opcode's word with `_imm`
  abbrev immediate_operation : Op → Ty → Op
  immediate_operation o t = operation ((raws.opcode (op_word o ++ codes "_imm")).kind) t

  with_number : (o p : Op) (t : Ty) (x : ℕ) (d : DataValue) → p ≡ o → t ≡ ty_of d.width → ImmediateWritable o d
      → insts.Plain (insts.PureImm p (r.value x) (says.immediate p t (signed (bits_of d.width) d.value))) ≡ insts.Plain (insts.PureImm o (r.value x) d)
  with_number o p t x d same e k =
      ap (λ (q : Op). insts.Plain (insts.PureImm q (r.value x) (says.immediate q t (signed (bits_of d.width) d.value)))) same
      ∙ ap (λ (u : Ty). insts.Plain (insts.PureImm o (r.value x) (says.immediate o u (signed (bits_of d.width) d.value)))) e
      ∙ ap (λ (y : DataValue). insts.Plain (insts.PureImm o (r.value x) y)) (immediate_back o d k)

  immediates_back : (o : Op) (s : Option Ty) (t : Ty) (x : ℕ) (d : DataValue) → has_immediate o ≡ true → t ≡ ty_of d.width → ImmediateWritable o d
      → meaning t (raws.simple n s (insts.PureImm o x d)) ≡ insts.Plain (insts.PureImm o (r.value x) d)
  unfolding word_meaning all_words opcode_of
  immediates_back ops.Iadd s t x d h e k = with_number ops.Iadd (immediate_operation ops.Iadd t) t x d refl e k
  immediates_back ops.Imul s t x d h e k = with_number ops.Imul (immediate_operation ops.Imul t) t x d refl e k
  immediates_back ops.Band s t x d h e k = with_number ops.Band (immediate_operation ops.Band t) t x d refl e k
  immediates_back ops.Bor s t x d h e k = with_number ops.Bor (immediate_operation ops.Bor t) t x d refl e k
  immediates_back ops.Bxor s t x d h e k = with_number ops.Bxor (immediate_operation ops.Bxor t) t x d refl e k
  immediates_back ops.Ishl s t x d h e k = with_number ops.Ishl (immediate_operation ops.Ishl t) t x d refl e k
  immediates_back ops.Ushr s t x d h e k = with_number ops.Ushr (immediate_operation ops.Ushr t) t x d refl e k
  immediates_back ops.Sshr s t x d h e k = with_number ops.Sshr (immediate_operation ops.Sshr t) t x d refl e k
  immediates_back (ops.Icmp c) s t x d h e k = with_number (ops.Icmp c) (ops.Icmp c) t x d refl e k
  immediates_back ops.Isub s t x d h e k = absurd cc
  immediates_back ops.Smin s t x d h e k = absurd cc
  immediates_back ops.Smax s t x d h e k = absurd cc
  immediates_back ops.Umin s t x d h e k = absurd cc
  immediates_back ops.Umax s t x d h e k = absurd cc
  immediates_back ops.Umulhi s t x d h e k = absurd cc
  immediates_back ops.Smulhi s t x d h e k = absurd cc
  immediates_back ops.Udiv s t x d h e k = absurd cc
  immediates_back ops.Urem s t x d h e k = absurd cc
  immediates_back ops.Sdiv s t x d h e k = absurd cc
  immediates_back ops.Srem s t x d h e k = absurd cc
  immediates_back ops.Rotl s t x d h e k = absurd cc
  immediates_back ops.Rotr s t x d h e k = absurd cc
  immediates_back ops.UaddOverflow s t x d h e k = absurd cc
  immediates_back ops.SaddOverflow s t x d h e k = absurd cc
  immediates_back ops.UsubOverflow s t x d h e k = absurd cc
  immediates_back ops.SsubOverflow s t x d h e k = absurd cc
  immediates_back ops.Iconcat s t x d h e k = absurd cc
  immediates_back ops.Ineg s t x d h e k = absurd cc
  immediates_back ops.Bnot s t x d h e k = absurd cc
  immediates_back ops.Iabs s t x d h e k = absurd cc
  immediates_back ops.Clz s t x d h e k = absurd cc
  immediates_back ops.Ctz s t x d h e k = absurd cc
  immediates_back ops.Popcnt s t x d h e k = absurd cc
  immediates_back ops.Bitrev s t x d h e k = absurd cc
  immediates_back ops.Bswap s t x d h e k = absurd cc
  immediates_back ops.Isplit s t x d h e k = absurd cc
  immediates_back ops.Select s t x d h e k = absurd cc
  immediates_back (ops.Uextend w) s t x d h e k = absurd cc
  immediates_back (ops.Sextend w) s t x d h e k = absurd cc
  immediates_back (ops.Ireduce w) s t x d h e k = absurd cc

  -- ---- memory

  abbrev ReadsAccess : Ty → Access → Type 0
  ReadsAccess t a = access_of ((raws.opcode (raws.load_word a)).kind) t ≡ a

  spelled_access : (w : List ℕ) (o : Opcode) (t : Ty) (a : Access) → Spells w o → access_of o t ≡ a → access_of ((raws.opcode w).kind) t ≡ a
  spelled_access w o t a s e = ap (λ (c : Opcode). access_of c t) s ∙ e

  uload_back : (l : Line) (u t : Ty) (bytes : ℕ) → NarrowForm l u bytes → NarrowType (bytes == 4) t u → ReadsAccess t (access.Uload u bytes)
  uload_back l u t bytes h = by_bytes (λ (k : ℕ). NarrowForm l u k → NarrowType (k == 4) t u → ReadsAccess t (access.Uload u k)) bytes h.0
      (λ h e. spelled_access (codes "uload" ++ decimal 8) opcode.Uload8 t (access.Uload u 1) uload_8 (ap (λ (x : Ty). access.Uload x 1) e))
      (λ h e. spelled_access (codes "uload" ++ decimal 16) opcode.Uload16 t (access.Uload u 2) uload_16 (ap (λ (x : Ty). access.Uload x 2) e))
      (λ h e. spelled_access (codes "uload" ++ decimal 32) opcode.Uload32 t (access.Uload u 4) uload_32 (ap (λ (x : Ty). access.Uload x 4) (sym h.1.1))) h

  sload_back : (l : Line) (u t : Ty) (bytes : ℕ) → NarrowForm l u bytes → NarrowType (bytes == 4) t u → ReadsAccess t (access.Sload u bytes)
  sload_back l u t bytes h = by_bytes (λ (k : ℕ). NarrowForm l u k → NarrowType (k == 4) t u → ReadsAccess t (access.Sload u k)) bytes h.0
      (λ h e. spelled_access (codes "sload" ++ decimal 8) opcode.Sload8 t (access.Sload u 1) sload_8 (ap (λ (x : Ty). access.Sload x 1) e))
      (λ h e. spelled_access (codes "sload" ++ decimal 16) opcode.Sload16 t (access.Sload u 2) sload_16 (ap (λ (x : Ty). access.Sload x 2) e))
      (λ h e. spelled_access (codes "sload" ++ decimal 32) opcode.Sload32 t (access.Sload u 4) sload_32 (ap (λ (x : Ty). access.Sload x 4) (sym h.1.1))) h

  access_back : (l : Line) (a : Access) (t : Ty) → AccessForm l a → AccessType t a → ReadsAccess t a
  access_back l (access.Full u) t h e = spelled_access (codes "load") opcode.Load t (access.Full u) load_spells (ap access.Full e)
  access_back l (access.Uload u bytes) t h e = uload_back l u t bytes h e
  access_back l (access.Sload u bytes) t h e = sload_back l u t bytes h e

  abbrev ReadsBytes : Option ℕ → Type 0
  ReadsBytes k = stored_bytes ((raws.opcode (raws.store_word k)).kind) ≡ k

  bytes_back : (k : Option ℕ) → StoreForm k → ReadsBytes k
  bytes_back None h = ap stored_bytes store_spells
  bytes_back (Some bytes) h = by_bytes (λ (k : ℕ). ReadsBytes (Some k)) bytes h (ap stored_bytes istore_8) (ap stored_bytes istore_16) (ap stored_bytes istore_32)

  -- ---- all forms

  simple_back : (f : Function) (l : Line) (s : Option Ty) (t : Ty) (i : Simple) → SimpleForm f l i → SimpleType t i → meaning t (raws.simple n s i) ≡ insts.Plain (simple_under r i)
  simple_back f l s t insts.Nop h e = ap says.nullary nop_spells
  simple_back f l s t (insts.Const d) h e =
      ap (λ (u : Ty). insts.Plain (insts.Const (says.constant u (signed (bits_of d.width) d.value)))) e ∙ ap (λ (y : DataValue). insts.Plain (insts.Const y)) (constant_back d h.1.0)
  simple_back f l s t (insts.Pure o args) h e = pure_back o t args h.0 e
  simple_back f l s t (insts.PureImm o x d) h e = immediates_back o s t x d h.0 e h.1
  simple_back f l s t (insts.Load a g p z) h e =
      ap (λ (b : Access). insts.Plain (insts.Load b (says.flags_of (raws.flags g)) (r.value p) (says.offset_of (raws.offset z)))) (access_back l a t h.2 e)
      ∙ ap₂ (λ (fs : Flags) (y : ℤ). insts.Plain (insts.Load a fs (r.value p) y)) (flags_back g) (offset_back z)
  simple_back f l s t (insts.Store k g x p z) h e =
      ap (λ (b : Option ℕ). insts.Plain (insts.Store b (says.flags_of (raws.flags g)) (r.value x) (r.value p) (says.offset_of (raws.offset z)))) (bytes_back k h.2)
      ∙ ap₂ (λ (fs : Flags) (y : ℤ). insts.Plain (insts.Store k fs (r.value x) (r.value p) y)) (flags_back g) (offset_back z)
  simple_back f l s t (insts.StackLoad u slot z) h e = ap₂ (λ (w : Ty) (y : ℤ). insts.Plain (insts.StackLoad w (r.slot slot) y)) e (offset_back z)
  simple_back f l s t (insts.StackStore x slot z) h e = ap (λ (y : ℤ). insts.Plain (insts.StackStore (r.value x) (r.slot slot) y)) (offset_back z)
  simple_back f l s t (insts.FuncAddr callee) h e = refl
  simple_back f l s t (insts.Trap c) h e = ap (λ (y : TrapCode). insts.Plain (insts.Trap y)) (code_back c)
  simple_back f l s t (insts.Trapz x c) h e =
      ap₂ (λ (o : Opcode) (y : TrapCode). insts.Plain (says.trap_if o (r.value x) y)) trapz_spells (code_back c)
  simple_back f l s t (insts.Trapnz x c) h e =
      ap₂ (λ (o : Opcode) (y : TrapCode). insts.Plain (says.trap_if o (r.value x) y)) trapnz_spells (code_back c)

  tried_back : (to : TryTarget) (sig : ℕ) (args : List ℕ) (normal : BlockCall) (table : List (Entry BlockCall))
      → insts.TryCall to (r.sig sig) (says.values_at at (raws.values n args)) (says.target_of at (raws.target n normal)) (map (says.entry_of at) (map (raws.entry n) table))
      ≡ insts.TryCall to (r.sig sig) (map r.value args) (target_under r normal) (map (entry_under r) table)
  tried_back to sig args normal table =
      ap (λ (ws : List ℕ). insts.TryCall to (r.sig sig) ws (says.target_of at (raws.target n normal)) (map (says.entry_of at) (map (raws.entry n) table))) (values_back n at args)
      ∙ ap₂ (λ (b : BlockCall) (es : List (Entry BlockCall)). insts.TryCall to (r.sig sig) (map r.value args) b es) (target_back n at normal) (entries_back n at table)

  pub instruction_back : (f : Function) (l : Line) (s : Option Ty) (t : Ty) (i : Instruction) → InstructionForm f l i → IsTypeFor t i → meaning t (raws.instruction n s i) ≡ instruction_under r i
  instruction_back f l s t (insts.Plain i) h e = simple_back f l s t i h e
  instruction_back f l s t (insts.Branches (insts.Jump b)) h e = ap (λ (c : BlockCall). insts.Branches (insts.Jump c)) (target_back n at b)
  instruction_back f l s t (insts.Branches (insts.Brif x b c)) h e =
      ap₂ (λ (d : BlockCall) (e : BlockCall). insts.Branches (insts.Brif (r.value x) d e)) (target_back n at b) (target_back n at c)
  instruction_back f l s t (insts.Branches (insts.BrTable x b bs)) h e =
      ap₂ (λ (d : BlockCall) (ds : List BlockCall). insts.Branches (insts.BrTable (r.value x) d ds)) (target_back n at b) (targets_back n at bs)
  instruction_back f l s t insts.SequencePoint h e = ap says.nullary sequence_point_spells
  instruction_back f l s t (insts.Return vs) h e = ap insts.Return (values_back n at vs)
  instruction_back f l s t (insts.Call (insts.Direct callee) args) h e =
      ap₂ (λ (o : Opcode) (ws : List ℕ). says.call o (insts.Direct (r.callee callee)) ws) call_spells (values_back n at args)
  instruction_back f l s t (insts.Call (insts.Indirect sig p) args) h e =
      ap₂ (λ (o : Opcode) (ws : List ℕ). says.call o (insts.Indirect (r.sig sig) (r.value p)) ws) call_indirect_spells (values_back n at args)
  instruction_back f l s t (insts.ReturnCall (insts.Direct callee) args) h e =
      ap₂ (λ (o : Opcode) (ws : List ℕ). says.call o (insts.Direct (r.callee callee)) ws) return_call_spells (values_back n at args)
  instruction_back f l s t (insts.ReturnCall (insts.Indirect sig p) args) h e =
      ap₂ (λ (o : Opcode) (ws : List ℕ). says.call o (insts.Indirect (r.sig sig) (r.value p)) ws) return_call_indirect_spells (values_back n at args)
  instruction_back f l s t (insts.TryCall (insts.TryDirect callee) sig args normal table) h e = tried_back (insts.TryDirect (r.callee callee)) sig args normal table
  instruction_back f l s t (insts.TryCall (insts.TryIndirect p) sig args normal table) h e = tried_back (insts.TryIndirect (r.value p)) sig args normal table
