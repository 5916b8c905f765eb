-- The type of a raw instruction is that of its line, whether its suffix is printed or left out.
use Rattle.std.proofs.Common.{◌≡◌, ℕ, ◌++◌, ◌<◌, Bool, true, false, List, [], ◌∷◌, length, Option, Some, None, refl, sym, ap, ap₂, ◌∙◌, subst, arith}
use Rattle.std.specs.Prelude.{codes, map, ℤ, nat_lt, is_some, IsSome, slice_get}
use Rattle.std.specs.Fmt.{decimal}
use Rattle.std.specs.Option.{option_map_or}
use Rattle.std.proofs.lemmas.Bool.{and_parts, ltb-true}
use Rattle.clk_num.specs.Operations.{DataValue}
use Rattle.clk_num.specs.declared.width.Width.{Width}
use Rattle.clk_num.specs.declared.op.Cc.{Cc}
use Rattle.clk_num.specs.declared.op.Op.{Op}
use Rattle.clk_num.specs.declared.op.Op.TheVariants as ops
use Rattle.ir_core.specs.declared.instructions.Access.{Access}
use Rattle.ir_core.specs.declared.instructions.Access.TheVariants as access
use Rattle.ir_core.specs.declared.instructions.Flags.{Flags}
use Rattle.debug_tags.specs.declared.tags.Tag.{Tag}
use Rattle.ir_core.specs.declared.signatures.Ty.{Ty}
use Rattle.ir_core.specs.declared.signatures.Ty.TheVariants as ty
use Rattle.ir_core.specs.Forms.{has_immediate, controlling}
use Rattle.ir_core.specs.Lookup.{type_of, ty_of, number_in}
use Rattle.ir_core.specs.Module.{Simple, Branch, CallTarget, Instruction, Line, Function}
use Rattle.ir_core.specs.Module as insts
use Rattle.ir_text.specs.Numbering.{Numbering}
use Rattle.ir_semantics.specs.Renaming.{Renaming, instruction_under, line_under}
use Rattle.ir_core.specs.Signatures.{same_type}
use Rattle.ir_core.proofs.Equal.{type_equal}
use Rattle.ir_text.specs.TextInstructions.{has_type, is_known, shown_suffix, typing_operand}
use Rattle.ir_text.specs.Words.{op_word}
use Rattle.ir_text.specs.Writable.{op_operands, conversion, OpForm, result_types, ResultTypes, NarrowForm, AccessForm, StoreForm, SimpleForm, InstructionForm}
use Rattle.ir_semantics.proofs.SafetyPlaces.{some_and, is_some_is}
use Rattle.clif_words.specs.declared.opcodes.Opcode.{Opcode}
use Rattle.clif_words.specs.declared.opcodes.Opcode.TheVariants as opcode
use Rattle.clif_words.specs.Opcodes.{opcode_of}
use Rattle.clif_words.specs.Table.{all_words}
use Rattle.clif_words.specs.Words.{word_meaning}
use Rattle.clif_insts.specs.InstValues.{raw}
use Rattle.clif_insts.specs.declared.raw.RawFlag.{RawFlag}
use Rattle.clif_insts.specs.declared.raw.RawInst.{RawInst}
use Rattle.token_reader.specs.declared.raw.RawName.{RawName}
use Rattle.token_reader.specs.declared.raw.RawNumber.{RawNumber}
use Rattle.clif_insts.specs.declared.raw.RawOperands.{RawOperands}
use Rattle.clif_insts.specs.declared.raw.RawOperands.TheVariants as form
use Rattle.clif_meaning.specs.Instructions as says
use Rattle.clif_names.specs.Typing.{gives_type}
use Rattle.text_read_back.specs.RawOf as raws
use Rattle.names_read_back.specs.ReadNames.{read_under, AccessType, IsTypeFor}
use Rattle.names_read_back.proofs.Insts.{instruction_back}
use Rattle.names_read_back.proofs.Operands.{values_back, tags_back}
use Rattle.names_read_back.proofs.Opcodes.{Spells, op_spells, store_spells, istore_8, istore_16, istore_32, load_spells, uload_8, uload_16, uload_32, sload_8, sload_16, sload_32}
use Rattle.text_read_back.proofs.Bytes.{by_bytes}

has_this : (own : Option Ty) (t : Ty) → option_map_or (λ u. same_type u t) own false ≡ true → own ≡ Some t
has_this None t h = absurd cc
has_this (Some u) t h = ap Some (type_equal u t h)

-- at is what the text's numbers mean, type the types of the values that are read, next the number of the next definition
module _ (f : Function) (n : Numbering) (at : Renaming) (type : ℕ → Option Ty) (next : ℕ)
    (typed : (v : ℕ) → number_in n.values v < next → type (at.value (number_in n.values v)) ≡ type_of f v) where
  abbrev found : RawInst → Ty
  found i = says.known (says.type_for type at i)

  abbrev kept : RawInst → Option Ty
  kept i = says.kept_type (says.may_leave_out (i.opcode.kind) i.operands) (found i)

  asked : (x : ℕ) (t : Ty) (b : Bool) → is_known f n next t (Some x) ≡ b → (ops : RawOperands) → gives_type ops ≡ Some (raws.value n x) → (w : List ℕ)
      → found (raw (raws.opcode w) (shown_suffix f n next (Some t) (Some x)) ops) ≡ t
  asked x t true h ops gives w =
      let both = and_parts (nat_lt (number_in n.values x) next) (has_type f x t) h in
      let own = typed x (ltb-true (number_in n.values x) next both.0) ∙ has_this (type_of f x) t both.1 in
      rw (h, gives, own) refl
  asked x t false h ops gives w = rw h refl

  -- the type that a reader finds, and the one that it keeps
  abbrev Finds : RawInst → Ty → Option Ty → Type 0
  Finds i t ty = (found i ≡ t) × (kept i ≡ ty)

  left_out : (w : List ℕ) (o : Opcode) → Spells w o → (x : ℕ) (ops : RawOperands) → gives_type ops ≡ Some (raws.value n x) → says.may_leave_out o ops ≡ true → (ty : Option Ty) (t : Ty) → ty ≡ Some t
      → Finds (raw (raws.opcode w) (shown_suffix f n next ty (Some x)) ops) t ty
  left_out w o s x ops gives may ty t e =
      let is : found (raw (raws.opcode w) (shown_suffix f n next ty (Some x)) ops) ≡ t = rw e (asked x t (is_known f n next t (Some x)) refl ops gives w) in
      (is, ap₂ says.kept_type (ap (λ (c : Opcode). says.may_leave_out c ops) s ∙ may) is ∙ sym e)

  fixed : (w : List ℕ) (o : Opcode) → Spells w o → (s : Option Ty) (ops : RawOperands) → says.may_leave_out o ops ≡ false → (ty : Option Ty) → ty ≡ None → kept (raw (raws.opcode w) s ops) ≡ ty
  fixed w o s suffix ops may ty e = ap (λ (b : Bool). says.kept_type b (found (raw (raws.opcode w) suffix ops))) (ap (λ (c : Opcode). says.may_leave_out c ops) s ∙ may) ∙ sym e

  module _ (w : List ℕ) (o : Opcode) (s : Spells w o) (k : List ℕ → RawOperands) (ty : Option Ty) (t : Ty) (e : ty ≡ Some t) (may : (ops : RawOperands) → says.may_leave_out o ops ≡ is_some (gives_type ops)) where
    binary_type : ((x y : ℕ) → k (x ∷ y ∷ []) ≡ form.Binary (raws.value n x) (raws.value n y)) → (args : List ℕ) → length args ≡ 2 → Finds (raw (raws.opcode w) (shown_suffix f n next ty (slice_get args 0)) (k args)) t ty
    binary_type is [] h = absurd (omega arith)
    binary_type is (x ∷ []) h = absurd (omega arith)
    binary_type is (x ∷ y ∷ []) h =
        subst (λ (ops : RawOperands). Finds (raw (raws.opcode w) (shown_suffix f n next ty (Some x)) ops) t ty) (sym (is x y))
        (left_out w o s x (form.Binary (raws.value n x) (raws.value n y)) refl (may (form.Binary (raws.value n x) (raws.value n y))) ty t e)
    binary_type is (x ∷ y ∷ z ∷ more) h = absurd (omega arith)

    unary_type : ((x : ℕ) → k (x ∷ []) ≡ form.Unary (raws.value n x)) → (args : List ℕ) → length args ≡ 1 → Finds (raw (raws.opcode w) (shown_suffix f n next ty (slice_get args 0)) (k args)) t ty
    unary_type is [] h = absurd (omega arith)
    unary_type is (x ∷ []) h =
        subst (λ (ops : RawOperands). Finds (raw (raws.opcode w) (shown_suffix f n next ty (Some x)) ops) t ty) (sym (is x))
        (left_out w o s x (form.Unary (raws.value n x)) refl (may (form.Unary (raws.value n x))) ty t e)
    unary_type is (x ∷ y ∷ more) h = absurd (omega arith)

    compare_type : (c : Cc) → ((x y : ℕ) → k (x ∷ y ∷ []) ≡ form.Compare c (raws.value n x) (raws.value n y)) → (args : List ℕ) → length args ≡ 2 → Finds (raw (raws.opcode w) (shown_suffix f n next ty (slice_get args 0)) (k args)) t ty
    compare_type c is [] h = absurd (omega arith)
    compare_type c is (x ∷ []) h = absurd (omega arith)
    compare_type c is (x ∷ y ∷ []) h =
        subst (λ (ops : RawOperands). Finds (raw (raws.opcode w) (shown_suffix f n next ty (Some x)) ops) t ty) (sym (is x y))
        (left_out w o s x (form.Compare c (raws.value n x) (raws.value n y)) refl (may (form.Compare c (raws.value n x) (raws.value n y))) ty t e)
    compare_type c is (x ∷ y ∷ z ∷ more) h = absurd (omega arith)

    -- the second operand gives the type
    ternary_type : ((c x y : ℕ) → k (c ∷ x ∷ y ∷ []) ≡ form.Ternary (raws.value n c) (raws.value n x) (raws.value n y)) → (args : List ℕ) → length args ≡ 3 → Finds (raw (raws.opcode w) (shown_suffix f n next ty (slice_get args 1)) (k args)) t ty
    ternary_type is [] h = absurd (omega arith)
    ternary_type is (c ∷ []) h = absurd (omega arith)
    ternary_type is (c ∷ x ∷ []) h = absurd (omega arith)
    ternary_type is (c ∷ x ∷ y ∷ []) h =
        subst (λ (ops : RawOperands). Finds (raw (raws.opcode w) (shown_suffix f n next ty (Some x)) ops) t ty) (sym (is c x y))
        (left_out w o s x (form.Ternary (raws.value n c) (raws.value n x) (raws.value n y)) refl (may (form.Ternary (raws.value n c) (raws.value n x) (raws.value n y))) ty t e)
    ternary_type is (c ∷ x ∷ y ∷ z ∷ more) h = absurd (omega arith)

  plain_type : (o : Op) (args : List ℕ) (ty : Option Ty) (t : Ty) → conversion o ≡ None → length args ≡ op_operands o → ty ≡ Some t → Finds (raws.simple n (shown_suffix f n next ty (controlling o args)) (insts.Pure o args)) t ty
  plain_type ops.Iadd args ty t c h e = binary_type (op_word ops.Iadd) opcode.Iadd (op_spells ops.Iadd) (raws.value_operands n ops.Iadd) ty t e (λ x. refl) (λ x y. refl) args h
  plain_type ops.Isub args ty t c h e = binary_type (op_word ops.Isub) opcode.Isub (op_spells ops.Isub) (raws.value_operands n ops.Isub) ty t e (λ x. refl) (λ x y. refl) args h
  plain_type ops.Imul args ty t c h e = binary_type (op_word ops.Imul) opcode.Imul (op_spells ops.Imul) (raws.value_operands n ops.Imul) ty t e (λ x. refl) (λ x y. refl) args h
  plain_type ops.Band args ty t c h e = binary_type (op_word ops.Band) opcode.Band (op_spells ops.Band) (raws.value_operands n ops.Band) ty t e (λ x. refl) (λ x y. refl) args h
  plain_type ops.Bor args ty t c h e = binary_type (op_word ops.Bor) opcode.Bor (op_spells ops.Bor) (raws.value_operands n ops.Bor) ty t e (λ x. refl) (λ x y. refl) args h
  plain_type ops.Bxor args ty t c h e = binary_type (op_word ops.Bxor) opcode.Bxor (op_spells ops.Bxor) (raws.value_operands n ops.Bxor) ty t e (λ x. refl) (λ x y. refl) args h
  plain_type ops.Smin args ty t c h e = binary_type (op_word ops.Smin) opcode.Smin (op_spells ops.Smin) (raws.value_operands n ops.Smin) ty t e (λ x. refl) (λ x y. refl) args h
  plain_type ops.Smax args ty t c h e = binary_type (op_word ops.Smax) opcode.Smax (op_spells ops.Smax) (raws.value_operands n ops.Smax) ty t e (λ x. refl) (λ x y. refl) args h
  plain_type ops.Umin args ty t c h e = binary_type (op_word ops.Umin) opcode.Umin (op_spells ops.Umin) (raws.value_operands n ops.Umin) ty t e (λ x. refl) (λ x y. refl) args h
  plain_type ops.Umax args ty t c h e = binary_type (op_word ops.Umax) opcode.Umax (op_spells ops.Umax) (raws.value_operands n ops.Umax) ty t e (λ x. refl) (λ x y. refl) args h
  plain_type ops.Umulhi args ty t c h e = binary_type (op_word ops.Umulhi) opcode.Umulhi (op_spells ops.Umulhi) (raws.value_operands n ops.Umulhi) ty t e (λ x. refl) (λ x y. refl) args h
  plain_type ops.Smulhi args ty t c h e = binary_type (op_word ops.Smulhi) opcode.Smulhi (op_spells ops.Smulhi) (raws.value_operands n ops.Smulhi) ty t e (λ x. refl) (λ x y. refl) args h
  plain_type ops.Udiv args ty t c h e = binary_type (op_word ops.Udiv) opcode.Udiv (op_spells ops.Udiv) (raws.value_operands n ops.Udiv) ty t e (λ x. refl) (λ x y. refl) args h
  plain_type ops.Urem args ty t c h e = binary_type (op_word ops.Urem) opcode.Urem (op_spells ops.Urem) (raws.value_operands n ops.Urem) ty t e (λ x. refl) (λ x y. refl) args h
  plain_type ops.Sdiv args ty t c h e = binary_type (op_word ops.Sdiv) opcode.Sdiv (op_spells ops.Sdiv) (raws.value_operands n ops.Sdiv) ty t e (λ x. refl) (λ x y. refl) args h
  plain_type ops.Srem args ty t c h e = binary_type (op_word ops.Srem) opcode.Srem (op_spells ops.Srem) (raws.value_operands n ops.Srem) ty t e (λ x. refl) (λ x y. refl) args h
  plain_type ops.Ishl args ty t c h e = binary_type (op_word ops.Ishl) opcode.Ishl (op_spells ops.Ishl) (raws.value_operands n ops.Ishl) ty t e (λ x. refl) (λ x y. refl) args h
  plain_type ops.Ushr args ty t c h e = binary_type (op_word ops.Ushr) opcode.Ushr (op_spells ops.Ushr) (raws.value_operands n ops.Ushr) ty t e (λ x. refl) (λ x y. refl) args h
  plain_type ops.Sshr args ty t c h e = binary_type (op_word ops.Sshr) opcode.Sshr (op_spells ops.Sshr) (raws.value_operands n ops.Sshr) ty t e (λ x. refl) (λ x y. refl) args h
  plain_type ops.Rotl args ty t c h e = binary_type (op_word ops.Rotl) opcode.Rotl (op_spells ops.Rotl) (raws.value_operands n ops.Rotl) ty t e (λ x. refl) (λ x y. refl) args h
  plain_type ops.Rotr args ty t c h e = binary_type (op_word ops.Rotr) opcode.Rotr (op_spells ops.Rotr) (raws.value_operands n ops.Rotr) ty t e (λ x. refl) (λ x y. refl) args h
  plain_type ops.UaddOverflow args ty t c h e = binary_type (op_word ops.UaddOverflow) opcode.UaddOverflow (op_spells ops.UaddOverflow) (raws.value_operands n ops.UaddOverflow) ty t e (λ x. refl) (λ x y. refl) args h
  plain_type ops.SaddOverflow args ty t c h e = binary_type (op_word ops.SaddOverflow) opcode.SaddOverflow (op_spells ops.SaddOverflow) (raws.value_operands n ops.SaddOverflow) ty t e (λ x. refl) (λ x y. refl) args h
  plain_type ops.UsubOverflow args ty t c h e = binary_type (op_word ops.UsubOverflow) opcode.UsubOverflow (op_spells ops.UsubOverflow) (raws.value_operands n ops.UsubOverflow) ty t e (λ x. refl) (λ x y. refl) args h
  plain_type ops.SsubOverflow args ty t c h e = binary_type (op_word ops.SsubOverflow) opcode.SsubOverflow (op_spells ops.SsubOverflow) (raws.value_operands n ops.SsubOverflow) ty t e (λ x. refl) (λ x y. refl) args h
  plain_type ops.Iconcat args ty t c h e = binary_type (op_word ops.Iconcat) opcode.Iconcat (op_spells ops.Iconcat) (raws.value_operands n ops.Iconcat) ty t e (λ x. refl) (λ x y. refl) args h
  plain_type ops.Ineg args ty t c h e = unary_type (op_word ops.Ineg) opcode.Ineg (op_spells ops.Ineg) (raws.value_operands n ops.Ineg) ty t e (λ x. refl) (λ x. refl) args h
  plain_type ops.Bnot args ty t c h e = unary_type (op_word ops.Bnot) opcode.Bnot (op_spells ops.Bnot) (raws.value_operands n ops.Bnot) ty t e (λ x. refl) (λ x. refl) args h
  plain_type ops.Iabs args ty t c h e = unary_type (op_word ops.Iabs) opcode.Iabs (op_spells ops.Iabs) (raws.value_operands n ops.Iabs) ty t e (λ x. refl) (λ x. refl) args h
  plain_type ops.Clz args ty t c h e = unary_type (op_word ops.Clz) opcode.Clz (op_spells ops.Clz) (raws.value_operands n ops.Clz) ty t e (λ x. refl) (λ x. refl) args h
  plain_type ops.Ctz args ty t c h e = unary_type (op_word ops.Ctz) opcode.Ctz (op_spells ops.Ctz) (raws.value_operands n ops.Ctz) ty t e (λ x. refl) (λ x. refl) args h
  plain_type ops.Popcnt args ty t c h e = unary_type (op_word ops.Popcnt) opcode.Popcnt (op_spells ops.Popcnt) (raws.value_operands n ops.Popcnt) ty t e (λ x. refl) (λ x. refl) args h
  plain_type ops.Bitrev args ty t c h e = unary_type (op_word ops.Bitrev) opcode.Bitrev (op_spells ops.Bitrev) (raws.value_operands n ops.Bitrev) ty t e (λ x. refl) (λ x. refl) args h
  plain_type ops.Bswap args ty t c h e = unary_type (op_word ops.Bswap) opcode.Bswap (op_spells ops.Bswap) (raws.value_operands n ops.Bswap) ty t e (λ x. refl) (λ x. refl) args h
  plain_type ops.Isplit args ty t c h e = unary_type (op_word ops.Isplit) opcode.Isplit (op_spells ops.Isplit) (raws.value_operands n ops.Isplit) ty t e (λ x. refl) (λ x. refl) args h
  plain_type ops.Select args ty t c h e = ternary_type (op_word ops.Select) opcode.Select (op_spells ops.Select) (raws.value_operands n ops.Select) ty t e (λ x. refl) (λ c x y. refl) args h
  plain_type (ops.Icmp cc) args ty t c h e = compare_type (op_word (ops.Icmp cc)) opcode.Icmp (op_spells (ops.Icmp cc)) (raws.value_operands n (ops.Icmp cc)) ty t e (λ x. refl) cc (λ x y. refl) args h
  plain_type (ops.Uextend w) args ty t c h e = absurd cc
  plain_type (ops.Sextend w) args ty t c h e = absurd cc
  plain_type (ops.Ireduce w) args ty t c h e = absurd cc

  -- ---- operations

  conversion_type : (o : Op) (w : Width) (s : Option Ty) (args : List ℕ) (ty : Option Ty) → conversion o ≡ Some w → ty ≡ None → (found (raws.simple n s (insts.Pure o args)) ≡ ty_of w) × (kept (raws.simple n s (insts.Pure o args)) ≡ ty)
  conversion_type (ops.Uextend u) w s args ty c e =
      let same : u ≡ w = cc in (ap ty_of same, fixed (op_word (ops.Uextend u)) opcode.Uextend (op_spells (ops.Uextend u)) (Some (ty_of u)) (raws.value_operands n (ops.Uextend u) args) refl ty e)
  conversion_type (ops.Sextend u) w s args ty c e =
      let same : u ≡ w = cc in (ap ty_of same, fixed (op_word (ops.Sextend u)) opcode.Sextend (op_spells (ops.Sextend u)) (Some (ty_of u)) (raws.value_operands n (ops.Sextend u) args) refl ty e)
  conversion_type (ops.Ireduce u) w s args ty c e =
      let same : u ≡ w = cc in (ap ty_of same, fixed (op_word (ops.Ireduce u)) opcode.Ireduce (op_spells (ops.Ireduce u)) (Some (ty_of u)) (raws.value_operands n (ops.Ireduce u) args) refl ty e)
  conversion_type ops.Iadd w s args ty c e = absurd cc
  conversion_type ops.Isub w s args ty c e = absurd cc
  conversion_type ops.Imul w s args ty c e = absurd cc
  conversion_type ops.Band w s args ty c e = absurd cc
  conversion_type ops.Bor w s args ty c e = absurd cc
  conversion_type ops.Bxor w s args ty c e = absurd cc
  conversion_type ops.Smin w s args ty c e = absurd cc
  conversion_type ops.Smax w s args ty c e = absurd cc
  conversion_type ops.Umin w s args ty c e = absurd cc
  conversion_type ops.Umax w s args ty c e = absurd cc
  conversion_type ops.Umulhi w s args ty c e = absurd cc
  conversion_type ops.Smulhi w s args ty c e = absurd cc
  conversion_type ops.Udiv w s args ty c e = absurd cc
  conversion_type ops.Urem w s args ty c e = absurd cc
  conversion_type ops.Sdiv w s args ty c e = absurd cc
  conversion_type ops.Srem w s args ty c e = absurd cc
  conversion_type ops.Ishl w s args ty c e = absurd cc
  conversion_type ops.Ushr w s args ty c e = absurd cc
  conversion_type ops.Sshr w s args ty c e = absurd cc
  conversion_type ops.Rotl w s args ty c e = absurd cc
  conversion_type ops.Rotr w s args ty c e = absurd cc
  conversion_type ops.UaddOverflow w s args ty c e = absurd cc
  conversion_type ops.SaddOverflow w s args ty c e = absurd cc
  conversion_type ops.UsubOverflow w s args ty c e = absurd cc
  conversion_type ops.SsubOverflow w s args ty c e = absurd cc
  conversion_type ops.Iconcat w s args ty c e = absurd cc
  conversion_type ops.Ineg w s args ty c e = absurd cc
  conversion_type ops.Bnot w s args ty c e = absurd cc
  conversion_type ops.Iabs w s args ty c e = absurd cc
  conversion_type ops.Clz w s args ty c e = absurd cc
  conversion_type ops.Ctz w s args ty c e = absurd cc
  conversion_type ops.Popcnt w s args ty c e = absurd cc
  conversion_type ops.Bitrev w s args ty c e = absurd cc
  conversion_type ops.Bswap w s args ty c e = absurd cc
  conversion_type ops.Isplit w s args ty c e = absurd cc
  conversion_type ops.Select w s args ty c e = absurd cc
  conversion_type (ops.Icmp code) w s args ty c e = absurd cc

  -- a reader finds the type that the meaning rests on, and keeps that of the line
  abbrev Typed : Instruction → RawInst → Option Ty → Type 0
  Typed i given ty = IsTypeFor (found given) i × (kept given ≡ ty)

  pure_type : (l : Line) (o : Op) (args : List ℕ) → length args ≡ op_operands o → OpForm f l o (conversion o) → Typed (insts.Plain (insts.Pure o args)) (raws.simple n (shown_suffix f n next l.ty (controlling o args)) (insts.Pure o args)) l.ty
  pure_type l o args h form = go (conversion o) refl form
    where
      go : (c : Option Width) → conversion o ≡ c → OpForm f l o c → Typed (insts.Plain (insts.Pure o args)) (raws.simple n (shown_suffix f n next l.ty (controlling o args)) (insts.Pure o args)) l.ty
      go None e form = let t = some_and l.ty (λ t. ResultTypes f l.results (result_types o t)) form in
          (rw e tt, (plain_type o args l.ty t.0 e h t.1).1)
      go (Some w) e form = let both = conversion_type o w (shown_suffix f n next l.ty (controlling o args)) args l.ty e form.0 in (rw e both.0, both.1)

  abbrev ImmediateFinds : Op → ℕ → DataValue → Option Ty → Ty → Type 0
  ImmediateFinds o x d ty t = Finds (raws.simple n (shown_suffix f n next ty (Some x)) (insts.PureImm o x d)) t ty

  immediate_type : (o : Op) (x : ℕ) (d : DataValue) (ty : Option Ty) (t : Ty) → has_immediate o ≡ true → ty ≡ Some t → ImmediateFinds o x d ty t
  unfolding word_meaning all_words opcode_of
  immediate_type ops.Iadd x d ty t h e = left_out (op_word ops.Iadd ++ codes "_imm") opcode.IaddImm refl x (form.BinaryImm (raws.value n x) (raws.constant d)) refl refl ty t e
  immediate_type ops.Imul x d ty t h e = left_out (op_word ops.Imul ++ codes "_imm") opcode.ImulImm refl x (form.BinaryImm (raws.value n x) (raws.constant d)) refl refl ty t e
  immediate_type ops.Band x d ty t h e = left_out (op_word ops.Band ++ codes "_imm") opcode.BandImm refl x (form.BinaryImm (raws.value n x) (raws.constant d)) refl refl ty t e
  immediate_type ops.Bor x d ty t h e = left_out (op_word ops.Bor ++ codes "_imm") opcode.BorImm refl x (form.BinaryImm (raws.value n x) (raws.constant d)) refl refl ty t e
  immediate_type ops.Bxor x d ty t h e = left_out (op_word ops.Bxor ++ codes "_imm") opcode.BxorImm refl x (form.BinaryImm (raws.value n x) (raws.constant d)) refl refl ty t e
  immediate_type ops.Ishl x d ty t h e = left_out (op_word ops.Ishl ++ codes "_imm") opcode.IshlImm refl x (form.BinaryImm (raws.value n x) (raws.constant d)) refl refl ty t e
  immediate_type ops.Ushr x d ty t h e = left_out (op_word ops.Ushr ++ codes "_imm") opcode.UshrImm refl x (form.BinaryImm (raws.value n x) (raws.constant d)) refl refl ty t e
  immediate_type ops.Sshr x d ty t h e = left_out (op_word ops.Sshr ++ codes "_imm") opcode.SshrImm refl x (form.BinaryImm (raws.value n x) (raws.constant d)) refl refl ty t e
  immediate_type (ops.Icmp c) x d ty t h e = left_out (codes "icmp_imm") opcode.IcmpImm refl x (form.CompareImm c (raws.value n x) (raws.constant d)) refl refl ty t e
  immediate_type ops.Isub x d ty t h e = absurd cc
  immediate_type ops.Smin x d ty t h e = absurd cc
  immediate_type ops.Smax x d ty t h e = absurd cc
  immediate_type ops.Umin x d ty t h e = absurd cc
  immediate_type ops.Umax x d ty t h e = absurd cc
  immediate_type ops.Umulhi x d ty t h e = absurd cc
  immediate_type ops.Smulhi x d ty t h e = absurd cc
  immediate_type ops.Udiv x d ty t h e = absurd cc
  immediate_type ops.Urem x d ty t h e = absurd cc
  immediate_type ops.Sdiv x d ty t h e = absurd cc
  immediate_type ops.Srem x d ty t h e = absurd cc
  immediate_type ops.Rotl x d ty t h e = absurd cc
  immediate_type ops.Rotr x d ty t h e = absurd cc
  immediate_type ops.UaddOverflow x d ty t h e = absurd cc
  immediate_type ops.SaddOverflow x d ty t h e = absurd cc
  immediate_type ops.UsubOverflow x d ty t h e = absurd cc
  immediate_type ops.SsubOverflow x d ty t h e = absurd cc
  immediate_type ops.Iconcat x d ty t h e = absurd cc
  immediate_type ops.Ineg x d ty t h e = absurd cc
  immediate_type ops.Bnot x d ty t h e = absurd cc
  immediate_type ops.Iabs x d ty t h e = absurd cc
  immediate_type ops.Clz x d ty t h e = absurd cc
  immediate_type ops.Ctz x d ty t h e = absurd cc
  immediate_type ops.Popcnt x d ty t h e = absurd cc
  immediate_type ops.Bitrev x d ty t h e = absurd cc
  immediate_type ops.Bswap x d ty t h e = absurd cc
  immediate_type ops.Isplit x d ty t h e = absurd cc
  immediate_type ops.Select x d ty t h e = absurd cc
  immediate_type (ops.Uextend w) x d ty t h e = absurd cc
  immediate_type (ops.Sextend w) x d ty t h e = absurd cc
  immediate_type (ops.Ireduce w) x d ty t h e = absurd cc

  -- ---- simple forms

  from_some : (w : List ℕ) (o : Opcode) → Spells w o → (x : ℕ) (ops : RawOperands) → gives_type ops ≡ Some (raws.value n x) → says.may_leave_out o ops ≡ true → (ty : Option Ty) → IsSome ty → kept (raw (raws.opcode w) (shown_suffix f n next ty (Some x)) ops) ≡ ty
  from_some w o s x ops gives may ty some = let t = is_some_is ty some in (left_out w o s x ops gives may ty t.0 t.1).1

  abbrev as_read : Line → Simple → RawInst
  as_read l i = raws.simple n (shown_suffix f n next l.ty (typing_operand (insts.Plain i))) i

  store_type : (l : Line) (k : Option ℕ) (ops : RawOperands) (x : ℕ) → gives_type ops ≡ Some (raws.value n x) → is_some (gives_type ops) ≡ true → StoreForm k → IsSome l.ty → kept (raw (raws.opcode (raws.store_word k)) (shown_suffix f n next l.ty (Some x)) ops) ≡ l.ty
  store_type l None ops x gives may form some = from_some (codes "store") opcode.Store store_spells x ops gives may l.ty some
  store_type l (Some bytes) ops x gives may form some = by_bytes (λ (b : ℕ). kept (raw (raws.opcode (raws.store_word (Some b))) (shown_suffix f n next l.ty (Some x)) ops) ≡ l.ty) bytes form
      (from_some (codes "istore" ++ decimal 8) opcode.Istore8 istore_8 x ops gives may l.ty some)
      (from_some (codes "istore" ++ decimal 16) opcode.Istore16 istore_16 x ops gives may l.ty some)
      (from_some (codes "istore" ++ decimal 32) opcode.Istore32 istore_32 x ops gives may l.ty some)

  -- a read of 32 bits keeps the type of its suffix, and i64 where this is left out
  wide_found : (w : List ℕ) (g : List RawFlag) (p : RawName) (z : Option RawNumber) (t : Ty) → found (raw (raws.opcode w) (raws.but_i64 (Some t)) (form.Load g p z)) ≡ t
  wide_found w g p z ty.I8 = refl
  wide_found w g p z ty.I16 = refl
  wide_found w g p z ty.I32 = refl
  wide_found w g p z ty.I64 = refl
  wide_found w g p z ty.I128 = refl

  wide_kept : (w : List ℕ) (o : Opcode) → Spells w o → (g : List RawFlag) (p : RawName) (z : Option RawNumber) → says.may_leave_out o (form.Load g p z) ≡ true → (own : Option Ty) → IsSome own
      → kept (raw (raws.opcode w) (raws.but_i64 (shown_suffix f n next own None)) (form.Load g p z)) ≡ own
  wide_kept w o s g p z may None some = absurd cc
  wide_kept w o s g p z may (Some t) some = ap₂ says.kept_type (ap (λ (c : Opcode). says.may_leave_out c (form.Load g p z)) s ∙ may) (wide_found w g p z t)

  abbrev as_load : Line → Access → Flags → ℕ → ℤ → RawInst
  as_load l a g p z = raws.simple n (shown_suffix f n next l.ty None) (insts.Load a g p z)

  abbrev AccessTyped : Line → Access → Flags → ℕ → ℤ → Type 0
  AccessTyped l a g p z = AccessType (found (as_load l a g p z)) a × (kept (as_load l a g p z) ≡ l.ty)

  uload_type : (l : Line) (u : Ty) (bytes : ℕ) (g : Flags) (p : ℕ) (z : ℤ) → NarrowForm l u bytes → AccessTyped l (access.Uload u bytes) g p z
  uload_type l u bytes g p z h = by_bytes (λ (b : ℕ). NarrowForm l u b → AccessTyped l (access.Uload u b) g p z) bytes h.0
      (λ h. (refl, fixed (codes "uload" ++ decimal 8) opcode.Uload8 uload_8 (Some u) (form.Load (raws.flags g) (raws.value n p) (raws.offset z)) refl l.ty h.1))
      (λ h. (refl, fixed (codes "uload" ++ decimal 16) opcode.Uload16 uload_16 (Some u) (form.Load (raws.flags g) (raws.value n p) (raws.offset z)) refl l.ty h.1))
      (λ h. (tt, wide_kept (codes "uload" ++ decimal 32) opcode.Uload32 uload_32 (raws.flags g) (raws.value n p) (raws.offset z) refl l.ty h.1.0)) h

  sload_type : (l : Line) (u : Ty) (bytes : ℕ) (g : Flags) (p : ℕ) (z : ℤ) → NarrowForm l u bytes → AccessTyped l (access.Sload u bytes) g p z
  sload_type l u bytes g p z h = by_bytes (λ (b : ℕ). NarrowForm l u b → AccessTyped l (access.Sload u b) g p z) bytes h.0
      (λ h. (refl, fixed (codes "sload" ++ decimal 8) opcode.Sload8 sload_8 (Some u) (form.Load (raws.flags g) (raws.value n p) (raws.offset z)) refl l.ty h.1))
      (λ h. (refl, fixed (codes "sload" ++ decimal 16) opcode.Sload16 sload_16 (Some u) (form.Load (raws.flags g) (raws.value n p) (raws.offset z)) refl l.ty h.1))
      (λ h. (tt, wide_kept (codes "sload" ++ decimal 32) opcode.Sload32 sload_32 (raws.flags g) (raws.value n p) (raws.offset z) refl l.ty h.1.0)) h

  load_type : (l : Line) (a : Access) (g : Flags) (p : ℕ) (z : ℤ) → AccessForm l a → AccessTyped l a g p z
  load_type l (access.Full u) g p z h = (refl, fixed (codes "load") opcode.Load load_spells (Some u) (form.Load (raws.flags g) (raws.value n p) (raws.offset z)) refl l.ty h)
  load_type l (access.Uload u bytes) g p z h = uload_type l u bytes g p z h
  load_type l (access.Sload u bytes) g p z h = sload_type l u bytes g p z h

  simple_type : (l : Line) (i : Simple) → SimpleForm f l i → Typed (insts.Plain i) (as_read l i) l.ty
  unfolding word_meaning all_words opcode_of
  simple_type l insts.Nop h = (tt, fixed (codes "nop") opcode.Nop refl None form.Nullary refl l.ty h.0)
  simple_type l (insts.Const d) h = (refl, fixed (codes "iconst") opcode.Iconst refl (Some (ty_of d.width)) (form.Number (raws.constant d)) refl l.ty h.0)
  simple_type l (insts.Pure o args) h = pure_type l o args h.0 h.1
  simple_type l (insts.PureImm o x d) h = immediate_type o x d l.ty (ty_of d.width) h.0 h.2
  simple_type l (insts.Load a g p z) h = load_type l a g p z h.2
  simple_type l (insts.Store narrow g x p z) h = (tt, store_type l narrow (form.Store (raws.flags g) (raws.value n x) (raws.value n p) (raws.offset z)) x refl refl h.2 h.3)
  simple_type l (insts.StackLoad u slot z) h = (refl, fixed (codes "stack_load") opcode.StackLoad refl (Some u) (form.StackLoad (raws.entity slot) (raws.offset z)) refl l.ty h.1)
  simple_type l (insts.StackStore x slot z) h = (tt, from_some (codes "stack_store") opcode.StackStore refl x (form.StackStore (raws.value n x) (raws.entity slot) (raws.offset z)) refl refl l.ty h.1)
  simple_type l (insts.FuncAddr callee) h = (tt, fixed (codes "func_addr") opcode.FuncAddr refl None (form.FuncAddr (raws.entity callee)) refl l.ty h.0)
  simple_type l (insts.Trap c) h = (tt, fixed (codes "trap") opcode.Trap refl None (form.Trap (raws.trap_code c)) refl l.ty h.1)
  simple_type l (insts.Trapz x c) h = (tt, from_some (codes "trapz") opcode.Trapz refl x (form.TrapIf (raws.value n x) (raws.trap_code c)) refl refl l.ty h.1)
  simple_type l (insts.Trapnz x c) h = (tt, from_some (codes "trapnz") opcode.Trapnz refl x (form.TrapIf (raws.value n x) (raws.trap_code c)) refl refl l.ty h.1)

  -- ---- all forms

  abbrev read_inst : Line → Instruction → RawInst
  read_inst l i = raws.instruction n (shown_suffix f n next l.ty (typing_operand i)) i

  pub inst_type : (l : Line) (i : Instruction) → InstructionForm f l i → Typed i (read_inst l i) l.ty
  unfolding word_meaning all_words opcode_of
  inst_type l (insts.Plain i) h = simple_type l i h
  inst_type l (insts.Branches (insts.Jump t)) h = (tt, fixed (codes "jump") opcode.Jump refl None (form.Jump (raws.target n t)) refl l.ty h.0)
  inst_type l (insts.Branches (insts.Brif x t u)) h = (tt, from_some (codes "brif") opcode.Brif refl x (form.Brif (raws.value n x) (raws.target n t) (raws.target n u)) refl refl l.ty h.0)
  inst_type l (insts.Branches (insts.BrTable x t ts)) h = (tt, fixed (codes "br_table") opcode.BrTable refl None (form.BrTable (raws.value n x) (raws.target n t) (map (raws.target n) ts)) refl l.ty h.0)
  inst_type l insts.SequencePoint h = (tt, fixed (codes "sequence_point") opcode.SequencePoint refl None form.Nullary refl l.ty h.0)
  inst_type l (insts.Return vs) h = (tt, fixed (codes "return") opcode.Return refl None (form.Return (raws.values n vs)) refl l.ty h.0)
  inst_type l (insts.Call (insts.Direct callee) args) h = (tt, fixed (codes "call") opcode.Call refl None (form.Call (raws.entity callee) (raws.values n args)) refl l.ty h.0)
  inst_type l (insts.Call (insts.Indirect sig p) args) h = (tt, fixed (codes "call_indirect") opcode.CallIndirect refl None (form.CallIndirect (raws.entity sig) (raws.value n p) (raws.values n args)) refl l.ty h.0)
  inst_type l (insts.ReturnCall (insts.Direct callee) args) h = (tt, fixed (codes "return_call") opcode.ReturnCall refl None (form.Call (raws.entity callee) (raws.values n args)) refl l.ty h.0)
  inst_type l (insts.ReturnCall (insts.Indirect sig p) args) h = (tt, fixed (codes "return_call_indirect") opcode.ReturnCallIndirect refl None (form.CallIndirect (raws.entity sig) (raws.value n p) (raws.values n args)) refl l.ty h.0)
  inst_type l (insts.TryCall (insts.TryDirect callee) sig args normal table) h =
      (tt, fixed (codes "try_call") opcode.TryCall refl None (form.TryCall (raws.entity callee) (raws.values n args) (raws.entity sig) (raws.target n normal) (map (raws.entry n) table)) refl l.ty h.0)
  inst_type l (insts.TryCall (insts.TryIndirect p) sig args normal table) h =
      (tt, fixed (codes "try_call_indirect") opcode.TryCallIndirect refl None (form.TryCallIndirect (raws.value n p) (raws.values n args) (raws.entity sig) (raws.target n normal) (map (raws.entry n) table)) refl l.ty h.0)

  -- ---- a line

  abbrev line_with : Instruction → Option Ty → List ℕ → List Tag → Line
  line_with i ty vs ts = record { inst = i; ty = ty; results = vs; tags = ts }

  pub line_back : (l : Line) → InstructionForm f l l.inst
      → says.line_of at (found (read_inst l l.inst)) (map raws.debug_tag l.tags) (raws.values n l.results) (read_inst l l.inst) ≡ line_under (read_under n at) l
  line_back l h =
      let both = inst_type l l.inst h in
      let i = instruction_back n at f l (shown_suffix f n next l.ty (typing_operand l.inst)) (found (read_inst l l.inst)) l.inst h both.0 in
      ap₂ (λ (i : Instruction) (t : Option Ty). line_with i t (says.values_at at (raws.values n l.results)) (map (says.tag_of at) (map raws.debug_tag l.tags))) i both.1
      ∙ ap₂ (λ (vs : List ℕ) (ts : List Tag). line_with (instruction_under (read_under n at) l.inst) l.ty vs ts) (values_back n at l.results) (tags_back n at l.tags)
