-- Where the raw function of a writable function asks for the type of an operand, the operand is defined before.
use Rattle.std.proofs.Common.{◌≡◌, ℕ, Bool, true, false, List, [], ◌∷◌, length, slice_get, Option, Some, None, refl, sym, subst, arith}
use Rattle.std.specs.Prelude.{nat_lt, IsSome, IsSomeAnd}
use Rattle.std.proofs.lemmas.Bool.{and_parts, ltb-true}
use Rattle.clk_num.specs.Operations.{DataValue}
use Rattle.clk_num.specs.declared.op.Op.{Op}
use Rattle.clk_num.specs.declared.op.Op.TheVariants as ops
use Rattle.clk_num.specs.declared.width.Width.{Width}
use Rattle.ir_core.specs.declared.signatures.Ty.{Ty}
use Rattle.ir_core.specs.Forms.{controlling}
use Rattle.ir_core.specs.Lookup.{number_in, ty_of}
use Rattle.ir_core.specs.Module.{Simple, Instruction, Line as CoreLine, Block, Function}
use Rattle.ir_core.specs.Module as insts
use Rattle.ir_text.specs.Numbering.{Numbering}
use Rattle.ir_text.specs.TextInstructions.{has_type, is_known, shown_suffix, typing_operand}
use Rattle.ir_text.specs.Writable.{op_operands, conversion, result_types, ResultTypes, OpForm, SimpleForm, InstructionForm}
use Rattle.clif_insts.specs.InstValues.{raw}
use Rattle.clif_insts.specs.declared.raw.RawInst.{RawInst}
use Rattle.token_reader.specs.declared.raw.RawName.{RawName}
use Rattle.clif_insts.specs.declared.raw.RawOperands.{RawOperands}
use Rattle.clif_insts.specs.declared.raw.RawOperands.TheVariants as form
use Rattle.clif_names.specs.Typing.{gives_type, asks}
use Rattle.text_read_back.specs.RawOf as raws
use Rattle.canonical_reads.proofs.Lists.{Within}

abbrev pub listed : Option RawName → List RawName
listed None = []
listed (Some x) = x ∷ []

-- the operand whose type is asked for, if any, has a number below the bound
abbrev pub AsksWithin : ℕ → RawInst → Type 0
AsksWithin bound i = Within bound (listed (asks i))

-- ---- instructions as they are printed where the next value that is defined has the number next

module _ (f : Function) (n : Numbering) (next : ℕ) where
  -- an instruction, whatever its opcode
  abbrev given : Option Ty → RawOperands → RawInst
  given s o = raw (raws.opcode []) s o

  -- no operand gives the type
  none_asked : (s : Option Ty) (o : RawOperands) → gives_type o ≡ None → AsksWithin next (given s o)
  none_asked None o e = rw e tt
  none_asked (Some t) o e = tt

  -- where the suffix is left out the operand is known
  left_out : (o : RawOperands) (x : ℕ) → gives_type o ≡ Some (raws.value n x) → (ty : Option Ty) → IsSome ty → AsksWithin next (given (shown_suffix f n next ty (Some x)) o)
  left_out o x e None some = absurd cc
  left_out o x e (Some t) some = go (is_known f n next t (Some x)) refl
    where
      go : (b : Bool) → is_known f n next t (Some x) ≡ b → AsksWithin next (given (shown_suffix f n next (Some t) (Some x)) o)
      go true k = let both = and_parts (nat_lt (number_in n.values x) next) (has_type f x t) k in rw (k, e) (ltb-true (number_in n.values x) next both.0, tt)
      go false k = rw k tt

  module _ (l : CoreLine) where
    abbrev shown : Option ℕ → Option Ty
    shown x = shown_suffix f n next l.ty x

    unary : (k : List ℕ → RawOperands) → ((x : ℕ) → k (x ∷ []) ≡ form.Unary (raws.value n x)) → (vs : List ℕ) → length vs ≡ 1 → IsSome l.ty → AsksWithin next (given (shown (slice_get vs 0)) (k vs))
    unary k is [] h some = absurd (omega arith)
    unary k is (x ∷ []) h some = left_out (k (x ∷ [])) x (rw (is x) refl) l.ty some
    unary k is (x ∷ y ∷ more) h some = absurd (omega arith)

    binary : (k : List ℕ → RawOperands) → ((x y : ℕ) → gives_type (k (x ∷ y ∷ [])) ≡ Some (raws.value n x)) → (vs : List ℕ) → length vs ≡ 2 → IsSome l.ty → AsksWithin next (given (shown (slice_get vs 0)) (k vs))
    binary k is [] h some = absurd (omega arith)
    binary k is (x ∷ []) h some = absurd (omega arith)
    binary k is (x ∷ y ∷ []) h some = left_out (k (x ∷ y ∷ [])) x (is x y) l.ty some
    binary k is (x ∷ y ∷ z ∷ more) h some = absurd (omega arith)

    ternary : (vs : List ℕ) → length vs ≡ 3 → IsSome l.ty → AsksWithin next (given (shown (slice_get vs 1)) (raws.value_operands n ops.Select vs))
    ternary [] h some = absurd (omega arith)
    ternary (x ∷ []) h some = absurd (omega arith)
    ternary (x ∷ y ∷ []) h some = absurd (omega arith)
    ternary (x ∷ y ∷ z ∷ []) h some = left_out (form.Ternary (raws.value n x) (raws.value n y) (raws.value n z)) y refl l.ty some
    ternary (x ∷ y ∷ z ∷ v ∷ more) h some = absurd (omega arith)

    -- an operation whose suffix may be left out
    plain : (o : Op) (vs : List ℕ) → conversion o ≡ None → length vs ≡ op_operands o → IsSome l.ty → AsksWithin next (given (shown (controlling o vs)) (raws.value_operands n o vs))
    plain ops.Select vs c h some = ternary vs h some
    plain ops.Ineg vs c h some = unary (raws.value_operands n ops.Ineg) (λ x. refl) vs h some
    plain ops.Bnot vs c h some = unary (raws.value_operands n ops.Bnot) (λ x. refl) vs h some
    plain ops.Iabs vs c h some = unary (raws.value_operands n ops.Iabs) (λ x. refl) vs h some
    plain ops.Clz vs c h some = unary (raws.value_operands n ops.Clz) (λ x. refl) vs h some
    plain ops.Ctz vs c h some = unary (raws.value_operands n ops.Ctz) (λ x. refl) vs h some
    plain ops.Popcnt vs c h some = unary (raws.value_operands n ops.Popcnt) (λ x. refl) vs h some
    plain ops.Bitrev vs c h some = unary (raws.value_operands n ops.Bitrev) (λ x. refl) vs h some
    plain ops.Bswap vs c h some = unary (raws.value_operands n ops.Bswap) (λ x. refl) vs h some
    plain ops.Isplit vs c h some = unary (raws.value_operands n ops.Isplit) (λ x. refl) vs h some
    plain (ops.Uextend u) vs c h some = absurd cc
    plain (ops.Sextend u) vs c h some = absurd cc
    plain (ops.Ireduce u) vs c h some = absurd cc
    plain (ops.Icmp code) vs c h some = binary (raws.value_operands n (ops.Icmp code)) (λ x y. refl) vs h some
    plain o vs c h some = binary (raws.value_operands n o) (λ x y. refl) vs h some

    -- a conversion always has its suffix
    converted : (o : Op) (u : Width) (s : Option Ty) (x : RawOperands) → conversion o ≡ Some u → AsksWithin next (given (raws.op_suffix o s) x)
    converted (ops.Uextend t) u s x c = tt
    converted (ops.Sextend t) u s x c = tt
    converted (ops.Ireduce t) u s x c = tt
    converted _ u s x c = absurd cc

    suffix_is : (o : Op) (s : Option Ty) → conversion o ≡ None → raws.op_suffix o s ≡ s
    suffix_is (ops.Uextend t) s c = absurd cc
    suffix_is (ops.Sextend t) s c = absurd cc
    suffix_is (ops.Ireduce t) s c = absurd cc
    suffix_is _ s c = refl

    pure : (o : Op) (vs : List ℕ) → length vs ≡ op_operands o → OpForm f l o (conversion o) → AsksWithin next (given (raws.op_suffix o (shown (controlling o vs))) (raws.value_operands n o vs))
    pure o vs h form = go (conversion o) refl form
      where
        some_type : (ty : Option Ty) (P : Ty → Type 0) → IsSomeAnd ty P → IsSome ty
        some_type None P k = absurd k
        some_type (Some t) P k = refl

        go : (c : Option Width) → conversion o ≡ c → OpForm f l o c → AsksWithin next (given (raws.op_suffix o (shown (controlling o vs))) (raws.value_operands n o vs))
        go None c form = subst (λ (s : Option Ty). AsksWithin next (given s (raws.value_operands n o vs))) (sym (suffix_is o (shown (controlling o vs)) c)) (plain o vs c h (some_type l.ty (λ t. ResultTypes f l.results (result_types o t)) form))
        go (Some u) c form = converted o u (shown (controlling o vs)) (raws.value_operands n o vs) c

    immediate : (o : Op) (x : ℕ) (d : DataValue) → IsSome l.ty → AsksWithin next (given (shown (Some x)) (raws.immediate_operands n o x d))
    immediate (ops.Icmp c) x d some = left_out (form.CompareImm c (raws.value n x) (raws.constant d)) x refl l.ty some
    immediate _ x d some = left_out (form.BinaryImm (raws.value n x) (raws.constant d)) x refl l.ty some

    is_some : (ty : Option Ty) (t : Ty) → ty ≡ Some t → IsSome ty
    is_some ty t e = rw e refl

    simple : (i : Simple) → SimpleForm f l i → AsksWithin next (raws.simple n (shown (typing_operand (insts.Plain i))) i)
    simple insts.Nop h = tt
    simple (insts.Const d) h = tt
    simple (insts.Pure o vs) h = pure o vs h.0 h.1
    simple (insts.PureImm o x d) h = immediate o x d (is_some l.ty (ty_of d.width) h.2)
    simple (insts.Load a g p z) h = none_asked (raws.load_suffix (shown None) a) (form.Load (raws.flags g) (raws.value n p) (raws.offset z)) refl
    simple (insts.Store narrow g x p z) h = left_out (form.Store (raws.flags g) (raws.value n x) (raws.value n p) (raws.offset z)) x refl l.ty h.3
    simple (insts.StackLoad t slot z) h = tt
    simple (insts.StackStore x slot z) h = left_out (form.StackStore (raws.value n x) (raws.entity slot) (raws.offset z)) x refl l.ty h.1
    simple (insts.FuncAddr callee) h = tt
    simple (insts.Trap c) h = tt
    simple (insts.Trapz x c) h = left_out (form.TrapIf (raws.value n x) (raws.trap_code c)) x refl l.ty h.1
    simple (insts.Trapnz x c) h = left_out (form.TrapIf (raws.value n x) (raws.trap_code c)) x refl l.ty h.1

    pub asks_within : (i : Instruction) → InstructionForm f l i → AsksWithin next (raws.instruction n (shown (typing_operand i)) i)
    asks_within (insts.Plain i) h = simple i h
    asks_within (insts.Branches (insts.Jump t)) h = tt
    asks_within (insts.Branches (insts.Brif x t u)) h = left_out (form.Brif (raws.value n x) (raws.target n t) (raws.target n u)) x refl l.ty h.0
    asks_within (insts.Branches (insts.BrTable x t ts)) h = tt
    asks_within insts.SequencePoint h = tt
    asks_within (insts.Return vs) h = tt
    asks_within (insts.Call (insts.Direct callee) vs) h = tt
    asks_within (insts.Call (insts.Indirect sig p) vs) h = tt
    asks_within (insts.ReturnCall (insts.Direct callee) vs) h = tt
    asks_within (insts.ReturnCall (insts.Indirect sig p) vs) h = tt
    asks_within (insts.TryCall (insts.TryDirect callee) sig vs normal table) h = tt
    asks_within (insts.TryCall (insts.TryIndirect p) sig vs normal table) h = tt
