-- The words of CLIF that have a meaning of their own, by what they are to the grammar.
use Rattle.std.specs.Prelude.{ℕ, ◌+◌, List, [], ◌∷◌, ◌++◌, length, codes}
use Rattle.clk_num.specs.declared.op.Cc.TheVariants as cc
use Rattle.clk_num.specs.declared.op.Op.{Op}
use Rattle.clk_num.specs.declared.op.Op.TheVariants as ops
use Rattle.clk_num.specs.declared.width.Width.TheVariants as widths
use Rattle.ir_core.specs.declared.signatures.Conv.TheVariants as conv
use Rattle.ir_core.specs.declared.signatures.Ty.TheVariants as ty
use Rattle.ir_text.specs.Words.{op_word, condition_word, type_word, convention_word}
use Rattle.clif_words.specs.declared.class.Class.{Class}
use Rattle.clif_words.specs.declared.class.Class.TheVariants.{Align, Big, Binary, BinaryImm, BrTable, Brif, Call}
use Rattle.clif_words.specs.declared.class.Class.TheVariants.{CallIndirect, Cold, Colocated, Condition, Context, Conv}
use Rattle.clif_words.specs.declared.class.Class.TheVariants.{Convert, Default, ExplicitSlot, Ext, Flag, FuncAddr}
use Rattle.clif_words.specs.declared.class.Class.TheVariants.{Function, Icmp, IcmpImm, Iconst, Jump, Little, Load}
use Rattle.clif_words.specs.declared.class.Class.TheVariants.{LoadWide, Nullary, RefusedDecl, RefusedOpcode}
use Rattle.clif_words.specs.declared.class.Class.TheVariants.{RefusedType, Return, Select, Sret, StackLoad, StackStore}
use Rattle.clif_words.specs.declared.class.Class.TheVariants.{Store, Trap, TrapCode, TrapIf, TryCall, TryCallIndirect}
use Rattle.clif_words.specs.declared.class.Class.TheVariants.{Ty, TyI64, Unary, Vmctx}

-- a word, its class, and which of the words of the class it is
pub record Row : Type 0 where
  pub word : List ℕ
  pub class : Class
  pub number : ℕ

-- words of one class, numbered on from n
abbrev pub rows : Class → ℕ → List (List ℕ) → List Row
rows class n [] = []
rows class n (word ∷ words) = record { word = word; class = class; number = n } ∷ rows class (n + 1) words

pub record Group : Type 0 where
  pub class : Class
  pub words : List (List ℕ)

abbrev pub group : Class → List (List ℕ) → Group
group class words = record { class = class; words = words }

-- groups whose words are numbered through
abbrev pub numbered_through : ℕ → List Group → List Row
numbered_through n [] = []
numbered_through n (g ∷ gs) = rows g.class n g.words ++ numbered_through (n + length g.words) gs

-- groups whose words are numbered from 0 each
abbrev pub numbered_each : List Group → List Row
numbered_each [] = []
numbered_each (g ∷ gs) = rows g.class 0 g.words ++ numbered_each gs

-- words of one class that the grammar does not tell apart: each has the number 0
abbrev pub alike : Class → List (List ℕ) → List Group
alike class [] = []
alike class (word ∷ words) = group class (word ∷ []) ∷ alike class words

-- the opcode of an operation with an immediate number
abbrev pub imm_word : Op → List ℕ
imm_word op = op_word op ++ codes "_imm"

-- The opcodes, by form. An opcode's number is its place in this list.
abbrev pub opcodes : List Group
opcodes =
    -- `iconst.T n`
    group Iconst (
    codes "iconst" ∷ []) ∷
    -- `op[.T] x, y`
    group Binary (
    op_word ops.Iadd ∷ op_word ops.Isub ∷ op_word ops.Imul ∷ op_word ops.Band ∷ op_word ops.Bor ∷ op_word ops.Bxor ∷
    op_word ops.Smin ∷ op_word ops.Smax ∷ op_word ops.Umin ∷ op_word ops.Umax ∷ op_word ops.Umulhi
    ∷ op_word ops.Smulhi ∷
    op_word ops.Udiv ∷ op_word ops.Urem ∷ op_word ops.Sdiv ∷ op_word ops.Srem ∷ op_word ops.Ishl ∷ op_word ops.Ushr ∷
    op_word ops.Sshr ∷ op_word ops.Rotl ∷ op_word ops.Rotr ∷ op_word ops.UaddOverflow ∷ op_word ops.SaddOverflow ∷
    op_word ops.UsubOverflow ∷ op_word ops.SsubOverflow ∷ op_word ops.Iconcat ∷ []) ∷
    -- `op[.T] x`
    group Unary (
    op_word ops.Ineg ∷ op_word ops.Bnot ∷ op_word ops.Iabs ∷ op_word ops.Clz ∷ op_word ops.Ctz ∷ op_word ops.Popcnt ∷
    op_word ops.Bitrev ∷ op_word ops.Bswap ∷ op_word ops.Isplit ∷ []) ∷
    -- `icmp[.T] cc x, y`
    group Icmp (
    op_word (ops.Icmp cc.Eq) ∷ []) ∷
    -- `select[.T] c, x, y`
    group Select (
    op_word ops.Select ∷ []) ∷
    -- `op.T x`
    group Convert (
    op_word (ops.Uextend widths.W8) ∷ op_word (ops.Sextend widths.W8) ∷ op_word (ops.Ireduce widths.W8) ∷ []) ∷
    -- `op[.T] x, n`
    group BinaryImm (
    imm_word ops.Iadd ∷ imm_word ops.Imul ∷ imm_word ops.Band ∷ imm_word ops.Bor ∷ imm_word ops.Bxor ∷
    imm_word ops.Ishl ∷ imm_word ops.Ushr ∷ imm_word ops.Sshr ∷ []) ∷
    -- `icmp_imm[.T] cc x, n`
    group IcmpImm (
    imm_word (ops.Icmp cc.Eq) ∷ []) ∷
    -- `op.T flags p+off`
    group Load (
    codes "load" ∷ codes "uload8" ∷ codes "sload8" ∷ codes "uload16" ∷ codes "sload16" ∷ []) ∷
    -- `op[.i64] flags p+off`
    group LoadWide (
    codes "uload32" ∷ codes "sload32" ∷ []) ∷
    -- `op[.T] flags x, p+off`
    group Store (
    codes "store" ∷ codes "istore8" ∷ codes "istore16" ∷ codes "istore32" ∷ []) ∷
    -- `stack_load.T ssN+off`
    group StackLoad (
    codes "stack_load" ∷ []) ∷
    -- `stack_store[.T] x, ssN+off`
    group StackStore (
    codes "stack_store" ∷ []) ∷
    -- `func_addr.i64 fnN`
    group FuncAddr (
    codes "func_addr" ∷ []) ∷
    -- no operands
    group Nullary (
    codes "nop" ∷ codes "sequence_point" ∷ []) ∷
    -- `jump call-to`
    group Jump (
    codes "jump" ∷ []) ∷
    -- `brif[.T] x, call-to, call-to`
    group Brif (
    codes "brif" ∷ []) ∷
    -- `br_table v, call-to, [call-to, ..]`
    group BrTable (
    codes "br_table" ∷ []) ∷
    -- `return v, ..`
    group Return (
    codes "return" ∷ []) ∷
    -- `trap code`
    group Trap (
    codes "trap" ∷ []) ∷
    -- `op[.T] x, code`
    group TrapIf (
    codes "trapz" ∷ codes "trapnz" ∷ []) ∷
    -- `op fnN(v, ..)`
    group Call (
    codes "call" ∷ codes "return_call" ∷ []) ∷
    -- `try_call fnN(v, ..), sigN, call-to, table`
    group TryCall (
    codes "try_call" ∷ []) ∷
    -- `op[.i64] sigN, v(v, ..)`
    group CallIndirect (
    codes "call_indirect" ∷ codes "return_call_indirect" ∷ []) ∷
    -- `try_call_indirect[.i64] v(v, ..), sigN, call-to, table`
    group TryCallIndirect (
    codes "try_call_indirect" ∷ []) ∷
    []

-- the opcodes of CLIF that are refused
abbrev pub refused_opcodes : List (List ℕ)
refused_opcodes =
    codes "stack_addr" ∷ codes "dynamic_stack_addr" ∷ codes "dynamic_stack_load" ∷
    codes "dynamic_stack_store" ∷ codes "global_value" ∷ codes "symbol_value" ∷ codes "tls_value" ∷
    codes "bitcast" ∷ codes "bmask" ∷ codes "bitselect" ∷ codes "cls" ∷ codes "band_not" ∷ codes "bor_not" ∷
    codes "bxor_not" ∷ codes "irsub_imm" ∷ codes "udiv_imm" ∷ codes "sdiv_imm" ∷ codes "urem_imm" ∷
    codes "srem_imm" ∷ codes "rotl_imm" ∷ codes "rotr_imm" ∷ codes "umul_overflow" ∷ codes "smul_overflow" ∷
    codes "uadd_overflow_trap" ∷ codes "select_spectre_guard" ∷ codes "atomic_load" ∷ codes "atomic_store" ∷
    codes "atomic_rmw" ∷ codes "atomic_cas" ∷ codes "fence" ∷ codes "f32const" ∷ codes "f64const" ∷
    codes "fadd" ∷ codes "fsub" ∷ codes "fmul" ∷ codes "fdiv" ∷ codes "fneg" ∷ codes "fabs" ∷ codes "fcmp" ∷
    codes "sqrt" ∷ codes "fma" ∷ codes "fmin" ∷ codes "fmax" ∷ codes "ceil" ∷ codes "floor" ∷ codes "trunc" ∷
    codes "nearest" ∷ codes "fcopysign" ∷ codes "fpromote" ∷ codes "fdemote" ∷ codes "fcvt_to_uint" ∷
    codes "fcvt_to_sint" ∷ codes "fcvt_to_uint_sat" ∷ codes "fcvt_to_sint_sat" ∷ codes "fcvt_from_uint" ∷
    codes "fcvt_from_sint" ∷ codes "vconst" ∷ codes "splat" ∷ codes "insertlane" ∷ codes "extractlane" ∷
    codes "shuffle" ∷ codes "swizzle" ∷ codes "vany_true" ∷ codes "vall_true" ∷ codes "vhigh_bits" ∷
    codes "get_pinned_reg" ∷ codes "set_pinned_reg" ∷ codes "get_frame_pointer" ∷ codes "get_stack_pointer" ∷
    codes "get_return_address" ∷ codes "debugtrap" ∷ []

-- the other words
abbrev pub other_words : List Group
other_words =
    -- `function`
    group Function (codes "function" ∷ []) ∷
    -- a calling convention but `cold`
    group Conv (convention_word conv.Fast ∷ convention_word conv.Tail ∷ convention_word conv.SystemV
    ∷ convention_word conv.WindowsFastcall ∷ convention_word conv.AppleAarch64 ∷
    convention_word conv.Probestack ∷ convention_word conv.Winch ∷ []) ∷
    -- `cold`
    group Cold (convention_word conv.Cold ∷ []) ∷
    -- a type but `i64`
    group Ty (type_word ty.I8 ∷ type_word ty.I16 ∷ type_word ty.I32 ∷ type_word ty.I128 ∷ []) ∷
    -- `i64`
    group TyI64 (type_word ty.I64 ∷ []) ∷
    -- a type of another kind
    (alike RefusedType (codes "f16" ∷ codes "f32" ∷ codes "f64" ∷ codes "f128" ∷ codes "r32" ∷ codes "r64" ∷ []) ++
    -- `uext` or `sext`
    group Ext (codes "uext" ∷ codes "sext" ∷ []) ∷
    -- `vmctx`, a purpose of a parameter and a memory flag
    group Vmctx (codes "vmctx" ∷ []) ∷
    -- `sret`
    group Sret (codes "sret" ∷ []) ∷
    -- `explicit_slot`
    group ExplicitSlot (codes "explicit_slot" ∷ []) ∷
    -- `align`
    group Align (codes "align" ∷ []) ∷
    -- `colocated`
    group Colocated (codes "colocated" ∷ []) ∷
    -- the word of another declaration
    group RefusedDecl (codes "stack_limit" ∷ []) ∷
    -- `default`
    group Default (codes "default" ∷ []) ∷
    -- `context`
    group Context (codes "context" ∷ []) ∷
    -- a memory flag but `little`, `big` and `vmctx`
    group Flag (codes "notrap" ∷ codes "aligned" ∷ codes "readonly" ∷ codes "can_move" ∷ codes "heap" ∷ codes "table"
    ∷ []) ∷
    -- `little`
    group Little (codes "little" ∷ []) ∷
    -- `big`
    group Big (codes "big" ∷ []) ∷
    -- a trap code but `userN`
    group TrapCode (codes "stk_ovf" ∷ codes "int_ovf" ∷ codes "heap_oob" ∷ codes "int_divz" ∷ codes "bad_toint" ∷ []) ∷
    -- a condition of `icmp`
    group Condition (condition_word cc.Eq ∷ condition_word cc.Ne ∷ condition_word cc.Slt ∷ condition_word cc.Sge
    ∷ condition_word cc.Sgt ∷ condition_word cc.Sle ∷ condition_word cc.Ult ∷ condition_word cc.Uge ∷
    condition_word cc.Ugt ∷ condition_word cc.Ule ∷ []) ∷
    [])

-- no word stands in it twice
unfoldable pub all_words : List Row
all_words =
    numbered_through 0 opcodes ++ numbered_each (alike RefusedOpcode refused_opcodes) ++ numbered_each other_words
