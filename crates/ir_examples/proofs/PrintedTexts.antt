-- Worked examples of the canonical text, to the byte.
use Rattle.std.specs.Prelude.{◌≡◌, ◌^◌, ◌-◌, ℕ, pos, negsuc, true, List, [], ◌∷◌, ◌++◌, Some, None, codes}
use Rattle.std.proofs.Common.{refl}
use Rattle.std.specs.Fmt.{digits}
use Rattle.clk_num.specs.Numbers.{signed}
use Rattle.clk_num.specs.declared.op.Op.TheVariants.{Iadd, Isub, Imul, Band, Iconcat}
use Rattle.clk_num.specs.declared.op.TrapCode.TheVariants as trap
use Rattle.clk_num.specs.declared.width.Width.TheVariants.{W8, W16, W64, W128}
use Rattle.debug_tags.specs.declared.tags.Tag.TheVariants as tag
use Rattle.ir_core.specs.declared.instructions.Access.TheVariants as access
use Rattle.ir_core.specs.declared.instructions.Arg.TheVariants as arg
use Rattle.ir_core.specs.declared.names.FuncName.TheVariants as name
use Rattle.ir_core.specs.declared.signatures.Conv.TheVariants as conv
use Rattle.ir_core.specs.declared.signatures.Ext.TheVariants as ext
use Rattle.ir_core.specs.declared.signatures.Purpose.TheVariants as purpose
use Rattle.ir_core.specs.declared.signatures.Ty.TheVariants.{I8, I16, I32, I64, I128}
use Rattle.ir_core.specs.Module.{Const, Pure, PureImm, Load, Store, StackStore, Nop, Trap, Jump, BrTable, Direct}
use Rattle.ir_core.specs.Module.{Indirect, TryIndirect, Plain, Branches, Return, Call, TryCall, Function}
use Rattle.ir_text.specs.Text.{text_of}
use Rattle.ir_core.specs.Calling.{inlined}
use Rattle.ir_examples.proofs.Written.{param, declares, no_flags, line, to, block}

-- ---- a throw through a plain call of the callee: the function after inlining, with the numbers of its parts as they came

abbrev thrown_text : List ℕ
thrown_text =
    codes "function %f(i64) -> i64 fast {\n    sig0 = (i64) -> i64 fast\n    fn0 = %g sig0\n    fn1 = %h sig0\n\n"
    ++ codes "block0(v0: i64):\n    jump block1(v0)\n\n"
    ++ codes "block1(v1: i64):\n    try_call fn1(v1), sig0, block2(ret0), [ tag3: block4(exn0) ]\n\nblock2(v2: i64):\n"
    ++ codes "    jump block3(v2)\n\nblock3(v3: i64):\n    return v3\n\n"
    ++ codes "block4(v4: i64):\n    return v4\n}\n"

-- ---- names in numbers, attributes, and types that the operands say

abbrev located : Function
located = record {
  name = name.User 0 1;
  sig = record {
    params = record { ty = I32; ext = ext.Uext; purpose = purpose.Normal } ∷ param I32
        ∷ [];
    results = param I32 ∷ [];
    conv = conv.SystemV;
  };
  slots = [];
  sigs = [];
  callees = [];
  types = (0, I32) ∷ (1, I32) ∷ (2, I32) ∷ (3, I32) ∷ [];
  blocks = block 0 (0 ∷ 1 ∷ []) (line (Some I32) (2 ∷ []) (Plain (Pure Iadd (0 ∷ 1 ∷ [])))
      ∷ line None [] (Branches (Jump (to 1 []))) ∷ [])
      ∷ block 1 [] (line (Some I32) (3 ∷ []) (Plain (Pure Isub (2 ∷ 0 ∷ []))) ∷ line None [] (Return (3 ∷ [])) ∷ []) ∷ [];
}

abbrev located_text : List ℕ
located_text =
    codes "function u0:1(i32 uext, i32) -> i32 system_v {\nblock0(v0: i32, v1: i32):\n    v2 = iadd v0, v1\n"
    ++ codes "    jump block1\n\nblock1:\n    v3 = isub v2, v0\n    return v3\n}\n"

-- ---- debug tags and slots, and an empty function behind it

abbrev tagged : Function
tagged = record {
  name = name.Text (codes "f");
  sig = record { params = []; results = []; conv = conv.Fast };
  slots = record { size = 2; align = 1 } ∷ record { size = 16; align = 8 } ∷ [];
  sigs = record { params = []; results = []; conv = conv.Fast } ∷ [];
  callees = declares (name.Text (codes "h")) 0 ∷ [];
  types = (0, I16) ∷ [];
  blocks = block 0 [] (line None (0 ∷ []) (Plain (Const (record { width = W16; value = 513 })))
      ∷ line (Some I16) [] (Plain (StackStore 0 0 (pos 0)))
      ∷ record { inst = Call (Direct 0) []; ty = None; results = []; tags = tag.User 7 ∷ tag.Slot 0 ∷ tag.User 9 ∷ [] }
      ∷ line None [] (Return []) ∷ []) ∷ [];
}

abbrev empty : Function
empty = record {
  name = name.Text (codes "e");
  sig = record { params = []; results = []; conv = conv.Tail };
  slots = [];
  sigs = [];
  callees = [];
  types = [];
  blocks = block 0 [] (line None [] (Plain (Trap (trap.User 1))) ∷ []) ∷ [];
}

abbrev tagged_text : List ℕ
tagged_text =
    codes "function %f() fast {\n    ss0 = explicit_slot 2\n    ss1 = explicit_slot 16, align = 8\n"
    ++ codes "    sig0 = () fast\n    fn0 = %h sig0\n\nblock0:\n    v0 = iconst.i16 513\n    stack_store v0, ss0\n"
    ++ codes "    <7, ss0, 9> call fn0()\n    return\n}\n\nfunction %e() tail {\nblock0:\n    trap user1\n}\n"

-- ---- suffixes that stay, and numbers with signs

abbrev suffixed : Function
suffixed = record {
  name = name.Text (codes "f");
  sig = record { params = param I64 ∷ param I64 ∷ []; results = []; conv = conv.Fast };
  slots = [];
  sigs = [];
  callees = [];
  types = (0, I64) ∷ (1, I64) ∷ (2, I64) ∷ (3, I64) ∷ (4, I128) ∷ (5, I128) ∷ (6, I8) ∷ (7, I64) ∷ (8, I64) ∷ (9, I64)
      ∷ [];
  blocks = block 0 (0 ∷ 1 ∷ [])
      (line (Some I64) (2 ∷ []) (Plain (Pure Iadd (3 ∷ 0 ∷ []))) ∷ line (Some I64) (3 ∷ []) (Plain (Pure Imul (2 ∷ 1 ∷ [])))
      ∷ line (Some I64) (4 ∷ []) (Plain (Pure Iconcat (0 ∷ 1 ∷ [])))
      ∷ line (Some I128) (5 ∷ []) (Plain (PureImm Band 4 (record { width = W128; value = 2 ^ 64 - 1 })))
      ∷ line None (6 ∷ []) (Plain (Const (record { width = W8; value = 255 })))
      ∷ line (Some I64) (7 ∷ []) (Plain (PureImm Iadd 0 (record { width = W64; value = 2 ^ 64 - 1 })))
      ∷ line (Some I64) (8 ∷ [])
      (Plain (Load (access.Uload I64 4) (record no_flags { notrap = true; aligned = true; vmctx = true }) 0 (negsuc 7)))
      ∷ line (Some I32) (9 ∷ []) (Plain (Load (access.Uload I64 4) no_flags 0 (pos 0)))
      ∷ line (Some I8) [] (Plain (Store None (record no_flags { big = true }) 6 0 (pos 2))) ∷ line None [] (Plain Nop)
      ∷ line None [] (Call (Indirect 0 0) (1 ∷ [])) ∷ line None [] (TryCall (TryIndirect 0) 0 (1 ∷ []) (to 0 []) [])
      ∷ line None [] (Branches (BrTable 6 (to 0 []) (to 0 [] ∷ to 0 (arg.Value 0 ∷ []) ∷ []))) ∷ []) ∷ [];
}

abbrev suffixed_text : List ℕ
suffixed_text =
    codes "function %f(i64, i64) fast {\nblock0(v0: i64, v1: i64):\n    v2 = iadd.i64 v3, v0\n    v3 = imul v2, v1\n"
    ++ codes "    v4 = iconcat v0, v1\n    v5 = band_imm v4, 18446744073709551615\n"
    ++ codes "    v6 = iconst.i8 -1\n    v7 = iadd_imm v0, -1\n    v8 = uload32 notrap aligned vmctx v0-8\n"
    ++ codes "    v9 = uload32.i32 v0\n    store big v6, v0+2\n    nop\n    call_indirect sig0, v0(v1)\n"
    ++ codes "    try_call_indirect v0(v1), sig0, block0, []\n    br_table v6, block0, [block0, block0(v0)]\n}\n"

-- ---- the texts

thrown_is : text_of (inlined ∷ []) ≡ thrown_text
unfolding digits signed
thrown_is = refl

located_is : text_of (located ∷ []) ≡ located_text
unfolding digits signed
located_is = refl

tagged_is : text_of (tagged ∷ empty ∷ []) ≡ tagged_text
unfolding digits signed
tagged_is = refl

suffixed_is : text_of (suffixed ∷ []) ≡ suffixed_text
unfolding digits signed
suffixed_is = refl

nothing_is : text_of [] ≡ []
unfolding digits signed
nothing_is = refl
