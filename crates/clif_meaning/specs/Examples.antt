-- What the worked texts of clif_names mean.
use Rattle.std.specs.Prelude.{◌≡◌, ℕ, List, [], ◌∷◌, Option, None, Some, true, false, codes, pos, negsuc}
use Rattle.clk_num.specs.declared.op.Cc.TheVariants.{Slt}
use Rattle.clk_num.specs.declared.op.Op.TheVariants as op
use Rattle.clk_num.specs.declared.op.TrapCode.TheVariants as code
use Rattle.clk_num.specs.declared.width.Width.TheVariants.{W32, W128}
use Rattle.debug_tags.specs.declared.tags.Tag.TheVariants as tag
use Rattle.ir_core.specs.declared.names.FuncName.TheVariants as name
use Rattle.ir_core.specs.declared.signatures.Ty.{Ty}
use Rattle.ir_core.specs.declared.signatures.Ty.TheVariants.{I8, I16, I32, I64, I128}
use Rattle.ir_core.specs.declared.signatures.Conv.TheVariants.{Fast, Tail, SystemV}
use Rattle.ir_core.specs.declared.signatures.Ext.TheVariants.{No, Uext, Sext}
use Rattle.ir_core.specs.declared.signatures.Purpose.TheVariants.{Normal}
use Rattle.ir_core.specs.declared.signatures.Param.{Param}
use Rattle.ir_core.specs.declared.places.Item.TheVariants as item
use Rattle.ir_core.specs.declared.instructions.Arg.TheVariants as arg
use Rattle.ir_core.specs.declared.instructions.Access.TheVariants.{Uload}
use Rattle.ir_core.specs.declared.instructions.BlockCall.{BlockCall}
use Rattle.ir_core.specs.Module.{Const, Pure, PureImm, Load, Store, StackLoad, FuncAddr, Trapnz, Jump, Direct, Indirect}
use Rattle.ir_core.specs.Module.{TryDirect, Instruction, Plain, Branches, Return, Call, ReturnCall, TryCall, Line}
use Rattle.ir_core.specs.Module.{Function}
use Rattle.clif_meaning.specs.Instructions.{no_flags}
use Rattle.clif_meaning.specs.Meaning.{Means}
use Rattle.clif_meaning.specs.Spots.{spots, spot_of}
use Rattle.clif_names.specs.Rows as text

-- ---- meanings

abbrev pub given : Ty → Param
given t = record { ty = t; ext = No; purpose = Normal }

abbrev pub line : Option Ty → List ℕ → Instruction → Line
line ty results inst = record { inst = inst; ty = ty; results = results; tags = [] }

abbrev pub to : ℕ → BlockCall
to block = record { block = block; args = [] }

abbrev pub without_suffix : Function
without_suffix = record {
  name = name.User 0 1;
  sig = record {
    params = record { ty = I32; ext = Uext; purpose = Normal } ∷ given I32 ∷ [];
    results = given I32 ∷ [];
    conv = SystemV;
  };
  slots = [];
  sigs = [];
  callees = [];
  types = (0, I32) ∷ (1, I32) ∷ (2, I32) ∷ (3, I32) ∷ [];
  blocks =
      record {
        number = 0;
        params = 0 ∷ 1 ∷ [];
        lines =
            line (Some I32) (2 ∷ []) (Plain (Pure op.Iadd (0 ∷ 1 ∷ []))) ∷
            line None [] (Branches (Jump (to 1))) ∷ [];
      } ∷
      record {
        number = 1;
        params = [];
        lines =
            line (Some I32) (3 ∷ []) (Plain (Pure op.Isub (2 ∷ 0 ∷ []))) ∷
            line None [] (Return (3 ∷ [])) ∷ [];
      } ∷ [];
}

abbrev pub early : Function
early = record {
  name = name.Text (codes "f");
  sig = record { params = given I64 ∷ []; results = given I64 ∷ []; conv = Fast };
  slots = [];
  sigs = [];
  callees = [];
  types = (0, I64) ∷ (1, I64) ∷ (2, I64) ∷ [];
  blocks = record {
    number = 0;
    params = 0 ∷ [];
    lines =
        line (Some I64) (1 ∷ []) (Plain (Pure op.Iadd (2 ∷ 0 ∷ []))) ∷
        line (Some I64) (2 ∷ []) (Plain (Pure op.Iadd (0 ∷ 0 ∷ []))) ∷
        line None [] (Return (0 ∷ [])) ∷ [];
  } ∷ [];
}

-- a result word past the results of the form has type i8
abbrev pub one_more : Function
one_more = record {
  name = name.Text (codes "f");
  sig = record { params = given I64 ∷ []; results = given I64 ∷ []; conv = Fast };
  slots = [];
  sigs = [];
  callees = [];
  types = (0, I64) ∷ (1, I64) ∷ (2, I8) ∷ [];
  blocks = record {
    number = 0;
    params = 0 ∷ [];
    lines =
        line (Some I64) (1 ∷ 2 ∷ []) (Plain (Pure op.Iadd (0 ∷ 0 ∷ []))) ∷
        line None [] (Return (0 ∷ [])) ∷ [];
  } ∷ [];
}

-- the bitwise immediate is extended by zeros, the other by its sign
abbrev pub wide : Function
wide = record {
  name = name.Text (codes "f");
  sig = record { params = given I64 ∷ given I64 ∷ []; results = given I64 ∷ given I64 ∷ []; conv = Fast };
  slots = [];
  sigs = [];
  callees = [];
  types = (0, I64) ∷ (1, I64) ∷ (2, I128) ∷ (3, I128) ∷ (4, I128) ∷ (5, I128) ∷ (6, I64) ∷ (7, I64) ∷ [];
  blocks = record {
    number = 0;
    params = 0 ∷ 1 ∷ [];
    lines =
        line (Some I64) (2 ∷ []) (Plain (Pure op.Iconcat (0 ∷ 1 ∷ []))) ∷
        line (Some I128) (3 ∷ []) (Plain (PureImm op.Band 2 (record { width = W128; value = 18446744073709551615 }))) ∷
        line (Some I128) (4 ∷ []) (Plain (PureImm op.Iadd 2
        (record { width = W128; value = 340282366920938463463374607431768211455 }))) ∷
        line None (5 ∷ []) (Plain (Const (record { width = W128; value = 340282366920938463463374607431768211455 }))) ∷
        line (Some I128) (6 ∷ 7 ∷ []) (Plain (Pure op.Isplit (3 ∷ []))) ∷
        line None [] (Return (6 ∷ 7 ∷ [])) ∷ [];
  } ∷ [];
}

-- the inline signature of the first callee is signature 1; `uload32.i32` has a result of type i64
abbrev pub all_kinds : Function
all_kinds = record {
  name = name.Text (codes "f");
  sig = record { params = given I64 ∷ []; results = []; conv = Tail };
  slots = record { size = 16; align = 8 } ∷ record { size = 4; align = 1 } ∷ [];
  sigs =
      record { params = given I64 ∷ []; results = given I32 ∷ given I8 ∷ []; conv = Fast } ∷
      record { params = record { ty = I8; ext = Sext; purpose = Normal } ∷ []; results = given I16 ∷ []; conv = Fast } ∷
      record { params = given I64 ∷ []; results = []; conv = Fast } ∷ [];
  callees =
      record { name = name.Text (codes "g"); colocated = false; sig = 1 } ∷
      record { name = name.User 1 2; colocated = true; sig = 2 } ∷ [];
  types = (0, I64) ∷ (1, I64) ∷ (2, I32) ∷ (3, I8) ∷ (4, I8) ∷ (5, I64) ∷ (6, I16) ∷ (7, I64) ∷ (8, I32) ∷ (9, I8) ∷ [];
  blocks =
      record {
        number = 0;
        params = 0 ∷ [];
        lines =
            line None (1 ∷ []) (Plain (FuncAddr 1)) ∷
            line None (2 ∷ 3 ∷ 4 ∷ []) (Call (Indirect 0 1) (0 ∷ [])) ∷
            line (Some I32) (5 ∷ []) (Plain (Load (Uload I64 4)
            (record no_flags { notrap = true; little = true }) 0 (pos 8))) ∷
            line None (6 ∷ []) (Plain (StackLoad I16 1 (negsuc 1))) ∷
            record (line None [] (TryCall (TryDirect 1) 2 (0 ∷ []) (to 1)
            (record { tag = Some 5; target = record { block = 2; args = arg.Exn 0 ∷ arg.Value 2 ∷ [] } } ∷
            record { tag = None; target = to 1 } ∷ []))) { tags = tag.User 7 ∷ tag.Slot 1 ∷ [] } ∷ [];
      } ∷
      record { number = 1; params = []; lines = line None [] (ReturnCall (Direct 1) (1 ∷ [])) ∷ [] } ∷
      record {
        number = 2;
        params = 7 ∷ 8 ∷ [];
        lines =
            line (Some I32) (9 ∷ []) (Plain (PureImm (op.Icmp Slt) 8 (record { width = W32; value = 4294967295 }))) ∷
            line (Some I8) [] (Plain (Trapnz 9 (code.User 3))) ∷
            line (Some I32) [] (Plain (Store (Some 1) no_flags 8 7 (negsuc 7))) ∷
            line None [] (Return []) ∷ [];
      } ∷ [];
}

pub record WorkedMeanings : Type 0 where
  pub given_early : Means text.given_early (early ∷ [])
  pub two_results : Means text.two_results (one_more ∷ [])
  pub aliases_and_suffixes : Means text.aliases_and_suffixes (without_suffix ∷ [])
  pub wide : Means text.wide (wide ∷ [])
  pub all_kinds_of_names : Means text.all_kinds_of_names (all_kinds ∷ [])

-- ---- spots: the second instruction of the second block is the `return`, the alias line is none

pub record WorkedSpots : Type 0 where
  pub function : spot_of (spots text.aliases_and_suffixes) 0 item.Whole ≡ Some 9
  pub block : spot_of (spots text.aliases_and_suffixes) 0 (item.Block 1) ≡ Some 129
  pub jump : spot_of (spots text.aliases_and_suffixes) 0 (item.Inst (record { block = 0; index = 1 })) ≡ Some 117
  pub return : spot_of (spots text.aliases_and_suffixes) 0 (item.Inst (record { block = 1; index = 1 })) ≡ Some 171
  pub callee : spot_of (spots text.all_kinds_of_names) 0 (item.Callee 1) ≡ Some 166
