-- A module in which each form of instruction stands, with each operation, condition and access, is well-formed and
-- accepted: a rule that is too strong would refuse it. Beside it a module in which one of two paths into a block defines
-- a value that is used there: it is well-formed, keeps all other rules, and is refused at this use.
use Rattle.std.proofs.Common.{refl, inl, inr}
use Rattle.std.specs.Prelude.{◌≡◌, ℕ, pos, negsuc, List, [], ◌∷◌, ◌++◌, Some, None, true, nat_eq, if◌then◌else◌}
use Rattle.clk_num.specs.declared.width.Width.TheVariants.{W8, W16, W32, W64, W128}
use Rattle.clk_num.specs.declared.op.Op.TheVariants as op
use Rattle.clk_num.specs.declared.op.Cc.TheVariants as condition
use Rattle.clk_num.specs.declared.op.TrapCode.TheVariants as code
use Rattle.clk_num.specs.Operations.{value_of}
use Rattle.clk_num.specs.Rows.{row}
use Rattle.debug_tags.specs.declared.tags.Tag.TheVariants as tag
use Rattle.ir_core.specs.declared.signatures.Ty.{Ty}
use Rattle.ir_core.specs.declared.signatures.Ty.TheVariants.{I8, I16, I32, I64, I128}
use Rattle.ir_core.specs.declared.signatures.Sig.{Sig}
use Rattle.ir_core.specs.declared.signatures.Conv.TheVariants.{Fast, Tail, SystemV}
use Rattle.ir_core.specs.declared.instructions.Arg.TheVariants as arg
use Rattle.ir_core.specs.declared.instructions.Flags.{Flags}
use Rattle.ir_core.specs.declared.instructions.Access.TheVariants.{Full, Uload, Sload}
use Rattle.ir_core.specs.Module.{Nop, Const, Pure, PureImm, Load, Store, StackLoad, StackStore, FuncAddr, Trap, Trapz, Trapnz, Brif, BrTable, Direct, Indirect, TryDirect, TryIndirect, Plain, Branches, SequencePoint, Call, ReturnCall, TryCall, Line, Block, Function, Module}
use Rattle.ir_core.specs.Signatures.{same_sig}
use Rattle.ir_core.specs.Lookup.{same_name}
use Rattle.ir_core.specs.WellFormed.{IsModule}
use Rattle.ir_semantics.specs.Accepted.{not_available, Accepted}
use Rattle.ir_semantics.specs.Available.{Reach, begin, branch}
use Rattle.ir_examples.proofs.Written.{signature, slot, declares, no_flags, f, g, h, t, of_i64, line, tagged, to, caught, jumps, returns, block, function, line_at}
use Rattle.ir_check.specs.Faults.{check, FirstFault}
use Rattle.ir_check.specs.Twins.{early_fault}
use Rattle.ir_examples.proofs.Certificate.{is_module, accepted, faulty}

-- ---- flags and signatures

abbrev two : Sig
two = signature (I64 ∷ []) (I64 ∷ I64 ∷ []) Tail

abbrev big : Flags
big = record no_flags { big = true }

abbrev big_table : Flags
big_table = record no_flags { big = true; table = true }

abbrev little_heap : Flags
little_heap = record no_flags { little = true; heap = true }

abbrev notrap_aligned : Flags
notrap_aligned = record no_flags { notrap = true; aligned = true }

abbrev readonly_can_move : Flags
readonly_can_move = record no_flags { readonly = true; can_move = true }

abbrev vmctx : Flags
vmctx = record no_flags { vmctx = true }

-- ---- the lines of the function, by what they show; values have their numbers in the order of the text

-- constants of each type that has them, and numbers of the others
abbrev constants : List Line
constants =
    line None (1 ∷ []) (Plain (Const (value_of W64 5))) ∷
    line None (2 ∷ []) (Plain (Const (value_of W8 255))) ∷
    line None (3 ∷ []) (Plain (Const (value_of W16 32768))) ∷
    line None (4 ∷ []) (Plain (Const (value_of W32 4294967295))) ∷
    line (Some I64) (5 ∷ []) (Plain (Pure op.Iconcat (0 ∷ 1 ∷ []))) ∷
    line (Some I128) (6 ∷ 7 ∷ []) (Plain (Pure op.Isplit (5 ∷ []))) ∷
    line (Some I16) (8 ∷ 9 ∷ []) (Plain (Pure op.Isplit (3 ∷ []))) ∷
    line (Some I8) (10 ∷ []) (Plain (Pure op.Iconcat (2 ∷ 8 ∷ []))) ∷
    []

-- to a wider and to a narrower type; the result names its type
abbrev conversions : List Line
conversions =
    line None (11 ∷ []) (Plain (Pure (op.Uextend W64) (4 ∷ []))) ∷
    line None (12 ∷ []) (Plain (Pure (op.Uextend W128) (2 ∷ []))) ∷
    line None (13 ∷ []) (Plain (Pure (op.Sextend W16) (2 ∷ []))) ∷
    line None (14 ∷ []) (Plain (Pure (op.Sextend W128) (1 ∷ []))) ∷
    line None (15 ∷ []) (Plain (Pure (op.Ireduce W8) (5 ∷ []))) ∷
    line None (16 ∷ []) (Plain (Pure (op.Ireduce W32) (11 ∷ []))) ∷
    []

-- two operands of one type
abbrev two_operands : List Line
two_operands =
    line (Some I64) (17 ∷ []) (Plain (Pure op.Iadd (0 ∷ 1 ∷ []))) ∷
    line (Some I8) (18 ∷ []) (Plain (Pure op.Isub (2 ∷ 15 ∷ []))) ∷
    line (Some I16) (19 ∷ []) (Plain (Pure op.Imul (3 ∷ 13 ∷ []))) ∷
    line (Some I32) (20 ∷ []) (Plain (Pure op.Band (4 ∷ 16 ∷ []))) ∷
    line (Some I128) (21 ∷ []) (Plain (Pure op.Bor (5 ∷ 12 ∷ []))) ∷
    line (Some I64) (22 ∷ []) (Plain (Pure op.Bxor (0 ∷ 1 ∷ []))) ∷
    line (Some I8) (23 ∷ []) (Plain (Pure op.Smin (2 ∷ 15 ∷ []))) ∷
    line (Some I16) (24 ∷ []) (Plain (Pure op.Smax (3 ∷ 13 ∷ []))) ∷
    line (Some I32) (25 ∷ []) (Plain (Pure op.Umin (4 ∷ 16 ∷ []))) ∷
    line (Some I128) (26 ∷ []) (Plain (Pure op.Umax (5 ∷ 12 ∷ []))) ∷
    line (Some I64) (27 ∷ []) (Plain (Pure op.Umulhi (0 ∷ 1 ∷ []))) ∷
    line (Some I8) (28 ∷ []) (Plain (Pure op.Smulhi (2 ∷ 15 ∷ []))) ∷
    line (Some I16) (29 ∷ []) (Plain (Pure op.Udiv (3 ∷ 13 ∷ []))) ∷
    line (Some I32) (30 ∷ []) (Plain (Pure op.Urem (4 ∷ 16 ∷ []))) ∷
    line (Some I64) (31 ∷ []) (Plain (Pure op.Sdiv (0 ∷ 1 ∷ []))) ∷
    line (Some I8) (32 ∷ []) (Plain (Pure op.Srem (2 ∷ 15 ∷ []))) ∷
    line (Some I128) (33 ∷ []) (Plain (Pure op.Iadd (5 ∷ 14 ∷ []))) ∷
    []

-- one operand
abbrev one_operand : List Line
one_operand =
    line (Some I128) (34 ∷ []) (Plain (Pure op.Ineg (5 ∷ []))) ∷
    line (Some I8) (35 ∷ []) (Plain (Pure op.Bnot (2 ∷ []))) ∷
    line (Some I16) (36 ∷ []) (Plain (Pure op.Iabs (3 ∷ []))) ∷
    line (Some I32) (37 ∷ []) (Plain (Pure op.Clz (4 ∷ []))) ∷
    line (Some I64) (38 ∷ []) (Plain (Pure op.Ctz (0 ∷ []))) ∷
    line (Some I128) (39 ∷ []) (Plain (Pure op.Popcnt (5 ∷ []))) ∷
    line (Some I8) (40 ∷ []) (Plain (Pure op.Bitrev (15 ∷ []))) ∷
    line (Some I16) (41 ∷ []) (Plain (Pure op.Bswap (3 ∷ []))) ∷
    line (Some I128) (42 ∷ []) (Plain (Pure op.Bswap (5 ∷ []))) ∷
    []

-- shifts by an amount of another type
abbrev shifts : List Line
shifts =
    line (Some I64) (43 ∷ []) (Plain (Pure op.Ishl (0 ∷ 2 ∷ []))) ∷
    line (Some I8) (44 ∷ []) (Plain (Pure op.Ushr (2 ∷ 5 ∷ []))) ∷
    line (Some I128) (45 ∷ []) (Plain (Pure op.Sshr (5 ∷ 4 ∷ []))) ∷
    line (Some I16) (46 ∷ []) (Plain (Pure op.Rotl (3 ∷ 1 ∷ []))) ∷
    line (Some I32) (47 ∷ []) (Plain (Pure op.Rotr (4 ∷ 3 ∷ []))) ∷
    []

-- each condition, and a choice by a condition of any type
abbrev comparisons : List Line
comparisons =
    line (Some I64) (48 ∷ []) (Plain (Pure (op.Icmp condition.Eq) (0 ∷ 1 ∷ []))) ∷
    line (Some I8) (49 ∷ []) (Plain (Pure (op.Icmp condition.Ne) (2 ∷ 15 ∷ []))) ∷
    line (Some I16) (50 ∷ []) (Plain (Pure (op.Icmp condition.Slt) (3 ∷ 13 ∷ []))) ∷
    line (Some I32) (51 ∷ []) (Plain (Pure (op.Icmp condition.Sge) (4 ∷ 16 ∷ []))) ∷
    line (Some I128) (52 ∷ []) (Plain (Pure (op.Icmp condition.Sgt) (5 ∷ 12 ∷ []))) ∷
    line (Some I64) (53 ∷ []) (Plain (Pure (op.Icmp condition.Sle) (0 ∷ 1 ∷ []))) ∷
    line (Some I8) (54 ∷ []) (Plain (Pure (op.Icmp condition.Ult) (2 ∷ 15 ∷ []))) ∷
    line (Some I16) (55 ∷ []) (Plain (Pure (op.Icmp condition.Uge) (3 ∷ 13 ∷ []))) ∷
    line (Some I32) (56 ∷ []) (Plain (Pure (op.Icmp condition.Ugt) (4 ∷ 16 ∷ []))) ∷
    line (Some I128) (57 ∷ []) (Plain (Pure (op.Icmp condition.Ule) (5 ∷ 12 ∷ []))) ∷
    line (Some I64) (58 ∷ []) (Plain (Pure op.Select (50 ∷ 0 ∷ 1 ∷ []))) ∷
    line (Some I8) (59 ∷ []) (Plain (Pure op.Select (5 ∷ 2 ∷ 15 ∷ []))) ∷
    []

-- a result and a flag
abbrev overflows : List Line
overflows =
    line (Some I8) (60 ∷ 61 ∷ []) (Plain (Pure op.UaddOverflow (2 ∷ 15 ∷ []))) ∷
    line (Some I16) (62 ∷ 63 ∷ []) (Plain (Pure op.SaddOverflow (3 ∷ 13 ∷ []))) ∷
    line (Some I32) (64 ∷ 65 ∷ []) (Plain (Pure op.UsubOverflow (4 ∷ 16 ∷ []))) ∷
    line (Some I128) (66 ∷ 67 ∷ []) (Plain (Pure op.SsubOverflow (5 ∷ 12 ∷ []))) ∷
    []

-- the forms with an immediate, up to the greatest of its type
abbrev immediates : List Line
immediates =
    line (Some I64) (68 ∷ []) (Plain (PureImm op.Iadd 0 (value_of W64 18446744073709551615))) ∷
    line (Some I8) (69 ∷ []) (Plain (PureImm op.Imul 2 (value_of W8 255))) ∷
    line (Some I16) (70 ∷ []) (Plain (PureImm op.Band 3 (value_of W16 65535))) ∷
    line (Some I32) (71 ∷ []) (Plain (PureImm op.Bor 4 (value_of W32 4294967295))) ∷
    line (Some I128) (72 ∷ []) (Plain (PureImm op.Bxor 5 (value_of W128 340282366920938463463374607431768211455))) ∷
    line (Some I64) (73 ∷ []) (Plain (PureImm op.Ishl 0 (value_of W64 63))) ∷
    line (Some I128) (74 ∷ []) (Plain (PureImm op.Ushr 5 (value_of W128 127))) ∷
    line (Some I8) (75 ∷ []) (Plain (PureImm op.Sshr 2 (value_of W8 7))) ∷
    line (Some I128) (76 ∷ []) (Plain (PureImm (op.Icmp condition.Ult) 5 (value_of W128 340282366920938463463374607431768211455))) ∷
    line (Some I32) (77 ∷ []) (Plain (PureImm (op.Icmp condition.Eq) 4 (value_of W32 0))) ∷
    []

-- the first block ends in one of two ways
abbrev parting : List Line
parting = line (Some I8) [] (Branches (Brif 50 (to 1 (arg.Value 68 ∷ [])) (to 2 []))) ∷ []

-- reads of each type, and of fewer bytes than the type has
abbrev loads : List Line
loads =
    line None (79 ∷ []) (Plain (Load (Full I8) no_flags 78 (pos 8))) ∷
    line None (80 ∷ []) (Plain (Load (Full I16) notrap_aligned 78 (pos 8))) ∷
    line None (81 ∷ []) (Plain (Load (Full I32) readonly_can_move 78 (pos 8))) ∷
    line None (82 ∷ []) (Plain (Load (Full I64) little_heap 78 (pos 8))) ∷
    line None (83 ∷ []) (Plain (Load (Full I128) big_table 78 (pos 8))) ∷
    line None (84 ∷ []) (Plain (Load (Uload I16 1) no_flags 78 (negsuc 7))) ∷
    line None (85 ∷ []) (Plain (Load (Uload I32 1) big 78 (pos 0))) ∷
    line None (86 ∷ []) (Plain (Load (Uload I64 1) vmctx 78 (pos 12))) ∷
    line None (87 ∷ []) (Plain (Load (Uload I32 2) no_flags 78 (negsuc 7))) ∷
    line None (88 ∷ []) (Plain (Load (Uload I64 2) big 78 (pos 0))) ∷
    line (Some I64) (89 ∷ []) (Plain (Load (Uload I64 4) vmctx 78 (pos 12))) ∷
    line None (90 ∷ []) (Plain (Load (Sload I16 1) no_flags 78 (negsuc 7))) ∷
    line None (91 ∷ []) (Plain (Load (Sload I32 1) big 78 (pos 0))) ∷
    line None (92 ∷ []) (Plain (Load (Sload I64 1) vmctx 78 (pos 12))) ∷
    line None (93 ∷ []) (Plain (Load (Sload I32 2) no_flags 78 (negsuc 7))) ∷
    line None (94 ∷ []) (Plain (Load (Sload I64 2) big 78 (pos 0))) ∷
    line (Some I64) (95 ∷ []) (Plain (Load (Sload I64 4) vmctx 78 (pos 12))) ∷
    []

-- writes of each type, and of fewer bytes than the value has
abbrev stores : List Line
stores =
    line (Some I8) [] (Plain (Store None no_flags 79 78 (pos 16))) ∷
    line (Some I16) [] (Plain (Store None notrap_aligned 80 78 (pos 16))) ∷
    line (Some I32) [] (Plain (Store None readonly_can_move 81 78 (pos 16))) ∷
    line (Some I64) [] (Plain (Store None little_heap 82 78 (pos 16))) ∷
    line (Some I128) [] (Plain (Store None big_table 83 78 (pos 16))) ∷
    line (Some I16) [] (Plain (Store (Some 1) no_flags 84 0 (negsuc 2147483647))) ∷
    line (Some I32) [] (Plain (Store (Some 1) big 85 0 (pos 0))) ∷
    line (Some I64) [] (Plain (Store (Some 1) vmctx 86 0 (pos 2147483647))) ∷
    line (Some I32) [] (Plain (Store (Some 2) no_flags 87 0 (negsuc 2147483647))) ∷
    line (Some I64) [] (Plain (Store (Some 2) big 88 0 (pos 0))) ∷
    line (Some I64) [] (Plain (Store (Some 4) vmctx 89 0 (pos 2147483647))) ∷
    []

-- the bytes of slots, up to their ends
abbrev slot_lines : List Line
slot_lines =
    line (Some I8) [] (Plain (StackStore 79 1 (pos 3))) ∷
    line None (96 ∷ []) (Plain (StackLoad I8 1 (pos 3))) ∷
    line (Some I16) [] (Plain (StackStore 80 0 (pos 14))) ∷
    line None (97 ∷ []) (Plain (StackLoad I16 0 (pos 14))) ∷
    line (Some I32) [] (Plain (StackStore 4 1 (pos 0))) ∷
    line None (98 ∷ []) (Plain (StackLoad I32 1 (pos 0))) ∷
    line (Some I64) [] (Plain (StackStore 11 0 (pos 8))) ∷
    line None (99 ∷ []) (Plain (StackLoad I64 0 (pos 8))) ∷
    line (Some I128) [] (Plain (StackStore 5 0 (pos 0))) ∷
    line None (100 ∷ []) (Plain (StackLoad I128 0 (pos 0))) ∷
    []

-- a jump to the block in which both ways meet
abbrev to_join : List Line
to_join =
    line None [] (Plain Nop) ∷
    jumps 3 (arg.Value 99 ∷ []) ∷
    []

-- traps on a condition of any type, for each reason, and a table
abbrev traps : List Line
traps =
    line (Some I8) [] (Plain (Trapz 2 code.StkOvf)) ∷
    line (Some I16) [] (Plain (Trapz 3 code.IntOvf)) ∷
    line (Some I32) [] (Plain (Trapz 4 code.HeapOob)) ∷
    line (Some I64) [] (Plain (Trapnz 0 code.IntDivz)) ∷
    line (Some I128) [] (Plain (Trapnz 5 code.BadToint)) ∷
    line (Some I8) [] (Plain (Trapnz 50 (code.User 65535))) ∷
    line None [] (Branches (BrTable 4 (to 9 []) (to 3 (arg.Value 0 ∷ []) ∷ to 9 [] ∷ to 3 (arg.Value 7 ∷ []) ∷ []))) ∷
    []

-- calls of each kind, with tags and without. Both ways into the block have defined what the first block defines. The
-- signatures 1 and 4 are the same, so a call may name the one where the callee is declared by the other.
abbrev calls : List Line
calls =
    line None (102 ∷ []) (Plain (FuncAddr 0)) ∷
    tagged (tag.User 7 ∷ tag.Slot 0 ∷ tag.Slot 1 ∷ []) [] SequencePoint ∷
    tagged (tag.User 7 ∷ tag.Slot 0 ∷ []) (103 ∷ []) (Call (Direct 0) (101 ∷ [])) ∷
    tagged (tag.User 8 ∷ tag.Slot 1 ∷ []) (104 ∷ []) (Call (Indirect 1 102) (103 ∷ [])) ∷
    line None (105 ∷ []) (Call (Direct 1) []) ∷
    line None [] (Call (Indirect 3 102) (33 ∷ 2 ∷ [])) ∷
    line None (106 ∷ 107 ∷ []) (Call (Direct 2) (104 ∷ [])) ∷
    line None (108 ∷ []) (Call (Direct 3) (107 ∷ [])) ∷
    tagged (tag.User 9 ∷ tag.Slot 0 ∷ []) [] (TryCall (TryDirect 0) 4 (108 ∷ []) (to 4 (arg.Ret 0 ∷ arg.Value 106 ∷ [])) (caught (Some 1) (to 5 (arg.Exn 0 ∷ arg.Exn 1 ∷ [])) ∷ caught (Some 4294967295) (to 6 (arg.Exn 1 ∷ [])) ∷ caught None (to 9 []) ∷ [])) ∷
    []

-- with the signature by which it goes; its results and a payload in any order
abbrev try_indirect : List Line
try_indirect = tagged (tag.Slot 1 ∷ []) [] (TryCall (TryIndirect 102) 0 (109 ∷ []) (to 7 (arg.Ret 1 ∷ arg.Ret 0 ∷ [])) (caught (Some 1) (to 5 (arg.Exn 0 ∷ arg.Value 110 ∷ [])) ∷ [])) ∷ []

-- a tail call of the function itself
abbrev tail : List Line
tail = tagged (tag.User 3 ∷ []) [] (ReturnCall (Direct 2) (111 ∷ [])) ∷ []

-- a block that leads back to itself, with a value from before the loop
abbrev loop : List Line
loop =
    line (Some I64) (114 ∷ []) (Plain (PureImm op.Iadd 113 (value_of W64 18446744073709551615))) ∷
    line (Some I64) (115 ∷ []) (Plain (Pure op.Band (114 ∷ 103 ∷ []))) ∷
    line (Some I64) [] (Branches (Brif 114 (to 6 (arg.Value 115 ∷ [])) (to 7 (arg.Value 115 ∷ arg.Value 101 ∷ [])))) ∷
    []

-- a condition of type i128
abbrev choice : List Line
choice = line (Some I128) [] (Branches (Brif 5 (to 8 []) (to 10 []))) ∷ []

-- several values
abbrev gives_two : List Line
gives_two = returns (116 ∷ 0 ∷ []) ∷ []

-- where the tables lead otherwise
abbrev cold : List Line
cold = line None [] (Plain (Trap (code.User 2))) ∷ []

-- a tail call by an address, whose block stands in the text before those that define its values
abbrev tail_indirect : List Line
tail_indirect = tagged (tag.User 4 ∷ []) [] (ReturnCall (Indirect 0 102) (117 ∷ [])) ∷ []

-- no path leads to these two blocks: there each value is available
abbrev unreached : List Line
unreached = line None [] (TryCall (TryIndirect 78) 1 (118 ∷ []) (to 12 (arg.Ret 0 ∷ [])) []) ∷ []

abbrev unreached_too : List Line
unreached_too = line (Some I64) [] (Branches (Brif 115 (to 11 (arg.Value 119 ∷ [])) (to 8 []))) ∷ []

abbrev blocks : List Block
blocks =
    block 0 (0 ∷ []) (constants ++ (conversions ++ (two_operands ++ (one_operand ++ (shifts ++ (comparisons ++ (overflows ++ (immediates ++ parting)))))))) ∷
    block 10 [] tail_indirect ∷
    block 1 (78 ∷ []) (loads ++ (stores ++ (slot_lines ++ to_join))) ∷
    block 2 [] traps ∷
    block 3 (101 ∷ []) calls ∷
    block 4 (109 ∷ 110 ∷ []) try_indirect ∷
    block 5 (111 ∷ 112 ∷ []) tail ∷
    block 6 (113 ∷ []) loop ∷
    block 7 (116 ∷ 117 ∷ []) choice ∷
    block 8 [] gives_two ∷
    block 9 [] cold ∷
    block 11 (118 ∷ []) unreached ∷
    block 12 (119 ∷ []) unreached_too ∷
    []

abbrev value_types : List Ty
value_types = I64 ∷ I64 ∷ I8 ∷ I16 ∷ I32 ∷ I128 ∷ I64 ∷ I64 ∷ I8 ∷ I8 ∷ I16 ∷ I64 ∷ I128 ∷ I16 ∷ I128 ∷ I8 ∷ I32 ∷ I64 ∷ I8 ∷ I16 ∷ I32 ∷ I128 ∷ I64 ∷ I8 ∷ I16 ∷ I32 ∷ I128 ∷ I64 ∷ I8 ∷ I16 ∷ I32 ∷ I64 ∷ I8 ∷ I128 ∷ I128 ∷ I8 ∷ I16 ∷ I32 ∷ I64 ∷ I128 ∷ I8 ∷ I16 ∷ I128 ∷ I64 ∷ I8 ∷ I128 ∷ I16 ∷ I32 ∷ I8 ∷ I8 ∷ I8 ∷ I8 ∷ I8 ∷ I8 ∷ I8 ∷ I8 ∷ I8 ∷ I8 ∷ I64 ∷ I8 ∷ I8 ∷ I8 ∷ I16 ∷ I8 ∷ I32 ∷ I8 ∷ I128 ∷ I8 ∷ I64 ∷ I8 ∷ I16 ∷ I32 ∷ I128 ∷ I64 ∷ I128 ∷ I8 ∷ I8 ∷ I8 ∷ I64 ∷ I8 ∷ I16 ∷ I32 ∷ I64 ∷ I128 ∷ I16 ∷ I32 ∷ I64 ∷ I32 ∷ I64 ∷ I64 ∷ I16 ∷ I32 ∷ I64 ∷ I32 ∷ I64 ∷ I64 ∷ I8 ∷ I16 ∷ I32 ∷ I64 ∷ I128 ∷ I64 ∷ I64 ∷ I64 ∷ I64 ∷ I32 ∷ I64 ∷ I64 ∷ I64 ∷ I64 ∷ I64 ∷ I64 ∷ I64 ∷ I64 ∷ I64 ∷ I64 ∷ I64 ∷ I64 ∷ I64 ∷ I64 ∷ []

abbrev pub many : Function
many =
    function f two (slot 16 ∷ slot 4 ∷ []) (two ∷ of_i64 Tail ∷ signature [] (I32 ∷ []) Fast ∷ signature (I128 ∷ I8 ∷ []) [] SystemV ∷ of_i64 Tail ∷ []) (declares g 1 ∷ declares h 2 ∷ declares f 0 ∷ declares g 4 ∷ []) value_types blocks

abbrev pub gives_back : Function
gives_back = function g (of_i64 Tail) [] [] [] (I64 ∷ []) (block 0 (0 ∷ []) (returns (0 ∷ []) ∷ []) ∷ [])

abbrev gives_nothing : Function
gives_nothing = function t (signature [] [] Fast) [] [] [] [] (block 0 [] (returns [] ∷ []) ∷ [])

abbrev accepted_module : Module
accepted_module = many ∷ gives_back ∷ gives_nothing ∷ []

all_pass : early_fault accepted_module ≡ None
unfolding row same_sig
all_pass = refl

many_well_formed : IsModule accepted_module
many_well_formed = is_module accepted_module (refl, (refl, (refl, tt))) refl

-- what a list has for a block
abbrev listed : List (ℕ × List ℕ) → ℕ → List ℕ
listed [] b = []
listed (x ∷ xs) b = if nat_eq x.0 b then x.1 else listed xs b

-- of each block of the first function the values that are used in it or behind it, and defined before it; no path leads
-- to 11 and 12
abbrev live : List (ℕ × List ℕ)
live =
    (1, 0 ∷ 2 ∷ 4 ∷ 5 ∷ 11 ∷ 33 ∷ []) ∷
    (2, 0 ∷ 2 ∷ 3 ∷ 4 ∷ 5 ∷ 7 ∷ 33 ∷ 50 ∷ []) ∷
    (3, 0 ∷ 2 ∷ 5 ∷ 33 ∷ []) ∷
    (4, 0 ∷ 5 ∷ 102 ∷ []) ∷
    (6, 0 ∷ 5 ∷ 101 ∷ 102 ∷ 103 ∷ []) ∷
    (7, 0 ∷ 5 ∷ 102 ∷ []) ∷
    (8, 0 ∷ 116 ∷ []) ∷
    (10, 102 ∷ 117 ∷ []) ∷
    (11, 0 ∷ 78 ∷ 115 ∷ 116 ∷ []) ∷
    (12, 0 ∷ 78 ∷ 115 ∷ 116 ∷ []) ∷
    []

abbrev known : Function → ℕ → List ℕ
known of_function b = if same_name of_function.name f then listed live b else []

many_accepted : Accepted accepted_module
unfolding row same_sig
many_accepted = accepted known accepted_module refl refl

-- ---- a value that one of two paths defines

-- block 1 defines v1 and block 2 does not; both lead to block 3, which returns v1
abbrev joins : List Block
joins =
    block 0 (0 ∷ []) (line (Some I64) [] (Branches (Brif 0 (to 1 []) (to 2 []))) ∷ []) ∷
    block 1 [] (line None (1 ∷ []) (Plain (Const (value_of W64 5))) ∷ jumps 3 [] ∷ []) ∷
    block 2 [] (jumps 3 [] ∷ []) ∷
    block 3 [] (returns (1 ∷ []) ∷ []) ∷
    []

abbrev one_path : Function
one_path = function f (of_i64 Tail) [] [] [] (I64 ∷ I64 ∷ []) joins

one_path_well_formed : IsModule (one_path ∷ [])
one_path_well_formed = is_module (one_path ∷ []) (refl, tt) refl

other_rules_pass : early_fault (one_path ∷ []) ≡ None
unfolding row same_sig
other_rules_pass = refl

-- the path through block 2
around : Reach one_path 3 0 (0 ∷ [])
around = branch (branch (begin _ _ refl) _ refl _ refl (to 2 []) (inr (inl refl)) _ refl) _ refl _ refl (to 3 []) (inl refl) _ refl

abbrev nothing_known : Function → ℕ → List ℕ
nothing_known of_function b = []

one_path_refused : FirstFault (one_path ∷ []) 0 (line_at 3 0) not_available
unfolding row same_sig
one_path_refused =
    faulty nothing_known (one_path ∷ []) refl (check 0 one_path (line_at 3 0) not_available) refl
    (λ kept. elim ((kept _ _ refl refl).0 (0 ∷ []) around) [ inl q ↦ cc | inr q ↦ q ])

one_path_not_accepted : Accepted (one_path ∷ []) → ⊥
one_path_not_accepted ok = elim ((ok one_path (inl refl) (line_at 3 0) not_available _ _ refl refl).0 (0 ∷ []) around) [ inl q ↦ cc | inr q ↦ q ]
