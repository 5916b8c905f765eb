-- The four shapes of generated functions. Each has the signature `(i64) -> i64 fast`, and so has each callee.
use Rattle.std.specs.Prelude.{ℕ, List, [], ◌∷◌, ◌++◌, Option, Some, None, false, codes, decimal}
use Rattle.exn_tables.specs.declared.table.Entry.{Entry}
use Rattle.clk_num.specs.declared.op.Op.{Op}
use Rattle.clk_num.specs.declared.op.Op.TheVariants as ops
use Rattle.clk_num.specs.declared.op.Cc.TheVariants.{Ult}
use Rattle.clk_num.specs.declared.width.Width.TheVariants.{W64}
use Rattle.ir_core.specs.declared.declarations.Callee.{Callee}
use Rattle.ir_core.specs.declared.instructions.Arg.{Arg}
use Rattle.ir_core.specs.declared.instructions.Arg.TheVariants as arg
use Rattle.ir_core.specs.declared.instructions.BlockCall.{BlockCall}
use Rattle.ir_core.specs.declared.names.FuncName.{FuncName}
use Rattle.ir_core.specs.declared.names.FuncName.TheVariants.{Text}
use Rattle.ir_core.specs.declared.signatures.Conv.TheVariants.{Fast}
use Rattle.ir_core.specs.declared.signatures.Ext.TheVariants as ext
use Rattle.ir_core.specs.declared.signatures.Param.{Param}
use Rattle.ir_core.specs.declared.signatures.Purpose.TheVariants as purpose
use Rattle.ir_core.specs.declared.signatures.Sig.{Sig}
use Rattle.ir_core.specs.declared.signatures.Ty.{Ty}
use Rattle.ir_core.specs.declared.signatures.Ty.TheVariants.{I8, I64}
use Rattle.ir_core.specs.Module.{Instruction, Line, Block, Function, Const, Pure, Brif, Direct, TryDirect}
use Rattle.ir_core.specs.Module.{Plain, Branches, Return, Call, TryCall}

-- ---- names and declarations

-- `%gI`
abbrev pub generated_name : ℕ → FuncName
generated_name number = Text (codes "g" ++ decimal number)

abbrev pub host_name : FuncName
host_name = Text (codes "host")

abbrev pub word : Param
word = record { ty = I64; ext = ext.No; purpose = purpose.Normal }

-- `(i64) -> i64 fast`
abbrev pub signature : Sig
signature = record { params = word ∷ []; results = word ∷ []; conv = Fast }

abbrev pub callee : FuncName → Callee
callee name = record { name = name; colocated = false; sig = 0 }

-- ---- instructions

abbrev pub line : Instruction → Option Ty → List ℕ → Line
line i ty results = record { inst = i; ty = ty; results = results; tags = [] }

-- `vR = iconst.i64 N`
abbrev pub iconst : (value number : ℕ) → Line
iconst value number = line (Plain (Const (record { width = W64; value = number }))) None (value ∷ [])

abbrev pub pure : Op → (value x y : ℕ) → Line
pure op value x y = line (Plain (Pure op (x ∷ y ∷ []))) (Some I64) (value ∷ [])

-- `vR = iadd vA, vB`
abbrev pub iadd : (value x y : ℕ) → Line
iadd value x y = pure ops.Iadd value x y

-- `vR = icmp ult vA, vB`
abbrev pub icmp_ult : (value x y : ℕ) → Line
icmp_ult value x y = pure (ops.Icmp Ult) value x y

-- `vR = call fnC(vA)`
abbrev pub call : (value called x : ℕ) → Line
call value called x = line (Call (Direct called) (x ∷ [])) None (value ∷ [])

-- `return vA`
abbrev pub returned : ℕ → Line
returned value = line (Return (value ∷ [])) None []

abbrev pub to : ℕ → Arg → BlockCall
to block a = record { block = block; args = a ∷ [] }

abbrev pub to_alone : ℕ → BlockCall
to_alone block = record { block = block; args = [] }

-- `brif vA, blockY, blockN`
abbrev pub brif : (cond taken other : ℕ) → Line
brif cond taken other = line (Branches (Brif cond (to_alone taken) (to_alone other))) (Some I8) []

-- `[ tag1: blockH(exn0), default: blockH(exn1) ]`
abbrev pub handlers : ℕ → List (Entry BlockCall)
handlers handler =
    record { tag = Some 1; target = to handler (arg.Exn 0) }
    ∷ record { tag = None; target = to handler (arg.Exn 1) } ∷ []

-- `try_call fnC(vA), sig0, blockN(ret0), [ tag1: blockH(exn0), default: blockH(exn1) ]`
abbrev pub try_call : (called value normal handler : ℕ) → Line
try_call called value normal handler =
    line (TryCall (TryDirect called) 0 (value ∷ []) (to normal (arg.Ret 0)) (handlers handler)) None []

abbrev pub block : (number : ℕ) → (params : List ℕ) → List Line → Block
block number params lines = record { number = number; params = params; lines = lines }

-- ---- functions

-- `%gI` without declarations and blocks
abbrev pub begun : ℕ → Function
begun number =
    record {
      name = generated_name number;
      sig = signature;
      slots = [];
      sigs = [];
      callees = [];
      types = [];
      blocks = [];
    }

-- it returns its argument and a constant, added
abbrev pub adding : (number constant : ℕ) → Function
adding number constant =
    record (begun number) {
      types = (0, I64) ∷ (1, I64) ∷ (2, I64) ∷ [];
      blocks = block 0 (0 ∷ []) (iconst 1 constant ∷ iadd 2 0 1 ∷ returned 2 ∷ []) ∷ [];
    }

-- with `sig0` and `fn0 = %gA sig0`
abbrev pub calling : (number a : ℕ) → Function
calling number a = record (begun number) { sigs = signature ∷ []; callees = callee (generated_name a) ∷ [] }

-- it calls %gA, and then %gB with the result
abbrev pub calling_two : (number a b : ℕ) → Function
calling_two number a b =
    record (begun number) {
      sigs = signature ∷ [];
      callees = callee (generated_name a) ∷ callee (generated_name b) ∷ [];
      types = (0, I64) ∷ (1, I64) ∷ (2, I64) ∷ [];
      blocks = block 0 (0 ∷ []) (call 1 0 0 ∷ call 2 1 1 ∷ returned 2 ∷ []) ∷ [];
    }

-- it calls %gA, and returns what that returns or throws
abbrev pub trying : (number a : ℕ) → Function
trying number a =
    record (calling number a) {
      types = (0, I64) ∷ (1, I64) ∷ (2, I64) ∷ [];
      blocks = block 0 (0 ∷ []) (try_call 0 0 1 2 ∷ []) ∷ block 1 (1 ∷ []) (returned 1 ∷ [])
          ∷ block 2 (2 ∷ []) (returned 2 ∷ []) ∷ [];
    }

abbrev pub choosing_blocks : (number a : ℕ) → Function
choosing_blocks number a =
    record (begun number) {
      sigs = signature ∷ [];
      callees = callee (generated_name a) ∷ callee host_name ∷ [];
      types = (0, I64) ∷ (1, I64) ∷ (2, I8) ∷ (3, I64) ∷ (4, I64) ∷ [];
      blocks = block 0 (0 ∷ []) [] ∷ block 1 [] [] ∷ block 2 [] [] ∷ [];
    }

-- it calls %gA where its argument is below a constant, and the host elsewhere
abbrev pub choosing : (number constant a : ℕ) → Function
choosing number constant a =
    record (choosing_blocks number a) {
      blocks = block 0 (0 ∷ []) (iconst 1 constant ∷ icmp_ult 2 0 1 ∷ brif 2 1 2 ∷ [])
          ∷ block 1 [] (call 3 0 0 ∷ returned 3 ∷ []) ∷ block 2 [] (call 4 1 0 ∷ returned 4 ∷ []) ∷ [];
    }
