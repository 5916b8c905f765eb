-- A worked example, which the tests (`core_tests`) build: %f, whose call of %g has a handler for tag3, and what it is
-- once the call is replaced by the body of %g, which calls %h and returns the result.
use Rattle.std.specs.Prelude.{ℕ, List, [], ◌∷◌, Some, None, false}
use Rattle.ir_core.specs.declared.declarations.Callee.{Callee}
use Rattle.ir_core.specs.declared.instructions.Arg.{Arg}
use Rattle.ir_core.specs.declared.instructions.Arg.TheVariants as arg
use Rattle.ir_core.specs.declared.instructions.BlockCall.{BlockCall}
use Rattle.ir_core.specs.declared.names.FuncName.TheVariants.{Text}
use Rattle.ir_core.specs.declared.signatures.Conv.TheVariants.{Fast}
use Rattle.ir_core.specs.declared.signatures.Ext.TheVariants as ext
use Rattle.ir_core.specs.declared.signatures.Param.{Param}
use Rattle.ir_core.specs.declared.signatures.Purpose.TheVariants as purpose
use Rattle.ir_core.specs.declared.signatures.Sig.{Sig}
use Rattle.ir_core.specs.declared.signatures.Ty.TheVariants.{I64}
use Rattle.ir_core.specs.Module.{Jump, TryDirect, Instruction, Branches, Return, TryCall, Line, Block, Function}

abbrev pub word : Param
word = record { ty = I64; ext = ext.No; purpose = purpose.Normal }

abbrev pub one_to_one : Sig
one_to_one = record { params = word ∷ []; results = word ∷ []; conv = Fast }

-- the callee of the name that is one letter
abbrev pub callee_named : ℕ → Callee
callee_named letter = record { name = Text (letter ∷ []); colocated = false; sig = 0 }

abbrev pub to : ℕ → Arg → BlockCall
to b a = record { block = b; args = a ∷ [] }

abbrev pub line : Instruction → Line
line i = record { inst = i; ty = None; results = []; tags = [] }

abbrev pub returned : ℕ → Line
returned v = line (Return (v ∷ []))

abbrev pub jump : ℕ → ℕ → Line
jump b v = line (Branches (Jump (to b (arg.Value v))))

-- `try_call fnC(vA), sig0, blockN(ret0), [ tag3: blockH(exn0) ]`
abbrev pub tried : ℕ → ℕ → ℕ → ℕ → Line
tried c a n h =
    line (TryCall (TryDirect c) 0 (a ∷ []) (to n (arg.Ret 0)) (record { tag = Some 3; target = to h (arg.Exn 0) } ∷ []))

-- a block whose one parameter has its number
abbrev pub block : ℕ → List Line → Block
block n ls = record { number = n; params = n ∷ []; lines = ls }

abbrev pub declared : Function
declared =
    record {
      name = Text (102 ∷ []);
      sig = one_to_one;
      slots = [];
      sigs = one_to_one ∷ [];
      callees = callee_named 103
          ∷ [];
      types = (0, I64) ∷ (1, I64) ∷ (2, I64) ∷ [];
      blocks = [];
    }

abbrev pub with_blocks : Function
with_blocks = record declared { blocks = block 0 [] ∷ block 1 [] ∷ block 2 [] ∷ [] }

abbrev pub calling : Function
calling =
    record declared {
      blocks = block 0 (tried 0 0 1 2 ∷ []) ∷ block 1 (returned 1 ∷ []) ∷ block 2 (returned 2 ∷ [])
          ∷ [];
    }

abbrev pub appended : Function
appended =
    record calling {
      callees = callee_named 103 ∷ callee_named 104 ∷ [];
      types = (0, I64) ∷ (1, I64) ∷ (2, I64)
          ∷ (3, I64) ∷ (4, I64) ∷ [];
    }

abbrev pub linked : Function
linked = record appended {
  blocks = block 0 (tried 0 0 1 2 ∷ []) ∷ block 3 [] ∷ block 4 [] ∷ block 1 (returned 1 ∷ [])
      ∷ block 2 (returned 2 ∷ []) ∷ [];
}

abbrev pub emptied : Function
emptied =
    record linked {
      blocks = block 0 [] ∷ block 3 [] ∷ block 4 [] ∷ block 1 (returned 1 ∷ [])
          ∷ block 2 (returned 2 ∷ []) ∷ [];
    }

abbrev pub inlined : Function
inlined =
    record appended {
      blocks = block 0 (jump 3 0 ∷ []) ∷ block 3 (tried 1 3 4 2 ∷ []) ∷ block 4 (jump 1 4 ∷ [])
          ∷ block 1 (returned 1 ∷ []) ∷ block 2 (returned 2 ∷ []) ∷ [];
    }
