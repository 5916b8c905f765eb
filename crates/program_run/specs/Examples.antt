-- Worked runs, each of a function `%f`, with their texts.
use Rattle.std.specs.Prelude.{◌≡◌, ℕ, pos, true, false, List, [], ◌∷◌, ◌++◌, replicate, Some, None, codes}
use Rattle.clk_num.specs.Operations.{DataValue}
use Rattle.clk_num.specs.declared.op.Op.TheVariants.{Sdiv}
use Rattle.clk_num.specs.declared.width.Width.TheVariants.{W8, W16}
use Rattle.debug_tags.specs.declared.tags.Tag.TheVariants as tag
use Rattle.ir_core.specs.declared.declarations.Callee.{Callee}
use Rattle.ir_core.specs.declared.instructions.Arg.{Arg}
use Rattle.ir_core.specs.declared.instructions.BlockCall.{BlockCall}
use Rattle.ir_core.specs.declared.instructions.Flags.{Flags}
use Rattle.ir_core.specs.declared.signatures.Ext.TheVariants as ext
use Rattle.ir_core.specs.declared.signatures.Purpose.TheVariants as purpose
use Rattle.ir_core.specs.declared.signatures.Ty.{Ty}
use Rattle.ir_core.specs.Module.{Block, Instruction}
use Rattle.ir_core.specs.declared.instructions.Arg.TheVariants as arg
use Rattle.ir_core.specs.declared.names.FuncName.TheVariants as name
use Rattle.ir_core.specs.declared.signatures.Conv.TheVariants.{Fast}
use Rattle.ir_core.specs.declared.signatures.Param.{Param}
use Rattle.ir_core.specs.declared.signatures.Sig.{Sig}
use Rattle.ir_core.specs.declared.signatures.Ty.TheVariants.{I8, I16, I64}
use Rattle.ir_core.specs.Module.{Line, Module, Const, Pure, Store, StackStore, Direct, TryDirect, Plain, Return, Call}
use Rattle.ir_core.specs.Module.{TryCall}
use Rattle.ir_semantics.specs.Values.{i64}
use Rattle.ir_semantics.specs.Machine.{HostAct, Returns, Throws, Reply}
use Rattle.ir_semantics.specs.Runs.{outcome}
use Rattle.ir_text.specs.TextTree.{spelled}
use Rattle.program_run.specs.RunText.{run_text}

-- ---- short ways to write a module down

abbrev pub plain : Ty → Param
plain t = record { ty = t; ext = ext.No; purpose = purpose.Normal }

-- an instruction without a suffix that may be left out, and without tags
abbrev pub bare : List ℕ → Instruction → Line
bare results i = record { inst = i; ty = None; results = results; tags = [] }

-- an instruction with its type, whose suffix may be left out
abbrev pub typed : Ty → List ℕ → Instruction → Line
typed t results i = record { inst = i; ty = Some t; results = results; tags = [] }

abbrev pub block : ℕ → List ℕ → List Line → Block
block n params lines = record { number = n; params = params; lines = lines }

abbrev pub to : ℕ → List Arg → BlockCall
to b args = record { block = b; args = args }

abbrev pub callee : List ℕ → ℕ → Callee
callee text sig = record { name = name.Text text; colocated = false; sig = sig }

abbrev pub no_flags : Flags
no_flags =
    record {
      notrap = false;
      aligned = false;
      readonly = false;
      can_move = false;
      little = false;
      big = false;
      heap = false;
      table = false;
      vmctx = false;
    }

-- ---- runs

abbrev pub signature_of : List Param → List Param → Sig
signature_of params results = record { params = params; results = results; conv = Fast }

abbrev pub answers : HostAct → List Reply
answers act = record { act = act; writes = [] } ∷ []

-- the text of the run of `%f` with these values, replies, memory and steps
abbrev pub told : Module → List DataValue → List Reply → List ℕ → ℕ → List ℕ
told m args replies memory steps =
    spelled (run_text
    (outcome m (name.Text (codes "f")) args (record { memory = memory; replies = replies; events = [] }) steps))

-- ---- a throw through a plain call of the callee: `%f` calls `%g`, which calls `%h`

abbrev pub throwing : Module
throwing =
    let words = signature_of (plain I64 ∷ []) (plain I64 ∷ []) in
    record {
      name = name.Text (codes "g");
      sig = words;
      slots = [];
      sigs = words ∷ [];
      callees = callee (codes "h") 0 ∷ [];
      types = (0, I64) ∷ (1, I64) ∷ [];
      blocks = block 0 (0 ∷ []) (bare (1 ∷ []) (Call (Direct 0) (0 ∷ [])) ∷ bare [] (Return (1 ∷ [])) ∷ []) ∷ [];
    }
    ∷ record {
      name = name.Text (codes "f");
      sig = words;
      slots = [];
      sigs = words ∷ [];
      callees = callee (codes "g") 0 ∷ [];
      types = (0, I64) ∷ (1, I64) ∷ (2, I64) ∷ [];
      blocks = block 0 (0 ∷ [])
          (bare [] (TryCall (TryDirect 0) 0 (0 ∷ []) (to 1 (arg.Ret 0 ∷ []))
          (record { tag = Some 3; target = to 2 (arg.Exn 0 ∷ []) } ∷ [])) ∷ [])
          ∷ block 1 (1 ∷ []) (bare [] (Return (1 ∷ [])) ∷ []) ∷ block 2 (2 ∷ []) (bare [] (Return (2 ∷ [])) ∷ []) ∷ [];
    } ∷ []

-- ---- tags of two frames and a slot, which the first line writes: `%f` calls `%g`, which calls `%h`

abbrev pub writes_slot : List Line
writes_slot = typed I16 [] (Plain (StackStore 0 0 (pos 0))) ∷ []

abbrev pub tagging : List Line → Module
tagging first =
    let nothing = signature_of [] [] in
    record {
      name = name.Text (codes "g");
      sig = nothing;
      slots = [];
      sigs = nothing ∷ [];
      callees = callee (codes "h") 0 ∷ [];
      types = [];
      blocks = block 0 []
          (record { inst = Call (Direct 0) []; ty = None; results = []; tags = tag.User 9 ∷ [] } ∷ bare [] (Return [])
          ∷ []) ∷ [];
    }
    ∷ record {
      name = name.Text (codes "f");
      sig = nothing;
      slots = record { size = 2; align = 1 } ∷ [];
      sigs = nothing ∷ [];
      callees = callee (codes "g") 0 ∷ [];
      types = (0, I16) ∷ [];
      blocks = block 0 []
          (bare (0 ∷ []) (Plain (Const (record { width = W16; value = 513 }))) ∷ first
          ++ (record { inst = Call (Direct 0) []; ty = None; results = []; tags = tag.User 7 ∷ tag.Slot 0 ∷ [] }
          ∷ bare [] (Return []) ∷ [])) ∷ [];
    } ∷ []

-- ---- a store into the memory, the highest byte first

abbrev pub storing : Module
storing =
    record {
      name = name.Text (codes "f");
      sig = signature_of [] [];
      slots = [];
      sigs = [];
      callees = [];
      types = (0, I64) ∷ (1, I16) ∷ [];
      blocks = block 0 []
          (bare (0 ∷ []) (Plain (Const (i64 16))) ∷ bare (1 ∷ []) (Plain (Const (record { width = W16; value = 513 })))
          ∷ typed I16 [] (Plain (Store None (record no_flags { big = true }) 1 0 (pos 2))) ∷ bare [] (Return []) ∷ [])
          ∷ [];
    } ∷ []

-- ---- a division of the least i8 by -1, and -1 itself

abbrev pub dividing : Module
dividing =
    record {
      name = name.Text (codes "f");
      sig = signature_of [] (plain I8 ∷ []);
      slots = [];
      sigs = [];
      callees = [];
      types = (0, I8) ∷ (1, I8) ∷ (2, I8) ∷ [];
      blocks = block 0 []
          (bare (0 ∷ []) (Plain (Const (record { width = W8; value = 128 })))
          ∷ bare (1 ∷ []) (Plain (Const (record { width = W8; value = 255 })))
          ∷ typed I8 (2 ∷ []) (Plain (Pure Sdiv (0 ∷ 1 ∷ []))) ∷ bare [] (Return (2 ∷ [])) ∷ []) ∷ [];
    } ∷ []

abbrev pub minus_one : Module
minus_one =
    record {
      name = name.Text (codes "f");
      sig = signature_of [] (plain I8 ∷ plain I8 ∷ []);
      slots = [];
      sigs = [];
      callees = [];
      types = (0, I8) ∷ [];
      blocks = block 0 []
          (bare (0 ∷ []) (Plain (Const (record { width = W8; value = 255 })))
          ∷ bare [] (Return (0 ∷ 0 ∷ [])) ∷ []) ∷ [];
    } ∷ []

pub record WorkedRuns : Type 0 where
  pub caught : told throwing (i64 5 ∷ []) (answers (Throws 3 7 8)) [] 9
      ≡ codes "host %h(5)\ncaught tag3 (7, 8) rank 0\nreturned [7]\n"
  pub threw : told throwing (i64 5 ∷ []) (answers (Throws 4 7 8)) [] 9 ≡ codes "host %h(5)\nthrew tag4 (7, 8)\n"
  pub goes_on : told throwing (i64 5 ∷ []) (answers (Throws 3 7 8)) [] 1 ≡ codes "going\n"
  pub shown : told (tagging writes_slot) [] (answers (Returns [])) [] 9
      ≡ codes "host %h() <7, [01 02], 9>\nreturned []\n"
  pub unwritten : told (tagging []) [] (answers (Returns [])) [] 9 ≡ codes "unwritten\n"
  pub no_reply : told (tagging writes_slot) [] [] [] 9 ≡ codes "host %h() <7, [01 02], 9>\nscript ended\n"
  pub bad_reply : told (tagging writes_slot) [] (answers (Returns (pos 1 ∷ []))) [] 9
      ≡ codes "host %h() <7, [01 02], 9>\nbad reply\n"
  pub stored : told storing [] [] (replicate 20 0) 9 ≡ codes "returned []\nmemory 00000010: 00 00 02 01\n"
  pub outside : told storing [] [] (replicate 19 0) 9 ≡ codes "trapped heap_oob\n"
  pub trapped : told dividing [] [] [] 9 ≡ codes "trapped int_ovf\n"
  pub negative : told minus_one [] [] [] 9 ≡ codes "returned [-1, -1]\n"
