-- The words in which the worked examples are written.
use Rattle.std.specs.Prelude.{ℕ, List, [], ◌∷◌, map, Option, None, false}
use Rattle.std.specs.List.{enumerate_from}
use Rattle.clk_num.specs.Operations.{DataValue}
use Rattle.debug_tags.specs.declared.tags.Tag.{Tag}
use Rattle.exn_tables.specs.declared.table.Entry.{Entry}
use Rattle.ir_core.specs.declared.signatures.Ty.{Ty}
use Rattle.ir_core.specs.declared.signatures.Ty.TheVariants.{I64}
use Rattle.ir_core.specs.declared.signatures.Conv.{Conv}
use Rattle.ir_core.specs.declared.signatures.Conv.TheVariants.{Fast}
use Rattle.ir_core.specs.declared.signatures.Sig.{Sig}
use Rattle.ir_core.specs.declared.signatures.Param.{Param}
use Rattle.ir_core.specs.declared.signatures.Ext.TheVariants as ext
use Rattle.ir_core.specs.declared.signatures.Purpose.TheVariants as purpose
use Rattle.ir_core.specs.declared.names.FuncName.{FuncName}
use Rattle.ir_core.specs.declared.names.FuncName.TheVariants.{Text}
use Rattle.ir_core.specs.declared.declarations.SlotDecl.{SlotDecl}
use Rattle.ir_core.specs.declared.declarations.Callee.{Callee}
use Rattle.ir_core.specs.declared.instructions.Arg.{Arg}
use Rattle.ir_core.specs.declared.instructions.BlockCall.{BlockCall}
use Rattle.ir_core.specs.declared.instructions.Flags.{Flags}
use Rattle.ir_core.specs.declared.places.Item.{Item}
use Rattle.ir_core.specs.declared.places.Item.TheVariants as item
use Rattle.ir_core.specs.Module.{Jump, Direct, Instruction, Branches, Return, Call, Line, Block, Function}
use Rattle.ir_semantics.specs.Values.{Memory, i64}
use Rattle.ir_semantics.specs.Machine.{Event, HostAct, World, End}
use Rattle.ir_semantics.specs.Runs.{Outcome}

-- ---- names and declarations

abbrev pub param : Ty → Param
param t = record { ty = t; ext = ext.No; purpose = purpose.Normal }

abbrev pub signature : List Ty → List Ty → Conv → Sig
signature params results conv = record { params = map param params; results = map param results; conv = conv }

abbrev pub slot : ℕ → SlotDecl
slot size = record { size = size; align = 1 }

abbrev pub declares : FuncName → ℕ → Callee
declares name sig = record { name = name; colocated = false; sig = sig }

abbrev pub no_flags : Flags
no_flags = record { notrap = false; aligned = false; readonly = false; can_move = false; little = false; big = false; heap = false; table = false; vmctx = false }

-- the names %f, %g, %h and %t

abbrev pub f : FuncName
f = Text (102 ∷ [])

abbrev pub g : FuncName
g = Text (103 ∷ [])

abbrev pub h : FuncName
h = Text (104 ∷ [])

abbrev pub t : FuncName
t = Text (116 ∷ [])

-- from an i64 to an i64
abbrev pub of_i64 : Conv → Sig
of_i64 conv = signature (I64 ∷ []) (I64 ∷ []) conv

-- ---- lines

abbrev pub line : Option Ty → (results : List ℕ) → Instruction → Line
line ty results inst = record { inst = inst; ty = ty; results = results; tags = [] }

abbrev pub tagged : List Tag → (results : List ℕ) → Instruction → Line
tagged tags results inst = record { inst = inst; ty = None; results = results; tags = tags }

abbrev pub to : (number : ℕ) → List Arg → BlockCall
to number args = record { block = number; args = args }

abbrev pub caught : Option ℕ → BlockCall → Entry BlockCall
caught tag target = record { tag = tag; target = target }

abbrev pub jumps : (number : ℕ) → List Arg → Line
jumps number args = line None [] (Branches (Jump (to number args)))

abbrev pub returns : List ℕ → Line
returns values = line None [] (Return values)

-- ---- blocks and functions

abbrev pub block : ℕ → (params : List ℕ) → List Line → Block
block number params lines = record { number = number; params = params; lines = lines }

-- its slots, signatures and callees are what it declares; its values have the numbers from 0 on, and these types
abbrev pub function : FuncName → Sig → List SlotDecl → List Sig → List Callee → List Ty → List Block → Function
function name sig slots sigs callees types blocks =
    record { name = name; sig = sig; slots = slots; sigs = sigs; callees = callees; types = enumerate_from 0 types; blocks = blocks }

-- it gives what the callee gives of its own argument
abbrev pub forwards : FuncName → (callee : FuncName) → Function
forwards name callee =
    function name (of_i64 Fast) [] (of_i64 Fast ∷ []) (declares callee 0 ∷ []) (I64 ∷ I64 ∷ []) (
    block 0 (0 ∷ []) (line None (1 ∷ []) (Call (Direct 0) (0 ∷ [])) ∷ returns (1 ∷ []) ∷ []) ∷ [])

-- the line of a block
abbrev pub line_at : (number index : ℕ) → Item
line_at number index = item.Inst (record { block = number; index = index })

-- ---- runs

abbrev pub i64s : List ℕ → List DataValue
i64s ns = map i64 ns

-- a memory, and replies without writes
abbrev pub world : Memory → List HostAct → World
world memory acts = record { memory = memory; replies = map (λ act. record { act = act; writes = [] }) acts; events = [] }

abbrev pub ends : List Event → Memory → End → Outcome
ends events memory end = record { events = events; memory = memory; end = end }
