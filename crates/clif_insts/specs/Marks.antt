-- What an instruction takes from its words, in the order of the text: names, its opcode and numbers, each with its
-- spot.
use Rattle.std.specs.Prelude.{◌≡◌, ◌≢◌, ℕ, ◌^◌, ◌<◌, true, List, [], ◌∷◌, ◌++◌, map, Option, Some, None}
use Rattle.std.specs.List.{list_all, flat_map}
use Rattle.ir_core.specs.Lists.{Each}
use Rattle.clif_lex.specs.Bytes.{is_word_byte}
use Rattle.clif_lex.specs.Numbers.{is_wide}
use Rattle.clif_words.specs.TextTokens.{RiseFrom}
use Rattle.token_reader.specs.declared.raw.RawName.{RawName}
use Rattle.token_reader.specs.declared.raw.RawNumber.{RawNumber}
use Rattle.token_reader.specs.declared.raw.RawOpcode.{RawOpcode}
use Rattle.clif_insts.specs.declared.raw.RawArg.{RawArg}
use Rattle.clif_insts.specs.declared.raw.RawArg.TheVariants as arg
use Rattle.clif_insts.specs.declared.raw.RawTarget.{RawTarget}
use Rattle.clif_insts.specs.declared.raw.RawEntry.{RawEntry}
use Rattle.clif_insts.specs.declared.raw.RawTrap.{RawTrap}
use Rattle.clif_insts.specs.declared.raw.RawTrap.TheVariants as traps
use Rattle.clif_insts.specs.declared.raw.RawOperands.{RawOperands}
use Rattle.clif_insts.specs.declared.raw.RawOperands.TheVariants as operands
use Rattle.clif_insts.specs.declared.raw.RawInst.{RawInst}

pub data Mark : Type 0 where
  -- a token of which the spot alone is kept
  Spot : ℕ → Mark
  Word : RawName → Mark
  Opcode : RawOpcode → Mark
  Number : RawNumber → Mark
  -- the bytes of a `%name`, without the `%`, and its spot
  Name : List ℕ → ℕ → Mark

abbrev pub spot_of : Mark → ℕ
spot_of (Spot spot) = spot
spot_of (Word n) = n.spot
spot_of (Opcode o) = o.spot
spot_of (Number n) = n.spot
spot_of (Name bytes spot) = spot

-- it stands in a text of so many bytes, and its number is of 64 bits
abbrev pub MarkFormed : ℕ → Mark → Type 0
MarkFormed len (Spot spot) = spot < len
MarkFormed len (Word n) = (n.spot < len) × (n.number < 2 ^ 64)
MarkFormed len (Opcode o) = o.spot < len
MarkFormed len (Number n) = (n.spot < len) × (is_wide n.value ≡ true)
MarkFormed len (Name bytes spot) = (spot < len) × (bytes ≢ []) × (list_all is_word_byte bytes ≡ true)

-- all of them, and their spots rise
pub record MarksFormed (len : ℕ) (marks : List Mark) : Type 0 where
  pub each : Each (MarkFormed len) marks
  pub rising : RiseFrom 0 (map spot_of marks)

-- ---- the marks of an instruction

abbrev pub name_marks : RawName → List Mark
name_marks n = Word n ∷ []

abbrev pub names_marks : List RawName → List Mark
names_marks ns = flat_map name_marks ns

abbrev pub number_marks : RawNumber → List Mark
number_marks n = Number n ∷ []

abbrev pub offset_marks : Option RawNumber → List Mark
offset_marks None = []
offset_marks (Some n) = number_marks n

abbrev pub arg_marks : RawArg → List Mark
arg_marks (arg.Value n) = name_marks n
arg_marks (arg.Ret n) = name_marks n
arg_marks (arg.Exn n) = name_marks n

abbrev pub target_marks : RawTarget → List Mark
target_marks target = Word target.block ∷ flat_map arg_marks target.args

abbrev pub targets_marks : List RawTarget → List Mark
targets_marks targets = flat_map target_marks targets

-- `default` leaves none
abbrev pub entry_tag_marks : Option RawName → List Mark
entry_tag_marks None = []
entry_tag_marks (Some n) = name_marks n

abbrev pub entry_marks : RawEntry → List Mark
entry_marks e = entry_tag_marks e.tag ++ target_marks e.target

abbrev pub table_marks : List RawEntry → List Mark
table_marks entries = flat_map entry_marks entries

abbrev pub trap_marks : RawTrap → List Mark
trap_marks (traps.User n) = name_marks n
trap_marks others = []

abbrev pub operand_marks : RawOperands → List Mark
operand_marks operands.Nullary = []
operand_marks (operands.Number n) = number_marks n
operand_marks (operands.Unary x) = name_marks x
operand_marks (operands.Binary x y) = Word x ∷ Word y ∷ []
operand_marks (operands.Ternary c x y) = Word c ∷ Word x ∷ Word y ∷ []
operand_marks (operands.Compare cc x y) = Word x ∷ Word y ∷ []
operand_marks (operands.BinaryImm x n) = Word x ∷ Number n ∷ []
operand_marks (operands.CompareImm cc x n) = Word x ∷ Number n ∷ []
operand_marks (operands.Load flags address offset) = Word address ∷ offset_marks offset
operand_marks (operands.Store flags value address offset) = Word value ∷ Word address ∷ offset_marks offset
operand_marks (operands.StackLoad slot offset) = Word slot ∷ offset_marks offset
operand_marks (operands.StackStore value slot offset) = Word value ∷ Word slot ∷ offset_marks offset
operand_marks (operands.FuncAddr callee) = name_marks callee
operand_marks (operands.Jump target) = target_marks target
operand_marks (operands.Brif cond taken other) = Word cond ∷ (target_marks taken ++ target_marks other)
operand_marks (operands.BrTable index default entries) = Word index ∷ (target_marks default ++ targets_marks entries)
operand_marks (operands.Return values) = names_marks values
operand_marks (operands.Trap trap) = trap_marks trap
operand_marks (operands.TrapIf x trap) = Word x ∷ trap_marks trap
operand_marks (operands.Call callee args) = Word callee ∷ names_marks args
operand_marks (operands.TryCall callee args sig normal table) =
    Word callee ∷ (names_marks args ++ (Word sig ∷ (target_marks normal ++ table_marks table)))
operand_marks (operands.CallIndirect sig address args) = Word sig ∷ Word address ∷ names_marks args
operand_marks (operands.TryCallIndirect address args sig normal table) =
    Word address ∷ (names_marks args ++ (Word sig ∷ (target_marks normal ++ table_marks table)))

abbrev pub inst_marks : RawInst → List Mark
inst_marks inst = Opcode inst.opcode ∷ operand_marks inst.operands
