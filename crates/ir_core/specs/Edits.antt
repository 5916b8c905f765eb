-- A function with its spare room, and what a call that changes a function makes of its blocks.
use Rattle.std.specs.Prelude.{ℕ, ◌<◌, ◌≤◌, Option, Some, None, List, [], ◌∷◌, ◌++◌, length, map, nat_eq, if◌then◌else◌}
use Rattle.ir_core.specs.declared.room.Room.{Room}
use Rattle.ir_core.specs.declared.places.Point.{Point}
use Rattle.ir_core.specs.Module.{Block, Line, Function}
use Rattle.ir_core.specs.Lookup.{block_numbers}
use Rattle.ir_core.specs.Lists.{In}

-- what contracts see of a function of the code: `room` is how many more of each kind take no memory
pub record Body : Type 0 where
  pub function : Function
  pub room : Room

-- there is at least so much room of each kind
pub record HasRoom (wanted there : Room) : Type 0 where
  pub slots : wanted.slots ≤ there.slots
  pub sigs : wanted.sigs ≤ there.sigs
  pub callees : wanted.callees ≤ there.callees
  pub values : wanted.values ≤ there.values
  pub blocks : wanted.blocks ≤ there.blocks
  pub insts : wanted.insts ≤ there.insts

-- the blocks, with f of each that has the number
abbrev pub at_block : ℕ → (Block → Block) → List Block → List Block
at_block a f [] = []
at_block a f (b ∷ bs) = (if nat_eq b.number a then f b else b) ∷ at_block a f bs

-- a block put directly after the first one of the number
abbrev pub insert_after : ℕ → Block → List Block → List Block
insert_after a new [] = []
insert_after a new (b ∷ bs) = if nat_eq b.number a then b ∷ (new ∷ bs) else b ∷ insert_after a new bs

abbrev pub put_param : ℕ → Block → Block
put_param v b = record b { params = b.params ++ (v ∷ []) }

abbrev pub put_line : Line → Block → Block
put_line l b = record b { lines = b.lines ++ (l ∷ []) }

abbrev pub with_lines : List Line → Block → Block
with_lines ls b = record b { lines = ls }

-- all but the last
abbrev pub but_last : List Line → List Line
but_last [] = []
but_last (x ∷ []) = []
but_last (x ∷ (y ∷ ys)) = x ∷ but_last (y ∷ ys)

abbrev pub change_last : Line → Block → Block
change_last l b = record b { lines = but_last b.lines ++ (l ∷ []) }

abbrev pub params_of : ℕ → List Block → List ℕ
params_of a [] = []
params_of a (b ∷ bs) = if nat_eq b.number a then b.params else params_of a bs

abbrev pub lines_of : ℕ → List Block → List Line
lines_of a [] = []
lines_of a (b ∷ bs) = if nat_eq b.number a then b.lines else lines_of a bs

-- the block of a number
abbrev pub block_at : List Block → ℕ → Block
block_at bs n = record { number = n; params = params_of n bs; lines = lines_of n bs }

abbrev pub blocks_at : List Block → List ℕ → List Block
blocks_at bs ns = map (block_at bs) ns

abbrev pub first_number : List Block → Option ℕ
first_number [] = None
first_number (b ∷ bs) = Some b.number

-- the number of the block after the first one of the number
abbrev pub number_after : ℕ → List Block → Option ℕ
number_after a [] = None
number_after a (b ∷ bs) = if nat_eq b.number a then first_number bs else number_after a bs

-- a place of an instruction of the function
abbrev pub IsPoint : Function → Point → Type 0
IsPoint f at = In at.block (block_numbers f.blocks) × (at.index < length (lines_of at.block f.blocks))

-- ---- without a body

-- the head of a function: its name, its signature and its declarations
abbrev pub head_of : Function → Function
head_of f = record f { types = []; blocks = [] }
