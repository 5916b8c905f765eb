-- How a function lies in the fields of the code: its instructions in one arena, each block a range of it, and the
-- blocks in list order by links.
use Rattle.std.specs.Prelude.{◌≡◌, ℕ, zero, suc, ◌+◌, ◌-◌, ◌<◌, ◌≤◌, List, [], ◌∷◌, map, length, take, drop, Option}
use Rattle.std.specs.Prelude.{Some, None, slice_get, vec_capacity, vec_len}
use Rattle.std.specs.List.{enumerate_from}
use Rattle.ir_core.specs.declared.instructions.InstData.{InstData}
use Rattle.ir_core.specs.declared.func.BlockData.{BlockData}
use Rattle.ir_core.specs.declared.func.Func.TheInside.{Inside}
use Rattle.ir_core.specs.declared.room.Room.{Room}
use Rattle.ir_core.specs.Module.{Block, Line, Function}
use Rattle.ir_core.specs.Lookup.{definitions}
use Rattle.ir_core.specs.Viewed.{line_of}
use Rattle.ir_core.specs.Lists.{Different}
use Rattle.ir_core.specs.Sound.{IsSound}
use Rattle.ir_core.specs.Edits.{Body}

-- the numbers from one on, at most n, where each place has the next
abbrev pub walk : List (Option ℕ) → ℕ → Option ℕ → List ℕ
walk ns zero o = []
walk ns (suc n) None = []
walk ns (suc n) (Some b) = elim (slice_get ns b) [ None ↦ [] | Some o ↦ b ∷ walk ns n o ]

-- following the links gives these numbers and then the end
abbrev pub Linked : List (Option ℕ) → Option ℕ → List ℕ → Type 0
Linked ns o [] = o ≡ None
Linked ns o (b ∷ bs) = (o ≡ Some b) × ((p : Option ℕ) × (slice_get ns b ≡ Some p) × Linked ns p bs)

abbrev pub nexts : List BlockData → List (Option ℕ)
nexts [] = []
nexts (k ∷ ks) = k.next ∷ nexts ks

abbrev pub order : List BlockData → Option ℕ → List ℕ
order ks o = walk (nexts ks) (length ks) o

abbrev pub range : List InstData → BlockData → List Line
range xs k = map line_of (take k.len (drop k.start xs))

abbrev pub params_at : Option BlockData → List ℕ
params_at None = []
params_at (Some k) = k.params

abbrev pub lines_at : List InstData → Option BlockData → List Line
lines_at xs None = []
lines_at xs (Some k) = range xs k

abbrev pub block_by : List InstData → ℕ → Option BlockData → Block
block_by xs b p = record { number = b; params = params_at p; lines = lines_at xs p }

abbrev pub block_at : List InstData → List BlockData → ℕ → Block
block_at xs ks b = block_by xs b (slice_get ks b)

abbrev pub blocks_in : List InstData → List BlockData → Option ℕ → List Block
blocks_in xs ks o = map (block_at xs ks) (order ks o)

abbrev pub function_of : Inside → Function
function_of s = record {
  name = s.name;
  sig = s.sig;
  slots = s.slots.items;
  sigs = s.sigs.items;
  callees = s.callees.items;
  types = enumerate_from 0 s.types.items;
  blocks = blocks_in s.insts.items s.blocks.items s.first;
}

abbrev pub room_of : Inside → Room
room_of s = record {
  slots = vec_capacity s.slots - vec_len s.slots;
  sigs = vec_capacity s.sigs - vec_len s.sigs;
  callees = vec_capacity s.callees - vec_len s.callees;
  values = vec_capacity s.types - vec_len s.types;
  blocks = vec_capacity s.blocks - vec_len s.blocks;
  insts = vec_capacity s.insts - vec_len s.insts;
}

abbrev pub body_of : Inside → Body
body_of s = record { function = function_of s; room = room_of s }

-- no place is in both ranges
abbrev pub Apart : BlockData → BlockData → Type 0
Apart k j = (p : ℕ) → k.start ≤ p → p < k.start + k.cap → j.start ≤ p → p < j.start + j.cap → ⊥

abbrev pub last_of : List ℕ → Option ℕ
last_of [] = None
last_of (b ∷ []) = Some b
last_of (b ∷ (c ∷ bs)) = last_of (c ∷ bs)

-- the ranges of different blocks are apart, and the links lead through every block, from the first to the last
pub record Laid (xs : List InstData) (ks : List BlockData) (first last : Option ℕ) : Type 0 where
  pub linked : Linked (nexts ks) first (order ks first)
  pub different : Different (order ks first)
  pub full : length (order ks first) ≡ length ks
  pub ends : last ≡ last_of (order ks first)
  pub short : (b : ℕ) (k : BlockData) → slice_get ks b ≡ Some k → k.len ≤ k.cap
  pub within : (b : ℕ) (k : BlockData) → slice_get ks b ≡ Some k → k.start + k.cap ≤ length xs
  pub apart : (b c : ℕ) (k j : BlockData) → slice_get ks b ≡ Some k → slice_get ks c ≡ Some j → (b ≡ c → ⊥) → Apart k j

pub record IsLaidOut (s : Inside) : Type 0 where
  pub laid : Laid s.insts.items s.blocks.items s.first s.last
  pub defined : s.defined ≡ length (definitions (function_of s).blocks)
  pub sound : IsSound (function_of s)
