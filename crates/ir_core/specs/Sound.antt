-- What every function keeps while it is built: each number in it names an entity of the function, and each value is
-- defined at most once, by a block parameter or as a result. It is whole once each declared value is defined and it has
-- a block.
use Rattle.std.specs.Prelude.{◌≡◌, ℕ, ◌+◌, ◌-◌, ◌<◌, ◌^◌, List, [], ◌∷◌, length, map}
use Rattle.std.specs.List.{enumerate_from}
use Rattle.ir_core.specs.declared.declarations.Callee.{Callee}
use Rattle.ir_core.specs.Module.{Line, Block, Function}
use Rattle.ir_core.specs.Lookup.{definitions, block_numbers}
use Rattle.ir_core.specs.Lists.{In, Different, Below, Each}
use Rattle.ir_core.specs.Uses.{values_used, slots_used, slots_shown, callees_used, sigs_used, blocks_used}

-- how many entities of each kind a function has
pub record Counts : Type 0 where
  pub values : ℕ
  pub blocks : ℕ
  pub slots : ℕ
  pub sigs : ℕ
  pub callees : ℕ

abbrev pub counts_of : Function → Counts
counts_of f =
    record {
      values = length f.types;
      blocks = length f.blocks;
      slots = length f.slots;
      sigs = length f.sigs;
      callees = length f.callees;
    }

-- each number of an instruction names an entity
pub record LineInRange (n : Counts) (l : Line) : Type 0 where
  pub values : Below n.values (values_used l.inst)
  pub blocks : Below n.blocks (blocks_used l.inst)
  pub slots : Below n.slots (slots_used l.inst)
  pub shown : Below n.slots (slots_shown l.tags)
  pub callees : Below n.callees (callees_used l.inst)
  pub sigs : Below n.sigs (sigs_used l.inst)
  pub results : Below n.values l.results

pub record BlockInRange (n : Counts) (b : Block) : Type 0 where
  pub params : Below n.values b.params
  pub lines : Each (LineInRange n) b.lines

abbrev pub CalleeInRange : Counts → Callee → Type 0
CalleeInRange n c = c.sig < n.sigs

-- the number of instructions of some blocks
abbrev pub instruction_count : List Block → ℕ
instruction_count [] = 0
instruction_count (b ∷ bs) = length b.lines + instruction_count bs

-- there may be one more of a kind that has n: fewer than 2^32 - 1 entities of a kind, and as many instructions, are in
-- one function
abbrev pub CanAdd : ℕ → Type 0
CanAdd n = n + 1 < 2 ^ 32 - 1

-- fewer than 2^32 - 1 of each kind
pub record IsSmall (f : Function) : Type 0 where
  pub slots : length f.slots < 2 ^ 32 - 1
  pub sigs : length f.sigs < 2 ^ 32 - 1
  pub callees : length f.callees < 2 ^ 32 - 1
  pub values : length f.types < 2 ^ 32 - 1
  pub blocks : length f.blocks < 2 ^ 32 - 1
  pub instructions : instruction_count f.blocks < 2 ^ 32 - 1

pub record IsSound (f : Function) : Type 0 where
  pub callees : Each (CalleeInRange (counts_of f)) f.callees
  pub blocks : Each (BlockInRange (counts_of f)) f.blocks
  -- values have the numbers from 0 on, in order of declaration
  pub numbered : f.types ≡ enumerate_from 0 (map (λ typed. typed.1) f.types)
  pub defined_once : Different (definitions f.blocks)
  -- blocks have the numbers below their number, in any order
  pub block_range : Below (length f.blocks) (block_numbers f.blocks)
  pub blocks_differ : Different (block_numbers f.blocks)
  pub small : IsSmall f

-- each declared value is defined exactly once, and there is a block
pub record IsWhole (f : Function) : Type 0 where
  pub has_block : 0 < length f.blocks
  pub defined : (v : ℕ) → v < length f.types → In v (definitions f.blocks)
  pub once : Different (definitions f.blocks)
