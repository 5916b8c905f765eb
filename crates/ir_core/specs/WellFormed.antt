-- A well-formed function: it has a block, every number in it is that of something it has, its blocks have different
-- numbers, and each of its values is declared once and defined once. A module is a list of well-formed functions with
-- different names.
use Rattle.std.specs.Prelude.{◌≡◌, ◌≢◌, ◌<◌, ⊤, ℕ, List, [], ◌∷◌, length, map, None}
use Rattle.ir_core.specs.declared.declarations.Callee.{Callee}
use Rattle.ir_core.specs.Module.{Line, Block, Function, Module}
use Rattle.ir_core.specs.Lookup.{find_function, definitions, block_numbers}
use Rattle.ir_core.specs.Lists.{In, Each, Different}
use Rattle.ir_core.specs.Uses.{values_used, slots_used, slots_shown, callees_used, sigs_used, blocks_used}

-- the values that are declared
abbrev pub declared : Function → List ℕ
declared f = map (λ x. x.0) f.types

-- what a line uses is there
pub record LineWellFormed (f : Function) (l : Line) : Type 0 where
  pub values : Each (λ v. In v (declared f)) (values_used l.inst)
  pub blocks : Each (λ b. In b (block_numbers f.blocks)) (blocks_used l.inst)
  pub slots : Each (λ k. k < length f.slots) (slots_used l.inst)
  pub shown : Each (λ k. k < length f.slots) (slots_shown l.tags)
  pub callees : Each (λ k. k < length f.callees) (callees_used l.inst)
  pub sigs : Each (λ s. s < length f.sigs) (sigs_used l.inst)

abbrev pub BlockWellFormed : Function → Block → Type 0
BlockWellFormed f b = Each (LineWellFormed f) b.lines

pub record WellFormed (f : Function) : Type 0 where
  pub begins : f.blocks ≢ []
  pub blocks : Different (block_numbers f.blocks)
  pub declared_once : Different (declared f)
  pub defined_once : Different (definitions f.blocks)
  pub defined : (v : ℕ) → In v (declared f) → In v (definitions f.blocks)
  pub definitions_declared : (v : ℕ) → In v (definitions f.blocks) → In v (declared f)
  pub callees : Each (λ (c : Callee). c.sig < length f.sigs) f.callees
  pub lines : Each (BlockWellFormed f) f.blocks

abbrev pub DifferentNames : Module → Type 0
DifferentNames [] = ⊤
DifferentNames (f ∷ fs) = (find_function f.name fs ≡ None) × DifferentNames fs

pub record IsModule (m : Module) : Type 0 where
  pub names : DifferentNames m
  pub whole : Each WellFormed m
