-- A function while bodies are put into it: what is so before each of its own lines.
use Rattle.std.specs.Prelude.{◌≡◌, ◌⊎◌, ◌+◌, ◌≤◌, ℕ, List, [], ◌∷◌, ◌++◌, nat_eq}
use Rattle.std.specs.Prelude.{if◌then◌else◌}
use Rattle.ir_core.specs.declared.places.Point.{Point}
use Rattle.ir_core.specs.Edits.{lines_of}
use Rattle.ir_core.specs.Lists.{In}
use Rattle.ir_core.specs.Lookup.{block_numbers}
use Rattle.ir_core.specs.Module.{Line, Block, Function, Module}
use Rattle.ir_core.specs.Size.{size_of}
use Rattle.ir_core.specs.WellFormed.{WellFormed, IsModule}
use Rattle.ir_semantics.specs.Accepted.{Accepted}
use Rattle.ir_semantics.specs.Renaming.{Renaming}
use Rattle.inline_pass.specs.Policy.{Policy}
use Rattle.inline_pass.specs.Sites as sites
use Rattle.inline_pass.specs.Going.{Task, Ahead, Twins, Going, Onward, Fit}
use Rattle.inline_finish.specs.declared.lines.Progress.{Progress}

-- f is a function of an accepted module, and the sizes of the policy are within the limit of a text
pub record IsReady (p : Policy) (m : Module) (f : Function) : Type 0 where
  pub functions : IsModule m
  pub accepted : Accepted m
  pub there : In f m
  pub callee_size : p.callee_size ≤ 262144
  pub caller_size : p.caller_size ≤ 262144

-- a point of the code, as the definitions have it
abbrev pub point_of : Point → sites.Point
point_of at = (at.block, at.index)

-- the definition's body: with it where own points stand in it, and the numbers that the code has for its own
pub record Twin : Type 0 where
  pub body : Function
  pub now : sites.Point → sites.Point
  pub names : Renaming

abbrev pub twins_of : Twin → Function → Twins
twins_of t code = record { body = t.body; now = t.now; code = code; names = t.names }

-- these lines are left of the own block, and these own blocks come later
pub record Left : Type 0 where
  pub lines : List Line
  pub rest : List Block

-- `place` says which own block it is, and at which of its lines
abbrev pub ahead_of : sites.Point → Left → Ahead
ahead_of place left = record { block = place.0; line = place.1; lines = left.lines; rest = left.rest }

-- the first of the lines that are left stands at the point of the code, and so many sites were inlined before
pub record Midway (task : Task) (left : Left) (code : Function) (at : Point) (count : ℕ) : Type 0 where
  pub place : sites.Point
  pub twin : Twin
  pub going : Going task (ahead_of place left) (twins_of twin code) (point_of at) count
  pub fit : Fit task.bodies twin.body
  pub whole : WellFormed code

-- no line of an own block is left: the next own block begins, or all is done
pub record Between (task : Task) (rest : List Block) (code : Function) (count : ℕ) : Type 0 where
  pub twin : Twin
  pub onward : Onward task rest (twins_of twin code) count
  pub fit : Fit task.bodies twin.body
  pub whole : WellFormed code

-- behind an own line; behind a tail call or a `try_call` that was inlined no line is left
abbrev pub Behind : Task → Left → Function → Point → ℕ → Type 0
Behind task left code at count =
    Midway task left code at count ⊎ ((left.lines ≡ []) × Between task left.rest code count)

-- the same of the code's progress, whose size is known
pub record IsMidway (task : Task) (left : Left) (p : Progress) : Type 0 where
  pub midway : Midway task left p.caller p.at p.inlined
  pub size : p.size ≡ size_of p.caller

pub record IsBehind (task : Task) (left : Left) (p : Progress) : Type 0 where
  pub behind : Behind task left p.caller p.at p.inlined
  pub size : p.size ≡ size_of p.caller

pub record IsBetween (task : Task) (rest : List Block) (p : Progress) : Type 0 where
  pub between : Between task rest p.caller p.inlined
  pub size : p.size ≡ size_of p.caller

-- the own blocks from that of the number on, and those behind it
abbrev pub from_block : ℕ → List Block → List Block
from_block n [] = []
from_block n (b ∷ bs) = if nat_eq b.number n then b ∷ bs else from_block n bs

abbrev pub behind_block : ℕ → List Block → List Block
behind_block n [] = []
behind_block n (b ∷ bs) = if nat_eq b.number n then bs else behind_block n bs

-- these are the blocks of the numbers that are left, behind some others
pub record Remaining (bs : List Block) (numbers : List ℕ) (rest : List Block) : Type 0 where
  pub before : List Block
  pub all : bs ≡ before ++ rest
  pub are : block_numbers rest ≡ numbers

-- these lines of the own block are left, and the blocks behind it
abbrev pub left_in : Function → ℕ → List Line → Left
left_in f block lines = record { lines = lines; rest = behind_block block f.blocks }

-- behind a line at which nothing is inlined
abbrev pub next_point : Point → Point
next_point at = record at { index = at.index + 1 }

abbrev pub passed_line : Progress → Progress
passed_line p = record p { at = next_point p.at }

-- one of f's own lines stands there
abbrev pub IsOwnLine : Function → ℕ → Line → Type 0
IsOwnLine f block l = In l (lines_of block f.blocks)
