-- A function's own text while bodies are put into it. There are two bodies side by side: that of the definition, and
-- the one in the code, which is the first under other numbers. The own lines that are left stand unchanged in the
-- code's.
use Rattle.std.specs.Prelude.{◌≡◌, ℕ, suc, ◌+◌, List, [], ◌∷◌, ◌++◌, drop, Option, Some, slice_get}
use Rattle.ir_core.specs.declared.names.FuncName.{FuncName}
use Rattle.ir_core.specs.declared.declarations.Callee.{Callee}
use Rattle.ir_core.specs.Module.{Line, Block, Function, Module}
use Rattle.ir_core.specs.Lookup.{and_then, block_numbers}
use Rattle.ir_core.specs.Lists.{Each, In, Different}
use Rattle.ir_core.specs.Edits.{lines_of}
use Rattle.ir_core.specs.WellFormed.{WellFormed}
use Rattle.ir_semantics.specs.Accepted.{RulesHold}
use Rattle.ir_semantics.specs.Renaming.{Renaming}
use Rattle.inline_numbering.specs.Renamed.{Renamed}
use Rattle.inline_pass.specs.Policy.{Policy}
use Rattle.inline_pass.specs.Sites.{Point, sites_in, own_sites}
use Rattle.inline_pass.specs.Finished.{callee_at, spliced_at, after_splice, inline_by, finish_by, finished_body}
use Rattle.inline_pass.specs.Inlined.{inlined_by, inlined_with}

-- the function to be finished, and the bodies that go into it
pub record Task : Type 0 where
  pub policy : Policy
  pub bodies : FuncName → Option Function
  pub function : Function

-- what is left of its own text: these lines of the block, from its line `line` on, and these blocks behind it
pub record Ahead : Type 0 where
  pub block : ℕ
  pub line : ℕ
  pub lines : List Line
  pub rest : List Block

-- the body so far: the definition's, with the points in it where own points stand now, and the code's, which is the
-- definition's under `names`
pub record Twins : Type 0 where
  pub body : Function
  pub now : Point → Point
  pub code : Function
  pub names : Renaming

-- before an own block
abbrev pub before_block : Block → List Block → Ahead
before_block own rest = record { block = own.number; line = 0; lines = own.lines; rest = rest }

-- before a line, and behind it
abbrev pub before_line : Line → Ahead → Ahead
before_line l ahead = record ahead { lines = l ∷ ahead.lines }

abbrev pub behind_line : Ahead → Ahead
behind_line ahead = record ahead { line = suc ahead.line }

-- the own sites that are left
abbrev pub sites_left : Ahead → List Point
sites_left ahead = sites_in ahead.block ahead.line ahead.lines ++ own_sites ahead.rest

-- where the own line stands in the definition's body
abbrev pub stands : Twins → Ahead → Point
stands twins ahead = twins.now (ahead.block, ahead.line)

-- the body of what is called there, where it is one to be inlined
abbrev pub body_called : Task → Twins → Ahead → Option Function
body_called task twins ahead = and_then (callee_at twins.body (stands twins ahead)) task.bodies

-- the definition's body with another one there
abbrev pub with_body : Twins → Ahead → Function → Function
with_body twins ahead g = spliced_at twins.body (stands twins ahead) g

-- and with it the code's
abbrev pub spliced_twins : Twins → Ahead → (body code : Function) → Renaming → Twins
spliced_twins twins ahead g code names =
    record {
      body = with_body twins ahead g;
      now = after_splice (stands twins ahead) twins.now;
      code = code;
      names = names;
    }

-- an own block that comes later than the block `at` of the code: where it stands in the definition's body, and its
-- lines in the code's
pub record Later (twins : Twins) (at : ℕ) (own : Block) : Type 0 where
  pub block : ℕ
  pub there : In block (block_numbers twins.body.blocks)
  pub points : (j : ℕ) → twins.now (own.number, j) ≡ (block, j)
  pub is : twins.names.block block ≡ own.number
  pub text : lines_of own.number twins.code.blocks ≡ own.lines
  pub apart : own.number ≡ at → ⊥

-- the next own line stands at a point of the code's body, and so many sites were inlined before it
pub record Going (task : Task) (ahead : Ahead) (twins : Twins) (point : Point) (count : ℕ) : Type 0 where
  pub left :
      inline_by task.bodies task.policy twins.now (sites_left ahead) twins.body
      ≡ finish_by task.bodies task.policy task.function
  pub counted :
      count + inlined_by task.bodies task.policy twins.now (sites_left ahead) twins.body
      ≡ inlined_with task.bodies task.policy task.function
  pub same : Renamed twins.names twins.body twins.code
  pub numbers : Different (block_numbers twins.code.blocks)
  pub block : ℕ
  pub there : In block (block_numbers twins.body.blocks)
  pub here : (j : ℕ) → twins.now (ahead.block, ahead.line + j) ≡ (block, point.1 + j)
  pub is : twins.names.block block ≡ point.0
  pub text : drop point.1 (lines_of point.0 twins.code.blocks) ≡ ahead.lines
  pub later : Each (Later twins point.0) ahead.rest
  pub apart : Different (block_numbers ahead.rest)
  pub callees :
      (j : ℕ) (d : Callee) → slice_get task.function.callees j ≡ Some d
      → slice_get twins.code.callees j ≡ Some d

-- all own lines are behind: the code's body is the finished one, and the count is its
pub record Done (task : Task) (twins : Twins) (count : ℕ) : Type 0 where
  pub same : Renamed twins.names (finish_by task.bodies task.policy task.function) twins.code
  pub counted : count ≡ inlined_with task.bodies task.policy task.function

-- before the next own block, or at the end
abbrev pub Onward : Task → List Block → Twins → ℕ → Type 0
Onward task [] twins count = Done task twins count
Onward task (own ∷ rest) twins count = Going task (before_block own rest) twins (own.number, 0) count

-- well-formed, keeps its own rules, and its declarations of what has a body state the body's signature
pub record Fit (bodies : FuncName → Option Function) (f : Function) : Type 0 where
  pub whole : WellFormed f
  pub accepted : RulesHold [] f
  pub states :
      (d : Callee) → In d f.callees → (g : Function) → bodies d.name ≡ Some g
      → slice_get f.sigs d.sig ≡ Some g.sig

-- f of m is finished with finished bodies
abbrev pub finishing : Policy → Module → Function → Task
finishing p m f = record { policy = p; bodies = finished_body p m f.name; function = f }
