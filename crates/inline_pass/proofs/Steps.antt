-- What the steps of the loop over a function's own lines are asked of: a line at which nothing is inlined, one at which
-- a body is, and the code's splice there.
use Rattle.std.specs.Prelude.{◌≡◌, ℕ, suc, Option, Some, true, false, slice_get, drop}
use Rattle.ir_core.specs.declared.declarations.Callee.{Callee}
use Rattle.ir_core.specs.Module.{Line, Function}
use Rattle.ir_core.specs.Lookup.{block_numbers}
use Rattle.ir_core.specs.Lists.{In, Different}
use Rattle.ir_core.specs.Edits.{lines_of}
use Rattle.ir_core.specs.Uses.{callee_of}
use Rattle.ir_semantics.specs.Renaming.{Renaming}
use Rattle.ir_semantics.specs.Splice.{sides}
use Rattle.inline_numbering.specs.Renamed.{Renamed}
use Rattle.inline_pass.specs.Policy.{takes}
use Rattle.inline_pass.specs.Sites.{Point, is_site}
use Rattle.inline_pass.specs.Going.{Task, Ahead, Twins, body_called, with_body}

abbrev pub own_names : Renaming
own_names = record { value = λ v. v; block = λ b. b; slot = λ k. k; sig = λ k. k; callee = λ k. k }

-- before anything is inlined
abbrev pub untouched : Function → Twins
untouched f = record { body = f; now = λ q. q; code = f; names = own_names }

-- there is no body for what is called, or the policy doesn't take it
abbrev pub Refused : Task → Ahead → Twins → Type 0
Refused task ahead twins =
    (found : Option Function) × (body_called task twins ahead ≡ found)
    × ((g : Function) → found ≡ Some g → takes task.policy g (with_body twins ahead g) ≡ false)

-- the body g is inlined at the own line
pub record Inlines (task : Task) (ahead : Ahead) (l : Line) (twins : Twins) (g : Function) : Type 0 where
  pub site : is_site (callee_of l.inst) ≡ true
  pub body : body_called task twins ahead ≡ Some g
  pub taken : takes task.policy g (with_body twins ahead g) ≡ true

-- the code's splice into the block `at`: the new body is the definition's under the new numbers, blocks of the caller
-- keep theirs, and callees keep their points
pub record Put (old new : Twins) (at : ℕ) : Type 0 where
  pub same : Renamed new.names new.body new.code
  pub numbers : Different (block_numbers new.code.blocks)
  pub own : (x : ℕ) → In x (block_numbers old.body.blocks) → In (sides.caller_block x) (block_numbers new.body.blocks)
  pub keeps :
      (x : ℕ) → In x (block_numbers old.body.blocks)
      → new.names.block (sides.caller_block x) ≡ old.names.block x
  pub others :
      (x : ℕ) → In x (block_numbers old.code.blocks) → (x ≡ at → ⊥)
      → lines_of x new.code.blocks ≡ lines_of x old.code.blocks
  pub callees :
      (j : ℕ) (d : Callee) → slice_get old.code.callees j ≡ Some d
      → slice_get new.code.callees j ≡ Some d

-- of a plain call, at a point: the lines behind it stand in the new block `after`
pub record PutWithin (old new : Twins) (point : Point) (after : ℕ) : Type 0 where
  pub put : Put old new point.0
  pub behind : In sides.after (block_numbers new.body.blocks)
  pub is : new.names.block sides.after ≡ after
  pub text : lines_of after new.code.blocks ≡ drop (suc point.1) (lines_of point.0 old.code.blocks)
  pub fresh : In after (block_numbers old.code.blocks) → ⊥
