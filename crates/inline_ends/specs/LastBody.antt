-- A body prepared for a call that ends its block, and what it is in the splice.
use Rattle.std.specs.Prelude.{◌≡◌, ℕ, ◌+◌, ◌-◌, ◌<◌, ◌^◌, [], ◌∷◌, ◌++◌, length, map, take, slice_get, Some}
use Rattle.std.specs.List.{enumerate_from}
use Rattle.ir_core.specs.declared.places.Point.{Point}
use Rattle.ir_core.specs.declared.declarations.Callee.{Callee}
use Rattle.ir_core.specs.Module.{Line, Function}
use Rattle.ir_core.specs.Lists.{In, Each, Below, Different}
use Rattle.ir_core.specs.Lookup.{block_numbers, definitions, line_definitions}
use Rattle.ir_core.specs.Sound.{LineInRange, instruction_count}
use Rattle.ir_core.specs.Edits.{IsPoint, lines_of}
use Rattle.ir_core.specs.Viewed.{line_of}
use Rattle.ir_semantics.specs.Import.{sigs_after, callees_after}
use Rattle.ir_semantics.specs.Renaming.{typed_under}
use Rattle.ir_semantics.specs.Splice.{Naming, Splicing, kind_of, callee_names, body, jump_in, after_blocks, new_types}
use Rattle.body_import.specs.declared.declarations.Import.{Import}
use Rattle.inline_body.specs.declared.prepared.PreparedBody.{PreparedBody}
use Rattle.inline_body.specs.WithBody.{empty_from, all_of, lines_in, numbers_of, counts_with}
use Rattle.inline_body.specs.Prepared.{appended, body_of}
use Rattle.inline_body.specs.PlainCall.{Keeps, splicing_at}

-- the body is what the splice p puts into f in the place of a call that ends its block, where the caller's numbers stay
-- and no block stands behind the body
pub record IsLastBodyOf (p : Splicing) (f : Function) (site : Point) (q : PreparedBody) : Type 0 where
  pub caller : p.caller ≡ f
  pub at : p.at ≡ site.block
  pub before : p.before ≡ take site.index (lines_of site.block f.blocks)
  pub none_behind : after_blocks p (kind_of p.site.inst) ≡ []
  pub caller_value : (v : ℕ) → p.naming.caller_value v ≡ v
  pub caller_block : (b : ℕ) → p.naming.caller_block b ≡ b
  pub slots : p.callee.slots ≡ q.slots
  pub sigs : sigs_after p.caller p.callee ≡ f.sigs ++ q.sigs
  pub callees : callees_after p.caller p.callee ≡ f.callees ++ q.callees
  pub types : map (typed_under (callee_names p)) p.callee.types
      ++ new_types p p.callee.blocks ≡ enumerate_from (length f.types) q.types
  pub jump : jump_in p ≡ line_of q.jump
  pub body : body p p.callee.blocks ≡ body_of q

-- the body can be put into f at the site, where there is room for it
pub record IsLastReady (f : Function) (site : Point) (q : PreparedBody) : Type 0 where
  pub few_slots : length f.slots + length q.slots < 2 ^ 32 - 1
  pub few_sigs : length f.sigs + length q.sigs < 2 ^ 32 - 1
  pub few_callees : length f.callees + length q.callees < 2 ^ 32 - 1
  pub few_values : length f.types + length q.types < 2 ^ 32 - 1
  pub few_blocks : length f.blocks + length q.block_params + 1 < 2 ^ 32 - 1
  pub few_lines : instruction_count f.blocks + length (lines_in q.block_lines) + 1 < 2 ^ 32 - 1
  pub callees_in_range : Each (λ (c : Callee). c.sig < length f.sigs + length q.sigs) q.callees
  pub there : IsPoint f site
  pub last : site.index + 1 ≡ length (lines_of site.block f.blocks)
  -- each block of the body has the number that it gets as it is put
  pub numbers : numbers_of q.block_lines ≡ length f.blocks
      ∷ block_numbers (empty_from (length f.blocks + 1) q.block_params)
  pub declared : Below (length (appended f q).types) (all_of (q.first ∷ q.block_params))
  pub different : Different (all_of (q.first ∷ q.block_params))
  pub undefined : (v : ℕ) → In v (all_of (q.first ∷ q.block_params)) → In v (definitions f.blocks) → ⊥
  pub jump : LineInRange (counts_with (appended f q) (length q.block_params + 1)) (line_of q.jump)
  pub jump_results : q.jump.results ≡ []
  pub lines : Each (LineInRange (counts_with (appended f q) (length q.block_params + 1))) (lines_in q.block_lines)
  pub lines_different : Different (line_definitions (lines_in q.block_lines))
  pub lines_undefined : (v : ℕ) → In v (line_definitions (lines_in q.block_lines)) → In v (definitions f.blocks) → ⊥
  pub apart : (v : ℕ) → In v (line_definitions (lines_in q.block_lines)) → In v (all_of (q.first ∷ q.block_params)) → ⊥

-- the body is ready for f, is that of the splice by some names, and brings the declarations of the import
pub record IsLastPrepared (f g : Function) (at : Point) (i : Import) (q : PreparedBody) : Type 0 where
  pub ready : IsLastReady f at q
  pub line : Line
  pub found : slice_get (lines_of at.block f.blocks) at.index ≡ Some line
  pub naming : Naming
  pub keeps : Keeps f naming
  pub is_body : IsLastBodyOf (splicing_at naming f g at line) f at q
  pub sigs : q.sigs ≡ i.sigs.added
  pub callees : q.callees ≡ i.callees.added
