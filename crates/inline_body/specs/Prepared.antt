-- A prepared body is what a splice puts into its caller.
use Rattle.std.specs.Prelude.{◌≡◌, ℕ, suc, ◌+◌, ◌-◌, ◌<◌, ◌^◌, List, [], ◌∷◌, ◌++◌, length, map, take, drop, slice_get}
use Rattle.std.specs.Prelude.{Some}
use Rattle.std.specs.List.{enumerate_from}
use Rattle.ir_core.specs.declared.places.Point.{Point}
use Rattle.ir_core.specs.declared.room.Room.{Room}
use Rattle.ir_core.specs.declared.declarations.Callee.{Callee}
use Rattle.ir_core.specs.Module.{Line, Block, Function}
use Rattle.ir_core.specs.Lists.{In, Each, Below, Different}
use Rattle.ir_core.specs.Lookup.{block_numbers, definitions, line_definitions}
use Rattle.ir_core.specs.Sound.{LineInRange, instruction_count}
use Rattle.ir_core.specs.Edits.{IsPoint, lines_of}
use Rattle.inline_body.specs.WithBody.{empty_from, all_of, lines_in, numbers_of, counts_with}
use Rattle.ir_semantics.specs.Import.{sigs_after, callees_after}
use Rattle.ir_semantics.specs.Renaming.{typed_under}
use Rattle.ir_semantics.specs.Splice.{Splicing, Within, kind_of, callee_names, body, jump_in, new_types}
use Rattle.ir_core.specs.Viewed.{line_of}
use Rattle.inline_body.specs.Inlined.{blocks_from}
use Rattle.inline_body.specs.declared.blocks.InlinedBlocks.{InlinedBlocks}
use Rattle.inline_body.specs.declared.parts.SiteParts.{SiteParts}
use Rattle.inline_body.specs.declared.prepared.PreparedBody.{PreparedBody}
use Rattle.ir_core.specs.declared.signatures.Sig.{Sig}

-- the function with a prepared body's declarations
abbrev pub appended : Function → PreparedBody → Function
appended f q =
    record f {
      slots = f.slots ++ q.slots;
      sigs = f.sigs ++ q.sigs;
      callees = f.callees ++ q.callees;
      types = f.types
          ++ enumerate_from (length f.types) q.types;
    }

abbrev pub body_of : PreparedBody → List Block
body_of q = blocks_from (q.first ∷ q.block_params) q.block_lines

-- the body is what the splice p puts into f at a plain call, where the caller's numbers stay and the block behind the
-- body is the second new one
pub record IsBodyOf (p : Splicing) (f : Function) (site : Point) (q : PreparedBody) : Type 0 where
  pub caller : p.caller ≡ f
  pub at : p.at ≡ site.block
  pub before : p.before ≡ take site.index (lines_of site.block f.blocks)
  pub behind : p.behind ≡ drop (suc site.index) (lines_of site.block f.blocks)
  pub kind : kind_of p.site.inst ≡ Within
  pub caller_value : (v : ℕ) → p.naming.caller_value v ≡ v
  pub caller_block : (b : ℕ) → p.naming.caller_block b ≡ b
  pub after : p.naming.after ≡ length f.blocks + 1
  pub slots : p.callee.slots ≡ q.slots
  pub sigs : sigs_after p.caller p.callee ≡ f.sigs ++ q.sigs
  pub callees : callees_after p.caller p.callee ≡ f.callees ++ q.callees
  pub types : map (typed_under (callee_names p)) p.callee.types
      ++ new_types p p.callee.blocks ≡ enumerate_from (length f.types) q.types
  pub jump : jump_in p ≡ line_of q.jump
  pub body : body p p.callee.blocks ≡ body_of q
  pub results : p.site.results ≡ q.results

-- the body can be put into f at the site, where there is room for it
pub record IsReady (f : Function) (site : Point) (q : PreparedBody) : Type 0 where
  pub few_slots : length f.slots + length q.slots < 2 ^ 32 - 1
  pub few_sigs : length f.sigs + length q.sigs < 2 ^ 32 - 1
  pub few_callees : length f.callees + length q.callees < 2 ^ 32 - 1
  pub few_values : length f.types + length q.types < 2 ^ 32 - 1
  pub few_blocks : length f.blocks + length q.block_params + 2 < 2 ^ 32 - 1
  pub few_lines : instruction_count f.blocks + length (lines_in q.block_lines) + 1 < 2 ^ 32 - 1
  pub callees_in_range : Each (λ (c : Callee). c.sig < length f.sigs + length q.sigs) q.callees
  pub there : IsPoint f site
  pub fits : site.index + 1 < 2 ^ 32
  -- each block of the body has the number that it gets as it is put
  pub numbers : numbers_of q.block_lines ≡ length f.blocks
      ∷ block_numbers (empty_from (length f.blocks + 2) q.block_params)
  pub are_results : (l : Line) → slice_get (lines_of site.block f.blocks) site.index ≡ Some l → q.results ≡ l.results
  pub declared : Below (length (appended f q).types) (all_of (q.first ∷ q.block_params))
  pub different : Different (all_of (q.first ∷ q.block_params))
  pub undefined : (v : ℕ) → In v (all_of (q.first ∷ q.block_params)) → In v (definitions f.blocks) → ⊥
  pub jump : LineInRange (counts_with (appended f q) (length q.block_params + 2)) (line_of q.jump)
  pub jump_results : q.jump.results ≡ []
  pub lines : Each (LineInRange (counts_with (appended f q) (length q.block_params + 2))) (lines_in q.block_lines)
  pub lines_different : Different (line_definitions (lines_in q.block_lines))
  pub lines_undefined : (v : ℕ) → In v (line_definitions (lines_in q.block_lines)) → In v (definitions f.blocks) → ⊥
  pub apart : (v : ℕ) → In v (line_definitions (lines_in q.block_lines)) → In v (all_of (q.first ∷ q.block_params)) → ⊥

-- the body has these parts, declarations and blocks
pub record IsMadeOf (q : PreparedBody) (parts : SiteParts) (new_sigs : List Sig) (new_callees : List Callee)
    (blocks : InlinedBlocks) : Type 0 where
  pub slots : q.slots ≡ parts.slots
  pub sigs : q.sigs ≡ new_sigs
  pub callees : q.callees ≡ new_callees
  pub types : q.types ≡ parts.types
  pub jump : q.jump ≡ parts.jump
  pub results : q.results ≡ parts.results
  pub params : q.first ∷ q.block_params ≡ blocks.block_params
  pub lines : q.block_lines ≡ blocks.block_lines

-- the room that a body takes
abbrev pub room_of : PreparedBody → Room
room_of q =
    record {
      slots = length q.slots;
      sigs = length q.sigs;
      callees = length q.callees;
      values = length q.types;
      blocks = length q.block_params + 2;
      insts = length (lines_in q.block_lines) + 1;
    }
