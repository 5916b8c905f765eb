-- A call at a place of a caller, whose splice has a size that can be told.
use Rattle.std.proofs.Common.{◌≡◌, [], Some, sym, ◌∙◌}
use Rattle.std.specs.Prelude.{slice_get}
use Rattle.ir_core.specs.declared.places.Point.{Point}
use Rattle.ir_core.specs.Edits.{lines_of}
use Rattle.ir_core.specs.Lists.{Different}
use Rattle.ir_core.specs.Lookup.{block_numbers}
use Rattle.ir_core.specs.Module.{Line, Function}
use Rattle.ir_core.proofs.Cutting.{cut_list}
use Rattle.ir_semantics.specs.Accepted.{RulesHold}
use Rattle.ir_semantics.specs.Splice.{Naming}
use Rattle.avail_flow.proofs.Blocks.{line_found, found_parts}
use Rattle.inline_outcomes.specs.Stands.{Stands}
use Rattle.inline_body.specs.PlainCall.{splicing_at}
use Rattle.splice_size.specs.Laws.{Sited}

module _ (f g : Function) (at : Point) (l : Line) (found : slice_get (lines_of at.block f.blocks) at.index ≡ Some l) (n : Naming) where
  stands_at : Stands (splicing_at n f g at l)
  stands_at =
      let b = line_found at.block f.blocks at.index l found in
      let lines : lines_of at.block f.blocks ≡ b.0.lines = (found_parts at.block f.blocks b.0 b.1).1 in
      record {
        block = b.0;
        block_found = b.1;
        lines = sym lines ∙ cut_list (lines_of at.block f.blocks) at.index l found;
      }

  pub sited_at : RulesHold [] f → RulesHold [] g → Different (block_numbers g.blocks) → Sited (splicing_at n f g at l)
  sited_at caller callee blocks = record { stands = stands_at; caller = caller; callee = callee; callee_blocks = blocks }
