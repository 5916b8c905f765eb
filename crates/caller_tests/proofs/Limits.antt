-- A splice of two functions of accepted modules that is within the limit of sizes.
use Rattle.std.proofs.Common.{◌≡◌, ◌≤◌, [], Some}
use Rattle.std.specs.Prelude.{slice_get}
use Rattle.ir_core.specs.declared.places.Point.{Point}
use Rattle.ir_core.specs.Edits.{lines_of}
use Rattle.ir_core.specs.Module.{Line, Function}
use Rattle.ir_core.specs.Size.{size_of}
use Rattle.ir_core.specs.WellFormed.{WellFormed}
use Rattle.ir_semantics.specs.Accepted.{RulesHold}
use Rattle.ir_semantics.specs.Splice.{sides, splice_with}
use Rattle.avail_flow.proofs.Blocks as blocks
use Rattle.splice_bounds.specs.Laws.{WithinLimit}

module _ (f g : Function) (at : Point) (l : Line) where
  pub within : WellFormed f × WellFormed g → RulesHold [] f × RulesHold [] g → slice_get (lines_of at.block f.blocks) at.index ≡ Some l → size_of g ≤ 262144 → size_of (splice_with sides f at.block at.index g) ≤ 262144 → WithinLimit sides f g at l
  within whole accepted found callee_size splice_size =
      let b = blocks.line_found at.block f.blocks at.index l found in
      record {
        caller_whole = whole.0;
        callee_whole = whole.1;
        caller_accepted = accepted.0;
        callee_accepted = accepted.1;
        block = b.0;
        block_found = b.1;
        line_found = b.2;
        callee_size = callee_size;
        splice_size = splice_size;
      }
