use Rattle.std.proofs.Common.{arith, ◌≡◌, ◌<◌, length, get_or, sym, ap, ◌∙◌}
use Rattle.std.proofs.Math.ListN.{set}
use Rattle.std.proofs.lemmas.List.{get_or_default}
use Rattle.ir_core.specs.Shift.{shifted}
use Rattle.ir_core.proofs.Shifting.{mapped_more, shifted_up, shifted_stay}
use Rattle.ir_core.proofs.func.splicing.move_starts.Goals.{then-place-entry, else-place-entry}
use Rattle.ir_core.proofs.func.splicing.move_starts.Goals as goal

pub loop-entry-preserved : goal.loop-entry-preserved
loop-entry-preserved c =
    let within : c.loop-entry.entry-index < length c.loop-entry.blocks = omega arith in
    let x = get_or c.loop-entry.blocks c.loop-entry.entry-index c.entry-item.result in
    let read : x ≡ get_or c.loop-entry.blocks c.loop-entry.entry-index x = get_or_default c.loop-entry.blocks c.loop-entry.entry-index c.entry-item.result x within in
    let more = mapped_more (shifted c.args.place) c.args.blocks.now c.loop-entry.blocks c.loop-entry.entry-index x c.loop-entry.invariant within read in
    elim c.if-place-entry.branch [
      | then-place-entry w ↦ w.blocks-is ∙ (ap (set c.loop-entry.blocks c.loop-entry.entry-index) (sym (shifted_up c.args.place x w.if-place-entry.true)) ∙ more)
      | else-place-entry w ↦
          w.blocks-is ∙ (ap (set c.loop-entry.blocks c.loop-entry.entry-index) (sym (shifted_stay c.args.place x w.if-place-entry.false)) ∙ more)
    ]
