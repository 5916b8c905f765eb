use Rattle.std.proofs.Common.{◌∙◌, ap, sym, ◌+◌, None, map}
use Rattle.ir_core.specs.Viewed.{line_of}
use Rattle.interp.specs.Outcome.{shown_of}
use Rattle.interp.specs.State.{some_if, frame_of}
use Rattle.interp.proofs.Acts.{shown_next, shown_stop}
use Rattle.interp.proofs.shows.show.Goals as goal

pub returns-then-not-branch : goal.returns-then-not-branch
returns-then-not-branch c =
    shown_stop c.args.program.now.module.now c.args.below.now (c.waits.wait-index + 1) (record { line = line_of c.args.line.now; frame = frame_of c.args.program.now.module.now c.args.top.now })
    (shown_next c.args.program.now.module.now c.args.below.now c.waits.wait-index c.wait-item.result c.wait-item.result (map shown_of c.waits.out.items) None c.waits-test.true c.wait-item.is c.waits.invariant
    (ap (λ b. some_if b (map shown_of c.show_frame.new.out.items)) (sym c.if-not-branch.true) ∙ c.in_ok-show_frame.ensures))
