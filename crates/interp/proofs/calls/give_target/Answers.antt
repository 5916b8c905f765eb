use Rattle.std.proofs.Common.{true, false, []}
use Rattle.clk_num.specs.Views.{data_of_all}
use Rattle.ir_semantics.specs.Step.{enter_target}
use Rattle.interp.specs.State.{frame_of, waits_of}
use Rattle.interp.proofs.Entering.{on_is}
use Rattle.interp.proofs.calls.give_target.Goals as goal

pub returns-then-branch : goal.returns-then-branch
returns-then-branch c = λ below w. on_is c.in_ok-enter_target.field-0 true (frame_of c.args.program.now.module.now c.enter_target.new.frame) (waits_of c.args.program.now.module.now below) w (enter_target (frame_of c.args.program.now.module.now c.args.frame.now) c.args.normal.now (data_of_all c.args.values.now) [] (waits_of c.args.program.now.module.now below) w) c.if-branch.true (c.in_ok-enter_target.ensures (waits_of c.args.program.now.module.now below) w)

pub returns-else-branch : goal.returns-else-branch
returns-else-branch c = λ below w. on_is c.in_ok-enter_target.field-0 false (frame_of c.args.program.now.module.now c.enter_target.new.frame) (waits_of c.args.program.now.module.now below) w (enter_target (frame_of c.args.program.now.module.now c.args.frame.now) c.args.normal.now (data_of_all c.args.values.now) [] (waits_of c.args.program.now.module.now below) w) c.if-branch.false (c.in_ok-enter_target.ensures (waits_of c.args.program.now.module.now below) w)
