use Rattle.std.proofs.Common.{true, false}
use Rattle.interp.specs.State.{waits_of}
use Rattle.interp.proofs.Entering.{went}
use Rattle.interp.proofs.branches.jump.Goals as goal

pub returns-then-branch : goal.returns-then-branch
returns-then-branch c = λ below w. went c.args.program.now.module.now c.in_ok-enter_target.field-0 true c.args.frame.now c.enter_target.new.frame below w c.args.line.now c.args.target.now c.if-branch.true (c.in_ok-enter_target.ensures (waits_of c.args.program.now.module.now below) w)

pub returns-else-branch : goal.returns-else-branch
returns-else-branch c = λ below w. went c.args.program.now.module.now c.in_ok-enter_target.field-0 false c.args.frame.now c.enter_target.new.frame below w c.args.line.now c.args.target.now c.if-branch.false (c.in_ok-enter_target.ensures (waits_of c.args.program.now.module.now below) w)
