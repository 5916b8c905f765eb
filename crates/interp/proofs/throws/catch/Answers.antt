use Rattle.std.proofs.Common.{true, false, [], ◌∷◌, ◌∙◌, ap}
use Rattle.ir_semantics.specs.Values.{i64}
use Rattle.ir_semantics.specs.Step.{enter_target}
use Rattle.interp.specs.State.{frame_of, waits_of}
use Rattle.interp.proofs.Entering.{on_is}
use Rattle.interp.proofs.Acts.{payloads}
use Rattle.interp.proofs.throws.catch.Goals as goal

pub returns-then-branch : goal.returns-then-branch
returns-then-branch c = λ below w. on_is c.in_ok-enter_target.field-0 true (frame_of c.args.program.now.module.now c.enter_target.new.frame) (waits_of c.args.program.now.module.now below) w (enter_target (frame_of c.args.program.now.module.now c.args.frame.now) c.args.target.now [] (i64 c.args.p0 ∷ i64 c.args.p1 ∷ []) (waits_of c.args.program.now.module.now below) w) c.if-branch.true (c.in_ok-enter_target.ensures (waits_of c.args.program.now.module.now below) w ∙ ap (λ vs. enter_target (frame_of c.args.program.now.module.now c.args.frame.now) c.args.target.now [] vs (waits_of c.args.program.now.module.now below) w) (payloads c.word.result c.word-2.result c.args.p0 c.args.p1 c.word.ensures c.word-2.ensures))

pub returns-else-branch : goal.returns-else-branch
returns-else-branch c = λ below w. on_is c.in_ok-enter_target.field-0 false (frame_of c.args.program.now.module.now c.enter_target.new.frame) (waits_of c.args.program.now.module.now below) w (enter_target (frame_of c.args.program.now.module.now c.args.frame.now) c.args.target.now [] (i64 c.args.p0 ∷ i64 c.args.p1 ∷ []) (waits_of c.args.program.now.module.now below) w) c.if-branch.false (c.in_ok-enter_target.ensures (waits_of c.args.program.now.module.now below) w ∙ ap (λ vs. enter_target (frame_of c.args.program.now.module.now c.args.frame.now) c.args.target.now [] vs (waits_of c.args.program.now.module.now below) w) (payloads c.word.result c.word-2.result c.args.p0 c.args.p1 c.word.ensures c.word-2.ensures))
