use Rattle.std.proofs.Common.{◌≡◌, ◌+◌, ◌≤◌, List}
use Rattle.ir_core.specs.Module.{Block}
use Rattle.inline_pass.specs.Going.{finishing}
use Rattle.inline_finish.specs.Building.{policy_of}
use Rattle.inline_finish.specs.Midway.{IsBetween, Remaining}
use Rattle.inline_finish.proofs.lines.finish_blocks.Given as goal

abbrev pub invariant-loop-block : goal.invariant-loop-block
invariant-loop-block g l = record {
  rest : List Block;
  remaining : Remaining l.own.function.blocks l.block-iterator rest;
  between : IsBetween (finishing (policy_of l.policy) (g.B.Bodies.functions l.bodies) l.own.function) rest l.progress;
  counted : l.steps + l.initial.progress.inlined ≡ l.initial.steps + l.progress.inlined;
  rises : l.initial.steps ≤ l.steps;
}
