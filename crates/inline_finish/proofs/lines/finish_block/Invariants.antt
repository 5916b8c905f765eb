use Rattle.std.proofs.Common.{◌≡◌, ◌+◌, ◌≤◌, map, length}
use Rattle.ir_core.specs.Lists.{Each}
use Rattle.ir_core.specs.Viewed.{line_of}
use Rattle.inline_pass.specs.Going.{finishing}
use Rattle.inline_finish.specs.Building.{policy_of}
use Rattle.inline_finish.specs.Midway.{IsBehind, IsOwnLine, left_in}
use Rattle.inline_finish.proofs.lines.finish_block.Given as goal

abbrev pub invariant-lines : goal.invariant-lines
invariant-lines g l = record {
  own : Each (IsOwnLine l.own.function l.block) (map line_of l.rest);
  behind : IsBehind (finishing (policy_of l.policy) (g.B.Bodies.functions l.bodies) l.own.function) (left_in l.own.function l.block (map line_of l.rest)) l.progress;
  counted : l.steps + l.initial.progress.inlined ≡ l.initial.steps + l.progress.inlined;
  rises : l.initial.steps ≤ l.steps;
}

abbrev pub decreases-lines : goal.decreases-lines
decreases-lines g l = length l.rest
