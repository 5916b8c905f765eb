use Rattle.std.proofs.Common.{List, map, refl, ap, arith}
use Rattle.std.proofs.lemmas.List.{nil_from_length}
use Rattle.ir_core.specs.Module.{Line, Function}
use Rattle.ir_core.specs.Viewed.{line_of}
use Rattle.inline_pass.specs.Going.{Task, finishing}
use Rattle.inline_finish.specs.Building.{policy_of}
use Rattle.inline_finish.specs.Midway.{Left, left_in}
use Rattle.inline_finish.proofs.Steps.{all_own, enters, leaves}
use Rattle.inline_finish.proofs.lines.finish_block.Goals as goal

pub lines-init : goal.lines-init
lines-init g c =
    let f : Function = c.args.own.now.function in
    let task : Task = finishing (policy_of c.args.policy) (g.B.Bodies.functions c.args.bodies.now) f in
    let lines : List Line = map line_of c.inst_slice-rest.result.now in
    record {
      own = all_own f c.args.block lines c.inst_slice-rest.ensures;
      behind = enters task f c.args.block lines c.args.progress.now c.requires.there c.inst_slice-rest.ensures c.requires.between;
      counted = refl;
      rises = omega arith;
    }

pub returns-clause-between : goal.returns-clause-between
returns-clause-between g c =
    let f : Function = c.args.own.now.function in
    let task : Task = finishing (policy_of c.args.policy) (g.B.Bodies.functions c.args.bodies.now) f in
    let left : Left = left_in f c.args.block (map line_of c.lines.rest.now) in
    let none = ap (map line_of) (nil_from_length c.lines.rest.now c.in_default.ensures.cases) in
    leaves task left.lines left.rest c.lines.progress none c.lines.invariant.behind
