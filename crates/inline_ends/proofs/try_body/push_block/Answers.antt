use Rattle.std.proofs.Common.{◌≡◌, ◌∷◌, ◌+◌, ◌<◌, ◌^◌, map, drop, length, ap, subst}
use Rattle.ir_core.specs.Module.{Line}
use Rattle.ir_core.specs.Lists.{Each}
use Rattle.ir_core.specs.Viewed.{line_of}
use Rattle.body_import.proofs.Walks.{next_is}
use Rattle.inline_body.specs.Named.{Reached}
use Rattle.inline_ends.proofs.TriedSteps.{next_tried, next_fits}
use Rattle.inline_ends.proofs.try_body.push_block.Goals as goal

pub loop-line-preserved : goal.loop-line-preserved
loop-line-preserved c =
    let lines = c.inst_slice-lines.result.now in
    let i = c.loop-line.line-index in
    let x = c.line-item.result in
    let rest = map line_of (drop (i + 1) lines) in
    let all = map line_of (drop i lines) in
    let e : all ≡ line_of x ∷ rest = ap (map line_of) (next_is lines i x c.loop-line-test.true c.line-item.is) in
    record {
      left = next_tried c.args.names.now c.args.site.now c.loop-line.current c.in_ok-current.current (line_of x) rest all _ c.in_ok-current.ensures.blocks c.in_ok-current.ensures.number e c.loop-line.invariant.left;
      as_many = c.in_ok-current.ensures.as_many;
      reached = (subst (Each (Reached c.args.names.now)) e c.loop-line.invariant.reached).1;
      few = (subst (Each (λ (y : Line). length y.results < 2 ^ 32)) e c.loop-line.invariant.few).1;
      number = next_fits (line_of x) rest all c.loop-line.current.block c.in_ok-current.current.block c.in_ok-current.ensures.number e c.loop-line.invariant.number;
    }
