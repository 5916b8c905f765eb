use Rattle.std.proofs.Common.{◌≡◌, ◌+◌, ◌<◌, length, length-set, arith}
use Rattle.name_tables.specs.declared.links.Mark.TheVariants.{Ended}
use Rattle.name_tables.proofs.Walks.{right_set, below_set, step}
use Rattle.name_tables.proofs.links.settle.Goals as goal

pub settle-preserved : goal.settle-preserved
settle-preserved c =
    let i = c.settle.invariant in
    let within : c.settle.at < length c.settle.marks = omega arith in
    record {
      in_range = c.requires.links_in_range c.settle.at c.in-To.next c.in-To.is;
      as_long = simp length-set i.as_long;
      right = right_set c.settle.marks c.settle.at (Ended c.args.end) within c.args.links.now (λ e h. let same : c.args.end ≡ e = cc in rw (← same) i.means) i.right;
      below = below_set c.settle.marks c.settle.at (Ended c.args.end) within (c.args.start + 1) (λ by h. absurd cc) i.below;
      means = step c.args.links.now c.settle.at c.in-To.next c.in-To.is c.args.end i.means;
    }

pub returns-in-Value : goal.returns-in-Value
returns-in-Value c =
    let i = c.settle.invariant in
    let within : c.settle.at < length c.settle.marks = omega arith in
    record {
      right = right_set c.settle.marks c.settle.at (Ended c.args.end) within c.args.links.now (λ e h. let same : c.args.end ≡ e = cc in rw (← same) i.means) i.right;
      below = below_set c.settle.marks c.settle.at (Ended c.args.end) within (c.args.start + 1) (λ by h. absurd cc) i.below;
      means = c.requires.means;
    }
