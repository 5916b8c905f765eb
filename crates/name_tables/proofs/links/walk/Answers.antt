use Rattle.std.proofs.Common.{◌≡◌, ◌+◌, ◌<◌, length, length-set, arith, ◌∙◌, ap}
use Rattle.name_tables.specs.declared.links.Mark.TheVariants.{Walking}
use Rattle.name_tables.proofs.Walks.{right_set, below_set, leads_set, step_back, meets_itself, at_value, at_missing}
use Rattle.name_tables.proofs.links.walk.Goals as goal
use Rattle.name_tables.proofs.links.walk.Goals.{in-Ended, in-Walking+then-by-start, in-Value, in-Missing}

pub walk-init : goal.walk-init
walk-init c = record {
  in_range = c.requires.start_in_range;
  as_long = c.requires.as_long;
  right = c.requires.right;
  below = λ i by h. let k = c.requires.below i by h in omega arith;
  leads = λ i h. absurd (let k = c.requires.below i c.args.start h in omega arith);
  same_end = λ e m. m;
}

pub walk-preserved : goal.walk-preserved
walk-preserved c =
    let i = c.walk.invariant in
    let within : c.walk.at < length c.walk.marks = omega arith in
    record {
      in_range = c.requires.links_in_range c.walk.at c.in-To.next c.in-To.is;
      as_long = simp length-set i.as_long;
      right = right_set c.walk.marks c.walk.at (Walking c.args.start) within c.args.links.now (λ e h. absurd cc) i.right;
      below = below_set c.walk.marks c.walk.at (Walking c.args.start) within (c.args.start + 1) (λ by h. let same : c.args.start ≡ by = cc in omega arith) i.below;
      leads = leads_set c.args.links.now c.walk.marks c.args.start c.walk.at c.in-To.next within c.in-To.is i.leads;
      same_end = λ e m. i.same_end e (step_back c.args.links.now c.walk.at c.in-To.next c.in-To.is e m);
    }

pub settle-requires-clause-means : goal.settle-requires-clause-means
settle-requires-clause-means c =
    let i = c.walk.invariant in
    i.same_end c.match-marks-at.end (elim c.match-marks-at.branch [
      | in-Ended w ↦ rw w.end-is (i.right c.walk.at w.in-Ended.end w.in-Ended.is)
      | in-Walking+then-by-start w ↦ rw w.end-is (meets_itself c.args.links.now c.walk.marks c.args.start c.walk.at i.leads (w.in-Walking.is ∙ ap Walking w.if-by-start.true))
      | in-Value w ↦ rw w.end-is (at_value c.args.links.now c.walk.at w.in-Value.is)
      | in-Missing w ↦ rw w.end-is (at_missing c.args.links.now c.walk.at w.in-Missing.is)
    ])
