use Rattle.std.proofs.Common.{◌∙◌, rules, get_or}
use Rattle.std.proofs.lemmas.Bool.{le-ltb, lt-ltb}
use Rattle.interp.proofs.Storing.{outside_at, inside_at, fit_end}
use Rattle.interp.proofs.hosts.writes_fit.Goals as goal

pub returns-then-write-len : goal.returns-then-write-len
returns-then-write-len c = outside_at c.args.writes.now c.writes.write-index c.args.len (0, 0) c.writes-test.true (le-ltb (get_or c.args.writes.now c.writes.write-index (0, 0)).0 c.args.len c.if-write-len.true) ∙ c.writes.invariant

pub writes-preserved : goal.writes-preserved
writes-preserved c = inside_at c.args.writes.now c.writes.write-index c.args.len (0, 0) c.writes-test.true (lt-ltb (get_or c.args.writes.now c.writes.write-index (0, 0)).0 c.args.len c.if-write-len.false) ∙ c.writes.invariant

pub returns : goal.returns
returns c = fit_end c.args.writes.now c.writes.write-index c.args.len (search rules) ∙ c.writes.invariant
