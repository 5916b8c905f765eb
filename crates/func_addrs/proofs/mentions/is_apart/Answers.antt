use Rattle.func_addrs.proofs.Mentioning.{last_apart}
use Rattle.func_addrs.proofs.mentions.is_apart.Goals as goal

pub returns-then-i-sorted : goal.returns-then-i-sorted
returns-then-i-sorted c = last_apart c.args.sorted.now c.args.i c.if-i-sorted.true
