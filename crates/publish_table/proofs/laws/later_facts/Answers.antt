use Rattle.std.proofs.Common.{◌++◌}
use Rattle.publish_table.specs.Rule.{ShowsAfter}
use Rattle.publish_table.proofs.Histories.{later}
use Rattle.publish_table.proofs.Shown.{shown}
use Rattle.publish_table.proofs.laws.later_facts.Goals as goal

pub returns : goal.returns
returns c = λ job s s' es more r l. let h : ShowsAfter job (es ++ more) s' = later job s es r more s' l in (h, shown job (es ++ more) s' h)
