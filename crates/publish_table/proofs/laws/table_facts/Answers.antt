use Rattle.publish_table.proofs.Shown.{shown}
use Rattle.publish_table.proofs.laws.table_facts.Goals as goal

pub returns : goal.returns
returns c = λ job s r. (r.0, shown job r.0 s r.1)
