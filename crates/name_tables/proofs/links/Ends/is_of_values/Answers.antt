use Rattle.std.proofs.Common.{rules, ◌≡◌, [], length, subst}
use Rattle.name_tables.specs.Links.{ends_of}
use Rattle.name_tables.proofs.ValueRuns.{all_in_run}
use Rattle.name_tables.proofs.links.Ends.is_of_values.Goals as goal

pub returns : goal.returns
returns c = λ empty.
    let none : length c.self.inside.listed.items ≡ 0 = search rules in
    subst (λ ends. ends ≡ ends_of (length ends) []) c.self.view_is (all_in_run c.self.inside.run c.self.inside.listed.items none)
