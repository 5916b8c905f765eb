use Rattle.std.proofs.Common.{rules, ◌≡◌, false, map, subst, sym}
use Rattle.std.specs.List.{list_any}
use Rattle.name_tables.specs.Links.{AreEnds}
use Rattle.name_tables.specs.Aliases.{is_alias, link_of}
use Rattle.name_tables.proofs.ValueRuns.{value_ends}
use Rattle.name_tables.proofs.aliases.ends.Goals as goal

pub returns-then-not-has_alias : goal.returns-then-not-has_alias
returns-then-not-has_alias c =
    let none : list_any is_alias c.args.firsts.now ≡ false = search rules in
    subst (AreEnds (map (link_of c.args.words.now) c.args.firsts.now)) (sym c.of_values.ensures) (value_ends c.args.firsts.now none c.args.words.now)
