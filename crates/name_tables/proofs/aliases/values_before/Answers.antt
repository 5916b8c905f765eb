use Rattle.std.proofs.Common.{rules, ◌≡◌, ◌+◌, [], false, length, subst, sym}
use Rattle.std.specs.List.{list_any}
use Rattle.name_tables.specs.Aliases.{is_alias, counts_of, AreCounts}
use Rattle.name_tables.proofs.ValueRuns.{value_counts}
use Rattle.name_tables.proofs.aliases.values_before.Goals as goal

pub returns-then-not-has_alias : goal.returns-then-not-has_alias
returns-then-not-has_alias c =
    let firsts = c.args.firsts.now in
    let none : list_any is_alias firsts ≡ false = search rules in
    let empty : c.new.result.items ≡ [] = search rules in
    subst (λ listed. AreCounts firsts (counts_of (length firsts + 1) listed)) (sym empty) (value_counts firsts none)
