use Rattle.std.proofs.Common.{◌≡◌, take, map}
use Rattle.std.specs.Prelude.{fold}
use Rattle.name_tables.specs.Definitions.{Line}
use Rattle.clif_resolve.specs.FormTypes.{with_step}
use Rattle.clif_lines.specs.WordRenaming.{renaming}
use Rattle.clif_resolve.proofs.types.push_lines.Given as goal

abbrev pub invariant-loop-line : goal.invariant-loop-line
invariant-loop-line l =
    l.types.items ≡ fold (with_step l.func.function (renaming l.words)) l.initial.types.items (map Line (take l.line-index l.lines))
