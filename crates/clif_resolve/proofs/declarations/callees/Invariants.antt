use Rattle.std.proofs.Common.{◌≡◌, take, length}
use Rattle.std.specs.Prelude.{flat_map}
use Rattle.clif_lines.specs.WordRenaming.{renaming}
use Rattle.clif_meaning.specs.Meaning.{decl_sigs, callees_from}
use Rattle.clif_resolve.proofs.declarations.callees.Given as goal

abbrev pub invariant-loop-decl : goal.invariant-loop-decl
invariant-loop-decl l = record {
  list : l.list.items ≡ callees_from (renaming l.words).sig 0 (take l.decl-index l.decls);
  count : l.count ≡ length (flat_map decl_sigs (take l.decl-index l.decls));
}
