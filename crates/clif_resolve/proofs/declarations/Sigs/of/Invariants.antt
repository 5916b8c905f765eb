use Rattle.std.proofs.Common.{◌≡◌, take}
use Rattle.std.specs.Prelude.{flat_map}
use Rattle.clif_resolve.specs.Parts.{own_sigs}
use Rattle.clif_lines.specs.WordNumbers.{sig_numbers}
use Rattle.clif_resolve.proofs.declarations.Sigs.of.Given as goal

abbrev pub invariant-loop-decl : goal.invariant-loop-decl
invariant-loop-decl l = record {
  list : l.sigs.list.items ≡ flat_map own_sigs (take l.decl-index l.decls);
  numbers : l.sigs.numbers.items ≡ sig_numbers 0 (take l.decl-index l.decls);
}
