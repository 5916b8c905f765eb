use Rattle.std.proofs.Common.{◌≡◌, ◌++◌, drop}
use Rattle.ir_semantics.specs.Names.{in_order}
use Rattle.func_addrs.specs.Mentions.{names_of}
use Rattle.func_addrs.proofs.mentions.keep_apart.Given as goal

abbrev pub invariant-names : goal.invariant-names
invariant-names l = names_of l.kept.items ++ in_order (names_of (drop l.i l.sorted)) ≡ in_order (names_of l.sorted)
