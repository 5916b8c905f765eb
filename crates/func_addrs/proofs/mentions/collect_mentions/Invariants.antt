use Rattle.std.proofs.Common.{◌≡◌, ◌++◌, drop}
use Rattle.ir_semantics.specs.Names.{mentioned}
use Rattle.func_addrs.specs.Mentions.{names_of}
use Rattle.func_addrs.proofs.mentions.collect_mentions.Given as goal

abbrev pub invariant-funcs : goal.invariant-funcs
invariant-funcs l = names_of l.mentions.items ++ mentioned (drop l.i l.module) ≡ mentioned l.module
