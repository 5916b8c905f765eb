use Rattle.std.proofs.Common.{◌≡◌, ◌++◌, drop, map, length}
use Rattle.ir_core.specs.Lists.{Each, Below}
use Rattle.ir_semantics.specs.Renaming.{target_under}
use Rattle.ir_core.specs.Uses.{targets_used}
use Rattle.inline_body.specs.Named.{names_of, Moves, blocks_of}
use Rattle.inline_body.proofs.names.Names.targets.Given as goal

abbrev pub invariant-loop-target : goal.invariant-loop-target
invariant-loop-target l = (l.list.items ++ map (target_under (names_of l.fn.self)) (drop l.target-index l.targets) ≡ map (target_under (names_of l.fn.self)) l.targets) × Each (Moves l.fn.self.values) (targets_used (drop l.target-index l.targets)) × Below (length l.fn.self.blocks) (blocks_of (drop l.target-index l.targets))
