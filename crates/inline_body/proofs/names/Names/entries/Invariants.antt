use Rattle.std.proofs.Common.{◌≡◌, ◌++◌, drop, map, length}
use Rattle.ir_core.specs.Lists.{Each, Below}
use Rattle.ir_semantics.specs.Renaming.{entry_under}
use Rattle.ir_core.specs.Uses.{targets_used, table_targets}
use Rattle.inline_body.specs.Named.{names_of, Moves, blocks_of}
use Rattle.inline_body.proofs.names.Names.entries.Given as goal

abbrev pub invariant-loop-entry : goal.invariant-loop-entry
invariant-loop-entry l = (l.list.items ++ map (entry_under (names_of l.fn.self)) (drop l.entry-index l.entries) ≡ map (entry_under (names_of l.fn.self)) l.entries) × Each (Moves l.fn.self.values) (targets_used (table_targets (drop l.entry-index l.entries))) × Below (length l.fn.self.blocks) (blocks_of (table_targets (drop l.entry-index l.entries)))
