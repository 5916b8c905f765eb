use Rattle.std.proofs.Common.{◌≡◌, take}
use Rattle.std.specs.Prelude.{fold}
use Rattle.name_tables.specs.Taking.{refer}
use Rattle.name_tables.proofs.names.Names.refer_all.Given as goal

abbrev pub invariant-loop-name : goal.invariant-loop-name
invariant-loop-name l = l.self ≡ fold refer l.initial.self (take l.name-index l.names)
