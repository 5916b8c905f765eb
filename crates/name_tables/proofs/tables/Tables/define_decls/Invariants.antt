use Rattle.std.proofs.Common.{◌≡◌, take}
use Rattle.std.specs.Prelude.{fold}
use Rattle.name_tables.specs.Defining.{define_decl}
use Rattle.name_tables.proofs.tables.Tables.define_decls.Given as goal

abbrev pub invariant-loop-decl : goal.invariant-loop-decl
invariant-loop-decl l = l.self ≡ fold define_decl l.initial.self (take l.decl-index l.decls)
