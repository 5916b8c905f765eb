-- The names that mentions mention.
use Rattle.std.specs.Prelude.{List, map}
use Rattle.ir_core.specs.declared.names.FuncName.{FuncName}
use Rattle.func_addrs.specs.declared.mentions.Mention.{Mention}

abbrev pub names_of : List Mention → List FuncName
names_of ms = map (λ (m : Mention). m.name.now) ms
