use Rattle.std.proofs.Common.{◌≡◌, map, take}
use Rattle.ir_core.specs.declared.names.FuncName.{FuncName}
use Rattle.ir_core.specs.Named.{place_of}
use Rattle.func_addrs.specs.Mentions.{names_of}
use Rattle.interp_run.proofs.addresses.find_places.Given as goal

abbrev pub invariant-names : goal.invariant-names
invariant-names l = l.places.items ≡ map (λ (n : FuncName). place_of n l.module) (names_of (take l.mention-index l.names))
