use Rattle.std.proofs.Common.{◌≡◌, map, take}
use Rattle.ir_core.specs.declared.declarations.Callee.{Callee}
use Rattle.ir_core.specs.Named.{place_of}
use Rattle.interp.proofs.link.find_callees.Given as goal

abbrev pub invariant-callees : goal.invariant-callees
invariant-callees l = l.found.items ≡ map (λ (c : Callee). place_of c.name l.module) (take l.callee-index l.callees)
