use Rattle.std.proofs.Common.{◌≡◌, ◌++◌, map, take}
use Rattle.ir_core.specs.declared.declarations.Callee.{Callee}
use Rattle.func_addrs.specs.Mentions.{names_of}
use Rattle.func_addrs.proofs.mentions.push_callees.Given as goal

abbrev pub invariant-callees : goal.invariant-callees
invariant-callees l = names_of l.mentions.items ≡ names_of l.fn.mentions.items ++ map (λ (c : Callee). c.name) (take l.callee-index l.callees)
