use Rattle.std.proofs.Common.{◌≡◌, take}
use Rattle.func_addrs.specs.Mentions.{names_of}
use Rattle.interp_run.specs.Addressing.{callee_addresses}
use Rattle.interp_run.proofs.addresses.find_callees.Given as goal

abbrev pub invariant-callees : goal.invariant-callees
invariant-callees l = l.addresses.items ≡ callee_addresses (names_of l.names.names.items) (take l.callee-index l.callees)
