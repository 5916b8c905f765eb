use Rattle.std.proofs.Common.{◌≡◌, take}
use Rattle.func_addrs.specs.Mentions.{names_of}
use Rattle.interp_run.specs.Addressing.{all_addresses}
use Rattle.interp_run.proofs.Addressing.{rows_of}
use Rattle.interp_run.proofs.addresses.find_all_callees.Given as goal

abbrev pub invariant-funcs : goal.invariant-funcs
invariant-funcs l = rows_of l.found.items ≡ all_addresses (names_of l.names.names.items) (take l.i l.module)
