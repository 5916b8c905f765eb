-- What the search for a name relies on.
use Rattle.std.specs.Prelude.{◌<◌, ◌^◌, length}
use Rattle.std.specs.List.Sorted.{IsStrictlySortedBy}
use Rattle.func_addrs.specs.declared.addresses.FuncAddrs.{FuncAddrs}
use Rattle.func_addrs.specs.Mentions.{names_of}
use Rattle.func_addrs.specs.Order.{name_cmp}

-- each name is before those behind it, and their addresses are below 2^64
pub record IsOrdered (a : FuncAddrs) : Type 0 where
  pub rising : IsStrictlySortedBy name_cmp (names_of a.names.items)
  pub few : length a.names.items < 2 ^ 59
