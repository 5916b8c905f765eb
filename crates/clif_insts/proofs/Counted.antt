-- The tokens that start before a spot, counted from a place of the list on.
use Rattle.std.proofs.Common.{◌≡◌, ℕ, ◌+◌, ◌<◌, ◌≤◌, List, length, Some, slice_get, arith}
use Rattle.std.proofs.lemmas.Bool.{lt-ltb, le-ltb}
use Rattle.clif_lex.specs.declared.spans.Token.{Token}
use Rattle.clif_insts.specs.Insts.{place_of}
use Rattle.token_reader.proofs.Views.{drop_some, drop_past}

pub counted : (ts : List Token) (i spot : ℕ) (t : Token) → slice_get ts i ≡ Some t → t.start < spot → place_of ts (i + 1) spot ≡ place_of ts i spot
counted ts i spot t e before = rw (drop_some ts i t e, lt-ltb t.start spot before) (omega arith)

pub not_counted : (ts : List Token) (i spot : ℕ) (t : Token) → slice_get ts i ≡ Some t → spot ≤ t.start → i ≡ place_of ts i spot
not_counted ts i spot t e behind = rw (drop_some ts i t e, le-ltb t.start spot behind) (omega arith)

pub all_counted : (ts : List Token) (i spot : ℕ) → length ts ≤ i → i ≡ place_of ts i spot
all_counted ts i spot past = rw (drop_past ts i past) (omega arith)
