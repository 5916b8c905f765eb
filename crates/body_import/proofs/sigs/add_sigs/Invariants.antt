use Rattle.std.proofs.Common.{◌≡◌, ℕ, ◌+◌, List, ◌++◌, length, take, map}
use Rattle.body_import.specs.Keys.{Knows}
use Rattle.body_import.specs.SigKeys.{sig_key}
use Rattle.body_import.proofs.sigs.add_sigs.Given as goal

abbrev pub invariant-loop-sig : goal.invariant-loop-sig
invariant-loop-sig l = ((keys : List (List ℕ)) → Knows 0 keys l.fn.places → l.count ≡ length keys → Knows 0 (keys ++ map sig_key (take l.sig-index l.sigs)) l.places) × (l.place ≡ l.count + l.sig-index)
