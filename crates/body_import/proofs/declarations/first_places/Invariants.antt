use Rattle.std.proofs.Common.{◌≡◌, ◌++◌, drop, map, length}
use Rattle.ir_core.specs.Signatures.{same_sig}
use Rattle.ir_semantics.specs.Import.{first_place}
use Rattle.body_import.specs.Keys.{Knows}
use Rattle.body_import.specs.SigKeys.{sig_key}
use Rattle.body_import.proofs.declarations.first_places.Given as goal

abbrev pub invariant-loop-sig : goal.invariant-loop-sig
invariant-loop-sig l = (Knows 0 (map sig_key l.sigs) l.places → l.list.items ++ map (first_place same_sig l.sigs) (drop l.sig-index l.sigs) ≡ map (first_place same_sig l.sigs) l.sigs) × (length l.list.items ≡ l.sig-index)
