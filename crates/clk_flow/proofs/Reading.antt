-- What the bytes that were taken from a source say about those that it told.
use Rattle.std.proofs.Common.{◌≡◌, ℕ, ◌+◌, ◌-◌, min, take, ◌<◌, ◌≤◌, ◌++◌, List, length, length-append, append-nil, Option, Some, None, IfSome, [], subst, ap, ◌∙◌, arith}
use Rattle.std.proofs.lemmas.List.{length-take-le}
use Rattle.std.specs.Io.KnownBytes.{Consumes}
use Rattle.std.proofs.KnownBytes.{Consumes-trans}

-- a source that gave more than a limit had more than the limit
pub longer_than : (old new : Option (List ℕ)) (bytes : List ℕ) (limit : ℕ) → Consumes old new bytes → limit < length bytes → IfSome old (λ told. limit < length told)
longer_than None new bytes limit taken more = tt
longer_than (Some told) None bytes limit taken more = absurd taken
longer_than (Some told) (Some rest) bytes limit taken more = let same = ap length taken in omega (arith, same, length-append bytes rest, more)

-- a reading that gave nothing leaves what was taken before
pub none_more : (old between new : Option (List ℕ)) (bytes none : List ℕ) → none ≡ [] → Consumes old between bytes → Consumes between new none → Consumes old new bytes
none_more old between new bytes none is taken nothing =
    subst (Consumes old new) (ap (λ (more : List ℕ). bytes ++ more) is ∙ append-nil bytes) (Consumes-trans old between new bytes none taken nothing)

-- how many bytes a turn asks for: one at least, and no more than one past the limit
pub asked : (into chunk : List ℕ) (left room : ℕ) → length into ≡ length (take (room + 1) chunk) → room ≡ min left 65535 → length chunk ≡ 65536
    → (0 < length into) × (length into ≤ left + 1)
asked into chunk left room same is whole = let all = length-take-le (room + 1) chunk (omega (arith, is, whole)) in (omega (arith, same, all), omega (arith, same, all, is))

-- a turn's bytes stay within one past the limit
pub still_short : (whole more : List ℕ) (len count limit : ℕ) → length whole ≡ len → count ≡ length more → count ≤ limit - len + 1 → len ≤ limit
    → length (whole ++ more) ≤ limit + 1
still_short whole more len count limit is some few short = omega (arith, length-append whole more, is, some, few, short)
