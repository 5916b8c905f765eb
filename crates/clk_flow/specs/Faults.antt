-- Counts of faults. A source or a sink counts its reads or writes that did not happen, and a count never falls. The
-- counts of the adapters over std stay at the last number of 64 bits, so a count that stands there may have risen.
use Rattle.std.specs.Prelude.{ℕ, ◌≡◌, ◌+◌, ◌<◌, ◌≤◌, ◌⊎◌, min, if◌then◌else◌, is_ok, OnErr}
use Rattle.std.specs.declared.result.Result.{Result}

-- the last value of an adapter's count
abbrev pub last_count : ℕ
last_count = 18446744073709551615

-- the count after one fault more
abbrev pub raised : ℕ → ℕ
raised count = min (count + 1) last_count

-- the count after a call, where each error is one fault
abbrev pub count_after : {T E : Type 0} → ℕ → Result T E → ℕ
count_after count result = if is_ok result then count else raised count

-- a count rose in a call: it is greater after the call than before it, or stands at the last value
abbrev pub Rose : ℕ → ℕ → Type 0
Rose before after = (before < after) ⊎ (after ≡ last_count)

-- what a call does to a count of faults: an error has a cause
pub record HasCause {T E : Type 0} (before after : ℕ) (result : Result T E) : Type 0 where
  pub later : before ≤ after
  pub failed : OnErr result (Rose before after)
