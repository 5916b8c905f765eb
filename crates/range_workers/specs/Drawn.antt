-- What is given at numbers that workers draw.
use Rattle.std.specs.Prelude.{ℕ, ◌<◌}
use Rattle.std.specs.Fn.{FnReturns}
use denote.Param.Members.{Shared}
use Rattle.range_workers.specs.declared.drawing.Drawn.{Drawn}

-- the number that was drawn is below the count, and f may give this there
abbrev pub IsGiven : {F X : Type 0} → Shared F (ℕ × Unit {0}) X → F → ℕ → Drawn X → Type 0
IsGiven g f count drawn = (drawn.number < count) × FnReturns g f (drawn.number, tt) drawn.given
