-- A range moved by one place.
use Rattle.std.specs.Prelude.{ℕ, ◌+◌, nat_le, if◌then◌else◌}
use Rattle.ir_core.specs.declared.func.BlockData.{BlockData}

-- the range, moved by one where it starts at a place or after it
abbrev pub shifted : ℕ → BlockData → BlockData
shifted place k = record k { start = if nat_le place k.start then k.start + 1 else k.start }
