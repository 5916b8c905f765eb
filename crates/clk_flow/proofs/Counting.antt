-- What a count of faults says over several calls.
use Rattle.std.proofs.Common.{ℕ, ◌≤◌, inl, inr, arith}
use Rattle.clk_flow.specs.Faults.{Rose}

-- a count that rose in the last of several calls rose in all of them together
pub rose_since : (before between after : ℕ) → before ≤ between → Rose between after → Rose before after
rose_since before between after earlier rose = elim rose [ inl more ↦ inl (omega arith) | inr last ↦ inr last ]
