-- A block's entry copied: its parameters may be held elsewhere.
use Rattle.std.specs.Prelude.{◌≡◌}
use Rattle.ir_core.specs.declared.func.BlockData.{BlockData}

pub record Alike (k j : BlockData) : Type 0 where
  pub params : j.params ≡ k.params
  pub start : j.start ≡ k.start
  pub len : j.len ≡ k.len
  pub cap : j.cap ≡ k.cap
  pub next : j.next ≡ k.next
