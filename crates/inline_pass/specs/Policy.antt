-- Which calls are inlined. A body goes into another one where it has at most the callee size and what comes of it has
-- at most the caller size.
use Rattle.std.specs.Prelude.{ℕ, Bool, ◌&&◌, nat_le}
use Rattle.ir_core.specs.Module.{Function}
use Rattle.ir_core.specs.Size.{size_of}

pub record Policy : Type 0 where
  pub callee_size : ℕ
  pub caller_size : ℕ

-- body: the callee's; result: the caller with it
abbrev pub takes : Policy → (body result : Function) → Bool
takes p body result = nat_le (size_of body) p.callee_size && nat_le (size_of result) p.caller_size
