-- Room for the numbers of functions.
use Rattle.std.proofs.Common.{◌≡◌, ℕ, ◌+◌, ◌<◌, ◌≤◌, Some, inl, inr, ap, sym, ◌∙◌, arith}
use Rattle.std.proofs.lemmas.Bool.{cases_lt}
use Rattle.std.specs.List.{slice_get}
use Rattle.ir_core.specs.Module.{Function, Module}
use Rattle.clif_numbers.specs.Room.{NumbersInRoom, HasRoomFor, KeepsRoom}
use Rattle.print_workers.specs.Parts.{HaveRoom}

pub has_room : {f : Function} {a b : NumbersInRoom} → KeepsRoom a b → HasRoomFor f a → HasRoomFor f b
has_room k h = record { values = omega (arith, k.values, h.values); blocks = omega (arith, k.blocks, h.blocks) }

pub keeps : {a b c : NumbersInRoom} → KeepsRoom a b → KeepsRoom b c → KeepsRoom a c
keeps k l = record { values = omega (arith, k.values, l.values); blocks = omega (arith, k.blocks, l.blocks) }

same_at : (m : Module) (i j : ℕ) (f h : Function) → j ≡ i → slice_get m i ≡ Some f → slice_get m j ≡ Some h → h ≡ f
same_at m i j f h e at is = let both : slice_get m i ≡ Some h = sym (ap (slice_get m) e) ∙ is in cc

-- room for one function more
pub one_more : (m : Module) (from i : ℕ) (f : Function) (a b : NumbersInRoom) → HaveRoom m from i a → KeepsRoom a b → slice_get m i ≡ Some f → HasRoomFor f b → HaveRoom m from (i + 1) b
one_more m from i f a b have kept at room j h low high is = elim (cases_lt j i) [
  | inl below ↦ has_room kept (have j h low below is)
  | inr top ↦ rw (same_at m i j f h (omega arith) at is) room
]
