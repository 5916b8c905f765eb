-- Lists of seats and of desks.
use Rattle.std.proofs.Common.{◌≡◌, suc, ◌+◌, List, [], ◌∷◌, ◌++◌, All, map, arith}
use Rattle.std.proofs.lemmas.List.Elements.{All-cons}
use Rattle.ir_core.specs.Module.{Module}
use Rattle.inline_finish.specs.declared.bodies.Policy.{Policy}
use Rattle.publish_table.specs.declared.board.Seat.{Seat}
use Rattle.publish_table.specs.Seats.{view_of}
use Rattle.publish_table.proofs.Lists.{total_append}
use Rattle.worker_driver.specs.Turns.{cost_of, cost_in}

pub all_map : {A B : Type 0} (P : A → Type 0) (Q : B → Type 0) (f : A → B) → ((x : A) → P x → Q (f x)) → (xs : List A) → All P xs → All Q (map f xs)
all_map P Q f each [] h = λ k d l. absurd (omega arith)
all_map P Q f each (x ∷ xs) h = All-cons Q (f x) (map f xs) (each x (h 0 x (omega arith))) (all_map P Q f each xs (λ k d l. h (suc k) d (omega arith)))

pub cost_more : (p : Policy) (m : Module) (xs : List Seat) (s : Seat) → cost_in p m (xs ++ s ∷ []) ≡ cost_in p m xs + cost_of p m (view_of s).bodies
cost_more p m xs s = let h = total_append (λ (z : Seat). cost_of p m (view_of z).bodies) xs (s ∷ []) in omega arith
