-- The bodies of callees that are read for a ticket, and what the seat notes.
use Rattle.std.specs.Prelude.{◌≡◌, ◌≢◌, ℕ, ◌<◌, [], ◌∷◌, ◌++◌, slice_get, slice_index, Some, true}
use Rattle.ir_core.specs.declared.names.FuncName.{FuncName}
use Rattle.ir_core.specs.Lists.{In}
use Rattle.ir_core.specs.Module.{Function, Module}
use Rattle.call_graph.specs.Numbers.{called}
use Rattle.call_graph.specs.Order.{bottom_up, names_of}
use Rattle.call_graph.specs.Reach.{apart, called_names}
use Rattle.inline_finish.specs.declared.bodies.Policy.{Policy}
use Rattle.publish_table.specs.declared.view.View.{View}
use Rattle.publish_table.specs.Jobs.{function_of}
use Rattle.publish_table.specs.Plays.{count}
use Rattle.worker_driver.specs.declared.plan.Plan.{Plan}
use Rattle.worker_driver.specs.Held.{Held}

-- bodies of functions of this module by this policy
abbrev pub IsFor : Module → Policy → Held → Type 0
IsFor m p c = (c.functions ≡ m) × (c.policy ≡ p)

-- what was noted as read stays so
abbrev pub ReadsStay : View → View → Type 0
ReadsStay v w = (k : ℕ) → 0 < count k v.read → 0 < count k w.read

-- the view grew by reads alone
abbrev pub OnlyRead : View → View → Type 0
OnlyRead v w =
    (w.drawn ≡ v.drawn) × (w.bodies ≡ v.bodies) × (w.refusals ≡ v.refusals) × (w.ends ≡ v.ends) × (w.made ≡ v.made)
    × ReadsStay v w

-- the ticket of the function k is noted as read
abbrev pub IsNotedRead : Plan → View → ℕ → Type 0
IsNotedRead plan w k = (t : ℕ) → slice_get plan.tickets.items k ≡ Some t → 0 < count t w.read

-- one more body, that of k, which was read under its ticket
abbrev pub IsReadUnder : Plan → Held → Held → ℕ → View → Type 0
IsReadUnder plan old new k w = (new.known ≡ old.known ++ k ∷ []) × IsNotedRead plan w k

abbrev pub piece_at : Plan → ℕ → ℕ
piece_at plan k = slice_index plan.order.piece k

-- the bodies stay, and where k is in another piece than func, that of k is among them, which was read under its ticket
abbrev pub IsReadIfApart : Plan → ℕ → Held → Held → ℕ → View → Type 0
IsReadIfApart plan func old new k w =
    ((j : ℕ) → In j old.known → In j new.known)
    × (piece_at plan k ≢ piece_at plan func → In k new.known × IsNotedRead plan w k)

-- of the first n calls of a function, those to other pieces are among the bodies, and their tickets noted as read
abbrev pub ReadSoFar : Plan → ℕ → ℕ → Held → View → Type 0
ReadSoFar plan func n c w =
    (i k : ℕ) → i < n → slice_get (called plan.graph func) i ≡ Some k → piece_at plan k ≢ piece_at plan func
    → In k c.known × IsNotedRead plan w k

-- the tickets of the functions in other pieces that the function of ticket t calls are noted as read
abbrev pub CalleesRead : Module → View → ℕ → Type 0
CalleesRead m w t =
    (f : Function) (y : FuncName) → function_of m t ≡ Some f → In y (called_names f f.blocks)
    → apart m f.name y ≡ true → In y (names_of m)
    → (k : ℕ) × (slice_get (bottom_up m) k ≡ Some y) × (0 < count k w.read)
