-- How a view changes, and what each step tells.
use Rattle.std.specs.Prelude.{◌≡◌, ◌≢◌, ℕ, ◌+◌, ◌<◌, ◌≤◌, ◌==◌, if◌then◌else◌, List, [], ◌∷◌, ◌++◌, Some, None, Option}
use Rattle.std.specs.Arc.{arc_value}
use Rattle.std.specs.declared.sync.Arc.{Arc}
use Rattle.std.specs.declared.alloc.Global.{Global}
use Rattle.atomic_table.specs.Table.{Me, Step, rest}
use Rattle.publish_table.specs.declared.job.Job.{Job}
use Rattle.inline_finish.specs.declared.bodies.Built.{Built}
use Rattle.publish_table.specs.declared.view.Cell.{Cell}
use Rattle.publish_table.specs.declared.view.Cell.TheVariants.{Body, Refused}
use Rattle.publish_table.specs.declared.view.Stage.TheVariants.{Idle, Filling, Reading}
use Rattle.publish_table.specs.declared.view.View.{View}
use Rattle.publish_table.specs.Jobs.{IsFinished}

-- f of each item, added up
abbrev pub total : {X : Type 0} → (X → ℕ) → List X → ℕ
total f [] = 0
total f (x ∷ xs) = f x + total f xs

-- how often a ticket stands in a list
abbrev pub count : ℕ → List ℕ → ℕ
count t ts = total (λ x. if x == t then 1 else 0) ts

-- a seat that has done nothing
abbrev pub fresh : Job → ℕ → View
fresh job made = record {
  job = job;
  drawn = [];
  bodies = [];
  refusals = [];
  read = [];
  refused = [];
  stage = Idle;
  ends = 0;
  seats = 1;
  made = made;
}

abbrev pub with_drawn : View → ℕ → View
with_drawn v t = record v { drawn = v.drawn ++ t ∷ [] }

abbrev pub with_end : View → View
with_end v = record v { ends = v.ends + 1 }

-- after a draw that found nothing: a second one takes no step
abbrev pub once_ended : View → View
once_ended v = if v.ends == 0 then with_end v else v

abbrev pub filling : View → ℕ → View
filling v t = record v { stage = Filling t }

abbrev pub with_body : View → ℕ → View
with_body v t = record v { stage = Idle; bodies = v.bodies ++ t ∷ [] }

abbrev pub with_refusal : View → ℕ → View
with_refusal v t = record v { stage = Idle; refusals = v.refusals ++ t ∷ [] }

abbrev pub with_filled : Cell → View → ℕ → View
with_filled (Body a) v t = with_body v t
with_filled Refused v t = with_refusal v t

abbrev pub reading : View → ℕ → View
reading v t = record v { stage = Reading t }

abbrev pub with_read : View → ℕ → View
with_read v t = record v { stage = Idle; read = v.read ++ t ∷ [] }

abbrev pub with_refused : View → ℕ → View
with_refused v t = record v { refused = v.refused ++ t ∷ [] }

abbrev pub with_seat : View → View
with_seat v = record v { made = v.made + 1 }

abbrev pub new_seat : View → View
new_seat v = fresh v.job 0

-- what two seats know together
abbrev pub joined : View → View → View
joined v w = record v {
  drawn = v.drawn ++ w.drawn;
  bodies = v.bodies ++ w.bodies;
  refusals = v.refusals ++ w.refusals;
  read = v.read ++ w.read;
  refused = v.refused ++ w.refused;
  ends = v.ends + w.ends;
  seats = v.seats + w.seats;
}

abbrev pub joined_all : View → List View → View
joined_all v [] = v
joined_all v (w ∷ ws) = joined_all (joined v w) ws

-- what a seat that was joined into another is for
abbrev pub no_job : Job
no_job = record {
  functions = record { marker = record {}; value = [] };
  policy = record { callee_size = 0; caller_size = 0 };
}

abbrev pub spent : View
spent = record (fresh no_job 0) { seats = 0 }

abbrev Sat : Type 0
Sat = Me (Option Cell) View

abbrev At : Type 0
At = Step (Option Cell)

-- the seat never had the ticket
abbrev pub IsNew : View → ℕ → Type 0
IsNew v t = (count t v.drawn ≡ 0) × (count t v.bodies ≡ 0) × (count t v.refusals ≡ 0)

-- ---- what a step tells: the seat before it, the number that it found, and the seat behind it

-- a ticket that is new to the seat, or none
abbrev pub drew : At → Sat → ℕ → Sat → Type 0
drew st m r m' =
    (m'.1 ≡ m.1) × (r < st.slots → (m'.0 ≡ with_drawn m.0 r) × IsNew m.0 r) × (st.slots ≤ r → m'.0 ≡ with_end m.0)

-- the cell goes out to the seat
abbrev pub began_fill : At → Sat → ℕ → Sat → Type 0
began_fill st m r m' = (t : ℕ) → st.word ≡ t + 1 → (m'.0 ≡ filling m.0 t) × (m'.1 ≡ (t, None) ∷ m.1)

-- it comes home with a body, or refused
abbrev pub filled_body : At → Sat → ℕ → Sat → Type 0
filled_body st m r m' = (t : ℕ) → st.word ≡ t + 1 → (m'.0 ≡ with_body m.0 t) × (m'.1 ≡ rest m.1)

abbrev pub filled_refused : At → Sat → ℕ → Sat → Type 0
filled_refused st m r m' = (t : ℕ) → st.word ≡ t + 1 → (m'.0 ≡ with_refusal m.0 t) × (m'.1 ≡ rest m.1)

-- a try to read: it won and the cell goes out with a finished body, it found a refusal, or nothing changed
abbrev pub tried : At → Sat → ℕ → Sat → Type 0
tried st m r m' = (t : ℕ) → st.word ≡ t + 1
    → (r ≡ 2 → (a : Arc Built Global) × IsFinished m.0.job t (arc_value a) × (m'.0 ≡ reading m.0 t)
    × (m'.1 ≡ (t, Some (Body a)) ∷ m.1))
    × (r ≡ 4 → (m'.0 ≡ with_refused m.0 t) × (m'.1 ≡ m.1))
    × (r ≢ 2 → r ≢ 4 → m' ≡ m)

-- the cell comes home
abbrev pub gave_back : At → Sat → ℕ → Sat → Type 0
gave_back st m r m' = (t : ℕ) → st.word ≡ t + 1 → (m'.0 ≡ with_read m.0 t) × (m'.1 ≡ rest m.1)
