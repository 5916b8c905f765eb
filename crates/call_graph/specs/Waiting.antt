-- Pieces that wait for others, while pieces are placed in turn.
use Rattle.std.specs.Prelude.{◌≡◌, ◌⊎◌, ℕ, ◌<◌, ◌≤◌, List, [], ◌∷◌, ◌++◌, length, get_or, set, drop, Bool, true, false}
use Rattle.std.specs.Prelude.{nat_eq, if◌then◌else◌}
use Rattle.ir_core.specs.Lists.{In}
use Rattle.call_graph.specs.Calls.{has}
use Rattle.call_graph.specs.Numbers.{called}
use Rattle.call_graph.specs.Search.{total}
use Rattle.call_graph.specs.Turns.{IsPiece, Calls, members_from, members, Turns}

-- for each piece its functions, those it calls and that may not be placed yet, and those that wait for it; pieces that
-- are ready, and those that may have to wait
pub record Table : Type 0 where
  pub members : List (List ℕ)
  pub callees : List (List ℕ)
  pub waiting : List (List ℕ)
  pub placed : List Bool
  pub ready : List ℕ
  pub woken : List ℕ
  pub list : List ℕ

abbrev pub top_placed : List Bool → List ℕ → Bool
top_placed placed [] = false
top_placed placed (q ∷ qs) = get_or placed q false

-- from the first that is not placed on
abbrev pub first_left : List Bool → List ℕ → List ℕ
first_left placed [] = []
first_left placed (q ∷ qs) = if get_or placed q false then first_left placed qs else q ∷ qs

-- other pieces that some calls lead to, put in front
abbrev pub others : List ℕ → ℕ → List ℕ → List ℕ → List ℕ
others piece p [] cs = cs
others piece p (t ∷ ts) cs = others piece p ts (if nat_eq (get_or piece t 0) p then cs else get_or piece t 0 ∷ cs)

pub record Added (p : ℕ) (was now : List ℕ) : Type 0 where
  pub there : In p now
  pub kept : (k : ℕ) → In k was → In k now
  pub from : (k : ℕ) → In k now → (k ≡ p) ⊎ In k was

-- a piece is ready, or waits for the first of the others that is not placed
abbrev pub Decided : ℕ → List ℕ → Table → Table → Type 0
Decided p [] t u = (u.waiting ≡ t.waiting) × Added p t.ready u.ready
Decided p (q ∷ qs) t u = (u.waiting ≡ set t.waiting q (p ∷ called t.waiting q)) × (u.ready ≡ t.ready)

pub record Settles (p : ℕ) (t u : Table) : Type 0 where
  pub members : u.members ≡ t.members
  pub callees : u.callees ≡ set t.callees p (first_left t.placed (called t.callees p))
  pub placed : u.placed ≡ t.placed
  pub woken : u.woken ≡ t.woken
  pub list : u.list ≡ t.list
  pub decided : Decided p (first_left t.placed (called t.callees p)) t u

-- the functions of a ready piece are placed, and what waits for it is woken
abbrev pub after_place : Table → ℕ → List ℕ → Table
after_place t p ready =
    record {
      members = set t.members p [];
      callees = t.callees;
      waiting = set t.waiting p [];
      placed = set t.placed p true;
      ready = ready;
      woken = called t.waiting p;
      list = t.list ++ called t.members p;
    }

pub record Keeps (calls : List (List ℕ)) (piece : List ℕ) (t : Table) : Type 0 where
  pub members_long : length t.members ≡ length piece
  pub callees_long : length t.callees ≡ length piece
  pub waiting_long : length t.waiting ≡ length piece
  pub placed_long : length t.placed ≡ length piece
  pub marked : (q : ℕ) → IsPiece piece q → get_or t.placed q false ≡ true → In q t.list
  pub marks : (q : ℕ) → IsPiece piece q → In q t.list → get_or t.placed q false ≡ true
  pub covers : (r q : ℕ) → Calls calls piece r q → In q t.list ⊎ In q (called t.callees r)
  pub leads : (r q : ℕ) → In q (called t.callees r) → Calls calls piece r q
  pub found : (r : ℕ) → IsPiece piece r → (In r t.list → ⊥) → In r t.ready ⊎ (In r t.woken ⊎
      ((q : ℕ) × In r (called t.waiting q) × In q (called t.callees r) × (In q t.list → ⊥)))
  pub fit : (r : ℕ) → In r t.ready → IsPiece piece r × (In r t.list → ⊥) ×
      ((q : ℕ) → Calls calls piece r q → In q t.list)
  pub waits : (q w : ℕ) → In w (called t.waiting q) → (In q t.list → ⊥) → IsPiece piece w × (In w t.list → ⊥) ×
      In q (called t.callees w)
  pub woke : (w : ℕ) → In w t.woken → IsPiece piece w × (In w t.list → ⊥)
  pub kept : (r : ℕ) → IsPiece piece r → (In r t.list → ⊥) → called t.members r ≡ members piece r
  pub turns : Turns calls piece t.list

-- pieces that are not placed
abbrev pub unplaced : List ℕ → List ℕ → ℕ
unplaced piece list = total (λ p. if has p list then 0 else 1) (length piece)

-- before any piece is placed: functions from k on are in the table
pub record Filled (calls : List (List ℕ)) (piece : List ℕ) (k : ℕ) (its_members callees : List (List ℕ))
    (woken : List ℕ) : Type 0 where
  pub members_long : length its_members ≡ length piece
  pub callees_long : length callees ≡ length piece
  pub members : (p : ℕ) → p < length piece → called its_members p ≡ members_from p k (drop k piece)
  pub sound : (r q : ℕ) → In q (called callees r) → Calls calls piece r q
  pub complete : (r q : ℕ) (c : Calls calls piece r q) → k ≤ c.caller → In q (called callees r)
  pub woken_all : (r : ℕ) → IsPiece piece r → k ≤ r → In r woken
  pub woken_from : (r : ℕ) → In r woken → IsPiece piece r
