-- An order of the functions of a module from callees to callers: each function stands behind those in other pieces that
-- it calls. The order in use places pieces in turn. Of the pieces not yet placed whose callees in other pieces are all
-- placed, the one with the least function comes next, its functions in module order.
use Rattle.std.specs.Prelude.{◌≡◌, ⊤, ℕ, zero, suc, List, [], ◌∷◌, ◌++◌, length, map, Option, Some, None, Bool, true}
use Rattle.std.specs.Prelude.{not, ◌&&◌, ◌||◌, if◌then◌else◌}
use Rattle.ir_core.specs.declared.names.FuncName.{FuncName}
use Rattle.ir_core.specs.Module.{Module}
use Rattle.ir_core.specs.Lookup.{same_name}
use Rattle.ir_core.specs.Lists.{In}
use Rattle.call_graph.specs.Reach.{calls_of, some_name, one_piece, apart}

abbrev pub names_of : Module → List FuncName
names_of m = map (λ f. f.name) m

-- no name stands twice, and what a function calls in another piece of the module is among the names before it
abbrev pub CalleesBefore : Module → List FuncName → List FuncName → Type 0
CalleesBefore m before [] = ⊤
CalleesBefore m before (x ∷ xs) =
    (In x before → ⊥) ×
    ((y : FuncName) → In y (calls_of m x) → apart m x y ≡ true → In y (names_of m) → In y before) ×
    CalleesBefore m (x ∷ before) xs

pub record BottomUp (m : Module) (order : List FuncName) : Type 0 where
  pub functions : (x : FuncName) → In x order → In x (names_of m)
  pub all : (x : FuncName) → In x (names_of m) → In x order
  pub callees_before : CalleesBefore m [] order

-- ---- the order in use

abbrev pub stands : FuncName → List FuncName → Bool
stands x ns = some_name (same_name x) ns

abbrev pub every_name : (FuncName → Bool) → List FuncName → Bool
every_name test [] = true
every_name test (n ∷ ns) = test n && every_name test ns

-- the names that pass the test
abbrev pub those : (FuncName → Bool) → List FuncName → List FuncName
those test [] = []
those test (n ∷ ns) = if test n then n ∷ those test ns else those test ns

-- the functions of x's piece, in module order
abbrev pub piece : Module → FuncName → List FuncName
piece m x = those (one_piece m x) (names_of m)

-- what x calls is in its piece, placed, or no function of the module
abbrev pub callees_placed : Module → List FuncName → FuncName → Bool
callees_placed m placed x =
    every_name (λ y. one_piece m x y || stands y placed || not (stands y (names_of m))) (calls_of m x)

abbrev pub ready : Module → List FuncName → FuncName → Bool
ready m placed x = every_name (callees_placed m placed) (piece m x)

-- the first of the names that isn't placed and whose piece is ready
abbrev pub next_of : Module → List FuncName → List FuncName → Option FuncName
next_of m placed [] = None
next_of m placed (x ∷ xs) = if not (stands x placed) && ready m placed x then Some x else next_of m placed xs

abbrev pub placed_in : ℕ → Module → List FuncName → List FuncName
placed_in zero m placed = placed
placed_in (suc n) m placed =
    elim (next_of m placed (names_of m)) [ None ↦ placed | Some x ↦ placed_in n m (placed ++ piece m x) ]

-- a module has no more pieces than functions
abbrev pub bottom_up : Module → List FuncName
bottom_up m = placed_in (length m) m []

-- the place of the first name that passes the test
abbrev pub first_that : (FuncName → Bool) → List FuncName → ℕ
first_that test [] = 0
first_that test (n ∷ ns) = if test n then 0 else suc (first_that test ns)

-- the place of the least function of x's piece in the module
abbrev pub piece_number : Module → FuncName → ℕ
piece_number m x = first_that (one_piece m x) (names_of m)
