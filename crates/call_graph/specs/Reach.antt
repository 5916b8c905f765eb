-- Which functions of a module reach which. A function calls another one where it names it in a direct call of any kind.
-- It reaches another one where a list of functions leads there, each of which calls the next. Two functions are in one
-- piece where they are equal or each reaches the other. A piece is what is elsewhere called a strongly connected
-- component.
use Rattle.std.specs.Prelude.{ℕ, zero, suc, List, [], ◌∷◌, ◌++◌, length, Option, Some, None, Bool, false, not, ◌&&◌}
use Rattle.std.specs.Prelude.{◌||◌, slice_get}
use Rattle.ir_core.specs.declared.names.FuncName.{FuncName}
use Rattle.ir_core.specs.Module.{Line, Block, Function, Module}
use Rattle.ir_core.specs.Lookup.{and_then, same_name, find_function}
use Rattle.ir_core.specs.Uses.{callee_of}

-- the name that a line calls directly
abbrev pub called_name : Function → Line → Option FuncName
called_name f l = and_then (callee_of l.inst) (λ k. and_then (slice_get f.callees k) (λ c. Some c.name))

abbrev pub or_nothing : Option FuncName → List FuncName
or_nothing None = []
or_nothing (Some n) = n ∷ []

abbrev pub names_in : Function → List Line → List FuncName
names_in f [] = []
names_in f (l ∷ ls) = or_nothing (called_name f l) ++ names_in f ls

-- the names that a function calls, in order of the text
abbrev pub called_names : Function → List Block → List FuncName
called_names f [] = []
called_names f (b ∷ bs) = names_in f b.lines ++ called_names f bs

abbrev pub calls_of : Module → FuncName → List FuncName
calls_of m x = elim (find_function x m) [ None ↦ [] | Some f ↦ called_names f f.blocks ]

-- some name of the list passes the test
abbrev pub some_name : (FuncName → Bool) → List FuncName → Bool
some_name test [] = false
some_name test (n ∷ ns) = test n || some_name test ns

-- by a list of at most so many functions after x
abbrev pub reaches_in : ℕ → Module → FuncName → FuncName → Bool
reaches_in zero m x y = false
reaches_in (suc n) m x y = some_name (λ z. same_name z y || reaches_in n m z y) (calls_of m x)

-- a list without repetitions has no more functions than the module
abbrev pub reaches : Module → FuncName → FuncName → Bool
reaches m x y = reaches_in (length m) m x y

abbrev pub one_piece : Module → FuncName → FuncName → Bool
one_piece m x y = same_name x y || (reaches m x y && reaches m y x)

abbrev pub apart : Module → FuncName → FuncName → Bool
apart m x y = not (one_piece m x y)
