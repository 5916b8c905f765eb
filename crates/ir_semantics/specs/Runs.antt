-- The outcome of a run after a number of steps: the events, the memory, and how the run is over or that it goes on. A
-- run that is over stays as it is. A run begins with an entry call: a function of the module, and values of its
-- parameters' types.
use Rattle.std.specs.Prelude.{◌≡◌, ◌<◌, ◌^◌, ⊤, ℕ, zero, suc, List, [], ◌∷◌, Option, Some, None}
use Rattle.clk_num.specs.Width.{bits_of}
use Rattle.clk_num.specs.Operations.{DataValue}
use Rattle.ir_core.specs.declared.names.FuncName.{FuncName}
use Rattle.ir_core.specs.declared.signatures.Ty.{Ty}
use Rattle.ir_core.specs.Module.{Function, Module}
use Rattle.ir_core.specs.Lookup.{find_function, param_types, width_of}
use Rattle.ir_semantics.specs.Values.{Memory}
use Rattle.ir_semantics.specs.Machine.{Event, World, End, Going, Stuck, Moment, On, Over}
use Rattle.ir_semantics.specs.Step.{must, begin, step}

pub record Outcome : Type 0 where
  pub events : List Event
  pub memory : Memory
  pub end : End

abbrev pub shows : World → End → Outcome
shows w end = record { events = w.events; memory = w.memory; end = end }

abbrev pub run : Module → ℕ → Moment → Outcome
run m n (Over w end) = shows w end
run m zero (On x s w) = shows w Going
run m (suc n) (On x s w) = run m n (step m x s w)

abbrev pub first : Option Function → List DataValue → World → Moment
first None args w = Over w Stuck
first (Some f) args w = must w (begin f args []) Stuck (λ y. On y [] w)

-- the outcome of a call of the entry, in a world, after n steps
abbrev pub outcome : Module → FuncName → List DataValue → World → ℕ → Outcome
outcome m entry args w n = run m n (first (find_function entry m) args w)

-- a value of a type
abbrev pub HasType : Ty → DataValue → Type 0
HasType t x = (x.width ≡ width_of t) × (x.value < 2 ^ bits_of (width_of t))

-- as many values as types, each of its type
abbrev pub HaveTypes : List Ty → List DataValue → Type 0
HaveTypes [] [] = ⊤
HaveTypes (t ∷ ts) (x ∷ xs) = HasType t x × HaveTypes ts xs
HaveTypes [] (x ∷ xs) = ⊥
HaveTypes (t ∷ ts) [] = ⊥

abbrev pub IsEntry : Module → FuncName → List DataValue → Type 0
IsEntry m entry args = (f : Function) × (find_function entry m ≡ Some f) × HaveTypes (param_types f.sig.params) args
