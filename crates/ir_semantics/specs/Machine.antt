-- A run of a module: its frames, what the host answers, what is recorded, and how it ends.
use Rattle.std.specs.Prelude.{ℕ, ℤ, List}
use Rattle.clk_num.specs.Operations.{DataValue}
use Rattle.clk_num.specs.declared.op.TrapCode.{TrapCode}
use Rattle.ir_core.specs.declared.names.FuncName.{FuncName}
use Rattle.ir_core.specs.Module.{Line, Function}
use Rattle.ir_semantics.specs.Values.{Env, Slots, Memory}

-- a frame: its function, the instructions that its block has left, its values and slots, and the numbers that tail
-- calls put in front of its tags
pub record Frame : Type 0 where
  pub func : Function
  pub rest : List Line
  pub env : Env
  pub slots : Slots
  pub extra : List ℕ

-- a frame that waits at a call
pub record Wait : Type 0 where
  pub line : Line
  pub frame : Frame

-- what a tag shows: a number of the user's, or the bytes of a slot
pub data Shown : Type 0 where
  User : ℕ → Shown
  Bytes : List ℕ → Shown

pub data Event : Type 0 where
  Host : (name : FuncName) → (args : List DataValue) → (shown : List Shown) → Event
  Point : (shown : List Shown) → Event
  -- the payloads are i64; the rank is the number of table entries that were passed
  Caught : (tag p0 p1 rank : ℕ) → Event

-- what a host function does
pub data HostAct : Type 0 where
  Returns : List ℤ → HostAct
  HostTraps : TrapCode → HostAct
  Throws : (tag p0 p1 : ℕ) → HostAct

-- a host's reply: first its writes, each an address and a byte, then what it does
pub record Reply : Type 0 where
  pub act : HostAct
  pub writes : List (ℕ × ℕ)

-- what is outside the stack: the memory, the replies that are left, and the events so far
pub record World : Type 0 where
  pub memory : Memory
  pub replies : List Reply
  pub events : List Event

-- how a run is over, or that it goes on; `Stuck` is the end of a run that lacks what an accepted module has
pub data End : Type 0 where
  Going : End
  Returned : List DataValue → End
  Trapped : TrapCode → End
  Threw : (tag p0 p1 : ℕ) → End
  Unwritten : End
  ScriptEnded : End
  BadReply : End
  Stuck : End

-- a moment of a run: the frame on top, those that wait below it, and the world; or the run is over
pub data Moment : Type 0 where
  On : Frame → List Wait → World → Moment
  Over : World → End → Moment
