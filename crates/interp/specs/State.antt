-- The state of a run, as the definition's moment.
use Rattle.std.specs.Prelude.{◌≡◌, ◌<◌, ℕ, zero, suc, List, [], ◌∷◌, map, reverse, length, Option, Some, None, Bool}
use Rattle.std.specs.Prelude.{true, false, if◌then◌else◌, Vec, IsTrue, slice_get}
use Rattle.std.specs.declared.alloc.Global.{Global}
use Rattle.ir_core.specs.declared.declarations.Callee.{Callee}
use Rattle.ir_core.specs.Lookup.{find_function, find_block}
use Rattle.std.specs.Option.{option_map}
use Rattle.std.proofs.Common.{get_or}
use Rattle.clk_num.specs.declared.bits.Bits.{Bits}
use Rattle.clk_num.specs.Operations.{DataValue}
use Rattle.clk_num.specs.Views.{data_of}
use Rattle.ir_core.specs.declared.names.FuncName.TheVariants as name
use Rattle.ir_core.specs.declared.signatures.Conv.TheVariants.{Fast}
use Rattle.ir_core.specs.declared.instructions.InstData.{InstData}
use Rattle.ir_core.specs.Module.{Simple, Block, Function, Module}
use Rattle.ir_core.specs.Sound.{IsSound}
use Rattle.ir_core.specs.Viewed.{line_of}
use Rattle.ir_semantics.specs.Names.{names}
use Rattle.ir_semantics.specs.Values.{Env}
use Rattle.ir_semantics.specs.Machine as run
use Rattle.ir_semantics.specs.Effect as does
use Rattle.ir_semantics.specs.Step as step
use Rattle.byte_store.specs.Cells.{cell_of, bytes_at}
use Rattle.host_script.specs.Script.{reply_of}
use Rattle.interp.specs.Lines.{lines_fit}
use Rattle.interp.specs.Outcome.{shown_of, event_of, end_of}
use Rattle.interp.specs.declared.held.Held.{Held}
use Rattle.interp.specs.declared.held.Held.TheVariants.{Nothing, Narrow, Wide}
use Rattle.interp.specs.declared.held.Register.{Register}
use Rattle.interp.specs.declared.registers.Registers.{Registers}
use Rattle.interp.specs.declared.outcome.Shown.{Shown}
use Rattle.interp.specs.declared.state.Target.{Target}
use Rattle.interp.specs.declared.state.Target.TheVariants.{Inside, Outside, Nowhere, Missing}
use Rattle.interp.specs.declared.state.Frame.{Frame}
use Rattle.interp.specs.declared.state.Wait.{Wait}
use Rattle.interp.specs.declared.state.Entry.{Entry}
use Rattle.interp.specs.declared.state.Links.{Links}
use Rattle.interp.specs.declared.state.Program.{Program}
use Rattle.interp.specs.declared.state.World.{World}
use Rattle.interp.specs.declared.state.Search.{Search}
use Rattle.interp.specs.declared.state.Search.TheVariants.{Missed, Hit}
use Rattle.interp.specs.declared.state.Stop.{Stop}
use Rattle.interp.specs.declared.state.Stop.TheVariants.{At, Stuck}

abbrev pub nobody : Function
nobody = record {
  name = name.User 0 0;
  sig = record { params = []; results = []; conv = Fast };
  slots = [];
  sigs = [];
  callees = [];
  types = [];
  blocks = [];
}

-- the function at a place
abbrev pub function_at : Module → ℕ → Function
function_at [] at = nobody
function_at (f ∷ fs) zero = f
function_at (f ∷ fs) (suc at) = function_at fs at

abbrev pub value_held : Held → DataValue → Option Bits → Option DataValue
value_held Nothing narrow wide = None
value_held Narrow narrow wide = Some narrow
value_held Wide narrow wide = option_map data_of wide

-- what stands at a number: nothing, a value below 2^64, or one among the wide ones
abbrev pub held_value : Option Register → Option Bits → Option DataValue
held_value None wide = None
held_value (Some r) wide = value_held r.held (record { width = r.width; value = r.value }) wide

-- the values of a frame
abbrev pub env_of : Registers → Env
env_of values v = held_value (slice_get values.narrow.items v) (cell_of values.wide v)

abbrev pub frame_of : Module → Frame → run.Frame
frame_of m x =
    record {
      func = function_at m x.at;
      rest = map line_of x.rest.now;
      env = env_of x.values;
      slots = bytes_at x.slots;
      extra = x.extra.items;
    }

abbrev pub wait_of : Module → Wait → run.Wait
wait_of m y = record { line = line_of y.line.now; frame = frame_of m y.frame }

-- the waiting frames, the one on top first
abbrev pub waits_of : Module → List Wait → List run.Wait
waits_of m ys = map (wait_of m) (reverse ys)

abbrev pub world_of : World → run.World
world_of w = record { memory = w.memory; replies = map reply_of w.replies.now; events = map event_of w.events.items }

abbrev pub stop_of : Stop → run.End
stop_of (At end) = end_of end
stop_of Stuck = run.Stuck

-- a moment: over, or with this frame on top
abbrev pub moment : Module → Frame → List Wait → run.World → Option Stop → run.Moment
moment m top below w None = run.On (frame_of m top) (waits_of m below) w
moment m top below w (Some stop) = run.Over w (stop_of stop)

abbrev pub some_if : {A : Type 0} → Bool → A → Option A
some_if b x = if b then Some x else None

-- the frame on top, or a run that is stuck
abbrev pub on_if : Bool → run.Frame → List run.Wait → run.World → run.Moment
on_if true x s w = run.On x s w
on_if false x s w = run.Over w run.Stuck

-- the block of a number as the code enters it
abbrev pub entry_of : ℕ → Option Entry → Option Block
entry_of n None = None
entry_of n (Some entry) = Some (record { number = n; params = entry.params.now; lines = map line_of entry.lines.now })

abbrev pub found_at : Module → Option ℕ → Option Function
found_at m None = None
found_at m (Some at) = Some (function_at m at)

-- what was found of a module's functions
pub record Linked (p : Program) : Type 0 where
  pub lengths : length p.links.items ≡ length p.module.now
  pub sound : (i : ℕ) → i < length p.module.now → IsSound (function_at p.module.now i)
  pub callees : (i : ℕ) (l : Links) → i < length p.module.now
      → length (get_or p.links.items i l).callees.items ≡ length (function_at p.module.now i).callees
  pub found : (i k : ℕ) (l : Links) (d : Option ℕ) (c : Callee) → i < length p.module.now
      → k < length (function_at p.module.now i).callees
      → find_function (get_or (function_at p.module.now i).callees k c).name p.module.now
      ≡ found_at p.module.now (get_or (get_or p.links.items i l).callees.items k d)
  pub fit : (i b : ℕ) (k : Block) → i < length p.module.now → find_block b (function_at p.module.now i).blocks ≡ Some k
      → IsTrue (lines_fit k.lines)
  pub blocks : (i : ℕ) (l : Links) → i < length p.module.now
      → (get_or p.links.items i l).blocks ≡ length (function_at p.module.now i).blocks

-- what is done at a line that the frame on top is past, where it has this effect
abbrev pub done : Module → Frame → List Wait → run.World → InstData → does.Effect → run.Moment
done m top below w l effect = step.act m (line_of l) (frame_of m top) (waits_of m below) w effect

-- the effect of a simple instruction in a frame
abbrev pub simply : Module → Frame → run.World → Simple → does.Effect
simply m top w p = does.simple (names m) (function_at m top.at) (env_of top.values) (bytes_at top.slots) w.memory p

abbrev pub frame_if : Module → Option Frame → Option run.Frame
frame_if m None = None
frame_if m (Some x) = Some (frame_of m x)

abbrev pub search_of : Search → step.Search
search_of (Missed n) = step.Missed n
search_of (Hit n target) = step.Hit n target.now

-- how many entries were passed
abbrev pub passed : Search → ℕ
passed (Missed n) = n
passed (Hit n target) = n

abbrev pub shows_if : Option (Vec Shown Global) → Option (List run.Shown)
shows_if None = None
shows_if (Some out) = Some (map shown_of out.items)

abbrev pub target_of : Module → Target → step.Found
target_of m (Inside at) = step.Inside (function_at m at)
target_of m (Outside callee sig) = step.Outside callee.now sig.now
target_of m Nowhere = step.Nowhere
target_of m Missing = step.Missing
