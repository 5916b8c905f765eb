-- The step of a run: one instruction, with all that follows from it. A call of a module function puts a frame on top,
-- or takes its own frame's place. A host call is recorded, and its reply, the search for a handler and the entry into a
-- block belong to the same step.
use Rattle.std.specs.Prelude.{ℕ, suc, List, [], ◌∷◌, ◌++◌, length, map, Option, Some, None, Bool, true, false, ◌&&◌}
use Rattle.std.specs.Prelude.{nat_lt, if◌then◌else◌, slice_get, slice_set}
use Rattle.clk_num.specs.Operations.{DataValue}
use Rattle.clk_num.specs.declared.op.TrapCode.TheVariants.{HeapOob}
use Rattle.exn_tables.specs.declared.table.Entry.{Entry}
use Rattle.exn_tables.specs.Table.{takes}
use Rattle.debug_tags.specs.declared.tags.Tag.{Tag}
use Rattle.debug_tags.specs.declared.tags.Tag.TheVariants as tag
use Rattle.ir_core.specs.declared.names.FuncName.{FuncName}
use Rattle.ir_core.specs.declared.signatures.Sig.{Sig}
use Rattle.ir_core.specs.declared.instructions.BlockCall.{BlockCall}
use Rattle.ir_core.specs.Module.{Instruction, Plain, Branches, SequencePoint, Return, Call, ReturnCall, TryCall, Line}
use Rattle.ir_core.specs.Module.{Block, Function, Module}
use Rattle.ir_core.specs.Lookup.{and_then, find_function, find_block, param_types}
use Rattle.ir_core.specs.Signatures.{same_sig}
use Rattle.ir_semantics.specs.Names.{names, name_at}
use Rattle.ir_semantics.specs.Values.{Memory, cons_some, join, no_values, bind, i64, values_for, unwritten, bytes_from}
use Rattle.ir_semantics.specs.Machine.{Frame, Wait, Shown, User, Bytes, Event, Host, Point, Caught, HostAct, Returns}
use Rattle.ir_semantics.specs.Machine.{HostTraps, Throws, Reply, World, End, Returned, Trapped, Threw, Unwritten}
use Rattle.ir_semantics.specs.Machine.{ScriptEnded, BadReply, Stuck, Moment, On, Over}
use Rattle.ir_semantics.specs.Effect.{Called, ByName, ByAddress, Effect, Go, Enter, Give, ShowTags, Do, Stop}
use Rattle.ir_semantics.specs.Effect.{arg_values, effect}

abbrev pub must : {A : Type 0} → World → Option A → End → (A → Moment) → Moment
must w None end go = Over w end
must w (Some a) end go = go a

abbrev pub with_event : World → Event → World
with_event w e = record w { events = w.events ++ (e ∷ []) }

-- ---- entry into a block

abbrev pub enter : Frame → ℕ → List DataValue → List Wait → World → Moment
enter x b values s w =
    must w (find_block b x.func.blocks) Stuck
    (λ block. must w (bind block.params values x.env) Stuck (λ e. On (record x { rest = block.lines; env = e }) s w))

abbrev pub enter_target : Frame → BlockCall → List DataValue → List DataValue → List Wait → World → Moment
enter_target x t results payloads s w =
    must w (arg_values x.env results payloads t) Stuck (λ values. enter x t.block values s w)

-- ---- what is shown: the tags of the frames that wait, from the lowest on, then the instruction's own

abbrev pub shown_bytes : Option (List ℕ) → Option (List Shown)
shown_bytes o = and_then o (λ bs. Some (Bytes bs ∷ []))

-- a slot is shown as its bytes at this moment
abbrev pub shown_tag : Frame → Tag → Option (List Shown)
shown_tag x (tag.User n) = Some (User n ∷ [])
shown_tag x (tag.Slot k) = and_then (slice_get x.func.slots k) (λ d. shown_bytes (bytes_from (x.slots k) 0 d.size))

abbrev pub shown_tags : Frame → List Tag → Option (List Shown)
shown_tags x [] = Some []
shown_tags x (t ∷ ts) = join (shown_tag x t) (shown_tags x ts)

abbrev pub shown : List Wait → Option (List Shown)
shown [] = Some []
shown (x ∷ s) = join (shown s) (join (Some (map User x.frame.extra)) (shown_tags x.frame x.line.tags))

-- ---- values come back to the frame that waits

abbrev pub give_to : Instruction → List ℕ → List DataValue → Frame → List Wait → World → Moment
give_to (Call t args) results values x s w =
    must w (bind results values x.env) Stuck (λ e. On (record x { env = e }) s w)
give_to (TryCall t sig args normal table) results values x s w = enter_target x normal values [] s w
give_to (Plain p) results values x s w = Over w Stuck
give_to (Branches b) results values x s w = Over w Stuck
give_to SequencePoint results values x s w = Over w Stuck
give_to (Return vs) results values x s w = Over w Stuck
give_to (ReturnCall t args) results values x s w = Over w Stuck

abbrev pub resume : List DataValue → List Wait → World → Moment
resume values [] w = Over w (Returned values)
resume values (x ∷ s) w = give_to x.line.inst x.line.results values x.frame s w

-- ---- a throw goes outwards through the tables of the calls that wait

abbrev pub table_of : Instruction → List (Entry BlockCall)
table_of (TryCall t sig args normal table) = table
table_of _ = []

pub data Search : Type 0 where
  Missed : (passed : ℕ) → Search
  Hit : (rank : ℕ) → BlockCall → Search

-- the first entry that takes the tag, where n entries were passed before
abbrev pub search_in : List (Entry BlockCall) → ℕ → ℕ → Search
search_in [] t n = Missed n
search_in (e ∷ es) t n = if takes t e then Hit n e.target else search_in es t (suc n)

abbrev pub throw : ℕ → ℕ → ℕ → List Wait → ℕ → World → Moment
throw t p q [] n w = Over w (Threw t p q)
throw t p q (x ∷ s) n w =
    elim (search_in (table_of x.line.inst) t n) [
      | Missed k ↦ throw t p q s k w
      | Hit k target ↦ enter_target x.frame target [] (i64 p ∷ i64 q ∷ []) s (with_event w (Caught t p q k))
    ]

-- ---- a host function replies

abbrev pub writes_fit : List (ℕ × ℕ) → ℕ → Bool
writes_fit [] n = true
writes_fit (a ∷ as') n = nat_lt a.0 n && writes_fit as' n

unfoldable pub written : List (ℕ × ℕ) → Memory → Memory
written [] m = m
written (a ∷ as') m = written as' (slice_set m a.0 a.1)

abbrev pub answer : Sig → HostAct → List Wait → World → World → Moment
answer sig (Returns zs) s w w' =
    must w (values_for (param_types sig.results) zs) BadReply (λ values. resume values s w')
answer sig (HostTraps code) s w w' = Over w' (Trapped code)
answer sig (Throws t p q) s w w' = throw t p q s 0 w'

-- a reply whose values are not those of the results' types, or that writes outside the memory, changes nothing
abbrev pub reply : Sig → List Wait → World → List Reply → Moment
reply sig s w [] = Over w ScriptEnded
reply sig s w (r ∷ rs) =
    if writes_fit r.writes (length w.memory)
    then answer sig r.act s w (record { memory = written r.writes w.memory; replies = rs; events = w.events })
    else Over w BadReply

-- ---- calls

-- what a call finds: a function of the module, a host function with the signature by which it is called, or no function
-- at the address
pub data Found : Type 0 where
  Inside : Function → Found
  Outside : FuncName → Sig → Found
  Nowhere : Found
  Missing : Found

abbrev pub by_name : Option Function → FuncName → Sig → Found
by_name None n sig = Outside n sig
by_name (Some h) n sig = Inside h

-- an indirect call finds a module function of its own signature only
abbrev pub by_address : Option Function → FuncName → Sig → Found
by_address None n sig = Outside n sig
by_address (Some h) n sig = if same_sig h.sig sig then Inside h else Nowhere

abbrev pub or_missing : {A : Type 0} → Option A → (A → Found) → Found
or_missing None go = Missing
or_missing (Some a) go = go a

abbrev pub at_name : Module → Option FuncName → Sig → Found
at_name m None sig = Nowhere
at_name m (Some n) sig = by_address (find_function n m) n sig

abbrev pub found : Module → Function → Called → Found
found m f (ByName k) =
    or_missing (slice_get f.callees k)
    (λ c. or_missing (slice_get f.sigs c.sig) (λ sig. by_name (find_function c.name m) c.name sig))
found m f (ByAddress s a) = or_missing (slice_get f.sigs s) (λ sig. at_name m (name_at (names m) a) sig)

-- a function at its first block
abbrev pub frame_at : Function → List DataValue → List ℕ → List Block → Option Frame
frame_at f args extra [] = None
frame_at f args extra (b ∷ bs) =
    and_then (bind b.params args no_values)
    (λ e. Some (record { func = f; rest = b.lines; env = e; slots = unwritten; extra = extra }))

abbrev pub begin : Function → List DataValue → List ℕ → Option Frame
begin f args extra = frame_at f args extra f.blocks

-- shows: what is shown at the call; s: the frames that wait for its values
abbrev pub invoke : Found → List DataValue → List ℕ → Option (List Shown) → List Wait → World → Moment
invoke (Inside h) args extra shows s w = must w (begin h args extra) Stuck (λ y. On y s w)
invoke (Outside n sig) args extra shows s w =
    must w shows Unwritten (λ sh. reply sig s (with_event w (Host n args sh)) w.replies)
invoke Nowhere args extra shows s w = Over w (Trapped HeapOob)
invoke Missing args extra shows s w = Over w Stuck

-- the tags of a tail call, which are numbers
abbrev pub numbers : List Tag → Option (List ℕ)
numbers [] = Some []
numbers (tag.User n ∷ ts) = cons_some (Some n) (numbers ts)
numbers (tag.Slot k ∷ ts) = None

-- ---- the step: the frame is past the line; `below` are the frames that wait

-- the frame waits too, at its line
abbrev pub waiting : Line → Frame → List Wait → List Wait
waiting line frame below = record { line = line; frame = frame } ∷ below

abbrev pub act : Module → Line → Frame → List Wait → World → Effect → Moment
act m line frame below world (Go values slots memory) =
    must world (bind line.results values frame.env) Stuck
    (λ env. On (record frame { env = env; slots = slots }) below (record world { memory = memory }))
act m line frame below world (Enter block values) = enter frame block values below world
act m line frame below world (Give values) = resume values below world
act m line frame below world ShowTags =
    must world (shown (waiting line frame below)) Unwritten (λ tags. On frame below (with_event world (Point tags)))
act m line frame below world (Do callee args false) =
    invoke (found m frame.func callee) args [] (shown (waiting line frame below)) (waiting line frame below) world
act m line frame below world (Do callee args true) =
    must world (numbers line.tags) Stuck
    (λ own. invoke (found m frame.func callee) args (frame.extra ++ own) (shown (waiting line frame below)) below world)
act m line frame below world (Stop end) = Over world end

abbrev pub step_at : Module → Frame → List Line → List Wait → World → Moment
step_at m frame [] below world = Over world Stuck
step_at m frame (line ∷ rest) below world =
    act m line (record frame { rest = rest }) below world
    (effect (names m) frame.func frame.env frame.slots world.memory line.inst)

abbrev pub step : Module → Frame → List Wait → World → Moment
step m frame below world = step_at m frame frame.rest below world
