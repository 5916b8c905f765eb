-- Steps of a run one after another, and that no run of an accepted module is stuck.
use Rattle.std.proofs.Common.{◌≡◌, ℕ, ℤ, zero, suc, ◌+◌, ◌-◌, ◌<◌, List, [], map, Some, None, refl, sym, ap, ◌∙◌, arith, slice_get}
use Rattle.clk_num.specs.Operations.{DataValue}
use Rattle.clk_num.specs.declared.bits.Bits.{Bits}
use Rattle.clk_num.specs.Views.{data_of_all}
use Rattle.ir_core.specs.declared.names.FuncName.{FuncName}
use Rattle.ir_core.specs.declared.signatures.Param.{Param}
use Rattle.ir_core.specs.Module.{Function, Module}
use Rattle.ir_core.specs.Lookup.{and_then, find_function, param_types}
use Rattle.ir_core.specs.WellFormed.{IsModule}
use Rattle.ir_semantics.specs.Accepted.{Accepted}
use Rattle.ir_semantics.specs.Values.{Memory, values_for}
use Rattle.ir_semantics.specs.Machine.{Event, Frame, Wait, World, End, Going, Stuck, Moment, On, Over}
use Rattle.ir_semantics.specs.Step.{must, begin, step}
use Rattle.ir_semantics.specs.Runs.{Outcome, run, first, shows, outcome}
use Rattle.ir_semantics.proofs.SafetyRuns.{accepted_never_sticks}
use Rattle.interp.specs.declared.state.Stop.{Stop}
use Rattle.interp.specs.declared.state.World.{World as CodeWorld}
use Rattle.interp.specs.declared.outcome.Outcome.{Outcome as CodeOutcome}
use Rattle.interp.specs.Outcome.{event_of, end_of, outcome_of}
use Rattle.host_script.specs.declared.script.Reply.{Reply}
use Rattle.host_script.specs.declared.script.Script.{Script}
use Rattle.host_script.specs.Script.{reply_of}
use Rattle.interp_run.specs.Answers.{first_world}
use Rattle.interp.specs.Entries.{entry_values}
use Rattle.interp.specs.State.{found_at, stop_of, world_of}
use Rattle.interp.proofs.Entering.{at_found}
use Rattle.interp.proofs.Entries.{numbers_enter}

-- ---- so many steps

pub run_over : (m : Module) (n : ℕ) (w : World) (e : End) → run m n (Over w e) ≡ shows w e
run_over m zero w e = refl
run_over m (suc n) w e = refl

run_suc : (m : Module) (j n : ℕ) (x : Frame) (s : List Wait) (w : World) → j ≡ suc n → run m j (On x s w) ≡ run m n (step m x s w)
run_suc m j n x s w e = ap (λ i. run m i (On x s w)) e

-- a step that goes on
pub run_next : (m : Module) (n k : ℕ) (x : Frame) (s : List Wait) (w : World) (o : Moment) (total : Outcome) → k < n → o ≡ step m x s w → run m (n - k) (On x s w) ≡ total → run m (n - (k + 1)) o ≡ total
run_next m n k x s w o total h e t =
    ap (run m (n - (k + 1))) e ∙ (sym (run_suc m (n - k) (n - (k + 1)) x s w (omega arith)) ∙ t)

-- a step that stops
pub run_stops : (m : Module) (n k : ℕ) (x : Frame) (s : List Wait) (w v : World) (e : End) (total : Outcome) → k < n → Over v e ≡ step m x s w → run m (n - k) (On x s w) ≡ total → shows v e ≡ total
run_stops m n k x s w v e total h q t = sym (run_over m (n - (k + 1)) v e) ∙ run_next m n k x s w (Over v e) total h q t

pub run_ends : (m : Module) (n k : ℕ) (x : Frame) (s : List Wait) (w : World) (total : Outcome) → k ≡ n → run m (n - k) (On x s w) ≡ total → shows w Going ≡ total
run_ends m n k x s w total e t = let z : n - k ≡ 0 = omega arith in sym (ap (λ i. run m i (On x s w)) z) ∙ t

-- ---- the first frame

pub first_none : (m : Module) (n : ℕ) (f : Function) (args : List DataValue) (w : World) → None ≡ begin f args [] → shows w Stuck ≡ run m n (first (Some f) args w)
first_none m n f args w e = sym (run_over m n w Stuck) ∙ ap (λ o. run m n (must w o Stuck (λ y. On y [] w))) e

pub first_some : (m : Module) (n : ℕ) (f : Function) (args : List DataValue) (w : World) (y : Frame) → Some y ≡ begin f args [] → run m n (On y [] w) ≡ run m n (first (Some f) args w)
first_some m n f args w y e = ap (λ o. run m n (must w o Stuck (λ y. On y [] w))) e

-- ---- the outcome

pub the_outcome : (m : Module) (entry : FuncName) (at : ℕ) (f : Function) (args : List DataValue) (w : World) (n : ℕ) (o : Outcome) → find_function entry m ≡ slice_get m at → slice_get m at ≡ Some f → o ≡ run m n (first (found_at m (Some at)) args w) → o ≡ outcome m entry args w n
the_outcome m entry at f args w n o e get eo =
    eo ∙ ap (λ g. run m n (first g args w)) (ap Some (at_found m at f get) ∙ sym (e ∙ get))

pub entered_values : (m : Module) (entry : FuncName) (at : ℕ) (f : Function) (ps : List Param) (numbers : List ℤ) (xs : List Bits) → find_function entry m ≡ slice_get m at → slice_get m at ≡ Some f → ps ≡ f.sig.params → Some (data_of_all xs) ≡ values_for (param_types ps) numbers → entry_values m entry numbers ≡ Some (data_of_all xs)
entered_values m entry at f ps numbers xs e get ep ev =
    ap (λ o. and_then o (λ (g : Function). values_for (param_types g.sig.params) numbers)) (e ∙ get)
    ∙ sym (ev ∙ ap (λ qs. values_for (param_types qs) numbers) ep)

pub not_stuck : (m : Module) (entry : FuncName) (numbers : List ℤ) (args : List DataValue) (w v : World) (n : ℕ) (stop : End) → IsModule m → Accepted m → entry_values m entry numbers ≡ Some args → shows v stop ≡ outcome m entry args w n → stop ≡ Stuck → ⊥
not_stuck m entry numbers args w v n stop is a e eo es =
    accepted_never_sticks m is a entry args w (numbers_enter m entry numbers args e) n (sym (ap (λ (o : Outcome). o.end) eo) ∙ es)

abbrev made : List Event → Memory → End → Outcome
made es memory end = record { events = es; memory = memory; end = end }

-- what code hands out of a run
pub told : (o : CodeOutcome) (w : CodeWorld) (stop : Stop) (total : Outcome) → o.events ≡ w.events.items → o.memory ≡ w.memory → end_of o.end ≡ stop_of stop → shows (world_of w) (stop_of stop) ≡ total → outcome_of o ≡ total
told o w stop total ee em en e =
    ap (λ es. made (map event_of es) o.memory (end_of o.end)) ee
    ∙ (ap (λ memory. made (map event_of w.events.items) memory (end_of o.end)) em
    ∙ (ap (made (map event_of w.events.items) w.memory) en ∙ e))

-- the world of a run as code begins it
pub from_code : (m k : Module) (at n : ℕ) (xs ys : List Bits) (rs : List Reply) (script : Script) (memory : Memory) (o : Outcome) → o ≡ run k n (first (found_at k (Some at)) (data_of_all xs) (record { memory = memory; replies = map reply_of rs; events = [] })) → k ≡ m → xs ≡ ys → rs ≡ script.replies → o ≡ run m n (first (found_at m (Some at)) (data_of_all ys) (first_world script memory))
from_code m k at n xs ys rs script memory o eo em ex er =
    let world : List Reply → World = λ qs. record { memory = memory; replies = map reply_of qs; events = [] } in
    eo
    ∙ (ap (λ j. run j n (first (found_at j (Some at)) (data_of_all xs) (world rs))) em
    ∙ (ap (λ zs. run m n (first (found_at m (Some at)) (data_of_all zs) (world rs))) ex
    ∙ ap (λ qs. run m n (first (found_at m (Some at)) (data_of_all ys) (world qs))) er))
