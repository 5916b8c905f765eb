-- What is done to a pair of frames, whatever relates the stacks.
use Rattle.std.proofs.Common.{◌≡◌, ℕ, ◌⊎◌, inl, List, [], length, map, Option, Some, None, refl, sym, subst}
use Rattle.ir_core.specs.declared.instructions.BlockCall.{BlockCall}
use Rattle.clk_num.specs.Operations.{DataValue}
use Rattle.ir_core.specs.Module.{Block, Branches, Call, Function, Instruction, Line, Module, Plain, Return, ReturnCall, SequencePoint, TryCall}
use Rattle.ir_core.specs.Lookup.{find_block}
use Rattle.ir_semantics.specs.Values.{Env, Slots, bind}
use Rattle.ir_semantics.specs.Machine.{End, Frame, Moment, On, Over, Stuck, Wait, World}
use Rattle.ir_semantics.specs.Effect.{arg_values}
use Rattle.ir_semantics.specs.Step.{enter, enter_target, give_to, must, step}
use Rattle.ir_semantics.specs.Renaming.{Renaming, instruction_under, target_under}
use Rattle.inline_outcomes.proofs.Local.{Fits, Free, Keeps, Maps, SlotKeeps, SlotMaps, bind_maps, slots_keep, target_maps}

-- f' has f's blocks under the new names, their lines as Rest says
pub record Embeds (f f' : Function) (r : Renaming) (Rest : List Line → List Line → Type 0) : Type 0 where
  pub fits : Fits f f' r
  pub block : (b : ℕ) (k : Block) → find_block b f.blocks ≡ Some k → (k' : Block) × (find_block (r.block b) f'.blocks ≡ Some k') × (k'.params ≡ map r.value k.params) × Rest k.lines k'.lines

-- x' runs x's code
pub record Local (r : Renaming) (Rest : List Line → List Line → Type 0) (x x' : Frame) : Type 0 where
  pub embeds : Embeds x.func x'.func r Rest
  pub env : Maps r.value x.env x'.env
  pub slots : SlotMaps (length x.func.slots) r.slot x.slots x'.slots

module _ (R : Module) (Stack : Frame → List Wait → Frame → List Wait → Type 0) where
  -- R is there, or is there in one more step, before which no_values changes that an outcome has
  abbrev pub Comes : Moment → Frame → List Wait → World → Type 0
  Comes t x s w = (t ≡ On x s w) ⊎ ((y : Frame) × (s1 : List Wait) × (t ≡ On y s1 w) × (step R y s1 w ≡ On x s w))

  -- what the source comes to, the result comes to
  abbrev pub Follows : Moment → Moment → Type 0
  Follows (Over w end) t = Free end ⊎ (t ≡ Over w end)
  Follows (On x s w) t = (x' : Frame) × (s' : List Wait) × Comes t x' s' w × Stack x s x' s'

  pub must_follow : {A B : Type 0} (w : World) (o : Option A) (o' : Option B) (end : End) (go : A → Moment) (go' : B → Moment) → Free end → ((a : A) → o ≡ Some a → (b : B) × (o' ≡ Some b) × Follows (go a) (go' b)) → Follows (must w o end go) (must w o' end go')
  must_follow w None o' end go go' free h = inl free
  must_follow w (Some a) o' end go go' free h =
      let p = h a refl in
      subst (λ z. Follows (go a) (must w z end go')) (sym p.1) p.2

  -- the frame x with another place, values and slots is related again
  abbrev pub Again : Renaming → (List Line → List Line → Type 0) → Frame → List Wait → Frame → List Wait → Type 0
  Again r Rest x s x' s' =
      (ls ls' : List Line) (e e' : Env) (sl sl' : Slots) → Rest ls ls' → Maps r.value e e' → Keeps r.value x'.env e' → SlotMaps (length x.func.slots) r.slot sl sl' → SlotKeeps r.slot x'.slots sl' → Stack (record x { rest = ls; env = e; slots = sl }) s (record x' { rest = ls'; env = e'; slots = sl' }) s'

  module _ (r : Renaming) (Rest : List Line → List Line → Type 0) (x x' : Frame) (s s' : List Wait) (local : Local r Rest x x') (again : Again r Rest x s x' s') where
    -- values for names, and the frame goes on
    pub bind_follow : (w : World) (vs : List ℕ) (xs : List DataValue) (ls ls' : List Line) (sl sl' : Slots) → Rest ls ls' → SlotMaps (length x.func.slots) r.slot sl sl' → SlotKeeps r.slot x'.slots sl' → (w2 : World) → Follows (must w (bind vs xs x.env) Stuck (λ e. On (record x { rest = ls; env = e; slots = sl }) s w2)) (must w (bind (map r.value vs) xs x'.env) Stuck (λ e. On (record x' { rest = ls'; env = e; slots = sl' }) s' w2))
    bind_follow w vs xs ls ls' sl sl' q m k w2 =
        must_follow w (bind vs xs x.env) (bind (map r.value vs) xs x'.env) Stuck (λ e. On (record x { rest = ls; env = e; slots = sl }) s w2) (λ e. On (record x' { rest = ls'; env = e; slots = sl' }) s' w2) tt (λ d h.
        let b = bind_maps r.value local.embeds.fits.value vs xs x.env x'.env d local.env h in
        (b.0, b.1, (record x' { rest = ls'; env = b.0; slots = sl' }, s', inl refl, again ls ls' d b.0 sl sl' q b.2 b.3 m k)))

    pub enter_follow : (w : World) (b : ℕ) (xs : List DataValue) → Follows (enter x b xs s w) (enter x' (r.block b) xs s' w)
    enter_follow w b xs =
        must_follow w (find_block b x.func.blocks) (find_block (r.block b) x'.func.blocks) Stuck (λ k. must w (bind k.params xs x.env) Stuck (λ e. On (record x { rest = k.lines; env = e }) s w)) (λ k. must w (bind k.params xs x'.env) Stuck (λ e. On (record x' { rest = k.lines; env = e }) s' w)) tt (λ k h.
        let p = local.embeds.block b k h in
        (p.0, p.1, subst (λ vs. Follows (must w (bind k.params xs x.env) Stuck (λ e. On (record x { rest = k.lines; env = e }) s w)) (must w (bind vs xs x'.env) Stuck (λ e. On (record x' { rest = p.0.lines; env = e }) s' w))) (sym p.2) (bind_follow w k.params xs k.lines p.0.lines x.slots x'.slots p.3 local.slots (slots_keep r.slot x'.slots) w)))

    pub target_follow : (w : World) (t : BlockCall) (rets exns : List DataValue) → Follows (enter_target x t rets exns s w) (enter_target x' (target_under r t) rets exns s' w)
    target_follow w t rets exns =
        must_follow w (arg_values x.env rets exns t) (arg_values x'.env rets exns (target_under r t)) Stuck (λ xs. enter x t.block xs s w) (λ xs. enter x' (r.block t.block) xs s' w) tt (λ xs h. (xs, target_maps [] x.func x'.func r local.embeds.fits x.env x'.env local.env x.slots x'.slots local.slots rets exns t xs h, enter_follow w t.block xs))

    -- the waiting frame gets the values
    pub give_follow : Rest x.rest x'.rest → (w : World) (i : Instruction) (results : List ℕ) (xs : List DataValue) → Follows (give_to i results xs x s w) (give_to (instruction_under r i) (map r.value results) xs x' s' w)
    give_follow rest w (Call k args) results xs = bind_follow w results xs x.rest x'.rest x.slots x'.slots rest local.slots (slots_keep r.slot x'.slots) w
    give_follow rest w (TryCall k sg args normal table) results xs = target_follow w normal xs []
    give_follow rest w (Plain p0) results xs = inl tt
    give_follow rest w SequencePoint results xs = inl tt
    give_follow rest w (Branches c0) results xs = inl tt
    give_follow rest w (Return a) results xs = inl tt
    give_follow rest w (ReturnCall a b) results xs = inl tt
