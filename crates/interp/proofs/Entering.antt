-- Functions and blocks by their numbers.
use Rattle.std.proofs.Common.{◌≡◌, ℕ, zero, suc, ◌<◌, ◌≤◌, List, [], ◌∷◌, length, map, Option, Some, None, get_or, slice_get, refl, arith, ap, ◌∙◌, sym, if◌then◌else◌, nat_eq, Bool, true, false, inl, inr, subst}
use Rattle.std.proofs.lemmas.Bool.{eq-eqb, ne_eqb, eqb-true}
use Rattle.std.proofs.lemmas.List.{length-map}
use Rattle.clk_num.specs.Operations.{DataValue}
use Rattle.ir_core.specs.declared.instructions.InstData.{InstData}
use Rattle.ir_core.specs.declared.instructions.BlockCall.{BlockCall}
use Rattle.ir_core.specs.Module.{Line, Block, Function, Module}
use Rattle.ir_core.specs.Lookup.{and_then, find_block, block_numbers}
use Rattle.ir_core.specs.Lists.{In, Below}
use Rattle.ir_core.specs.Sound.{IsSound}
use Rattle.ir_core.specs.Edits.{params_of, lines_of, first_number}
use Rattle.ir_core.specs.Viewed.{line_of}
use Rattle.ir_core.proofs.Counting.{all_in}
use Rattle.ir_semantics.specs.Values.{Env, Slots, bind, no_values, unwritten}
use Rattle.ir_semantics.specs.Machine.{Frame, Wait, World, Moment, On, Stuck}
use Rattle.ir_semantics.specs.Step.{must, enter, enter_target, begin, frame_at}
use Rattle.ir_semantics.specs.Effect.{target_at, go_to, arg_values, need, Enter}
use Rattle.interp.specs.State.{function_at, nobody, some_if, on_if, frame_of, waits_of, env_of, done}
use Rattle.interp.specs.declared.registers.Registers.{Registers}
use Rattle.interp.specs.declared.state.Frame.{Frame as CodeFrame}
use Rattle.interp.specs.declared.state.Wait.{Wait as CodeWait}

pub at_past : (m : Module) (at : ℕ) → length m ≤ at → function_at m at ≡ nobody
at_past [] at h = refl
at_past (f ∷ fs) zero h = absurd (omega arith)
at_past (f ∷ fs) (suc at) h = at_past fs at (omega arith)

pub at_found : (m : Module) (at : ℕ) (f : Function) → slice_get m at ≡ Some f → function_at m at ≡ f
at_found [] at f e = cc e
at_found (g ∷ fs) zero f e = cc e
at_found (g ∷ fs) (suc at) f e = at_found fs at f e

pub none_past : (m : Module) (at b : ℕ) → length m ≤ at → find_block b (function_at m at).blocks ≡ None
none_past m at b h = ap (λ (f : Function). find_block b f.blocks) (at_past m at h)

no_block : (n b : ℕ) (bs : List Block) → Below n (block_numbers bs) → n ≤ b → find_block b bs ≡ None
no_block n b [] r h = refl
no_block n b (k ∷ bs) r h = ap (λ t. if t then Some k else find_block b bs) (ne_eqb k.number b (omega (arith, r.0))) ∙ no_block n b bs r.1 h

pub none_above : (f : Function) (n b : ℕ) → IsSound f → n ≡ length f.blocks → n ≤ b → find_block b f.blocks ≡ None
none_above f n b s e h = no_block (length f.blocks) b f.blocks s.block_range (omega arith)

pub block_there : (f : Function) (n b : ℕ) → IsSound f → n ≡ length f.blocks → b < n → In b (block_numbers f.blocks)
block_there f n b s e h = all_in (length f.blocks) (block_numbers f.blocks) s.blocks_differ s.block_range (length-map f.blocks (λ (k : Block). k.number)) b (omega arith)

hit : (b : ℕ) (k : Block) (bs : List Block) → b ≡ k.number → find_block b (k ∷ bs) ≡ Some (record { number = b; params = params_of b (k ∷ bs); lines = lines_of b (k ∷ bs) })
hit b k bs e =
    let t : nat_eq k.number b ≡ true = eq-eqb k.number b (sym e) in
    rw t (ap (λ n. Some (record { number = n; params = k.params; lines = k.lines })) (sym e))

next : (b : ℕ) (k : Block) (bs : List Block) (t : Bool) → nat_eq k.number b ≡ t → find_block b bs ≡ Some (record { number = b; params = params_of b bs; lines = lines_of b bs }) → (if t then Some k else find_block b bs) ≡ Some (record { number = b; params = if t then k.params else params_of b bs; lines = if t then k.lines else lines_of b bs })
next b k bs true q h = ap (λ n. Some (record { number = n; params = k.params; lines = k.lines })) (eqb-true k.number b q)
next b k bs false q h = h

found : (b : ℕ) (bs : List Block) → In b (block_numbers bs) → find_block b bs ≡ Some (record { number = b; params = params_of b bs; lines = lines_of b bs })
found b [] h = absurd h
found b (k ∷ bs) h = elim h [ inl e ↦ hit b k bs e | inr i ↦ next b k bs (nat_eq k.number b) refl (found b bs i) ]

pub sound_there : (m : Module) (at : ℕ) (f : Function) (n b : ℕ) → slice_get m at ≡ Some f → IsSound (function_at m at) → n ≡ length (function_at m at).blocks → b < n → In b (block_numbers f.blocks)
sound_there m at f n b e s en h = subst (λ (g : Function). In b (block_numbers g.blocks)) (at_found m at f e) (block_there (function_at m at) n b s en h)

pub entered : (m : Module) (at b : ℕ) (f : Function) (ps : List ℕ) (ls : List InstData) → slice_get m at ≡ Some f → In b (block_numbers f.blocks) → ps ≡ params_of b f.blocks → map line_of ls ≡ lines_of b f.blocks → find_block b (function_at m at).blocks ≡ Some (record { number = b; params = ps; lines = map line_of ls })
entered m at b f ps ls e i ep el =
    ap (λ (g : Function). find_block b g.blocks) (at_found m at f e)
    ∙ (found b f.blocks i
    ∙ (ap (λ t. Some (record { number = b; params = t; lines = lines_of b f.blocks })) (sym ep)
    ∙ ap (λ t. Some (record { number = b; params = ps; lines = t })) (sym el)))

bound : (x : Frame) (ls : List Line) (v : Bool) (e : Env) (o : Option Env) → some_if v e ≡ o → (s : List Wait) (w : World) → on_if v (record x { rest = ls; env = e }) s w ≡ must w o Stuck (λ e'. On (record x { rest = ls; env = e' }) s w)
bound x ls true e o h s w = ap (λ t. must w t Stuck (λ e'. On (record x { rest = ls; env = e' }) s w)) h
bound x ls false e o h s w = ap (λ t. must w t Stuck (λ e'. On (record x { rest = ls; env = e' }) s w)) h

pub on_is : (b v : Bool) (x : Frame) (s : List Wait) (w : World) (m : Moment) → b ≡ v → on_if b x s w ≡ m → on_if v x s w ≡ m
on_is b v x s w m e h = ap (λ c. on_if c x s w) (sym e) ∙ h

-- the entry of an index
pub target_in : (ts : List BlockCall) (d dd : BlockCall) (i : ℕ) → i < length ts → get_or ts i dd ≡ target_at ts d i
target_in [] d dd i h = absurd (omega arith)
target_in (t ∷ ts) d dd zero h = refl
target_in (t ∷ ts) d dd (suc i) h = target_in ts d dd i (omega arith)

pub target_past : (ts : List BlockCall) (d : BlockCall) (i : ℕ) → length ts ≤ i → d ≡ target_at ts d i
target_past [] d i h = refl
target_past (t ∷ ts) d zero h = absurd (omega arith)
target_past (t ∷ ts) d (suc i) h = target_past ts d i (omega arith)

-- a jump goes to its target
went_to : (m : Module) (x : CodeFrame) (below : List CodeWait) (w : World) (l : InstData) (t : BlockCall) (o : Option (List DataValue)) → o ≡ arg_values (env_of x.values) [] [] t → must w o Stuck (λ vs. enter (frame_of m x) t.block vs (waits_of m below) w) ≡ done m x below w l (need o Stuck (λ xs. Enter t.block xs))
went_to m x below w l t None e = refl
went_to m x below w l t (Some vs) e = refl

pub went : (m : Module) (ok v : Bool) (x y : CodeFrame) (below : List CodeWait) (w : World) (l : InstData) (t : BlockCall) → ok ≡ v → on_if ok (frame_of m y) (waits_of m below) w ≡ enter_target (frame_of m x) t [] [] (waits_of m below) w → on_if v (frame_of m y) (waits_of m below) w ≡ done m x below w l (go_to (env_of x.values) t)
went m ok v x y below w l t e h =
    on_is ok v (frame_of m y) (waits_of m below) w (enter_target (frame_of m x) t [] [] (waits_of m below) w) e h
    ∙ went_to m x below w l t (arg_values (env_of x.values) [] [] t) refl

-- ---- the first block

pub first_in : (b : ℕ) (bs : List Block) → Some b ≡ first_number bs → In b (block_numbers bs)
first_in b [] h = cc h
first_in b (k ∷ bs) h = inl (cc h)

pub first_there : (m : Module) (at b : ℕ) (f : Function) → slice_get m at ≡ Some f → Some b ≡ first_number f.blocks → In b (block_numbers f.blocks)
first_there m at b f e h = first_in b f.blocks h

started : Function → List Line → List ℕ → Slots → Option Env → Option Frame
started f ls extra sl None = None
started f ls extra sl (Some e) = Some (record { func = f; rest = ls; env = e; slots = sl; extra = extra })

started_if : (f : Function) (ls : List Line) (extra : List ℕ) (sl : Slots) (v : Bool) (e : Env) → some_if v (record { func = f; rest = ls; env = e; slots = sl; extra = extra }) ≡ started f ls extra sl (some_if v e)
unfolding started
started_if f ls extra sl true e = refl
started_if f ls extra sl false e = refl

started_is : (f : Function) (ls : List Line) (extra : List ℕ) (o : Option Env) → started f ls extra unwritten o ≡ and_then o (λ e. Some (record { func = f; rest = ls; env = e; slots = unwritten; extra = extra }))
unfolding started
started_is f ls extra None = refl
started_is f ls extra (Some e) = refl

begin_at : (f : Function) (b : ℕ) (bs : List Block) (args : List DataValue) (extra : List ℕ) → Some b ≡ first_number bs → started f (lines_of b bs) extra unwritten (bind (params_of b bs) args no_values) ≡ frame_at f args extra bs
begin_at f b [] args extra h = cc h
begin_at f b (k ∷ bs) args extra h =
    let e : b ≡ k.number = cc h in
    let t : nat_eq k.number b ≡ true = eq-eqb k.number b (sym e) in
    rw t (started_is f k.lines extra (bind k.params args no_values))

pub begin_first : (m : Module) (at b : ℕ) (f : Function) (ps : List ℕ) (ls : List Line) (args : List DataValue) (extra : List ℕ) (sl : Slots) (ok v : Bool) (e : Env) → slice_get m at ≡ Some f → Some b ≡ first_number f.blocks → ps ≡ params_of b f.blocks → ls ≡ lines_of b f.blocks → sl ≡ unwritten → ok ≡ v → some_if ok e ≡ bind ps args no_values → some_if v (record { func = function_at m at; rest = ls; env = e; slots = sl; extra = extra }) ≡ begin (function_at m at) args extra
begin_first m at b f ps ls args extra sl ok v e is first ps_is ls_is sl_is okv bs =
    started_if (function_at m at) ls extra sl v e
    ∙ (ap (λ g. started g ls extra sl (some_if v e)) (at_found m at f is)
    ∙ (ap (λ t. started f t extra sl (some_if v e)) ls_is
    ∙ (ap (λ t. started f (lines_of b f.blocks) extra t (some_if v e)) sl_is
    ∙ (ap (λ t. started f (lines_of b f.blocks) extra unwritten (some_if t e)) (sym okv)
    ∙ (ap (λ o. started f (lines_of b f.blocks) extra unwritten o) (bs ∙ ap (λ p. bind p args no_values) ps_is)
    ∙ (begin_at f b f.blocks args extra first
    ∙ ap (λ g. begin g args extra) (sym (at_found m at f is))))))))

pub begin_past : (m : Module) (at : ℕ) (args : List DataValue) (extra : List ℕ) → length m ≤ at → None ≡ begin (function_at m at) args extra
begin_past m at args extra h = ap (λ f. begin f args extra) (sym (at_past m at h))

-- the same as code finds it
pub begun : (m : Module) (at b : ℕ) (f : Function) (ps : List ℕ) (ls : List Line) (args : List DataValue) (extra : List ℕ) (ok v : Bool) (e : Env) (cells : Registers) → slice_get m at ≡ Some f → Some b ≡ first_number f.blocks → ps ≡ params_of b f.blocks → ls ≡ lines_of b f.blocks → ok ≡ v → env_of cells ≡ no_values → some_if ok e ≡ bind ps args (env_of cells) → some_if v (record { func = function_at m at; rest = ls; env = e; slots = unwritten; extra = extra }) ≡ begin (function_at m at) args extra
begun m at b f ps ls args extra ok v e cells is first ps_is ls_is okv none bs =
    begin_first m at b f ps ls args extra unwritten ok v e is first ps_is ls_is refl okv (bs ∙ ap (bind ps args) none)
