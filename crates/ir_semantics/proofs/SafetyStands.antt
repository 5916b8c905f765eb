-- Where the frames of a run of an accepted module stand: each at a line to which a path leads, with a value of its type for
-- every definition that the path passed; those below wait for values of the types that the frame above returns.
use Rattle.std.proofs.Common.{◌≡◌, ◌≢◌, ℕ, suc, inl, inr, List, [], ◌∷◌, ◌++◌, map, Option, Some, None, Bool, true, false, refl, sym, ap, ◌∙◌, subst}
use Rattle.std.specs.Prelude.{⊤, slice_get, if◌then◌else◌}
use Rattle.clk_num.specs.Operations.{DataValue}
use Rattle.exn_tables.specs.declared.table.Entry.{Entry}
use Rattle.exn_tables.specs.Table.{takes}
use Rattle.ir_core.specs.declared.signatures.Ty.{Ty}
use Rattle.ir_core.specs.declared.signatures.Ty.TheVariants.{I64}
use Rattle.ir_core.specs.declared.signatures.Sig.{Sig}
use Rattle.ir_core.specs.declared.places.Item.TheVariants as item
use Rattle.ir_core.specs.declared.instructions.BlockCall.{BlockCall}
use Rattle.ir_core.specs.Module.{CallTarget, call_target, Instruction, Plain, Branches, SequencePoint, Return, Call, ReturnCall, TryCall, Line, Block, Function, Module}
use Rattle.ir_core.specs.Lookup.{and_then, find_block, signature_of, param_types}
use Rattle.ir_core.specs.Lists.{In, Each}
use Rattle.ir_core.specs.Uses.{targets, table_targets, operands, targets_used, arg_values_used, values_used}
use Rattle.ir_semantics.specs.Values.{no_values, bind, i64, unwritten}
use Rattle.ir_semantics.specs.Available.{terminates, Reach, begin, next, branch, Available}
use Rattle.ir_semantics.specs.Machine.{Frame, Wait, World, Caught, End, Going, Returned, Trapped, Threw, Unwritten, ScriptEnded, BadReply, Stuck, Moment, On, Over}
use Rattle.ir_semantics.specs.Effect.{arg_values}
use Rattle.ir_semantics.specs.Step.{must, with_event, enter, enter_target, give_to, resume, table_of, Search, Missed, Hit, search_in, throw, frame_at, begin as begun}
use Rattle.ir_semantics.specs.Splice.{first_number}
use Rattle.ir_core.specs.WellFormed.{WellFormed}
use Rattle.ir_core.proofs.Gets.{some_same}
use Rattle.ir_core.proofs.Members.{each_in}
use Rattle.ir_semantics.specs.Accepted.{Rule, no_terminator, type_mismatch, not_available, HoldsAtLine, RulesHold}
use Rattle.ir_semantics.specs.EndRules.{EndsRightly}
use Rattle.ir_semantics.specs.TypeRules.{types_of, each_some, arg_type, HaveTypes, TargetTypes, InstructionTypes}
use Rattle.ir_semantics.proofs.SafetyTypes.{Has, FitAll, Typed, bind_ok, There, args_there}
use Rattle.ir_semantics.proofs.SafetyPlaces.{in_left, in_right, in_targets, some_and, find_first, params_known, From}

abbrev pub NotStuck : End → Type 0
NotStuck Stuck = ⊥
NotStuck Going = ⊤
NotStuck (Returned xs) = ⊤
NotStuck (Trapped code) = ⊤
NotStuck (Threw t p q) = ⊤
NotStuck Unwritten = ⊤
NotStuck ScriptEnded = ⊤
NotStuck BadReply = ⊤

-- ---- a whole, accepted function of the module

pub record Good (m : Module) (f : Function) : Type 0 where
  pub there : In f m
  pub accepted : RulesHold m f
  pub whole : WellFormed f

pub rule_at : (m : Module) (f : Function) → Good m f → (b i : ℕ) (k : Block) (l : Line) → find_block b f.blocks ≡ Some k → slice_get k.lines i ≡ Some l → (rule : Rule) → HoldsAtLine f b k i l rule
rule_at m f good b i k l found line rule = good.accepted (item.Inst (record { block = b; index = i })) rule k l found line

first_line : (m : Module) (f : Function) → Good m f → (b : ℕ) (k : Block) → find_block b f.blocks ≡ Some k → (l : Line) × (slice_get k.lines 0 ≡ Some l)
first_line m f good b k found = go k.lines (good.accepted (item.Block b) no_terminator k found)
  where
    go : (ls : List Line) → ls ≢ [] → (l : Line) × (slice_get ls 0 ≡ Some l)
    go [] h = absurd (h refl)
    go (l ∷ ls) h = (l, refl)

-- ---- frames

-- the frame is at the line i of its block b
pub record Stands (m : Module) (x : Frame) (b i : ℕ) (k : Block) (l : Line) (defs : List ℕ) : Type 0 where
  pub good : Good m x.func
  pub found : find_block b x.func.blocks ≡ Some k
  pub line : slice_get k.lines i ≡ Some l
  pub reach : Reach x.func b i defs
  pub typed : Typed x.func x.env
  pub has : Has x.env defs

pub record Top (m : Module) (x : Frame) : Type 0 where
  pub b : ℕ
  pub i : ℕ
  pub k : Block
  pub l : Line
  pub defs : List ℕ
  pub stands : Stands m x b i k l defs
  pub from : From k.lines i x.rest

abbrev pub CallResults : Function → CallTarget → List Ty → Type 0
CallResults f t rs = (sig : Sig) × (signature_of f t ≡ Some sig) × (param_types sig.results ≡ rs)

-- the instruction waits for values of these types
abbrev pub Awaits : Function → Instruction → List Ty → Type 0
Awaits f (Call t args) rs = CallResults f t rs
Awaits f (TryCall t sig args normal table) rs = CallResults f (call_target t sig) rs
Awaits f (Plain p) rs = ⊥
Awaits f (Branches b) rs = ⊥
Awaits f SequencePoint rs = ⊥
Awaits f (Return vs) rs = ⊥
Awaits f (ReturnCall t args) rs = ⊥

pub record WaitOk (m : Module) (rs : List Ty) (y : Wait) : Type 0 where
  pub b : ℕ
  pub i : ℕ
  pub k : Block
  pub defs : List ℕ
  pub stands : Stands m y.frame b i k y.line defs
  pub from : From k.lines (suc i) y.frame.rest
  pub awaits : Awaits y.frame.func y.line.inst rs

abbrev pub SafeBelow : Module → List Ty → List Wait → Type 0
SafeBelow m rs [] = ⊤
SafeBelow m rs (y ∷ s) = WaitOk m rs y × SafeBelow m (param_types y.frame.func.sig.results) s

abbrev pub SafeMoment : Module → Moment → Type 0
SafeMoment m (Over w e) = NotStuck e
SafeMoment m (On x s w) = Top m x × SafeBelow m (param_types x.func.sig.results) s

pub must_safe : {A : Type 0} (m : Module) (w : World) (o : Option A) (end : End) (go : A → Moment) (a : A) → o ≡ Some a → SafeMoment m (go a) → SafeMoment m (must w o end go)
must_safe m w o end go a h s = subst (λ z. SafeMoment m (must w z end go)) (sym h) s

pub maybe_safe : {A : Type 0} (m : Module) (w : World) (o : Option A) (end : End) (go : A → Moment) → NotStuck end → ((a : A) → o ≡ Some a → SafeMoment m (go a)) → SafeMoment m (must w o end go)
maybe_safe m w None end go h k = h
maybe_safe m w (Some a) end go h k = k a refl

-- what the line uses has values
pub used_there : (m : Module) (x : Frame) (b i : ℕ) (k : Block) (l : Line) (defs : List ℕ) → Stands m x b i k l defs → Has x.env (values_used l.inst)
used_there m x b i k l defs st =
    let available : Each (Available x.func b i) (values_used l.inst) = rule_at m x.func st.good b i k l st.found st.line not_available in
    record { at = λ v p. st.has.at v (each_in (Available x.func b i) (values_used l.inst) available v p defs st.reach) }

target_used : (m : Module) (x : Frame) (b i : ℕ) (k : Block) (l : Line) (defs : List ℕ) → Stands m x b i k l defs → (t : BlockCall) → In t (targets l.inst) → Has x.env (arg_values_used t.args)
target_used m x b i k l defs st t is =
    let used = used_there m x b i k l defs st in
    record { at = λ v p. used.at v (in_right (operands l.inst) (targets_used (targets l.inst)) v (in_targets (targets l.inst) t is v p)) }

pub operands_there : (m : Module) (x : Frame) (b i : ℕ) (k : Block) (l : Line) (defs : List ℕ) → Stands m x b i k l defs → Has x.env (operands l.inst)
operands_there m x b i k l defs st =
    let used = used_there m x b i k l defs st in
    record { at = λ v p. used.at v (in_left (operands l.inst) (targets_used (targets l.inst)) v p) }

-- ---- entry into a block

pub enter_safe : (m : Module) (x : Frame) (b i : ℕ) (k : Block) (l : Line) (defs : List ℕ) → Stands m x b i k l defs → (t : BlockCall) → In t (targets l.inst) → (k' : Block) → find_block t.block x.func.blocks ≡ Some k' → (s : List Wait) → SafeBelow m (param_types x.func.sig.results) s → (w : World) (xs : List DataValue) → FitAll (types_of x.func k'.params) xs → SafeMoment m (enter x t.block xs s w)
enter_safe m x b i k l defs st t is k' found s below w xs fit =
    let r = bind_ok x.func k'.params xs x.env defs fit st.typed st.has in
    let first = first_line m x.func st.good t.block k' found in
    must_safe m w (find_block t.block x.func.blocks) Stuck (λ k. must w (bind k.params xs x.env) Stuck (λ e. On (record x { rest = k.lines; env = e }) s w)) k' found (must_safe m w (bind k'.params xs x.env) Stuck (λ e. On (record x { rest = k'.lines; env = e }) s w) r.env r.is (record { b = t.block; i = 0; k = k'; l = first.0; defs = k'.params ++ defs; stands = record { good = st.good; found = found; line = first.1; reach = branch st.reach k st.found l st.line t is k' found; typed = r.typed; has = r.has }; from = refl }, below))

-- the block of a target, and the values that it gets
pub record Passed (x : Frame) (results payloads : List DataValue) (t : BlockCall) : Type 0 where
  pub block : Block
  pub found : find_block t.block x.func.blocks ≡ Some block
  pub there : There (arg_values x.env results payloads t) (types_of x.func block.params)

pub target_values : (m : Module) (x : Frame) (b i : ℕ) (k : Block) (l : Line) (defs : List ℕ) → Stands m x b i k l defs → (t : BlockCall) → In t (targets l.inst) → (rt pt : List Ty) → TargetTypes x.func rt pt t → (results payloads : List DataValue) → FitAll (each_some rt) results → FitAll (each_some pt) payloads → Passed x results payloads t
target_values m x b i k l defs st t is rt pt types results payloads fit_results fit_payloads =
    let r = some_and (find_block t.block x.func.blocks) (λ b. map (arg_type x.func rt pt) t.args ≡ types_of x.func b.params) types in
    record {
      block = r.0;
      found = r.1;
      there = args_there x.func x.env st.typed rt pt results payloads fit_results fit_payloads t.args (types_of x.func r.0.params) r.2 (params_known x.func st.good.whole t.block r.0 r.1) (target_used m x b i k l defs st t is);
    }

pub target_safe : (m : Module) (x : Frame) (b i : ℕ) (k : Block) (l : Line) (defs : List ℕ) → Stands m x b i k l defs → (t : BlockCall) → In t (targets l.inst) → (rt pt : List Ty) → TargetTypes x.func rt pt t → (results payloads : List DataValue) → FitAll (each_some rt) results → FitAll (each_some pt) payloads → (s : List Wait) → SafeBelow m (param_types x.func.sig.results) s → (w : World) → SafeMoment m (enter_target x t results payloads s w)
target_safe m x b i k l defs st t is rt pt types results payloads fit_results fit_payloads s below w =
    let r = target_values m x b i k l defs st t is rt pt types results payloads fit_results fit_payloads in
    must_safe m w (arg_values x.env results payloads t) Stuck (λ xs. enter x t.block xs s w) r.there.values r.there.is (enter_safe m x b i k l defs st t is r.block r.found s below w r.there.values r.there.fit)

-- ---- the next line

pub next_line : (m : Module) (x : Frame) (b i : ℕ) (k : Block) (l : Line) (defs : List ℕ) → Stands m x b i k l defs → terminates l.inst ≡ false → (l' : Line) × (slice_get k.lines (suc i) ≡ Some l')
next_line m x b i k l defs st goes = go (slice_get k.lines (suc i)) refl (subst (λ z. EndsRightly z (slice_get k.lines (suc i))) goes (rule_at m x.func st.good b i k l st.found st.line no_terminator))
  where
    go : (o : Option Line) → slice_get k.lines (suc i) ≡ o → EndsRightly false o → (l' : Line) × (slice_get k.lines (suc i) ≡ Some l')
    go None q h = elim h [ ]
    go (Some l') q h = (l', q)

-- with values for the results of the line before
pub next_safe : (m : Module) (x : Frame) (b i : ℕ) (k : Block) (l : Line) (defs : List ℕ) → Stands m x b i k l defs → From k.lines (suc i) x.rest → terminates l.inst ≡ false → (slots : ℕ → ℕ → Option ℕ) (s : List Wait) → SafeBelow m (param_types x.func.sig.results) s → (w w' : World) (xs : List DataValue) → FitAll (types_of x.func l.results) xs → SafeMoment m (must w (bind l.results xs x.env) Stuck (λ e. On (record x { env = e; slots = slots }) s w'))
next_safe m x b i k l defs st from goes slots s below w w' xs fit =
    let after = next_line m x b i k l defs st goes in
    let r = bind_ok x.func l.results xs x.env defs fit st.typed st.has in
    must_safe m w (bind l.results xs x.env) Stuck (λ e. On (record x { env = e; slots = slots }) s w') r.env r.is (record { b = b; i = suc i; k = k; l = after.0; defs = l.results ++ defs; stands = record { good = st.good; found = st.found; line = after.1; reach = next st.reach k st.found l st.line goes; typed = r.typed; has = r.has }; from = from }, below)

pub inst_types : (m : Module) (x : Frame) (b i : ℕ) (k : Block) (l : Line) (defs : List ℕ) → Stands m x b i k l defs → InstructionTypes x.func l l.inst
inst_types m x b i k l defs st = rule_at m x.func st.good b i k l st.found st.line type_mismatch

-- ---- values come back

pub give_safe : (m : Module) (rs : List Ty) (y : Wait) (ok : WaitOk m rs y) (inst : Instruction) → y.line.inst ≡ inst → InstructionTypes y.frame.func y.line inst → Awaits y.frame.func inst rs → (s : List Wait) → SafeBelow m (param_types y.frame.func.sig.results) s → (w : World) (values : List DataValue) → FitAll (each_some rs) values → SafeMoment m (give_to inst y.line.results values y.frame s w)
give_safe m rs y ok (Call t args) q types awaits s below w values fit =
    let r = some_and (signature_of y.frame.func t) (λ sig. HaveTypes y.frame.func args (param_types sig.params) × HaveTypes y.frame.func y.line.results (param_types sig.results)) types.2 in
    let same : awaits.0 ≡ r.0 = some_same (sym awaits.1 ∙ r.1) in
    let results : rs ≡ param_types r.0.results = sym awaits.2 ∙ ap (λ (z : Sig). param_types z.results) same in
    let fits : FitAll (types_of y.frame.func y.line.results) values = subst (λ os. FitAll os values) (ap each_some results ∙ sym r.2.1) fit in
    next_safe m y.frame ok.b ok.i ok.k y.line ok.defs ok.stands ok.from (ap terminates q) y.frame.slots s below w w values fits
give_safe m rs y ok (TryCall t sig args normal table) q types awaits s below w values fit =
    let r = some_and (signature_of y.frame.func (call_target t sig)) (λ s. HaveTypes y.frame.func args (param_types s.params) × (TargetTypes y.frame.func (param_types s.results) [] normal × Each (TargetTypes y.frame.func [] (I64 ∷ I64 ∷ [])) (table_targets table))) types.2 in
    let same : awaits.0 ≡ r.0 = some_same (sym awaits.1 ∙ r.1) in
    let results : rs ≡ param_types r.0.results = sym awaits.2 ∙ ap (λ (z : Sig). param_types z.results) same in
    target_safe m y.frame ok.b ok.i ok.k y.line ok.defs ok.stands normal (subst (λ j. In normal (targets j)) (sym q) (inl refl)) (param_types r.0.results) [] r.2.1.0 values [] (subst (λ z. FitAll (each_some z) values) results fit) tt s below w
give_safe m rs y ok (Plain p) q types awaits s below w values fit = elim awaits [ ]
give_safe m rs y ok (Branches b) q types awaits s below w values fit = elim awaits [ ]
give_safe m rs y ok SequencePoint q types awaits s below w values fit = elim awaits [ ]
give_safe m rs y ok (Return vs) q types awaits s below w values fit = elim awaits [ ]
give_safe m rs y ok (ReturnCall t args) q types awaits s below w values fit = elim awaits [ ]

pub resume_safe : (m : Module) (rs : List Ty) (s : List Wait) → SafeBelow m rs s → (w : World) (values : List DataValue) → FitAll (each_some rs) values → SafeMoment m (resume values s w)
resume_safe m rs [] below w values fit = tt
resume_safe m rs (y ∷ s) below w values fit =
    give_safe m rs y below.0 y.line.inst refl (inst_types m y.frame below.0.b below.0.i below.0.k y.line below.0.defs below.0.stands) below.0.awaits s below.1 w values fit

-- ---- a throw passes

abbrev pub SearchOk : Function → List (Entry BlockCall) → Search → Type 0
SearchOk f es (Missed n) = ⊤
SearchOk f es (Hit n t) = TargetTypes f [] (I64 ∷ I64 ∷ []) t × In t (table_targets es)

search_ok : (f : Function) (es : List (Entry BlockCall)) → Each (TargetTypes f [] (I64 ∷ I64 ∷ [])) (table_targets es) → (t n : ℕ) → SearchOk f es (search_in es t n)
search_ok f [] ok t n = tt
search_ok f (e ∷ es) ok t n = go (takes t e) (search_in es t (suc n)) (search_ok f es ok.1 t (suc n))
  where
    go : (c : Bool) (found : Search) → SearchOk f es found → SearchOk f (e ∷ es) (if c then Hit n e.target else found)
    go true found r = (ok.0, inl refl)
    go false (Missed u) r = tt
    go false (Hit u t') r = (r.0, inr r.1)

table_ok : (f : Function) (l : Line) (inst : Instruction) → InstructionTypes f l inst → Each (TargetTypes f [] (I64 ∷ I64 ∷ [])) (table_targets (table_of inst)) × ((t : BlockCall) → In t (table_targets (table_of inst)) → In t (targets inst))
table_ok f l (TryCall t sig args normal table) types =
    let r = some_and (signature_of f (call_target t sig)) (λ s. HaveTypes f args (param_types s.params) × (TargetTypes f (param_types s.results) [] normal × Each (TargetTypes f [] (I64 ∷ I64 ∷ [])) (table_targets table))) types.2 in
    (r.2.1.1, (λ u p. inr p))
table_ok f l (Plain p) types = (tt, (λ t p. elim p [ ]))
table_ok f l (Branches b) types = (tt, (λ t p. elim p [ ]))
table_ok f l SequencePoint types = (tt, (λ t p. elim p [ ]))
table_ok f l (Return vs) types = (tt, (λ t p. elim p [ ]))
table_ok f l (Call t args) types = (tt, (λ t p. elim p [ ]))
table_ok f l (ReturnCall t args) types = (tt, (λ t p. elim p [ ]))

pub throw_safe : (m : Module) (rs : List Ty) (s : List Wait) → SafeBelow m rs s → (t p q n : ℕ) (w : World) → SafeMoment m (throw t p q s n w)
throw_safe m rs [] below t p q n w = tt
throw_safe m rs (y ∷ s) below t p q n w = go (search_in (table_of y.line.inst) t n) (search_ok y.frame.func (table_of y.line.inst) tables.0 t n) (λ u. throw_safe m (param_types y.frame.func.sig.results) s below.1 t p q u w)
  where
    tables : Each (TargetTypes y.frame.func [] (I64 ∷ I64 ∷ [])) (table_targets (table_of y.line.inst)) × ((t : BlockCall) → In t (table_targets (table_of y.line.inst)) → In t (targets y.line.inst))
    tables = table_ok y.frame.func y.line y.line.inst (inst_types m y.frame below.0.b below.0.i below.0.k y.line below.0.defs below.0.stands)

    go : (found : Search) → SearchOk y.frame.func (table_of y.line.inst) found → ((u : ℕ) → SafeMoment m (throw t p q s u w)) → SafeMoment m (elim found [ Missed u ↦ throw t p q s u w | Hit u target ↦ enter_target y.frame target [] (i64 p ∷ i64 q ∷ []) s (with_event w (Caught t p q u)) ])
    go (Missed u) ok ih = ih u
    go (Hit u t') ok ih = target_safe m y.frame below.0.b below.0.i below.0.k y.line below.0.defs below.0.stands t' (tables.1 t' ok.1) [] (I64 ∷ I64 ∷ []) ok.0 [] (i64 p ∷ i64 q ∷ []) tt (refl, (refl, tt)) s below.1 (with_event w (Caught t p q u))

-- ---- a function begins

pub begin_safe : (m : Module) (h : Function) → Good m h → (args : List DataValue) (extra : List ℕ) → FitAll (each_some (param_types h.sig.params)) args → (s : List Wait) → SafeBelow m (param_types h.sig.results) s → (w : World) → SafeMoment m (must w (begun h args extra) Stuck (λ y. On y s w))
begin_safe m h good args extra fit s below w = go h.blocks refl
  where
    no_values_typed : Typed h no_values
    no_values_typed = record { at = λ v x q. cc }

    none_has : Has no_values []
    none_has = record { at = λ v p. elim p [ ] }

    defs_of : (us : List ℕ) (e : ℕ → Option DataValue) → Has e (us ++ []) → Has e us
    defs_of us e has = record { at = λ v p. has.at v (in_left us [] v p) }

    go : (bs : List Block) → h.blocks ≡ bs → SafeMoment m (must w (begun h args extra) Stuck (λ y. On y s w))
    go [] q = absurd (good.whole.begins q)
    go (first ∷ others) q =
        let found : find_block first.number h.blocks ≡ Some first = ap (find_block first.number) q ∙ find_first first others in
        let is_first : first.number ≡ first_number h.blocks = ap first_number (sym q) in
        let types : HaveTypes h first.params (param_types h.sig.params) = good.accepted (item.Block first.number) type_mismatch first found is_first in
        let r = bind_ok h first.params args no_values [] (subst (λ os. FitAll os args) (sym types) fit) no_values_typed none_has in
        let x : Frame = record { func = h; rest = first.lines; env = r.env; slots = unwritten; extra = extra } in
        let is : begun h args extra ≡ Some x = ap (frame_at h args extra) q ∙ ap (λ o. and_then o (λ e. Some (record { func = h; rest = first.lines; env = e; slots = unwritten; extra = extra }))) r.is in
        let line = first_line m h good first.number first found in
        must_safe m w (begun h args extra) Stuck (λ y. On y s w) x is (record { b = first.number; i = 0; k = first; l = line.0; defs = first.params; stands = record { good = good; found = found; line = line.1; reach = begin first others q; typed = r.typed; has = defs_of first.params r.env r.has }; from = refl }, below)
