-- A step of an accepted module goes on or ends rightly: what each instruction does, what calls find, what hosts reply.
use Rattle.std.proofs.Common.{◌≡◌, ℕ, zero, suc, ◌<◌, inl, inr, List, [], ◌∷◌, ◌++◌, length, map, Option, Some, None, Bool, true, false, refl, sym, ap, ◌∙◌, subst, arith}
use Rattle.std.specs.Prelude.{⊤, IsSome, IsSomeAnd, slice_get, if◌then◌else◌}
use Rattle.clk_num.specs.declared.op.Op.{Op}
use Rattle.clk_num.specs.declared.width.Width.{Width}
use Rattle.clk_num.specs.declared.op.TrapCode.TheVariants.{HeapOob}
use Rattle.clk_num.specs.Rows.{row}
use Rattle.clk_num.specs.Operations.{DataValue, Evaluation, Values, Traps, NoRow, widths, operation}
use Rattle.clk_num.specs.Results.{IsOfRow}
use Rattle.clk_num.proofs.ResultLemmas.{keeps_row}
use Rattle.ir_core.specs.declared.names.FuncName.{FuncName}
use Rattle.ir_core.specs.declared.signatures.Ty.{Ty}
use Rattle.ir_core.specs.declared.signatures.Ty.TheVariants.{I64}
use Rattle.ir_core.specs.declared.signatures.Sig.{Sig}
use Rattle.ir_core.specs.declared.declarations.Callee.{Callee}
use Rattle.ir_core.specs.declared.places.Item.TheVariants as item
use Rattle.ir_core.specs.declared.instructions.BlockCall.{BlockCall}
use Rattle.ir_core.specs.declared.instructions.Access.{Access}
use Rattle.ir_core.specs.declared.instructions.Access.TheVariants.{Full, Uload, Sload}
use Rattle.ir_core.specs.Module.{Simple, Nop, Const, Pure, PureImm, Load, Store, StackLoad, StackStore, FuncAddr, Trap, Trapz, Trapnz, Branch, Jump, Brif, BrTable, CallTarget, call_target, Direct, Indirect, Instruction, Plain, Branches, SequencePoint, Return, Call, ReturnCall, TryCall, Line, Block, Function, Module}
use Rattle.ir_core.specs.Lookup.{and_then, find_function, type_of, signature_number, signature_of, param_types, width_of, ty_of}
use Rattle.ir_core.specs.Lists.{In, Each}
use Rattle.ir_semantics.specs.Names.{names, name_at, address_of}
use Rattle.ir_core.specs.Signatures.{same_sig}
use Rattle.ir_core.specs.Uses.{targets, table_targets, operands, simple_used, called_used, callees_used, simple_callees}
use Rattle.ir_semantics.specs.Values.{Slots, Memory, all_of, i64, bytes_in, number_of, bytes_of, bytes_from, put_bytes, slot_place, memory_read, memory_write, address_at, by_endian, bytes_read, loaded, bytes_stored, values_for}
use Rattle.ir_semantics.specs.Available.{terminates, next}
use Rattle.ir_semantics.specs.Machine.{Frame, Wait, Shown, Host, Point, HostAct, Returns, HostTraps, Throws, Reply, World, End, Trapped, Unwritten, BadReply, Stuck, On, Over}
use Rattle.ir_semantics.specs.Effect.{Called, ByName, ByAddress, Effect, Go, Enter, Give, Do, Stop, need, arg_values, evaluated, choose, simple, go_to, target_at, branch, called, calls, effect}
use Rattle.ir_semantics.specs.Step.{with_event, resume, shown, writes_fit, written, answer, reply, Found, Inside, Outside, Nowhere, Missing, by_name, by_address, or_missing, at_name, found, invoke, numbers, act}
use Rattle.ir_semantics.specs.Accepted.{count_mismatch, signature_mismatch, slot_range, tag_place}
use Rattle.ir_semantics.specs.TypeRules.{each_some, types_of, HaveTypes, TargetTypes, widths_of_values, OpTypes, SimpleTypes, InstructionTypes}
use Rattle.ir_semantics.specs.CountRules.{simple_results, InstructionCounts}
use Rattle.ir_semantics.specs.SlotRules.{SimpleSlot, InstructionSlot}
use Rattle.ir_semantics.specs.CallRules.{InstructionTags, Declared}
use Rattle.ir_core.specs.Forms.{access_type}
use Rattle.ir_core.proofs.Equal.{sig_equal}
use Rattle.ir_core.proofs.Gets.{some_same, get_some}
use Rattle.ir_core.proofs.Members.{each_in}
use Rattle.ir_semantics.proofs.SafetyTypes.{then_some, Has, FitsOne, FitAll, There, all_there, width_ty, no_values_fit, widths_fit, operand_widths, host_values_fit}
use Rattle.ir_semantics.proofs.SafetyPlaces.{in_left, in_right, some_and, is_some_is, function_in, line_whole, callee_address, numbers_there, From}
use Rattle.ir_semantics.proofs.SafetyStands.{NotStuck, Good, rule_at, Stands, Awaits, SafeBelow, SafeMoment, must_safe, maybe_safe, operands_there, enter_safe, target_values, next_line, next_safe, inst_types, resume_safe, throw_safe, begin_safe}

loaded_width : (access : Access) (n : ℕ) → (loaded access n).width ≡ width_of (access_type access)
loaded_width (Full t) n = refl
loaded_width (Uload t b) n = refl
loaded_width (Sload t b) n = refl

no_results : (vs : List ℕ) → length vs ≡ 0 → vs ≡ []
no_results [] h = refl
no_results (v ∷ vs) h = absurd (omega arith)

in_chosen : (ts : List BlockCall) (default : BlockCall) (i : ℕ) → In (target_at ts default i) (default ∷ ts)
in_chosen [] default i = inl refl
in_chosen (t ∷ ts) default zero = inr (inl refl)
in_chosen (t ∷ ts) default (suc i) = elim (in_chosen ts default i) [ inl p ↦ inl p | inr p ↦ inr (inr p) ]

module _ (m : Module) (goods : (f : Function) → In f m → Good m f) where
  -- ---- hosts

  answer_safe : (sig : Sig) (s : List Wait) → SafeBelow m (param_types sig.results) s → (w w' : World) (a : HostAct) → SafeMoment m (answer sig a s w w')
  answer_safe sig s below w w' (Returns zs) = maybe_safe m w (values_for (param_types sig.results) zs) BadReply (λ values. resume values s w') tt (λ values q. resume_safe m (param_types sig.results) s below w' values (host_values_fit (param_types sig.results) zs values q))
  answer_safe sig s below w w' (HostTraps code) = tt
  answer_safe sig s below w w' (Throws t p q) = throw_safe m (param_types sig.results) s below t p q 0 w'

  reply_safe : (sig : Sig) (s : List Wait) → SafeBelow m (param_types sig.results) s → (w : World) (rs : List Reply) → SafeMoment m (reply sig s w rs)
  reply_safe sig s below w [] = tt
  reply_safe sig s below w (r ∷ rs) = go (writes_fit r.writes (length w.memory))
    where
      go : (c : Bool) → SafeMoment m (if c then answer sig r.act s w (record { memory = written r.writes w.memory; replies = rs; events = w.events }) else Over w BadReply)
      go true = answer_safe sig s below w (record { memory = written r.writes w.memory; replies = rs; events = w.events }) r.act
      go false = tt

  -- ---- calls

  -- what is called takes and returns values of these types
  abbrev FoundOk : List Ty → List Ty → Found → Type 0
  FoundOk ps rs (Inside h) = Good m h × (param_types h.sig.params ≡ ps) × (param_types h.sig.results ≡ rs)
  FoundOk ps rs (Outside n sig) = param_types sig.results ≡ rs
  FoundOk ps rs Nowhere = ⊤
  FoundOk ps rs Missing = ⊥

  invoke_safe : (c : Found) (ps rs : List Ty) → FoundOk ps rs c → (args : List DataValue) (extra : List ℕ) → FitAll (each_some ps) args → (shows : Option (List Shown)) (s : List Wait) → SafeBelow m rs s → (w : World) → SafeMoment m (invoke c args extra shows s w)
  invoke_safe (Inside h) ps rs ok args extra fit shows s below w = begin_safe m h ok.0 args extra (subst (λ z. FitAll (each_some z) args) (sym ok.1) fit) s (subst (λ z. SafeBelow m z s) (sym ok.2) below) w
  invoke_safe (Outside n sig) ps rs ok args extra fit shows s below w = maybe_safe m w shows Unwritten (λ sh. reply sig s (with_event w (Host n args sh)) w.replies) tt (λ sh q. reply_safe sig s (subst (λ z. SafeBelow m z s) (sym ok) below) (with_event w (Host n args sh)) w.replies)
  invoke_safe Nowhere ps rs ok args extra fit shows s below w = tt
  invoke_safe Missing ps rs ok args extra fit shows s below w = elim ok [ ]

  same_function : (h : Function) → In h m → (sig : Sig) → h.sig ≡ sig → FoundOk (param_types sig.params) (param_types sig.results) (Inside h)
  same_function h is sig e = (goods h is, ap (λ (z : Sig). param_types z.params) e, ap (λ (z : Sig). param_types z.results) e)

  by_name_ok : (f : Function) → Good m f → (k : ℕ) (c : Callee) (sig : Sig) → slice_get f.callees k ≡ Some c → slice_get f.sigs c.sig ≡ Some sig → (o : Option Function) → find_function c.name m ≡ o → FoundOk (param_types sig.params) (param_types sig.results) (by_name o c.name sig)
  by_name_ok f good k c sig get get_sig None q = refl
  by_name_ok f good k c sig get get_sig (Some h) q =
      let declared : Declared m f c = good.accepted (item.Callee k) signature_mismatch c get in
      same_function h (function_in c.name m h q) sig (some_same (sym (declared h q) ∙ get_sig))

  direct_ok : (f : Function) → Good m f → (k : ℕ) (sig : Sig) → signature_of f (Direct k) ≡ Some sig → FoundOk (param_types sig.params) (param_types sig.results) (found m f (ByName k))
  direct_ok f good k sig h =
      let n = then_some (signature_number f (Direct k)) (slice_get f.sigs) sig h in
      let c = then_some (slice_get f.callees k) (λ (c : Callee). Some c.sig) n.0 n.1 in
      let get_sig : slice_get f.sigs c.0.sig ≡ Some sig = ap (slice_get f.sigs) (some_same c.2) ∙ n.2 in
      subst (λ o. FoundOk (param_types sig.params) (param_types sig.results) (or_missing o (λ c. or_missing (slice_get f.sigs c.sig) (λ sig. by_name (find_function c.name m) c.name sig)))) (sym c.1)
      (subst (λ o. FoundOk (param_types sig.params) (param_types sig.results) (or_missing o (λ sig. by_name (find_function c.0.name m) c.0.name sig))) (sym get_sig)
      (by_name_ok f good k c.0 sig c.1 get_sig (find_function c.0.name m) refl))

  at_name_ok : (sig : Sig) (o : Option FuncName) → FoundOk (param_types sig.params) (param_types sig.results) (at_name m o sig)
  at_name_ok sig None = tt
  at_name_ok sig (Some n) = by (find_function n m) refl
    where
      inside : (h : Function) → In h m → (c : Bool) → same_sig h.sig sig ≡ c → FoundOk (param_types sig.params) (param_types sig.results) (if c then Inside h else Nowhere)
      inside h is true q = same_function h is sig (sig_equal h.sig sig q)
      inside h is false q = tt

      by : (o : Option Function) → find_function n m ≡ o → FoundOk (param_types sig.params) (param_types sig.results) (by_address o n sig)
      by None q = refl
      by (Some h) q = inside h (function_in n m h q) (same_sig h.sig sig) refl

  indirect_ok : (f : Function) (n address : ℕ) (sig : Sig) → slice_get f.sigs n ≡ Some sig → FoundOk (param_types sig.params) (param_types sig.results) (found m f (ByAddress n address))
  indirect_ok f n address sig h = subst (λ o. FoundOk (param_types sig.params) (param_types sig.results) (or_missing o (λ sig. at_name m (name_at (names m) address) sig))) (sym h) (at_name_ok sig (name_at (names m) address))

  module _ (x : Frame) (b i : ℕ) (k : Block) (l : Line) (defs : List ℕ) (st : Stands m x b i k l defs) (from : From k.lines (suc i) x.rest) (s : List Wait) (below : SafeBelow m (param_types x.func.sig.results) s) (w : World) where
    abbrev Fine : Effect → Type 0
    Fine t = SafeMoment m (act m l x s w t)

    need_fine : {A : Type 0} (o : Option A) (end : End) (go : A → Effect) (a : A) → o ≡ Some a → Fine (go a) → Fine (need o end go)
    need_fine o end go a h r = subst (λ z. SafeMoment m (act m l x s w (need z end go))) (sym h) r

    maybe_fine : {A : Type 0} (o : Option A) (end : End) (go : A → Effect) → NotStuck end → ((a : A) → Fine (go a)) → Fine (need o end go)
    maybe_fine None end go h r = h
    maybe_fine (Some a) end go h r = r a

    choose_fine : (y : ℕ) (a c : Effect) → Fine a → Fine c → Fine (choose y a c)
    choose_fine zero a c h r = r
    choose_fine (suc y) a c h r = h

    go_fine : terminates l.inst ≡ false → (values : List DataValue) (slots : Slots) (memory : Memory) → FitAll (types_of x.func l.results) values → Fine (Go values slots memory)
    go_fine goes values slots memory fit = next_safe m x b i k l defs st from goes slots s below w (record w { memory = memory }) values fit

    one_fits : (t : Ty) → HaveTypes x.func l.results (t ∷ []) → (y : DataValue) → y.width ≡ width_of t → FitAll (types_of x.func l.results) (y ∷ [])
    one_fits t have y h = subst (λ os. FitAll os (y ∷ [])) (sym have) (h, tt)

    width_is : (v : ℕ) (t : Ty) → type_of x.func v ≡ Some t → (y : DataValue) → x.env v ≡ Some y → y.width ≡ width_of t
    width_is v t q y h = subst (λ o. FitsOne o y) q (st.typed.at v y h)

    -- ---- simple instructions

    evaluated_fine : terminates l.inst ≡ false → (op : Op) (xs : List DataValue) (given : List Width) → widths xs ≡ given → IsSomeAnd (row op given) (λ results. HaveTypes x.func l.results (map ty_of results)) → Fine (evaluated x.slots w.memory (operation op xs))
    evaluated_fine goes op xs given ws h =
        let u = some_and (row op given) (λ results. HaveTypes x.func l.results (map ty_of results)) h in
        go u.0 u.2 (operation op xs) (subst (λ o. IsOfRow o (operation op xs)) (ap (row op) ws ∙ u.1) (keeps_row op xs))
      where
        go : (results : List Width) → HaveTypes x.func l.results (map ty_of results) → (e : Evaluation) → IsOfRow (Some results) e → Fine (evaluated x.slots w.memory e)
        go results have (Values ys) r = go_fine goes ys x.slots w.memory (widths_fit x.func l.results results have ys r)
        go results have (Traps code) r = tt
        go results have NoRow r = elim r [ ]

    simple_safe : (p : Simple) → terminates (Plain p) ≡ terminates l.inst → SimpleTypes x.func l p → length l.results ≡ simple_results p → SimpleSlot x.func p → Has x.env (simple_used p) → Each (λ k. k < length x.func.callees) (simple_callees p) → Fine (simple (names m) x.func x.env x.slots w.memory p)
    simple_safe Nop q types count slot has callees = go_fine (sym q) [] x.slots w.memory (no_values_fit x.func l.results count)
    simple_safe (Const y) q types count slot has callees = go_fine (sym q) (y ∷ []) x.slots w.memory (one_fits (ty_of y.width) types.3 y (sym (width_ty y.width)))
    simple_safe (Pure op args) q types count slot has callees =
        let r = all_there x.func x.env st.typed args has in
        let g = some_and (widths_of_values x.func args) (λ given. IsSomeAnd (row op given) (λ results. HaveTypes x.func l.results (map ty_of results))) types.0 in
        need_fine (all_of x.env args) Stuck (λ xs. evaluated x.slots w.memory (operation op xs)) r.values r.is (evaluated_fine (sym q) op r.values g.0 (operand_widths x.func args r.values g.0 g.1 r.fit) g.2)
    simple_safe (PureImm op a n) q types count slot has callees =
        let r = has.at a (inl refl) in
        let t = some_and (type_of x.func a) (λ t. (l.ty ≡ Some t) × (n.width ≡ width_of t) × OpTypes x.func l op (Some (width_of t ∷ n.width ∷ []))) types.2 in
        need_fine (x.env a) Stuck (λ y. evaluated x.slots w.memory (operation op (y ∷ n ∷ []))) r.0 r.1 (evaluated_fine (sym q) op (r.0 ∷ n ∷ []) (width_of t.0 ∷ n.width ∷ []) (ap (λ z. z ∷ n.width ∷ []) (width_is a t.0 t.1 r.0 r.1)) t.2.2)
    simple_safe (Load access flags a offset) q types count slot has callees =
        let r = has.at a (inl refl) in
        need_fine (x.env a) Stuck (λ y. need (memory_read w.memory (address_at y.value offset) (bytes_read access)) (Trapped HeapOob) (λ bs. Go (loaded access (number_of (by_endian flags.big bs)) ∷ []) x.slots w.memory)) r.0 r.1
        (maybe_fine (memory_read w.memory (address_at r.0.value offset) (bytes_read access)) (Trapped HeapOob) (λ bs. Go (loaded access (number_of (by_endian flags.big bs)) ∷ []) x.slots w.memory) tt
        (λ bs. go_fine (sym q) (loaded access (number_of (by_endian flags.big bs)) ∷ []) x.slots w.memory (one_fits (access_type access) types.4 (loaded access (number_of (by_endian flags.big bs))) (loaded_width access (number_of (by_endian flags.big bs))))))
    simple_safe (Store narrow flags v a offset) q types count slot has callees =
        let r = has.at v (inl refl) in
        let u = has.at a (inr (inl refl)) in
        need_fine (x.env v) Stuck (λ y. need (x.env a) Stuck (λ z. need (memory_write w.memory (address_at z.value offset) (by_endian flags.big (bytes_of (bytes_stored narrow y.width) y.value))) (Trapped HeapOob) (λ m'. Go [] x.slots m'))) r.0 r.1
        (need_fine (x.env a) Stuck (λ z. need (memory_write w.memory (address_at z.value offset) (by_endian flags.big (bytes_of (bytes_stored narrow r.0.width) r.0.value))) (Trapped HeapOob) (λ m'. Go [] x.slots m')) u.0 u.1
        (maybe_fine (memory_write w.memory (address_at u.0.value offset) (by_endian flags.big (bytes_of (bytes_stored narrow r.0.width) r.0.value))) (Trapped HeapOob) (λ m'. Go [] x.slots m') tt (λ m'. go_fine (sym q) [] x.slots m' (no_values_fit x.func l.results count))))
    simple_safe (StackLoad t j offset) q types count slot has callees =
        let r = is_some_is (slot_place x.func j offset (bytes_in (width_of t))) slot in
        need_fine (slot_place x.func j offset (bytes_in (width_of t))) Stuck (λ o. need (bytes_from (x.slots j) o (bytes_in (width_of t))) Unwritten (λ bs. Go (record { width = width_of t; value = number_of bs } ∷ []) x.slots w.memory)) r.0 r.1
        (maybe_fine (bytes_from (x.slots j) r.0 (bytes_in (width_of t))) Unwritten (λ bs. Go (record { width = width_of t; value = number_of bs } ∷ []) x.slots w.memory) tt
        (λ bs. go_fine (sym q) (record { width = width_of t; value = number_of bs } ∷ []) x.slots w.memory (one_fits t types.1 (record { width = width_of t; value = number_of bs }) refl)))
    simple_safe (StackStore v j offset) q types count slot has callees =
        let r = has.at v (inl refl) in
        let t = some_and (type_of x.func v) (λ t. IsSome (slot_place x.func j offset (bytes_in (width_of t)))) slot in
        let o = is_some_is (slot_place x.func j offset (bytes_in (width_of t.0))) t.2 in
        need_fine (x.env v) Stuck (λ y. need (slot_place x.func j offset (bytes_in y.width)) Stuck (λ o. Go [] (put_bytes x.slots j o (bytes_of (bytes_in y.width) y.value)) w.memory)) r.0 r.1
        (need_fine (slot_place x.func j offset (bytes_in r.0.width)) Stuck (λ o. Go [] (put_bytes x.slots j o (bytes_of (bytes_in r.0.width) r.0.value)) w.memory) o.0 (ap (λ z. slot_place x.func j offset (bytes_in z)) (width_is v t.0 t.1 r.0 r.1) ∙ o.1)
        (go_fine (sym q) [] (put_bytes x.slots j o.0 (bytes_of (bytes_in r.0.width) r.0.value)) w.memory (no_values_fit x.func l.results count)))
    simple_safe (FuncAddr j) q types count slot has callees =
        let c = get_some x.func.callees j callees.0 in
        let a = callee_address m x.func st.good.there j c.0 c.1 in
        need_fine (slice_get x.func.callees j) Stuck (λ c. need (address_of (names m) c.name) Stuck (λ a. Go (i64 a ∷ []) x.slots w.memory)) c.0 c.1
        (need_fine (address_of (names m) c.0.name) Stuck (λ a. Go (i64 a ∷ []) x.slots w.memory) a.0 a.1 (go_fine (sym q) (i64 a.0 ∷ []) x.slots w.memory (one_fits I64 types.1 (i64 a.0) refl)))
    simple_safe (Trap code) q types count slot has callees = tt
    simple_safe (Trapz v code) q types count slot has callees =
        let r = has.at v (inl refl) in
        need_fine (x.env v) Stuck (λ y. choose y.value (Go [] x.slots w.memory) (Stop (Trapped code))) r.0 r.1 (choose_fine r.0.value (Go [] x.slots w.memory) (Stop (Trapped code)) (go_fine (sym q) [] x.slots w.memory (no_values_fit x.func l.results count)) tt)
    simple_safe (Trapnz v code) q types count slot has callees =
        let r = has.at v (inl refl) in
        need_fine (x.env v) Stuck (λ y. choose y.value (Stop (Trapped code)) (Go [] x.slots w.memory)) r.0 r.1 (choose_fine r.0.value (Stop (Trapped code)) (Go [] x.slots w.memory) tt (go_fine (sym q) [] x.slots w.memory (no_values_fit x.func l.results count)))

    -- ---- branches

    jump_fine : (t : BlockCall) → In t (targets l.inst) → TargetTypes x.func [] [] t → Fine (go_to x.env t)
    jump_fine t is types =
        let r = target_values m x b i k l defs st t is [] [] types [] [] tt tt in
        need_fine (arg_values x.env [] [] t) Stuck (λ xs. Enter t.block xs) r.there.values r.there.is (enter_safe m x b i k l defs st t is r.block r.found s below w r.there.values r.there.fit)

    branch_safe : (c : Branch) → ((t : BlockCall) → In t (targets (Branches c)) → In t (targets l.inst)) → Each (TargetTypes x.func [] []) (targets (Branches c)) → Has x.env (operands (Branches c)) → Fine (branch x.env c)
    branch_safe (Jump t) is types has = jump_fine t (is t (inl refl)) types.0
    branch_safe (Brif v t u) is types has =
        let r = has.at v (inl refl) in
        need_fine (x.env v) Stuck (λ y. choose y.value (go_to x.env t) (go_to x.env u)) r.0 r.1 (choose_fine r.0.value (go_to x.env t) (go_to x.env u) (jump_fine t (is t (inl refl)) types.0) (jump_fine u (is u (inr (inl refl))) types.1.0))
    branch_safe (BrTable v default ts) is types has =
        let r = has.at v (inl refl) in
        let c = in_chosen ts default r.0.value in
        need_fine (x.env v) Stuck (λ y. go_to x.env (target_at ts default y.value)) r.0 r.1 (jump_fine (target_at ts default r.0.value) (is (target_at ts default r.0.value) c) (each_in (TargetTypes x.func [] []) (default ∷ ts) types (target_at ts default r.0.value) c))

    -- ---- calls

    called_there : (t : CallTarget) (sig : Sig) → signature_of x.func t ≡ Some sig → Has x.env (called_used t) → (c : Called) × (called x.env t ≡ Some c) × FoundOk (param_types sig.params) (param_types sig.results) (found m x.func c)
    called_there (Direct j) sig h has = (ByName j, refl, direct_ok x.func st.good j sig h)
    called_there (Indirect n a) sig h has =
        let r = has.at a (inl refl) in
        (ByAddress n r.0.value, ap (λ o. and_then o (λ (y : DataValue). Some (ByAddress n y.value))) r.1, indirect_ok x.func n r.0.value sig h)

    -- the parts of a call
    record Calling (t : CallTarget) (args : List ℕ) (sig : Sig) : Type 0 where
      c : Called
      is : called x.env t ≡ Some c
      ok : FoundOk (param_types sig.params) (param_types sig.results) (found m x.func c)
      there : There (all_of x.env args) (each_some (param_types sig.params))

    calling : (t : CallTarget) (args : List ℕ) (sig : Sig) → signature_of x.func t ≡ Some sig → HaveTypes x.func args (param_types sig.params) → Has x.env (called_used t ++ args) → Calling t args sig
    calling t args sig h types has =
        let c = called_there t sig h (record { at = λ v p. has.at v (in_left (called_used t) args v p) }) in
        record { c = c.0; is = c.1; ok = c.2; there = subst (There (all_of x.env args)) types (all_there x.func x.env st.typed args (record { at = λ v p. has.at v (in_right (called_used t) args v p) })) }

    call_fine : (t : CallTarget) (args : List ℕ) (sig : Sig) → Calling t args sig → Awaits x.func l.inst (param_types sig.results) → Fine (calls x.env t args false)
    call_fine t args sig r awaits =
        need_fine (called x.env t) Stuck (λ c. need (all_of x.env args) Stuck (λ xs. Do c xs false)) r.c r.is
        (need_fine (all_of x.env args) Stuck (λ xs. Do r.c xs false) r.there.values r.there.is
        (invoke_safe (found m x.func r.c) (param_types sig.params) (param_types sig.results) r.ok r.there.values [] r.there.fit (shown (record { line = l; frame = x } ∷ s)) (record { line = l; frame = x } ∷ s) (record { b = b; i = i; k = k; defs = defs; stands = st; from = from; awaits = awaits }, below) w))

    tail_fine : (t : CallTarget) (args : List ℕ) (sig : Sig) → Calling t args sig → param_types sig.results ≡ param_types x.func.sig.results → (ns : List ℕ) → numbers l.tags ≡ Some ns → Fine (calls x.env t args true)
    tail_fine t args sig r same ns tags =
        need_fine (called x.env t) Stuck (λ c. need (all_of x.env args) Stuck (λ xs. Do c xs true)) r.c r.is
        (need_fine (all_of x.env args) Stuck (λ xs. Do r.c xs true) r.there.values r.there.is
        (must_safe m w (numbers l.tags) Stuck (λ ns. invoke (found m x.func r.c) r.there.values (x.extra ++ ns) (shown (record { line = l; frame = x } ∷ s)) s w) ns tags
        (invoke_safe (found m x.func r.c) (param_types sig.params) (param_types sig.results) r.ok r.there.values (x.extra ++ ns) r.there.fit (shown (record { line = l; frame = x } ∷ s)) s (subst (λ z. SafeBelow m z s) (sym same) below) w)))

    -- ---- each instruction

    act_safe : (inst : Instruction) → l.inst ≡ inst → InstructionTypes x.func l inst → InstructionCounts x.func l inst → InstructionSlot x.func inst → InstructionTags l.tags inst → Has x.env (operands inst) → Each (λ k. k < length x.func.callees) (callees_used inst) → Fine (effect (names m) x.func x.env x.slots w.memory inst)
    act_safe (Plain p) q types counts slot tags has callees = simple_safe p (ap terminates (sym q)) types counts slot has callees
    act_safe (Branches c) q types counts slot tags has callees = branch_safe c (λ t r. subst (λ z. In t (targets z)) (sym q) r) types.1 has
    act_safe SequencePoint q types counts slot tags has callees =
        let goes : terminates l.inst ≡ false = ap terminates q in
        let after = next_line m x b i k l defs st goes in
        maybe_safe m w (shown (record { line = l; frame = x } ∷ s)) Unwritten (λ sh. On x s (with_event w (Point sh))) tt
        (λ sh e. (record { b = b; i = suc i; k = k; l = after.0; defs = l.results ++ defs; stands = record { good = st.good; found = st.found; line = after.1; reach = next st.reach k st.found l st.line goes; typed = st.typed; has = subst (λ z. Has x.env (z ++ defs)) (sym (no_results l.results counts)) st.has }; from = from }, below))
    act_safe (Return vs) q types counts slot tags has callees =
        let r = all_there x.func x.env st.typed vs has in
        need_fine (all_of x.env vs) Stuck (λ xs. Give xs) r.values r.is (resume_safe m (param_types x.func.sig.results) s below w r.values (subst (λ os. FitAll os r.values) types.1 r.fit))
    act_safe (Call t args) q types counts slot tags has callees =
        let r = some_and (signature_of x.func t) (λ sig. HaveTypes x.func args (param_types sig.params) × HaveTypes x.func l.results (param_types sig.results)) types.2 in
        call_fine t args r.0 (calling t args r.0 r.1 r.2.0 has) (subst (λ z. Awaits x.func z (param_types r.0.results)) (sym q) (r.0, r.1, refl))
    act_safe (ReturnCall t args) q types counts slot tags has callees =
        let r = some_and (signature_of x.func t) (λ sig. HaveTypes x.func args (param_types sig.params) × (param_types sig.results ≡ param_types x.func.sig.results)) types.2 in
        let ns = numbers_there l.tags tags in
        tail_fine t args r.0 (calling t args r.0 r.1 r.2.0 has) r.2.1 ns.0 ns.1
    act_safe (TryCall t sig args normal table) q types counts slot tags has callees =
        let r = some_and (signature_of x.func (call_target t sig)) (λ s. HaveTypes x.func args (param_types s.params) × (TargetTypes x.func (param_types s.results) [] normal × Each (TargetTypes x.func [] (I64 ∷ I64 ∷ [])) (table_targets table))) types.2 in
        call_fine (call_target t sig) args r.0 (calling (call_target t sig) args r.0 r.1 r.2.0 has) (subst (λ z. Awaits x.func z (param_types r.0.results)) (sym q) (r.0, r.1, refl))

    pub line_safe : Fine (effect (names m) x.func x.env x.slots w.memory l.inst)
    line_safe =
        act_safe l.inst refl (inst_types m x b i k l defs st) (rule_at m x.func st.good b i k l st.found st.line count_mismatch) (rule_at m x.func st.good b i k l st.found st.line slot_range) (rule_at m x.func st.good b i k l st.found st.line tag_place) (operands_there m x b i k l defs st) (line_whole x.func st.good.whole b k i l st.found st.line).callees
