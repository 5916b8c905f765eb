-- A step of the source is one or two of the result.
use Rattle.std.proofs.Common.{◌≡◌, ℕ, ◌⊎◌, inl, inr, List, [], ◌∷◌, ◌++◌, length, map, Option, Some, None, Bool, true, false, refl, sym, ap, ◌∙◌, subst, subst₂, append_assoc, append-nil, eq-eqb}
use Rattle.std.specs.Prelude.{slice_get, if◌then◌else◌}
use Rattle.ir_core.specs.declared.names.FuncName.{FuncName}
use Rattle.ir_core.specs.declared.signatures.Sig.{Sig}
use Rattle.ir_core.specs.declared.declarations.Callee.{Callee}
use Rattle.ir_core.specs.declared.instructions.BlockCall.{BlockCall}
use Rattle.exn_tables.specs.declared.table.Entry.{Entry}
use Rattle.debug_tags.specs.declared.tags.Tag.{Tag}
use Rattle.clk_num.specs.Operations.{DataValue}
use Rattle.ir_core.specs.declared.instructions.Arg.TheVariants as arg
use Rattle.debug_tags.specs.declared.tags.Tag.TheVariants as tag
use Rattle.ir_core.specs.Module.{Block, Branches, Call, CallTarget, Direct, Function, Indirect, Instruction, Line, Module, Plain, Return, ReturnCall, SequencePoint, TryCall, call_target, TryDirect, TryIndirect}
use Rattle.ir_core.specs.Lookup.{and_then, find_block, find_function, param_types}
use Rattle.ir_core.specs.Signatures.{same_sig}
use Rattle.ir_semantics.specs.Names.{name_at}
use Rattle.ir_semantics.specs.Names.{names as module_names}
use Rattle.ir_semantics.specs.Values.{Env, Memory, Slots, all_of, bind, cons_some, no_values, unwritten, values_for}
use Rattle.ir_semantics.specs.Machine.{BadReply, Frame, Host, HostAct, HostTraps, Moment, On, Over, Point, Reply, Returns, Shown, Stuck, Throws, Unwritten, Wait, World}
use Rattle.ir_semantics.specs.Effect.{ByAddress, ByName, Called, Do, Effect, Enter, Give, Go, ShowTags, Stop, called, calls, effect, go_to, need}
use Rattle.ir_semantics.specs.Step.{Found, Inside, Missing, Nowhere, Outside, act, answer, at_name, begin, by_address, by_name, enter, found, frame_at, give_to, invoke, must, numbers, or_missing, reply, resume, shown, step, step_at, with_event, writes_fit, written}
use Rattle.ir_semantics.specs.Runs.{shows}
use Rattle.ir_semantics.specs.Renaming.{Renaming, called_under, entry_under, instruction_under, line_under, tag_under, target_under, try_target_under}
use Rattle.ir_semantics.specs.Import.{sig_after}
use Rattle.ir_semantics.specs.Splice.{Kind, Last, Splicing, Tries, Within, after_block, args_of, callee_line, callee_names, caller_names, first_number, from, jump_in, kind_of, line_with, named_sig, new_results, returned_arg, spliced, tags_before, to_after, to_normal, try_with, try_target}
use Rattle.ir_semantics.proofs.SafetyTypes.{head_same}
use Rattle.ir_core.specs.Uses.{callee_of}
use Rattle.ir_core.proofs.Gets.{some_same}
use Rattle.inline_outcomes.proofs.Local.{Alike, Fits, Free, Injective, Keeps, Maps, SameCallee, SlotMaps, all_maps, bind_maps, called_maps, effect_like, found_under, keeps_all, slots_keep, named_target, try_target_called}
use Rattle.inline_outcomes.proofs.Frames.{Again, Embeds, Follows, Local, bind_follow, enter_follow, must_follow}
use Rattle.inline_outcomes.proofs.Related.{Below, Distinct, Joined, NotLast, Plainly, RestF, RestG, RestOf, Role, Stack, Tagged, TailRest, TriesHead, Waiting, Waits, WithinHead, alone, alone_top, caller, inside, inside_top, left, line_of, other, ren_of, stands}
use Rattle.inline_outcomes.proofs.Showing.{alone_shown, inside_shown, shown_below, tail_same, waiting_tagged}
use Rattle.inline_outcomes.proofs.Returning.{Foll, Pairs, all_vals, enter_is, give_after, give_returned, inside_again, inside_local, jump_is, resume_below, role_again, role_local, throw_below, waits_kept}
use Rattle.inline_outcomes.proofs.Effects.{Comes_to, IsPoint, IsReturn, IsTail, comes_to}

-- what an instruction does to a pair of frames, from what its calls and returns do
module _ (M R : Module) (Pairs' : Frame → List Wait → Frame → List Wait → Type 0) (r : Renaming) (Rest : List Line → List Line → Type 0) (x x' : Frame) (s s' : List Wait) (local : Local r Rest x x') (rest : Rest x.rest x'.rest) (again : Again R Pairs' r Rest x s x' s') (i i' : Line) (results : i'.results ≡ map r.value i.results) (w : World) where
  pub act_follow : (t t' : Effect) → Alike r (length x.func.slots) x'.slots t t' → Comes_to i.inst t → ((values : List DataValue) → IsReturn i.inst → Follows R Pairs' (resume values s w) (resume values s' w)) → (IsPoint i.inst → Follows R Pairs' (act M i x s w ShowTags) (act R i' x' s' w ShowTags)) → ((k : Called) (args : List DataValue) → Waiting i.inst → Follows R Pairs' (act M i x s w (Do k args false)) (act R i' x' s' w (Do (found_under r k) args false))) → ((k : Called) (args : List DataValue) → IsTail i.inst → Follows R Pairs' (act M i x s w (Do k args true)) (act R i' x' s' w (Do (found_under r k) args true))) → Follows R Pairs' (act M i x s w t) (act R i' x' s' w t')
  act_follow (Go values slots m) t' h c give mark call tail =
      subst₂ (λ t vs. Follows R Pairs' (act M i x s w (Go values slots m)) (act R (record i' { results = vs }) x' s' w t)) (sym h.1) (sym results) (bind_follow R Pairs' r Rest x x' s s' local again w i.results values x.rest x'.rest slots h.0 rest h.2 h.3 (record w { memory = m }))
  act_follow (Enter b values) t' h c give mark call tail =
      subst (λ t. Follows R Pairs' (enter x b values s w) (act R i' x' s' w t)) (sym h) (enter_follow R Pairs' r Rest x x' s s' local again w b values)
  act_follow (Give values) t' h c give mark call tail = subst (λ t. Follows R Pairs' (resume values s w) (act R i' x' s' w t)) (sym h) (give values c)
  act_follow ShowTags t' h c give mark call tail = subst (λ t. Follows R Pairs' (act M i x s w ShowTags) (act R i' x' s' w t)) (sym h) (mark c)
  act_follow (Do k args false) t' h c give mark call tail = subst (λ t. Follows R Pairs' (act M i x s w (Do k args false)) (act R i' x' s' w t)) (sym h) (call k args c)
  act_follow (Do k args true) t' h c give mark call tail = subst (λ t. Follows R Pairs' (act M i x s w (Do k args true)) (act R i' x' s' w t)) (sym h) (tail k args c)
  act_follow (Stop end) t' (inl free) c give mark call tail = inl free
  act_follow (Stop end) t' (inr h) c give mark call tail = inr (ap (act R i' x' s' w) h)

-- the first block of h' is that of h
pub record Starts (h h' : Function) (r : Renaming) (Rest : List Line → List Line → Type 0) : Type 0 where
  pub first : (b : Block) (bs : List Block) → h.blocks ≡ b ∷ bs → (b' : Block) × (bs' : List Block) × (h'.blocks ≡ b' ∷ bs') × (b'.params ≡ map r.value b.params) × Rest b.lines b'.lines

-- the two versions of a function
pub data Versions (S : Splicing) (h h' : Function) : Type 0 where
  renamed : (r : Renaming) → h'.sig ≡ h.sig → Embeds h h' r (RestOf r) → Starts h h' r (RestOf r) → Versions S h h'
  inlined : h ≡ S.caller → h' ≡ spliced S → Versions S h h'

abbrev pub LinkOf : (S : Splicing) → Option Function → Option Function → Type 0
LinkOf S None o = o ≡ None
LinkOf S (Some h) o = (h' : Function) × (o ≡ Some h') × Versions S h h'

-- M and R differ in the caller, which has the callee's body at the site in R
pub record Linked (M R : Module) (S : Splicing) : Type 0 where
  pub names : Distinct S.naming
  pub same_names : module_names M ≡ module_names R
  pub f_embeds : Embeds S.caller (spliced S) (caller_names S) (RestF S)
  pub f_starts : Starts S.caller (spliced S) (caller_names S) (RestF S)
  pub g_embeds : Embeds S.callee (spliced S) (callee_names S) (RestG S (kind_of S.site.inst))
  pub after_found : kind_of S.site.inst ≡ Within → find_block S.naming.after (spliced S).blocks ≡ Some (after_block S)
  pub funcs : (name : FuncName) → LinkOf S (find_function name M) (find_function name R)
  pub callee : ℕ
  pub is_call : callee_of S.site.inst ≡ Some callee
  pub calls_callee : (c : Callee) → slice_get S.caller.callees callee ≡ Some c → find_function c.name M ≡ Some S.callee

module _ (M R : Module) (S : Splicing) (linked : Linked M R S) where
  abbrev F : Moment → Moment → Type 0
  F = Foll S R linked.names

  B : List ℕ → List Wait → List Wait → Type 0
  B = Below S

  none_yet : (h : ℕ → ℕ) (e : Env) → Maps h no_values e
  none_yet h e = record { at = λ v x p. cc }

  no_bytes : (m : ℕ) (h : ℕ → ℕ) (s : Slots) → SlotMaps m h unwritten s
  no_bytes m h s = record { at = λ k o b below p. cc }

  -- R is there at once
  abbrev pub E : Moment → Moment → Type 0
  E (Over w end) t = Free end ⊎ (t ≡ Over w end)
  E (On x s w) t = (x' : Frame) × (s' : List Wait) × (t ≡ On x' s' w) × Pairs S R linked.names x s x' s'

  at_once : (t t' : Moment) → E t t' → F t t'
  at_once (Over w end) t' h = h
  at_once (On x s w) t' h = (h.0, h.1, inl h.2, h.3)

  -- a function begins
  pub begin_once : {d : List ℕ} {s s' : List Wait} → Below S d s s' → (h h' : Function) → Versions S h h' → (args : List DataValue) (extra extra' : List ℕ) → extra ≡ d ++ extra' → (w : World) → E (must w (begin h args extra) Stuck (λ y. On y s w)) (must w (begin h' args extra') Stuck (λ y. On y s' w))
  begin_once {d = d} {s = s} {s' = s'} b h h' v args extra extra' same w = go h.blocks refl
    where
      framed : (h1 : Function) (bl : Block) → List ℕ → Env → Frame
      framed h1 bl ex e = record { func = h1; rest = bl.lines; env = e; slots = unwritten; extra = ex }

      with_start : (r : Renaming) (Rest : List Line → List Line → Type 0) → Injective r.value → Starts h h' r Rest → ((bl bl' : Block) (e e' : Env) → Rest bl.lines bl'.lines → Maps r.value e e' → Pairs S R linked.names (record { func = h; rest = bl.lines; env = e; slots = unwritten; extra = extra }) s (record { func = h'; rest = bl'.lines; env = e'; slots = unwritten; extra = extra' }) s') → (bl : Block) (bs : List Block) → h.blocks ≡ bl ∷ bs → (o : Option Env) → bind bl.params args no_values ≡ o → E (must w (and_then o (λ e. Some (record { func = h; rest = bl.lines; env = e; slots = unwritten; extra = extra }))) Stuck (λ y. On y s w)) (must w (frame_at h' args extra' h'.blocks) Stuck (λ y. On y s' w))
      with_start r Rest inj starts make bl bs q None p = inl tt
      with_start r Rest inj starts make bl bs q (Some e) p =
          let st = starts.first bl bs q in
          let bd = bind_maps r.value inj bl.params args no_values no_values e (none_yet r.value no_values) p in
          let is : frame_at h' args extra' h'.blocks ≡ Some (record { func = h'; rest = st.0.lines; env = bd.0; slots = unwritten; extra = extra' }) = ap (frame_at h' args extra') st.2 ∙ ap (λ o. and_then o (λ e. Some (record { func = h'; rest = st.0.lines; env = e; slots = unwritten; extra = extra' }))) (ap (λ vs. bind vs args no_values) st.3 ∙ bd.1) in
          (record { func = h'; rest = st.0.lines; env = bd.0; slots = unwritten; extra = extra' }, s', ap (λ o. must w o Stuck (λ y. On y s' w)) is, make bl st.0 e bd.0 st.4 bd.2)

      by : (v : Versions S h h') (bl : Block) (bs : List Block) → h.blocks ≡ bl ∷ bs → E (must w (frame_at h args extra (bl ∷ bs)) Stuck (λ y. On y s w)) (must w (frame_at h' args extra' h'.blocks) Stuck (λ y. On y s' w))
      by (renamed r same_sig' embeds starts) bl bs q =
          with_start r (RestOf r) embeds.fits.value starts (λ bl bl' e e' rest m. alone_top (other r (record { embeds = embeds; env = m; slots = no_bytes _ _ unwritten }) rest same) b) bl bs q (bind bl.params args no_values) refl
      by (inlined hf ho) bl bs q =
          with_start (caller_names S) (RestF S) linked.names.caller_value (subst₂ (λ a c. Starts a c (caller_names S) (RestF S)) (sym hf) (sym ho) linked.f_starts) (λ bl bl' e e' rest m. alone_top (caller hf ho (record { embeds = subst₂ (λ a c. Embeds a c (caller_names S) (RestF S)) (sym hf) (sym ho) linked.f_embeds; env = m; slots = no_bytes _ _ unwritten }) rest same) b) bl bs q (bind bl.params args no_values) refl

      go : (bs : List Block) → h.blocks ≡ bs → E (must w (frame_at h args extra bs) Stuck (λ y. On y s w)) (must w (frame_at h' args extra' h'.blocks) Stuck (λ y. On y s' w))
      go [] q = inl tt
      go (bl ∷ bs) q = by v bl bs q

  begin_follow : {d : List ℕ} {s s' : List Wait} → Below S d s s' → (h h' : Function) → Versions S h h' → (args : List DataValue) (extra extra' : List ℕ) → extra ≡ d ++ extra' → (w : World) → F (must w (begin h args extra) Stuck (λ y. On y s w)) (must w (begin h' args extra') Stuck (λ y. On y s' w))
  begin_follow {s = s} {s' = s'} b h h' v args extra extra' same w =
      at_once (must w (begin h args extra) Stuck (λ y. On y s w)) (must w (begin h' args extra') Stuck (λ y. On y s' w)) (begin_once b h h' v args extra extra' same w)

  reply_follow : {d : List ℕ} {s s' : List Wait} → Below S d s s' → (sig : Sig) (w : World) (rs : List Reply) → F (reply sig s w rs) (reply sig s' w rs)
  reply_follow b sig w [] = inr refl
  reply_follow {s = s} {s' = s'} b sig w (r ∷ rs) = go (writes_fit r.writes (length w.memory))
    where
      back : (o : Option (List DataValue)) (w2 : World) → F (must w o BadReply (λ values. resume values s w2)) (must w o BadReply (λ values. resume values s' w2))
      back None w2 = inr refl
      back (Some values) w2 = resume_below S R linked.names linked.f_embeds linked.g_embeds linked.after_found b w2 values

      done : (a : HostAct) (w2 : World) → F (answer sig a s w w2) (answer sig a s' w w2)
      done (Returns zs) w2 = back (values_for (param_types sig.results) zs) w2
      done (HostTraps code) w2 = inr refl
      done (Throws t p q) w2 = throw_below S R linked.names linked.f_embeds linked.g_embeds linked.after_found b t p q w2 0

      go : (t : Bool) → F (if t then answer sig r.act s w (record { memory = written r.writes w.memory; replies = rs; events = w.events }) else Over w BadReply) (if t then answer sig r.act s' w (record { memory = written r.writes w.memory; replies = rs; events = w.events }) else Over w BadReply)
      go true = done r.act _
      go false = inr refl

  -- what a call finds in both

  abbrev FoundLike : Found → Found → Type 0
  FoundLike (Inside h) t = (h' : Function) × (t ≡ Inside h') × Versions S h h'
  FoundLike (Outside n sig) t = t ≡ Outside n sig
  FoundLike Nowhere t = t ≡ Nowhere
  FoundLike Missing t = Unit {0}

  version_sig : (h h' : Function) → Versions S h h' → h'.sig ≡ h.sig
  version_sig h h' (renamed r same embeds starts) = same
  version_sig h h' (inlined hf ho) = ap (λ z. z.sig) ho ∙ ap (λ z. z.sig) (sym hf)

  named_like : (o o' : Option Function) → LinkOf S o o' → (n : FuncName) (sig : Sig) → FoundLike (by_name o n sig) (by_name o' n sig)
  named_like None o' q n sig = ap (λ z. by_name z n sig) q
  named_like (Some h) o' v n sig = (v.0, ap (λ z. by_name z n sig) v.1, v.2)

  addressed_like : (o o' : Option Function) → LinkOf S o o' → (n : FuncName) (sig : Sig) → FoundLike (by_address o n sig) (by_address o' n sig)
  addressed_like None o' q n sig = ap (λ z. by_address z n sig) q
  addressed_like (Some h) o' v n sig =
      subst (λ z. FoundLike (by_address (Some h) n sig) (by_address z n sig)) (sym v.1) (subst (λ g. FoundLike (if same_sig h.sig sig then Inside h else Nowhere) (if same_sig g sig then Inside v.0 else Nowhere)) (sym (version_sig h v.0 v.2)) (go (same_sig h.sig sig)))
    where
      go : (b : Bool) → FoundLike (if b then Inside h else Nowhere) (if b then Inside v.0 else Nowhere)
      go true = (v.0, refl, v.2)
      go false = refl

  found_like : (x x' : Function) (r : Renaming) → Fits x x' r → (c : Called) → FoundLike (found M x c) (found R x' (found_under r c))
  found_like x x' r fits (ByName k) = go (slice_get x.callees k) refl
    where
      signed : (c c' : Callee) → slice_get x'.callees (r.callee k) ≡ Some c' → SameCallee x x' c c' → (o : Option Sig) → slice_get x.sigs c.sig ≡ o → FoundLike (or_missing o (λ sig. by_name (find_function c.name M) c.name sig)) (found R x' (ByName (r.callee k)))
      signed c c' h same None q = tt
      signed c c' h same (Some sig) q =
          let is : found R x' (ByName (r.callee k)) ≡ by_name (find_function c.name R) c.name sig = ap (λ o. or_missing o (λ c. or_missing (slice_get x'.sigs c.sig) (λ sig. by_name (find_function c.name R) c.name sig))) h ∙ ap (λ o. or_missing o (λ sig. by_name (find_function c'.name R) c'.name sig)) (same.sig sig q) ∙ ap (λ n. by_name (find_function n R) n sig) same.name in
          subst (FoundLike (by_name (find_function c.name M) c.name sig)) (sym is) (named_like (find_function c.name M) (find_function c.name R) (linked.funcs c.name) c.name sig)

      go : (o : Option Callee) → slice_get x.callees k ≡ o → FoundLike (or_missing o (λ c. or_missing (slice_get x.sigs c.sig) (λ sig. by_name (find_function c.name M) c.name sig))) (found R x' (ByName (r.callee k)))
      go None q = tt
      go (Some c) q = let p = fits.callee k c q in signed c p.0 p.1 p.2 (slice_get x.sigs c.sig) refl
  found_like x x' r fits (ByAddress k a) = go (slice_get x.sigs k) refl
    where
      named : (sig : Sig) (o : Option FuncName) → FoundLike (at_name M o sig) (at_name R o sig)
      named sig None = refl
      named sig (Some n) = addressed_like (find_function n M) (find_function n R) (linked.funcs n) n sig

      go : (o : Option Sig) → slice_get x.sigs k ≡ o → FoundLike (or_missing o (λ sig. at_name M (name_at (module_names M) a) sig)) (found R x' (ByAddress (r.sig k) a))
      go None q = tt
      go (Some sig) q =
          let is : found R x' (ByAddress (r.sig k) a) ≡ at_name R (name_at (module_names M) a) sig = ap (λ o. or_missing o (λ sig. at_name R (name_at (module_names R) a) sig)) (fits.sig k sig q) ∙ ap (λ ns. at_name R (name_at ns a) sig) (sym linked.same_names) in
          subst (FoundLike (at_name M (name_at (module_names M) a) sig)) (sym is) (named sig (name_at (module_names M) a))

  invoke_follow : {d : List ℕ} {s s' : List Wait} → Below S d s s' → (o o' : Found) → FoundLike o o' → (args : List DataValue) (extra extra' : List ℕ) → extra ≡ d ++ extra' → (shows shows' : Option (List Shown)) → ((sh : List Shown) → shows ≡ Some sh → shows' ≡ Some sh) → (w : World) → F (invoke o args extra shows s w) (invoke o' args extra' shows' s' w)
  invoke_follow {s = s} {s' = s'} b (Inside h) o' v args extra extra' same shows shows' sh w =
      subst (λ z. F (must w (begin h args extra) Stuck (λ y. On y s w)) (invoke z args extra' shows' s' w)) (sym v.1) (begin_follow b h v.0 v.2 args extra extra' same w)
  invoke_follow {s = s} {s' = s'} b (Outside n sig) o' h args extra extra' same shows shows' sh w =
      subst (λ z. F (invoke (Outside n sig) args extra shows s w) (invoke z args extra' shows' s' w)) (sym h) (must_follow R (Pairs S R linked.names) w shows shows' Unwritten (λ z. reply sig s (with_event w (Host n args z)) w.replies) (λ z. reply sig s' (with_event w (Host n args z)) w.replies) tt (λ z q. (z, sh z q, reply_follow b sig (with_event w (Host n args z)) w.replies)))
  invoke_follow {s = s} {s' = s'} b Nowhere o' h args extra extra' same shows shows' sh w = inr (ap (λ z. invoke z args extra' shows' s' w) h)
  invoke_follow b Missing o' h args extra extra' same shows shows' sh w = inl tt

  effect_linked : (f f' : Function) (r : Renaming) (fits : Fits f f' r) (e e' : Env) (maps : Maps r.value e e') (t t' : Slots) (slots : SlotMaps (length f.slots) r.slot t t') (m : Memory) (i : Instruction) → Alike r (length f.slots) t' (effect (module_names M) f e t m i) (effect (module_names R) f' e' t' m (instruction_under r i))
  effect_linked f f' r fits e e' maps t t' slots m i =
      subst (λ ns. Alike r (length f.slots) t' (effect (module_names M) f e t m i) (effect ns f' e' t' m (instruction_under r i))) linked.same_names (effect_like (module_names M) f f' r fits e e' maps t t' slots m i)

  -- a frame that is one frame

  Ro : List ℕ → Frame → Frame → Type 0
  Ro = Role S

  role_shown : {d : List ℕ} {s s' : List Wait} (x x' : Frame) (role : Role S d x x') → Below S d s s' → (i : Line) → Tagged i.inst → (sh : List Shown) → shown (record { line = i; frame = x } ∷ s) ≡ Some sh → shown (record { line = line_of S role i; frame = x' } ∷ s') ≡ Some sh
  role_shown {d = d} {s = s} {s' = s'} x x' role b i tagged sh e =
      alone_shown S linked.f_embeds.fits linked.g_embeds.fits d (record { line = i; frame = x }) (record { line = line_of S role i; frame = x' }) s s' role refl tagged sh (λ a h. shown_below S linked.f_embeds.fits linked.g_embeds.fits b a h) e

  marks_tagged : (i : Instruction) → IsPoint i → Tagged i
  marks_tagged SequencePoint h = tt
  marks_tagged (Call a c) h = tt
  marks_tagged (ReturnCall a c) h = tt
  marks_tagged (TryCall a sg b c d) h = tt
  marks_tagged (Plain p0) h = h
  marks_tagged (Branches c0) h = h
  marks_tagged (Return a) h = h

  tails_tagged : (i : Instruction) → IsTail i → Tagged i
  tails_tagged SequencePoint h = tt
  tails_tagged (Call a c) h = tt
  tails_tagged (ReturnCall a c) h = tt
  tails_tagged (TryCall a sg b c d) h = tt
  tails_tagged (Plain p0) h = h
  tails_tagged (Branches c0) h = h
  tails_tagged (Return a) h = h

  numbers_ren : (r : Renaming) (ts : List Tag) (ns : List ℕ) → numbers ts ≡ Some ns → numbers (map (tag_under r) ts) ≡ Some ns
  numbers_ren r [] ns e = e
  numbers_ren r (tag.User m ∷ ts) ns e = go (λ ms q. numbers_ren r ts ms q) (numbers ts) refl e
    where
      go : ((ms : List ℕ) → numbers ts ≡ Some ms → numbers (map (tag_under r) ts) ≡ Some ms) → (o : Option (List ℕ)) → numbers ts ≡ o → cons_some (Some m) o ≡ Some ns → cons_some (Some m) (numbers (map (tag_under r) ts)) ≡ Some ns
      go ih None q e = cc
      go ih (Some ms) q e = ap (cons_some (Some m)) (ih ms q) ∙ e
  numbers_ren r (tag.Slot k ∷ ts) ns e = cc

  numbers_append : (us ts : List Tag) (ms ns : List ℕ) → numbers us ≡ Some ms → numbers ts ≡ Some ns → numbers (us ++ ts) ≡ Some (ms ++ ns)
  numbers_append [] ts ms ns h k = k ∙ ap (λ z. Some (z ++ ns)) (some_same h)
  numbers_append (tag.User m ∷ us) ts ms ns h k = go (λ zs q. numbers_append us ts zs ns q k) (numbers us) refl h
    where
      go : ((zs : List ℕ) → numbers us ≡ Some zs → numbers (us ++ ts) ≡ Some (zs ++ ns)) → (o : Option (List ℕ)) → numbers us ≡ o → cons_some (Some m) o ≡ Some ms → cons_some (Some m) (numbers (us ++ ts)) ≡ Some (ms ++ ns)
      go ih None q e = cc
      go ih (Some zs) q e = ap (cons_some (Some m)) (ih zs q) ∙ ap (λ z. Some (z ++ ns)) (some_same e)
  numbers_append (tag.Slot j ∷ us) ts ms ns h k = cc

  tails_before : (i : Instruction) (us ts : List Tag) → IsTail i → tags_before i us ts ≡ us ++ ts
  tails_before (ReturnCall a c) us ts h = refl
  tails_before SequencePoint us ts h = refl
  tails_before (Call a c) us ts h = refl
  tails_before (TryCall a sg b c d) us ts h = refl
  tails_before (Plain p0) us ts h = elim h [ ]
  tails_before (Branches c0) us ts h = elim h [ ]
  tails_before (Return a) us ts h = elim h [ ]

  -- the numbers that a call in place of the frame hands on
  role_numbers : {d : List ℕ} (x x' : Frame) (role : Role S d x x') (i : Line) → IsTail i.inst → (ns : List ℕ) → numbers i.tags ≡ Some ns → (ns' : List ℕ) × (numbers (line_of S role i).tags ≡ Some ns') × (x.extra ++ ns ≡ d ++ (x'.extra ++ ns'))
  role_numbers {d = d} x x' (other r local rest extra) i tails ns e = (ns, numbers_ren r i.tags ns e, ap (λ z. z ++ ns) extra ∙ append_assoc d x'.extra ns)
  role_numbers {d = d} x x' (caller func func' local rest extra) i tails ns e = (ns, numbers_ren (caller_names S) i.tags ns e, ap (λ z. z ++ ns) extra ∙ append_assoc d x'.extra ns)
  role_numbers {d = d} x x' (stands ms tags last local rest extra) i tails ns e =
      (ms ++ ns, ap numbers (tails_before i.inst _ _ tails) ∙ numbers_append (map (tag_under (caller_names S)) S.site.tags) (map (tag_under (callee_names S)) i.tags) ms ns (numbers_ren (caller_names S) S.site.tags ms tags) (numbers_ren (callee_names S) i.tags ns e), ap (λ z. z ++ ns) extra ∙ append_assoc d (x'.extra ++ ms) ns ∙ ap (λ z. d ++ z) (append_assoc x'.extra ms ns))

  module _ {d : List ℕ} {s s' : List Wait} (x x' : Frame) (role : Role S d x x') (b : Below S d s s') (i : Line) (w : World) where
    role_mark : IsPoint i.inst → F (act M i x s w ShowTags) (act R (line_of S role i) x' s' w ShowTags)
    role_mark h =
        must_follow R (Pairs S R linked.names) w (shown (record { line = i; frame = x } ∷ s)) (shown (record { line = line_of S role i; frame = x' } ∷ s')) Unwritten (λ sh. On x s (with_event w (Point sh))) (λ sh. On x' s' (with_event w (Point sh))) tt (λ sh q. (sh, role_shown x x' role b i (marks_tagged i.inst h) sh q, (x', s', inl refl, alone_top role b)))

    role_call : (k : Called) (args : List DataValue) → Waiting i.inst → F (act M i x s w (Do k args false)) (act R (line_of S role i) x' s' w (Do (found_under (ren_of S role) k) args false))
    role_call k args h =
        invoke_follow (alone role refl h b) (found M x.func k) (found R x'.func (found_under (ren_of S role) k)) (found_like x.func x'.func (ren_of S role) (role_local S R linked.names role).embeds.fits k) args [] [] refl (shown (record { line = i; frame = x } ∷ s)) (shown (record { line = line_of S role i; frame = x' } ∷ s')) (role_shown x x' role b i (waiting_tagged i.inst h)) w

    role_tail : (k : Called) (args : List DataValue) → IsTail i.inst → F (act M i x s w (Do k args true)) (act R (line_of S role i) x' s' w (Do (found_under (ren_of S role) k) args true))
    role_tail k args h =
        must_follow R (Pairs S R linked.names) w (numbers i.tags) (numbers (line_of S role i).tags) Stuck (λ ns. invoke (found M x.func k) args (x.extra ++ ns) (shown (record { line = i; frame = x } ∷ s)) s w) (λ ns. invoke (found R x'.func (found_under (ren_of S role) k)) args (x'.extra ++ ns) (shown (record { line = line_of S role i; frame = x' } ∷ s')) s' w) tt (λ ns e.
        let p = role_numbers x x' role i h ns e in
        (p.0, p.1, invoke_follow b (found M x.func k) (found R x'.func (found_under (ren_of S role) k)) (found_like x.func x'.func (ren_of S role) (role_local S R linked.names role).embeds.fits k) args (x.extra ++ ns) (x'.extra ++ p.0) p.2 (shown (record { line = i; frame = x } ∷ s)) (shown (record { line = line_of S role i; frame = x' } ∷ s')) (role_shown x x' role b i (tails_tagged i.inst h)) w))

    role_gives : (values : List DataValue) → IsReturn i.inst → F (resume values s w) (resume values s' w)
    role_gives values h = resume_below S R linked.names linked.f_embeds linked.g_embeds linked.after_found b w values

  role_step : {d : List ℕ} {s s' : List Wait} (x x' : Frame) (role : Role S d x x') → Below S d s s' → (i : Line) (w : World) → F (act M i x s w (effect (module_names M) x.func x.env x.slots w.memory i.inst)) (act R (line_of S role i) x' s' w (effect (module_names R) x'.func x'.env x'.slots w.memory (line_of S role i).inst))
  role_step {s = s} {s' = s'} x x' (other r local rest extra) b i w =
      act_follow M R (Pairs S R linked.names) r (RestOf r) x x' s s' local rest (role_again S R linked.names (other r local rest extra) b) i (line_under r i) refl w (effect (module_names M) x.func x.env x.slots w.memory i.inst) (effect (module_names R) x'.func x'.env x'.slots w.memory (instruction_under r i.inst)) (effect_linked x.func x'.func r local.embeds.fits x.env x'.env local.env x.slots x'.slots local.slots w.memory i.inst) (comes_to (module_names M) x.func x.env x.slots w.memory i.inst) (role_gives x x' (other r local rest extra) b i w) (role_mark x x' (other r local rest extra) b i w) (role_call x x' (other r local rest extra) b i w) (role_tail x x' (other r local rest extra) b i w)
  role_step {s = s} {s' = s'} x x' (caller func func' local rest extra) b i w =
      act_follow M R (Pairs S R linked.names) (caller_names S) (RestF S) x x' s s' local rest (role_again S R linked.names (caller func func' local rest extra) b) i (line_under (caller_names S) i) refl w (effect (module_names M) x.func x.env x.slots w.memory i.inst) (effect (module_names R) x'.func x'.env x'.slots w.memory (instruction_under (caller_names S) i.inst)) (effect_linked x.func x'.func (caller_names S) local.embeds.fits x.env x'.env local.env x.slots x'.slots local.slots w.memory i.inst) (comes_to (module_names M) x.func x.env x.slots w.memory i.inst) (role_gives x x' (caller func func' local rest extra) b i w) (role_mark x x' (caller func func' local rest extra) b i w) (role_call x x' (caller func func' local rest extra) b i w) (role_tail x x' (caller func func' local rest extra) b i w)
  role_step {s = s} {s' = s'} x x' (stands ns tags last local rest extra) b i w =
      act_follow M R (Pairs S R linked.names) (callee_names S) (RestG S Last) x x' s s' local rest (role_again S R linked.names (stands ns tags last local rest extra) b) i (callee_line S i) refl w (effect (module_names M) x.func x.env x.slots w.memory i.inst) (effect (module_names R) x'.func x'.env x'.slots w.memory (instruction_under (callee_names S) i.inst)) (effect_linked x.func x'.func (callee_names S) local.embeds.fits x.env x'.env local.env x.slots x'.slots local.slots w.memory i.inst) (comes_to (module_names M) x.func x.env x.slots w.memory i.inst) (role_gives x x' (stands ns tags last local rest extra) b i w) (role_mark x x' (stands ns tags last local rest extra) b i w) (role_call x x' (stands ns tags last local rest extra) b i w) (role_tail x x' (stands ns tags last local rest extra) b i w)

  -- two frames that are one

  module _ {d : List ℕ} {k : Kind} {s s' : List Wait} (x : Frame) (z : Wait) (x' : Frame) (kind : kind_of S.site.inst ≡ k) (in' : Joined S d k x z x') (b : Below S d s s') (i : Line) (w : World) where
    in_on : (t : List Line) → Joined S d k x z (record x' { rest = t })
    in_on t =
        record {
          waits = waits_kept S R linked.names linked.f_embeds linked.g_embeds in'.waits t x'.env x'.slots (keeps_all S.naming.callee_value x'.env) (slots_keep (callee_names S).slot x'.slots);
          not_last = in'.not_last;
          func = in'.func;
          env = in'.env;
          slots = in'.slots;
          extra = in'.extra;
        }

    in_shown : (i' : Line) (t : List Line) → RestG S k (i ∷ x.rest) (i' ∷ t) → Tagged i.inst → (sh : List Shown) → shown (record { line = i; frame = x } ∷ (z ∷ s)) ≡ Some sh → shown (record { line = i'; frame = record x' { rest = t } } ∷ s') ≡ Some sh
    in_shown i' t h tagged sh e =
        inside_shown S linked.f_embeds.fits linked.g_embeds.fits d k (record { line = i; frame = x }) z (record { line = i'; frame = record x' { rest = t } }) s s' (in_on t) h tagged sh (λ a q. shown_below S linked.f_embeds.fits linked.g_embeds.fits b a q) e

    in_fits : Fits x.func x'.func (callee_names S)
    in_fits = (inside_local S R linked.names linked.f_embeds linked.g_embeds kind in').embeds.fits

    in_do : (i' : Line) (t : List Line) → RestG S k (i ∷ x.rest) (i' ∷ t) → Waiting i.inst → (j : Called) (args : List DataValue) → F (act M i x (z ∷ s) w (Do j args false)) (act R i' (record x' { rest = t }) s' w (Do (found_under (callee_names S) j) args false))
    in_do i' t h waiting j args =
        invoke_follow (inside k kind (in_on t) h waiting b) (found M x.func j) (found R x'.func (found_under (callee_names S) j)) (found_like x.func x'.func (callee_names S) in_fits j) args [] [] refl (shown (record { line = i; frame = x } ∷ (z ∷ s))) (shown (record { line = i'; frame = record x' { rest = t } } ∷ s')) (in_shown i' t h (waiting_tagged i.inst waiting)) w

    -- what is called, and with which values, is found in both
    in_called : (t : CallTarget) (c : Called) → called x.env t ≡ Some c → called x'.env (called_under (callee_names S) t) ≡ Some (found_under (callee_names S) c)
    in_called t c q = called_maps [] x.func x'.func (callee_names S) in_fits x.env x'.env in'.env x.slots x'.slots (inside_local S R linked.names linked.f_embeds linked.g_embeds kind in').slots t c q

    in_calls : (i' : Line) (t : List Line) (tail : Bool) (j : CallTarget) (args : List ℕ) → ((c : Called) (xs : List DataValue) → F (act M i x (z ∷ s) w (Do c xs tail)) (act R i' (record x' { rest = t }) s' w (Do (found_under (callee_names S) c) xs false))) → F (act M i x (z ∷ s) w (calls x.env j args tail)) (act R i' (record x' { rest = t }) s' w (calls x'.env (called_under (callee_names S) j) (map S.naming.callee_value args) false))
    in_calls i' t tail j args does = go (called x.env j) refl
      where
        with_args : (c : Called) (o : Option (List DataValue)) → all_of x.env args ≡ o → F (act M i x (z ∷ s) w (need o Stuck (λ xs. Do c xs tail))) (act R i' (record x' { rest = t }) s' w (need (all_of x'.env (map S.naming.callee_value args)) Stuck (λ xs. Do (found_under (callee_names S) c) xs false)))
        with_args c None e = inl tt
        with_args c (Some xs) e =
            subst (λ o. F (act M i x (z ∷ s) w (Do c xs tail)) (act R i' (record x' { rest = t }) s' w (need o Stuck (λ ys. Do (found_under (callee_names S) c) ys false)))) (sym (all_maps x.env x'.env S.naming.callee_value in'.env.at args xs e)) (does c xs)

        go : (o : Option Called) → called x.env j ≡ o → F (act M i x (z ∷ s) w (need o Stuck (λ c. need (all_of x.env args) Stuck (λ xs. Do c xs tail)))) (act R i' (record x' { rest = t }) s' w (calls x'.env (called_under (callee_names S) j) (map S.naming.callee_value args) false))
        go None e = inl tt
        go (Some c) e =
            subst (λ o. F (act M i x (z ∷ s) w (need (all_of x.env args) Stuck (λ xs. Do c xs tail))) (act R i' (record x' { rest = t }) s' w (need o Stuck (λ c. need (all_of x'.env (map S.naming.callee_value args)) Stuck (λ xs. Do c xs false))))) (sym (in_called j c e)) (with_args c (all_of x.env args) refl)

    in_call : (i' : Line) (t : List Line) → RestG S k (i ∷ x.rest) (i' ∷ t) → Waiting i.inst → (j : CallTarget) (args : List ℕ) → F (act M i x (z ∷ s) w (calls x.env j args false)) (act R i' (record x' { rest = t }) s' w (calls x'.env (called_under (callee_names S) j) (map S.naming.callee_value args) false))
    in_call i' t h waiting j args = in_calls i' t false j args (in_do i' t h waiting)

    -- a call in place of g's frame, which waits in the result
    in_leave : (i' : Line) (t : List Line) → RestG S k (i ∷ x.rest) (i' ∷ t) → IsTail i.inst → TailRest S k i' t → i'.tags ≡ map (tag_under (caller_names S)) S.site.tags ++ map (tag_under (callee_names S)) i.tags → (j : CallTarget) (args : List ℕ) → F (act M i x (z ∷ s) w (calls x.env j args true)) (act R i' (record x' { rest = t }) s' w (calls x'.env (called_under (callee_names S) j) (map S.naming.callee_value args) false))
    in_leave i' t h tails tail_rest tags j args = in_calls i' t true j args (λ c xs. numbered c xs (numbers i.tags) refl)
      where
        numbered : (c : Called) (xs : List DataValue) (o : Option (List ℕ)) → numbers i.tags ≡ o → F (must w o Stuck (λ ns. invoke (found M x.func c) xs (x.extra ++ ns) (shown (record { line = i; frame = x } ∷ (z ∷ s))) (z ∷ s) w)) (invoke (found R x'.func (found_under (callee_names S) c)) xs [] (shown (record { line = i'; frame = record x' { rest = t } } ∷ s')) (record { line = i'; frame = record x' { rest = t } } ∷ s') w)
        numbered c xs None e = inl tt
        numbered c xs (Some ns) e =
            let below : Below S ns (z ∷ s) (record { line = i'; frame = record x' { rest = t } } ∷ s') = left k kind (in_on t).waits tail_rest i.tags e tags b in
            let same : x.extra ++ ns ≡ ns ++ [] = ap (λ y. y ++ ns) in'.extra ∙ sym (append-nil ns) in
            invoke_follow below (found M x.func c) (found R x'.func (found_under (callee_names S) c)) (found_like x.func x'.func (callee_names S) in_fits c) xs (x.extra ++ ns) [] same (shown (record { line = i; frame = x } ∷ (z ∷ s))) (shown (record { line = i'; frame = record x' { rest = t } } ∷ s')) (in_shown i' t h (tails_tagged i.inst tails)) w

    in_return : k ≡ Within → (vs : List ℕ) (t : List Line) → x'.rest ≡ to_after S (map S.naming.callee_value vs) ∷ t → F (act M i x (z ∷ s) w (need (all_of x.env vs) Stuck (λ xs. Give xs))) (step R x' s' w)
    in_return within vs t rest = go (all_of x.env vs) refl
      where
        go : (o : Option (List DataValue)) → all_of x.env vs ≡ o → F (act M i x (z ∷ s) w (need o Stuck (λ xs. Give xs))) (step R x' s' w)
        go None e = inl tt
        go (Some xs) e =
            let q = jump_is S R linked.names linked.f_embeds linked.g_embeds x' s' w (map S.naming.callee_value vs) t xs rest (all_maps x.env x'.env S.naming.callee_value in'.env.at vs xs e) in
            let core = give_after S R linked.names linked.f_embeds linked.g_embeds linked.after_found S.site.inst (kind ∙ within) (kind ∙ within) in'.waits b w xs in
            let core' = subst (λ m. F (give_to m.inst m.results xs z.frame s w) (enter x' S.naming.after xs s' w)) (sym in'.waits.line) core in
            subst (λ m. F (give_to z.line.inst z.line.results xs z.frame s w) m) (sym q) core'

    in_return_normal : (normal : BlockCall) (table : List (Entry BlockCall)) → k ≡ Tries normal table → (vs : List ℕ) (t : List Line) → x'.rest ≡ to_normal S normal vs ∷ t → F (act M i x (z ∷ s) w (need (all_of x.env vs) Stuck (λ xs. Give xs))) (step R x' s' w)
    in_return_normal normal table tries vs t rest = go (all_of x.env vs) refl
      where
        go : (o : Option (List DataValue)) → all_of x.env vs ≡ o → F (act M i x (z ∷ s) w (need o Stuck (λ xs. Give xs))) (step R x' s' w)
        go None e = inl tt
        go (Some xs) e =
            let core = give_returned S R linked.names linked.f_embeds linked.g_embeds linked.after_found S.site.inst normal table (kind ∙ tries) (in_on t).waits b w vs xs (all_maps x.env x'.env S.naming.callee_value in'.env.at vs xs e) in
            let core' = subst (λ m. F (give_to m.inst m.results xs z.frame s w) (act R (to_normal S normal vs) (record x' { rest = t }) s' w (go_to x'.env (record { block = S.naming.caller_block normal.block; args = map (returned_arg S vs) normal.args })))) (sym in'.waits.line) core in
            subst (λ ls. F (give_to z.line.inst z.line.results xs z.frame s w) (step_at R x' ls s' w)) (sym rest) core'

    -- any other line
    in_plain : (IsReturn i.inst → ⊥) → (IsTail i.inst → ⊥) → (t : List Line) → x'.rest ≡ callee_line S i ∷ t → RestG S k x.rest t → RestG S k (i ∷ x.rest) (callee_line S i ∷ t) → F (act M i x (z ∷ s) w (effect (module_names M) x.func x.env x.slots w.memory i.inst)) (step R x' s' w)
    in_plain no_return no_tail t rest more h =
        let local = inside_local S R linked.names linked.f_embeds linked.g_embeds kind in' in
        let local' = inside_local S R linked.names linked.f_embeds linked.g_embeds kind (in_on t) in
        let again = inside_again S R linked.names linked.f_embeds linked.g_embeds kind (in_on t) b in
        subst (λ ls. F (act M i x (z ∷ s) w (effect (module_names M) x.func x.env x.slots w.memory i.inst)) (step_at R x' ls s' w)) (sym rest) (act_follow M R (Pairs S R linked.names) (callee_names S) (RestG S k) x (record x' { rest = t }) (z ∷ s) s' local' more again i (callee_line S i) refl w (effect (module_names M) x.func x.env x.slots w.memory i.inst) (effect (module_names R) x'.func x'.env x'.slots w.memory (instruction_under (callee_names S) i.inst)) (effect_linked x.func x'.func (callee_names S) local.embeds.fits x.env x'.env local.env x.slots x'.slots local.slots w.memory i.inst) (comes_to (module_names M) x.func x.env x.slots w.memory i.inst) (λ values r. absurd (no_return r)) (λ r. marked (marks_tagged i.inst r)) (λ j args r. in_do (callee_line S i) t h r j args) (λ j args r. absurd (no_tail r)))
      where
        marked : Tagged i.inst → F (act M i x (z ∷ s) w ShowTags) (act R (callee_line S i) (record x' { rest = t }) s' w ShowTags)
        marked tagged =
            must_follow R (Pairs S R linked.names) w (shown (record { line = i; frame = x } ∷ (z ∷ s))) (shown (record { line = callee_line S i; frame = record x' { rest = t } } ∷ s')) Unwritten (λ sh. On x (z ∷ s) (with_event w (Point sh))) (λ sh. On (record x' { rest = t }) s' (with_event w (Point sh))) tt (λ sh q. (sh, in_shown (callee_line S i) t h tagged sh q, (record x' { rest = t }, s', inl refl, inside_top k kind (in_on t) more b)))

  module _ {d : List ℕ} {s s' : List Wait} (x : Frame) (z : Wait) (x' : Frame) (b : Below S d s s') (i : Line) (w : World) where
    module _ (kind : kind_of S.site.inst ≡ Within) (in' : Joined S d Within x z x') where
      plain_within : (inst : Instruction) → i.inst ≡ inst → (IsReturn inst → ⊥) → (IsTail inst → ⊥) → (h : Plainly S i (RestG S Within x.rest) x'.rest) → WithinHead S inst i (RestG S Within x.rest) (callee_line S i ∷ h.0) → F (act M i x (z ∷ s) w (effect (module_names M) x.func x.env x.slots w.memory i.inst)) (step R x' s' w)
      plain_within inst q no_return no_tail h head =
          in_plain x z x' kind in' b i w (λ r. no_return (subst IsReturn q r)) (λ r. no_tail (subst IsTail q r)) h.0 h.1 h.2 (subst (λ y. WithinHead S y i (RestG S Within x.rest) (callee_line S i ∷ h.0)) (sym q) head)

      within_step : (inst : Instruction) → i.inst ≡ inst → WithinHead S inst i (RestG S Within x.rest) x'.rest → F (act M i x (z ∷ s) w (effect (module_names M) x.func x.env x.slots w.memory i.inst)) (step R x' s' w)
      within_step (Return vs) q h = subst (λ y. F (act M i x (z ∷ s) w (effect (module_names M) x.func x.env x.slots w.memory y)) (step R x' s' w)) (sym q) (in_return x z x' kind in' b i w refl vs h.0 h.1)
      within_step (ReturnCall j args) q (c, t, rest) =
          let i' : Line = line_with S i (Call (called_under (callee_names S) j) (map S.naming.callee_value args)) (new_results S c) in
          let t' : List Line = to_after S (new_results S c) ∷ t in
          let head : RestG S Within (i ∷ x.rest) (i' ∷ t') = subst (λ y. WithinHead S y i (RestG S Within x.rest) (i' ∷ t')) (sym q) (c, t, refl) in
          let tails : IsTail i.inst = subst IsTail (sym q) tt in
          let core = in_leave x z x' kind in' b i w i' t' head tails (c, called_under (callee_names S) j, map S.naming.callee_value args, t, refl, refl, refl) (tails_before i.inst (map (tag_under (caller_names S)) S.site.tags) (map (tag_under (callee_names S)) i.tags) tails) j args in
          subst₂ (λ y ls. F (act M i x (z ∷ s) w (effect (module_names M) x.func x.env x.slots w.memory y)) (step_at R x' ls s' w)) (sym q) (sym rest) core
      within_step (Call a c) q h = plain_within (Call a c) q (λ r. r) (λ r. r) h (h.0, refl, h.2)
      within_step (TryCall a sg c e j) q h = plain_within (TryCall a sg c e j) q (λ r. r) (λ r. r) h (h.0, refl, h.2)
      within_step (Plain p0) q h = plain_within (Plain p0) q (λ r. r) (λ r. r) h (h.0, refl, h.2)
      within_step SequencePoint q h = plain_within SequencePoint q (λ r. r) (λ r. r) h (h.0, refl, h.2)
      within_step (Branches c0) q h = plain_within (Branches c0) q (λ r. r) (λ r. r) h (h.0, refl, h.2)

    module _ (normal : BlockCall) (table : List (Entry BlockCall)) (kind : kind_of S.site.inst ≡ Tries normal table) (in' : Joined S d (Tries normal table) x z x') where
      More : List Line → Type 0
      More = RestG S (Tries normal table) x.rest

      plain_tries : (inst : Instruction) → i.inst ≡ inst → (IsReturn inst → ⊥) → (IsTail inst → ⊥) → (h : Plainly S i (RestG S (Tries normal table) x.rest) x'.rest) → TriesHead S normal table inst i (RestG S (Tries normal table) x.rest) (callee_line S i ∷ h.0) → F (act M i x (z ∷ s) w (effect (module_names M) x.func x.env x.slots w.memory i.inst)) (step R x' s' w)
      plain_tries inst q no_return no_tail h head =
          in_plain x z x' kind in' b i w (λ r. no_return (subst IsReturn q r)) (λ r. no_tail (subst IsTail q r)) h.0 h.1 h.2 (subst (λ y. TriesHead S normal table y i (RestG S (Tries normal table) x.rest) (callee_line S i ∷ h.0)) (sym q) head)

      tries_step : (inst : Instruction) → i.inst ≡ inst → TriesHead S normal table inst i (RestG S (Tries normal table) x.rest) x'.rest → F (act M i x (z ∷ s) w (effect (module_names M) x.func x.env x.slots w.memory i.inst)) (step R x' s' w)
      tries_step (Return vs) q h = subst (λ y. F (act M i x (z ∷ s) w (effect (module_names M) x.func x.env x.slots w.memory y)) (step R x' s' w)) (sym q) (in_return_normal x z x' kind in' b i w normal table refl vs h.0 h.1)
      tries_step (ReturnCall j args) q (t, rest) =
          let i' : Line = try_with S i (try_target (called_under (callee_names S) j)) (named_sig S (called_under (callee_names S) j)) args (target_under (caller_names S) normal) (map (entry_under (caller_names S)) table) in
          let head : RestG S (Tries normal table) (i ∷ x.rest) (i' ∷ t) = subst (λ y. TriesHead S normal table y i (RestG S (Tries normal table) x.rest) (i' ∷ t)) (sym q) (t, refl) in
          let tails : IsTail i.inst = subst IsTail (sym q) tt in
          let core =
          subst (λ u. F (act M i x (z ∷ s) w (calls x.env j args true)) (act R i' (record x' { rest = t }) s' w (calls x'.env u (map S.naming.callee_value args) false))) (sym (named_target S (called_under (callee_names S) j)))
          (in_leave x z x' kind in' b i w i' t head tails (try_target (called_under (callee_names S) j), named_sig S (called_under (callee_names S) j), map S.naming.callee_value args, refl) (tails_before i.inst (map (tag_under (caller_names S)) S.site.tags) (map (tag_under (callee_names S)) i.tags) tails) j args) in
          subst₂ (λ y ls. F (act M i x (z ∷ s) w (effect (module_names M) x.func x.env x.slots w.memory y)) (step_at R x' ls s' w)) (sym q) (sym rest) core
      tries_step (Call j args) q (b', k', t, rest, found, params, more) =
          let i' : Line = try_with S i (try_target (called_under (callee_names S) j)) (named_sig S (called_under (callee_names S) j)) args (record { block = b'; args = map arg.Ret (from 0 (length i.results)) }) (map (entry_under (caller_names S)) table) in
          let head : RestG S (Tries normal table) (i ∷ x.rest) (i' ∷ t) = subst (λ y. TriesHead S normal table y i (RestG S (Tries normal table) x.rest) (i' ∷ t)) (sym q) (b', k', t, refl, found, params, more) in
          let core =
          subst (λ u. F (act M i x (z ∷ s) w (calls x.env j args false)) (act R i' (record x' { rest = t }) s' w (calls x'.env u (map S.naming.callee_value args) false))) (sym (named_target S (called_under (callee_names S) j)))
          (in_call x z x' kind in' b i w i' t head (subst Waiting (sym q) tt) j args) in
          subst₂ (λ y ls. F (act M i x (z ∷ s) w (effect (module_names M) x.func x.env x.slots w.memory y)) (step_at R x' ls s' w)) (sym q) (sym rest) core
      tries_step (TryCall j sg args to u) q (t, rest) =
          let i' : Line = try_with S i (try_target_under (callee_names S) j) (sig_after S.caller S.callee sg) args (target_under (callee_names S) to) (map (entry_under (callee_names S)) u ++ map (entry_under (caller_names S)) table) in
          let head : RestG S (Tries normal table) (i ∷ x.rest) (i' ∷ t) = subst (λ y. TriesHead S normal table y i (RestG S (Tries normal table) x.rest) (i' ∷ t)) (sym q) (t, refl) in
          let core =
          subst (λ u. F (act M i x (z ∷ s) w (calls x.env (call_target j sg) args false)) (act R i' (record x' { rest = t }) s' w (calls x'.env u (map S.naming.callee_value args) false))) (sym (try_target_called (callee_names S) j sg))
          (in_call x z x' kind in' b i w i' t head (subst Waiting (sym q) tt) (call_target j sg) args) in
          subst₂ (λ y ls. F (act M i x (z ∷ s) w (effect (module_names M) x.func x.env x.slots w.memory y)) (step_at R x' ls s' w)) (sym q) (sym rest) core
      tries_step (Plain p0) q h = plain_tries (Plain p0) q (λ r. r) (λ r. r) h (h.0, refl, h.2)
      tries_step SequencePoint q h = plain_tries SequencePoint q (λ r. r) (λ r. r) h (h.0, refl, h.2)
      tries_step (Branches c0) q h = plain_tries (Branches c0) q (λ r. r) (λ r. r) h (h.0, refl, h.2)

    inside_step : (k : Kind) → kind_of S.site.inst ≡ k → Joined S d k x z x' → RestG S k (i ∷ x.rest) x'.rest → F (act M i x (z ∷ s) w (effect (module_names M) x.func x.env x.slots w.memory i.inst)) (step R x' s' w)
    inside_step Within kind in' h = within_step kind in' i.inst refl h
    inside_step Last kind in' h = elim in'.not_last [ ]
    inside_step (Tries normal table) kind in' h = tries_step normal table kind in' i.inst refl h

  -- at the site

  first_found : (bl : Block) (bs : List Block) → find_block bl.number (bl ∷ bs) ≡ Some bl
  first_found bl bs = ap (λ c. if c then Some bl else find_block bl.number bs) (eq-eqb bl.number bl.number refl)

  -- g's body begins, in the source by a frame and in the result by a jump
  g_begins : (x' : Frame) (s1 s' : List Wait) (w : World) (xs : List DataValue) (extra : List ℕ) → x'.func ≡ spliced S → ((bl : Block) (e e' : Env) (ls' : List Line) → RestG S (kind_of S.site.inst) bl.lines ls' → Maps S.naming.callee_value e e' → Keeps S.naming.callee_value x'.env e' → Pairs S R linked.names (record { func = S.callee; rest = bl.lines; env = e; slots = unwritten; extra = extra }) s1 (record x' { rest = ls'; env = e' }) s') → F (must w (begin S.callee xs extra) Stuck (λ y. On y s1 w)) (enter x' (S.naming.callee_block (first_number S.callee.blocks)) xs s' w)
  g_begins x' s1 s' w xs extra func' make = go S.callee.blocks refl
    where
      bound : (bl : Block) (bs : List Block) → S.callee.blocks ≡ bl ∷ bs → (o : Option Env) → bind bl.params xs no_values ≡ o → F (must w (and_then o (λ e. Some (record { func = S.callee; rest = bl.lines; env = e; slots = unwritten; extra = extra }))) Stuck (λ y. On y s1 w)) (enter x' (S.naming.callee_block (first_number S.callee.blocks)) xs s' w)
      bound bl bs q None p = inl tt
      bound bl bs q (Some e) p =
          let found : find_block bl.number S.callee.blocks ≡ Some bl = ap (find_block bl.number) q ∙ first_found bl bs in
          let k = linked.g_embeds.block bl.number bl found in
          let here : find_block (S.naming.callee_block bl.number) x'.func.blocks ≡ Some k.0 = ap (λ y. find_block (S.naming.callee_block bl.number) y.blocks) func' ∙ k.1 in
          let bd = bind_maps S.naming.callee_value linked.names.callee_value bl.params xs no_values x'.env e (none_yet S.naming.callee_value x'.env) p in
          let is = enter_is S R linked.names linked.f_embeds linked.g_embeds x' (S.naming.callee_block bl.number) xs s' w k.0 bd.0 here (ap (λ vs. bind vs xs x'.env) k.2 ∙ bd.1) in
          let is' : enter x' (S.naming.callee_block (first_number S.callee.blocks)) xs s' w ≡ On (record x' { rest = k.0.lines; env = bd.0 }) s' w = ap (λ bs. enter x' (S.naming.callee_block (first_number bs)) xs s' w) q ∙ is in
          (record x' { rest = k.0.lines; env = bd.0 }, s', inl is', make bl e bd.0 k.0.lines k.3 bd.2 bd.3)

      go : (bs : List Block) → S.callee.blocks ≡ bs → F (must w (frame_at S.callee xs extra bs) Stuck (λ y. On y s1 w)) (enter x' (S.naming.callee_block (first_number S.callee.blocks)) xs s' w)
      go [] q = inl tt
      go (bl ∷ bs) q = bound bl bs q (bind bl.params xs no_values) refl

  module _ {d : List ℕ} {s s' : List Wait} (x x' : Frame) (b : Below S d s s') (func : x.func ≡ S.caller) (func' : x'.func ≡ spliced S) (local : Local (caller_names S) (RestF S) x x') (post_is : x.rest ≡ S.behind) (extra : x.extra ≡ d ++ x'.extra) (t : List Line) (rest : x'.rest ≡ jump_in S ∷ t) (w : World) where
    -- f's frame waits at the site, and g's runs in the same frame of the result
    goes_in : (k : Kind) → kind_of S.site.inst ≡ k → NotLast S k → (bl : Block) (e e' : Env) (ls' : List Line) → RestG S (kind_of S.site.inst) bl.lines ls' → Maps S.naming.callee_value e e' → Keeps S.naming.callee_value x'.env e' → Pairs S R linked.names (record { func = S.callee; rest = bl.lines; env = e; slots = unwritten; extra = [] }) (record { line = S.site; frame = x } ∷ s) (record x' { rest = ls'; env = e' }) s'
    goes_in k kind not_last bl e e' ls' r m kp =
        let waits : Waits S d (record { line = S.site; frame = x }) x' = record { line = refl; func = func; func' = func'; rest = post_is; env = local.env; slots = subst (λ y. SlotMaps (length y.slots) (λ k. k) x.slots x'.slots) func local.slots; extra = extra } in
        inside_top k kind (record {
          waits = waits_kept S R linked.names linked.f_embeds linked.g_embeds waits ls' e' x'.slots kp (slots_keep (callee_names S).slot x'.slots);
          not_last = not_last;
          func = refl;
          env = m;
          slots = no_bytes _ _ x'.slots;
          extra = refl;
        }) (subst (λ j. RestG S j bl.lines ls') kind r) b

    stands_in : (ns : List ℕ) → numbers S.site.tags ≡ Some ns → kind_of S.site.inst ≡ Last → (bl : Block) (e e' : Env) (ls' : List Line) → RestG S (kind_of S.site.inst) bl.lines ls' → Maps S.naming.callee_value e e' → Keeps S.naming.callee_value x'.env e' → Pairs S R linked.names (record { func = S.callee; rest = bl.lines; env = e; slots = unwritten; extra = x.extra ++ ns }) s (record x' { rest = ls'; env = e' }) s'
    stands_in ns tags last bl e e' ls' r m kp =
        alone_top (stands ns tags last (record {
          embeds = subst (λ j. Embeds S.callee x'.func (callee_names S) (RestG S j)) last (subst (λ y. Embeds S.callee y (callee_names S) (RestG S (kind_of S.site.inst))) (sym func') linked.g_embeds);
          env = m;
          slots = no_bytes _ _ x'.slots;
        }) (subst (λ j. RestG S j bl.lines ls') last r) (ap (λ y. y ++ ns) extra ∙ append_assoc d x'.extra ns)) b

    jumps_in : (args : List ℕ) (xs : List DataValue) → args_of S.site.inst ≡ args → all_of x.env args ≡ Some xs → step R x' s' w ≡ enter x' (S.naming.callee_block (first_number S.callee.blocks)) xs s' w
    jumps_in args xs q h =
        ap (λ ls. step_at R x' ls s' w) rest ∙ ap (λ o. act R (jump_in S) (record x' { rest = t }) s' w (need o Stuck (λ zs. Enter (S.naming.callee_block (first_number S.callee.blocks)) zs))) (all_vals x'.env [] [] (map S.naming.caller_value (args_of S.site.inst)) ∙ all_maps x.env x'.env S.naming.caller_value local.env.at (args_of S.site.inst) xs (ap (all_of x.env) q ∙ h))

    -- what the call finds
    resolves : (k : ℕ) → callee_of S.site.inst ≡ Some k → (c : Callee) → slice_get x.func.callees k ≡ Some c → find_function c.name M ≡ Some S.callee
    resolves k q c h =
        let e : k ≡ linked.callee = some_same (sym q ∙ linked.is_call) in
        linked.calls_callee c (ap (slice_get S.caller.callees) (sym e) ∙ ap (λ y. slice_get y.callees k) (sym func) ∙ h)

    -- a call by name that does what a call of g's does
    by_callee : (k : ℕ) → callee_of S.site.inst ≡ Some k → (Moment' : Found → Moment) → Moment' Missing ≡ Over w Stuck → (t : Moment) → F (Moment' (Inside S.callee)) t → F (Moment' (found M x.func (ByName k))) t
    by_callee k q moment missing t does = go (slice_get x.func.callees k) refl
      where
        lost : F (moment Missing) t
        lost = subst (λ y. F y t) (sym missing) (inl tt)

        signed : (c : Callee) → find_function c.name M ≡ Some S.callee → (o : Option Sig) → F (moment (or_missing o (λ sig. by_name (find_function c.name M) c.name sig))) t
        signed c is None = lost
        signed c is (Some sig) = subst (λ o. F (moment (by_name o c.name sig)) t) (sym is) does

        go : (o : Option Callee) → slice_get x.func.callees k ≡ o → F (moment (or_missing o (λ c. or_missing (slice_get x.func.sigs c.sig) (λ sig. by_name (find_function c.name M) c.name sig)))) t
        go None h = lost
        go (Some c) h = signed c (resolves k q c h) (slice_get x.func.sigs c.sig)

    site_calls : (k : ℕ) (args : List ℕ) → callee_of S.site.inst ≡ Some k → args_of S.site.inst ≡ args → NotLast S (kind_of S.site.inst) → F (act M S.site x s w (calls x.env (Direct k) args false)) (step R x' s' w)
    site_calls k args q a not_last = go (all_of x.env args) refl
      where
        go : (o : Option (List DataValue)) → all_of x.env args ≡ o → F (act M S.site x s w (need o Stuck (λ xs. Do (ByName k) xs false))) (step R x' s' w)
        go None e = inl tt
        go (Some xs) e =
            by_callee k q (λ o. invoke o xs [] (shown (record { line = S.site; frame = x } ∷ s)) (record { line = S.site; frame = x } ∷ s) w) refl (step R x' s' w) (subst (F (must w (begin S.callee xs []) Stuck (λ y. On y (record { line = S.site; frame = x } ∷ s) w))) (sym (jumps_in args xs a e)) (g_begins x' (record { line = S.site; frame = x } ∷ s) s' w xs [] func' (goes_in (kind_of S.site.inst) refl not_last)))

    site_tails : (k : ℕ) (args : List ℕ) → callee_of S.site.inst ≡ Some k → args_of S.site.inst ≡ args → kind_of S.site.inst ≡ Last → F (act M S.site x s w (calls x.env (Direct k) args true)) (step R x' s' w)
    site_tails k args q a last = go (all_of x.env args) refl
      where
        numbered : (xs : List DataValue) → all_of x.env args ≡ Some xs → (o : Option (List ℕ)) → numbers S.site.tags ≡ o → F (must w o Stuck (λ ns. invoke (found M x.func (ByName k)) xs (x.extra ++ ns) (shown (record { line = S.site; frame = x } ∷ s)) s w)) (step R x' s' w)
        numbered xs e None h = inl tt
        numbered xs e (Some ns) h =
            by_callee k q (λ o. invoke o xs (x.extra ++ ns) (shown (record { line = S.site; frame = x } ∷ s)) s w) refl (step R x' s' w) (subst (F (must w (begin S.callee xs (x.extra ++ ns)) Stuck (λ y. On y s w))) (sym (jumps_in args xs a e)) (g_begins x' s s' w xs (x.extra ++ ns) func' (stands_in ns h last)))

        go : (o : Option (List DataValue)) → all_of x.env args ≡ o → F (act M S.site x s w (need o Stuck (λ xs. Do (ByName k) xs true))) (step R x' s' w)
        go None e = inl tt
        go (Some xs) e = numbered xs e (numbers S.site.tags) refl

    no_site : {k : ℕ} → Path (Option ℕ) None (Some k) → ⊥
    no_site q = cc

    -- the site is a direct call
    site_step : (i : Instruction) → S.site.inst ≡ i → F (act M S.site x s w (effect (module_names M) x.func x.env x.slots w.memory i)) (step R x' s' w)
    site_step (Call (Direct k) args) q = site_calls k args (ap callee_of q) (ap args_of q) (subst (λ y. NotLast S (kind_of y)) (sym q) tt)
    site_step (TryCall (TryDirect k) sg args to u) q = site_calls k args (ap callee_of q) (ap args_of q) (subst (λ y. NotLast S (kind_of y)) (sym q) tt)
    site_step (ReturnCall (Direct k) args) q = site_tails k args (ap callee_of q) (ap args_of q) (ap kind_of q)
    site_step (Call (Indirect a b) args) q = absurd (no_site (sym (ap callee_of q) ∙ linked.is_call))
    site_step (TryCall (TryIndirect a) sg args to u) q = absurd (no_site (sym (ap callee_of q) ∙ linked.is_call))
    site_step (ReturnCall (Indirect a b) args) q = absurd (no_site (sym (ap callee_of q) ∙ linked.is_call))
    site_step (Plain p0) q = absurd (no_site (sym (ap callee_of q) ∙ linked.is_call))
    site_step SequencePoint q = absurd (no_site (sym (ap callee_of q) ∙ linked.is_call))
    site_step (Branches c0) q = absurd (no_site (sym (ap callee_of q) ∙ linked.is_call))
    site_step (Return a) q = absurd (no_site (sym (ap callee_of q) ∙ linked.is_call))

  -- every step

  top_other : {d : List ℕ} {s s' : List Wait} (x x' : Frame) (r : Renaming) (local : Local r (RestOf r) x x') → x.extra ≡ d ++ x'.extra → Below S d s s' → (w : World) (ls : List Line) → x'.rest ≡ map (line_under r) ls → F (step_at M x ls s w) (step R x' s' w)
  top_other x x' r local extra b w [] rest = inl tt
  top_other {s = s} {s' = s'} x x' r local extra b w (i ∷ is) rest =
      subst (λ ls. F (step_at M x (i ∷ is) s w) (step_at R x' ls s' w)) (sym rest) (role_step (record x { rest = is }) (record x' { rest = map (line_under r) is }) (other r (record { embeds = local.embeds; env = local.env; slots = local.slots }) refl extra) b i w)

  top_stands : {d : List ℕ} {s s' : List Wait} (x x' : Frame) (ns : List ℕ) → numbers S.site.tags ≡ Some ns → kind_of S.site.inst ≡ Last → (local : Local (callee_names S) (RestG S Last) x x') → x.extra ≡ d ++ (x'.extra ++ ns) → Below S d s s' → (w : World) (ls : List Line) → RestG S Last ls x'.rest → F (step_at M x ls s w) (step R x' s' w)
  top_stands x x' ns tags last local extra b w [] rest = inl tt
  top_stands {s = s} {s' = s'} x x' ns tags last local extra b w (i ∷ is) (t, rest, more) =
      subst (λ ls. F (step_at M x (i ∷ is) s w) (step_at R x' ls s' w)) (sym rest) (role_step (record x { rest = is }) (record x' { rest = t }) (stands ns tags last (record { embeds = local.embeds; env = local.env; slots = local.slots }) more extra) b i w)

  top_caller : {d : List ℕ} {s s' : List Wait} (x x' : Frame) → x.func ≡ S.caller → x'.func ≡ spliced S → (local : Local (caller_names S) (RestF S) x x') → x.extra ≡ d ++ x'.extra → Below S d s s' → (w : World) (ls : List Line) → RestF S ls x'.rest → F (step_at M x ls s w) (step R x' s' w)
  top_caller x x' func func' local extra b w [] rest = inl tt
  top_caller {s = s} {s' = s'} x x' func func' local extra b w (i ∷ is) (inl rest) =
      subst (λ ls. F (step_at M x (i ∷ is) s w) (step_at R x' ls s' w)) (sym rest) (role_step (record x { rest = is }) (record x' { rest = map (line_under (caller_names S)) is }) (caller func func' (record { embeds = local.embeds; env = local.env; slots = local.slots }) (inl refl) extra) b i w)
  top_caller {s = s} {s' = s'} x x' func func' local extra b w (i ∷ is) (inr ([], here, rest)) =
      let core = site_step (record x { rest = is }) x' b func func' (record { embeds = local.embeds; env = local.env; slots = local.slots }) (tail_same here) extra [] rest w S.site.inst refl in
      subst (λ m. F (act M m (record x { rest = is }) s w (effect (module_names M) x.func x.env x.slots w.memory m.inst)) (step R x' s' w)) (sym (head_same here)) core
  top_caller {s = s} {s' = s'} x x' func func' local extra b w (i ∷ is) (inr (j ∷ p, here, rest)) =
      let rest' : x'.rest ≡ line_under (caller_names S) i ∷ (map (line_under (caller_names S)) p ++ (jump_in S ∷ [])) = rest ∙ ap (λ m. line_under (caller_names S) m ∷ (map (line_under (caller_names S)) p ++ (jump_in S ∷ []))) (sym (head_same here)) in
      subst (λ ls. F (step_at M x (i ∷ is) s w) (step_at R x' ls s' w)) (sym rest') (role_step (record x { rest = is }) (record x' { rest = map (line_under (caller_names S)) p ++ (jump_in S ∷ []) }) (caller func func' (record { embeds = local.embeds; env = local.env; slots = local.slots }) (inr (p, tail_same here, refl)) extra) b i w)

  top_inside : {d : List ℕ} {s s' : List Wait} (k : Kind) → kind_of S.site.inst ≡ k → (x : Frame) (z : Wait) (x' : Frame) → Joined S d k x z x' → Below S d s s' → (w : World) (ls : List Line) → RestG S k ls x'.rest → F (step_at M x ls (z ∷ s) w) (step R x' s' w)
  top_inside k kind x z x' in' b w [] rest = inl tt
  top_inside {d = d} k kind x z x' in' b w (i ∷ is) rest =
      let in2 : Joined S d k (record x { rest = is }) z x' = record { waits = in'.waits; not_last = in'.not_last; func = in'.func; env = in'.env; slots = in'.slots; extra = in'.extra } in
      inside_step (record x { rest = is }) z x' b i w k kind in2 rest

  pub step_follow : {x x' : Frame} {s s' : List Wait} → Stack S x s x' s' → (w : World) → F (step M x s w) (step R x' s' w)
  step_follow {x = x} {x' = x'} (alone_top (other r local rest extra) b) w = top_other x x' r local extra b w x.rest rest
  step_follow {x = x} {x' = x'} (alone_top (caller func func' local rest extra) b) w = top_caller x x' func func' local extra b w x.rest rest
  step_follow {x = x} {x' = x'} (alone_top (stands ns tags last local rest extra) b) w = top_stands x x' ns tags last local extra b w x.rest rest
  step_follow (inside_top {x = x} {z = z} {x' = x'} k kind in' rest b) w = top_inside k kind x z x' in' b w x.rest rest
