-- An instruction under new numbers, in one frame: where the source has a value or a byte, the result has the same under its
-- new number, and then the instruction does the same in both.
use Rattle.std.proofs.Common.{◌≡◌, ℕ, zero, suc, ◌<◌, ◌⊎◌, inl, inr, List, [], ◌∷◌, length, map, Option, Some, None, Bool, true, false, ◌&&◌, nat_eq, refl, sym, ap, ◌∙◌, subst, eq-eqb, ne_eqb}
use Rattle.std.specs.Prelude.{ℤ, slice_get, if◌then◌else◌}
use Rattle.std.proofs.lemmas.Bool.{cases_eq}
use Rattle.clk_num.specs.Operations.{DataValue, Evaluation, Values, Traps, NoRow, operation}
use Rattle.clk_num.specs.declared.op.TrapCode.TheVariants.{HeapOob}
use Rattle.ir_core.specs.declared.names.FuncName.{FuncName}
use Rattle.ir_core.specs.declared.signatures.Sig.{Sig}
use Rattle.ir_core.specs.declared.declarations.Callee.{Callee}
use Rattle.ir_core.specs.declared.declarations.SlotDecl.{SlotDecl}
use Rattle.ir_core.specs.declared.instructions.Arg.{Arg}
use Rattle.ir_core.specs.declared.instructions.Arg.TheVariants as arg
use Rattle.ir_core.specs.declared.instructions.BlockCall.{BlockCall}
use Rattle.ir_core.specs.Module.{Simple, Nop, Const, Pure, PureImm, Load, Store, StackLoad, StackStore, FuncAddr, Trap, Trapz, Trapnz, Branch, Jump, Brif, BrTable, CallTarget, Direct, Indirect, Instruction, Plain, Branches, SequencePoint, Return, Call, ReturnCall, TryCall, Function, TryDirect, TryIndirect, TryTarget, call_target}
use Rattle.ir_core.specs.Lookup.{and_then, width_of}
use Rattle.ir_core.proofs.Gets.{some_same}
use Rattle.ir_semantics.specs.Names.{address_of}
use Rattle.ir_semantics.specs.Values.{Env, Slots, Memory, cons_some, all_of, put, bind, i64, bytes_in, number_of, bytes_of, bytes_from, put_byte, put_bytes, place_in, slot_place, memory_read, memory_write, address_at, by_endian, bytes_read, loaded, bytes_stored}
use Rattle.ir_semantics.specs.Machine.{End, Going, Returned, Trapped, Threw, Unwritten, ScriptEnded, BadReply, Stuck}
use Rattle.ir_semantics.specs.Effect.{Called, ByName, ByAddress, Effect, Go, Enter, Give, ShowTags, Do, Stop, need, arg_value, arg_values, go_to, choose, evaluated, simple, target_at, branch, called, calls, effect}
use Rattle.ir_semantics.specs.Splice.{Splicing, try_target, named_sig}
use Rattle.ir_semantics.specs.Renaming.{Renaming, arg_under, target_under, simple_under, branch_under, called_under, instruction_under, try_target_under}
use Rattle.ir_semantics.proofs.SafetyTypes.{put_other, put_same}

-- different numbers stay different
abbrev pub Injective : (ℕ → ℕ) → Type 0
Injective f = (a b : ℕ) → f a ≡ f b → a ≡ b

-- each value is there under its new number
pub record Maps (f : ℕ → ℕ) (e e' : Env) : Type 0 where
  pub at : (v : ℕ) (x : DataValue) → e v ≡ Some x → e' (f v) ≡ Some x

-- nothing changes but new numbers
pub record Keeps (f : ℕ → ℕ) (e e' : Env) : Type 0 where
  pub at : (u : ℕ) → ((v : ℕ) → f v ≡ u → ⊥) → e' u ≡ e u

-- the same of the bytes in the first n slots
pub record SlotMaps (n : ℕ) (f : ℕ → ℕ) (s s' : Slots) : Type 0 where
  pub at : (k o b : ℕ) → k < n → s k o ≡ Some b → s' (f k) o ≡ Some b

pub record SlotKeeps (f : ℕ → ℕ) (s s' : Slots) : Type 0 where
  pub at : (j o : ℕ) → ((k : ℕ) → f k ≡ j → ⊥) → s' j o ≡ s j o

-- ---- the call target of a `try_call`

pub try_target_called : (r : Renaming) (t : TryTarget) (sig : ℕ) → call_target (try_target_under r t) (r.sig sig) ≡ called_under r (call_target t sig)
try_target_called r (TryDirect k) sig = refl
try_target_called r (TryIndirect a) sig = refl

-- a call in whose place a `try_call` stands calls the same
pub named_target : (S : Splicing) (t : CallTarget) → call_target (try_target t) (named_sig S t) ≡ t
named_target S (Direct k) = refl
named_target S (Indirect s a) = refl

put_maps : (f : ℕ → ℕ) → Injective f → (e e' : Env) (v : ℕ) (x : DataValue) → Maps f e e' → Maps f (put e v x) (put e' (f v) x)
put_maps f inj e e' v x m =
    record {
      at = λ w y h.
          elim (cases_eq w v) [
            | inl q ↦ put_same e' (f v) x (f w) (ap f q) ∙ sym (put_same e v x w q) ∙ h
            | inr q ↦ put_other e' (f v) x (f w) (λ p. q (inj w v p)) ∙ m.at w y (sym (put_other e v x w q) ∙ h)
          ];
    }

put_keeps : (f : ℕ → ℕ) (e : Env) (v : ℕ) (x : DataValue) → Keeps f e (put e (f v) x)
put_keeps f e v x = record { at = λ u h. put_other e (f v) x u (λ p. h v (sym p)) }

keeps_on : (f : ℕ → ℕ) (e e1 e2 : Env) → Keeps f e e1 → Keeps f e1 e2 → Keeps f e e2
keeps_on f e e1 e2 a b = record { at = λ u h. b.at u h ∙ a.at u h }

pub keeps_all : (f : ℕ → ℕ) (e : Env) → Keeps f e e
keeps_all f e = record { at = λ u h. refl }

-- numbers and values are bound alike
pub bind_maps : (f : ℕ → ℕ) → Injective f → (vs : List ℕ) (xs : List DataValue) (e e' d : Env) → Maps f e e' → bind vs xs e ≡ Some d → (d' : Env) × (bind (map f vs) xs e' ≡ Some d') × Maps f d d' × Keeps f e' d'
bind_maps f inj [] [] e e' d m h = (e', refl, subst (λ z. Maps f z e') (let q : Some e ≡ Some d = h in cc) m, keeps_all f e')
bind_maps f inj [] (x ∷ xs) e e' d m h = cc
bind_maps f inj (v ∷ vs) [] e e' d m h = cc
bind_maps f inj (v ∷ vs) (x ∷ xs) e e' d m h =
    let r = bind_maps f inj vs xs (put e v x) (put e' (f v) x) d (put_maps f inj e e' v x m) h in
    (r.0, r.1, r.2, keeps_on f e' (put e' (f v) x) r.0 (put_keeps f e' v x) r.3)

-- lists of values

pub all_maps : {A : Type 0} (g g' : A → Option DataValue) (f : A → A) → ((a : A) (x : DataValue) → g a ≡ Some x → g' (f a) ≡ Some x) → (as' : List A) (xs : List DataValue) → all_of g as' ≡ Some xs → all_of g' (map f as') ≡ Some xs
all_maps g g' f h [] xs e = e
all_maps {A} g g' f h (a ∷ as') xs e = go (λ ys r. all_maps g g' f h as' ys r) (g a) refl (all_of g as') refl e
  where
    go : ((ys : List DataValue) → all_of g as' ≡ Some ys → all_of g' (map f as') ≡ Some ys) → (o : Option DataValue) → g a ≡ o → (p : Option (List DataValue)) → all_of g as' ≡ p → cons_some o p ≡ Some xs → cons_some (g' (f a)) (all_of g' (map f as')) ≡ Some xs
    go ih None q p r e = cc
    go ih (Some x) q None r e = cc
    go ih (Some x) q (Some ys) r e = ap (λ z. cons_some z (all_of g' (map f as'))) (h a x q) ∙ ap (cons_some (Some x)) (ih ys r) ∙ e

-- slots

eqb_maps : (f : ℕ → ℕ) → Injective f → (a b : ℕ) → nat_eq (f a) (f b) ≡ nat_eq a b
eqb_maps f inj a b = elim (cases_eq a b) [ inl q ↦ eq-eqb (f a) (f b) (ap f q) ∙ sym (eq-eqb a b q) | inr q ↦ ne_eqb (f a) (f b) (λ p. q (inj a b p)) ∙ sym (ne_eqb a b q) ]

if_some : (c : Bool) (b x : ℕ) (o o' : Option ℕ) → (o ≡ Some x → o' ≡ Some x) → (if c then Some b else o) ≡ Some x → (if c then Some b else o') ≡ Some x
if_some true b x o o' h e = e
if_some false b x o o' h e = h e

pub bytes_maps : (s s' : ℕ → Option ℕ) → ((o b : ℕ) → s o ≡ Some b → s' o ≡ Some b) → (o n : ℕ) (bs : List ℕ) → bytes_from s o n ≡ Some bs → bytes_from s' o n ≡ Some bs
bytes_maps s s' h o zero bs e = e
bytes_maps s s' h o (suc n) bs e = go (λ ys r. bytes_maps s s' h (suc o) n ys r) (s o) refl (bytes_from s (suc o) n) refl e
  where
    go : ((ys : List ℕ) → bytes_from s (suc o) n ≡ Some ys → bytes_from s' (suc o) n ≡ Some ys) → (b : Option ℕ) → s o ≡ b → (p : Option (List ℕ)) → bytes_from s (suc o) n ≡ p → cons_some b p ≡ Some bs → cons_some (s' o) (bytes_from s' (suc o) n) ≡ Some bs
    go ih None q p r e = cc
    go ih (Some x) q None r e = cc
    go ih (Some x) q (Some ys) r e = ap (λ z. cons_some z (bytes_from s' (suc o) n)) (h o x q) ∙ ap (cons_some (Some x)) (ih ys r) ∙ e

put_byte_maps : (n : ℕ) (f : ℕ → ℕ) → Injective f → (s s' : Slots) (k o b : ℕ) → SlotMaps n f s s' → SlotMaps n f (put_byte s k o b) (put_byte s' (f k) o b)
put_byte_maps n f inj s s' k o b m =
    record {
      at = λ j p x below e.
          subst (λ c. (if c && nat_eq p o then Some b else s' (f j) p) ≡ Some x) (sym (eqb_maps f inj j k)) (if_some (nat_eq j k && nat_eq p o) b x (s j p) (s' (f j) p) (m.at j p x below) e);
    }

put_bytes_maps : (n : ℕ) (f : ℕ → ℕ) → Injective f → (s s' : Slots) (k o : ℕ) (bs : List ℕ) → SlotMaps n f s s' → SlotMaps n f (put_bytes s k o bs) (put_bytes s' (f k) o bs)
put_bytes_maps n f inj s s' k o [] m = m
put_bytes_maps n f inj s s' k o (b ∷ bs) m = put_bytes_maps n f inj (put_byte s k o b) (put_byte s' (f k) o b) k (suc o) bs (put_byte_maps n f inj s s' k o b m)

put_bytes_keeps : (f : ℕ → ℕ) (s : Slots) (k o : ℕ) (bs : List ℕ) → SlotKeeps f s (put_bytes s (f k) o bs)
put_bytes_keeps f s k o [] = record { at = λ j p h. refl }
put_bytes_keeps f s k o (b ∷ bs) =
    record {
      at = λ j p h.
          (put_bytes_keeps f (put_byte s (f k) o b) k (suc o) bs).at j p h ∙ ap (λ c. if c && nat_eq p o then Some b else s j p) (ne_eqb j (f k) (λ q. h k (sym q)));
    }

pub slots_keep : (f : ℕ → ℕ) (s : Slots) → SlotKeeps f s s
slots_keep f s = record { at = λ j o h. refl }

-- What an instruction does

-- the ends of which nothing is said
abbrev pub Free : End → Type 0
Free Stuck = Unit {0}
Free Unwritten = Unit {0}
Free Going = ⊥
Free (Returned x) = ⊥
Free (Trapped x) = ⊥
Free (Threw t p q) = ⊥
Free ScriptEnded = ⊥
Free BadReply = ⊥

abbrev pub found_under : Renaming → Called → Called
found_under r (ByName k) = ByName (r.callee k)
found_under r (ByAddress s a) = ByAddress (r.sig s) a

-- the same under new numbers, from the slots s'
abbrev pub Alike : Renaming → ℕ → Slots → Effect → Effect → Type 0
Alike r n s' (Go values s m) t = (d : Slots) × (t ≡ Go values d m) × SlotMaps n r.slot s d × SlotKeeps r.slot s' d
Alike r n s' (Enter b values) t = t ≡ Enter (r.block b) values
Alike r n s' (Give values) t = t ≡ Give values
Alike r n s' ShowTags t = t ≡ ShowTags
Alike r n s' (Do c args tail) t = t ≡ Do (found_under r c) args tail
Alike r n s' (Stop end) t = Free end ⊎ (t ≡ Stop end)

-- c' declares the same function as c, with the same signature in f' as c in f
pub record SameCallee (f f' : Function) (c c' : Callee) : Type 0 where
  pub name : c'.name ≡ c.name
  pub sig : (s : Sig) → slice_get f.sigs c.sig ≡ Some s → slice_get f'.sigs c'.sig ≡ Some s

-- what f has under its numbers, f' has under the new ones
pub record Fits (f f' : Function) (r : Renaming) : Type 0 where
  pub value : Injective r.value
  pub slot : Injective r.slot
  pub size : (k : ℕ) (d : SlotDecl) → slice_get f.slots k ≡ Some d → (slice_get f'.slots (r.slot k) ≡ Some d) × (k < length f.slots)
  pub sig : (k : ℕ) (s : Sig) → slice_get f.sigs k ≡ Some s → slice_get f'.sigs (r.sig k) ≡ Some s
  pub callee : (k : ℕ) (c : Callee) → slice_get f.callees k ≡ Some c → (c' : Callee) × (slice_get f'.callees (r.callee k) ≡ Some c') × SameCallee f f' c c'

module _ (names : List FuncName) (f f' : Function) (r : Renaming) (fits : Fits f f' r) (e e' : Env) (maps : Maps r.value e e') (s s' : Slots) (slots : SlotMaps (length f.slots) r.slot s s') where
  abbrev Like : Effect → Effect → Type 0
  Like t t' = Alike r (length f.slots) s' t t'

  need_like : {A B : Type 0} (o : Option A) (o' : Option B) (end : End) (go : A → Effect) (go' : B → Effect) → ((a : A) → o ≡ Some a → (b : B) × (o' ≡ Some b) × Alike r (length f.slots) s' (go a) (go' b)) → (Free end ⊎ (o ≡ None → o' ≡ None)) → Alike r (length f.slots) s' (need o end go) (need o' end go')
  need_like None o' end go go' h (inl free) = inl free
  need_like None o' end go go' h (inr n) = inr (ap (λ z. need z end go') (n refl))
  need_like (Some a) o' end go go' h n = subst (λ z. Alike r (length f.slots) s' (go a) (need z end go')) (sym (h a refl).1) (h a refl).2

  -- the same value on both sides
  same_like : {A : Type 0} (o : Option A) (end : End) (go go' : A → Effect) → ((a : A) → Alike r (length f.slots) s' (go a) (go' a)) → Alike r (length f.slots) s' (need o end go) (need o end go')
  same_like o end go go' h = need_like o o end go go' (λ a q. (a, q, h a)) (inr (λ q. q))

  list_like : (vs : List ℕ) (go go' : List DataValue → Effect) → ((xs : List DataValue) → Alike r (length f.slots) s' (go xs) (go' xs)) → Alike r (length f.slots) s' (need (all_of e vs) Stuck go) (need (all_of e' (map r.value vs)) Stuck go')
  list_like vs go go' h = need_like (all_of e vs) (all_of e' (map r.value vs)) Stuck go go' (λ xs q. (xs, all_maps e e' r.value (maps.at) vs xs q, h xs)) (inl tt)

  one_like : (v : ℕ) (go go' : DataValue → Effect) → ((x : DataValue) → Alike r (length f.slots) s' (go x) (go' x)) → Alike r (length f.slots) s' (need (e v) Stuck go) (need (e' (r.value v)) Stuck go')
  one_like v go go' h = need_like (e v) (e' (r.value v)) Stuck go go' (λ x q. (x, maps.at v x q, h x)) (inl tt)

  pub arg_maps : (results payloads : List DataValue) (a : Arg) (x : DataValue) → arg_value e results payloads a ≡ Some x → arg_value e' results payloads (arg_under r a) ≡ Some x
  arg_maps results payloads (arg.Value v) x q = maps.at v x q
  arg_maps results payloads (arg.Ret i) x q = q
  arg_maps results payloads (arg.Exn i) x q = q

  pub target_maps : (results payloads : List DataValue) (t : BlockCall) (xs : List DataValue) → arg_values e results payloads t ≡ Some xs → arg_values e' results payloads (target_under r t) ≡ Some xs
  target_maps results payloads t xs q = all_maps (arg_value e results payloads) (arg_value e' results payloads) (arg_under r) (arg_maps results payloads) t.args xs q

  go_like : (t : BlockCall) → Alike r (length f.slots) s' (go_to e t) (go_to e' (target_under r t))
  go_like t = need_like (arg_values e [] [] t) (arg_values e' [] [] (target_under r t)) Stuck (λ xs. Enter t.block xs) (λ xs. Enter (r.block t.block) xs) (λ xs q. (xs, target_maps [] [] t xs q, refl)) (inl tt)

  stays : (values : List DataValue) (m : Memory) → Alike r (length f.slots) s' (Go values s m) (Go values s' m)
  stays values m = (s', refl, slots, slots_keep r.slot s')

  evaluated_like : (m : Memory) (v : Evaluation) → Alike r (length f.slots) s' (evaluated s m v) (evaluated s' m v)
  evaluated_like m (Values xs) = stays xs m
  evaluated_like m (Traps code) = inr refl
  evaluated_like m NoRow = inl tt

  -- bytes that lie in a slot lie in its new one
  place_maps : (k : ℕ) (offset : ℤ) (n o : ℕ) → slot_place f k offset n ≡ Some o → (slot_place f' (r.slot k) offset n ≡ Some o) × (k < length f.slots)
  place_maps k offset n o q = go (slice_get f.slots k) refl q
    where
      go : (d : Option SlotDecl) → slice_get f.slots k ≡ d → and_then d (λ z. place_in z.size offset n) ≡ Some o → (slot_place f' (r.slot k) offset n ≡ Some o) × (k < length f.slots)
      go None h q = cc
      go (Some d) h q = let p = fits.size k d h in (ap (λ z. and_then z (λ z. place_in z.size offset n)) p.0 ∙ q, p.1)

  choose_like : (x : ℕ) (a b a' b' : Effect) → Alike r (length f.slots) s' a a' → Alike r (length f.slots) s' b b' → Alike r (length f.slots) s' (choose x a b) (choose x a' b')
  choose_like zero a b a' b' h k = k
  choose_like (suc x) a b a' b' h k = h

  simple_like : (m : Memory) (p : Simple) → Alike r (length f.slots) s' (simple names f e s m p) (simple names f' e' s' m (simple_under r p))
  simple_like m Nop = stays [] m
  simple_like m (Const x) = stays (x ∷ []) m
  simple_like m (Pure op args) = list_like args (λ xs. evaluated s m (operation op xs)) (λ xs. evaluated s' m (operation op xs)) (λ xs. evaluated_like m (operation op xs))
  simple_like m (PureImm op a n) = one_like a (λ x. evaluated s m (operation op (x ∷ n ∷ []))) (λ x. evaluated s' m (operation op (x ∷ n ∷ []))) (λ x. evaluated_like m (operation op (x ∷ n ∷ [])))
  simple_like m (Load access flags a offset) =
      one_like a (λ x. need (memory_read m (address_at x.value offset) (bytes_read access)) (Trapped HeapOob) (λ bs. Go (loaded access (number_of (by_endian flags.big bs)) ∷ []) s m)) (λ x. need (memory_read m (address_at x.value offset) (bytes_read access)) (Trapped HeapOob) (λ bs. Go (loaded access (number_of (by_endian flags.big bs)) ∷ []) s' m)) (λ x.
      same_like (memory_read m (address_at x.value offset) (bytes_read access)) (Trapped HeapOob) (λ bs. Go (loaded access (number_of (by_endian flags.big bs)) ∷ []) s m) (λ bs. Go (loaded access (number_of (by_endian flags.big bs)) ∷ []) s' m) (λ bs. stays (loaded access (number_of (by_endian flags.big bs)) ∷ []) m))
  simple_like m (Store narrow flags v a offset) =
      one_like v (λ y. need (e a) Stuck (λ x. need (memory_write m (address_at x.value offset) (by_endian flags.big (bytes_of (bytes_stored narrow y.width) y.value))) (Trapped HeapOob) (λ m'. Go [] s m'))) (λ y. need (e' (r.value a)) Stuck (λ x. need (memory_write m (address_at x.value offset) (by_endian flags.big (bytes_of (bytes_stored narrow y.width) y.value))) (Trapped HeapOob) (λ m'. Go [] s' m'))) (λ y.
      one_like a (λ x. need (memory_write m (address_at x.value offset) (by_endian flags.big (bytes_of (bytes_stored narrow y.width) y.value))) (Trapped HeapOob) (λ m'. Go [] s m')) (λ x. need (memory_write m (address_at x.value offset) (by_endian flags.big (bytes_of (bytes_stored narrow y.width) y.value))) (Trapped HeapOob) (λ m'. Go [] s' m')) (λ x.
      same_like (memory_write m (address_at x.value offset) (by_endian flags.big (bytes_of (bytes_stored narrow y.width) y.value))) (Trapped HeapOob) (λ m'. Go [] s m') (λ m'. Go [] s' m') (λ m'. stays [] m')))
  simple_like m (StackLoad t k offset) =
      need_like (slot_place f k offset (bytes_in (width_of t))) (slot_place f' (r.slot k) offset (bytes_in (width_of t))) Stuck (λ o. need (bytes_from (s k) o (bytes_in (width_of t))) Unwritten (λ bs. Go (record { width = width_of t; value = number_of bs } ∷ []) s m)) (λ o. need (bytes_from (s' (r.slot k)) o (bytes_in (width_of t))) Unwritten (λ bs. Go (record { width = width_of t; value = number_of bs } ∷ []) s' m)) (λ o q.
      let p = place_maps k offset (bytes_in (width_of t)) o q in
      (o, p.0, need_like (bytes_from (s k) o (bytes_in (width_of t))) (bytes_from (s' (r.slot k)) o (bytes_in (width_of t))) Unwritten (λ bs. Go (record { width = width_of t; value = number_of bs } ∷ []) s m) (λ bs. Go (record { width = width_of t; value = number_of bs } ∷ []) s' m) (λ bs h. (bs, bytes_maps (s k) (s' (r.slot k)) (λ i b. slots.at k i b p.1) o (bytes_in (width_of t)) bs h, stays (record { width = width_of t; value = number_of bs } ∷ []) m)) (inl tt))) (inl tt)
  simple_like m (StackStore v k offset) =
      one_like v (λ y. need (slot_place f k offset (bytes_in y.width)) Stuck (λ o. Go [] (put_bytes s k o (bytes_of (bytes_in y.width) y.value)) m)) (λ y. need (slot_place f' (r.slot k) offset (bytes_in y.width)) Stuck (λ o. Go [] (put_bytes s' (r.slot k) o (bytes_of (bytes_in y.width) y.value)) m)) (λ y.
      need_like (slot_place f k offset (bytes_in y.width)) (slot_place f' (r.slot k) offset (bytes_in y.width)) Stuck (λ o. Go [] (put_bytes s k o (bytes_of (bytes_in y.width) y.value)) m) (λ o. Go [] (put_bytes s' (r.slot k) o (bytes_of (bytes_in y.width) y.value)) m) (λ o q.
      (o, (place_maps k offset (bytes_in y.width) o q).0, (put_bytes s' (r.slot k) o (bytes_of (bytes_in y.width) y.value), refl, put_bytes_maps (length f.slots) r.slot fits.slot s s' k o (bytes_of (bytes_in y.width) y.value) slots, put_bytes_keeps r.slot s' k o (bytes_of (bytes_in y.width) y.value)))) (inl tt))
  simple_like m (FuncAddr k) =
      need_like (slice_get f.callees k) (slice_get f'.callees (r.callee k)) Stuck (λ c. need (address_of names c.name) Stuck (λ a. Go (i64 a ∷ []) s m)) (λ c. need (address_of names c.name) Stuck (λ a. Go (i64 a ∷ []) s' m)) (λ c q.
      let p = fits.callee k c q in
      (p.0, p.1, subst (λ n. Alike r (length f.slots) s' (need (address_of names c.name) Stuck (λ a. Go (i64 a ∷ []) s m)) (need (address_of names n) Stuck (λ a. Go (i64 a ∷ []) s' m))) (sym p.2.name) (same_like (address_of names c.name) Stuck (λ a. Go (i64 a ∷ []) s m) (λ a. Go (i64 a ∷ []) s' m) (λ a. stays (i64 a ∷ []) m)))) (inl tt)
  simple_like m (Trap code) = inr refl
  simple_like m (Trapz v code) = one_like v (λ x. choose x.value (Go [] s m) (Stop (Trapped code))) (λ x. choose x.value (Go [] s' m) (Stop (Trapped code))) (λ x. choose_like x.value (Go [] s m) (Stop (Trapped code)) (Go [] s' m) (Stop (Trapped code)) (stays [] m) (inr refl))
  simple_like m (Trapnz v code) = one_like v (λ x. choose x.value (Stop (Trapped code)) (Go [] s m)) (λ x. choose x.value (Stop (Trapped code)) (Go [] s' m)) (λ x. choose_like x.value (Stop (Trapped code)) (Go [] s m) (Stop (Trapped code)) (Go [] s' m) (inr refl) (stays [] m))

  target_at_under : (ts : List BlockCall) (default : BlockCall) (x : ℕ) → target_at (map (target_under r) ts) (target_under r default) x ≡ target_under r (target_at ts default x)
  target_at_under [] default x = refl
  target_at_under (t ∷ ts) default zero = refl
  target_at_under (t ∷ ts) default (suc x) = target_at_under ts default x

  branch_like : (c : Branch) → Alike r (length f.slots) s' (branch e c) (branch e' (branch_under r c))
  branch_like (Jump t) = go_like t
  branch_like (Brif v a b) = one_like v (λ x. choose x.value (go_to e a) (go_to e b)) (λ x. choose x.value (go_to e' (target_under r a)) (go_to e' (target_under r b))) (λ x. choose_like x.value (go_to e a) (go_to e b) (go_to e' (target_under r a)) (go_to e' (target_under r b)) (go_like a) (go_like b))
  branch_like (BrTable v default ts) =
      one_like v (λ x. go_to e (target_at ts default x.value)) (λ x. go_to e' (target_at (map (target_under r) ts) (target_under r default) x.value)) (λ x. subst (λ z. Alike r (length f.slots) s' (go_to e (target_at ts default x.value)) (go_to e' z)) (sym (target_at_under ts default x.value)) (go_like (target_at ts default x.value)))

  pub called_maps : (t : CallTarget) (c : Called) → called e t ≡ Some c → called e' (called_under r t) ≡ Some (found_under r c)
  called_maps (Direct k) c q = ap (λ z. Some (found_under r z)) (some_same q)
  called_maps (Indirect s1 a) c q = go (e a) refl q
    where
      go : (o : Option DataValue) → e a ≡ o → and_then o (λ x. Some (ByAddress s1 x.value)) ≡ Some c → and_then (e' (r.value a)) (λ x. Some (ByAddress (r.sig s1) x.value)) ≡ Some (found_under r c)
      go None h q = cc
      go (Some x) h q = ap (λ o. and_then o (λ x. Some (ByAddress (r.sig s1) x.value))) (maps.at a x h) ∙ ap (λ z. Some (found_under r z)) (some_same q)

  calls_like : (t : CallTarget) (args : List ℕ) (tail : Bool) → Alike r (length f.slots) s' (calls e t args tail) (calls e' (called_under r t) (map r.value args) tail)
  calls_like t args tail =
      need_like (called e t) (called e' (called_under r t)) Stuck (λ c. need (all_of e args) Stuck (λ xs. Do c xs tail)) (λ c. need (all_of e' (map r.value args)) Stuck (λ xs. Do c xs tail)) (λ c q. (found_under r c, called_maps t c q, list_like args (λ xs. Do c xs tail) (λ xs. Do (found_under r c) xs tail) (λ xs. refl))) (inl tt)

  pub effect_like : (m : Memory) (i : Instruction) → Alike r (length f.slots) s' (effect names f e s m i) (effect names f' e' s' m (instruction_under r i))
  effect_like m (Plain p) = simple_like m p
  effect_like m (Branches c) = branch_like c
  effect_like m SequencePoint = refl
  effect_like m (Return vs) = list_like vs (λ xs. Give xs) (λ xs. Give xs) (λ xs. refl)
  effect_like m (Call t args) = calls_like t args false
  effect_like m (ReturnCall t args) = calls_like t args true
  effect_like m (TryCall (TryDirect k) sig args normal table) = calls_like (Direct k) args false
  effect_like m (TryCall (TryIndirect a) sig args normal table) = calls_like (Indirect sig a) args false
