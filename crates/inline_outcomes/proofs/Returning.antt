-- What frames that wait do, when values come back or a throw passes.
use Rattle.std.proofs.Common.{◌≡◌, ℕ, zero, suc, ◌+◌, ◌≤◌, inl, inr, List, [], ◌∷◌, ◌++◌, length, map, Option, Some, None, Bool, true, false, refl, sym, ap, ◌∙◌, subst, subst₂, arith, append_assoc, append-nil}
use Rattle.std.specs.Prelude.{slice_get, if◌then◌else◌}
use Rattle.ir_core.specs.declared.instructions.Arg.{Arg}
use Rattle.ir_core.specs.declared.instructions.BlockCall.{BlockCall}
use Rattle.exn_tables.specs.declared.table.Entry.{Entry}
use Rattle.exn_tables.specs.Table.{takes}
use Rattle.clk_num.specs.Operations.{DataValue}
use Rattle.ir_core.specs.declared.instructions.Arg.TheVariants as arg
use Rattle.ir_core.specs.Module.{Block, Branches, Call, Instruction, Line, Module, Plain, Return, ReturnCall, SequencePoint, TryCall}
use Rattle.ir_core.specs.Lookup.{find_block}
use Rattle.ir_core.proofs.Gets.{some_same}
use Rattle.ir_semantics.specs.Values.{Env, Slots, all_of, bind, cons_some, i64, put}
use Rattle.ir_semantics.specs.Machine.{Caught, Frame, Moment, On, Stuck, Wait, World}
use Rattle.ir_semantics.specs.Effect.{Enter, arg_value, arg_values, go_to, need}
use Rattle.ir_semantics.specs.Step.{Hit, Missed, Search, act, enter, enter_target, found, give_to, must, resume, search_in, step, step_at, table_of, throw, with_event}
use Rattle.ir_semantics.specs.Renaming.{Renaming, entry_under, instruction_under, line_under, target_under}
use Rattle.ir_semantics.specs.Splice.{Kind, Last, Splicing, Tries, Within, after_block, callee_names, caller_names, from, kind_of, new_results, or_ret, returned_arg, spliced, to_after, to_normal}
use Rattle.ir_semantics.proofs.SafetyTypes.{put_other, put_same, head_same}
use Rattle.inline_outcomes.proofs.Local.{Injective, Keeps, Maps, SlotKeeps, SlotMaps, all_maps, bind_maps, slots_keep}
use Rattle.inline_outcomes.proofs.Frames.{Again, Embeds, Follows, Local, enter_follow, give_follow, target_follow}
use Rattle.inline_outcomes.proofs.Related.{Below, Distinct, Joined, NotLast, Plainly, RestF, RestG, RestOf, Role, Stack, TailRest, TriesHead, Waiting, Waits, WithinHead, alone, alone_top, caller, inside, inside_top, left, line_of, none, other, ren_of, rest_of, stands}
use Rattle.inline_outcomes.proofs.Showing.{tail_same}

-- searches

abbrev pub ren_search : Renaming → Search → Search
ren_search r (Missed m) = Missed m
ren_search r (Hit m t) = Hit m (target_under r t)

pub search_ren : (r : Renaming) (es : List (Entry BlockCall)) (t n : ℕ) → search_in (map (entry_under r) es) t n ≡ ren_search r (search_in es t n)
search_ren r [] t n = refl
search_ren r (e ∷ es) t n = go (takes t e) (search_ren r es t (suc n))
  where
    go : (b : Bool) → search_in (map (entry_under r) es) t (suc n) ≡ ren_search r (search_in es t (suc n)) → (if b then Hit n (target_under r e.target) else search_in (map (entry_under r) es) t (suc n)) ≡ ren_search r (if b then Hit n e.target else search_in es t (suc n))
    go true ih = refl
    go false ih = ih

abbrev pub then_search : Search → List (Entry BlockCall) → ℕ → Search
then_search (Missed m) es t = search_in es t m
then_search (Hit m x) es t = Hit m x

pub search_append : (a b : List (Entry BlockCall)) (t n : ℕ) → search_in (a ++ b) t n ≡ then_search (search_in a t n) b t
search_append [] b t n = refl
search_append (e ∷ es) b t n = go (takes t e) (search_append es b t (suc n))
  where
    go : (c : Bool) → search_in (es ++ b) t (suc n) ≡ then_search (search_in es t (suc n)) b t → (if c then Hit n e.target else search_in (es ++ b) t (suc n)) ≡ then_search (if c then Hit n e.target else search_in es t (suc n)) b t
    go true ih = refl
    go false ih = ih

pub table_ren : (r : Renaming) (i : Instruction) → table_of (instruction_under r i) ≡ map (entry_under r) (table_of i)
table_ren r (Plain p0) = refl
table_ren r SequencePoint = refl
table_ren r (Branches c0) = refl
table_ren r (Return a) = refl
table_ren r (Call a b) = refl
table_ren r (ReturnCall a b) = refl
table_ren r (TryCall a sg b c d) = refl

abbrev pub table_at : Kind → List (Entry BlockCall)
table_at Within = []
table_at Last = []
table_at (Tries normal table) = table

pub table_kind : (i : Instruction) → table_of i ≡ table_at (kind_of i)
table_kind (Plain p0) = refl
table_kind SequencePoint = refl
table_kind (Branches c0) = refl
table_kind (Return a) = refl
table_kind (Call a b) = refl
table_kind (ReturnCall a b) = refl
table_kind (TryCall a sg b c d) = refl

abbrev pub thrown : Search → ℕ → ℕ → ℕ → Frame → List Wait → World → Moment
thrown sr t p q x s w = elim sr [ Missed m ↦ throw t p q s m w | Hit m target ↦ enter_target x target [] (i64 p ∷ i64 q ∷ []) s (with_event w (Caught t p q m)) ]

-- values bound to names and read again

pub bind_length : (vs : List ℕ) (xs : List DataValue) (e d : Env) → bind vs xs e ≡ Some d → length xs ≡ length vs
bind_length [] [] e d h = refl
bind_length [] (x ∷ xs) e d h = cc
bind_length (v ∷ vs) [] e d h = cc
bind_length (v ∷ vs) (x ∷ xs) e d h = ap suc (bind_length vs xs (put e v x) d h)

pub all_vals : (e : Env) (rets exns : List DataValue) (vs : List ℕ) → all_of (arg_value e rets exns) (map arg.Value vs) ≡ all_of e vs
all_vals e rets exns [] = refl
all_vals e rets exns (v ∷ vs) = ap (cons_some (e v)) (all_vals e rets exns vs)

get_seam : (ys xs : List DataValue) (x : DataValue) → slice_get (ys ++ (x ∷ xs)) (length ys) ≡ Some x
get_seam [] xs x = refl
get_seam (y ∷ ys) xs x = get_seam ys xs x

rets_from : (ys xs : List DataValue) (e : Env) (exns : List DataValue) → all_of (arg_value e (ys ++ xs) exns) (map arg.Ret (from (length ys) (length xs))) ≡ Some xs
rets_from ys [] e exns = refl
rets_from ys (x ∷ xs) e exns =
    let ih = rets_from (ys ++ (x ∷ [])) xs e exns in
    let a : (ys ++ (x ∷ [])) ++ xs ≡ ys ++ (x ∷ xs) = append_assoc ys (x ∷ []) xs in
    let b : length (ys ++ (x ∷ [])) ≡ suc (length ys) = length_snoc ys x in
    let ih' = subst₂ (λ zs m. all_of (arg_value e zs exns) (map arg.Ret (from m (length xs))) ≡ Some xs) a b ih in
    ap (λ o. cons_some o (all_of (arg_value e (ys ++ (x ∷ xs)) exns) (map arg.Ret (from (suc (length ys)) (length xs))))) (get_seam ys xs x) ∙ ap (cons_some (Some x)) ih'
  where
    length_snoc : (zs : List DataValue) (z : DataValue) → length (zs ++ (z ∷ [])) ≡ suc (length zs)
    length_snoc [] z = refl
    length_snoc (y ∷ zs) z = ap suc (length_snoc zs z)

pub rets_values : (xs : List DataValue) (m : ℕ) (e : Env) → length xs ≡ m → all_of (arg_value e xs []) (map arg.Ret (from 0 m)) ≡ Some xs
rets_values xs m e h = subst (λ k. all_of (arg_value e xs []) (map arg.Ret (from 0 k)) ≡ Some xs) h (rets_from [] xs e [])

bind_other : (h : ℕ → ℕ) (u i m : ℕ) (xs : List DataValue) (e d : Env) → ((j : ℕ) → i ≤ j → h j ≡ u → ⊥) → bind (map h (from i m)) xs e ≡ Some d → d u ≡ e u
bind_other h u i zero [] e d off q = ap (λ z. z u) (sym (some_same q))
bind_other h u i zero (x ∷ xs) e d off q = cc
bind_other h u i (suc m) [] e d off q = cc
bind_other h u i (suc m) (x ∷ xs) e d off q =
    bind_other h u (suc i) m xs (put e (h i) x) d (λ j b. off j (omega (arith, b))) q ∙ put_other e (h i) x u (λ p. off i (omega arith) (sym p))

pub bind_new : (h : ℕ → ℕ) → Injective h → (i m : ℕ) (xs : List DataValue) (e d : Env) → bind (map h (from i m)) xs e ≡ Some d → all_of d (map h (from i m)) ≡ Some xs
bind_new h inj i zero [] e d q = refl
bind_new h inj i zero (x ∷ xs) e d q = cc
bind_new h inj i (suc m) [] e d q = cc
bind_new h inj i (suc m) (x ∷ xs) e d q =
    let a : d (h i) ≡ Some x = bind_other h (h i) (suc i) m xs (put e (h i) x) d (λ j b p. let r : j ≡ i = inj j i p in absurd (omega (arith, b, r))) q ∙ put_same e (h i) x (h i) refl in
    ap (λ o. cons_some o (all_of d (map h (from (suc i) m)))) a ∙ ap (cons_some (Some x)) (bind_new h inj (suc i) m xs (put e (h i) x) d q)

-- new names leave the others as they are
pub bind_apart : (h : ℕ → ℕ) (u m : ℕ) (xs : List DataValue) (e d : Env) → ((j : ℕ) → h j ≡ u → ⊥) → bind (map h (from 0 m)) xs e ≡ Some d → d u ≡ e u
bind_apart h u m xs e d off q = bind_other h u 0 m xs e d (λ j b. off j) q

-- as many names as values always take them
pub length_new : (h : ℕ → ℕ) (i m : ℕ) → length (map h (from i m)) ≡ m
length_new h i zero = refl
length_new h i (suc m) = ap suc (length_new h (suc i) m)

pub bind_some : (vs : List ℕ) (xs : List DataValue) (e : Env) → length xs ≡ length vs → (d : Env) × (bind vs xs e ≡ Some d)
bind_some [] [] e h = (e, refl)
bind_some [] (x ∷ xs) e h = cc
bind_some (v ∷ vs) [] e h = cc
bind_some (v ∷ vs) (x ∷ xs) e h = bind_some vs xs (put e v x) (omega (arith, h))

get_all : (e : Env) (vs : List ℕ) (xs : List DataValue) (i : ℕ) (y : DataValue) → all_of e vs ≡ Some xs → slice_get xs i ≡ Some y → (u : ℕ) × (slice_get vs i ≡ Some u) × (e u ≡ Some y)
get_all e [] xs i y h q = absurd (let r : xs ≡ [] = sym (some_same h) in none_at i (subst (λ z. slice_get z i ≡ Some y) r q))
  where
    none_at : (j : ℕ) → slice_get {X = DataValue} [] j ≡ Some y → ⊥
    none_at j q = cc
get_all e (v ∷ vs) xs i y h q = go (λ ys a j b. get_all e vs ys j y a b) (e v) refl (all_of e vs) refl h i q
  where
    go : ((ys : List DataValue) → all_of e vs ≡ Some ys → (j : ℕ) → slice_get ys j ≡ Some y → (u : ℕ) × (slice_get vs j ≡ Some u) × (e u ≡ Some y)) → (o : Option DataValue) → e v ≡ o → (p : Option (List DataValue)) → all_of e vs ≡ p → cons_some o p ≡ Some xs → (j : ℕ) → slice_get xs j ≡ Some y → (u : ℕ) × (slice_get (v ∷ vs) j ≡ Some u) × (e u ≡ Some y)
    go ih None a p b c j d = cc
    go ih (Some x) a None b c j d = cc
    go ih (Some x) a (Some ys) b c zero d = let r : x ∷ ys ≡ xs = some_same c in (v, refl, a ∙ subst (λ z. slice_get z 0 ≡ Some y) (sym r) d)
    go ih (Some x) a (Some ys) b c (suc j) d = let r : x ∷ ys ≡ xs = some_same c in ih ys b j (subst (λ z. slice_get z (suc j) ≡ Some y) (sym r) d)

module _ (S : Splicing) (R : Module) (names : Distinct S.naming) where
  abbrev pub Pairs : Frame → List Wait → Frame → List Wait → Type 0
  Pairs = Stack S

  abbrev pub Foll : Moment → Moment → Type 0
  Foll = Follows R Pairs

  pub role_local : {d : List ℕ} {x x' : Frame} → (role : Role S d x x') → Local (ren_of S role) (rest_of S role) x x'
  role_local (other r local rest extra) = local
  role_local (caller func func' local rest extra) = local
  role_local (stands ns tags last local rest extra) = local

  pub role_rest : {d : List ℕ} {x x' : Frame} → (role : Role S d x x') → rest_of S role x.rest x'.rest
  role_rest (other r local rest extra) = rest
  role_rest (caller func func' local rest extra) = rest
  role_rest (stands ns tags last local rest extra) = rest

  pub role_again : {d : List ℕ} {x x' : Frame} {s s' : List Wait} → (role : Role S d x x') → Below S d s s' → Again R Pairs (ren_of S role) (rest_of S role) x s x' s'
  role_again (other r local rest extra) b = λ ls ls' e e' sl sl' q m k sm sk. alone_top (other r (record { embeds = local.embeds; env = m; slots = sm }) q extra) b
  role_again (caller func func' local rest extra) b = λ ls ls' e e' sl sl' q m k sm sk. alone_top (caller func func' (record { embeds = local.embeds; env = m; slots = sm }) q extra) b
  role_again (stands ns tags last local rest extra) b = λ ls ls' e e' sl sl' q m k sm sk. alone_top (stands ns tags last (record { embeds = local.embeds; env = m; slots = sm }) q extra) b

  module _ (ef : Embeds S.caller (spliced S) (caller_names S) (RestF S)) (eg : Embeds S.callee (spliced S) (callee_names S) (RestG S (kind_of S.site.inst))) where
    pub waits_local : {d : List ℕ} {y : Wait} {x' : Frame} → Waits S d y x' → Local (caller_names S) (RestF S) y.frame x'
    waits_local {y = y} {x' = x'} w =
        record {
          embeds = subst₂ (λ a b. Embeds a b (caller_names S) (RestF S)) (sym w.func) (sym w.func') ef;
          env = w.env;
          slots = subst (λ z. SlotMaps (length z.slots) (λ k. k) y.frame.slots x'.slots) (sym w.func) w.slots;
        }

    pub waits_again : {d : List ℕ} {y : Wait} {x' : Frame} {s s' : List Wait} → Waits S d y x' → Below S d s s' → Again R Pairs (caller_names S) (RestF S) y.frame s x' s'
    waits_again w b = λ ls ls' e e' sl sl' q m k sm sk. alone_top (caller w.func w.func' (record { embeds = (waits_local w).embeds; env = m; slots = sm }) q w.extra) b

    pub inside_local : {d : List ℕ} {k : Kind} {x : Frame} {z : Wait} {x' : Frame} → kind_of S.site.inst ≡ k → Joined S d k x z x' → Local (callee_names S) (RestG S k) x x'
    inside_local {k = k} {x = x} {x' = x'} kind in' =
        record {
          embeds = subst (λ j. Embeds x.func x'.func (callee_names S) (RestG S j)) kind (subst₂ (λ a b. Embeds a b (callee_names S) (RestG S (kind_of S.site.inst))) (sym in'.func) (sym in'.waits.func') eg);
          env = in'.env;
          slots = subst (λ z. SlotMaps (length z.slots) (callee_names S).slot x.slots x'.slots) (sym in'.func) in'.slots;
        }

    -- f's values and slots stay as g's change
    pub waits_kept : {d : List ℕ} {z : Wait} {x' : Frame} → Waits S d z x' → (ls' : List Line) (e' : Env) (sl' : Slots) → Keeps S.naming.callee_value x'.env e' → SlotKeeps (callee_names S).slot x'.slots sl' → Waits S d z (record x' { rest = ls'; env = e'; slots = sl' })
    waits_kept w ls' e' sl' k sk =
        record {
          line = w.line;
          func = w.func;
          func' = w.func';
          rest = w.rest;
          env = record { at = λ v x h. k.at (S.naming.caller_value v) (λ u p. names.values v u (sym p)) ∙ w.env.at v x h };
          slots = record { at = λ j o b below h. sk.at j o (λ i p. let p' : length S.caller.slots + i ≡ j = p in absurd (omega (arith, below, p'))) ∙ w.slots.at j o b below h };
          extra = w.extra;
        }

    pub inside_again : {d : List ℕ} {k : Kind} {x : Frame} {z : Wait} {x' : Frame} {s s' : List Wait} → kind_of S.site.inst ≡ k → Joined S d k x z x' → Below S d s s' → Again R Pairs (callee_names S) (RestG S k) x (z ∷ s) x' s'
    inside_again {k = k} {x = x} kind in' b =
        λ ls ls' e e' sl sl' q m kp sm sk.
        inside_top k kind (record {
          waits = waits_kept in'.waits ls' e' sl' kp sk;
          not_last = in'.not_last;
          func = in'.func;
          env = m;
          slots = subst (λ z. SlotMaps (length z.slots) (callee_names S).slot sl sl') in'.func sm;
          extra = in'.extra;
        }) q b

    pub enter_is : (x : Frame) (b : ℕ) (xs : List DataValue) (s : List Wait) (w : World) (k : Block) (e : Env) → find_block b x.func.blocks ≡ Some k → bind k.params xs x.env ≡ Some e → enter x b xs s w ≡ On (record x { rest = k.lines; env = e }) s w
    enter_is x b xs s w k e h q =
        ap (λ o. must w o Stuck (λ k. must w (bind k.params xs x.env) Stuck (λ e. On (record x { rest = k.lines; env = e }) s w))) h ∙ ap (λ o. must w o Stuck (λ e. On (record x { rest = k.lines; env = e }) s w)) q

    pub jump_is : (y : Frame) (s : List Wait) (w : World) (vs : List ℕ) (t : List Line) (xs : List DataValue) → y.rest ≡ to_after S vs ∷ t → all_of y.env vs ≡ Some xs → step R y s w ≡ enter y S.naming.after xs s w
    jump_is y s w vs t xs h q =
        ap (λ ls. step_at R y ls s w) h ∙ ap (λ o. act R (to_after S vs) (record y { rest = t }) s w (need o Stuck (λ zs. Enter S.naming.after zs))) (all_vals y.env [] [] vs ∙ q)

    -- what the block after g's body does
    module _ (af : kind_of S.site.inst ≡ Within → find_block S.naming.after (spliced S).blocks ≡ Some (after_block S)) where
      -- f's values in a frame of the result, at the block after
      arrive : {d : List ℕ} {z : Wait} {x' : Frame} {s s' : List Wait} → kind_of S.site.inst ≡ Within → Waits S d z x' → Below S d s s' → (w : World) (xs : List DataValue) (e1 : Env) → Maps S.naming.caller_value z.frame.env e1 → (e : Env) → bind S.site.results xs z.frame.env ≡ Some e → (x'' : Frame) × (enter (record x' { env = e1 }) S.naming.after xs s' w ≡ On x'' s' w) × Pairs (record z.frame { env = e }) s x'' s'
      arrive {z = z} {x' = x'} {s = s} {s' = s'} kind wt b w xs e1 m e h =
          let p = bind_maps S.naming.caller_value names.caller_value S.site.results xs z.frame.env e1 e m h in
          let here : find_block S.naming.after x'.func.blocks ≡ Some (after_block S) = ap (λ q. find_block S.naming.after q.blocks) wt.func' ∙ af kind in (
            record x' { rest = (after_block S).lines; env = p.0 },
            enter_is (record x' { env = e1 }) S.naming.after xs s' w (after_block S) p.0 here p.1,
            alone_top (caller wt.func wt.func' (record { embeds = (waits_local wt).embeds; env = p.2; slots = (waits_local wt).slots }) (inl (ap (map (line_under (caller_names S))) (sym wt.rest))) wt.extra) b,
          )

      pub give_after : {d : List ℕ} {z : Wait} {x' : Frame} {s s' : List Wait} (i : Instruction) → kind_of i ≡ Within → kind_of S.site.inst ≡ Within → Waits S d z x' → Below S d s s' → (w : World) (xs : List DataValue) → Foll (give_to i S.site.results xs z.frame s w) (enter x' S.naming.after xs s' w)
      give_after {z = z} {x' = x'} {s = s} {s' = s'} (Call a c) q kind wt b w xs = go (bind S.site.results xs z.frame.env) refl
        where
          go : (o : Option Env) → bind S.site.results xs z.frame.env ≡ o → Foll (must w o Stuck (λ e. On (record z.frame { env = e }) s w)) (enter x' S.naming.after xs s' w)
          go None h = inl tt
          go (Some e) h = let r = arrive kind wt b w xs x'.env wt.env e h in (r.0, s', inl r.1, r.2)
      give_after (TryCall a sg c to u) q kind wt b w xs = cc
      give_after (Plain p0) q kind wt c w xs = inl tt
      give_after SequencePoint q kind wt b w xs = inl tt
      give_after (Branches c0) q kind wt b w xs = inl tt
      give_after (Return a) q kind wt b w xs = inl tt
      give_after (ReturnCall a c) q kind wt b w xs = inl tt

      -- the result waits at a call whose values it hands on by a jump
      give_new : {d : List ℕ} {z : Wait} {x' : Frame} {s s' : List Wait} (i : Instruction) → kind_of i ≡ Within → kind_of S.site.inst ≡ Within → Waits S d z x' → Below S d s s' → (w : World) (xs : List DataValue) (c : ℕ) (t : List Line) → x'.rest ≡ to_after S (new_results S c) ∷ t → Foll (give_to i S.site.results xs z.frame s w) (must w (bind (new_results S c) xs x'.env) Stuck (λ e. On (record x' { env = e }) s' w))
      give_new {z = z} {x' = x'} {s = s} {s' = s'} (Call a c') q kind wt b w xs c t rest = go (bind S.site.results xs z.frame.env) refl
        where
          go : (o : Option Env) → bind S.site.results xs z.frame.env ≡ o → Foll (must w o Stuck (λ e. On (record z.frame { env = e }) s w)) (must w (bind (new_results S c) xs x'.env) Stuck (λ e. On (record x' { env = e }) s' w))
          go None h = inl tt
          go (Some e) h =
              let len : length xs ≡ length (new_results S c) = bind_length S.site.results xs z.frame.env e h ∙ sym (length_new (S.naming.new_value c) 0 (length S.site.results)) in
              let e1 = bind_some (new_results S c) xs x'.env len in
              let m : Maps S.naming.caller_value z.frame.env e1.0 = record { at = λ v x p. bind_apart (S.naming.new_value c) (S.naming.caller_value v) (length S.site.results) xs x'.env e1.0 (λ j p. names.value_new v c j (sym p)) e1.1 ∙ wt.env.at v x p } in
              let r = arrive kind wt b w xs e1.0 m e h in
              let j = jump_is (record x' { env = e1.0 }) s' w (new_results S c) t xs rest (bind_new (S.naming.new_value c) (names.new_value c) 0 (length S.site.results) xs x'.env e1.0 e1.1) in
              (r.0, s', inr (record x' { env = e1.0 }, s', ap (λ o. must w o Stuck (λ e. On (record x' { env = e }) s' w)) e1.1, j ∙ r.1), r.2)
      give_new (TryCall a sg c to u) q kind wt b w xs c' t rest = cc
      give_new (Plain p0) q kind wt c w xs c' t rest = inl tt
      give_new SequencePoint q kind wt b w xs c' t rest = inl tt
      give_new (Branches c0) q kind wt b w xs c' t' rest = inl tt
      give_new (Return a) q kind wt b w xs c' t rest = inl tt
      give_new (ReturnCall a c) q kind wt b w xs c' t rest = inl tt

      -- the site has a normal target
      pub give_normal : {d : List ℕ} {z : Wait} {x' : Frame} {s s' : List Wait} (i : Instruction) (normal : BlockCall) (table : List (Entry BlockCall)) → kind_of i ≡ Tries normal table → Waits S d z x' → Below S d s s' → (w : World) (xs : List DataValue) → Foll (give_to i S.site.results xs z.frame s w) (enter_target x' (target_under (caller_names S) normal) xs [] s' w)
      give_normal {z = z} {x' = x'} {s = s} {s' = s'} (TryCall a sg c to u) normal table q wt b w xs =
          let same : to ≡ normal = tries_same q in
          subst (λ t. Foll (enter_target z.frame to xs [] s w) (enter_target x' (target_under (caller_names S) t) xs [] s' w)) same (target_follow R Pairs (caller_names S) (RestF S) z.frame x' s s' (waits_local wt) (waits_again wt b) w to xs [])
        where
          tries_same : {t t' : BlockCall} {u u' : List (Entry BlockCall)} → Tries t u ≡ Tries t' u' → t ≡ t'
          tries_same q = cc
      give_normal (Call a c) normal table q wt b w xs = cc
      give_normal (Plain p0) normal table q wt c w xs = inl tt
      give_normal SequencePoint normal table q wt b w xs = inl tt
      give_normal (Branches c0) normal table q wt b w xs = inl tt
      give_normal (Return a) normal table q wt b w xs = inl tt
      give_normal (ReturnCall a c) normal table q wt b w xs = inl tt

      -- the values that S.callee returns, for the site's normal target
      returned_values : {d : List ℕ} {z : Wait} {x' : Frame} → Waits S d z x' → (vs : List ℕ) (xs : List DataValue) → all_of x'.env (map S.naming.callee_value vs) ≡ Some xs → (a : Arg) (y : DataValue) → arg_value z.frame.env xs [] a ≡ Some y → arg_value x'.env [] [] (returned_arg S vs a) ≡ Some y
      returned_values wt vs xs h (arg.Value v) y q = wt.env.at v y q
      returned_values {x' = x'} wt vs xs h (arg.Ret i) y q =
          let p = get_all x'.env (map S.naming.callee_value vs) xs i y h q in
          ap (λ o. arg_value x'.env [] [] (or_ret i o)) p.1 ∙ p.2
      returned_values wt vs xs h (arg.Exn i) y q = cc

      pub give_returned : {d : List ℕ} {z : Wait} {x' : Frame} {s s' : List Wait} (i : Instruction) (normal : BlockCall) (table : List (Entry BlockCall)) → kind_of i ≡ Tries normal table → Waits S d z x' → Below S d s s' → (w : World) (vs : List ℕ) (xs : List DataValue) → all_of x'.env (map S.naming.callee_value vs) ≡ Some xs → Foll (give_to i S.site.results xs z.frame s w) (act R (to_normal S normal vs) x' s' w (go_to x'.env (record { block = S.naming.caller_block normal.block; args = map (returned_arg S vs) normal.args })))
      give_returned {z = z} {x' = x'} {s = s} {s' = s'} (TryCall a sg c to u) normal table q wt b w vs xs h = subst (λ y. Foll (enter_target z.frame y xs [] s w) (act R (to_normal S normal vs) x' s' w (go_to x'.env (record { block = S.naming.caller_block normal.block; args = map (returned_arg S vs) normal.args })))) (sym (tries_same q)) (go (arg_values z.frame.env xs [] normal) refl)
        where
          tries_same : {t t' : BlockCall} {u u' : List (Entry BlockCall)} → Tries t u ≡ Tries t' u' → t ≡ t'
          tries_same q = cc

          go : (o : Option (List DataValue)) → arg_values z.frame.env xs [] normal ≡ o → Foll (must w o Stuck (λ ys. enter z.frame normal.block ys s w)) (act R (to_normal S normal vs) x' s' w (go_to x'.env (record { block = S.naming.caller_block normal.block; args = map (returned_arg S vs) normal.args })))
          go None e = inl tt
          go (Some ys) e =
              let v = all_maps (arg_value z.frame.env xs []) (arg_value x'.env [] []) (returned_arg S vs) (returned_values wt vs xs h) normal.args ys e in
              subst (λ o. Foll (enter z.frame normal.block ys s w) (act R (to_normal S normal vs) x' s' w (need o Stuck (λ zs. Enter (S.naming.caller_block normal.block) zs)))) (sym v) (enter_follow R Pairs (caller_names S) (RestF S) z.frame x' s s' (waits_local wt) (waits_again wt b) w normal.block ys)
      give_returned (Call a c) normal table q wt b w vs xs h = cc
      give_returned (Plain p0) normal table q wt c w vs xs h = inl tt
      give_returned SequencePoint normal table q wt b w vs xs h = inl tt
      give_returned (Branches c0) normal table q wt b w vs xs h = inl tt
      give_returned (Return a) normal table q wt b w vs xs h = inl tt
      give_returned (ReturnCall a c) normal table q wt b w vs xs h = inl tt

      role_give : {d : List ℕ} {x x' : Frame} {s s' : List Wait} (role : Role S d x x') → Below S d s s' → (w : World) (i : Line) (xs : List DataValue) → Foll (give_to i.inst i.results xs x s w) (give_to (line_of S role i).inst (line_of S role i).results xs x' s' w)
      role_give {x = x} {x' = x'} {s = s} {s' = s'} (other r local rest extra) b w i xs = give_follow R Pairs r (RestOf r) x x' s s' local (role_again (other r local rest extra) b) rest w i.inst i.results xs
      role_give {x = x} {x' = x'} {s = s} {s' = s'} (caller func func' local rest extra) b w i xs = give_follow R Pairs (caller_names S) (RestF S) x x' s s' local (role_again (caller func func' local rest extra) b) rest w i.inst i.results xs
      role_give {x = x} {x' = x'} {s = s} {s' = s'} (stands ns tags last local rest extra) b w i xs = give_follow R Pairs (callee_names S) (RestG S Last) x x' s s' local (role_again (stands ns tags last local rest extra) b) rest w i.inst i.results xs

      module _ {d : List ℕ} {k : Kind} {x : Frame} {z : Wait} {x' : Frame} {s s' : List Wait} (kind : kind_of S.site.inst ≡ k) (in' : Joined S d k x z x') (b : Below S d s s') where
        plain_give : (i i' : Line) → Plainly S i (RestG S k x.rest) (i' ∷ x'.rest) → (w : World) (xs : List DataValue) → Foll (give_to i.inst i.results xs x (z ∷ s) w) (give_to i'.inst i'.results xs x' s' w)
        plain_give i i' h w xs =
            let rest : RestG S k x.rest x'.rest = subst (RestG S k x.rest) (sym (tail_same h.1)) h.2 in
            subst (λ m. Foll (give_to i.inst i.results xs x (z ∷ s) w) (give_to m.inst m.results xs x' s' w)) (sym (head_same h.1)) (give_follow R Pairs (callee_names S) (RestG S k) x x' (z ∷ s) s' (inside_local kind in') (inside_again kind in' b) rest w i.inst i.results xs)

        within_give : (inst : Instruction) (i i' : Line) → i.inst ≡ inst → WithinHead S inst i (RestG S k x.rest) (i' ∷ x'.rest) → Waiting inst → (w : World) (xs : List DataValue) → Foll (give_to i.inst i.results xs x (z ∷ s) w) (give_to i'.inst i'.results xs x' s' w)
        within_give (Call a c) i i' q h t w xs = plain_give i i' h w xs
        within_give (TryCall a sg c to u) i i' q h t w xs = plain_give i i' h w xs
        within_give SequencePoint i i' q h t w xs = elim t [ ]
        within_give (ReturnCall a c) i i' q h t w xs = elim t [ ]
        within_give (Plain p0) i i' q h t w xs = elim t [ ]
        within_give (Branches c0) i i' q h t w xs = elim t [ ]
        within_give (Return a) i i' q h t w xs = elim t [ ]

        -- a call that became one with a normal target of its own
        call_give : (i : Line) (xs : List DataValue) (w : World) (at' : ℕ) (k' : Block) → find_block at' (spliced S).blocks ≡ Some k' → k'.params ≡ map S.naming.callee_value i.results → RestG S k x.rest k'.lines → (o : Option Env) → bind i.results xs x.env ≡ o → Foll (must w o Stuck (λ e. On (record x { env = e }) (z ∷ s) w)) (enter_target x' (record { block = at'; args = map arg.Ret (from 0 (length i.results)) }) xs [] s' w)
        call_give i xs w at' k' found params more None h = inl tt
        call_give i xs w at' k' found params more (Some e) h =
            let v = rets_values xs (length i.results) x'.env (bind_length i.results xs x.env e h) in
            let p = bind_maps S.naming.callee_value names.callee_value i.results xs x.env x'.env e in'.env h in
            let here : find_block at' x'.func.blocks ≡ Some k' = ap (λ q. find_block at' q.blocks) in'.waits.func' ∙ found in
            let bound : bind k'.params xs x'.env ≡ Some p.0 = ap (λ vs. bind vs xs x'.env) params ∙ p.1 in (
              record x' { rest = k'.lines; env = p.0 },
              s',
              inl (ap (λ o. must w o Stuck (λ values. enter x' at' values s' w)) v ∙ enter_is x' at' xs s' w k' p.0 here bound),
              inside_again kind in' b x.rest k'.lines e p.0 x.slots x'.slots more p.2 p.3 (inside_local kind in').slots (slots_keep (callee_names S).slot x'.slots),
            )

        tries_give : (normal : BlockCall) (table : List (Entry BlockCall)) (inst : Instruction) (i i' : Line) → i.inst ≡ inst → TriesHead S normal table inst i (RestG S k x.rest) (i' ∷ x'.rest) → Waiting inst → (w : World) (xs : List DataValue) → Foll (give_to i.inst i.results xs x (z ∷ s) w) (give_to i'.inst i'.results xs x' s' w)
        tries_give normal table (Call a c) i i' q h t w xs =
            let core = call_give i xs w h.0 h.1 h.4 h.5 h.6 (bind i.results xs x.env) refl in
            subst (λ j. Foll (give_to j i.results xs x (z ∷ s) w) (give_to i'.inst i'.results xs x' s' w)) (sym q) (subst (λ m. Foll (give_to (Call a c) i.results xs x (z ∷ s) w) (give_to m.inst m.results xs x' s' w)) (sym (head_same h.3)) core)
        tries_give normal table (TryCall a sg c to u) i i' q h t w xs =
            let core = target_follow R Pairs (callee_names S) (RestG S k) x x' (z ∷ s) s' (inside_local kind in') (inside_again kind in' b) w to xs [] in
            subst (λ j. Foll (give_to j i.results xs x (z ∷ s) w) (give_to i'.inst i'.results xs x' s' w)) (sym q) (subst (λ m. Foll (give_to (TryCall a sg c to u) i.results xs x (z ∷ s) w) (give_to m.inst m.results xs x' s' w)) (sym (head_same h.1)) core)
        tries_give normal table SequencePoint i i' q h t w xs = elim t [ ]
        tries_give normal table (ReturnCall a c) i i' q h t w xs = elim t [ ]
        tries_give normal table (Plain p0) i i' q h t w xs = elim t [ ]
        tries_give normal table (Branches c0) i i' q h t w xs = elim t [ ]
        tries_give normal table (Return a) i i' q h t w xs = elim t [ ]

      inside_give : {d : List ℕ} (k : Kind) {x : Frame} {z : Wait} {x' : Frame} {s s' : List Wait} (kind : kind_of S.site.inst ≡ k) (in' : Joined S d k x z x') (b : Below S d s s') (i i' : Line) → RestG S k (i ∷ x.rest) (i' ∷ x'.rest) → Waiting i.inst → (w : World) (xs : List DataValue) → Foll (give_to i.inst i.results xs x (z ∷ s) w) (give_to i'.inst i'.results xs x' s' w)
      inside_give Within kind in' b i i' h t w xs = within_give kind in' b i.inst i i' refl h t w xs
      inside_give Last kind in' b i i' h t w xs = plain_give kind in' b i i' h w xs
      inside_give (Tries normal table) kind in' b i i' h t w xs = tries_give kind in' b normal table i.inst i i' refl h t w xs

      left_give : {d : List ℕ} (k : Kind) (z y' : Wait) {s s' : List Wait} → kind_of S.site.inst ≡ k → Waits S d z y'.frame → TailRest S k y'.line y'.frame.rest → Below S d s s' → (w : World) (xs : List DataValue) → Foll (resume xs (z ∷ s) w) (resume xs (y' ∷ s') w)
      left_give Within z y' {s = s} {s' = s'} kind wt (c, k', args, t, inst, results, rest) b w xs =
          let core = give_new S.site.inst kind kind wt b w xs c t rest in
          let core' = subst (λ m. Foll (give_to m.inst m.results xs z.frame s w) (must w (bind (new_results S c) xs y'.frame.env) Stuck (λ e. On (record y'.frame { env = e }) s' w))) (sym wt.line) core in
          subst₂ (λ j vs. Foll (give_to z.line.inst z.line.results xs z.frame s w) (give_to j vs xs y'.frame s' w)) (sym inst) (sym results) core'
      left_give Last z y' kind wt rest b w xs = elim rest [ ]
      left_give (Tries normal table) z y' {s = s} {s' = s'} kind wt (k', sg, args, inst) b w xs =
          let core = give_normal S.site.inst normal table kind wt b w xs in
          let core' = subst (λ m. Foll (give_to m.inst m.results xs z.frame s w) (enter_target y'.frame (target_under (caller_names S) normal) xs [] s' w)) (sym wt.line) core in
          subst (λ j. Foll (give_to z.line.inst z.line.results xs z.frame s w) (give_to j y'.line.results xs y'.frame s' w)) (sym inst) core'

      pub resume_below : {d : List ℕ} {s s' : List Wait} → Below S d s s' → (w : World) (xs : List DataValue) → Foll (resume xs s w) (resume xs s' w)
      resume_below none w xs = inr refl
      resume_below (alone {y = y} {y' = y'} {s = s} {s' = s'} role line waiting b) w xs =
          subst (λ m. Foll (give_to y.line.inst y.line.results xs y.frame s w) (give_to m.inst m.results xs y'.frame s' w)) (sym line) (role_give role b w y.line xs)
      resume_below (inside {y = y} {y' = y'} k kind in' rest waiting b) w xs = inside_give k kind in' b y.line y'.line rest waiting w xs
      resume_below (left {z = z} {y' = y'} k kind wt rest ts ns tags b) w xs = left_give k z y' kind wt rest b w xs

      -- throws

      thrown_follow : (r : Renaming) (Rest : List Line → List Line → Type 0) (x x' : Frame) (s s' : List Wait) → Local r Rest x x' → Again R Pairs r Rest x s x' s' → (t p q : ℕ) (w : World) → ((m : ℕ) → Foll (throw t p q s m w) (throw t p q s' m w)) → (sr : Search) → Foll (thrown sr t p q x s w) (thrown (ren_search r sr) t p q x' s' w)
      thrown_follow r Rest x x' s s' local again t p q w ih (Missed m) = ih m
      thrown_follow r Rest x x' s s' local again t p q w ih (Hit m to) = target_follow R Pairs r Rest x x' s s' local again (with_event w (Caught t p q m)) to [] (i64 p ∷ i64 q ∷ [])

      -- a line under new names, on the result's side
      throw_ren : (r : Renaming) (Rest : List Line → List Line → Type 0) (x x' : Frame) (s s' : List Wait) → Local r Rest x x' → Again R Pairs r Rest x s x' s' → (t p q : ℕ) (w : World) → ((m : ℕ) → Foll (throw t p q s m w) (throw t p q s' m w)) → (es : List (Entry BlockCall)) (m : ℕ) → Foll (thrown (search_in es t m) t p q x s w) (thrown (search_in (map (entry_under r) es) t m) t p q x' s' w)
      throw_ren r Rest x x' s s' local again t p q w ih es m =
          subst (λ z. Foll (thrown (search_in es t m) t p q x s w) (thrown z t p q x' s' w)) (sym (search_ren r es t m)) (thrown_follow r Rest x x' s s' local again t p q w ih (search_in es t m))

      role_throw : {d : List ℕ} {x x' : Frame} {s s' : List Wait} (role : Role S d x x') → Below S d s s' → (t p q : ℕ) (w : World) → ((m : ℕ) → Foll (throw t p q s m w) (throw t p q s' m w)) → (i : Line) (m : ℕ) → Foll (thrown (search_in (table_of i.inst) t m) t p q x s w) (thrown (search_in (table_of (line_of S role i).inst) t m) t p q x' s' w)
      role_throw {x = x} {x' = x'} {s = s} {s' = s'} (other r local rest extra) b t p q w ih i m =
          subst (λ es. Foll (thrown (search_in (table_of i.inst) t m) t p q x s w) (thrown (search_in es t m) t p q x' s' w)) (sym (table_ren r i.inst)) (throw_ren r (RestOf r) x x' s s' local (role_again (other r local rest extra) b) t p q w ih (table_of i.inst) m)
      role_throw {x = x} {x' = x'} {s = s} {s' = s'} (caller func func' local rest extra) b t p q w ih i m =
          subst (λ es. Foll (thrown (search_in (table_of i.inst) t m) t p q x s w) (thrown (search_in es t m) t p q x' s' w)) (sym (table_ren (caller_names S) i.inst)) (throw_ren (caller_names S) (RestF S) x x' s s' local (role_again (caller func func' local rest extra) b) t p q w ih (table_of i.inst) m)
      role_throw {x = x} {x' = x'} {s = s} {s' = s'} (stands ns tags last local rest extra) b t p q w ih i m =
          subst (λ es. Foll (thrown (search_in (table_of i.inst) t m) t p q x s w) (thrown (search_in es t m) t p q x' s' w)) (sym (table_ren (callee_names S) i.inst)) (throw_ren (callee_names S) (RestG S Last) x x' s s' local (role_again (stands ns tags last local rest extra) b) t p q w ih (table_of i.inst) m)

      -- the site's table, which the result has at its own line
      site_throw : {d : List ℕ} {k : Kind} {z : Wait} {x' : Frame} {s s' : List Wait} → kind_of S.site.inst ≡ k → Waits S d z x' → Below S d s s' → (t p q : ℕ) (w : World) → ((m : ℕ) → Foll (throw t p q s m w) (throw t p q s' m w)) → (m : ℕ) → Foll (throw t p q (z ∷ s) m w) (thrown (search_in (map (entry_under (caller_names S)) (table_at k)) t m) t p q x' s' w)
      site_throw {k = k} {z = z} {x' = x'} {s = s} {s' = s'} kind wt b t p q w ih m =
          let same : table_of z.line.inst ≡ table_at k = ap (λ y. table_of y.inst) wt.line ∙ table_kind S.site.inst ∙ ap table_at kind in
          subst (λ es. Foll (throw t p q (z ∷ s) m w) (thrown (search_in (map (entry_under (caller_names S)) es) t m) t p q x' s' w)) same (throw_ren (caller_names S) (RestF S) z.frame x' s s' (waits_local wt) (waits_again wt b) t p q w ih (table_of z.line.inst) m)

      within_table : (inst : Instruction) (i i' : Line) (more : List Line → Type 0) (is' : List Line) → i.inst ≡ inst → WithinHead S inst i more (i' ∷ is') → Waiting inst → table_of i'.inst ≡ map (entry_under (callee_names S)) (table_of i.inst) ++ []
      within_table (Call a c) i i' more is' q h t = ap (λ z. table_of z.inst) (head_same h.1) ∙ table_ren (callee_names S) i.inst ∙ sym (append-nil _)
      within_table (TryCall a sg c to u) i i' more is' q h t = ap (λ z. table_of z.inst) (head_same h.1) ∙ table_ren (callee_names S) i.inst ∙ sym (append-nil _)
      within_table SequencePoint i i' more is' q h t = elim t [ ]
      within_table (ReturnCall a c) i i' more is' q h t = elim t [ ]
      within_table (Plain p0) i i' more is' q h t = elim t [ ]
      within_table (Branches c0) i i' more is' q h t = elim t [ ]
      within_table (Return a) i i' more is' q h t = elim t [ ]

      tries_table : (normal : BlockCall) (table : List (Entry BlockCall)) (inst : Instruction) (i i' : Line) (more : List Line → Type 0) (is' : List Line) → i.inst ≡ inst → TriesHead S normal table inst i more (i' ∷ is') → Waiting inst → table_of i'.inst ≡ map (entry_under (callee_names S)) (table_of i.inst) ++ map (entry_under (caller_names S)) table
      tries_table normal table (Call a c) i i' more is' q h t = ap (λ z. table_of z.inst) (head_same h.3) ∙ ap (λ j. map (entry_under (callee_names S)) (table_of j) ++ map (entry_under (caller_names S)) table) (sym q)
      tries_table normal table (TryCall a sg c to u) i i' more is' q h t = ap (λ z. table_of z.inst) (head_same h.1) ∙ ap (λ j. map (entry_under (callee_names S)) (table_of j) ++ map (entry_under (caller_names S)) table) (sym q)
      tries_table normal table SequencePoint i i' more is' q h t = elim t [ ]
      tries_table normal table (ReturnCall a c) i i' more is' q h t = elim t [ ]
      tries_table normal table (Plain p0) i i' more is' q h t = elim t [ ]
      tries_table normal table (Branches c0) i i' more is' q h t = elim t [ ]
      tries_table normal table (Return a) i i' more is' q h t = elim t [ ]

      inside_table : (k : Kind) → NotLast S k → (i i' : Line) (is is' : List Line) → RestG S k (i ∷ is) (i' ∷ is') → Waiting i.inst → table_of i'.inst ≡ map (entry_under (callee_names S)) (table_of i.inst) ++ map (entry_under (caller_names S)) (table_at k)
      inside_table Within nl i i' is is' h t = within_table i.inst i i' _ is' refl h t
      inside_table Last nl i i' is is' h t = elim nl [ ]
      inside_table (Tries normal table) nl i i' is is' h t = tries_table normal table i.inst i i' _ is' refl h t

      left_table : (k : Kind) (i' : Line) (rest : List Line) → TailRest S k i' rest → table_of i'.inst ≡ map (entry_under (caller_names S)) (table_at k)
      left_table Within i' rest (c, k', args, t, inst, results, r) = ap table_of inst
      left_table Last i' rest h = elim h [ ]
      left_table (Tries normal table) i' rest (k', sg, args, inst) = ap table_of inst

      inside_throw : {d : List ℕ} {k : Kind} {x : Frame} {z : Wait} {x' : Frame} {s s' : List Wait} → kind_of S.site.inst ≡ k → Joined S d k x z x' → Below S d s s' → (t p q : ℕ) (w : World) → ((m : ℕ) → Foll (throw t p q s m w) (throw t p q s' m w)) → (sr : Search) → Foll (thrown sr t p q x (z ∷ s) w) (thrown (then_search (ren_search (callee_names S) sr) (map (entry_under (caller_names S)) (table_at k)) t) t p q x' s' w)
      inside_throw kind in' b t p q w ih (Missed m) = site_throw kind in'.waits b t p q w ih m
      inside_throw {k = k} {x = x} {z = z} {x' = x'} {s = s} {s' = s'} kind in' b t p q w ih (Hit m to) =
          target_follow R Pairs (callee_names S) (RestG S k) x x' (z ∷ s) s' (inside_local kind in') (inside_again kind in' b) (with_event w (Caught t p q m)) to [] (i64 p ∷ i64 q ∷ [])

      pub throw_below : {d : List ℕ} {s s' : List Wait} → Below S d s s' → (t p q : ℕ) (w : World) (m : ℕ) → Foll (throw t p q s m w) (throw t p q s' m w)
      throw_below none t p q w m = inr refl
      throw_below (alone {y = y} {y' = y'} {s = s} {s' = s'} role line waiting b) t p q w m =
          subst (λ i. Foll (thrown (search_in (table_of y.line.inst) t m) t p q y.frame s w) (thrown (search_in (table_of i.inst) t m) t p q y'.frame s' w)) (sym line) (role_throw role b t p q w (λ j. throw_below b t p q w j) y.line m)
      throw_below (inside {y = y} {z = z} {y' = y'} {s = s} {s' = s'} k kind in' rest waiting b) t p q w m =
          let es : search_in (table_of y'.line.inst) t m ≡ then_search (ren_search (callee_names S) (search_in (table_of y.line.inst) t m)) (map (entry_under (caller_names S)) (table_at k)) t = ap (λ u. search_in u t m) (inside_table k in'.not_last y.line y'.line y.frame.rest y'.frame.rest rest waiting) ∙ search_append (map (entry_under (callee_names S)) (table_of y.line.inst)) (map (entry_under (caller_names S)) (table_at k)) t m ∙ ap (λ u. then_search u (map (entry_under (caller_names S)) (table_at k)) t) (search_ren (callee_names S) (table_of y.line.inst) t m) in
          subst (λ u. Foll (thrown (search_in (table_of y.line.inst) t m) t p q y.frame (z ∷ s) w) (thrown u t p q y'.frame s' w)) (sym es) (inside_throw kind in' b t p q w (λ j. throw_below b t p q w j) (search_in (table_of y.line.inst) t m))
      throw_below (left {z = z} {y' = y'} {s = s} {s' = s'} k kind wt rest ts ns tags b) t p q w m =
          subst (λ u. Foll (throw t p q (z ∷ s) m w) (thrown (search_in u t m) t p q y'.frame s' w)) (sym (left_table k y'.line y'.frame.rest rest)) (site_throw kind wt b t p q w (λ j. throw_below b t p q w j) m)
