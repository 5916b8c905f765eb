-- What a path of a splice has passed: a path of the caller, or one of the caller to the site and one of the callee.
use Rattle.std.proofs.Common.{◌≡◌, ℕ, suc, ◌+◌, inl, inr, List, ◌∷◌, ◌++◌, length, map, Some, None, refl, sym, ap, ap₂, ◌∙◌, subst, subst₂, arith, eq-eqb, ne_eqb}
use Rattle.std.specs.Prelude.{slice_get, if◌then◌else◌}
use Rattle.std.proofs.lemmas.Bool.{cases_eq}
use Rattle.exn_tables.specs.declared.table.Entry.{Entry}
use Rattle.ir_core.specs.declared.instructions.BlockCall.{BlockCall}
use Rattle.ir_core.specs.Module.{Module, Branches, Call, Instruction, Line, Block, Plain, Return, ReturnCall, SequencePoint, TryCall}
use Rattle.ir_core.specs.Lookup.{find_block}
use Rattle.ir_core.specs.Lists.{In}
use Rattle.ir_core.specs.Uses.{targets}
use Rattle.ir_core.proofs.Gets.{some_same}
use Rattle.ir_core.proofs.Members.{in_left, in_map}
use Rattle.ir_semantics.specs.Available.{terminates, Reach, begin, next, branch, Available}
use Rattle.ir_semantics.specs.Renaming.{block_under}
use Rattle.ir_semantics.specs.Splice.{Kind, Last, Splicing, Tries, Within, after_block, after_blocks, body, callee_line, callee_names, caller_names, cut_block, first_number, kind_of, new_results, spliced, spliced_blocks}
use Rattle.inline_acceptance.specs.Alone.{CallSite, standing}
use Rattle.inline_outcomes.proofs.Related.{Distinct}
use Rattle.inline_outcomes.proofs.Places.{find_hit}
use Rattle.inline_outcomes.proofs.Linking.{after_is}
use Rattle.inline_acceptance.proofs.KeptLists.{Sub, sub_front, sub_more, sub_only, target_from}
use Rattle.inline_acceptance.proofs.Points.{Goes, Stops, ends_under, IsTail, tail_stops, not_both, Trans, BlockOf, of_f, of_cut, of_g, of_after, block_of}
use Rattle.inline_acceptance.proofs.KeptPaths.{Sound, block_head, site_goes, came, SpotF, SpotG, f_same, g_same, apart, f_next, g_next, LineFrom, pf, pj, pg, px, known, site_get, ef, eg, GTarget, into_g, into_f, into_after, into_rest, g_target}

module _ (m : Module) (S : Splicing) (names : Distinct S.naming) (site : CallSite S) (f_ok : Sound S.caller) (g_ok : Sound S.callee) where
  abbrev InF : ℕ → ℕ → ℕ → ℕ → Type 0
  InF x i b s = SpotF m S names site f_ok g_ok x i b s

  abbrev InG : ℕ → ℕ → ℕ → ℕ → Type 0
  InG x i c s = SpotG m S names site f_ok g_ok x i c s

  abbrev Origin : ℕ → ℕ → Line → Type 0
  Origin x i i' = LineFrom m S names site f_ok g_ok x i i'

  f_eq : (x i b s b2 s2 : ℕ) → InF x i b s → InF x i b2 s2 → (b ≡ b2) × (s ≡ s2)
  f_eq x i b s b2 s2 p q = f_same m S names site f_ok g_ok x i b s b2 s2 p q

  g_eq : (x i c s c2 s2 : ℕ) → InG x i c s → InG x i c2 s2 → (c ≡ c2) × (s ≡ s2)
  g_eq x i c s c2 s2 p q = g_same m S names site f_ok g_ok x i c s c2 s2 p q

  off : (x i b s c s2 : ℕ) → InF x i b s → InG x i c s2 → ⊥
  off x i b s c s2 p q = apart m S names site f_ok g_ok x i b s c s2 p q

  pub data Trace (x i : ℕ) (defs : List ℕ) : Type 0 where
    tf : (b s : ℕ) → (d : List ℕ) → SpotF m S names site f_ok g_ok x i b s → Reach S.caller b s d → Sub S.naming.caller_value d defs → Trace x i defs
    tg : (c s : ℕ) → (d e : List ℕ) → SpotG m S names site f_ok g_ok x i c s → Reach S.callee c s d → Reach S.caller S.at (length S.before) e → Sub S.naming.callee_value d defs → Sub S.naming.caller_value e defs → Trace x i defs
    -- past a call in place of the callee's frame
    tx : (c s : ℕ) → (k : Block) → (li : Line) → (e : List ℕ) → SpotG m S names site f_ok g_ok x i c (suc s) → find_block c S.callee.blocks ≡ Some k → slice_get k.lines s ≡ Some li → IsTail li.inst → Reach S.caller S.at (length S.before) e → Sub S.naming.caller_value e defs → ((v : ℕ) → In v (new_results S c) → In v defs) → Trace x i defs

  same_block : (x : ℕ) (a b : Block) → find_block x (spliced S).blocks ≡ Some a → find_block x (spliced S).blocks ≡ Some b → a ≡ b
  same_block x a b p q = some_same (sym p ∙ q)

  f_enters : (b s : ℕ) (d : List ℕ) → Reach S.caller b s d → (k : Block) → find_block b S.caller.blocks ≡ Some k → (li : Line) → slice_get k.lines s ≡ Some li → (t : BlockCall) → In t (targets li.inst) → (defs : List ℕ) → Sub S.naming.caller_value d defs → (k'' : Block) → find_block (S.naming.caller_block t.block) (spliced S).blocks ≡ Some k'' → Trace (S.naming.caller_block t.block) 0 (k''.params ++ defs)
  f_enters b s d r k found li get t is defs sub k'' found'' =
      let o = f_ok.lands b k s li found get t is in
      let e = (ef m S names site f_ok g_ok).block t.block o.0 o.1 in
      let same : k'' ≡ e.0 = same_block (S.naming.caller_block t.block) k'' e.0 found'' e.1 in
      let params : k''.params ≡ map S.naming.caller_value o.0.params = ap (λ z. z.params) same ∙ e.2 in
      tf t.block 0 (o.0.params ++ d) (inl (refl, refl)) (branch r k found li get t is o.0 o.1) (subst (λ z. Sub S.naming.caller_value (o.0.params ++ d) (z ++ defs)) (sym params) (sub_front S.naming.caller_value o.0.params d defs sub))

  g_enters : (c s : ℕ) (d e : List ℕ) → Reach S.callee c s d → Reach S.caller S.at (length S.before) e → (k : Block) → find_block c S.callee.blocks ≡ Some k → (li : Line) → slice_get k.lines s ≡ Some li → (t : BlockCall) → In t (targets li.inst) → (defs : List ℕ) → Sub S.naming.callee_value d defs → Sub S.naming.caller_value e defs → (k'' : Block) → find_block (S.naming.callee_block t.block) (spliced S).blocks ≡ Some k'' → Trace (S.naming.callee_block t.block) 0 (k''.params ++ defs)
  g_enters c s d e r rf k found li get t is defs sub subf k'' found'' =
      let o = g_ok.lands c k s li found get t is in
      let b = (eg m S names site f_ok g_ok).block t.block o.0 o.1 in
      let same : k'' ≡ b.0 = same_block (S.naming.callee_block t.block) k'' b.0 found'' b.1 in
      let params : k''.params ≡ map S.naming.callee_value o.0.params = ap (λ z. z.params) same ∙ b.2 in
      tg t.block 0 (o.0.params ++ d) e (inl (refl, refl)) (branch r k found li get t is o.0 o.1) rf (subst (λ z. Sub S.naming.callee_value (o.0.params ++ d) (z ++ defs)) (sym params) (sub_front S.naming.callee_value o.0.params d defs sub)) (sub_more S.naming.caller_value k''.params e defs subf)

  -- from the site's path to the block after
  after_enters : kind_of S.site.inst ≡ Within → (e : List ℕ) → Reach S.caller S.at (length S.before) e → (defs : List ℕ) → Sub S.naming.caller_value e defs → (k'' : Block) → find_block S.naming.after (spliced S).blocks ≡ Some k'' → Trace S.naming.after 0 (k''.params ++ defs)
  after_enters within e rf defs sub k'' found'' =
      let same : k'' ≡ after_block S = same_block S.naming.after k'' (after_block S) found'' (after_is S names (standing S site) within) in
      let params : k''.params ≡ map S.naming.caller_value S.site.results = ap (λ z. z.params) same in
      let z : suc (length S.before) ≡ suc (length S.before + 0) = omega arith in
      tf S.at (suc (length S.before)) (S.site.results ++ e) (inr (refl, refl, z)) (next rf site.block site.block_found S.site (site_get m S names site f_ok g_ok) (site_goes S.site.inst site.callee site.is_call within)) (subst (λ y. Sub S.naming.caller_value (S.site.results ++ e) (y ++ defs)) (sym params) (sub_front S.naming.caller_value S.site.results e defs sub))

  -- from the site into g
  in_enters : (e : List ℕ) → Reach S.caller S.at (length S.before) e → (defs : List ℕ) → Sub S.naming.caller_value e defs → (k'' : Block) → find_block (S.naming.callee_block (first_number S.callee.blocks)) (spliced S).blocks ≡ Some k'' → Trace (S.naming.callee_block (first_number S.callee.blocks)) 0 (k''.params ++ defs)
  in_enters e rf defs sub k'' found'' =
      let name : first_number S.callee.blocks ≡ g_ok.first.number = ap first_number g_ok.blocks in
      let found1 : find_block g_ok.first.number S.callee.blocks ≡ Some g_ok.first = ap (find_block g_ok.first.number) g_ok.blocks ∙ find_hit g_ok.first.number g_ok.first g_ok.others refl in
      let b = (eg m S names site f_ok g_ok).block g_ok.first.number g_ok.first found1 in
      let there : find_block (S.naming.callee_block g_ok.first.number) (spliced S).blocks ≡ Some k'' = ap (λ z. find_block (S.naming.callee_block z) (spliced S).blocks) (sym name) ∙ found'' in
      let same : k'' ≡ b.0 = same_block (S.naming.callee_block g_ok.first.number) k'' b.0 there b.1 in
      let params : k''.params ≡ map S.naming.callee_value g_ok.first.params = ap (λ z. z.params) same ∙ b.2 in
      tg g_ok.first.number 0 g_ok.first.params e (inl (ap S.naming.callee_block name, refl)) (begin g_ok.first g_ok.others g_ok.blocks) rf (subst (λ z. Sub S.naming.callee_value g_ok.first.params (z ++ defs)) (sym params) (sub_only S.naming.callee_value g_ok.first.params defs)) (sub_more S.naming.caller_value k''.params e defs sub)

  -- the params of a block that holds the rest after a call
  pub rest_params : (c s : ℕ) (k : Block) → find_block c S.callee.blocks ≡ Some k → (li : Line) → slice_get k.lines s ≡ Some li → (k'' : Block) → find_block (S.naming.new_block c s) (spliced S).blocks ≡ Some k'' → k''.params ≡ map S.naming.callee_value li.results
  rest_params c s k found li get k'' found'' = by (block_of S names S.caller.blocks site.block site.block_found g_ok.numbers (S.naming.new_block c s) k'' found'')
    where
      by : BlockOf S names site.block S.caller.blocks (S.naming.new_block c s) k'' → k''.params ≡ map S.naming.callee_value li.results
      by (of_f b k1 name q away is) = absurd (names.caller_new b c s (sym name))
      by (of_cut name is) = absurd (names.caller_new S.at c s (sym name))
      by (of_after w name is) = absurd (names.new_after c s name)
      by (of_g o) =
          elim o.which [
            | inl u ↦ absurd (names.callee_new o.c c s (sym u.0))
            | inr u ↦
                let e1 = names.new_block c s o.c (0 + u.j) u.name in
                let kk : k ≡ o.k = some_same (sym found ∙ ap (λ z. find_block z S.callee.blocks) e1.0 ∙ o.found) in
                let sj : s ≡ u.j = let z = e1.1 in omega (arith, z) in
                let same : li ≡ u.line = some_same (sym get ∙ ap₂ (λ (y : Block) (z : ℕ). slice_get y.lines z) kk sj ∙ u.get) in
                u.params ∙ ap (λ z. map S.naming.callee_value z.results) (sym same)
          ]

  new_enters : (c s : ℕ) (d e : List ℕ) → Reach S.callee c s d → Reach S.caller S.at (length S.before) e → (k : Block) → find_block c S.callee.blocks ≡ Some k → (li : Line) → slice_get k.lines s ≡ Some li → Goes li.inst → (defs : List ℕ) → Sub S.naming.callee_value d defs → Sub S.naming.caller_value e defs → (k'' : Block) → find_block (S.naming.new_block c s) (spliced S).blocks ≡ Some k'' → Trace (S.naming.new_block c s) 0 (k''.params ++ defs)
  new_enters c s d e r rf k found li get goes defs sub subf k'' found'' =
      let params = rest_params c s k found li get k'' found'' in
      let z : suc s ≡ suc s + 0 = omega arith in
      tg c (suc s) (li.results ++ d) e (inr (s, refl, z)) (next r k found li get goes) rf (subst (λ y. Sub S.naming.callee_value (li.results ++ d) (y ++ defs)) (sym params) (sub_front S.naming.callee_value li.results d defs sub)) (sub_more S.naming.caller_value k''.params e defs subf)

  -- a block known by an equation
  led : (x u : ℕ) → x ≡ u → (defs : List ℕ) (k'' : Block) → find_block x (spliced S).blocks ≡ Some k'' → (find_block u (spliced S).blocks ≡ Some k'' → Trace u 0 (k''.params ++ defs)) → Trace x 0 (k''.params ++ defs)
  led x u e defs k'' found go = subst (λ z. Trace z 0 (k''.params ++ defs)) (sym e) (go (ap (λ z. find_block z (spliced S).blocks) (sym e) ∙ found))

  g_to : (c s : ℕ) (d e : List ℕ) → Reach S.callee c s d → Reach S.caller S.at (length S.before) e → (k : Block) → find_block c S.callee.blocks ≡ Some k → (li : Line) → slice_get k.lines s ≡ Some li → (defs : List ℕ) → Sub S.naming.callee_value d defs → Sub S.naming.caller_value e defs → (x : ℕ) → GTarget m S names site f_ok g_ok c s li x → (k'' : Block) → find_block x (spliced S).blocks ≡ Some k'' → Trace x 0 (k''.params ++ defs)
  g_to c s d e r rf k found li get defs sub subf x (into_g u is q) k'' found'' = led x (S.naming.callee_block u.block) q defs k'' found'' (λ z. g_enters c s d e r rf k found li get u is defs sub subf k'' z)
  g_to c s d e r rf k found li get defs sub subf x (into_f u is q) k'' found'' =
      led x (S.naming.caller_block u.block) q defs k'' found'' (λ z. f_enters S.at (length S.before) e rf site.block site.block_found S.site (site_get m S names site f_ok g_ok) u is defs subf k'' z)
  g_to c s d e r rf k found li get defs sub subf x (into_after w q) k'' found'' = led x S.naming.after q defs k'' found'' (λ z. after_enters w e rf defs subf k'' z)
  g_to c s d e r rf k found li get defs sub subf x (into_rest goes q) k'' found'' = led x (S.naming.new_block c s) q defs k'' found'' (λ z. new_enters c s d e r rf k found li get goes defs sub subf k'' z)

  -- to the next line of g's part
  module _ (x i c s : ℕ) (spot : SpotG m S names site f_ok g_ok x i c s) (d e : List ℕ) (r : Reach S.callee c s d) (rf : Reach S.caller S.at (length S.before) e) (k : Block) (found : find_block c S.callee.blocks ≡ Some k) (li : Line) (get : slice_get k.lines s ≡ Some li) (defs : List ℕ) (sub : Sub S.naming.callee_value d defs) (subf : Sub S.naming.caller_value e defs) (i' : Line) (goes : Goes i'.inst) where
    plain_on : i' ≡ callee_line S li → Trace x (suc i) (i'.results ++ defs)
    plain_on h =
        let go : Goes li.inst = sym (ends_under (callee_names S) li.inst) ∙ ap (λ y. terminates y.inst) (sym h) ∙ goes in
        tg c (suc s) (li.results ++ d) e (g_next m S names site f_ok g_ok x i c s spot) (next r k found li get go) rf (subst (λ y. Sub S.naming.callee_value (li.results ++ d) (y.results ++ defs)) (sym h) (sub_front S.naming.callee_value li.results d defs sub)) (sub_more S.naming.caller_value i'.results e defs subf)

    stopped : (j : Line) → i' ≡ j → Stops j.inst → Trace x (suc i) (i'.results ++ defs)
    stopped j h z = absurd (not_both i'.inst goes (ap (λ y. terminates y.inst) h ∙ z))

    within_on : (inst : Instruction) → li.inst ≡ inst → Trans S names Within c s inst li i' → Trace x (suc i) (i'.results ++ defs)
    within_on (Return vs) q h = stopped _ h refl
    within_on (ReturnCall j args) q h =
        tx c s k li e (g_next m S names site f_ok g_ok x i c s spot) found get (subst IsTail (sym q) tt) rf (sub_more S.naming.caller_value i'.results e defs subf) (λ v p. in_left v i'.results defs (subst (λ y. In v y.results) (sym h) p))
    within_on (Plain a) q h = plain_on h
    within_on (Branches a) q h = plain_on h
    within_on SequencePoint q h = plain_on h
    within_on (Call a b) q h = plain_on h
    within_on (TryCall a b y z u) q h = plain_on h

    tries_on : (normal : BlockCall) (table : List (Entry BlockCall)) (inst : Instruction) → li.inst ≡ inst → Trans S names (Tries normal table) c s inst li i' → Trace x (suc i) (i'.results ++ defs)
    tries_on normal table (Return vs) q h = stopped _ h refl
    tries_on normal table (ReturnCall j args) q h = stopped _ h refl
    tries_on normal table (Call j args) q h = stopped _ h refl
    tries_on normal table (TryCall j sig args u0 u) q h = stopped _ h refl
    tries_on normal table (Plain a) q h = plain_on h
    tries_on normal table (Branches a) q h = plain_on h
    tries_on normal table SequencePoint q h = plain_on h

    g_on : (kd : Kind) → Trans S names kd c s li.inst li i' → Trace x (suc i) (i'.results ++ defs)
    g_on Within h = within_on li.inst refl h
    g_on Last h = plain_on h
    g_on (Tries normal table) h = tries_on normal table li.inst refl h

  -- no path of g comes past a call in its place
  past_tail : (c s : ℕ) (k : Block) (li : Line) (d : List ℕ) → find_block c S.callee.blocks ≡ Some k → slice_get k.lines s ≡ Some li → IsTail li.inst → Reach S.callee c (suc s) d → ⊥
  past_tail c s k li d found get tails r =
      let w = came r s refl in
      let kk : w.k ≡ k = some_same (sym w.found ∙ found) in
      let same : w.l ≡ li = some_same (sym w.get ∙ ap (λ y. slice_get y.lines s) kk ∙ get) in
      not_both li.inst (subst (λ y. Goes y.inst) same w.goes) (tail_stops li.inst tails)

  -- nor has its block a line after it
  no_line_after : (c s : ℕ) (k : Block) (li : Line) → find_block c S.callee.blocks ≡ Some k → slice_get k.lines s ≡ Some li → IsTail li.inst → (lj : Line) → slice_get k.lines (suc s) ≡ Some lj → ⊥
  no_line_after c s k li found get tails lj q =
      let e = (g_ok.ends c k s li found get).stops (tail_stops li.inst tails) in
      let z : None ≡ Some lj = sym e ∙ q in cc

  step_to : (x i : ℕ) (defs : List ℕ) → Trace x i defs → (i' : Line) → Origin x i i' → (t' : BlockCall) → In t' (targets i'.inst) → (k'' : Block) → find_block t'.block (spliced S).blocks ≡ Some k'' → Trace t'.block 0 (k''.params ++ defs)
  step_to x i defs (tf b s d spot r sub) i' (pf b2 s2 k li spot2 found get h) t' is k'' found'' =
      let e = f_eq x i b s b2 s2 spot spot2 in
      let u = target_from (caller_names S) li.inst t' (subst (λ y. In t' (targets y.inst)) h is) in
      led t'.block (S.naming.caller_block u.0.block) (ap (λ z. z.block) u.2) defs k'' found'' (λ q. f_enters b2 s2 d (subst₂ (λ y z. Reach S.caller y z d) e.0 e.1 r) k found li get u.0 u.1 defs sub k'' q)
  step_to x i defs (tf b s d spot r sub) i' (pj spot2 h) t' is k'' found'' =
      let e = f_eq x i b s S.at (length S.before) spot spot2 in
      elim (subst (λ y. In t' (targets y.inst)) h is) [
        | inl p ↦ led t'.block (S.naming.callee_block (first_number S.callee.blocks)) (ap (λ z. z.block) p) defs k'' found'' (λ q. in_enters d (subst₂ (λ y z. Reach S.caller y z d) e.0 e.1 r) defs sub k'' q)
        | inr p ↦ elim p [ ]
      ]
  step_to x i defs (tf b s d spot r sub) i' (pg c s2 k li spot2 found get h) t' is k'' found'' = absurd (off x i b s c s2 spot spot2)
  step_to x i defs (tf b s d spot r sub) i' (px c s2 k li spot2 found get tails w h) t' is k'' found'' = absurd (off x i b s c (suc s2) spot spot2)
  step_to x i defs (tg c s d e spot r rf sub subf) i' (pf b s2 k li spot2 found get h) t' is k'' found'' = absurd (off x i b s2 c s spot2 spot)
  step_to x i defs (tg c s d e spot r rf sub subf) i' (pj spot2 h) t' is k'' found'' = absurd (off x i S.at (length S.before) c s spot2 spot)
  step_to x i defs (tg c s d e spot r rf sub subf) i' (pg c2 s2 k li spot2 found get h) t' is k'' found'' =
      let u = g_eq x i c s c2 s2 spot spot2 in
      g_to c2 s2 d e (subst₂ (λ y z. Reach S.callee y z d) u.0 u.1 r) rf k found li get defs sub subf t'.block (g_target m S names site f_ok g_ok c2 s2 li i' t' (kind_of S.site.inst) refl h is) k'' found''
  step_to x i defs (tg c s d e spot r rf sub subf) i' (px c2 s2 k li spot2 found get tails w h) t' is k'' found'' =
      let u = g_eq x i c s c2 (suc s2) spot spot2 in
      absurd (past_tail c2 s2 k li d found get tails (subst₂ (λ y z. Reach S.callee y z d) u.0 u.1 r))
  step_to x i defs (tx c s k li e spot found get tails rf subf new) i' (pf b s2 k2 lj spot2 found2 get2 h) t' is k'' found'' = absurd (off x i b s2 c (suc s) spot2 spot)
  step_to x i defs (tx c s k li e spot found get tails rf subf new) i' (pj spot2 h) t' is k'' found'' = absurd (off x i S.at (length S.before) c (suc s) spot2 spot)
  step_to x i defs (tx c s k li e spot found get tails rf subf new) i' (pg c2 s2 k2 lj spot2 found2 get2 h) t' is k'' found'' =
      let u = g_eq x i c (suc s) c2 s2 spot spot2 in
      let kk : k2 ≡ k = some_same (sym found2 ∙ ap (λ z. find_block z S.callee.blocks) (sym u.0) ∙ found) in
      absurd (no_line_after c s k li found get tails lj (ap₂ (λ (y : Block) (z : ℕ). slice_get y.lines z) (sym kk) u.1 ∙ get2))
  step_to x i defs (tx c s k li e spot found get tails rf subf new) i' (px c2 s2 k2 lj spot2 found2 get2 tails2 w h) t' is k'' found'' =
      elim (subst (λ y. In t' (targets y.inst)) h is) [ inl p ↦ led t'.block S.naming.after (ap (λ z. z.block) p) defs k'' found'' (λ q. after_enters w e rf defs subf k'' q) | inr p ↦ elim p [ ] ]

  step_on : (x i : ℕ) (defs : List ℕ) → Trace x i defs → (i' : Line) → Goes i'.inst → Origin x i i' → Trace x (suc i) (i'.results ++ defs)
  step_on x i defs (tf b s d spot r sub) i' goes (pf b2 s2 k li spot2 found get h) =
      let e = f_eq x i b s b2 s2 spot spot2 in
      let go : Goes li.inst = sym (ends_under (caller_names S) li.inst) ∙ ap (λ y. terminates y.inst) (sym h) ∙ goes in
      tf b2 (suc s2) (li.results ++ d) (f_next m S names site f_ok g_ok x i b2 s2 spot2) (next (subst₂ (λ y z. Reach S.caller y z d) e.0 e.1 r) k found li get go) (subst (λ y. Sub S.naming.caller_value (li.results ++ d) (y.results ++ defs)) (sym h) (sub_front S.naming.caller_value li.results d defs sub))
  step_on x i defs t i' goes (pj spot2 h) = absurd (not_both i'.inst goes (ap (λ y. terminates y.inst) h))
  step_on x i defs t i' goes (px c2 s2 k li spot2 found get tails w h) = absurd (not_both i'.inst goes (ap (λ y. terminates y.inst) h))
  step_on x i defs (tf b s d spot r sub) i' goes (pg c s2 k li spot2 found get h) = absurd (off x i b s c s2 spot spot2)
  step_on x i defs (tg c s d e spot r rf sub subf) i' goes (pf b s2 k li spot2 found get h) = absurd (off x i b s2 c s spot2 spot)
  step_on x i defs (tg c s d e spot r rf sub subf) i' goes (pg c2 s2 k li spot2 found get h) =
      let u = g_eq x i c s c2 s2 spot spot2 in
      g_on x i c2 s2 spot2 d e (subst₂ (λ y z. Reach S.callee y z d) u.0 u.1 r) rf k found li get defs sub subf i' goes (kind_of S.site.inst) h
  step_on x i defs (tx c s k li e spot found get tails rf subf new) i' goes (pf b s2 k2 lj spot2 found2 get2 h) = absurd (off x i b s2 c (suc s) spot2 spot)
  step_on x i defs (tx c s k li e spot found get tails rf subf new) i' goes (pg c2 s2 k2 lj spot2 found2 get2 h) =
      let u = g_eq x i c (suc s) c2 s2 spot spot2 in
      let kk : k2 ≡ k = some_same (sym found2 ∙ ap (λ z. find_block z S.callee.blocks) (sym u.0) ∙ found) in
      absurd (no_line_after c s k li found get tails lj (ap₂ (λ (y : Block) (z : ℕ). slice_get y.lines z) (sym kk) u.1 ∙ get2))

  -- the first block
  first_of : (k : Block) (ks : List Block) → (h : Block) × (hs : List Block) × (spliced_blocks S (k ∷ ks) ≡ h ∷ hs) × (h.number ≡ S.naming.caller_block k.number) × (h.params ≡ map S.naming.caller_value k.params)
  first_of k ks =
      elim (cases_eq k.number S.at) [
        | inl q ↦ (cut_block S k, body S S.callee.blocks ++ (after_blocks S (kind_of S.site.inst) ++ map (block_under (caller_names S)) ks), ap (λ c. if c then cut_block S k ∷ (body S S.callee.blocks ++ (after_blocks S (kind_of S.site.inst) ++ map (block_under (caller_names S)) ks)) else block_under (caller_names S) k ∷ spliced_blocks S ks) (eq-eqb k.number S.at q), refl, refl)
        | inr q ↦ (block_under (caller_names S) k, spliced_blocks S ks, ap (λ c. if c then cut_block S k ∷ (body S S.callee.blocks ++ (after_blocks S (kind_of S.site.inst) ++ map (block_under (caller_names S)) ks)) else block_under (caller_names S) k ∷ spliced_blocks S ks) (ne_eqb k.number S.at q), refl, refl)
      ]

  pub out_first : (h : Block) × (hs : List Block) × ((spliced S).blocks ≡ h ∷ hs) × (h.number ≡ S.naming.caller_block f_ok.first.number) × (h.params ≡ map S.naming.caller_value f_ok.first.params)
  out_first = let r = first_of f_ok.first f_ok.others in (r.0, r.1, ap (spliced_blocks S) f_ok.blocks ∙ r.2, r.3, r.4)

  -- every path
  trace : {x i : ℕ} {defs : List ℕ} → Reach (spliced S) x i defs → Trace x i defs
  trace (begin b bs q) =
      let r = out_first in
      let same : r.0 ≡ b = block_head (sym r.2 ∙ q) in
      tf f_ok.first.number 0 f_ok.first.params (inl (ap (λ z. z.number) (sym same) ∙ r.3, refl)) (begin f_ok.first f_ok.others f_ok.blocks) (record { at = λ v p. subst (In (S.naming.caller_value v)) (sym r.4 ∙ ap (λ z. z.params) same) (in_map S.naming.caller_value v f_ok.first.params p) })
  trace (next {b = x} {i = i} {defs = defs} r k q i' p goes) = step_on x i defs (trace r) i' goes (known m S names site f_ok g_ok x k q i i' p).which
  trace (branch {b = x} {i = i} {defs = defs} r k q i' p t is k'' q'') = step_to x i defs (trace r) i' (known m S names site f_ok g_ok x k q i i' p).which t is k'' q''

  -- ---- what was available is

  pub av_f : (x i b s v : ℕ) → SpotF m S names site f_ok g_ok x i b s → Available S.caller b s v → Available (spliced S) x i (S.naming.caller_value v)
  av_f x i b s v spot a defs r = by (trace r)
    where
      by : Trace x i defs → In (S.naming.caller_value v) defs
      by (tf b2 s2 d spot2 r2 sub) = let e = f_eq x i b2 s2 b s spot2 spot in sub.at v (a d (subst₂ (λ y z. Reach S.caller y z d) e.0 e.1 r2))
      by (tg c s2 d e spot2 r2 rf sub subf) = absurd (off x i b s c s2 spot spot2)
      by (tx c s2 k li e spot2 found get tails rf subf new) = absurd (off x i b s c (suc s2) spot spot2)

  module _ (x i c s : ℕ) (spot : SpotG m S names site f_ok g_ok x i c s) (k : Block) (found : find_block c S.callee.blocks ≡ Some k) (li : Line) (get : slice_get k.lines s ≡ Some li) where
    av_both : (defs : List ℕ) → Reach (spliced S) x i defs → (d : List ℕ) × (e : List ℕ) × Reach S.callee c s d × Reach S.caller S.at (length S.before) e × Sub S.naming.callee_value d defs × Sub S.naming.caller_value e defs
    av_both defs r = by (trace r)
      where
        by : Trace x i defs → (d : List ℕ) × (e : List ℕ) × Reach S.callee c s d × Reach S.caller S.at (length S.before) e × Sub S.naming.callee_value d defs × Sub S.naming.caller_value e defs
        by (tf b2 s2 d spot2 r2 sub) = absurd (off x i b2 s2 c s spot2 spot)
        by (tg c2 s2 d e spot2 r2 rf sub subf) = let u = g_eq x i c2 s2 c s spot2 spot in (d, e, subst₂ (λ y z. Reach S.callee y z d) u.0 u.1 r2, rf, sub, subf)
        by (tx c2 s2 k2 lj e spot2 found2 get2 tails rf subf new) =
            let u = g_eq x i c2 (suc s2) c s spot2 spot in
            let kk : k ≡ k2 = some_same (sym found ∙ ap (λ z. find_block z S.callee.blocks) (sym u.0) ∙ found2) in
            absurd (no_line_after c2 s2 k2 lj found2 get2 tails li (ap₂ (λ (y : Block) (z : ℕ). slice_get y.lines z) (sym kk) u.1 ∙ get))

    pub av_g : (v : ℕ) → Available S.callee c s v → Available (spliced S) x i (S.naming.callee_value v)
    av_g v a defs r = let u = av_both defs r in u.4.at v (a u.0 u.2)

    pub av_site : (v : ℕ) → Available S.caller S.at (length S.before) v → Available (spliced S) x i (S.naming.caller_value v)
    av_site v a defs r = let u = av_both defs r in u.5.at v (a u.1 u.3)

  pub av_new : (x i c s : ℕ) → SpotG m S names site f_ok g_ok x i c (suc s) → (k : Block) → find_block c S.callee.blocks ≡ Some k → (li : Line) → slice_get k.lines s ≡ Some li → IsTail li.inst → (v : ℕ) → In v (new_results S c) → Available (spliced S) x i v
  av_new x i c s spot k found li get tails v is defs r = by (trace r)
    where
      by : Trace x i defs → In v defs
      by (tf b2 s2 d spot2 r2 sub) = absurd (off x i b2 s2 c (suc s) spot2 spot)
      by (tg c2 s2 d e spot2 r2 rf sub subf) = let u = g_eq x i c2 s2 c (suc s) spot2 spot in absurd (past_tail c s k li d found get tails (subst₂ (λ y z. Reach S.callee y z d) u.0 u.1 r2))
      by (tx c2 s2 k2 lj e spot2 found2 get2 tails2 rf subf new) = let u = g_eq x i c2 (suc s2) c (suc s) spot2 spot in new v (subst (λ z. In v (new_results S z)) (sym u.0) is)
