-- Every line of a splice keeps the rules, by the line of the source that it comes from.
use Rattle.std.proofs.Common.{◌≡◌, ◌≢◌, ℕ, zero, suc, ◌+◌, inl, inr, List, [], ◌∷◌, ◌++◌, length, map, Some, false, ◌||◌, refl, sym, ap, ap₂, ◌∙◌, subst, arith}
use Rattle.std.specs.Prelude.{slice_get, IsSomeAnd}
use Rattle.std.specs.List.{list_any}
use Rattle.std.proofs.lemmas.List.Folds.{list_any-append}
use Rattle.exn_tables.specs.declared.table.Entry.{Entry}
use Rattle.debug_tags.specs.declared.tags.Tag.{Tag}
use Rattle.debug_tags.specs.declared.tags.Tag.TheVariants as tag
use Rattle.debug_tags.specs.Tags.{is_slot}
use Rattle.ir_core.specs.declared.signatures.Ty.{Ty}
use Rattle.ir_core.specs.declared.signatures.Ty.TheVariants.{I64}
use Rattle.ir_core.specs.declared.signatures.Sig.{Sig}
use Rattle.ir_core.specs.declared.instructions.Arg.TheVariants as arg
use Rattle.ir_core.specs.declared.instructions.BlockCall.{BlockCall}
use Rattle.ir_core.specs.declared.places.Item.TheVariants as item
use Rattle.ir_core.specs.Module.{CallTarget, Module, Branches, Call, Instruction, Line, Block, Plain, Return, ReturnCall, SequencePoint, TryCall, TryTarget, call_target}
use Rattle.ir_core.specs.Lookup.{find_block, type_of, signature_of, param_types}
use Rattle.ir_core.specs.Lists.{In, Each}
use Rattle.ir_core.specs.Uses.{targets, table_targets, values_used, targets_used, called_used, arg_values_used}
use Rattle.ir_core.proofs.Gets.{some_same}
use Rattle.ir_core.proofs.Members.{each_by, each_in, each_join}
use Rattle.ir_core.proofs.ByNumber.{found_is}
use Rattle.ir_semantics.specs.Available.{Available}
use Rattle.ir_semantics.specs.Accepted.{type_mismatch, entry_target}
use Rattle.ir_semantics.specs.CountRules.{InstructionCounts, TargetCounts}
use Rattle.ir_semantics.specs.TypeRules.{InstructionTypes, TargetTypes, HaveTypes, types_of, each_some, EntryTypes}
use Rattle.ir_semantics.specs.CallRules.{InstructionSignature, InstructionTags}
use Rattle.ir_semantics.specs.EndRules.{EntryIsNoTarget}
use Rattle.ir_semantics.specs.Import.{sig_after}
use Rattle.inline_acceptance.specs.Alone.{standing}
use Rattle.ir_semantics.specs.Renaming.{Renaming, entry_under, called_under, instruction_under, tag_under, target_under, try_target_under}
use Rattle.ir_semantics.specs.Splice.{Kind, Last, Splicing, Tries, Within, after_block, args_of, callee_line, callee_names, caller_names, first_number, from, joined_tags, kind_of, line_with, named_sig, new_results, fragment, fragment_by, spliced, tags_before, to_normal, tries_fragment, try_target}
use Rattle.ir_semantics.proofs.SafetyPlaces.{some_and}
use Rattle.inline_outcomes.proofs.Local.{named_target, try_target_called}
use Rattle.inline_outcomes.proofs.Frames.{Embeds}
use Rattle.inline_outcomes.proofs.Related.{RestF, RestG}
use Rattle.inline_outcomes.proofs.Places.{find_hit, by_same, new_found}
use Rattle.inline_outcomes.proofs.Linking.{embeds_f, embeds_g, after_is, in_out}
use Rattle.inline_acceptance.proofs.Points.{IsTail, Trans}
use Rattle.inline_acceptance.proofs.KeptLists.{each_map, length_map, table_under, table_append, target_from}
use Rattle.inline_acceptance.proofs.KeptPaths.{SpotG, LineFrom, pf, pj, pg, px, GTarget, into_g, into_f, into_after, into_rest, g_target, site_get}
use Rattle.inline_acceptance.proofs.KeptTraces.{av_f, av_g, av_site, av_new, rest_params, out_first}
use Rattle.inline_acceptance.proofs.KeptTypes.{caller_typed, callee_typed, results_typed}
use Rattle.inline_acceptance.proofs.KeptRules.{Leaves, sig_under, vals_typed, call_counts, call_types, called_used_under, signature_under, target_counts, target_types, targets_counts, targets_types, arg_used_under, targets_used_under}
use Rattle.inline_acceptance.proofs.KeptSite.{LineKept, line_kept_at, rule_at, each_split, args_typed_at, args_available, TriesFacts, Facts, facts}
use Rattle.inline_acceptance.proofs.KeptLines.{Setting, SameLeaving, under_kept, jump_kept, normal_kept, named_same, try_kept, site_table, rets_kept}

-- ---- tags

slots_under : (r : Renaming) (ts : List Tag) → list_any is_slot (map (tag_under r) ts) ≡ list_any is_slot ts
slots_under r [] = refl
slots_under r (tag.User n ∷ ts) = slots_under r ts
slots_under r (tag.Slot k ∷ ts) = refl

pub tags_under : (r : Renaming) (i : Instruction) (ts : List Tag) → InstructionTags ts i → InstructionTags (map (tag_under r) ts) (instruction_under r i)
tags_under r (Plain p) ts h = ap (map (tag_under r)) h
tags_under r (Branches p) ts h = ap (map (tag_under r)) h
tags_under r SequencePoint ts h = tt
tags_under r (Return p) ts h = ap (map (tag_under r)) h
tags_under r (Call p a) ts h = tt
tags_under r (ReturnCall p a) ts h = slots_under r ts ∙ h
tags_under r (TryCall p a b c d) ts h = tt

tags_joined : (r : Renaming) (i : Instruction) (us ts : List Tag) → (IsTail i → list_any is_slot us ≡ false) → InstructionTags ts i → InstructionTags (tags_before i us (map (tag_under r) ts)) (instruction_under r i)
tags_joined r (Plain p) us ts none h = ap (map (tag_under r)) h
tags_joined r (Branches p) us ts none h = ap (map (tag_under r)) h
tags_joined r SequencePoint us ts none h = tt
tags_joined r (Return p) us ts none h = ap (map (tag_under r)) h
tags_joined r (Call p a) us ts none h = tt
tags_joined r (ReturnCall p a) us ts none h = list_any-append is_slot us (map (tag_under r) ts) ∙ ap₂ (λ x y. x || y) (none tt) (slots_under r ts ∙ h)
tags_joined r (TryCall p a b c d) us ts none h = tt

module _ (m : Module) (S : Splicing) (E : Setting m S) where
  ef : Embeds S.caller (spliced S) (caller_names S) (RestF S)
  ef = embeds_f S E.names (standing S E.site)

  eg : Embeds S.callee (spliced S) (callee_names S) (RestG S (kind_of S.site.inst))
  eg = embeds_g S E.names (standing S E.site)

  f_typed : (v : ℕ) → type_of (spliced S) (S.naming.caller_value v) ≡ type_of S.caller v
  f_typed v = caller_typed S E.names E.news v

  g_typed : (v : ℕ) → type_of (spliced S) (S.naming.callee_value v) ≡ type_of S.callee v
  g_typed v = callee_typed S E.names E.news v

  pub f_vals : (vs : List ℕ) → types_of (spliced S) (map S.naming.caller_value vs) ≡ types_of S.caller vs
  f_vals vs = vals_typed S.caller (spliced S) (caller_names S) (RestF S) ef f_typed vs

  g_vals : (vs : List ℕ) → types_of (spliced S) (map S.naming.callee_value vs) ≡ types_of S.callee vs
  g_vals vs = vals_typed S.callee (spliced S) (callee_names S) (RestG S (kind_of S.site.inst)) eg g_typed vs

  fact : (k : Kind) → kind_of S.site.inst ≡ k → Facts m S E.site E.f_accepted k
  fact k kind = facts m S E.site E.f_accepted k kind

  -- the block with the rest after a call
  rest_in : (c s : ℕ) (ls : List Line) (j : ℕ) (li : Line) (normal : BlockCall) (table : List (Entry BlockCall)) → kind_of S.site.inst ≡ Tries normal table → slice_get ls j ≡ Some li → (a : CallTarget) (args : List ℕ) → li.inst ≡ Call a args → (k' : Block) × (find_block (S.naming.new_block c (s + j)) (fragment S c s ls).more ≡ Some k')
  rest_in c s [] j li normal table kind get a args q = cc
  rest_in c s (i ∷ is) zero li normal table kind get a args q =
      let same : i ≡ li = some_same get in
      let z : s ≡ s + 0 = omega arith in
      subst (λ y. (k' : Block) × (find_block (S.naming.new_block c y) (fragment S c s (i ∷ is)).more ≡ Some k')) z (subst (λ kd. (k' : Block) × (find_block (S.naming.new_block c s) (fragment_by S kd c s i (fragment S c (suc s) is)).more ≡ Some k')) (sym kind) (at_call i.inst (ap (λ y. y.inst) same ∙ q)))
    where
      at_call : (inst : Instruction) → inst ≡ Call a args → (k' : Block) × (find_block (S.naming.new_block c s) (tries_fragment S normal table c s i inst (fragment S c (suc s) is)).more ≡ Some k')
      at_call (Call a2 args2) e =
          let new : Block = record { number = S.naming.new_block c s; params = map S.naming.callee_value i.results; lines = (fragment S c (suc s) is).lines } in
          (new, find_hit (S.naming.new_block c s) new (fragment S c (suc s) is).more refl)
      at_call (Plain p) e = cc
      at_call (Branches p) e = cc
      at_call SequencePoint e = cc
      at_call (Return p) e = cc
      at_call (ReturnCall p o) e = cc
      at_call (TryCall p o u v w) e = cc
  rest_in c s (i ∷ is) (suc j) li normal table kind get a args q =
      let r = rest_in c (suc s) is j li normal table kind get a args q in
      let z : suc s + j ≡ s + suc j = omega arith in
      let there : find_block (S.naming.new_block c (s + suc j)) (fragment S c (suc s) is).more ≡ Some r.0 = ap (λ y. find_block (S.naming.new_block c y) (fragment S c (suc s) is).more) (sym z) ∙ r.1 in
      (r.0, by_same S E.names (kind_of S.site.inst) (S.naming.new_block c (s + suc j)) c s i (fragment S c (suc s) is) (λ p. let e = (E.names.new_block c s c (s + suc j) p).1 in absurd (omega (arith, e))) ∙ there)

  rest_there : (c s : ℕ) (k : Block) (li : Line) (normal : BlockCall) (table : List (Entry BlockCall)) → kind_of S.site.inst ≡ Tries normal table → find_block c S.callee.blocks ≡ Some k → slice_get k.lines s ≡ Some li → (a : CallTarget) (args : List ℕ) → li.inst ≡ Call a args → (k' : Block) × (find_block (S.naming.new_block c s) (spliced S).blocks ≡ Some k')
  rest_there c s k li normal table kind found get a args q =
      let r = rest_in k.number 0 k.lines s li normal table kind get a args q in
      let kc : k.number ≡ c = found_is c S.callee.blocks k found in
      let z : 0 + s ≡ s = omega arith in
      let more : find_block (S.naming.new_block c s) (fragment S k.number 0 k.lines).more ≡ Some r.0 = ap₂ (λ (y : ℕ) (j : ℕ). find_block (S.naming.new_block y j) (fragment S k.number 0 k.lines).more) (sym kc) (sym z) ∙ r.1 in
      (r.0, in_out S E.names (standing S E.site) (S.naming.new_block c s) r.0 (λ b p. E.names.caller_new b c s p) (new_found S E.names S.callee.blocks c k found s r.0 more))

  -- ---- a line of the callee's part

  module _ (x i : ℕ) (i' : Line) (c s : ℕ) (k : Block) (li : Line) (spot : SpotG m S E.names E.site E.f_ok E.g_ok x i c s) (found : find_block c S.callee.blocks ≡ Some k) (get : slice_get k.lines s ≡ Some li) where
    avg : (v : ℕ) → Available S.callee c s v → Available (spliced S) x i (S.naming.callee_value v)
    avg v a = av_g m S E.names E.site E.f_ok E.g_ok x i c s spot k found li get v a

    avs : (v : ℕ) → Available S.caller S.at (length S.before) v → Available (spliced S) x i (S.naming.caller_value v)
    avs v a = av_site m S E.names E.site E.f_ok E.g_ok x i c s spot k found li get v a

    lk : LineKept S.callee c s li
    lk = line_kept_at m S.callee E.g_accepted c k s li found get

    gs_av : (vs : List ℕ) → Each (Available S.callee c s) vs → Each (Available (spliced S) x i) (map S.naming.callee_value vs)
    gs_av vs h = each_map (Available S.callee c s) (Available (spliced S) x i) S.naming.callee_value avg vs h

    fs_av : (vs : List ℕ) → Each (Available S.caller S.at (length S.before)) vs → Each (Available (spliced S) x i) (map S.naming.caller_value vs)
    fs_av vs h = each_map (Available S.caller S.at (length S.before)) (Available (spliced S) x i) S.naming.caller_value avs vs h

    plain_kept : i' ≡ callee_line S li → (IsTail li.inst → list_any is_slot S.site.tags ≡ false) → (Leaves li.inst → SameLeaving S.callee (spliced S)) → LineKept (spliced S) x i i'
    plain_kept h none lv =
        subst (LineKept (spliced S) x i) (sym h) (under_kept S.callee (spliced S) (callee_names S) (RestG S (kind_of S.site.inst)) eg g_typed c s li lk x i avg (joined_tags S li.inst li.tags) (tags_joined (callee_names S) li.inst (map (tag_under (caller_names S)) S.site.tags) li.tags (λ z. slots_under (caller_names S) S.site.tags ∙ none z) lk.tags) lv)

    inner_kept : (inst : Instruction) → li.inst ≡ inst → (Leaves inst → ⊥) → (IsTail inst → ⊥) → i' ≡ callee_line S li → LineKept (spliced S) x i i'
    inner_kept inst q a b h = plain_kept h (λ z. absurd (b (subst IsTail q z))) (λ z. absurd (a (subst Leaves q z)))

    within_kept : kind_of S.site.inst ≡ Within → (inst : Instruction) → li.inst ≡ inst → Trans S E.names Within c s inst li i' → LineKept (spliced S) x i i'
    within_kept kind (Return vs) q h =
        let t = subst (InstructionTypes S.callee li) q lk.types in
        let a = subst (λ z. Each (Available S.callee c s) (values_used z)) q lk.available in
        subst (LineKept (spliced S) x i) (sym h) (jump_kept m S E S.naming.after (map S.naming.callee_value vs) (after_block S) (after_is S E.names (standing S E.site) kind) (g_vals vs ∙ t.1 ∙ sym (f_vals S.site.results ∙ fact Within kind)) x i (gs_av vs (each_split (Available S.callee c s) vs [] a).0))
    within_kept kind (ReturnCall t args) q h =
        let n = subst (InstructionCounts S.callee li) q lk.counts in
        let y = subst (InstructionTypes S.callee li) q lk.types in
        let a = subst (λ z. Each (Available S.callee c s) (values_used z)) q lk.available in
        let have = fact Within kind in
        let results = results_typed S E.names E.news kind (param_types S.callee.sig.results) have c s k found li get (subst IsTail (sym q) tt) in
        let l' : Line = line_with S li (Call (called_under (callee_names S) t) (map S.naming.callee_value args)) (new_results S c) in
        let len : length (new_results S c) ≡ length S.callee.sig.results = sym (length_map (type_of (spliced S)) (new_results S c)) ∙ ap length results ∙ length_map (λ (z : Ty). Some z) (param_types S.callee.sig.results) ∙ length_map _ S.callee.sig.results in
        subst (LineKept (spliced S) x i) (sym h) (record {
          counts = call_counts S.callee (spliced S) (callee_names S) (RestG S (kind_of S.site.inst)) eg g_typed t args (λ z. (length li.results ≡ 0) × (length z.results ≡ length S.callee.sig.results)) (λ z. length (new_results S c) ≡ length z.results) (λ z e p. len ∙ sym p.1) n;
          types = call_types S.callee (spliced S) (callee_names S) (RestG S (kind_of S.site.inst)) eg g_typed li l' refl t args (λ z. param_types z.results ≡ param_types S.callee.sig.results) (λ z. HaveTypes (spliced S) (new_results S c) (param_types z.results)) (λ z e p. results ∙ ap each_some (sym p)) y;
          convention = tt;
          signature = tt;
          slots = tt;
          tags = tt;
          available = each_join (Available (spliced S) x i) (called_used (called_under (callee_names S) t) ++ map S.naming.callee_value args) [] (subst (Each (Available (spliced S) x i)) (sym (called_used_under (callee_names S) t args)) (gs_av (called_used t ++ args) (each_split (Available S.callee c s) (called_used t ++ args) [] a).0)) tt;
        })
    within_kept kind (Plain p) q h = inner_kept (Plain p) q (λ z. z) (λ z. z) h
    within_kept kind (Branches p) q h = inner_kept (Branches p) q (λ z. z) (λ z. z) h
    within_kept kind SequencePoint q h = inner_kept SequencePoint q (λ z. z) (λ z. z) h
    within_kept kind (Call p a) q h = inner_kept (Call p a) q (λ z. z) (λ z. z) h
    within_kept kind (TryCall p a b d e) q h = inner_kept (TryCall p a b d e) q (λ z. z) (λ z. z) h

    last_kept : kind_of S.site.inst ≡ Last → i' ≡ callee_line S li → LineKept (spliced S) x i i'
    last_kept kind h = let fs = fact Last kind in plain_kept h (λ z. fs.tags) (λ z. record { counts = fs.counts; types = fs.types; conv = λ u. fs.conv })

    module _ (normal : BlockCall) (table : List (Entry BlockCall)) (kind : kind_of S.site.inst ≡ Tries normal table) where
      fs : TriesFacts m S E.site E.f_accepted normal table
      fs = fact (Tries normal table) kind

      own_av : (t : CallTarget) (args : List ℕ) (ts : List BlockCall) → Each (Available S.callee c s) ((called_used t ++ args) ++ targets_used ts) → Each (Available (spliced S) x i) (map S.naming.callee_value (called_used t ++ args))
      own_av t args ts a = gs_av (called_used t ++ args) (each_split (Available S.callee c s) (called_used t ++ args) (targets_used ts) a).0

      table_at : (n : ℕ) → Each (TargetCounts (spliced S) (Some n)) (table_targets (map (entry_under (caller_names S)) table)) × Each (TargetTypes (spliced S) [] (I64 ∷ I64 ∷ [])) (table_targets (map (entry_under (caller_names S)) table)) × Each (Available (spliced S) x i) (targets_used (table_targets (map (entry_under (caller_names S)) table)))
      table_at n = site_table m S E normal table fs x i avs n

      normal_av : Each (Available S.caller S.at (length S.before)) (arg_values_used normal.args)
      normal_av = (each_split (Available S.caller S.at (length S.before)) (arg_values_used normal.args) (targets_used (table_targets table)) fs.available).0

      -- the number that a call's signature gets
      named_at : (t : CallTarget) (P : Sig → Type 0) → IsSomeAnd (signature_of S.callee t) P → slice_get (spliced S).sigs (named_sig S (called_under (callee_names S) t)) ≡ signature_of (spliced S) (called_under (callee_names S) t)
      named_at t P h =
          let u = some_and (signature_of S.callee t) P h in
          named_same m S E (called_under (callee_names S) t) u.0 (sig_under S.callee (spliced S) (callee_names S) (RestG S (kind_of S.site.inst)) eg g_typed t u.0 u.1)

      at_return : (vs : List ℕ) → li.inst ≡ Return vs → i' ≡ to_normal S normal vs → LineKept (spliced S) x i i'
      at_return vs q h =
          let t = subst (InstructionTypes S.callee li) q lk.types in
          let a = subst (λ z. Each (Available S.callee c s) (values_used z)) q lk.available in
          subst (LineKept (spliced S) x i) (sym h) (normal_kept m S E vs (param_types S.callee.sig.results) t.1 normal (Some (length S.callee.sig.results)) fs.counts.0 fs.normal_types x i (gs_av vs (each_split (Available S.callee c s) vs [] a).0) (fs_av (arg_values_used normal.args) normal_av))

      at_tail : (t : CallTarget) (args : List ℕ) → li.inst ≡ ReturnCall t args → Trans S E.names (Tries normal table) c s (ReturnCall t args) li i' → LineKept (spliced S) x i i'
      at_tail t args q h =
          let n = subst (InstructionCounts S.callee li) q lk.counts in
          let y = subst (InstructionTypes S.callee li) q lk.types in
          let a = subst (λ z. Each (Available S.callee c s) (values_used z)) q lk.available in
          subst (LineKept (spliced S) x i) (sym h) (try_kept m S E x i c s li t args (λ z. (length li.results ≡ 0) × (length z.results ≡ length S.callee.sig.results)) (λ z. param_types z.results ≡ param_types S.callee.sig.results) n y (own_av t args [] a) (try_target (called_under (callee_names S) t)) (named_sig S (called_under (callee_names S) t)) (target_under (caller_names S) normal) (map (entry_under (caller_names S)) table) (named_target S (called_under (callee_names S) t)) (named_at t (λ z. (length args ≡ length z.params) × ((length li.results ≡ 0) × (length z.results ≡ length S.callee.sig.results))) n) (λ z e cz tz.
          let tb = table_at (length z.results) in
          record {
            counts = (target_counts S.caller (spliced S) (caller_names S) (RestF S) ef f_typed (Some (length z.results)) normal (subst (λ w. TargetCounts S.caller (Some w) normal) (sym cz.1) fs.counts.0), tb.0);
            normal_types = target_types S.caller (spliced S) (caller_names S) (RestF S) ef f_typed (param_types z.results) [] normal (subst (λ w. TargetTypes S.caller w [] normal) (sym tz) fs.normal_types);
            table_types = tb.1;
            available = each_join (Available (spliced S) x i) (arg_values_used (target_under (caller_names S) normal).args) (targets_used (table_targets (map (entry_under (caller_names S)) table))) (subst (Each (Available (spliced S) x i)) (sym (arg_used_under (caller_names S) normal.args)) (fs_av (arg_values_used normal.args) normal_av)) tb.2;
          }))

      rets_used : (a b : ℕ) → arg_values_used (map arg.Ret (from a b)) ≡ []
      rets_used a zero = refl
      rets_used a (suc b) = rets_used (suc a) b

      at_call : (t : CallTarget) (args : List ℕ) → li.inst ≡ Call t args → Trans S E.names (Tries normal table) c s (Call t args) li i' → LineKept (spliced S) x i i'
      at_call t args q h =
          let n = subst (InstructionCounts S.callee li) q lk.counts in
          let y = subst (InstructionTypes S.callee li) q lk.types in
          let a = subst (λ z. Each (Available S.callee c s) (values_used z)) q lk.available in
          let r = rest_there c s k li normal table kind found get t args q in
          let params = rest_params m S E.names E.site E.f_ok E.g_ok c s k found li get r.0 r.1 in
          let to : BlockCall = record { block = S.naming.new_block c s; args = map arg.Ret (from 0 (length li.results)) } in
          subst (LineKept (spliced S) x i) (sym h) (try_kept m S E x i c s li t args (λ z. length li.results ≡ length z.results) (λ z. HaveTypes S.callee li.results (param_types z.results)) n y (own_av t args [] a) (try_target (called_under (callee_names S) t)) (named_sig S (called_under (callee_names S) t)) to (map (entry_under (caller_names S)) table) (named_target S (called_under (callee_names S) t)) (named_at t (λ z. (length args ≡ length z.params) × (length li.results ≡ length z.results)) n) (λ z e cz tz.
          let tb = table_at (length z.results) in
          let rk = rets_kept m S E (S.naming.new_block c s) r.0 li.results (param_types z.results) (length z.results) r.1 params tz cz in
          record { counts = (rk.0, tb.0); normal_types = rk.1; table_types = tb.1; available = each_join (Available (spliced S) x i) (arg_values_used to.args) (targets_used (table_targets (map (entry_under (caller_names S)) table))) (subst (Each (Available (spliced S) x i)) (sym (rets_used 0 (length li.results))) tt) tb.2 }))

      at_try : (t : TryTarget) (sig : ℕ) (args : List ℕ) (own : BlockCall) (inner : List (Entry BlockCall)) → li.inst ≡ TryCall t sig args own inner → Trans S E.names (Tries normal table) c s (TryCall t sig args own inner) li i' → LineKept (spliced S) x i i'
      at_try t sig args own inner q h =
          let n = subst (InstructionCounts S.callee li) q lk.counts in
          let y = subst (InstructionTypes S.callee li) q lk.types in
          let sg = subst (InstructionSignature S.callee) q lk.signature in
          let a = subst (λ z. Each (Available S.callee c s) (values_used z)) q lk.available in
          let ta = (each_split (Available S.callee c s) (called_used (call_target t sig) ++ args) (targets_used (own ∷ table_targets inner)) a).1 in
          let G = RestG S (kind_of S.site.inst) in
          let inner' = map (entry_under (callee_names S)) inner in
          let outer' = map (entry_under (caller_names S)) table in
          let ei = sym (table_under (callee_names S) inner) in
          let ej = sym (table_append inner' outer') in
          let inner_av : Each (Available (spliced S) x i) (targets_used (own' own ∷ table_targets inner')) = subst (λ w. Each (Available (spliced S) x i) (targets_used (own' own ∷ w))) ei (subst (Each (Available (spliced S) x i)) (sym (targets_used_under (callee_names S) (own ∷ table_targets inner))) (gs_av (targets_used (own ∷ table_targets inner)) ta)) in
          subst (LineKept (spliced S) x i) (sym h) (try_kept m S E x i c s li (call_target t sig) args (λ z. (length li.results ≡ 0) × Each (TargetCounts S.callee (Some (length z.results))) (own ∷ table_targets inner)) (λ z. TargetTypes S.callee (param_types z.results) [] own × Each (TargetTypes S.callee [] (I64 ∷ I64 ∷ [])) (table_targets inner)) n y (own_av (call_target t sig) args (own ∷ table_targets inner) a) (try_target_under (callee_names S) t) (sig_after S.caller S.callee sig) (target_under (callee_names S) own) (inner' ++ outer') (try_target_called (callee_names S) t sig) (signature_under S.callee (spliced S) (callee_names S) (RestG S (kind_of S.site.inst)) eg g_typed li (TryCall t sig args own inner) n sg ∙ ap (signature_of (spliced S)) (try_target_called (callee_names S) t sig)) (λ z e cz tz.
          let tb = table_at (length z.results) in
          record {
            counts = (
              target_counts S.callee (spliced S) (callee_names S) (RestG S (kind_of S.site.inst)) eg g_typed (Some (length z.results)) own cz.1.0,
              subst (Each (TargetCounts (spliced S) (Some (length z.results)))) ej (each_join (TargetCounts (spliced S) (Some (length z.results))) (table_targets inner') (table_targets outer') (subst (Each (TargetCounts (spliced S) (Some (length z.results)))) ei (targets_counts S.callee (spliced S) (callee_names S) (RestG S (kind_of S.site.inst)) eg g_typed (Some (length z.results)) (table_targets inner) cz.1.1)) tb.0),
            );
            normal_types = target_types S.callee (spliced S) (callee_names S) (RestG S (kind_of S.site.inst)) eg g_typed (param_types z.results) [] own tz.0;
            table_types = subst (Each (TargetTypes (spliced S) [] (I64 ∷ I64 ∷ []))) ej (each_join (TargetTypes (spliced S) [] (I64 ∷ I64 ∷ [])) (table_targets inner') (table_targets outer') (subst (Each (TargetTypes (spliced S) [] (I64 ∷ I64 ∷ []))) ei (targets_types S.callee (spliced S) (callee_names S) (RestG S (kind_of S.site.inst)) eg g_typed [] (I64 ∷ I64 ∷ []) (table_targets inner) tz.1)) tb.1);
            available = joined_av inner' outer' inner_av tb.2;
          }))
        where
          own' : BlockCall → BlockCall
          own' t = target_under (callee_names S) t

          joined_av : (xs ys : List (Entry BlockCall)) → Each (Available (spliced S) x i) (targets_used (target_under (callee_names S) own ∷ table_targets xs)) → Each (Available (spliced S) x i) (targets_used (table_targets ys)) → Each (Available (spliced S) x i) (targets_used (target_under (callee_names S) own ∷ table_targets (xs ++ ys)))
          joined_av xs ys p w =
              let u = each_split (Available (spliced S) x i) (arg_values_used (target_under (callee_names S) own).args) (targets_used (table_targets xs)) p in
              each_join (Available (spliced S) x i) (arg_values_used (target_under (callee_names S) own).args) (targets_used (table_targets (xs ++ ys))) u.0 (tables xs u.1)
            where
              tables : (xs : List (Entry BlockCall)) → Each (Available (spliced S) x i) (targets_used (table_targets xs)) → Each (Available (spliced S) x i) (targets_used (table_targets (xs ++ ys)))
              tables [] u = w
              tables (e ∷ xs) u =
                  let v = each_split (Available (spliced S) x i) (arg_values_used e.target.args) (targets_used (table_targets xs)) u in
                  each_join (Available (spliced S) x i) (arg_values_used e.target.args) (targets_used (table_targets (xs ++ ys))) v.0 (tables xs v.1)

      tries_kept : (inst : Instruction) → li.inst ≡ inst → Trans S E.names (Tries normal table) c s inst li i' → LineKept (spliced S) x i i'
      tries_kept (Return vs) q h = at_return vs q h
      tries_kept (ReturnCall t args) q h = at_tail t args q h
      tries_kept (Call t args) q h = at_call t args q h
      tries_kept (TryCall t sig args own inner) q h = at_try t sig args own inner q h
      tries_kept (Plain p) q h = inner_kept (Plain p) q (λ z. z) (λ z. z) h
      tries_kept (Branches p) q h = inner_kept (Branches p) q (λ z. z) (λ z. z) h
      tries_kept SequencePoint q h = inner_kept SequencePoint q (λ z. z) (λ z. z) h

    g_kept : (kd : Kind) → kind_of S.site.inst ≡ kd → Trans S E.names kd c s li.inst li i' → LineKept (spliced S) x i i'
    g_kept Within kind h = within_kept kind li.inst refl h
    g_kept Last kind h = last_kept kind h
    g_kept (Tries normal table) kind h = tries_kept normal table kind li.inst refl h

  -- ---- any line

  pub line_kept : (x i : ℕ) (i' : Line) → LineFrom m S E.names E.site E.f_ok E.g_ok x i i' → LineKept (spliced S) x i i'
  line_kept x i i' (pf b s k li spot found get h) =
      let lf = line_kept_at m S.caller E.f_accepted b k s li found get in
      subst (LineKept (spliced S) x i) (sym h) (under_kept S.caller (spliced S) (caller_names S) (RestF S) ef f_typed b s li lf x i (λ v a. av_f m S E.names E.site E.f_ok E.g_ok x i b s v spot a) (map (tag_under (caller_names S)) li.tags) (tags_under (caller_names S) li.inst li.tags lf.tags) (λ z. record { counts = refl; types = refl; conv = λ u. u }))
  line_kept x i i' (pj spot h) =
      let first = E.g_ok.first in
      let found : find_block first.number S.callee.blocks ≡ Some first = ap (find_block first.number) E.g_ok.blocks ∙ find_hit first.number first E.g_ok.others refl in
      let name : first_number S.callee.blocks ≡ first.number = ap first_number E.g_ok.blocks in
      let e = eg.block first.number first found in
      let entry : EntryTypes S.callee first = E.g_accepted (item.Block first.number) type_mismatch first found (sym name) in
      let args = args_of S.site.inst in
      subst (LineKept (spliced S) x i) (sym h) (jump_kept m S E (S.naming.callee_block (first_number S.callee.blocks)) (map S.naming.caller_value args) e.0 (ap (λ z. find_block (S.naming.callee_block z) (spliced S).blocks) name ∙ e.1) (f_vals args ∙ args_typed_at m S E.site E.f_accepted ∙ sym entry ∙ sym (g_vals first.params) ∙ ap (types_of (spliced S)) (sym e.2)) x i (each_map (Available S.caller S.at (length S.before)) (Available (spliced S) x i) S.naming.caller_value (λ v a. av_f m S E.names E.site E.f_ok E.g_ok x i S.at (length S.before) v spot a) args (args_available m S E.site E.f_accepted)))
  line_kept x i i' (pg c s k li spot found get h) = g_kept x i i' c s k li spot found get (kind_of S.site.inst) refl h
  line_kept x i i' (px c s k li spot found get tails w h) =
      let have = fact Within w in
      subst (LineKept (spliced S) x i) (sym h) (jump_kept m S E S.naming.after (new_results S c) (after_block S) (after_is S E.names (standing S E.site) w) (results_typed S E.names E.news w (param_types S.callee.sig.results) have c s k found li get tails ∙ sym (f_vals S.site.results ∙ have)) x i (each_by (Available (spliced S) x i) (new_results S c) (λ v p. av_new m S E.names E.site E.f_ok E.g_ok x i c s spot k found li get tails v p)))

  -- ---- no target is the first block

  first_is : first_number (spliced S).blocks ≡ S.naming.caller_block (first_number S.caller.blocks)
  first_is = let r = out_first m S E.names E.site E.f_ok E.g_ok in ap first_number r.2 ∙ r.3 ∙ ap S.naming.caller_block (sym (ap first_number E.f_ok.blocks))

  caller_no_entry : (b : ℕ) (k : Block) (s : ℕ) (li : Line) → find_block b S.caller.blocks ≡ Some k → slice_get k.lines s ≡ Some li → (u : BlockCall) → In u (targets li.inst) → S.naming.caller_block u.block ≡ first_number (spliced S).blocks → ⊥
  caller_no_entry b k s li found get u is q =
      each_in (λ (t : BlockCall). t.block ≢ first_number S.caller.blocks) (targets li.inst) (rule_at m S.caller E.f_accepted b k s li found get entry_target) u is (E.names.caller_block u.block (first_number S.caller.blocks) (q ∙ first_is))

  pub entry_kept : (x i : ℕ) (i' : Line) → LineFrom m S E.names E.site E.f_ok E.g_ok x i i' → EntryIsNoTarget (spliced S) i'
  entry_kept x i i' o = each_by (λ (t : BlockCall). t.block ≢ first_number (spliced S).blocks) (targets i'.inst) (λ t p q. by o t p q)
    where
      led_in : (c s : ℕ) (li : Line) (b : ℕ) → GTarget m S E.names E.site E.f_ok E.g_ok c s li b → b ≡ first_number (spliced S).blocks → ⊥
      led_in c s li b (into_g u is h) q = E.names.blocks (first_number S.caller.blocks) u.block (sym first_is ∙ sym q ∙ h)
      led_in c s li b (into_f u is h) q = caller_no_entry S.at E.site.block (length S.before) S.site E.site.block_found (site_get m S E.names E.site E.f_ok E.g_ok) u is (sym h ∙ q)
      led_in c s li b (into_after w h) q = E.names.caller_after (first_number S.caller.blocks) (sym first_is ∙ sym q ∙ h)
      led_in c s li b (into_rest g h) q = E.names.caller_new (first_number S.caller.blocks) c s (sym first_is ∙ sym q ∙ h)

      by : LineFrom m S E.names E.site E.f_ok E.g_ok x i i' → (t : BlockCall) → In t (targets i'.inst) → t.block ≡ first_number (spliced S).blocks → ⊥
      by (pf b s k li spot found get h) t p q =
          let u = target_from (caller_names S) li.inst t (subst (λ y. In t (targets y.inst)) h p) in caller_no_entry b k s li found get u.0 u.1 (ap (λ z. z.block) (sym u.2) ∙ q)
      by (pj spot h) t p q = elim (subst (λ y. In t (targets y.inst)) h p) [ inl z ↦ E.names.blocks (first_number S.caller.blocks) (first_number S.callee.blocks) (sym first_is ∙ sym q ∙ ap (λ y. y.block) z) | inr z ↦ elim z [ ] ]
      by (pg c s k li spot found get h) t p q = led_in c s li t.block (g_target m S E.names E.site E.f_ok E.g_ok c s li i' t (kind_of S.site.inst) refl h p) q
      by (px c s k li spot found get tails w h) t p q = elim (subst (λ y. In t (targets y.inst)) h p) [ inl z ↦ E.names.caller_after (first_number S.caller.blocks) (sym first_is ∙ sym q ∙ ap (λ y. y.block) z) | inr z ↦ elim z [ ] ]
