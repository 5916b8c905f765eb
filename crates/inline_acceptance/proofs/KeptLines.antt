-- The lines of a splice keep the rules: lines under new numbers, jumps, and calls with the site's table.
use Rattle.std.proofs.Common.{◌≡◌, ℕ, zero, suc, ◌≤◌, ◌+◌, List, [], ◌∷◌, ◌++◌, length, map, Option, Some, None, refl, sym, ap, ap₂, ◌∙◌, subst, arith}
use Rattle.std.specs.Prelude.{slice_get}
use Rattle.exn_tables.specs.declared.table.Entry.{Entry}
use Rattle.debug_tags.specs.declared.tags.Tag.{Tag}
use Rattle.ir_core.specs.declared.signatures.Ty.{Ty}
use Rattle.ir_core.specs.declared.signatures.Ty.TheVariants.{I64}
use Rattle.ir_core.specs.declared.signatures.Sig.{Sig}
use Rattle.ir_core.specs.declared.signatures.Conv.TheVariants.{Tail}
use Rattle.ir_core.specs.declared.declarations.Callee.{Callee}
use Rattle.ir_core.specs.declared.instructions.Arg.{Arg}
use Rattle.ir_core.specs.declared.instructions.Arg.TheVariants as arg
use Rattle.ir_core.specs.declared.instructions.BlockCall.{BlockCall}
use Rattle.ir_core.specs.Module.{CallTarget, Direct, Indirect, Function, Module, Line, Block, TryTarget, call_target}
use Rattle.ir_core.specs.Lookup.{and_then, find_block, type_of, signature_of, param_types}
use Rattle.ir_core.specs.Lists.{Each}
use Rattle.ir_core.specs.Uses.{table_targets, values_used, targets_used, called_used, arg_values_used}
use Rattle.ir_semantics.specs.Available.{Available}
use Rattle.ir_semantics.specs.Accepted.{RulesHold}
use Rattle.ir_semantics.specs.CallRules.{InstructionTags}
use Rattle.ir_semantics.specs.CountRules.{CallCounts, TargetCounts, ArgCounts}
use Rattle.ir_semantics.specs.TypeRules.{CallTypes, TargetTypes, arg_type, HaveTypes, types_of, each_some}
use Rattle.ir_core.specs.WellFormed.{WellFormed}
use Rattle.ir_core.proofs.Gets.{some_same}
use Rattle.ir_core.proofs.Members.{each_join}
use Rattle.ir_semantics.specs.Import.{callees_after}
use Rattle.ir_semantics.specs.Renaming.{Renaming, entry_under, called_under, instruction_under}
use Rattle.ir_semantics.specs.Splice.{Splicing, callee_names, caller_names, from, jump_to, kind_of, named_sig, or_ret, returned_arg, spliced, to_normal, try_with}
use Rattle.inline_acceptance.specs.Alone.{CallSite, standing}
use Rattle.inline_outcomes.proofs.Frames.{Embeds}
use Rattle.inline_outcomes.proofs.Related.{Distinct, RestF, RestG}
use Rattle.inline_outcomes.proofs.Linking.{embeds_f, embeds_g}
use Rattle.inline_acceptance.proofs.KeptLists.{and_some, each_map, length_map, table_under}
use Rattle.inline_acceptance.proofs.KeptPaths.{Sound}
use Rattle.inline_acceptance.proofs.KeptTypes.{Apart, caller_typed, callee_typed, types_from}
use Rattle.inline_acceptance.proofs.KeptRules.{Leaves, used_under, targets_used_under, called_used_under, vals_typed, targets_counts, targets_types, call_counts, call_types, counts_under, types_under, convention_under, signature_under, slot_under}
use Rattle.inline_acceptance.proofs.KeptSite.{LineKept, each_split, table_counts, TriesFacts}
use Rattle.ir_semantics.proofs.Ranges.{length_from}
use Rattle.ir_semantics.proofs.SafetyPlaces.{some_and}
use Rattle.ir_semantics.proofs.Arguments.{value_args_used}

-- a splice of whole and accepted functions
pub record Setting (m : Module) (S : Splicing) : Type 0 where
  pub names : Distinct S.naming
  pub news : Apart S.naming
  pub site : CallSite S
  pub f_ok : Sound S.caller
  pub g_ok : Sound S.callee
  pub f_accepted : RulesHold m S.caller
  pub g_accepted : RulesHold m S.callee
  pub f_whole : WellFormed S.caller
  pub g_whole : WellFormed S.callee

-- what a function that stands in another's place gives at its returns
pub record SameLeaving (F G : Function) : Type 0 where
  pub counts : length F.sig.results ≡ length G.sig.results
  pub types : param_types F.sig.results ≡ param_types G.sig.results
  pub conv : F.sig.conv ≡ Tail → G.sig.conv ≡ Tail

-- a line under new numbers, with other tags
pub under_kept : (F G : Function) (r : Renaming) (Rest : List Line → List Line → Type 0) (emb : Embeds F G r Rest) (typed : (v : ℕ) → type_of G (r.value v) ≡ type_of F v) (b s : ℕ) (l : Line) → LineKept F b s l → (x i : ℕ) → ((v : ℕ) → Available F b s v → Available G x i (r.value v)) → (ts : List Tag) → InstructionTags ts (instruction_under r l.inst) → (Leaves l.inst → SameLeaving F G) → LineKept G x i (record { inst = instruction_under r l.inst; ty = l.ty; results = map r.value l.results; tags = ts })
under_kept F G r Rest emb typed b s l k x i av ts tags lv =
    let l' : Line = record { inst = instruction_under r l.inst; ty = l.ty; results = map r.value l.results; tags = ts } in
    record {
      counts = counts_under F G r Rest emb typed l l' refl l.inst (λ z. (lv z).counts) k.counts;
      types = types_under F G r Rest emb typed l l' refl refl l.inst (λ z. (lv z).types) k.types;
      convention = convention_under F G r Rest emb typed l.inst (λ z. (lv z).conv) k.convention;
      signature = signature_under F G r Rest emb typed l l.inst k.counts k.signature;
      slots = slot_under F G r Rest emb typed l.inst k.slots;
      tags = tags;
      available = subst (Each (Available G x i)) (sym (used_under r l.inst)) (each_map (Available F b s) (Available G x i) r.value av (values_used l.inst) k.available);
    }

-- ---- arguments that are values

pub value_types : (f : Function) (ts ps : List Ty) (vs : List ℕ) → map (arg_type f ts ps) (map arg.Value vs) ≡ types_of f vs
value_types f ts ps [] = refl
value_types f ts ps (v ∷ vs) = ap (λ z. type_of f v ∷ z) (value_types f ts ps vs)

pub value_counts : (n : Option ℕ) (vs : List ℕ) → Each (ArgCounts n) (map arg.Value vs)
value_counts n [] = tt
value_counts n (v ∷ vs) = (tt, value_counts n vs)

-- ---- arguments that are results

rets_counts : (i j n : ℕ) → i + j ≤ n → Each (ArgCounts (Some n)) (map arg.Ret (from i j))
rets_counts i zero n h = tt
rets_counts i (suc j) n h = (omega (arith, h), rets_counts (suc i) j n (omega (arith, h)))

rets_types : (f : Function) (ts ps : List Ty) (i j : ℕ) → map (arg_type f ts ps) (map arg.Ret (from i j)) ≡ map (slice_get ts) (from i j)
rets_types f ts ps i zero = refl
rets_types f ts ps i (suc j) = ap (λ z. slice_get ts i ∷ z) (rets_types f ts ps (suc i) j)

length_some : (ts : List Ty) → length (each_some ts) ≡ length ts
length_some ts = length_map (λ t. Some t) ts

module _ (m : Module) (S : Splicing) (E : Setting m S) where
  -- a jump with values to a block whose parameters have their types
  pub jump_kept : (b : ℕ) (vs : List ℕ) (k : Block) → find_block b (spliced S).blocks ≡ Some k → types_of (spliced S) vs ≡ types_of (spliced S) k.params → (x i : ℕ) → Each (Available (spliced S) x i) vs → LineKept (spliced S) x i (jump_to S (record { block = b; args = map arg.Value vs }))
  jump_kept b vs k found same x i av =
      let len : length vs ≡ length k.params = sym (length_map (type_of (spliced S)) vs) ∙ ap length same ∙ length_map (type_of (spliced S)) k.params in
      record {
        counts = (refl, ((and_some (find_block b (spliced S).blocks) (λ z. length (map arg.Value vs) ≡ length z.params) k found (length_map arg.Value vs ∙ len), value_counts None vs), tt));
        types = (refl, (and_some (find_block b (spliced S).blocks) (λ z. map (arg_type (spliced S) [] []) (map arg.Value vs) ≡ types_of (spliced S) z.params) k found (value_types (spliced S) [] [] vs ∙ same), tt));
        convention = tt;
        signature = tt;
        slots = tt;
        tags = refl;
        available = subst (Each (Available (spliced S) x i)) (sym (value_args_used vs)) av;
      }

  ef : Embeds S.caller (spliced S) (caller_names S) (RestF S)
  ef = embeds_f S E.names (standing S E.site)

  eg : Embeds S.callee (spliced S) (callee_names S) (RestG S (kind_of S.site.inst))
  eg = embeds_g S E.names (standing S E.site)

  f_typed : (v : ℕ) → type_of (spliced S) (S.naming.caller_value v) ≡ type_of S.caller v
  f_typed v = caller_typed S E.names E.news v

  g_typed : (v : ℕ) → type_of (spliced S) (S.naming.callee_value v) ≡ type_of S.callee v
  g_typed v = callee_typed S E.names E.news v

  -- ---- a return, to the normal target of the site

  module _ (vs : List ℕ) (ts : List Ty) (have : HaveTypes S.callee vs ts) where
    or_counts : (i : ℕ) (o : Option ℕ) → ArgCounts None (or_ret i o)
    or_counts i None = tt
    or_counts i (Some v) = tt

    returned_counts : (n : Option ℕ) (as' : List Arg) → Each (ArgCounts n) as' → Each (ArgCounts None) (map (returned_arg S vs) as')
    returned_counts n [] h = tt
    returned_counts n (arg.Value v ∷ as') h = (tt, returned_counts n as' h.1)
    returned_counts n (arg.Ret i ∷ as') h = (or_counts i (slice_get (map S.naming.callee_value vs) i), returned_counts n as' h.1)
    returned_counts n (arg.Exn i ∷ as') h = (h.0, returned_counts n as' h.1)

    ret_type : (us : List ℕ) (ys : List Ty) → types_of S.callee us ≡ each_some ys → (j i : ℕ) → arg_type (spliced S) [] [] (or_ret j (slice_get (map S.naming.callee_value us) i)) ≡ slice_get ys i
    ret_type [] [] h j i = refl
    ret_type [] (y ∷ ys) h j i = cc
    ret_type (u ∷ us) [] h j i = cc
    ret_type (u ∷ us) (y ∷ ys) h j zero = g_typed u ∙ (let e : type_of S.callee u ≡ Some y = cc in e)
    ret_type (u ∷ us) (y ∷ ys) h j (suc i) = ret_type us ys (let e : types_of S.callee us ≡ each_some ys = cc in e) j i

    returned_types : (as' : List Arg) → map (arg_type (spliced S) [] []) (map (returned_arg S vs) as') ≡ map (arg_type S.caller ts []) as'
    returned_types [] = refl
    returned_types (arg.Value v ∷ as') = ap₂ (λ x y. x ∷ y) (f_typed v) (returned_types as')
    returned_types (arg.Ret i ∷ as') = ap₂ (λ x y. x ∷ y) (ret_type vs ts have i i) (returned_types as')
    returned_types (arg.Exn i ∷ as') = ap (λ y. None ∷ y) (returned_types as')

    value_at : (P : ℕ → Type 0) (us : List ℕ) → Each P us → (i : ℕ) (rest : List ℕ) → Each P rest → Each P (arg_values_used (or_ret i (slice_get us i) ∷ []) ++ rest)
    value_at P us h i rest r = by us h i
      where
        by : (us : List ℕ) → Each P us → (j : ℕ) → Each P (arg_values_used (or_ret i (slice_get us j) ∷ []) ++ rest)
        by [] h j = r
        by (u ∷ us) h zero = (h.0, r)
        by (u ∷ us) h (suc j) = by us h.1 j

    or_used : (P : ℕ → Type 0) (i : ℕ) (o : Option ℕ) (as' : List Arg) → Each P (arg_values_used (or_ret i o ∷ []) ++ arg_values_used as') → Each P (arg_values_used (or_ret i o ∷ as'))
    or_used P i None as' h = h
    or_used P i (Some v) as' h = h

    returned_used : (P : ℕ → Type 0) → Each P (map S.naming.callee_value vs) → (as' : List Arg) → Each P (map S.naming.caller_value (arg_values_used as')) → Each P (arg_values_used (map (returned_arg S vs) as'))
    returned_used P own [] h = tt
    returned_used P own (arg.Value v ∷ as') h = (h.0, returned_used P own as' h.1)
    returned_used P own (arg.Ret i ∷ as') h = or_used P i (slice_get (map S.naming.callee_value vs) i) (map (returned_arg S vs) as') (value_at P (map S.naming.callee_value vs) own i (arg_values_used (map (returned_arg S vs) as')) (returned_used P own as' h))
    returned_used P own (arg.Exn i ∷ as') h = returned_used P own as' h

    pub normal_kept : (normal : BlockCall) (n : Option ℕ) → TargetCounts S.caller n normal → TargetTypes S.caller ts [] normal → (x i : ℕ) → Each (Available (spliced S) x i) (map S.naming.callee_value vs) → Each (Available (spliced S) x i) (map S.naming.caller_value (arg_values_used normal.args)) → LineKept (spliced S) x i (to_normal S normal vs)
    normal_kept normal n c t x i own av =
        let u = some_and (find_block normal.block S.caller.blocks) (λ b. length normal.args ≡ length b.params) c.0 in
        let w = some_and (find_block normal.block S.caller.blocks) (λ b. map (arg_type S.caller ts []) normal.args ≡ types_of S.caller b.params) t in
        let e = ef.block normal.block u.0 u.1 in
        let same : w.0 ≡ u.0 = some_same (sym w.1 ∙ u.1) in
        let target : BlockCall = record { block = S.naming.caller_block normal.block; args = map (returned_arg S vs) normal.args } in
        record {
          counts = (
            refl,
            (
              (
                and_some (find_block target.block (spliced S).blocks) (λ z. length target.args ≡ length z.params) e.0 e.1 (length_map (returned_arg S vs) normal.args ∙ u.2 ∙ sym (length_map S.naming.caller_value u.0.params) ∙ ap length (sym e.2)),
                returned_counts n normal.args c.1,
              ),
              tt,
            ),
          );
          types = (
            refl,
            (
              and_some (find_block target.block (spliced S).blocks) (λ z. map (arg_type (spliced S) [] []) target.args ≡ types_of (spliced S) z.params) e.0 e.1 (returned_types normal.args ∙ w.2 ∙ ap (λ z. types_of S.caller z.params) same ∙ sym (vals_typed S.caller (spliced S) (caller_names S) (RestF S) ef f_typed u.0.params) ∙ ap (types_of (spliced S)) (sym e.2)),
              tt,
            ),
          );
          convention = tt;
          signature = tt;
          slots = tt;
          tags = refl;
          available = each_join (Available (spliced S) x i) (arg_values_used target.args) [] (returned_used (Available (spliced S) x i) own normal.args av) tt;
        }

  -- ---- a call of the callee, as a `try_call`

  -- the signature number that a call gets is that of its signature
  pub named_same : (t : CallTarget) (s : Sig) → signature_of (spliced S) t ≡ Some s → slice_get (spliced S).sigs (named_sig S t) ≡ signature_of (spliced S) t
  named_same (Indirect n a) s h = refl
  named_same (Direct k) s h = by (slice_get (callees_after S.caller S.callee) k) h
    where
      by : (o : Option Callee) → and_then (and_then o (λ c. Some c.sig)) (slice_get (spliced S).sigs) ≡ Some s → slice_get (spliced S).sigs (elim o [ None ↦ 0 | Some c ↦ c.sig ]) ≡ and_then (and_then o (λ c. Some c.sig)) (slice_get (spliced S).sigs)
      by None e = cc
      by (Some c) e = refl

  -- targets with their rules, where the call returns values of a signature
  pub record TargetsKept (x i : ℕ) (results : List Ty) (n : ℕ) (normal : BlockCall) (table : List (Entry BlockCall)) : Type 0 where
    pub counts : Each (TargetCounts (spliced S) (Some n)) (normal ∷ table_targets table)
    pub normal_types : TargetTypes (spliced S) results [] normal
    pub table_types : Each (TargetTypes (spliced S) [] (I64 ∷ I64 ∷ [])) (table_targets table)
    pub available : Each (Available (spliced S) x i) (targets_used (normal ∷ table_targets table))

  module _ (x i c s : ℕ) (li : Line) (t : CallTarget) (args : List ℕ) (C T : Sig → Type 0) (counts : CallCounts S.callee t args C) (types : CallTypes S.callee li t args T) (av : Each (Available (spliced S) x i) (map S.naming.callee_value (called_used t ++ args))) where
    pub try_kept : (t' : TryTarget) (sg : ℕ) (normal : BlockCall) (table : List (Entry BlockCall)) → call_target t' sg ≡ called_under (callee_names S) t → slice_get (spliced S).sigs sg ≡ signature_of (spliced S) (called_under (callee_names S) t) → ((z : Sig) → signature_of S.callee t ≡ Some z → C z → T z → TargetsKept x i (param_types z.results) (length z.results) normal table) → LineKept (spliced S) x i (try_with S li t' sg args normal table)
    try_kept t' sg normal table same named go =
        let u = some_and (signature_of S.callee t) (λ z. (length args ≡ length z.params) × C z) counts in
        let w = some_and (signature_of S.callee t) (λ z. HaveTypes S.callee args (param_types z.params) × T z) types.2 in
        let both = λ (z : Sig) (q : signature_of S.callee t ≡ Some z). let a : u.0 ≡ z = some_same (sym u.1 ∙ q) in let b : w.0 ≡ z = some_same (sym w.1 ∙ q) in go z q (subst C a u.2.1) (subst T b w.2.1) in
        let one = both u.0 u.1 in
        record {
          counts = subst (λ u. CallCounts (spliced S) u (map S.naming.callee_value args) (λ z. (Path ℕ 0 0) × Each (TargetCounts (spliced S) (Some (length z.results))) (normal ∷ table_targets table))) (sym same) (call_counts S.callee (spliced S) (callee_names S) (RestG S (kind_of S.site.inst)) eg g_typed t args C (λ z. (0 ≡ 0) × Each (TargetCounts (spliced S) (Some (length z.results))) (normal ∷ table_targets table)) (λ z q p. (refl {a = 0}, (both z q).counts)) counts);
          types = subst (λ u. CallTypes (spliced S) (try_with S li t' sg args normal table) u (map S.naming.callee_value args) (λ z. TargetTypes (spliced S) (param_types z.results) [] normal × Each (TargetTypes (spliced S) [] (I64 ∷ I64 ∷ [])) (table_targets table))) (sym same) (call_types S.callee (spliced S) (callee_names S) (RestG S (kind_of S.site.inst)) eg g_typed li (try_with S li t' sg args normal table) (refl {a = li.ty}) t args T (λ z. TargetTypes (spliced S) (param_types z.results) [] normal × Each (TargetTypes (spliced S) [] (I64 ∷ I64 ∷ [])) (table_targets table)) (λ z q p. ((both z q).normal_types, (both z q).table_types)) types);
          convention = tt;
          signature = named ∙ ap (signature_of (spliced S)) (sym same);
          slots = tt;
          tags = tt;
          available = each_join (Available (spliced S) x i) (called_used (call_target t' sg) ++ map S.naming.callee_value args) (targets_used (normal ∷ table_targets table)) (subst (λ u. Each (Available (spliced S) x i) (called_used u ++ map S.naming.callee_value args)) (sym same) (subst (Each (Available (spliced S) x i)) (sym (called_used_under (callee_names S) t args)) av)) one.available;
        }

  -- the site's table, whatever the call returns
  pub site_table : (normal : BlockCall) (table : List (Entry BlockCall)) → TriesFacts m S E.site E.f_accepted normal table → (x i : ℕ) → ((v : ℕ) → Available S.caller S.at (length S.before) v → Available (spliced S) x i (S.naming.caller_value v)) → (n : ℕ) → Each (TargetCounts (spliced S) (Some n)) (table_targets (map (entry_under (caller_names S)) table)) × Each (TargetTypes (spliced S) [] (I64 ∷ I64 ∷ [])) (table_targets (map (entry_under (caller_names S)) table)) × Each (Available (spliced S) x i) (targets_used (table_targets (map (entry_under (caller_names S)) table)))
  site_table normal table fs x i av n =
      let e = sym (table_under (caller_names S) table) in
      let a = (each_split (Available S.caller S.at (length S.before)) (arg_values_used normal.args) (targets_used (table_targets table)) fs.available).1 in (
        subst (Each (TargetCounts (spliced S) (Some n))) e (targets_counts S.caller (spliced S) (caller_names S) (RestF S) ef f_typed (Some n) (table_targets table) (table_counts S.caller E.f_whole (I64 ∷ I64 ∷ []) (Some (length S.callee.sig.results)) (Some n) (table_targets table) fs.counts.1 fs.table_types)),
        subst (Each (TargetTypes (spliced S) [] (I64 ∷ I64 ∷ []))) e (targets_types S.caller (spliced S) (caller_names S) (RestF S) ef f_typed [] (I64 ∷ I64 ∷ []) (table_targets table) fs.table_types),
        subst (λ z. Each (Available (spliced S) x i) (targets_used z)) e (subst (Each (Available (spliced S) x i)) (sym (targets_used_under (caller_names S) (table_targets table))) (each_map (Available S.caller S.at (length S.before)) (Available (spliced S) x i) S.naming.caller_value av (targets_used (table_targets table)) a)),
      )

  -- results that go on as the parameters of a block
  pub rets_kept : (b : ℕ) (k : Block) (vs : List ℕ) (ts : List Ty) (n : ℕ) → find_block b (spliced S).blocks ≡ Some k → k.params ≡ map S.naming.callee_value vs → HaveTypes S.callee vs ts → length vs ≡ n → TargetCounts (spliced S) (Some n) (record { block = b; args = map arg.Ret (from 0 (length vs)) }) × TargetTypes (spliced S) ts [] (record { block = b; args = map arg.Ret (from 0 (length vs)) })
  rets_kept b k vs ts n found params have len =
      let lt : length vs ≡ length ts = sym (length_map (type_of S.callee) vs) ∙ ap length have ∙ length_some ts in (
        (
          and_some (find_block b (spliced S).blocks) (λ z. length (map arg.Ret (from 0 (length vs))) ≡ length z.params) k found (length_map arg.Ret (from 0 (length vs)) ∙ length_from 0 (length vs) ∙ sym (length_map S.naming.callee_value vs) ∙ ap length (sym params)),
          rets_counts 0 (length vs) n (omega (arith, len)),
        ),
        and_some (find_block b (spliced S).blocks) (λ z. map (arg_type (spliced S) ts []) (map arg.Ret (from 0 (length vs))) ≡ types_of (spliced S) z.params) k found (rets_types (spliced S) ts [] 0 (length vs) ∙ ap (λ z. map (slice_get ts) (from 0 z)) lt ∙ types_from S E.names E.news (slice_get ts) 0 ts (λ j t q. let z : 0 + j ≡ j = omega arith in ap (slice_get ts) z ∙ q) ∙ sym have ∙ sym (vals_typed S.callee (spliced S) (callee_names S) (RestG S (kind_of S.site.inst)) eg g_typed vs) ∙ ap (types_of (spliced S)) (sym params)),
      )
