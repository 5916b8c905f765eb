-- A splice of writable functions is writable, where its size is within the limit.
use Rattle.std.proofs.Common.{◌≡◌, ℕ, zero, suc, ◌≤◌, ◌<◌, ◌+◌, inl, inr, List, [], ◌∷◌, length, map, Some, Bool, false, true, refl, sym, ap, ◌∙◌, subst, arith}
use Rattle.std.specs.Prelude.{slice_get, if◌then◌else◌}
use Rattle.exn_tables.specs.declared.table.Entry.{Entry}
use Rattle.ir_core.specs.declared.signatures.Ty.{Ty}
use Rattle.ir_core.specs.declared.declarations.Callee.{Callee}
use Rattle.ir_core.specs.declared.instructions.Arg.{Arg}
use Rattle.ir_core.specs.declared.instructions.Arg.TheVariants as arg
use Rattle.ir_core.specs.declared.instructions.BlockCall.{BlockCall}
use Rattle.ir_core.specs.Module.{CallTarget, Function, Module, Branches, Call, Instruction, Line, Block, Plain, Return, ReturnCall, SequencePoint, TryCall}
use Rattle.ir_core.specs.Lookup.{find_block, same_name, signature_of, param_types, type_of}
use Rattle.ir_core.specs.Lists.{In, Each}
use Rattle.ir_semantics.specs.TypeRules.{InstructionTypes, CallTypes, HaveTypes}
use Rattle.ir_semantics.specs.CountRules.{ArgCounts}
use Rattle.ir_semantics.specs.Import.{callees_with, callees_after, same_callee, sigs_after}
use Rattle.ir_semantics.specs.Renaming.{called_under, entry_under, line_under, tag_under}
use Rattle.ir_core.specs.Size.{size_of, block_size, line_size, total}
use Rattle.ir_core.proofs.Members.{each_by, each_in, each_join}
use Rattle.ir_core.proofs.Gets.{in_get, get_in}
use Rattle.ir_core.proofs.ByNumber.{in_find}
use Rattle.ir_semantics.specs.Splice.{Kind, Last, Splicing, Tries, Within, args_of, callee_line, callee_names, caller_names, first_number, from, joined_tags, jump_to, kind_of, line_with, new_results, or_ret, replace, returned_arg, spliced}
use Rattle.ir_semantics.proofs.SafetyPlaces.{function_in, block_in}
use Rattle.ir_text.specs.Writable.{InstructionForm, LineWritable, FunctionWritable, NameWritable, SlotWritable, ResultTypes, TargetWritable, ValueArg, NormalArg, TableWritable, TagWritable}
use Rattle.inline_acceptance.specs.Laws.{SpliceWritable}
use Rattle.inline_acceptance.specs.Alone.{standing}
use Rattle.inline_outcomes.proofs.Related.{RestF, RestG}
use Rattle.inline_outcomes.proofs.Linking.{embeds_f, embeds_g}
use Rattle.inline_acceptance.proofs.Points.{Trans}
use Rattle.inline_acceptance.proofs.KeptLists.{length_map}
use Rattle.inline_acceptance.proofs.KeptPaths.{LineFrom, pf, pj, pg, px, known, site_get}
use Rattle.inline_acceptance.proofs.KeptTypes.{caller_typed, callee_typed}
use Rattle.inline_acceptance.proofs.KeptRules.{some_map}
use Rattle.inline_acceptance.proofs.KeptSite.{LineKept, line_kept_at, TriesFacts, facts}
use Rattle.inline_acceptance.proofs.KeptLines.{Setting}
use Rattle.inline_acceptance.proofs.KeptSplice.{line_kept}
use Rattle.inline_acceptance.proofs.KeptFunctions.{in_items, in_with, in_replace}
use Rattle.inline_acceptance.proofs.KeptModules.{setting}
use Rattle.inline_acceptance.proofs.KeptForms.{results_of, tags_written, joined_written, normal_written, table_written, form_under}
use Rattle.inline_acceptance.proofs.Unique.{out_different}

-- ---- a part is no more than the whole

part_of : {A : Type 0} (h : A → ℕ) (a : A) (xs : List A) → In a xs → h a ≤ total h xs
part_of h a [] p = elim p [ ]
part_of h a (x ∷ xs) (inl p) = let q = ap h p in omega (arith, q)
part_of h a (x ∷ xs) (inr p) = let q = part_of h a xs p in omega (arith, q)

results_within : (f : Function) (b : ℕ) (k : Block) (i : ℕ) (l : Line) → find_block b f.blocks ≡ Some k → slice_get k.lines i ≡ Some l → length l.results ≤ size_of f
results_within f b k i l found get =
    let p = part_of block_size k f.blocks (block_in b f.blocks k found) in
    let q = part_of line_size l k.lines (get_in k.lines i l get) in omega (arith, p, q)

written_at : (f : Function) → FunctionWritable f → (b : ℕ) (k : Block) (i : ℕ) (l : Line) → find_block b f.blocks ≡ Some k → slice_get k.lines i ≡ Some l → LineWritable f l
written_at f w b k i l found get = each_in (LineWritable f) k.lines (each_in (λ (b : Block). Each (LineWritable f) b.lines) f.blocks w.lines k (block_in b f.blocks k found)) l (get_in k.lines i l get)

values_written : (vs : List ℕ) → Each ValueArg (map arg.Value vs)
values_written [] = tt
values_written (v ∷ vs) = (tt, values_written vs)

rets_written : (i j : ℕ) → i + j ≤ 262144 → Each NormalArg (map arg.Ret (from i j))
rets_written i zero h = tt
rets_written i (suc j) h = ((let q : i ≤ 4294967294 = omega (arith, h) in q), rets_written (suc i) j (omega (arith, h)))

module _ (m : Module) (S : Splicing) (E : Setting m S) (fw : FunctionWritable S.caller) (gw : FunctionWritable S.callee) where
  jump_written : (b : ℕ) (vs : List ℕ) → LineWritable (spliced S) (jump_to S (record { block = b; args = map arg.Value vs }))
  jump_written b vs = ((refl, (values_written vs, tt), tt), tt)

  site_written : LineWritable S.caller S.site
  site_written = written_at S.caller fw S.at E.site.block (length S.before) S.site E.site.block_found (site_get m S E.names E.site E.f_ok E.g_ok)

  -- the normal target and the table of the site
  tries_form : (i : Instruction) (normal : BlockCall) (table : List (Entry BlockCall)) → kind_of i ≡ Tries normal table → InstructionForm S.caller S.site i → TargetWritable NormalArg normal × Each TableWritable table
  tries_form (TryCall t sig args a b) normal table q h =
      let e : a ≡ normal = cc in
      let d : b ≡ table = cc in
      (subst (TargetWritable NormalArg) e h.1, subst (Each TableWritable) d h.2)
  tries_form (Plain p) normal table q h = cc
  tries_form (Branches p) normal table q h = cc
  tries_form SequencePoint normal table q h = cc
  tries_form (Return p) normal table q h = cc
  tries_form (Call p a) normal table q h = cc
  tries_form (ReturnCall p a) normal table q h = cc

  -- a returned value stands where the target names it
  or_written : (vs : List ℕ) (j i : ℕ) → j < length vs → ValueArg (or_ret i (slice_get vs j))
  or_written [] j i h = absurd (omega (arith, h))
  or_written (v ∷ vs) zero i h = tt
  or_written (v ∷ vs) (suc j) i h = or_written vs j i (omega (arith, h))

  returned_written : (vs : List ℕ) (n : ℕ) → length vs ≡ n → (as' : List Arg) → Each (ArgCounts (Some n)) as' → Each NormalArg as' → Each ValueArg (map (returned_arg S vs) as')
  returned_written vs n len [] c h = tt
  returned_written vs n len (arg.Value v ∷ as') c h = (tt, returned_written vs n len as' c.1 h.1)
  returned_written vs n len (arg.Ret i ∷ as') c h =
      let e = length_map S.naming.callee_value vs in
      let b = c.0 in
      (or_written (map S.naming.callee_value vs) i i (omega (arith, e, b, len)), returned_written vs n len as' c.1 h.1)
  returned_written vs n len (arg.Exn i ∷ as') c h = elim h.0 [ ]

  -- the form of a call is in its types
  call_form : (l : Line) (t : CallTarget) (args : List ℕ) → CallTypes (spliced S) l t args (λ s. HaveTypes (spliced S) l.results (param_types s.results)) → InstructionForm (spliced S) l (Call t args)
  call_form l t args h = (h.0, some_map (signature_of (spliced S) t) (λ s. HaveTypes (spliced S) args (param_types s.params) × HaveTypes (spliced S) l.results (param_types s.results)) (λ s. ResultTypes (spliced S) l.results (param_types s.results)) (λ s q p. results_of (spliced S) l.results (param_types s.results) p.1) h.2)

  -- ---- a line of the callee's part

  module _ (x i : ℕ) (i' : Line) (c s : ℕ) (k : Block) (li : Line) (found : find_block c S.callee.blocks ≡ Some k) (get : slice_get k.lines s ≡ Some li) (kept : LineKept (spliced S) x i i') where
    lw : LineWritable S.callee li
    lw = written_at S.callee gw c k s li found get

    own_kept : LineKept S.callee c s li
    own_kept = line_kept_at m S.callee E.g_accepted c k s li found get

    tags : Each TagWritable (joined_tags S li.inst li.tags)
    tags = joined_written li.inst (map (tag_under (caller_names S)) S.site.tags) (map (tag_under (callee_names S)) li.tags) (tags_written (caller_names S) S.site.tags site_written.1) (tags_written (callee_names S) li.tags lw.1)

    plain_written : i' ≡ callee_line S li → LineWritable (spliced S) i'
    plain_written h =
        subst (LineWritable (spliced S)) (sym h) (form_under S.callee (spliced S) (callee_names S) (RestG S (kind_of S.site.inst)) (embeds_g S E.names (standing S E.site)) (callee_typed S E.names E.news) li (callee_line S li) refl refl li.inst lw.0, tags)

    within_written : (inst : Instruction) → li.inst ≡ inst → Trans S E.names Within c s inst li i' → LineWritable (spliced S) i'
    within_written (Return vs) q h = subst (LineWritable (spliced S)) (sym h) (jump_written S.naming.after (map S.naming.callee_value vs))
    within_written (ReturnCall t args) q h =
        let y = subst (λ z. LineKept (spliced S) x i z) h kept in
        subst (LineWritable (spliced S)) (sym h) (call_form (line_with S li (Call (called_under (callee_names S) t) (map S.naming.callee_value args)) (new_results S c)) (called_under (callee_names S) t) (map S.naming.callee_value args) y.types, tags)
    within_written (Plain p) q h = plain_written h
    within_written (Branches p) q h = plain_written h
    within_written SequencePoint q h = plain_written h
    within_written (Call p a) q h = plain_written h
    within_written (TryCall p a b d e) q h = plain_written h

    module _ (normal : BlockCall) (table : List (Entry BlockCall)) (kind : kind_of S.site.inst ≡ Tries normal table) where
      form : TargetWritable NormalArg normal × Each TableWritable table
      form = tries_form S.site.inst normal table kind site_written.0

      outer : Each TableWritable (map (entry_under (caller_names S)) table)
      outer = table_written (caller_names S) table form.1

      fs : TriesFacts m S E.site E.f_accepted normal table
      fs = facts m S E.site E.f_accepted (Tries normal table) kind

      no_ty : (inst : Instruction) → li.inst ≡ inst → InstructionForm S.callee li inst
      no_ty inst q = subst (InstructionForm S.callee li) q lw.0

      tries_written : (inst : Instruction) → li.inst ≡ inst → Trans S E.names (Tries normal table) c s inst li i' → LineWritable (spliced S) i'
      tries_written (Return vs) q h =
          let t = subst (InstructionTypes S.callee li) q own_kept.types in
          let len : length vs ≡ length S.callee.sig.results = sym (length_map (type_of S.callee) vs) ∙ ap length t.1 ∙ length_map (λ (z : Ty). Some z) (param_types S.callee.sig.results) ∙ length_map _ S.callee.sig.results in
          subst (LineWritable (spliced S)) (sym h) ((refl, (returned_written vs (length S.callee.sig.results) len normal.args fs.counts.0.1 form.0, tt), tt), tt)
      tries_written (ReturnCall t args) q h = subst (LineWritable (spliced S)) (sym h) (((no_ty (ReturnCall t args) q).0, normal_written (caller_names S) normal form.0, outer, tt), tags)
      tries_written (Call t args) q h =
          let n = results_within S.callee c k s li found get in
          let z = gw.size in
          subst (LineWritable (spliced S)) (sym h) (((no_ty (Call t args) q).0, rets_written 0 (length li.results) (omega (arith, n, z)), outer, tt), tags)
      tries_written (TryCall t sig args own inner) q h =
          let w = no_ty (TryCall t sig args own inner) q in
          subst (LineWritable (spliced S)) (sym h) ((w.0, normal_written (callee_names S) own w.1, each_join TableWritable (map (entry_under (callee_names S)) inner) (map (entry_under (caller_names S)) table) (table_written (callee_names S) inner w.2) outer, tt), tags)
      tries_written (Plain p) q h = plain_written h
      tries_written (Branches p) q h = plain_written h
      tries_written SequencePoint q h = plain_written h

    g_written : (kd : Kind) → kind_of S.site.inst ≡ kd → Trans S E.names kd c s li.inst li i' → LineWritable (spliced S) i'
    g_written Within kind h = within_written li.inst refl h
    g_written Last kind h = plain_written h
    g_written (Tries normal table) kind h = tries_written normal table kind li.inst refl h

  line_written : (x i : ℕ) (i' : Line) → LineFrom m S E.names E.site E.f_ok E.g_ok x i i' → LineKept (spliced S) x i i' → LineWritable (spliced S) i'
  line_written x i i' (pf b s k li spot found get h) kept =
      let w = written_at S.caller fw b k s li found get in
      subst (LineWritable (spliced S)) (sym h) (form_under S.caller (spliced S) (caller_names S) (RestF S) (embeds_f S E.names (standing S E.site)) (caller_typed S E.names E.news) li (line_under (caller_names S) li) refl refl li.inst w.0, tags_written (caller_names S) li.tags w.1)
  line_written x i i' (pj spot h) kept = subst (LineWritable (spliced S)) (sym h) (jump_written (S.naming.callee_block (first_number S.callee.blocks)) (map S.naming.caller_value (args_of S.site.inst)))
  line_written x i i' (pg c s k li spot found get h) kept = g_written x i i' c s k li found get kept (kind_of S.site.inst) refl h
  line_written x i i' (px c s k li spot found get tails w h) kept = subst (LineWritable (spliced S)) (sym h) (jump_written S.naming.after (new_results S c))

  callee_name : (c : Callee) → In c (callees_after S.caller S.callee) → NameWritable c.name
  callee_name c p =
      elim (in_items (same_callee (sigs_after S.caller S.callee)) c S.caller.callees (callees_with S.caller S.callee S.callee.callees) p) [
        | inl q ↦ each_in (λ (c : Callee). NameWritable c.name) S.caller.callees fw.callees c q
        | inr q ↦ let d = in_with S.caller S.callee c S.callee.callees q in subst (λ z. NameWritable z.name) (sym d.2) (each_in (λ (c : Callee). NameWritable c.name) S.callee.callees gw.callees d.0 d.1)
      ]

  pub out_written : size_of (spliced S) ≤ 262144 → FunctionWritable (spliced S)
  out_written size =
      record {
        name = fw.name;
        slots = each_join SlotWritable S.caller.slots S.callee.slots fw.slots gw.slots;
        callees = each_by (λ (c : Callee). NameWritable c.name) (callees_after S.caller S.callee) callee_name;
        lines = each_by (λ (b : Block). Each (LineWritable (spliced S)) b.lines) (spliced S).blocks (λ k p. each_by (LineWritable (spliced S)) k.lines (λ l q.
            let g = in_get k.lines l q in
            let found = in_find k (spliced S).blocks (out_different S E.names E.f_ok.numbers E.g_ok.numbers) p in
            let o = (known m S E.names E.site E.f_ok E.g_ok k.number k found g.0 l g.1).which in
            line_written k.number g.0 l o (line_kept m S E k.number g.0 l o)));
        size = size;
      }

as_many : (f' : Function) (m : Module) → length (replace f' m) ≡ length m
as_many f' [] = refl
as_many f' (k ∷ m) = by (same_name k.name f'.name) (as_many f' m)
  where
    by : (b : Bool) → length (replace f' m) ≡ length m → length (if b then f' ∷ m else k ∷ replace f' m) ≡ length (k ∷ m)
    by true h = refl
    by false h = ap suc h

pub splice_writable : SpliceWritable
splice_writable m whole accepted written S named site size =
    let E = setting m whole accepted S named site in
    let fw = each_in FunctionWritable m written.functions S.caller (function_in S.caller.name m S.caller site.caller_found) in
    let gw = each_in FunctionWritable m written.functions S.callee (function_in site.declared.name m S.callee site.callee_found) in
    record {
      functions = each_by FunctionWritable (replace (spliced S) m) (λ h p. elim (in_replace (spliced S) h m p) [ inl e ↦ subst FunctionWritable (sym e) (out_written m S E fw gw size) | inr q ↦ each_in FunctionWritable m written.functions h q ]);
      count = let e = as_many (spliced S) m in let n = written.count in omega (arith, e, n);
    }
