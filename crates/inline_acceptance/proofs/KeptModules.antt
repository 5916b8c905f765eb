-- A splice of whole functions is whole, and the module with it is one again.
use Rattle.std.proofs.Common.{◌≡◌, ℕ, ◌<◌, inl, inr, List, [], ◌∷◌, ◌++◌, length, map, Some, Bool, false, true, refl, sym, ap, ◌∙◌, subst, arith}
use Rattle.std.specs.Prelude.{slice_get, if◌then◌else◌}
use Rattle.exn_tables.specs.declared.table.Entry.{Entry}
use Rattle.debug_tags.specs.declared.tags.Tag.{Tag}
use Rattle.debug_tags.specs.declared.tags.Tag.TheVariants as tag
use Rattle.ir_core.specs.declared.signatures.Ty.{Ty}
use Rattle.ir_core.specs.declared.declarations.Callee.{Callee}
use Rattle.ir_core.specs.declared.instructions.BlockCall.{BlockCall}
use Rattle.ir_core.specs.declared.places.Item.TheVariants as item
use Rattle.ir_core.specs.Module.{Nop, Const, Pure, PureImm, Load, Store, StackLoad, StackStore, FuncAddr, Trap, Trapz, Trapnz, CallTarget, Direct, Indirect, Function, Module, Branches, Call, Instruction, Line, Block, Plain, Return, ReturnCall, SequencePoint, TryCall, TryDirect, TryIndirect, call_target}
use Rattle.ir_core.specs.Lookup.{same_name, find_block, find_function, type_of, block_numbers, definitions}
use Rattle.ir_core.specs.Lists.{In, Each, Different}
use Rattle.ir_core.specs.Uses.{values_used, called_callees, slots_shown, callees_used}
use Rattle.ir_core.specs.WellFormed.{WellFormed, LineWellFormed, BlockWellFormed, DifferentNames, IsModule, declared}
use Rattle.ir_semantics.specs.Accepted.{RulesHold, Accepted, signature_mismatch}
use Rattle.ir_semantics.specs.Import.{sigs_after, callee_with, callees_with, callees_after, same_callee}
use Rattle.ir_semantics.specs.Renaming.{Renaming, called_under, instruction_under, tag_under}
use Rattle.ir_semantics.specs.Site.{Site}
use Rattle.ir_semantics.specs.Splice.{Kind, Last, Splicing, Tries, Within, callee_line, callee_names, caller_names, joined_tags, kind_of, replace, sides, spliced, tags_before}
use Rattle.ir_semantics.proofs.SafetyPlaces.{line_whole as line_whole_at, has_type, function_in}
use Rattle.inline_acceptance.specs.Laws.{SpliceAccepted}
use Rattle.inline_acceptance.specs.Alone.{CallSite, standing}
use Rattle.inline_outcomes.proofs.Local.{Fits, named_target, try_target_called}
use Rattle.inline_outcomes.proofs.Related.{Distinct}
use Rattle.inline_outcomes.proofs.Linking.{embeds_f, embeds_g, distinct_sides}
use Rattle.inline_outcomes.proofs.Merging.{own_sig, other_sig}
use Rattle.inline_outcomes.proofs.Functions.{others_stay}
use Rattle.ir_core.proofs.Equal.{name_equal, equal_name}
use Rattle.ir_core.proofs.Gets.{get_some, in_get, get_below}
use Rattle.ir_core.proofs.Members.{each_by, each_in}
use Rattle.ir_core.proofs.ByNumber.{in_find}
use Rattle.inline_acceptance.proofs.KeptLists.{each_map}
use Rattle.inline_acceptance.proofs.Points.{Trans}
use Rattle.inline_acceptance.proofs.KeptPaths.{LineFrom, pf, pj, pg, px, known, site_get}
use Rattle.inline_acceptance.proofs.KeptTraces.{out_first}
use Rattle.inline_acceptance.proofs.KeptTypes.{Apart, apart_sides}
use Rattle.inline_acceptance.proofs.KeptSite.{param_defined}
use Rattle.inline_acceptance.proofs.KeptLines.{Setting}
use Rattle.inline_acceptance.proofs.KeptSplice.{line_kept}
use Rattle.inline_acceptance.proofs.KeptFunctions.{sound, in_items, in_with, in_replace, module_accepted}
use Rattle.inline_acceptance.proofs.KeptCounts.{count_in, in_count, count_different}
use Rattle.inline_acceptance.proofs.KeptValues.{out_counts, declared_once}
use Rattle.inline_acceptance.proofs.KeptWhole.{HasType, typed_declared, used_typed, used_blocks, used_slots, used_sigs}
use Rattle.inline_acceptance.proofs.Unique.{out_different}

-- ---- callees and shown slots under other numbers

called_callees_under : (r : Renaming) (t : CallTarget) → called_callees (called_under r t) ≡ map r.callee (called_callees t)
called_callees_under r (Direct k) = refl
called_callees_under r (Indirect s a) = refl

callees_under : (r : Renaming) (i : Instruction) → callees_used (instruction_under r i) ≡ map r.callee (callees_used i)
callees_under r (Plain Nop) = refl
callees_under r (Plain (Const a)) = refl
callees_under r (Plain (Pure a b)) = refl
callees_under r (Plain (PureImm a b c)) = refl
callees_under r (Plain (Load a b c d)) = refl
callees_under r (Plain (Store a b c d e)) = refl
callees_under r (Plain (StackLoad a b c)) = refl
callees_under r (Plain (StackStore a b c)) = refl
callees_under r (Plain (FuncAddr a)) = refl
callees_under r (Plain (Trap a)) = refl
callees_under r (Plain (Trapz a b)) = refl
callees_under r (Plain (Trapnz a b)) = refl
callees_under r (Branches c) = refl
callees_under r SequencePoint = refl
callees_under r (Return a) = refl
callees_under r (Call t a) = called_callees_under r t
callees_under r (ReturnCall t a) = called_callees_under r t
callees_under r (TryCall (TryDirect k) a b c d) = refl
callees_under r (TryCall (TryIndirect v) a b c d) = refl

shown_under : (r : Renaming) (ts : List Tag) → slots_shown (map (tag_under r) ts) ≡ map r.slot (slots_shown ts)
shown_under r [] = refl
shown_under r (tag.User n ∷ ts) = shown_under r ts
shown_under r (tag.Slot k ∷ ts) = ap (λ z. r.slot k ∷ z) (shown_under r ts)

shown_append : (P : ℕ → Type 0) (us ts : List Tag) → Each P (slots_shown us) → Each P (slots_shown ts) → Each P (slots_shown (us ++ ts))
shown_append P [] ts a b = b
shown_append P (tag.User n ∷ us) ts a b = shown_append P us ts a b
shown_append P (tag.Slot k ∷ us) ts a b = (a.0, shown_append P us ts a.1 b)

shown_joined : (P : ℕ → Type 0) (i : Instruction) (us ts : List Tag) → Each P (slots_shown us) → Each P (slots_shown ts) → Each P (slots_shown (tags_before i us ts))
shown_joined P SequencePoint us ts a b = shown_append P us ts a b
shown_joined P (Call t c) us ts a b = shown_append P us ts a b
shown_joined P (ReturnCall t c) us ts a b = shown_append P us ts a b
shown_joined P (TryCall t c d e f) us ts a b = shown_append P us ts a b
shown_joined P (Plain p) us ts a b = b
shown_joined P (Branches p) us ts a b = b
shown_joined P (Return p) us ts a b = b

module _ (F G : Function) (r : Renaming) (fits : Fits F G r) where
  callees_below : (ks : List ℕ) → Each (λ k. k < length F.callees) ks → Each (λ k. k < length G.callees) (map r.callee ks)
  callees_below ks h =
      each_map (λ k. k < length F.callees) (λ k. k < length G.callees) r.callee (λ k p.
      let c = get_some F.callees k p in
      let u = fits.callee k c.0 c.1 in
      get_below G.callees (r.callee k) u.0 u.1) ks h

  slots_below : (ts : List Tag) → Each (λ k. k < length F.slots) (slots_shown ts) → Each (λ k. k < length G.slots) (slots_shown (map (tag_under r) ts))
  slots_below ts h =
      subst (Each (λ k. k < length G.slots)) (sym (shown_under r ts)) (each_map (λ k. k < length F.slots) (λ k. k < length G.slots) r.slot (λ k p.
      let d = get_some F.slots k p in
      let u = fits.size k d.0 d.1 in
      get_below G.slots (r.slot k) d.0 u.0) (slots_shown ts) h)

module _ (m : Module) (S : Splicing) (E : Setting m S) where
  ff : Fits S.caller (spliced S) (caller_names S)
  ff = (embeds_f S E.names (standing S E.site)).fits

  fg : Fits S.callee (spliced S) (callee_names S)
  fg = (embeds_g S E.names (standing S E.site)).fits

  -- ---- a line's callees and tags

  record Parts (l : Line) : Type 0 where
    callees : Each (λ k. k < length (spliced S).callees) (callees_used l.inst)
    shown : Each (λ k. k < length (spliced S).slots) (slots_shown l.tags)

  site_shown : Each (λ k. k < length (spliced S).slots) (slots_shown (map (tag_under (caller_names S)) S.site.tags))
  site_shown = slots_below S.caller (spliced S) (caller_names S) ff S.site.tags (line_whole_at S.caller E.f_whole S.at E.site.block (length S.before) S.site E.site.block_found (site_get m S E.names E.site E.f_ok E.g_ok)).shown

  module _ (c s : ℕ) (li i' : Line) (w : LineWellFormed S.callee li) where
    joined_shown : Each (λ k. k < length (spliced S).slots) (slots_shown (joined_tags S li.inst li.tags))
    joined_shown = shown_joined (λ k. k < length (spliced S).slots) li.inst (map (tag_under (caller_names S)) S.site.tags) (map (tag_under (callee_names S)) li.tags) site_shown (slots_below S.callee (spliced S) (callee_names S) fg li.tags w.shown)

    under_parts : (j : Line) → i' ≡ j → (ks : List ℕ) → callees_used j.inst ≡ map (callee_names S).callee ks → Each (λ k. k < length S.callee.callees) ks → j.tags ≡ joined_tags S li.inst li.tags → Parts i'
    under_parts j h ks e own t =
        subst Parts (sym h) (record { callees = subst (Each (λ k. k < length (spliced S).callees)) (sym e) (callees_below S.callee (spliced S) (callee_names S) fg ks own); shown = subst (λ z. Each (λ k. k < length (spliced S).slots) (slots_shown z)) (sym t) joined_shown })

    none_parts : (j : Line) → i' ≡ j → callees_used j.inst ≡ [] → j.tags ≡ [] → Parts i'
    none_parts j h e t = subst Parts (sym h) (record { callees = subst (Each (λ k. k < length (spliced S).callees)) (sym e) tt; shown = subst (λ z. Each (λ k. k < length (spliced S).slots) (slots_shown z)) (sym t) tt })

    plain_parts : i' ≡ callee_line S li → Parts i'
    plain_parts h = under_parts (callee_line S li) h (callees_used li.inst) (callees_under (callee_names S) li.inst) w.callees refl

    call_parts : (j : Line) → i' ≡ j → (t : CallTarget) → callees_used li.inst ≡ called_callees t → callees_used j.inst ≡ called_callees (called_under (callee_names S) t) → j.tags ≡ joined_tags S li.inst li.tags → Parts i'
    call_parts j h t q e tags = under_parts j h (called_callees t) (e ∙ called_callees_under (callee_names S) t) (subst (Each (λ k. k < length S.callee.callees)) q w.callees) tags

    within_parts : (inst : Instruction) → li.inst ≡ inst → Trans S E.names Within c s inst li i' → Parts i'
    within_parts (Return vs) q h = none_parts _ h refl refl
    within_parts (ReturnCall t args) q h = call_parts _ h t (ap callees_used q) refl refl
    within_parts (Plain p) q h = plain_parts h
    within_parts (Branches p) q h = plain_parts h
    within_parts SequencePoint q h = plain_parts h
    within_parts (Call p a) q h = plain_parts h
    within_parts (TryCall p a b d e) q h = plain_parts h

    tries_parts : (normal : BlockCall) (table : List (Entry BlockCall)) (inst : Instruction) → li.inst ≡ inst → Trans S E.names (Tries normal table) c s inst li i' → Parts i'
    tries_parts normal table (Return vs) q h = none_parts _ h refl refl
    tries_parts normal table (ReturnCall t args) q h = call_parts _ h t (ap callees_used q) (ap called_callees (named_target S (called_under (callee_names S) t))) refl
    tries_parts normal table (Call t args) q h = call_parts _ h t (ap callees_used q) (ap called_callees (named_target S (called_under (callee_names S) t))) refl
    tries_parts normal table (TryCall t sig args own inner) q h = call_parts _ h (call_target t sig) (ap callees_used q) (ap called_callees (try_target_called (callee_names S) t sig)) refl
    tries_parts normal table (Plain p) q h = plain_parts h
    tries_parts normal table (Branches p) q h = plain_parts h
    tries_parts normal table SequencePoint q h = plain_parts h

    g_parts : (k : Kind) → Trans S E.names k c s li.inst li i' → Parts i'
    g_parts Within h = within_parts li.inst refl h
    g_parts Last h = plain_parts h
    g_parts (Tries normal table) h = tries_parts normal table li.inst refl h

  parts : (x i : ℕ) (i' : Line) → LineFrom m S E.names E.site E.f_ok E.g_ok x i i' → Parts i'
  parts x i i' (pf b s k li spot found get h) =
      let w = line_whole_at S.caller E.f_whole b k s li found get in
      subst Parts (sym h) (record { callees = subst (Each (λ k. k < length (spliced S).callees)) (sym (callees_under (caller_names S) li.inst)) (callees_below S.caller (spliced S) (caller_names S) ff (callees_used li.inst) w.callees); shown = slots_below S.caller (spliced S) (caller_names S) ff li.tags w.shown })
  parts x i i' (pj spot h) = subst Parts (sym h) (record { callees = tt; shown = tt })
  parts x i i' (pg c s k li spot found get h) = g_parts c s li i' (line_whole_at S.callee E.g_whole c k s li found get) (kind_of S.site.inst) h
  parts x i i' (px c s k li spot found get tails w h) = subst Parts (sym h) (record { callees = tt; shown = tt })

  -- ---- the function

  params_typed : (x : ℕ) (k : Block) → find_block x (spliced S).blocks ≡ Some k → (v : ℕ) → In v k.params → (t : Ty) × (type_of (spliced S) v ≡ Some t)
  params_typed x k found v p =
      let a = count_in v (definitions (spliced S).blocks) (param_defined x (spliced S).blocks k found v p) in
      let b = out_counts m S E v in
      has_type (spliced S).types v (in_count v (declared (spliced S)) (omega (arith, a, b)))

  line_whole : (x : ℕ) (k' : Block) → find_block x (spliced S).blocks ≡ Some k' → (i : ℕ) (i' : Line) → slice_get k'.lines i ≡ Some i' → LineWellFormed (spliced S) i'
  line_whole x k' found i i' get =
      let o = (known m S E.names E.site E.f_ok E.g_ok x k' found i i' get).which in
      let lk = line_kept m S E x i i' o in
      let ps = parts x i i' o in
      record {
        values = each_by (λ v. In v (declared (spliced S))) (values_used i'.inst) (λ v p. let t = each_in (HasType (spliced S)) (values_used i'.inst) (used_typed (spliced S) params_typed i' i'.inst lk.types) v p in typed_declared (spliced S).types v t.0 t.1);
        blocks = used_blocks (spliced S) params_typed i' i'.inst lk.counts;
        slots = used_slots (spliced S) params_typed i'.inst lk.slots;
        shown = ps.shown;
        callees = ps.callees;
        sigs = used_sigs (spliced S) params_typed i' i'.inst lk.counts lk.signature;
      }

  numbers : Different (block_numbers (spliced S).blocks)
  numbers = out_different S E.names E.f_ok.numbers E.g_ok.numbers

  callee_sigs : (c : Callee) → In c (callees_after S.caller S.callee) → c.sig < length (sigs_after S.caller S.callee)
  callee_sigs c p =
      elim (in_items (same_callee (sigs_after S.caller S.callee)) c S.caller.callees (callees_with S.caller S.callee S.callee.callees) p) [
        | inl q ↦ let s = get_some S.caller.sigs c.sig (each_in (λ (c : Callee). c.sig < length S.caller.sigs) S.caller.callees E.f_whole.callees c q) in get_below (sigs_after S.caller S.callee) c.sig s.0 (own_sig S.caller S.callee c.sig s.0 s.1)
        | inr q ↦
            let d = in_with S.caller S.callee c S.callee.callees q in
            let s = get_some S.callee.sigs d.0.sig (each_in (λ (c : Callee). c.sig < length S.callee.sigs) S.callee.callees E.g_whole.callees d.0 d.1) in
            subst (λ z. z.sig < length (sigs_after S.caller S.callee)) (sym d.2) (get_below (sigs_after S.caller S.callee) (callee_with S.caller S.callee d.0).sig s.0 (other_sig S.caller S.callee d.0.sig s.0 s.1))
      ]

  pub out_whole : WellFormed (spliced S)
  out_whole =
      record {
        begins = let r = out_first m S E.names E.site E.f_ok E.g_ok in λ e. let z : r.0 ∷ r.1 ≡ [] = sym r.2 ∙ e in cc;
        blocks = numbers;
        declared_once = count_different (declared (spliced S)) (λ u. declared_once m S E u);
        defined_once = count_different (definitions (spliced S).blocks) (λ u. let a = declared_once m S E u in let b = out_counts m S E u in omega (arith, a, b));
        defined = λ v p. let a = count_in v (declared (spliced S)) p in let b = out_counts m S E v in in_count v (definitions (spliced S).blocks) (omega (arith, a, b));
        definitions_declared = λ v p. let a = count_in v (definitions (spliced S).blocks) p in let b = out_counts m S E v in in_count v (declared (spliced S)) (omega (arith, a, b));
        callees = each_by (λ (c : Callee). c.sig < length (spliced S).sigs) (spliced S).callees callee_sigs;
        lines = each_by (BlockWellFormed (spliced S)) (spliced S).blocks (λ k p. each_by (LineWellFormed (spliced S)) k.lines (λ l q. let g = in_get k.lines l q in line_whole k.number k (in_find k (spliced S).blocks numbers p) g.0 l g.1));
      }

-- ---- the module

pub names_stay_different : (f' : Function) (m : Module) → DifferentNames m → DifferentNames (replace f' m)
names_stay_different f' [] d = tt
names_stay_different f' (k ∷ m) d = by (same_name k.name f'.name) refl (names_stay_different f' m d.1)
  where
    by : (b : Bool) → same_name k.name f'.name ≡ b → DifferentNames (replace f' m) → DifferentNames (if b then f' ∷ m else k ∷ replace f' m)
    by true q ih = (ap (λ z. find_function z m) (sym (name_equal k.name f'.name q)) ∙ d.0, d.1)
    by false q ih = (others_stay f' m k.name (λ p. let z : false ≡ true = sym q ∙ equal_name k.name f'.name p in cc) ∙ d.0, ih)

-- the declaration of the callee states its signature
call_site : (m : Module) (S : Splicing) → Site m S → RulesHold m S.caller → CallSite S
call_site m S site ok =
    record {
      block = site.block;
      block_found = site.block_found;
      lines = site.lines;
      callee = site.callee;
      is_call = site.is_call;
      declared = site.declared;
      declared_found = site.declared_found;
      signature = ok (item.Callee site.callee) signature_mismatch site.declared site.declared_found S.callee site.callee_found;
    }

pub setting : (m : Module) → IsModule m → Accepted m → (S : Splicing) → S.naming ≡ sides → Site m S → Setting m S
setting m whole accepted S named site =
    let fi = function_in S.caller.name m S.caller site.caller_found in
    let gi = function_in site.declared.name m S.callee site.callee_found in
    let fw = each_in WellFormed m whole.whole S.caller fi in
    let gw = each_in WellFormed m whole.whole S.callee gi in
    record {
      names = subst Distinct (sym named) distinct_sides;
      news = subst Apart (sym named) apart_sides;
      site = call_site m S site (accepted S.caller fi);
      f_ok = sound m S.caller (accepted S.caller fi) fw;
      g_ok = sound m S.callee (accepted S.callee gi) gw;
      f_accepted = accepted S.caller fi;
      g_accepted = accepted S.callee gi;
      f_whole = fw;
      g_whole = gw;
    }

pub splice_accepted : SpliceAccepted
splice_accepted m whole accepted S named site =
    let E = setting m whole accepted S named site in (
      record { names = names_stay_different (spliced S) m whole.names; whole = each_by WellFormed (replace (spliced S) m) (λ h p. elim (in_replace (spliced S) h m p) [ inl e ↦ subst WellFormed (sym e) (out_whole m S E) | inr q ↦ each_in WellFormed m whole.whole h q ]) },
      module_accepted m S E site.caller_found accepted,
    )
