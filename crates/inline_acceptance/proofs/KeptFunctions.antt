-- A splice of whole and accepted functions is accepted, and so is the module with it.
use Rattle.std.proofs.Common.{◌≡◌, ◌≢◌, ℕ, suc, ◌+◌, inl, inr, ◌⊎◌, List, [], ◌∷◌, ◌++◌, length, map, Option, Some, None, Bool, false, true, refl, sym, ap, ◌∙◌, subst, arith}
use Rattle.std.specs.Prelude.{slice_get, if◌then◌else◌}
use Rattle.ir_core.specs.declared.names.FuncName.{FuncName}
use Rattle.ir_core.specs.declared.signatures.Sig.{Sig}
use Rattle.ir_core.specs.declared.declarations.Callee.{Callee}
use Rattle.ir_core.specs.declared.instructions.BlockCall.{BlockCall}
use Rattle.ir_core.specs.declared.places.Item.TheVariants as item
use Rattle.ir_core.specs.Module.{Function, Module, Branches, Call, Instruction, Line, Block, Plain, Return, ReturnCall, SequencePoint, TryCall, call_target}
use Rattle.ir_core.specs.Lookup.{same_name, find_block, find_function, signature_of}
use Rattle.ir_core.specs.Lists.{In, Each}
use Rattle.ir_core.specs.Uses.{targets, table_targets}
use Rattle.ir_semantics.specs.Accepted.{RulesHold, Accepted, Rule, no_terminator, entry_target, count_mismatch, type_mismatch, convention, signature_mismatch, slot_range, tag_place, not_available, HoldsAtLine, HoldsAtBlock, HoldsAtCallee, IsFirst}
use Rattle.ir_semantics.specs.CountRules.{InstructionCounts, TargetCounts}
use Rattle.ir_semantics.specs.TypeRules.{types_of}
use Rattle.ir_semantics.specs.CallRules.{Declared}
use Rattle.ir_core.specs.WellFormed.{WellFormed}
use Rattle.ir_semantics.specs.Import.{with_item, with_items, sigs_after, callee_with, callees_with, callees_after, same_callee}
use Rattle.ir_semantics.specs.Renaming.{line_under}
use Rattle.ir_semantics.specs.Splice.{Splicing, caller_names, first_number, jump_in, fragment, replace, spliced}
use Rattle.ir_semantics.proofs.SafetyPlaces.{some_and}
use Rattle.inline_outcomes.proofs.Places.{find_hit}
use Rattle.inline_outcomes.proofs.Merging.{own_sig, other_sig}
use Rattle.inline_outcomes.proofs.Functions.{replaced, others_stay}
use Rattle.ir_core.proofs.Equal.{equal_name, cases_name}
use Rattle.ir_core.proofs.Gets.{some_same, get_mapped, in_get, get_in}
use Rattle.ir_core.proofs.Members.{each_in}
use Rattle.inline_acceptance.proofs.KeptLists.{length_map, get_after}
use Rattle.inline_acceptance.proofs.Points.{from_is, to_ending, of_ending, piece_first, BlockOf, of_f, of_cut, of_g, of_after, block_of}
use Rattle.inline_acceptance.proofs.KeptPaths.{Sound, LineFrom, known, site_get, site_goes}
use Rattle.inline_acceptance.proofs.KeptTraces.{out_first}
use Rattle.inline_acceptance.proofs.KeptSite.{rule_at}
use Rattle.inline_acceptance.proofs.KeptLines.{Setting}
use Rattle.inline_acceptance.proofs.KeptSplice.{line_kept, entry_kept, f_vals}

-- ---- a whole and accepted function has what paths need

target_lands : (f : Function) (n : Option ℕ) (ts : List BlockCall) → Each (TargetCounts f n) ts → (t : BlockCall) → In t ts → (e : Block) × (find_block t.block f.blocks ≡ Some e)
target_lands f n ts h t p =
    let c = each_in (TargetCounts f n) ts h t p in
    let u = some_and (find_block t.block f.blocks) (λ b. length t.args ≡ length b.params) c.0 in
    (u.0, u.1)

pub line_lands : (f : Function) (l : Line) (i : Instruction) → InstructionCounts f l i → (t : BlockCall) → In t (targets i) → (e : Block) × (find_block t.block f.blocks ≡ Some e)
line_lands f l (Branches b) h t p = target_lands f None (targets (Branches b)) h.1 t p
line_lands f l (TryCall c sig args normal table) h t p =
    let u = some_and (signature_of f (call_target c sig)) (λ s. (length args ≡ length s.params) × ((length l.results ≡ 0) × Each (TargetCounts f (Some (length s.results))) (normal ∷ table_targets table))) h in
    target_lands f (Some (length u.0.results)) (normal ∷ table_targets table) u.2.1.1 t p
line_lands f l (Plain a) h t p = elim p [ ]
line_lands f l SequencePoint h t p = elim p [ ]
line_lands f l (Return a) h t p = elim p [ ]
line_lands f l (Call a b) h t p = elim p [ ]
line_lands f l (ReturnCall a b) h t p = elim p [ ]

first_line : (ls : List Line) → ls ≢ [] → (l : Line) × (slice_get ls 0 ≡ Some l)
first_line [] h = absurd (h refl)
first_line (l ∷ ls) h = (l, refl)

pub is_filled : (ls : List Line) (l : Line) → slice_get ls 0 ≡ Some l → ls ≢ []
is_filled [] l h = cc
is_filled (x ∷ ls) l h = λ e. cc

first_block : (bs : List Block) → bs ≢ [] → (b : Block) × (cs : List Block) × (bs ≡ b ∷ cs)
first_block [] h = absurd (h refl)
first_block (b ∷ bs) h = (b, bs, refl)

pub sound : (m : Module) (f : Function) → RulesHold m f → WellFormed f → Sound f
sound m f ok whole =
    let b = first_block f.blocks whole.begins in
    record {
      first = b.0;
      others = b.1;
      blocks = b.2;
      numbers = whole.blocks;
      lines = λ c k found. first_line k.lines (ok (item.Block c) no_terminator k found);
      ends = λ c k i l found get. to_ending l.inst (slice_get k.lines (suc i)) (rule_at m f ok c k i l found get no_terminator);
      lands = λ c k i l found get t p. line_lands f l l.inst (rule_at m f ok c k i l found get count_mismatch) t p;
    }

-- ---- members of lists by their places

in_item : {A : Type 0} (same : A → A → Bool) (a : A) (ys : List A) (x : A) → In a (with_item same ys x) → In a ys ⊎ (a ≡ x)
in_item same a [] x (inl q) = inr q
in_item same a [] x (inr q) = elim q [ ]
in_item {A} same a (y ∷ ys) x h = go (λ k. in_item same a ys x k) (same y x) h
  where
    go : (In a (with_item same ys x) → In a ys ⊎ (a ≡ x)) → (b : Bool) → In a (if b then y ∷ ys else y ∷ with_item same ys x) → In a (y ∷ ys) ⊎ (a ≡ x)
    go ih true h = inl h
    go ih false (inl q) = inl (inl q)
    go ih false (inr q) = elim (ih q) [ inl r ↦ inl (inr r) | inr r ↦ inr r ]

pub in_items : {A : Type 0} (same : A → A → Bool) (a : A) (ys xs : List A) → In a (with_items same ys xs) → In a ys ⊎ In a xs
in_items same a ys [] h = inl h
in_items same a ys (x ∷ xs) h = elim (in_items same a (with_item same ys x) xs h) [ inl q ↦ elim (in_item same a ys x q) [ inl r ↦ inl r | inr r ↦ inr (inl r) ] | inr q ↦ inr (inr q) ]

-- a callee that is taken over
pub in_with : (f g : Function) (c : Callee) (cs : List Callee) → In c (callees_with f g cs) → (d : Callee) × In d cs × (c ≡ callee_with f g d)
in_with f g c [] p = elim p [ ]
in_with f g c (d ∷ cs) (inl p) = (d, inl refl, p)
in_with f g c (d ∷ cs) (inr p) = let u = in_with f g c cs p in (u.0, inr u.1, u.2)

pub in_replace : (f' h : Function) (m : Module) → In h (replace f' m) → (h ≡ f') ⊎ In h m
in_replace f' h [] p = elim p [ ]
in_replace f' h (k ∷ m) p = go (λ q. in_replace f' h m q) (same_name k.name f'.name) p
  where
    go : (In h (replace f' m) → (h ≡ f') ⊎ In h m) → (b : Bool) → In h (if b then f' ∷ m else k ∷ replace f' m) → (h ≡ f') ⊎ In h (k ∷ m)
    go ih true (inl q) = inl q
    go ih true (inr q) = inr (inr q)
    go ih false (inl q) = inr (inl q)
    go ih false (inr q) = elim (ih q) [ inl r ↦ inl r | inr r ↦ inr (inr r) ]

module _ (m : Module) (S : Splicing) (E : Setting m S) where
  -- ---- blocks

  out_filled : (x : ℕ) (k' : Block) → find_block x (spliced S).blocks ≡ Some k' → k'.lines ≢ []
  out_filled x k' found = by (block_of S E.names S.caller.blocks E.site.block E.site.block_found E.g_ok.numbers x k' found)
    where
      seen : (ls : List Line) → k'.lines ≡ ls → (l : Line) → slice_get ls 0 ≡ Some l → k'.lines ≢ []
      seen ls e l h = is_filled k'.lines l (ap (λ z. slice_get z 0) e ∙ h)

      by : BlockOf S E.names E.site.block S.caller.blocks x k' → k'.lines ≢ []
      by (of_f b k name q off is) = let a = E.f_ok.lines b k q in seen (map (line_under (caller_names S)) k.lines) (ap (λ z. z.lines) is) (line_under (caller_names S) a.0) (get_mapped (line_under (caller_names S)) k.lines 0 a.0 a.1)
      by (of_cut name is) = let a = cut_first S.before in seen (map (line_under (caller_names S)) S.before ++ (jump_in S ∷ [])) (ap (λ z. z.lines) is) a.0 a.1
        where
          cut_first : (ls : List Line) → (c : Line) × (slice_get (map (line_under (caller_names S)) ls ++ (jump_in S ∷ [])) 0 ≡ Some c)
          cut_first [] = (jump_in S, refl)
          cut_first (y ∷ ls) = (line_under (caller_names S) y, refl)
      by (of_after within name is) =
          let a = (E.f_ok.ends S.at E.site.block (length S.before) S.site E.site.block_found (site_get m S E.names E.site E.f_ok E.g_ok)).goes (site_goes S.site.inst E.site.callee E.site.is_call within) in
          let z : suc (length S.before) ≡ suc (length S.before + 0) = omega arith in
          let got : slice_get S.behind 0 ≡ Some a.0 = sym (get_after S.before S.site S.behind 0) ∙ ap (λ ls. slice_get ls (suc (length S.before + 0))) (sym E.site.lines) ∙ ap (slice_get E.site.block.lines) (sym z) ∙ a.1 in
          seen (map (line_under (caller_names S)) S.behind) (ap (λ y. y.lines) is) (line_under (caller_names S) a.0) (get_mapped (line_under (caller_names S)) S.behind 0 a.0 got)
      by (of_g o) =
          elim o.which [
            | inl u ↦ let a = E.g_ok.lines o.c o.k o.found in let b = piece_first S E.names o.c 0 o.k.lines a.0 a.1 in seen (fragment S o.c 0 o.k.lines).lines u.2 b.0 b.1
            | inr u ↦
                let a = (E.g_ok.ends o.c o.k u.j u.line o.found u.get).goes u.goes in
                let z : suc u.j + 0 ≡ suc u.j = omega arith in
                let got : slice_get u.rest 0 ≡ Some a.0 = sym (from_is o.k.lines (suc u.j) u.rest 0 u.from) ∙ ap (slice_get o.k.lines) z ∙ a.1 in
                let b = piece_first S E.names o.c (suc (0 + u.j)) u.rest a.0 got in
                seen (fragment S o.c (suc (0 + u.j)) u.rest).lines u.lines b.0 b.1
          ]

  entry_params : (x : ℕ) (k' : Block) → find_block x (spliced S).blocks ≡ Some k' → IsFirst (spliced S) x → k'.params ≡ map S.naming.caller_value E.f_ok.first.params
  entry_params x k' found is =
      let r = out_first m S E.names E.site E.f_ok E.g_ok in
      let at : find_block r.0.number (spliced S).blocks ≡ Some r.0 = ap (find_block r.0.number) r.2 ∙ find_hit r.0.number r.0 r.1 refl in
      let same : k' ≡ r.0 = some_same (sym found ∙ ap (λ z. find_block z (spliced S).blocks) (is ∙ ap first_number r.2) ∙ at) in
      ap (λ z. z.params) same ∙ r.4

  f_first : find_block E.f_ok.first.number S.caller.blocks ≡ Some E.f_ok.first
  f_first = ap (find_block E.f_ok.first.number) E.f_ok.blocks ∙ find_hit E.f_ok.first.number E.f_ok.first E.f_ok.others refl

  f_entry : IsFirst S.caller E.f_ok.first.number
  f_entry = sym (ap first_number E.f_ok.blocks)

  at_block : (x : ℕ) (k' : Block) → find_block x (spliced S).blocks ≡ Some k' → (rule : Rule) → HoldsAtBlock (spliced S) x k' rule
  at_block x k' found no_terminator = out_filled x k' found
  at_block x k' found count_mismatch = λ is. ap length (entry_params x k' found is) ∙ length_map S.naming.caller_value E.f_ok.first.params ∙ E.f_accepted (item.Block E.f_ok.first.number) count_mismatch E.f_ok.first f_first f_entry
  at_block x k' found type_mismatch = λ is. ap (types_of (spliced S)) (entry_params x k' found is) ∙ f_vals m S E E.f_ok.first.params ∙ E.f_accepted (item.Block E.f_ok.first.number) type_mismatch E.f_ok.first f_first f_entry
  at_block x k' found _ = tt

  at_line : (x : ℕ) (k' : Block) (i : ℕ) (i' : Line) → find_block x (spliced S).blocks ≡ Some k' → slice_get k'.lines i ≡ Some i' → (rule : Rule) → HoldsAtLine (spliced S) x k' i i' rule
  at_line x k' i i' found get rule = by rule
    where
      from_line : LineFrom m S E.names E.site E.f_ok E.g_ok x i i'
      from_line = (known m S E.names E.site E.f_ok E.g_ok x k' found i i' get).which

      by : (rule : Rule) → HoldsAtLine (spliced S) x k' i i' rule
      by no_terminator = of_ending i'.inst (slice_get k'.lines (suc i)) (known m S E.names E.site E.f_ok E.g_ok x k' found i i' get).ending
      by entry_target = entry_kept m S E x i i' from_line
      by count_mismatch = (line_kept m S E x i i' from_line).counts
      by type_mismatch = (line_kept m S E x i i' from_line).types
      by convention = (line_kept m S E x i i' from_line).convention
      by signature_mismatch = (line_kept m S E x i i' from_line).signature
      by slot_range = (line_kept m S E x i i' from_line).slots
      by tag_place = (line_kept m S E x i i' from_line).tags
      by not_available = (line_kept m S E x i i' from_line).available

  at_callee : (r : Module) (k : ℕ) (c : Callee) → slice_get (spliced S).callees k ≡ Some c → Declared r (spliced S) c → (rule : Rule) → HoldsAtCallee r (spliced S) c rule
  at_callee r k c get states signature_mismatch = states
  at_callee r k c get states _ = tt

  -- in every module whose functions its declarations state
  pub out_accepted : (r : Module) → ((k : ℕ) (c : Callee) → slice_get (spliced S).callees k ≡ Some c → Declared r (spliced S) c) → RulesHold r (spliced S)
  out_accepted r states item.Whole rule = tt
  out_accepted r states (item.Callee k) rule = λ c get. at_callee r k c get (states k c get) rule
  out_accepted r states (item.Block b) rule = λ k found. at_block b k found rule
  out_accepted r states (item.Inst at) rule = λ k l found get. at_line at.block k at.index l found get rule

  -- a callee declaration of the splice is one of the caller, or comes with the callee
  pub declaration_of : (k : ℕ) (c : Callee) → slice_get (callees_after S.caller S.callee) k ≡ Some c → In c S.caller.callees ⊎ ((d : Callee) × In d S.callee.callees × (c ≡ callee_with S.caller S.callee d))
  declaration_of k c get =
      elim (in_items (same_callee (sigs_after S.caller S.callee)) c S.caller.callees (callees_with S.caller S.callee S.callee.callees) (get_in (callees_after S.caller S.callee) k c get)) [
        | inl p ↦ inl p
        | inr p ↦ inr (in_with S.caller S.callee c S.callee.callees p)
      ]

  -- the module with the splice in the caller's place
  module _ (caller_there : find_function S.caller.name m ≡ Some S.caller) where
    -- ---- declarations

    still_declared : (name : FuncName) (o : Option Sig) → ((h : Function) → find_function name m ≡ Some h → o ≡ Some h.sig) → (h : Function) → find_function name (replace (spliced S) m) ≡ Some h → o ≡ Some h.sig
    still_declared name o old h q =
        elim (cases_name name S.caller.name) [
          | inl e ↦
              let there = replaced (spliced S) m S.caller caller_there in
              let same : spliced S ≡ h = some_same (sym there ∙ ap (λ z. find_function z (replace (spliced S) m)) (sym e) ∙ q) in
              old S.caller (ap (λ z. find_function z m) e ∙ caller_there) ∙ ap (λ z. Some z.sig) same
          | inr e ↦ old h (sym (others_stay (spliced S) m name (λ p. let z : false ≡ true = sym e ∙ equal_name name S.caller.name p in cc)) ∙ q)
        ]

    out_declared : (k : ℕ) (c : Callee) → slice_get (callees_after S.caller S.callee) k ≡ Some c → (h : Function) → find_function c.name (replace (spliced S) m) ≡ Some h → slice_get (sigs_after S.caller S.callee) c.sig ≡ Some h.sig
    out_declared k c get =
        elim (declaration_of k c get) [
          | inl p ↦
              let j = in_get S.caller.callees c p in
              still_declared c.name (slice_get (sigs_after S.caller S.callee) c.sig) (λ h q. own_sig S.caller S.callee c.sig h.sig (E.f_accepted (item.Callee j.0) signature_mismatch c j.1 h q))
          | inr d ↦
              let j = in_get S.callee.callees d.0 d.1 in
              subst (λ z. (h : Function) → find_function z.name (replace (spliced S) m) ≡ Some h → slice_get (sigs_after S.caller S.callee) z.sig ≡ Some h.sig) (sym d.2) (still_declared d.0.name (slice_get (sigs_after S.caller S.callee) (callee_with S.caller S.callee d.0).sig) (λ h q. other_sig S.caller S.callee d.0.sig h.sig (E.g_accepted (item.Callee j.0) signature_mismatch d.0 j.1 h q)))
        ]

    -- ---- the other functions

    other_callee : (h : Function) → RulesHold m h → (k : ℕ) (c : Callee) → slice_get h.callees k ≡ Some c → (rule : Rule) → HoldsAtCallee (replace (spliced S) m) h c rule
    other_callee h ok k c get signature_mismatch = still_declared c.name (slice_get h.sigs c.sig) (ok (item.Callee k) signature_mismatch c get)
    other_callee h ok k c get _ = tt

    other_accepted : (h : Function) → RulesHold m h → RulesHold (replace (spliced S) m) h
    other_accepted h ok item.Whole rule = tt
    other_accepted h ok (item.Callee k) rule = λ c get. other_callee h ok k c get rule
    other_accepted h ok (item.Block b) rule = ok (item.Block b) rule
    other_accepted h ok (item.Inst at) rule = ok (item.Inst at) rule

    pub module_accepted : Accepted m → Accepted (replace (spliced S) m)
    module_accepted all h p = elim (in_replace (spliced S) h m p) [ inl e ↦ subst (RulesHold (replace (spliced S) m)) (sym e) (out_accepted (replace (spliced S) m) out_declared) | inr q ↦ other_accepted h (all h q) ]
