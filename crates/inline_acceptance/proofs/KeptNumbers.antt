-- A function under other numbers of values and blocks is accepted where it was, and so is a module.
use Rattle.std.proofs.Common.{◌≡◌, ◌≢◌, ℕ, suc, inl, inr, List, [], ◌∷◌, ◌++◌, length, map, Option, Some, None, false, refl, sym, ap, ◌∙◌, subst}
use Rattle.std.specs.Prelude.{slice_get}
use Rattle.std.proofs.lemmas.Bool.{cases_eq}
use Rattle.ir_core.specs.declared.names.FuncName.{FuncName}
use Rattle.ir_core.specs.declared.signatures.Ty.{Ty}
use Rattle.ir_core.specs.declared.declarations.Callee.{Callee}
use Rattle.ir_core.specs.declared.instructions.BlockCall.{BlockCall}
use Rattle.ir_core.specs.declared.places.Item.TheVariants as item
use Rattle.ir_core.specs.Module.{Function, Module, Line, Block}
use Rattle.ir_core.specs.Lookup.{find_block, find_function, type_in, type_of, param_types, definitions, number_in}
use Rattle.ir_core.specs.Lists.{In}
use Rattle.ir_core.specs.Uses.{targets}
use Rattle.ir_semantics.specs.Available.{terminates, Reach, begin, next, branch, Available}
use Rattle.ir_semantics.specs.Accepted.{RulesHold, Rule, no_terminator, entry_target, count_mismatch, type_mismatch, convention, signature_mismatch, slot_range, tag_place, not_available, HoldsAtLine, HoldsAtBlock, HoldsAtCallee, IsFirst}
use Rattle.ir_semantics.specs.TypeRules.{types_of, each_some}
use Rattle.ir_semantics.specs.EndRules.{EntryIsNoTarget}
use Rattle.ir_semantics.specs.Canon.{canonical_names, canonical, types_in_order}
use Rattle.ir_core.specs.WellFormed.{WellFormed}
use Rattle.ir_core.proofs.Gets.{get_mapped}
use Rattle.ir_core.proofs.Members.{each_by, each_in, in_map}
use Rattle.ir_semantics.specs.Renaming.{Renaming, block_under, line_under, tag_under}
use Rattle.ir_semantics.specs.Splice.{first_number, with_type}
use Rattle.ir_semantics.proofs.SafetyPlaces.{has_type}
use Rattle.inline_outcomes.proofs.Local.{Injective}
use Rattle.inline_outcomes.proofs.Frames.{Embeds}
use Rattle.inline_outcomes.proofs.Related.{RestOf}
use Rattle.inline_outcomes.proofs.Numbering.{Renumbers, renumber_embeds, place_injective}
use Rattle.inline_acceptance.proofs.KeptLists.{length_map, Sub, sub_front, target_from, map_get, none_map}
use Rattle.inline_acceptance.proofs.Points.{RenamedFrom, renamed_find, ends_under, Ending, to_ending, of_ending}
use Rattle.inline_acceptance.proofs.KeptTypes.{type_hit, type_append_none, with_off}
use Rattle.inline_acceptance.proofs.KeptRules.{vals_typed}
use Rattle.inline_acceptance.proofs.KeptSite.{LineKept, line_kept_at, rule_at}
use Rattle.inline_acceptance.proofs.KeptLines.{under_kept}
use Rattle.inline_acceptance.proofs.KeptSplice.{tags_under}
use Rattle.inline_acceptance.proofs.KeptFunctions.{is_filled}
use Rattle.inline_acceptance.proofs.KeptWhole.{typed_declared}
use Rattle.inline_acceptance.proofs.KeptPaths.{block_head}

-- m' has the signatures of m, and G is F under other numbers
module _ (m m' : Module) (declares : (name : FuncName) (h' : Function) → find_function name m' ≡ Some h' → (h : Function) × (find_function name m ≡ Some h) × (h.sig ≡ h'.sig)) (F G : Function) (r : Renaming) (value : Injective r.value) (block : Injective r.block) (rest : (k : ℕ) → (r.slot k ≡ k) × (r.sig k ≡ k) × (r.callee k ≡ k)) (same : Renumbers r F G) (typed : (v : ℕ) → type_of G (r.value v) ≡ type_of F v) (accepted : RulesHold m F) where
  emb : Embeds F G r (RestOf r)
  emb = renumber_embeds r F G value block (λ k. (rest k).0) (λ k. (rest k).1) (λ k. (rest k).2) same

  from_block : (x : ℕ) (k' : Block) → find_block x G.blocks ≡ Some k' → RenamedFrom r F.blocks x k'
  from_block x k' found = renamed_find r F.blocks x k' (ap (find_block x) (sym same.blocks) ∙ found)

  -- ---- paths

  record Trace (x i : ℕ) (defs : List ℕ) : Type 0 where
    b : ℕ
    d : List ℕ
    name : x ≡ r.block b
    reach : Reach F b i d
    sub : Sub r.value d defs

  first_trace : (bs : List Block) → F.blocks ≡ bs → (first : Block) (others : List Block) → map (block_under r) bs ≡ first ∷ others → Trace first.number 0 first.params
  first_trace [] e first others q = cc
  first_trace (b ∷ bs) e first others q =
      let h : block_under r b ≡ first = block_head q in
      record { b = b.number; d = b.params; name = ap (λ z. z.number) (sym h); reach = begin b bs e; sub = record { at = λ v p. subst (λ z. In (r.value v) z.params) h (in_map r.value v b.params p) } }

  trace : {x i : ℕ} {defs : List ℕ} → Reach G x i defs → Trace x i defs
  trace (begin first others q) = first_trace F.blocks refl first others (sym same.blocks ∙ q)
  trace (next {b = x} {i = i} {defs = defs} path k' found l' get goes) =
      let t = trace path in
      let o = from_block x k' found in
      let e : o.b ≡ t.b = block o.b t.b (sym o.name ∙ t.name) in
      let l = map_get (line_under r) o.k.lines i l' (ap (λ z. slice_get z.lines i) (sym o.is) ∙ get) in
      let go : terminates l.0.inst ≡ false = sym (ends_under r l.0.inst) ∙ ap (λ z. terminates z.inst) (sym l.2) ∙ goes in
      record {
        b = t.b;
        d = l.0.results ++ t.d;
        name = t.name;
        reach = next t.reach o.k (ap (λ z. find_block z F.blocks) (sym e) ∙ o.found) l.0 l.1 go;
        sub = subst (λ z. Sub r.value (l.0.results ++ t.d) (z.results ++ defs)) (sym l.2) (sub_front r.value l.0.results t.d defs t.sub);
      }
  trace (branch {b = x} {i = i} {defs = defs} path k' found l' get t' is entered' found') =
      let t = trace path in
      let o = from_block x k' found in
      let e : o.b ≡ t.b = block o.b t.b (sym o.name ∙ t.name) in
      let l = map_get (line_under r) o.k.lines i l' (ap (λ z. slice_get z.lines i) (sym o.is) ∙ get) in
      let u = target_from r l.0.inst t' (subst (λ z. In t' (targets z.inst)) l.2 is) in
      let w = from_block t'.block entered' found' in
      let f : w.b ≡ u.0.block = block w.b u.0.block (sym w.name ∙ ap (λ z. z.block) u.2) in
      record {
        b = u.0.block;
        d = w.k.params ++ t.d;
        name = ap (λ z. z.block) u.2;
        reach = branch t.reach o.k (ap (λ z. find_block z F.blocks) (sym e) ∙ o.found) l.0 l.1 u.0 u.1 w.k (ap (λ z. find_block z F.blocks) (sym f) ∙ w.found);
        sub = subst (λ z. Sub r.value (w.k.params ++ t.d) (z.params ++ defs)) (sym w.is) (sub_front r.value w.k.params t.d defs t.sub);
      }

  still_available : (b i v : ℕ) → Available F b i v → Available G (r.block b) i (r.value v)
  still_available b i v a defs path =
      let t = trace path in
      let e : t.b ≡ b = block t.b b (sym t.name) in
      t.sub.at v (a t.d (subst (λ z. Reach F z i t.d) e t.reach))

  -- ---- rules

  at_line : (x : ℕ) (k' : Block) (i : ℕ) (l' : Line) → find_block x G.blocks ≡ Some k' → slice_get k'.lines i ≡ Some l' → (rule : Rule) → HoldsAtLine G x k' i l' rule
  at_line x k' i l' found get rule = by rule
    where
      o : RenamedFrom r F.blocks x k'
      o = from_block x k' found

      l : (a : Line) × (slice_get o.k.lines i ≡ Some a) × (l' ≡ line_under r a)
      l = map_get (line_under r) o.k.lines i l' (ap (λ z. slice_get z.lines i) (sym o.is) ∙ get)

      own : LineKept F o.b i l.0
      own = line_kept_at m F accepted o.b o.k i l.0 o.found l.1

      kept : LineKept G x i l'
      kept =
          subst (LineKept G x i) (sym l.2) (under_kept F G r (RestOf r) emb typed o.b i l.0 own x i (λ v a. subst (λ z. Available G z i (r.value v)) (sym o.name) (still_available o.b i v a)) (map (tag_under r) l.0.tags) (tags_under r l.0.inst l.0.tags own.tags) (λ z. record {
            counts = ap (λ z. length z.results) (sym same.sig);
            types = ap (λ z. param_types z.results) (sym same.sig);
            conv = λ q. ap (λ z. z.conv) same.sig ∙ q;
          }))

      ending : Ending l'.inst (slice_get k'.lines (suc i))
      ending =
          let e = to_ending l.0.inst (slice_get o.k.lines (suc i)) (rule_at m F accepted o.b o.k i l.0 o.found l.1 no_terminator) in
          let t : terminates l'.inst ≡ terminates l.0.inst = ap (λ z. terminates z.inst) l.2 ∙ ends_under r l.0.inst in
          record { goes = λ q. let u = e.goes (sym t ∙ q) in (line_under r u.0, ap (λ z. slice_get z.lines (suc i)) o.is ∙ get_mapped (line_under r) o.k.lines (suc i) u.0 u.1); stops = λ q. ap (λ z. slice_get z.lines (suc i)) o.is ∙ none_map (line_under r) o.k.lines (suc i) (e.stops (sym t ∙ q)) }

      no_entry : EntryIsNoTarget G l'
      no_entry =
          each_by (λ (t : BlockCall). t.block ≢ first_number G.blocks) (targets l'.inst) (λ t p q.
          let u = target_from r l.0.inst t (subst (λ z. In t (targets z.inst)) l.2 p) in
          not_first F.blocks refl u.0 u.1 (ap (λ z. z.block) (sym u.2) ∙ q))
        where
          not_first : (bs : List Block) → F.blocks ≡ bs → (u : BlockCall) → In u (targets l.0.inst) → r.block u.block ≡ first_number G.blocks → ⊥
          not_first [] e u p q = let z : None ≡ Some o.k = ap (find_block o.b) (sym e) ∙ o.found in cc
          not_first (b ∷ bs) e u p q =
              let s : first_number G.blocks ≡ r.block b.number = ap first_number same.blocks ∙ ap (λ z. first_number (map (block_under r) z)) e in
              let w : u.block ≡ first_number F.blocks = block u.block b.number (q ∙ s) ∙ ap first_number (sym e) in
              each_in (λ (t : BlockCall). t.block ≢ first_number F.blocks) (targets l.0.inst) (rule_at m F accepted o.b o.k i l.0 o.found l.1 entry_target) u p w

      by : (rule : Rule) → HoldsAtLine G x k' i l' rule
      by no_terminator = of_ending l'.inst (slice_get k'.lines (suc i)) ending
      by entry_target = no_entry
      by count_mismatch = kept.counts
      by type_mismatch = kept.types
      by convention = kept.convention
      by signature_mismatch = kept.signature
      by slot_range = kept.slots
      by tag_place = kept.tags
      by not_available = kept.available

  at_block : (x : ℕ) (k' : Block) → find_block x G.blocks ≡ Some k' → (rule : Rule) → HoldsAtBlock G x k' rule
  at_block x k' found rule = by rule
    where
      o : RenamedFrom r F.blocks x k'
      o = from_block x k' found

      filled : (ls : List Line) → o.k.lines ≡ ls → ls ≢ [] → k'.lines ≢ []
      filled [] e h = absurd (h refl)
      filled (a ∷ ls) e h = is_filled k'.lines (line_under r a) (ap (λ z. slice_get z.lines 0) o.is ∙ ap (λ z. slice_get (map (line_under r) z) 0) e)

      was_first : (bs : List Block) → F.blocks ≡ bs → IsFirst G x → IsFirst F o.b
      was_first [] e q = let z : None ≡ Some o.k = ap (find_block o.b) (sym e) ∙ o.found in cc
      was_first (b ∷ bs) e q =
          let s : first_number G.blocks ≡ r.block b.number = ap first_number same.blocks ∙ ap (λ z. first_number (map (block_under r) z)) e in
          block o.b b.number (sym o.name ∙ q ∙ s) ∙ ap first_number (sym e)

      by : (rule : Rule) → HoldsAtBlock G x k' rule
      by no_terminator = filled o.k.lines refl (accepted (item.Block o.b) no_terminator o.k o.found)
      by count_mismatch = λ q. ap (λ z. length z.params) o.is ∙ length_map r.value o.k.params ∙ accepted (item.Block o.b) count_mismatch o.k o.found (was_first F.blocks refl q) ∙ ap (λ z. length z.params) (sym same.sig)
      by type_mismatch = λ q. ap (λ z. types_of G z.params) o.is ∙ vals_typed F G r (RestOf r) emb typed o.k.params ∙ accepted (item.Block o.b) type_mismatch o.k o.found (was_first F.blocks refl q) ∙ ap (λ z. each_some (param_types z.params)) (sym same.sig)
      by _ = tt

  at_callee : (k : ℕ) (c : Callee) → slice_get G.callees k ≡ Some c → (rule : Rule) → HoldsAtCallee m' G c rule
  at_callee k c get signature_mismatch = λ h' q.
      let d = declares c.name h' q in
      ap (λ z. slice_get z c.sig) same.sigs ∙ accepted (item.Callee k) signature_mismatch c (ap (λ z. slice_get z k) (sym same.callees) ∙ get) d.0 d.1 ∙ ap Some d.2
  at_callee k c get _ = tt

  pub renumbered_accepted : RulesHold m' G
  renumbered_accepted item.Whole rule = tt
  renumbered_accepted (item.Callee k) rule = λ c get. at_callee k c get rule
  renumbered_accepted (item.Block b) rule = λ k found. at_block b k found rule
  renumbered_accepted (item.Inst at) rule = λ k l found get. at_line at.block k at.index l found get rule

-- ---- types in canonical order

order_off : (new : ℕ → ℕ) → Injective new → (ts : List (ℕ × Ty)) (ds : List ℕ) (v : ℕ) → (In v ds → ⊥) → type_in (types_in_order new ts ds) (new v) ≡ None
order_off new inj ts [] v off = refl
order_off new inj ts (d ∷ ds) v off = type_append_none (with_type (new d) (type_in ts d)) (types_in_order new ts ds) (new v) (with_off (new d) (new v) (λ p. off (inl (sym (inj d v p)))) (type_in ts d)) ∙ order_off new inj ts ds v (λ p. off (inr p))

order_in : (new : ℕ → ℕ) → Injective new → (ts : List (ℕ × Ty)) (ds : List ℕ) (v : ℕ) (t : Ty) → type_in ts v ≡ Some t → In v ds → type_in (types_in_order new ts ds) (new v) ≡ Some t
order_in new inj ts [] v t h p = elim p [ ]
order_in new inj ts (d ∷ ds) v t h p =
    elim (cases_eq d v) [
      | inl q ↦
          let e : type_in ts d ≡ Some t = ap (type_in ts) q ∙ h in
          ap (λ o. type_in (with_type (new d) o ++ types_in_order new ts ds) (new v)) e ∙ type_hit (new d, t) (types_in_order new ts ds) (new v) (ap new q)
      | inr q ↦ type_append_none (with_type (new d) (type_in ts d)) (types_in_order new ts ds) (new v) (with_off (new d) (new v) (λ z. q (inj d v z)) (type_in ts d)) ∙ order_in new inj ts ds v t h (elim p [ inl z ↦ absurd (q (sym z)) | inr z ↦ z ])
    ]

-- what has a type in that order is a number of the list
pub order_from : (new : ℕ → ℕ) (ts : List (ℕ × Ty)) (ds : List ℕ) (u : ℕ) (t : Ty) → type_in (types_in_order new ts ds) u ≡ Some t → (v : ℕ) × In v ds × (u ≡ new v)
order_from new ts [] u t h = cc
order_from new ts (d ∷ ds) u t h =
    elim (cases_eq (new d) u) [
      | inl q ↦ (d, inl refl, sym q)
      | inr q ↦ let w = order_from new ts ds u t (sym (type_append_none (with_type (new d) (type_in ts d)) (types_in_order new ts ds) u (with_off (new d) u q (type_in ts d))) ∙ h) in (w.0, inr w.1, w.2)
    ]

-- what is not defined has no type
pub undefined : (f : Function) → WellFormed f → (v : ℕ) → (In v (definitions f.blocks) → ⊥) → type_of f v ≡ None
undefined f w v off = by (type_of f v) refl
  where
    by : (o : Option Ty) → type_of f v ≡ o → type_of f v ≡ None
    by None q = q
    by (Some t) q = absurd (off (w.defined v (typed_declared f.types v t q)))

pub canonical_typed : (f : Function) → WellFormed f → (v : ℕ) → type_of (canonical f) ((canonical_names f).value v) ≡ type_of f v
canonical_typed f w v = by (type_of f v) refl
  where
    by : (o : Option Ty) → type_of f v ≡ o → type_of (canonical f) ((canonical_names f).value v) ≡ type_of f v
    by (Some t) q = order_in (number_in (definitions f.blocks)) (place_injective (definitions f.blocks)) f.types (definitions f.blocks) v t q (w.defined v (typed_declared f.types v t q)) ∙ sym q
    by None q = order_off (number_in (definitions f.blocks)) (place_injective (definitions f.blocks)) f.types (definitions f.blocks) v (λ p. let t = has_type f.types v (w.definitions_declared v p) in let z : None ≡ Some t.0 = sym q ∙ t.1 in cc) ∙ sym q
