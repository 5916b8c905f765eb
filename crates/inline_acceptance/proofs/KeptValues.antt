-- Each value of a splice is declared once and defined once.
use Rattle.std.proofs.Common.{◌≡◌, ℕ, zero, suc, ◌≤◌, ◌<◌, ◌+◌, inl, inr, ◌⊎◌, List, [], ◌∷◌, ◌++◌, length, map, Some, refl, sym, ap, ◌∙◌, subst, arith, eq-eqb, ne_eqb}
use Rattle.std.specs.Prelude.{slice_get, if◌then◌else◌}
use Rattle.std.proofs.lemmas.Bool.{cases_eq}
use Rattle.std.proofs.lemmas.List.{map-append}
use Rattle.exn_tables.specs.declared.table.Entry.{Entry}
use Rattle.ir_core.specs.declared.signatures.Ty.{Ty}
use Rattle.ir_core.specs.declared.instructions.BlockCall.{BlockCall}
use Rattle.ir_core.specs.Module.{Module, Function, Branches, Call, Instruction, Line, Block, Plain, Return, ReturnCall, SequencePoint, TryCall, call_target}
use Rattle.ir_core.specs.Lookup.{find_block, signature_of, param_types, definitions, line_definitions, block_numbers}
use Rattle.ir_core.specs.Lists.{In, Each, Different}
use Rattle.ir_core.specs.Uses.{table_targets}
use Rattle.ir_semantics.specs.Accepted.{count_mismatch}
use Rattle.ir_semantics.specs.CountRules.{InstructionCounts, TargetCounts}
use Rattle.ir_semantics.specs.TypeRules.{types_of, each_some}
use Rattle.ir_core.specs.WellFormed.{WellFormed, declared}
use Rattle.ir_core.proofs.Gets.{some_same}
use Rattle.ir_core.proofs.Splitting.{definitions_join}
use Rattle.ir_core.proofs.ByNumber.{in_find}
use Rattle.ir_semantics.specs.Renaming.{Renaming, typed_under, line_under, block_under}
use Rattle.ir_semantics.specs.Splice.{Kind, Last, Splicing, Tries, Within, after_blocks, body, caller_names, callee_names, cut_block, from, jump_in, kind_of, line_types, new_types, new_types_by, spliced, spliced_blocks, typed_results}
use Rattle.ir_semantics.proofs.SafetyPlaces.{some_and}
use Rattle.inline_outcomes.proofs.Places.{find_hit, find_skip}
use Rattle.inline_acceptance.proofs.KeptLists.{get_after}
use Rattle.inline_acceptance.proofs.KeptPaths.{site_get}
use Rattle.inline_acceptance.proofs.KeptSite.{rule_at, facts}
use Rattle.inline_acceptance.proofs.KeptLines.{Setting}
use Rattle.inline_acceptance.proofs.KeptCounts.{count, count_none, count_hit, count_skip, count_append, count_in, none_or_in, different_count, count_map, none_or_map, once_map, same_map, lines_append, lines_under, blocks_under, values, NoResults, empty, result_values, body_given}
use Rattle.inline_acceptance.proofs.Points.{EndsWell, none_first, IsTail, tail_stops, Stops}

-- the values of a whole function are defined as often as they are declared
pub whole_counts : (f : Function) → WellFormed f → (v : ℕ) → count v (definitions f.blocks) ≡ count v (declared f)
whole_counts f w v =
    let a = different_count (definitions f.blocks) w.defined_once v in
    let b = different_count (declared f) w.declared_once v in
    elim (none_or_in v (declared f)) [
      | inl p ↦
          elim (none_or_in v (definitions f.blocks)) [
            | inl q ↦ q ∙ sym p
            | inr q ↦ let c = count_in v (declared f) (w.definitions_declared v q) in absurd (omega (arith, p, c))
          ]
      | inr p ↦ let c = count_in v (definitions f.blocks) (w.defined v p) in let d = count_in v (declared f) p in omega (arith, a, b, c, d)
    ]

-- some lines give no results
pub no_results : (f : Function) (l : Line) (i : Instruction) → InstructionCounts f l i → NoResults i l
no_results f l (Return vs) h = h.0
no_results f l (ReturnCall t args) h = (some_and (signature_of f t) (λ s. (length args ≡ length s.params) × ((length l.results ≡ 0) × (length s.results ≡ length f.sig.results))) h).2.1.0
no_results f l (TryCall t sig args normal table) h =
    (some_and (signature_of f (call_target t sig)) (λ s. (length args ≡ length s.params) × ((length l.results ≡ 0) × Each (TargetCounts f (Some (length s.results))) (normal ∷ table_targets table))) h).2.1.0
no_results f l (Plain p) h = tt
no_results f l (Branches p) h = tt
no_results f l SequencePoint h = tt
no_results f l (Call p a) h = tt

under_values : (r : Renaming) (ts : List (ℕ × Ty)) → values (map (typed_under r) ts) ≡ map r.value (values ts)
under_values r [] = refl
under_values r (t ∷ ts) = ap (λ z. r.value t.0 ∷ z) (under_values r ts)

-- numbers from i on are different
from_before : (i n u : ℕ) → u < i → count u (from i n) ≡ 0
from_before i zero u h = count_none u
from_before i (suc n) u h = let a = count_skip u i (from (suc i) n) (λ q. omega (arith, q, h)) in a ∙ from_before (suc i) n u (omega (arith, h))

from_once : (i n u : ℕ) → count u (from i n) ≤ 1
from_once i zero u = let e = count_none u in omega (arith, e)
from_once i (suc n) u =
    elim (cases_eq i u) [
      | inl q ↦ let a = count_hit u i (from (suc i) n) q in let b = from_before (suc i) n u (omega (arith, q)) in omega (arith, a, b)
      | inr q ↦ let a = count_skip u i (from (suc i) n) q in let b = from_once (suc i) n u in omega (arith, a, b)
    ]

module _ (m : Module) (S : Splicing) (E : Setting m S) (u : ℕ) where
  site_typed : kind_of S.site.inst ≡ Within → types_of S.caller S.site.results ≡ each_some (param_types S.callee.sig.results)
  site_typed kind = facts m S E.site E.f_accepted Within kind

  callee_results : (b : Block) → In b S.callee.blocks → (s : ℕ) (l : Line) → slice_get b.lines s ≡ Some l → NoResults l.inst l
  callee_results b p s l get = no_results S.callee l l.inst (rule_at m S.callee E.g_accepted b.number b s l (in_find b S.callee.blocks E.g_ok.numbers p) get count_mismatch)

  body_counts : count u (definitions (body S S.callee.blocks)) ≡ count u (map S.naming.callee_value (definitions S.callee.blocks)) + count u (values (new_types S S.callee.blocks))
  body_counts = body_given S E.names E.news (param_types S.callee.sig.results) site_typed u S.callee.blocks callee_results

  -- nothing stands behind a site that ends its block
  behind_none : Stops S.site.inst → S.behind ≡ []
  behind_none stop =
      let e = (E.f_ok.ends S.at E.site.block (length S.before) S.site E.site.block_found (site_get m S E.names E.site E.f_ok E.g_ok)).stops stop in
      let z : suc (length S.before) ≡ suc (length S.before + 0) = omega arith in
      none_first S.behind (sym (get_after S.before S.site S.behind 0) ∙ ap (λ ls. slice_get ls (suc (length S.before + 0))) (sym E.site.lines) ∙ ap (slice_get E.site.block.lines) (sym z) ∙ e)

  last_stops : (i : Instruction) → kind_of i ≡ Last → Stops i
  last_stops (ReturnCall a b) h = refl
  last_stops (Plain a) h = cc
  last_stops (Branches a) h = cc
  last_stops SequencePoint h = cc
  last_stops (Return a) h = cc
  last_stops (Call a b) h = cc
  last_stops (TryCall a b c d e) h = cc

  tries_stops : (normal : BlockCall) (table : List (Entry BlockCall)) (i : Instruction) → kind_of i ≡ Tries normal table → Stops i
  tries_stops normal table (TryCall a b c d e) h = refl
  tries_stops normal table (ReturnCall a b) h = cc
  tries_stops normal table (Plain a) h = cc
  tries_stops normal table (Branches a) h = cc
  tries_stops normal table SequencePoint h = cc
  tries_stops normal table (Return a) h = cc
  tries_stops normal table (Call a b) h = cc

  no_more : length S.site.results ≡ 0 → S.behind ≡ [] → 0 ≡ count u (map S.naming.caller_value S.site.results) + count u (map S.naming.caller_value (line_definitions S.behind))
  no_more r b =
      let x = ap (λ z. count u (map S.naming.caller_value z)) (empty S.site.results r) ∙ count_none u in
      let y = ap (λ z. count u (map S.naming.caller_value (line_definitions z))) b ∙ count_none u in omega (arith, x, y)

  after_counts : (k : Kind) → kind_of S.site.inst ≡ k → count u (definitions (after_blocks S k)) ≡ count u (map S.naming.caller_value S.site.results) + count u (map S.naming.caller_value (line_definitions S.behind))
  after_counts Within kind =
      let ls = line_definitions (map (line_under (caller_names S)) S.behind) in
      let a = count_append u (map S.naming.caller_value S.site.results) (ls ++ []) in
      let b = count_append u ls [] in
      let c = count_none u in
      let d = ap (count u) (lines_under (caller_names S) S.behind) in omega (arith, a, b, c, d)
  after_counts Last kind = let fs = facts m S E.site E.f_accepted Last kind in count_none u ∙ no_more fs.results (behind_none (last_stops S.site.inst kind))
  after_counts (Tries normal table) kind = let fs = facts m S E.site E.f_accepted (Tries normal table) kind in count_none u ∙ no_more fs.results (behind_none (tries_stops normal table S.site.inst kind))

  spliced_counts : (bs : List Block) → find_block S.at bs ≡ Some E.site.block → count u (definitions (spliced_blocks S bs)) ≡ count u (map S.naming.caller_value (definitions bs)) + (count u (map S.naming.callee_value (definitions S.callee.blocks)) + count u (values (new_types S S.callee.blocks)))
  spliced_counts [] h = cc
  spliced_counts (b ∷ bs) h = elim (cases_eq b.number S.at) [ inl q ↦ ap (λ z. count u (definitions z)) (is_cut q) ∙ at_cut (some_same (sym (find_hit S.at b bs q) ∙ h)) | inr q ↦ ap (λ z. count u (definitions z)) (is_whole q) ∙ beyond (spliced_counts bs (sym (find_skip S.at b bs q) ∙ h)) ]
    where
      is_cut : b.number ≡ S.at → spliced_blocks S (b ∷ bs) ≡ cut_block S b ∷ (body S S.callee.blocks ++ (after_blocks S (kind_of S.site.inst) ++ map (block_under (caller_names S)) bs))
      is_cut q = ap (λ c. if c then cut_block S b ∷ (body S S.callee.blocks ++ (after_blocks S (kind_of S.site.inst) ++ map (block_under (caller_names S)) bs)) else block_under (caller_names S) b ∷ spliced_blocks S bs) (eq-eqb b.number S.at q)

      is_whole : (b.number ≡ S.at → ⊥) → spliced_blocks S (b ∷ bs) ≡ block_under (caller_names S) b ∷ spliced_blocks S bs
      is_whole q = ap (λ c. if c then cut_block S b ∷ (body S S.callee.blocks ++ (after_blocks S (kind_of S.site.inst) ++ map (block_under (caller_names S)) bs)) else block_under (caller_names S) b ∷ spliced_blocks S bs) (ne_eqb b.number S.at q)

      -- what b and the further blocks define
      from_b : count u (map S.naming.caller_value (definitions (b ∷ bs))) ≡ count u (map S.naming.caller_value b.params) + (count u (map S.naming.caller_value (line_definitions b.lines)) + count u (map S.naming.caller_value (definitions bs)))
      from_b =
          let x = ap (count u) (map-append S.naming.caller_value b.params (line_definitions b.lines ++ definitions bs)) ∙ count_append u (map S.naming.caller_value b.params) (map S.naming.caller_value (line_definitions b.lines ++ definitions bs)) in
          let y = ap (count u) (map-append S.naming.caller_value (line_definitions b.lines) (definitions bs)) ∙ count_append u (map S.naming.caller_value (line_definitions b.lines)) (map S.naming.caller_value (definitions bs)) in omega (arith, x, y)

      beyond : count u (definitions (spliced_blocks S bs)) ≡ count u (map S.naming.caller_value (definitions bs)) + (count u (map S.naming.callee_value (definitions S.callee.blocks)) + count u (values (new_types S S.callee.blocks))) → count u (definitions (block_under (caller_names S) b ∷ spliced_blocks S bs)) ≡ count u (map S.naming.caller_value (definitions (b ∷ bs))) + (count u (map S.naming.callee_value (definitions S.callee.blocks)) + count u (values (new_types S S.callee.blocks)))
      beyond ih =
          let ls = line_definitions (map (line_under (caller_names S)) b.lines) in
          let x = count_append u (map S.naming.caller_value b.params) (ls ++ definitions (spliced_blocks S bs)) in
          let y = count_append u ls (definitions (spliced_blocks S bs)) in
          let z = ap (count u) (lines_under (caller_names S) b.lines) in
          let w = from_b in omega (arith, ih, x, y, z, w)

      -- the lines of the block of the site
      site_lines : b ≡ E.site.block → count u (map S.naming.caller_value (line_definitions b.lines)) ≡ count u (map S.naming.caller_value (line_definitions S.before)) + (count u (map S.naming.caller_value S.site.results) + count u (map S.naming.caller_value (line_definitions S.behind)))
      site_lines e =
          let r = caller_names S in
          let l1 = ap (λ z. count u (map S.naming.caller_value (line_definitions z))) (ap (λ z. z.lines) e ∙ E.site.lines) in
          let l2 = ap (count u) (sym (lines_under r (S.before ++ (S.site ∷ S.behind)))) in
          let l3 = ap (λ z. count u (line_definitions z)) (map-append (line_under r) S.before (S.site ∷ S.behind)) in
          let l4 = lines_append u (map (line_under r) S.before) (map (line_under r) (S.site ∷ S.behind)) in
          let l5 = ap (count u) (lines_under r S.before) in
          let l6 = count_append u (map S.naming.caller_value S.site.results) (line_definitions (map (line_under r) S.behind)) in
          let l7 = ap (count u) (lines_under r S.behind) in omega (arith, l1, l2, l3, l4, l5, l6, l7)

      at_cut : b ≡ E.site.block → count u (definitions (cut_block S b ∷ (body S S.callee.blocks ++ (after_blocks S (kind_of S.site.inst) ++ map (block_under (caller_names S)) bs)))) ≡ count u (map S.naming.caller_value (definitions (b ∷ bs))) + (count u (map S.naming.callee_value (definitions S.callee.blocks)) + count u (values (new_types S S.callee.blocks)))
      at_cut e =
          let r = caller_names S in
          let B = body S S.callee.blocks in
          let A = after_blocks S (kind_of S.site.inst) in
          let C = map (block_under r) bs in
          let ls = line_definitions (map (line_under r) S.before ++ (jump_in S ∷ [])) in
          let x1 = count_append u (map S.naming.caller_value b.params) (ls ++ definitions (B ++ (A ++ C))) in
          let x2 = count_append u ls (definitions (B ++ (A ++ C))) in
          let x3 = lines_append u (map (line_under r) S.before) (jump_in S ∷ []) in
          let x4 = ap (count u) (lines_under r S.before) in
          let x5 = ap (count u) (definitions_join B (A ++ C)) ∙ count_append u (definitions B) (definitions (A ++ C)) in
          let x6 = ap (count u) (definitions_join A C) ∙ count_append u (definitions A) (definitions C) in
          let x7 = ap (count u) (blocks_under r bs) in
          let x8 = body_counts in
          let x9 = after_counts (kind_of S.site.inst) refl in
          let y1 = count_none u in
          let y2 = site_lines e in
          let y3 = from_b in omega (arith, x1, x2, x3, x4, x5, x6, x7, x8, x9, y1, y2, y3)

  -- ---- what is declared

  declared_counts : count u (declared (spliced S)) ≡ count u (map S.naming.caller_value (declared S.caller)) + (count u (map S.naming.callee_value (declared S.callee)) + count u (values (new_types S S.callee.blocks)))
  declared_counts =
      let F = map (typed_under (caller_names S)) S.caller.types in
      let G = map (typed_under (callee_names S)) S.callee.types in
      let N = new_types S S.callee.blocks in
      let a = ap (count u) (map-append (λ (x : ℕ × Ty). x.0) F (G ++ N)) ∙ count_append u (values F) (values (G ++ N)) in
      let b = ap (count u) (map-append (λ (x : ℕ × Ty). x.0) G N) ∙ count_append u (values G) (values N) in
      let c = ap (count u) (under_values (caller_names S) S.caller.types) in
      let d = ap (count u) (under_values (callee_names S) S.callee.types) in omega (arith, a, b, c, d)

  pub out_counts : count u (definitions (spliced S).blocks) ≡ count u (declared (spliced S))
  out_counts =
      let a = spliced_counts S.caller.blocks E.site.block_found in
      let b = same_map S.naming.caller_value E.names.caller_value (definitions S.caller.blocks) (declared S.caller) (whole_counts S.caller E.f_whole) u in
      let c = same_map S.naming.callee_value E.names.callee_value (definitions S.callee.blocks) (declared S.callee) (whole_counts S.callee E.g_whole) u in
      let d = declared_counts in omega (arith, a, b, c, d)

  -- ---- new values are declared once

  abbrev NewIn : ℕ → Type 0
  NewIn c = (i : ℕ) × (u ≡ S.naming.new_value c i)

  typed_once : kind_of S.site.inst ≡ Within → (c : ℕ) → (count u (values (typed_results S c 0 S.site.results)) ≤ 1) × ((count u (values (typed_results S c 0 S.site.results)) ≡ 0) ⊎ NewIn c)
  typed_once kind c =
      let e = ap (count u) (result_values S E.names E.news c 0 S.site.results (param_types S.callee.sig.results) (site_typed kind)) in
      elim (none_or_map (S.naming.new_value c) u (from 0 (length S.site.results))) [
        | inl q ↦ (omega (arith, e, q), inl (e ∙ q))
        | inr w ↦
            let a : count u (map (S.naming.new_value c) (from 0 (length S.site.results))) ≡ count w.0 (from 0 (length S.site.results)) = ap (λ z. count z (map (S.naming.new_value c) (from 0 (length S.site.results)))) w.2 ∙ count_map_new c w.0 (from 0 (length S.site.results)) in
            let b = from_once 0 (length S.site.results) w.0 in
            (omega (arith, e, a, b), inr (w.0, w.2))
      ]
    where
      count_map_new : (c i : ℕ) (xs : List ℕ) → count (S.naming.new_value c i) (map (S.naming.new_value c) xs) ≡ count i xs
      count_map_new c i xs = count_map (S.naming.new_value c) (λ a b p. (E.news.new_value c a c b p).1) i xs

  by_kind : (k : Kind) → kind_of S.site.inst ≡ k → (c : ℕ) (i : Instruction) → (count u (values (new_types_by S c k i)) ≤ 1) × ((count u (values (new_types_by S c k i)) ≡ 0) ⊎ (NewIn c × IsTail i))
  by_kind Within kind c (ReturnCall t args) = let r = typed_once kind c in (r.0, elim r.1 [ inl q ↦ inl q | inr q ↦ inr (q, tt) ])
  by_kind Within kind c (Plain p) = let e = count_none u in (omega (arith, e), inl e)
  by_kind Within kind c (Branches p) = let e = count_none u in (omega (arith, e), inl e)
  by_kind Within kind c SequencePoint = let e = count_none u in (omega (arith, e), inl e)
  by_kind Within kind c (Return p) = let e = count_none u in (omega (arith, e), inl e)
  by_kind Within kind c (Call p a) = let e = count_none u in (omega (arith, e), inl e)
  by_kind Within kind c (TryCall p a b d f) = let e = count_none u in (omega (arith, e), inl e)
  by_kind Last kind c i = let e = count_none u in (omega (arith, e), inl e)
  by_kind (Tries normal table) kind c i = let e = count_none u in (omega (arith, e), inl e)

  lines_once : (c : ℕ) (ls : List Line) → EndsWell ls → (count u (values (line_types S c ls)) ≤ 1) × ((count u (values (line_types S c ls)) ≡ 0) ⊎ NewIn c)
  lines_once c [] ends = let e = count_none u in (omega (arith, e), inl e)
  lines_once c (i ∷ is) ends =
      let ih = lines_once c is (λ j k q. ends (suc j) k q) in
      let now = by_kind (kind_of S.site.inst) refl c i.inst in
      let T = new_types_by S c (kind_of S.site.inst) i.inst in
      let a = ap (count u) (map-append (λ (x : ℕ × Ty). x.0) T (line_types S c is)) ∙ count_append u (values T) (values (line_types S c is)) in
      elim now.1 [
        | inl z ↦ (let b = ih.0 in omega (arith, a, z, b), elim ih.1 [ inl q ↦ inl (omega (arith, a, z, q)) | inr q ↦ inr q ])
        | inr w ↦
            let e = none_first is ((ends 0 i refl).stops (tail_stops i.inst w.1)) in
            let b = ap (λ z. count u (values (line_types S c z))) e ∙ count_none u in
            let d = now.0 in
            (omega (arith, a, b, d), inr w.0)
      ]

  news_once : (gs : List Block) → Different (block_numbers gs) → ((b : Block) → In b gs → EndsWell b.lines) → (count u (values (new_types S gs)) ≤ 1) × ((count u (values (new_types S gs)) ≡ 0) ⊎ ((c : ℕ) × In c (block_numbers gs) × (i : ℕ) × (u ≡ S.naming.new_value c i)))
  news_once [] d ends = let e = count_none u in (omega (arith, e), inl e)
  news_once (b ∷ gs) d ends =
      let ih = news_once gs d.1 (λ k p. ends k (inr p)) in
      let now = lines_once b.number b.lines (ends b (inl refl)) in
      let a = ap (count u) (map-append (λ (x : ℕ × Ty). x.0) (line_types S b.number b.lines) (new_types S gs)) ∙ count_append u (values (line_types S b.number b.lines)) (values (new_types S gs)) in
      elim now.1 [
        | inl z ↦ (let y = ih.0 in omega (arith, a, z, y), elim ih.1 [ inl q ↦ inl (omega (arith, a, z, q)) | inr q ↦ inr (q.0, inr q.1, q.2, q.3) ])
        | inr w ↦
            elim ih.1 [
              | inl q ↦ (let y = now.0 in omega (arith, a, q, y), inr (b.number, inl refl, w.0, w.1))
              | inr q ↦ let e = (E.news.new_value b.number w.0 q.0 q.2 (sym w.1 ∙ q.3)).0 in absurd (d.0 (subst (λ z. In z (block_numbers gs)) (sym e) q.1))
            ]
      ]

  pub declared_once : count u (declared (spliced S)) ≤ 1
  declared_once =
      let a = declared_counts in
      let f1 = once_map S.naming.caller_value E.names.caller_value (declared S.caller) E.f_whole.declared_once u in
      let g1 = once_map S.naming.callee_value E.names.callee_value (declared S.callee) E.g_whole.declared_once u in
      let n1 = news_once S.callee.blocks E.g_ok.numbers (λ b p j l q. E.g_ok.ends b.number b j l (in_find b S.callee.blocks E.g_ok.numbers p) q) in
      let n2 = n1.0 in
      elim (none_or_map S.naming.caller_value u (declared S.caller)) [
        | inl f0 ↦
            elim (none_or_map S.naming.callee_value u (declared S.callee)) [
              | inl g0 ↦ omega (arith, a, f0, g0, n2)
              | inr g0 ↦ elim n1.1 [ inl n0 ↦ omega (arith, a, f0, g1, n0) | inr n0 ↦ absurd (E.news.callee_new g0.0 n0.0 n0.2 (sym g0.2 ∙ n0.3)) ]
            ]
        | inr f0 ↦
            elim (none_or_map S.naming.callee_value u (declared S.callee)) [
              | inl g0 ↦ elim n1.1 [ inl n0 ↦ omega (arith, a, f1, g0, n0) | inr n0 ↦ absurd (E.names.value_new f0.0 n0.0 n0.2 (sym f0.2 ∙ n0.3)) ]
              | inr g0 ↦ absurd (E.names.values f0.0 g0.0 (sym f0.2 ∙ g0.2))
            ]
      ]
