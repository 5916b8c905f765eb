-- A function finished with bodies that are the finished ones up to numbering is the finished one up to numbering: the
-- loop over its sites, with one body beside the other.
use Rattle.std.proofs.Common.{◌≡◌, ◌⊎◌, ℕ, zero, suc, ◌+◌, ◌*◌, ◌-◌, inl, inr, List, [], ◌∷◌, ◌++◌, map, take, drop, Option, Some, None, Bool, true, false, ◌&&◌, nat_lt, nat_eq, refl, sym, ap, ap₂, ◌∙◌, subst, eq-eqb, ne_eqb}
use Rattle.std.specs.Prelude.{slice_get, if◌then◌else◌, nat_le}
use Rattle.std.proofs.lemmas.Bool.{cases_eq}
use Rattle.std.proofs.lemmas.List.{map-append}
use Rattle.ir_core.specs.declared.names.FuncName.{FuncName}
use Rattle.ir_core.specs.declared.declarations.Callee.{Callee}
use Rattle.ir_core.specs.declared.signatures.Sig.{Sig}
use Rattle.ir_core.specs.Module.{Line, Block, Function, Module}
use Rattle.ir_core.specs.Lookup.{and_then, find_block, find_function, block_numbers}
use Rattle.ir_core.specs.Lists.{In, Different}
use Rattle.ir_core.specs.Uses.{callee_of}
use Rattle.ir_core.specs.WellFormed.{WellFormed, IsModule}
use Rattle.ir_semantics.specs.Accepted.{Accepted, signature_mismatch}
use Rattle.ir_core.specs.declared.places.Item.TheVariants as item
use Rattle.ir_semantics.specs.Canon.{SameFunction}
use Rattle.ir_semantics.specs.Import.{sigs_after, callees_with, callees_after, same_callee}
use Rattle.ir_semantics.specs.Renaming.{Renaming, line_under, block_under}
use Rattle.ir_semantics.specs.Splice.{Splicing, Kind, Within, Last, Tries, kind_of, after_block, after_blocks, body, caller_names, sides, spliced, splice_with}
use Rattle.ir_semantics.proofs.SafetyPlaces.{function_in}
use Rattle.ir_semantics.proofs.SafetyTypes.{then_some}
use Rattle.inline_outcomes.specs.Stands.{Stands}
use Rattle.inline_outcomes.proofs.Related.{Distinct}
use Rattle.inline_outcomes.proofs.Linking.{distinct_sides, after_is}
use Rattle.inline_outcomes.proofs.Merging.{own_sig, other_sig}
use Rattle.inline_outcomes.proofs.Numbering.{function_map}
use Rattle.inline_outcomes.proofs.Places.{find_hit, find_skip, append_none, g_off, after_cut, f_found}
use Rattle.inline_acceptance.specs.Alone.{CallSite}
use Rattle.inline_acceptance.proofs.Alone.{Free, free_of, free_same, splice_free}
use Rattle.inline_acceptance.proofs.KeptFunctions.{in_items, in_with}
use Rattle.inline_numbering.specs.Renamed.{Renamed}
use Rattle.inline_numbering.specs.Carried.{Carries, SiteUnder, splicing_under}
use Rattle.inline_numbering.proofs.Carried.{kind_under, kind_same}
use Rattle.inline_numbering.proofs.Same.{blocks_number, by_way, way_renamed, renamed_is_same, renamed_itself}
use Rattle.inline_numbering.proofs.Sides.{joined, sides_carry}
use Rattle.inline_numbering.proofs.Sizes.{size_renamed}
use Rattle.inline_numbering.proofs.Typed.{same_before}
use Rattle.inline_numbering.proofs.Places as points
use Rattle.call_graph.specs.Reach.{apart}
use Rattle.inline_pass.specs.Policy.{Policy, takes}
use Rattle.inline_pass.specs.Sites.{Point, own_sites, point_behind, called}
use Rattle.inline_pass.specs.Finished.{inline_by, finish_by, body_of, finished, finished_body, passed}
use Rattle.inline_pass.specs.Inlined.{inlined_by, inlined_with, inlined}
use Rattle.inline_pass.specs.OtherBodies.{SameBody, FinishedRespectNumbers}
use Rattle.inline_pass.proofs.Steps.{own_names}
use Rattle.inline_pass.proofs.Going.{callee_stays}
use Rattle.inline_pass.proofs.Passing.{Found, found, at_place, splice_is}
use Rattle.inline_pass.proofs.Tracking.{f_none, ren_off}
use Rattle.inline_pass.proofs.Finishing.{finished_equation}
use Rattle.inline_pass.proofs.InOrder.{finished_named, finished_signed}
use Rattle.inline_pass.proofs.Preserving.{finished_accepted}
use Rattle.ir_core.proofs.Cutting.{cut_list}
use Rattle.ir_core.proofs.Gets.{some_same, in_get, get_in}
use Rattle.ir_core.proofs.Members.{in_or_not, each_in}
use Rattle.ir_core.proofs.ByNumber.{found_number}

-- ---- blocks that are there or not

no_block : (x : ℕ) (bs : List Block) → (In x (block_numbers bs) → ⊥) → find_block x bs ≡ None
no_block x [] off = refl
no_block x (b ∷ bs) off = find_skip x b bs (λ e. off (inl (sym e))) ∙ no_block x bs (λ i. off (inr i))

not_in : (x : ℕ) (bs : List Block) → find_block x bs ≡ None → In x (block_numbers bs) → ⊥
not_in x [] h i = elim i [ ]
not_in x (b ∷ bs) h i =
    elim (cases_eq b.number x) [
      | inl e ↦ let z : Some b ≡ None = sym (find_hit x b bs e) ∙ h in cc
      | inr e ↦ elim i [ inl q ↦ e (sym q) | inr q ↦ not_in x bs (sym (find_skip x b bs e) ∙ h) q ]
    ]

-- ---- what is called at points that correspond

-- the line j of a block of b, and that of the block that it is in c; or of no block in either
record Beside (b c : Function) (r : Renaming) (q q' : Point) : Type 0 where
  line : q'.1 ≡ q.1
  block : (In q.0 (block_numbers b.blocks) × (r.block q.0 ≡ q'.0)) ⊎ ((In q.0 (block_numbers b.blocks) → ⊥) × (In q'.0 (block_numbers c.blocks) → ⊥))

module _ (b c : Function) (r : Renaming) (same : Renamed r b c) where
  at_line : (ls : List Line) (i : ℕ) → and_then (slice_get (map (line_under r) ls) i) (λ l. and_then (callee_of l.inst) (λ j. and_then (slice_get c.callees j) (λ d. Some d.name))) ≡ and_then (slice_get ls i) (λ l. and_then (callee_of l.inst) (λ j. and_then (slice_get b.callees j) (λ d. Some d.name)))
  at_line [] i = refl
  at_line (l ∷ ls) zero = ap₂ (λ (o : Option ℕ) (ds : List Callee). and_then o (λ j. and_then (slice_get ds j) (λ d. Some d.name))) (callee_stays r same.callee l.inst) same.callees
  at_line (l ∷ ls) (suc i) = at_line ls i

  differ : Different (block_numbers c.blocks) → Different (map r.block (block_numbers b.blocks))
  differ d = subst Different (ap block_numbers same.blocks ∙ blocks_number r b.blocks) d

  called_beside : Different (block_numbers c.blocks) → (q q' : Point) → Beside b c r q q' → called c q'.0 q'.1 ≡ called b q.0 q.1
  called_beside d q q' e = ap (called c q'.0) e.line ∙ by e.block
    where
      by : (In q.0 (block_numbers b.blocks) × (r.block q.0 ≡ q'.0)) ⊎ ((In q.0 (block_numbers b.blocks) → ⊥) × (In q'.0 (block_numbers c.blocks) → ⊥)) → called c q'.0 q.1 ≡ called b q.0 q.1
      by (inl (i, to)) =
          let t = points.find_under r b.blocks q.0 (differ d) i in
          let there : find_block q'.0 c.blocks ≡ Some (block_under r t.0) = ap₂ find_block (sym to) same.blocks ∙ t.2 in
          ap (λ o. and_then o (λ k. and_then (slice_get k.lines q.1) (λ l. and_then (callee_of l.inst) (λ j. and_then (slice_get c.callees j) (λ d. Some d.name))))) there
          ∙ (at_line t.0.lines q.1
          ∙ ap (λ o. and_then o (λ k. and_then (slice_get k.lines q.1) (λ l. and_then (callee_of l.inst) (λ j. and_then (slice_get b.callees j) (λ d. Some d.name))))) (sym t.1))
      by (inr (off, off')) =
          ap (λ o. and_then o (λ k. and_then (slice_get k.lines q.1) (λ l. and_then (callee_of l.inst) (λ j. and_then (slice_get c.callees j) (λ d. Some d.name))))) (no_block q'.0 c.blocks off')
          ∙ ap (λ o. and_then o (λ k. and_then (slice_get k.lines q.1) (λ l. and_then (callee_of l.inst) (λ j. and_then (slice_get b.callees j) (λ d. Some d.name))))) (sym (no_block q.0 b.blocks off))

-- ---- blocks of a splice

-- behind the body there is a block exactly at a plain call
after_none : (S : Splicing) → Distinct S.naming → (k : Block) → find_block S.at S.caller.blocks ≡ Some k → (kind_of S.site.inst ≡ Within → ⊥) → find_block S.naming.after (spliced S).blocks ≡ None
after_none S names k there off =
    let r = after_cut S names S.naming.after names.caller_after S.caller.blocks k there in
    r.1 ∙ (append_none S.naming.after (body S S.callee.blocks) _ (g_off S names S.naming.after names.callee_after names.new_after S.callee.blocks) ∙ by (kind_of S.site.inst) r.0 off)
  where
    by : (z : Kind) (tail : List Block) → (z ≡ Within → ⊥) → find_block S.naming.after (after_blocks S z ++ map (block_under (caller_names S)) tail) ≡ None
    by Within tail not_it = absurd (not_it refl)
    by Last tail not_it = ren_off S names S.naming.after names.caller_after tail
    by (Tries normal table) tail not_it = ren_off S names S.naming.after names.caller_after tail

within_or_not : (z : Kind) → (z ≡ Within) ⊎ (z ≡ Within → ⊥)
within_or_not Within = inl refl
within_or_not Last = inr (λ e. cc)
within_or_not (Tries normal table) = inr (λ e. cc)

pub kind_back : (r : Renaming) (z : Kind) → kind_under r z ≡ Within → z ≡ Within
kind_back r Within e = refl
kind_back r Last e = cc
kind_back r (Tries normal table) e = cc

-- a block of the caller stays one
pub own_there : (S : Splicing) → Distinct S.naming → Stands S → (x : ℕ) → In x (block_numbers S.caller.blocks) → In (S.naming.caller_block x) (block_numbers (spliced S).blocks)
own_there S names stands x i =
    let k = block_found x S.caller.blocks i in
    let r = f_found S names S.caller.blocks stands.block stands.block_found stands.lines x k.0 k.1 in
    found_number (S.naming.caller_block x) (spliced S).blocks r.0 r.1
  where
    block_found : (x : ℕ) (bs : List Block) → In x (block_numbers bs) → (k : Block) × (find_block x bs ≡ Some k)
    block_found x [] i = elim i [ ]
    block_found x (b ∷ bs) i =
        elim (cases_eq b.number x) [
          | inl e ↦ (b, find_hit x b bs e)
          | inr e ↦ let t = block_found x bs (elim i [ inl q ↦ absurd (e (sym q)) | inr q ↦ q ]) in (t.0, find_skip x b bs e ∙ t.1)
        ]

own_not_there : (S : Splicing) → Distinct S.naming → (x : ℕ) → (In x (block_numbers S.caller.blocks) → ⊥) → In (S.naming.caller_block x) (block_numbers (spliced S).blocks) → ⊥
own_not_there S names x off = not_in (S.naming.caller_block x) (spliced S).blocks (f_none S names S.caller.blocks x (no_block x S.caller.blocks off))

-- ---- one more body on both sides

module _ (b c g h : Function) (r : Renaming) (rb : Renamed r b c) (fb : Free b) (fc : Free c) (gh : SameFunction g h) (fg : Free g) (at i : ℕ) (y : FuncName) (f : Found b at i y) (sig : slice_get b.sigs f.callee.sig ≡ Some g.sig) where
  fh : Free h
  fh = free_same g h gh fg

  abbrev s : Renaming
  s = by_way g h

  rg : Renamed s g h
  rg = way_renamed g h gh

  abbrev p : Splicing
  p = at_place b g at i y f

  abbrev q : Splicing
  q = splicing_under r sides c h p

  abbrev t : Renaming
  t = joined r s sides

  carry : Carries t r s sides sides b c g h
  carry = sides_carry r s sides b c g h rb rg fg.whole

  at_in : In at (block_numbers b.blocks)
  at_in = found_number at b.blocks f.block f.found

  numbers : Different (map r.block (block_numbers b.blocks))
  numbers = differ b c r rb fc.whole.blocks

  pub other_found : find_block (r.block at) c.blocks ≡ Some (block_under r f.block)
  other_found =
      let u = points.find_under r b.blocks at numbers at_in in
      let e : u.0 ≡ f.block = some_same (sym u.1 ∙ f.found) in
      ap (find_block (r.block at)) rb.blocks ∙ (u.2 ∙ ap (λ k. Some (block_under r k)) e)

  cut : f.block.lines ≡ take i f.block.lines ++ (f.line ∷ drop (suc i) f.block.lines)
  cut = cut_list f.block.lines i f.line f.get

  pub stands_b : Stands p
  stands_b = record { block = f.block; block_found = f.found; lines = cut }

  stands_c : Stands q
  stands_c = record { block = block_under r f.block; block_found = other_found; lines = ap (map (line_under r)) cut ∙ map-append (line_under r) (take i f.block.lines) (f.line ∷ drop (suc i) f.block.lines) }

  pub site : SiteUnder r s p c h
  site = record { stands = stands_b; caller = rb; callee = rg; caller_whole = fb.whole; caller_after_whole = fc.whole; callee_whole = fg.whole; callee_after_whole = fh.whole }

  b_is : splice_with sides b at i g ≡ spliced p
  b_is = splice_is b g at i y f

  c_is : splice_with sides c (r.block at) i h ≡ spliced q
  c_is = points.under_is r s sides b c g h rb rg fb.whole fc.whole fg.whole fh.whole at i at_in f.block f.found other_found f.line f.get

  call_b : CallSite p
  call_b = record { block = f.block; block_found = f.found; lines = cut; callee = f.index; is_call = f.is; declared = f.callee; declared_found = f.has; signature = sig }

  call_c : CallSite q
  unfolding stands_c
  call_c =
      record {
        block = block_under r f.block;
        block_found = other_found;
        lines = stands_c.lines;
        callee = f.index;
        is_call = callee_stays r rb.callee f.line.inst ∙ f.is;
        declared = f.callee;
        declared_found = ap (λ (ds : List Callee). slice_get ds f.index) rb.callees ∙ f.has;
        signature = ap (λ (ss : List Sig). slice_get ss f.callee.sig) rb.sigs ∙ (sig ∙ ap (λ z. Some z) (sym rg.sig));
      }

  pub free_b : Free (spliced p)
  free_b = splice_free p refl call_b fb fg

  free_c : Free (spliced q)
  free_c = splice_free q refl call_c fc fh

  renamed : Renamed t (spliced p) (spliced q)
  renamed = points.splice_renamed t r s p sides c h carry site free_b.whole free_c.whole

  takes_same : (policy : Policy) → takes policy h (spliced q) ≡ takes policy g (spliced p)
  takes_same policy = ap₂ (λ x z. nat_le x policy.callee_size && nat_le z policy.caller_size) (size_renamed s g h rg) (size_renamed t (spliced p) (spliced q) renamed)

  -- ---- where points go

  abbrev Where : (x x' : ℕ) → Type 0
  Where x x' = (In x (block_numbers (spliced p).blocks) × (t.block x ≡ x')) ⊎ ((In x (block_numbers (spliced p).blocks) → ⊥) × (In x' (block_numbers (spliced q).blocks) → ⊥))

  behind_body : Where 2 2
  behind_body =
      elim (within_or_not (kind_of f.line.inst)) [
        | inl e ↦ inl (found_number 2 (spliced p).blocks (after_block p) (after_is p distinct_sides stands_b e), carry.after)
        | inr not_it ↦ inr (
          not_in 2 (spliced p).blocks (after_none p distinct_sides f.block f.found not_it),
          not_in 2 (spliced q).blocks (after_none q distinct_sides (block_under r f.block) other_found (λ e. not_it (kind_back r (kind_of f.line.inst) (sym (kind_same r f.line.inst) ∙ e)))),
        )
      ]

  before_body : (x x' : ℕ) → (In x (block_numbers b.blocks) × (r.block x ≡ x')) ⊎ ((In x (block_numbers b.blocks) → ⊥) × (In x' (block_numbers c.blocks) → ⊥)) → Where (3 * x) (3 * x')
  before_body x x' (inl (j, to)) = inl (own_there p distinct_sides stands_b x j, carry.caller_block x ∙ ap (λ z. 3 * z) to)
  before_body x x' (inr (off, off')) = inr (own_not_there p distinct_sides x off, own_not_there q distinct_sides x' off')

  at_same : (x x' : ℕ) → (In x (block_numbers b.blocks) × (r.block x ≡ x')) ⊎ ((In x (block_numbers b.blocks) → ⊥) × (In x' (block_numbers c.blocks) → ⊥)) → nat_eq x' (r.block at) ≡ nat_eq x at
  at_same x x' (inl (j, to)) =
      elim (cases_eq x at) [
        | inl e ↦ eq-eqb x' (r.block at) (sym to ∙ ap r.block e) ∙ sym (eq-eqb x at e)
        | inr apart_from ↦ ne_eqb x' (r.block at) (λ e. apart_from (same_before r.block (block_numbers b.blocks) numbers x at j at_in (to ∙ e))) ∙ sym (ne_eqb x at apart_from)
      ]
  at_same x x' (inr (off, off')) =
      ne_eqb x' (r.block at) (λ e. off' (subst (λ z. In z (block_numbers c.blocks)) (sym e) (found_number (r.block at) c.blocks (block_under r f.block) other_found))) ∙ sym (ne_eqb x at (λ e. off (subst (λ z. In z (block_numbers b.blocks)) (sym e) at_in)))

  beside : (z z' : Point) → Beside b c r z z' → Beside (spliced p) (spliced q) t (point_behind at i z) (point_behind (r.block at) i z')
  beside z z' e = by (nat_eq z.0 at && nat_lt i z.1) (nat_eq z'.0 (r.block at) && nat_lt i z'.1) (ap₂ (λ u w. u && w) (at_same z.0 z'.0 e.block) (ap (nat_lt i) e.line))
    where
      by : (k k' : Bool) → k' ≡ k → Beside (spliced p) (spliced q) t (if k then (2, z.1 - (i + 1)) else (3 * z.0, z.1)) (if k' then (2, z'.1 - (i + 1)) else (3 * z'.0, z'.1))
      by true true d = record { line = ap (λ n. n - (i + 1)) e.line; block = behind_body }
      by true false d = cc
      by false true d = cc
      by false false d = record { line = e.line; block = before_body z.0 z'.0 e.block }

-- ---- all sites

-- what is made on both sides, and how many are inlined
record Both (b c : Function) (n k : ℕ) : Type 0 where
  same : SameFunction b c
  count : k ≡ n

-- declarations of what has a body state its signature
abbrev pub States : (FuncName → Option Function) → Function → Type 0
States bodies b = (d : Callee) → In d b.callees → (g : Function) → bodies d.name ≡ Some g → slice_get b.sigs d.sig ≡ Some g.sig

pub states_more : (bodies : FuncName → Option Function) (b g : Function) → States bodies b → States bodies g → (d : Callee) → In d (callees_after b g) → (g1 : Function) → bodies d.name ≡ Some g1 → slice_get (sigs_after b g) d.sig ≡ Some g1.sig
states_more bodies b g sb sg d i g1 e =
    elim (in_items (same_callee (sigs_after b g)) d b.callees (callees_with b g g.callees) i) [
      | inl j ↦ own_sig b g d.sig g1.sig (sb d j g1 e)
      | inr j ↦
          let u = in_with b g d g.callees j in
          ap (λ z. slice_get (sigs_after b g) z.sig) u.2 ∙ other_sig b g u.0.sig g1.sig (sg u.0 u.1 g1 (ap (λ z. bodies z.name) (sym u.2) ∙ e))
    ]

module _ (policy : Policy) (bodies others : FuncName → Option Function) (alike : (x : FuncName) → SameBody (bodies x) (others x)) where
  module _ (good : (x : FuncName) (g : Function) → bodies x ≡ Some g → Free g × States bodies g) where
    module _ (s : Point) (ss : List Point) (now now' : Point → Point) (b c : Function) (r : Renaming) (rb : Renamed r b c) (fb : Free b) (fc : Free c) (sb : States bodies b) (places_are : (z : Point) → In z (s ∷ ss) → Beside b c r (now z) (now' z)) where
      abbrev at : ℕ
      at = (now s).0

      abbrev i : ℕ
      i = (now s).1

      abbrev at' : ℕ
      at' = (now' s).0

      abbrev i' : ℕ
      i' = (now' s).1

      abbrev then_now : Point → Point
      then_now z = point_behind at i (now z)

      abbrev then_now' : Point → Point
      then_now' z = point_behind at' i' (now' z)

      -- with the further sites
      abbrev Further : Function → Function → Type 0
      Further b1 c1 = Both (inline_by bodies policy then_now ss b1) (inline_by others policy then_now' ss c1) (inlined_by bodies policy then_now ss b1) (inlined_by others policy then_now' ss c1)

      abbrev Goes : Type 0
      Goes = (b1 c1 : Function) (r1 : Renaming) → Renamed r1 b1 c1 → Free b1 → Free c1 → States bodies b1 → ((z : Point) → In z ss → Beside b1 c1 r1 (then_now z) (then_now' z)) → Further b1 c1

      abbrev Stays : Type 0
      Stays = Both (inline_by bodies policy now ss b) (inline_by others policy now' ss c) (inlined_by bodies policy now ss b) (inlined_by others policy now' ss c)

      choose : (b1 c1 : Function) → Further b1 c1 → Stays → (k k' : Bool) → k' ≡ k → Both (if k then inline_by bodies policy then_now ss b1 else inline_by bodies policy now ss b) (if k' then inline_by others policy then_now' ss c1 else inline_by others policy now' ss c) (if k then suc (inlined_by bodies policy then_now ss b1) else inlined_by bodies policy now ss b) (if k' then suc (inlined_by others policy then_now' ss c1) else inlined_by others policy now' ss c)
      choose b1 c1 go stay true true d = record { same = go.same; count = ap (λ n. suc n) go.count }
      choose b1 c1 go stay true false d = cc
      choose b1 c1 go stay false true d = cc
      choose b1 c1 go stay false false d = stay

      module _ (g h : Function) (gh : SameFunction g h) (y : FuncName) (calls : called b at i ≡ Some y) (has : bodies y ≡ Some g) where
        f : Found b at i y
        f = found b at i y calls

        sig : slice_get b.sigs f.callee.sig ≡ Some g.sig
        sig = sb f.callee (get_in b.callees f.index f.callee f.has) g (ap bodies f.name ∙ has)

        fg : Free g
        fg = (good y g has).0

        here : Beside b c r (now s) (now' s)
        here = places_are s (inl refl)

        to : r.block at ≡ at'
        to = elim here.block [ inl e ↦ e.1 | inr e ↦ absurd (e.0 (found_number at b.blocks f.block f.found)) ]

        abbrev b1 : Function
        b1 = splice_with sides b at i g

        abbrev c1 : Function
        c1 = splice_with sides c at' i' h

        other_is : c1 ≡ splice_with sides c (r.block at) i h
        other_is = ap₂ (λ x j. splice_with sides c x j h) (sym to) here.line

        b1_is : b1 ≡ spliced (at_place b g at i y f)
        b1_is = b_is b c g h r rb fb fc gh fg at i y f sig

        c1_is : c1 ≡ spliced (splicing_under r sides c h (at_place b g at i y f))
        c1_is = other_is ∙ c_is b c g h r rb fb fc gh fg at i y f sig

        takes_both : takes policy h c1 ≡ takes policy g b1
        takes_both = ap (takes policy h) c1_is ∙ (takes_same b c g h r rb fb fc gh fg at i y f sig policy ∙ sym (ap (takes policy g) b1_is))

        abbrev names : Renaming
        names = joined r (by_way g h) sides

        goes : Goes → Further b1 c1
        goes go =
            go b1 c1 names
            (subst (λ z. Renamed names z c1) (sym b1_is) (subst (λ z. Renamed names (spliced (at_place b g at i y f)) z) (sym c1_is) (renamed b c g h r rb fb fc gh fg at i y f sig)))
            (subst Free (sym b1_is) (free_b b c g h r rb fb fc gh fg at i y f sig))
            (subst Free (sym c1_is) (free_c b c g h r rb fb fc gh fg at i y f sig))
            (subst (States bodies) (sym b1_is) (states_more bodies b g sb (good y g has).1))
            (λ z j.
            let from = beside b c g h r rb fb fc gh fg at i y f sig (now z) (now' z) (places_are z (inr j)) in
            let moved_to : point_behind (r.block at) i (now' z) ≡ then_now' z = ap₂ (λ x n. point_behind x n (now' z)) to (sym here.line) in
            subst (λ w. Beside b1 c1 names (then_now z) w) moved_to (subst (λ w. Beside w c1 names (then_now z) (point_behind (r.block at) i (now' z))) (sym b1_is) (subst (λ w. Beside (spliced (at_place b g at i y f)) w names (then_now z) (point_behind (r.block at) i (now' z))) (sym c1_is) from)))

      one : Stays → Goes → Both (inline_by bodies policy now (s ∷ ss) b) (inline_by others policy now' (s ∷ ss) c) (inlined_by bodies policy now (s ∷ ss) b) (inlined_by others policy now' (s ∷ ss) c)
      one stay go = by (and_then (called b at i) bodies) (and_then (called c at' i') others) refl (same_found (called b at i) (called c at' i') (called_beside b c r rb fc.whole.blocks (now s) (now' s) (places_are s (inl refl))))
        where
          same_found : (o o' : Option FuncName) → o' ≡ o → SameBody (and_then o bodies) (and_then o' others)
          same_found None None e = tt
          same_found None (Some y) e = cc
          same_found (Some y) None e = cc
          same_found (Some y) (Some y') e = let same : y' ≡ y = some_same e in subst (λ z. SameBody (bodies y) (others z)) (sym same) (alike y)

          by : (o o' : Option Function) → and_then (called b at i) bodies ≡ o → SameBody o o' → Both (elim o [ None ↦ inline_by bodies policy now ss b | Some g ↦ if takes policy g (splice_with sides b at i g) then inline_by bodies policy then_now ss (splice_with sides b at i g) else inline_by bodies policy now ss b ]) (elim o' [ None ↦ inline_by others policy now' ss c | Some h ↦ if takes policy h (splice_with sides c at' i' h) then inline_by others policy then_now' ss (splice_with sides c at' i' h) else inline_by others policy now' ss c ]) (elim o [ None ↦ inlined_by bodies policy now ss b | Some g ↦ if takes policy g (splice_with sides b at i g) then suc (inlined_by bodies policy then_now ss (splice_with sides b at i g)) else inlined_by bodies policy now ss b ]) (elim o' [ None ↦ inlined_by others policy now' ss c | Some h ↦ if takes policy h (splice_with sides c at' i' h) then suc (inlined_by others policy then_now' ss (splice_with sides c at' i' h)) else inlined_by others policy now' ss c ])
          by None None e gh = stay
          by None (Some h) e gh = elim gh [ ]
          by (Some g) None e gh = elim gh [ ]
          by (Some g) (Some h) e gh =
              let u = then_some (called b at i) bodies g e in
              choose (splice_with sides b at i g) (splice_with sides c at' i' h) (goes g h gh u.0 u.1 u.2 go) stay (takes policy g (splice_with sides b at i g)) (takes policy h (splice_with sides c at' i' h)) (takes_both g h gh u.0 u.1 u.2)

    loop : (ss : List Point) (now now' : Point → Point) (b c : Function) (r : Renaming) → Renamed r b c → Free b → Free c → States bodies b → ((z : Point) → In z ss → Beside b c r (now z) (now' z)) → Both (inline_by bodies policy now ss b) (inline_by others policy now' ss c) (inlined_by bodies policy now ss b) (inlined_by others policy now' ss c)
    loop [] now now' b c r rb fb fc sb places_are = record { same = (fb.whole, fc.whole, sym (renamed_is_same r b c fb.whole fc.whole rb)); count = refl }
    loop (s ∷ ss) now now' b c r rb fb fc sb places_are =
        one s ss now now' b c r rb fb fc sb places_are (loop ss now now' b c r rb fb fc sb (λ z i. places_are z (inr i)))
        (λ b1 c1 r1 e1 e2 e3 e4 e5. loop ss (λ z. point_behind (now s).0 (now s).1 (now z)) (λ z. point_behind (now' s).0 (now' s).1 (now' z)) b1 c1 r1 e1 e2 e3 e4 e5)

-- ---- finished bodies

module _ (p : Policy) (m : Module) (is : IsModule m) (ok : Accepted m) (f : Function) (there : In f m) where
  abbrev bodies : FuncName → Option Function
  bodies x = finished_body p m f.name x

  -- a body is the finished one of a function of the module
  body_is : (x : FuncName) (g : Function) → bodies x ≡ Some g → (h : Function) × (find_function x m ≡ Some h) × (g ≡ finished p m h)
  body_is x g e = by (then_some (body_of m m f.name x) (λ h. Some (finished p m h)) g e)
    where
      found_in : (c : Bool) (h : Function) → (if c then find_function x m else None) ≡ Some h → find_function x m ≡ Some h
      found_in true h q = q
      found_in false h q = cc

      by : ((h : Function) × (body_of m m f.name x ≡ Some h) × (Some (finished p m h) ≡ Some g)) → (h : Function) × (find_function x m ≡ Some h) × (g ≡ finished p m h)
      by (h, there, same) = (h, found_in (apart m f.name x) h there, sym (some_same same))

  -- it is one of the module of finished bodies
  pub passed_is : (x : FuncName) (h : Function) → find_function x m ≡ Some h → find_function x (passed p m) ≡ Some (finished p m h)
  passed_is x h q = function_map (finished p m) (finished_named p m) x m h q

  kept : IsModule (passed p m) × Accepted (passed p m)
  kept = finished_accepted p m is ok

  pub good : (x : FuncName) (g : Function) → bodies x ≡ Some g → Free g × ((d : Callee) → In d g.callees → (g1 : Function) → bodies d.name ≡ Some g1 → slice_get g.sigs d.sig ≡ Some g1.sig)
  good x g e =
      let u = body_is x g e in
      let i : In g (passed p m) = function_in x (passed p m) g (passed_is x u.0 u.1 ∙ ap (λ z. Some z) (sym u.2)) in
      let accepted = kept.1 g i in (
        free_of (passed p m) g (each_in WellFormed (passed p m) kept.0.whole g i) accepted,
        λ d j g1 e1.
            let u1 = body_is d.name g1 e1 in
            let k = in_get g.callees d j in
            accepted (item.Callee k.0) signature_mismatch d k.1 g1 (passed_is d.name u1.0 u1.1 ∙ ap (λ z. Some z) (sym u1.2)),
      )

  pub f_whole : WellFormed f
  f_whole = each_in WellFormed m is.whole f there

  pub free_f : Free f
  free_f = free_of m f f_whole (ok f there)

  pub f_states : (d : Callee) → In d f.callees → (g1 : Function) → bodies d.name ≡ Some g1 → slice_get f.sigs d.sig ≡ Some g1.sig
  f_states d j g1 e1 =
      let u1 = body_is d.name g1 e1 in
      let k = in_get f.callees d j in
      ok f there (item.Callee k.0) signature_mismatch d k.1 u1.0 u1.1 ∙ ap (λ z. Some z) (sym (ap (λ z. z.sig) u1.2 ∙ finished_signed p m u1.0))

  beside_itself : (z : Point) → Beside f f own_names z z
  beside_itself z = record { line = refl; block = elim (in_or_not z.0 (block_numbers f.blocks)) [ inl i ↦ inl (i, refl) | inr off ↦ inr (off, off) ] }

  respect : (others : FuncName → Option Function) → ((x : FuncName) → SameBody (bodies x) (others x)) → SameFunction (finished p m f) (finish_by others p f) × (inlined_with others p f ≡ inlined p m f)
  respect others alike =
      let both = loop p bodies others alike good (own_sites f.blocks) (λ q. q) (λ q. q) f f own_names (renamed_itself f) free_f free_f f_states (λ z i. beside_itself z) in
      (subst (λ z. SameFunction z (finish_by others p f)) (sym (finished_equation p m is f there)) both.same, both.count)

pub finished_respect_numbers : FinishedRespectNumbers
finished_respect_numbers p m is ok f there others alike = respect p m is ok f there others alike
