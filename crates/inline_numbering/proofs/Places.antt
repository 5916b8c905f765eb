-- The laws of a splice under other numbers, from the parts, and splices at corresponding places.
use Rattle.std.proofs.Common.{◌≡◌, ℕ, zero, suc, inl, inr, List, [], ◌∷◌, ◌++◌, map, take, drop, Option, Some, None, refl, sym, ap, ap₂, ◌∙◌, subst}
use Rattle.std.specs.Prelude.{slice_get}
use Rattle.std.proofs.lemmas.Bool.{cases_eq}
use Rattle.ir_core.specs.Module.{Line, Block, Function}
use Rattle.ir_core.specs.Lookup.{find_block, block_numbers}
use Rattle.ir_core.specs.Lists.{In, Different}
use Rattle.ir_core.specs.WellFormed.{WellFormed}
use Rattle.ir_semantics.specs.Canon.{canonical, SameFunction}
use Rattle.ir_semantics.specs.Renaming.{Renaming, line_under, block_under}
use Rattle.ir_semantics.specs.Splice.{Naming, Splicing, sides, spliced, splice_with}
use Rattle.inline_outcomes.proofs.Places.{find_hit, find_skip}
use Rattle.inline_numbering.specs.Carried.{Carries, SiteUnder, splicing_under}
use Rattle.inline_numbering.specs.Laws.{SpliceCarried, SpliceRenamed, SpliceStaysWhole, SpliceRespectsNumbers}
use Rattle.inline_numbering.specs.Renamed.{Renamed}
use Rattle.inline_numbering.proofs.Same as same
use Rattle.inline_numbering.proofs.Carried as carried
use Rattle.inline_numbering.proofs.Sides as numbers
use Rattle.inline_numbering.proofs.Typed as typed
use Rattle.ir_core.proofs.Cutting.{cut_list}
use Rattle.ir_core.proofs.Gets.{some_same}
use Rattle.ir_core.proofs.Members.{in_map}

pub splice_carried : SpliceCarried
splice_carried t r s p m c h k bs apart = carried.carried t r s p.naming m p.caller c p.callee h p.at p.before p.site p.behind k bs apart

pub splice_renamed : SpliceRenamed
splice_renamed t r s p m c h k e w wq = typed.splice_renamed t r s p.naming m p.caller c p.callee h p.at p.before p.site p.behind k e w wq

pub splice_stays_whole : SpliceStaysWhole
splice_stays_whole t r s p m c h k e w sound = typed.splice_whole t r s p.naming m p.caller c p.callee h p.at p.before p.site p.behind k e w sound

-- ---- the line at a place

pub find_under : (r : Renaming) (bs : List Block) (x : ℕ) → Different (map r.block (block_numbers bs)) → In x (block_numbers bs) → (k : Block) × (find_block x bs ≡ Some k) × (find_block (r.block x) (map (block_under r) bs) ≡ Some (block_under r k))
find_under r [] x d i = elim i [ ]
find_under r (b ∷ bs) x d i =
    elim (cases_eq b.number x) [
      | inl e ↦ (b, find_hit x b bs e, find_hit (r.block x) (block_under r b) (map (block_under r) bs) (ap r.block e))
      | inr e ↦
          let j : In x (block_numbers bs) = elim i [ inl q ↦ absurd (e (sym q)) | inr q ↦ q ] in
          let t = find_under r bs x d.1 j in
          let off : r.block b.number ≡ r.block x → ⊥ = λ q. d.0 (subst (λ z. In z (map r.block (block_numbers bs))) (sym q) (in_map r.block x (block_numbers bs) j)) in
          (t.0, find_skip x b bs e ∙ t.1, find_skip (r.block x) (block_under r b) (map (block_under r) bs) off ∙ t.2)
    ]

pub get_map : (f : Line → Line) (ls : List Line) (i : ℕ) (l : Line) → slice_get ls i ≡ Some l → slice_get (map f ls) i ≡ Some (f l)
get_map f [] i l h = cc
get_map f (x ∷ ls) zero l h = ap (λ (z : Line). Some (f z)) (some_same h)
get_map f (x ∷ ls) (suc i) l h = get_map f ls i l h

get_map_none : (f : Line → Line) (ls : List Line) (i : ℕ) → slice_get ls i ≡ None → slice_get (map f ls) i ≡ None
get_map_none f [] i h = refl
get_map_none f (x ∷ ls) zero h = cc
get_map_none f (x ∷ ls) (suc i) h = get_map_none f ls i h

pub take_map : (f : Line → Line) (i : ℕ) (ls : List Line) → take i (map f ls) ≡ map f (take i ls)
take_map f zero ls = refl
take_map f (suc i) [] = refl
take_map f (suc i) (x ∷ ls) = ap (λ z. f x ∷ z) (take_map f i ls)

pub drop_map : (f : Line → Line) (i : ℕ) (ls : List Line) → drop i (map f ls) ≡ map f (drop i ls)
drop_map f zero ls = refl
drop_map f (suc i) [] = refl
drop_map f (suc i) (x ∷ ls) = drop_map f i ls

-- what is spliced there, by the block and the line that are found
abbrev at_line : Naming → Function → ℕ → ℕ → Function → Block → Option Line → Function
at_line n f at i g b o = elim o [ None ↦ f | Some l ↦ spliced (record { naming = n; caller = f; callee = g; at = at; before = take i b.lines; site = l; behind = drop (suc i) b.lines }) ]

abbrev at_block : Naming → Function → ℕ → ℕ → Function → Option Block → Function
at_block n f at i g o = elim o [ None ↦ f | Some b ↦ at_line n f at i g b (slice_get b.lines i) ]

pub splice_found : (n : Naming) (f : Function) (at i : ℕ) (g : Function) (b : Block) (l : Line) → find_block at f.blocks ≡ Some b → slice_get b.lines i ≡ Some l → splice_with n f at i g ≡ spliced (record { naming = n; caller = f; callee = g; at = at; before = take i b.lines; site = l; behind = drop (suc i) b.lines })
splice_found n f at i g b l found get = ap (at_block n f at i g) found ∙ ap (at_line n f at i g b) get

splice_none : (n : Naming) (f : Function) (at i : ℕ) (g : Function) (b : Block) → find_block at f.blocks ≡ Some b → slice_get b.lines i ≡ None → splice_with n f at i g ≡ f
splice_none n f at i g b found get = ap (at_block n f at i g) found ∙ ap (at_line n f at i g b) get

module _ (r s : Renaming) (m : Naming) (b c g h : Function) (rb : Renamed r b c) (rg : Renamed s g h) (wb : WellFormed b) (wc : WellFormed c) (wg : WellFormed g) (wh : WellFormed h) (at i : ℕ) (there : In at (block_numbers b.blocks)) where
  differ : Different (map r.block (block_numbers b.blocks))
  differ = subst Different (ap block_numbers rb.blocks ∙ same.blocks_number r b.blocks) wc.blocks

  found : (k : Block) × (find_block at b.blocks ≡ Some k) × (find_block (r.block at) c.blocks ≡ Some (block_under r k))
  found = let t = find_under r b.blocks at differ there in (t.0, t.1, ap (find_block (r.block at)) rb.blocks ∙ t.2)

  module _ (k : Block) (here : find_block at b.blocks ≡ Some k) (other : find_block (r.block at) c.blocks ≡ Some (block_under r k)) (l : Line) (get : slice_get k.lines i ≡ Some l) where
    -- the splice of the definition there
    abbrev p : Splicing
    p = record { naming = sides; caller = b; callee = g; at = at; before = take i k.lines; site = l; behind = drop (suc i) k.lines }

    pub site : SiteUnder r s p c h
    site = record {
      stands = record { block = k; block_found = here; lines = cut_list k.lines i l get };
      caller = rb;
      callee = rg;
      caller_whole = wb;
      caller_after_whole = wc;
      callee_whole = wg;
      callee_after_whole = wh;
    }

    pub under_is : splice_with m c (r.block at) i h ≡ spliced (splicing_under r m c h p)
    under_is =
        splice_found m c (r.block at) i h (block_under r k) (line_under r l) other (get_map (line_under r) k.lines i l get)
        ∙ ap₂ (λ (us ws : List Line). spliced (record { naming = m; caller = c; callee = h; at = r.block at; before = us; site = line_under r l; behind = ws })) (take_map (line_under r) i k.lines) (drop_map (line_under r) (suc i) k.lines)

    pub here_is : splice_with sides b at i g ≡ spliced p
    here_is = splice_found sides b at i g k l here get

    same_here : WellFormed (splice_with sides b at i g) → WellFormed (splice_with m c (r.block at) i h) → SameFunction (splice_with sides b at i g) (splice_with m c (r.block at) i h)
    same_here w wq =
        let wp : WellFormed (spliced p) = subst WellFormed here_is w in
        let wu : WellFormed (spliced (splicing_under r m c h p)) = subst WellFormed under_is wq in
        let t = numbers.joined r s m in
        let carry : Carries t r s sides m b c g h = numbers.sides_carry r s m b c g h rb rg wg in
        let renamed : Renamed t (spliced p) (spliced (splicing_under r m c h p)) = splice_renamed t r s p m c h carry site wp wu in
        (w, wq, ap canonical here_is ∙ (sym (same.renamed_is_same t (spliced p) (spliced (splicing_under r m c h p)) wp wu renamed) ∙ sym (ap canonical under_is)))

  respects : SameFunction b c → WellFormed (splice_with sides b at i g) → WellFormed (splice_with m c (r.block at) i h) → SameFunction (splice_with sides b at i g) (splice_with m c (r.block at) i h)
  respects e w wq = by (slice_get found.0.lines i) refl
    where
      by : (o : Option Line) → slice_get found.0.lines i ≡ o → SameFunction (splice_with sides b at i g) (splice_with m c (r.block at) i h)
      by None q =
          let one : splice_with sides b at i g ≡ b = splice_none sides b at i g found.0 found.1 q in
          let other : splice_with m c (r.block at) i h ≡ c = splice_none m c (r.block at) i h (block_under r found.0) found.2 (get_map_none (line_under r) found.0.lines i q) in
          (w, wq, ap canonical one ∙ (e.2 ∙ sym (ap canonical other)))
      by (Some l) q = same_here found.0 found.1 found.2 l q w wq

pub splice_respects_numbers : SpliceRespectsNumbers
splice_respects_numbers m b c g h at there i bc gh places w wq =
    let r = same.by_way b c in
    let s = same.by_way g h in
    let to : r.block at ≡ there = same.way_place b c bc.1 at there places in
    subst (λ x. SameFunction (splice_with sides b at i g) (splice_with m c x i h)) to
    (respects r s m b c g h (same.way_renamed b c bc) (same.way_renamed g h gh) bc.0 bc.1 gh.0 gh.1 at i places.one bc w (subst (λ x. WellFormed (splice_with m c x i h)) (sym to) wq))
