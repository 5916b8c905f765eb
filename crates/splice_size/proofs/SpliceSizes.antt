-- The laws of the size of a splice, from the parts.
use Rattle.std.proofs.Common.{◌≡◌, ℕ, ◌+◌, ◌-◌, ◌≤◌, List, ◌∷◌, [], ◌++◌, length, map, ap, ap₂, ◌∙◌, sym, subst, arith, length-append}
use Rattle.ir_core.specs.declared.declarations.Callee.{Callee}
use Rattle.ir_core.specs.declared.declarations.SlotDecl.{SlotDecl}
use Rattle.ir_core.specs.declared.signatures.Sig.{Sig}
use Rattle.ir_core.specs.Lists.{In, Different}
use Rattle.ir_core.specs.Lookup.{block_numbers}
use Rattle.ir_core.specs.Module.{Line, Function}
use Rattle.ir_core.specs.Signatures.{same_sig}
use Rattle.ir_core.specs.Size.{block_size, line_size, sig_size, size_of, total}
use Rattle.ir_core.proofs.Sizing.{total_join}
use Rattle.ir_core.proofs.ByNumber.{found_number}
use Rattle.ir_semantics.specs.Import.{callees_after, callees_with, same_callee, sigs_after}
use Rattle.ir_semantics.specs.Renaming.{Renaming, block_under, line_under}
use Rattle.ir_semantics.specs.Splice.{Naming, Splicing, sides, spliced, spliced_blocks}
use Rattle.body_import.specs.Merged.{keep, news}
use Rattle.body_import.proofs.Decided.{kept_news}
use Rattle.inline_outcomes.proofs.Linking.{lines_same, same_numbers}
use Rattle.inline_acceptance.proofs.KeptSizes.{block_same, total_map}
use Rattle.inline_numbering.specs.Carried.{Carries, SiteUnder, splicing_under}
use Rattle.inline_numbering.specs.Laws.{by_sides}
use Rattle.inline_numbering.proofs.Places.{splice_carried}
use Rattle.inline_numbering.proofs.Same.{blocks_number, renamed_itself}
use Rattle.inline_numbering.proofs.Sides.{all_sigs, joined, sides_carry}
use Rattle.inline_numbering.proofs.Typed.{same_before}
use Rattle.splice_size.specs.Counts.{block_counts, counts_of, summed}
use Rattle.splice_size.specs.Laws.{Sited, TakesOver, SizeOfSplice, SiteWithin, SizeByCounts, RenamedKeepsCounts, SizeAfterUnder, SpliceSizeUnder}
use Rattle.splice_size.specs.SizeAfter.{put_size, size_after}
use Rattle.splice_size.proofs.Blocks.{blocks_size, site_within}
use Rattle.splice_size.proofs.Fitting.{all_fit, ends}
use Rattle.splice_size.proofs.Under.{blocks_same, blocks_whole, site_same}

pub size_of_splice : SizeOfSplice
size_of_splice p site sigs callees over =
    let stands = site.stands in
    let fit = all_fit p.callee site.callee site.callee_blocks in
    let end = ends p site.caller stands.block stands.block_found stands.lines in
    declarations (length (p.caller.slots ++ p.callee.slots)) (length p.caller.slots) (length p.callee.slots) (length (callees_after p.caller p.callee)) (length p.caller.callees) (length callees)
    (total sig_size (sigs_after p.caller p.callee)) (total sig_size p.caller.sigs) (total sig_size sigs) (total block_size (spliced_blocks p p.caller.blocks)) (line_size p.site) (total block_size p.caller.blocks) (put_size p.site (counts_of p.callee))
    (length-append p.caller.slots p.callee.slots)
    (ap (λ (z : List Callee). length z) over.callees_are ∙ length-append p.caller.callees callees)
    (ap (total sig_size) over.sigs_are ∙ total_join sig_size p.caller.sigs sigs)
    (blocks_size p fit end p.caller.blocks stands.block stands.block_found stands.lines)
    (site_within p p.caller.blocks stands.block stands.block_found stands.lines)
  where
    declarations : (slots fs gs callees fc nc sigs fg ng after site before put : ℕ) → slots ≡ fs + gs → callees ≡ fc + nc → sigs ≡ fg + ng → after + site ≡ before + put → site ≤ before → (slots + callees) + sigs + after ≡ (((fs + fc) + fg + before) - site) + (put + ((gs + nc) + ng))
    declarations slots fs gs callees fc nc sigs fg ng after site before put a b c d e = omega (arith, a, b, c, d, e)

-- the declarations that f takes over from g: those that are new to it
module _ (f g : Function) where
  new_sigs : List Sig
  new_sigs = keep (news same_sig f.sigs g.sigs) g.sigs

  new_callees : List Callee
  new_callees = keep (news (same_callee (sigs_after f g)) f.callees (callees_with f g g.callees)) (callees_with f g g.callees)

  over : TakesOver f g new_sigs new_callees
  unfolding new_sigs new_callees
  over = record {
    sigs_are = kept_news same_sig f.sigs g.sigs;
    callees_are = kept_news (same_callee (sigs_after f g)) f.callees (callees_with f g g.callees);
  }

-- a splice is at least as large as without them
pub at_least : (p : Splicing) → Sited p → size_after (size_of p.caller) p.site (counts_of p.callee) (length p.callee.slots) ≤ size_of (spliced p)
at_least p site = by (new_sigs p.caller p.callee) (new_callees p.caller p.callee) (over p.caller p.callee)
  where
    without : (all rest put slots callees sigs : ℕ) → all ≡ rest + (put + ((slots + callees) + sigs)) → rest + (put + slots) ≤ all
    without all rest put slots callees sigs e = omega (arith, e)

    by : (sigs : List Sig) (callees : List Callee) → TakesOver p.caller p.callee sigs callees → size_after (size_of p.caller) p.site (counts_of p.callee) (length p.callee.slots) ≤ size_of (spliced p)
    by sigs callees takes = without (size_of (spliced p)) (size_of p.caller - line_size p.site) (put_size p.site (counts_of p.callee)) (length p.callee.slots) (length callees) (total sig_size sigs) (size_of_splice p site sigs callees takes)

pub within_caller : SiteWithin
within_caller p stands = let h = site_within p p.caller.blocks stands.block stands.block_found stands.lines in omega (arith, h)

pub size_by_counts : SizeByCounts
size_by_counts f = ap (λ n. (length f.slots + length f.callees) + total sig_size f.sigs + n) (blocks_whole f.blocks)

pub counts_renamed : RenamedKeepsCounts
counts_renamed r f g h = ap (summed block_counts) h.blocks ∙ blocks_same r f.blocks

pub size_after_under : SizeAfterUnder
size_after_under = site_same

-- ---- a splice under other numbers is the definition's splice, and so is it itself

-- only the block of the site has its number
apart : (r s : Renaming) (p : Splicing) (c h : Function) → SiteUnder r s p c h → (x : ℕ) → In x (block_numbers p.caller.blocks) → r.block x ≡ r.block p.at → x ≡ p.at
apart r s p c h site x i e =
    let d : Different (map r.block (block_numbers p.caller.blocks)) = subst Different (ap block_numbers site.caller.blocks ∙ blocks_number r p.caller.blocks) site.caller_after_whole.blocks in
    same_before r.block (block_numbers p.caller.blocks) d x p.at i (found_number p.at p.caller.blocks site.stands.block site.stands.block_found) e

to_sides : (r s : Renaming) (p : Splicing) (m : Naming) (c h : Function) → SiteUnder r s p c h → size_of (spliced (splicing_under r m c h p)) ≡ size_of (spliced (by_sides p))
to_sides r s p m c h site =
    let t = joined r s m in
    let carry : Carries t r s sides m p.caller c p.callee h = sides_carry r s m p.caller c p.callee h site.caller site.callee site.callee_whole in
    let q = splicing_under r m c h p in
    let blocks : spliced_blocks q c.blocks ≡ map (block_under t) (spliced_blocks (by_sides p) p.caller.blocks) =
    ap (spliced_blocks q) site.caller.blocks ∙ sym (splice_carried t r s (by_sides p) m c h carry p.caller.blocks (apart r s p c h site)) in
    ap₂ (λ (x y : ℕ). x + y)
    (ap₂ (λ (x y : ℕ). x + y)
    (ap₂ (λ (x y : ℕ). x + y) (ap₂ (λ (us vs : List SlotDecl). length (us ++ vs)) site.caller.slots site.callee.slots) (ap (λ (z : List Callee). length z) carry.all_callees))
    (ap (total sig_size) (all_sigs p.caller c p.callee h site.caller.sigs site.callee.sigs)))
    (ap (total block_size) blocks ∙ total_map (block_under t) block_size block_size (block_same t) (spliced_blocks (by_sides p) p.caller.blocks))

line_itself : (l : Line) → l ≡ line_under same_numbers l
line_itself l = let e : l ∷ [] ≡ line_under same_numbers l ∷ [] = lines_same (l ∷ []) in cc

itself : (p : Splicing) → splicing_under same_numbers p.naming p.caller p.callee p ≡ p
itself p =
    ap₂ (λ us ws. record { naming = p.naming; caller = p.caller; callee = p.callee; at = p.at; before = us; site = line_under same_numbers p.site; behind = ws }) (sym (lines_same p.before)) (sym (lines_same p.behind))
    ∙ ap (λ l. record { naming = p.naming; caller = p.caller; callee = p.callee; at = p.at; before = p.before; site = l; behind = p.behind }) (sym (line_itself p.site))

pub splice_size_under : SpliceSizeUnder
splice_size_under r s p m c h site =
    let stays : SiteUnder same_numbers same_numbers p p.caller p.callee =
    record {
      stands = site.stands;
      caller = renamed_itself p.caller;
      callee = renamed_itself p.callee;
      caller_whole = site.caller_whole;
      caller_after_whole = site.caller_whole;
      callee_whole = site.callee_whole;
      callee_after_whole = site.callee_whole;
    } in
    to_sides r s p m c h site ∙ (sym (to_sides same_numbers same_numbers p p.naming p.caller p.callee stays) ∙ ap (λ z. size_of (spliced z)) (itself p))
