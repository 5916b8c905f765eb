-- The first faults of the functions.
use Rattle.std.proofs.Common.{◌≡◌, inl, inr, ℕ, List, [], ◌∷◌, ◌++◌, length, map, slice_get, Option, Some, None, option_map, sym, ap, subst, ◌∙◌}
use Rattle.std.proofs.lemmas.List.{length-map}
use Rattle.clif_lex.specs.Places.{line_at}
use Rattle.ir_core.proofs.Order.{get_push_cases}
use Rattle.inline_acceptance.proofs.KeptLists.{map_get}
use Rattle.clif_read.specs.declared.raw.RawModule.{RawModule}
use Rattle.clif_meaning.specs.Reads.{alone}
use Rattle.filetest.specs.FaultLines.{IsFaultSpot, IsFaultLine, AreFaultSpots, AreFaultLines}

-- ---- one function after the other

pub spots_more : (raw : RawModule) (spots : List (Option ℕ)) (s : Option ℕ) → IsFaultSpot (alone raw (length spots)) s
    → ((i : ℕ) (spot : Option ℕ) → slice_get spots i ≡ Some spot → IsFaultSpot (alone raw i) spot)
    → (i : ℕ) (spot : Option ℕ) → slice_get (spots ++ s ∷ []) i ≡ Some spot → IsFaultSpot (alone raw i) spot
spots_more raw spots s is each i spot at = elim (get_push_cases spots i s spot at) [
  | inl q ↦ each i spot q
  | inr q ↦ subst (λ k. IsFaultSpot (alone raw k) spot) (sym q.0) (subst (IsFaultSpot (alone raw (length spots))) q.1 is)
]

-- ---- lines

pub lines_from_spots : (text : List ℕ) (raw : RawModule) (spots lines : List (Option ℕ)) → AreFaultSpots raw spots → lines ≡ map (option_map (line_at text)) spots → AreFaultLines text raw lines
lines_from_spots text raw spots lines h e = record {
  count = ap length e ∙ (length-map spots (option_map (line_at text)) ∙ h.count);
  each = λ i line at. let (spot, there, is) = map_get (option_map (line_at text)) spots i line (ap (λ xs. slice_get xs i) (sym e) ∙ at) in told i line spot is (h.each i spot there);
}
  where
    told : (i : ℕ) (line spot : Option ℕ) → line ≡ option_map (line_at text) spot → IsFaultSpot (alone raw i) spot → IsFaultLine text (alone raw i) line
    told i None None e f = f
    told i (Some l) None e f = cc
    told i None (Some s) e f = cc
    told i (Some l) (Some s) e f = (s, f, cc)
