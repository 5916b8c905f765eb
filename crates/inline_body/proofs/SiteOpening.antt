-- What a function defines once the call is taken out: the call's results are free.
use Rattle.std.proofs.Common.{◌≡◌, ℕ, zero, suc, ◌+◌, ◌⊎◌, inl, inr, List, [], ◌∷◌, ◌++◌, length, take, drop, Some, refl, sym, ap, ◌∙◌, subst, arith, append_assoc, length-append}
use Rattle.std.specs.Prelude.{slice_get}
use Rattle.ir_core.specs.Module.{Block, Line, Function}
use Rattle.ir_core.specs.Lookup.{block_numbers, definitions, line_definitions}
use Rattle.ir_core.specs.Lists.{In, Different, Below}
use Rattle.ir_core.specs.Sound.{IsSound, counts_of}
use Rattle.ir_core.specs.Edits.{lines_of}
use Rattle.ir_core.proofs.Members.{in_left, in_right, in_cases, different_left, different_right, different_apart, below_left, below_right}
use Rattle.ir_core.proofs.Splitting.{Split, split, definitions_split, definitions_join, line_definitions_join}
use Rattle.ir_core.proofs.Counting.{definitions_below}
use Rattle.inline_body.specs.Opened.{taken}
use Rattle.inline_body.proofs.SiteBlocks.{taken_at}
use Rattle.ir_core.proofs.Cutting.{cut_list}
use Rattle.ir_core.proofs.ByNumber.{numbers_join}

-- six lists joined in another way
regroup : (P Q A R B S : List ℕ) → P ++ ((Q ++ (A ++ (R ++ B))) ++ S) ≡ (P ++ (Q ++ A)) ++ (R ++ (B ++ S))
regroup P Q A R B S =
    ap (λ z. P ++ z) (append_assoc Q (A ++ (R ++ B)) S ∙ (ap (λ z. Q ++ z) (append_assoc A (R ++ B) S ∙ ap (λ z. A ++ z) (append_assoc R B S)) ∙ sym (append_assoc Q A (R ++ (B ++ S)))))
    ∙ sym (append_assoc P (Q ++ A) (R ++ (B ++ S)))

module _ (a n i : ℕ) (ps : List ℕ) (bs : List Block) (l : Line) (there : In a (block_numbers bs)) (differ : Different (block_numbers bs)) (get : slice_get (lines_of a bs) i ≡ Some l) (once : Different (definitions bs)) where
  abbrev s : Split a bs
  s = split a bs there differ

  before : List ℕ
  before = definitions s.before ++ (s.here.params ++ line_definitions (take i s.here.lines))

  behind : List ℕ
  behind = line_definitions (drop (suc i) s.here.lines) ++ definitions s.behind

  were : definitions bs ≡ before ++ (l.results ++ behind)
  unfolding before behind
  were =
      ap definitions s.is
      ∙ (definitions_split s.before s.behind s.here
      ∙ (ap (λ z. definitions s.before ++ ((s.here.params ++ z) ++ definitions s.behind)) (ap line_definitions (cut_list s.here.lines i l (ap (λ z. slice_get z i) (sym s.lines) ∙ get)) ∙ line_definitions_join (take i s.here.lines) (l ∷ drop (suc i) s.here.lines))
      ∙ regroup (definitions s.before) s.here.params (line_definitions (take i s.here.lines)) l.results (line_definitions (drop (suc i) s.here.lines)) (definitions s.behind)))

  apart : Different (before ++ (l.results ++ behind))
  apart = subst Different were once

  pub results_differ : Different l.results
  results_differ = different_left l.results behind (different_right before (l.results ++ behind) apart)

  pub results_were : (v : ℕ) → In v l.results → In v (definitions bs)
  results_were v j = subst (In v) (sym were) (in_right v before (l.results ++ behind) (in_left v l.results behind j))

  pub results_below : (bound : ℕ) → Below bound (definitions bs) → Below bound l.results
  results_below bound h = below_left bound l.results behind (below_right bound before (l.results ++ behind) (subst (Below bound) were h))

  -- what is defined now is a new parameter, or was defined and is no result
  now_defined : (v : ℕ) → In v (definitions (taken a i n ps bs)) → In v ps ⊎ (In v before ⊎ In v behind)
  unfolding before behind
  now_defined v j =
      let k = subst (λ z. In v (definitions z)) (taken_at a n i ps bs there differ) j in
      elim (in_cases v (definitions s.before) _ (subst (In v) (definitions_join s.before _) k)) [
        | inl p ↦ inr (inl (in_left v (definitions s.before) _ p))
        | inr p ↦ elim (in_cases v s.here.params _ p) [
          | inl q ↦ inr (inl (in_right v (definitions s.before) _ (in_left v s.here.params _ q)))
          | inr q ↦ elim (in_cases v (line_definitions (take i s.here.lines)) _ q) [
            | inl x ↦ inr (inl (in_right v (definitions s.before) _ (in_right v s.here.params _ x)))
            | inr x ↦ elim (in_cases v ps _ x) [ inl y ↦ inl y | inr y ↦ inr (inr y) ]
          ]
        ]
      ]

  pub results_free : ((v : ℕ) → In v ps → In v (definitions bs) → ⊥) → (v : ℕ) → In v l.results → In v (definitions (taken a i n ps bs)) → ⊥
  results_free new v j k =
      elim (now_defined v k) [
        | inl p ↦ new v p (results_were v j)
        | inr p ↦ elim p [
          | inl q ↦ different_apart before (l.results ++ behind) v apart q (in_left v l.results behind j)
          | inr q ↦ different_apart l.results behind v (different_right before (l.results ++ behind) apart) j q
        ]
      ]

  pub first_there : In n (block_numbers (taken a i n ps bs))
  first_there = subst (λ z. In n (block_numbers z)) (sym (taken_at a n i ps bs there differ)) (subst (In n) (sym (numbers_join s.before _)) (in_right n (block_numbers s.before) _ (inr (inl refl))))

  pub one_longer : length (taken a i n ps bs) ≡ length bs + 1
  one_longer =
      let now = ap length (taken_at a n i ps bs there differ) ∙ length-append s.before _ in
      let was = ap length s.is ∙ length-append s.before _ in
      omega (arith, now, was)

pub sound_below : (f : Function) → IsSound f → Below (length f.types) (definitions f.blocks)
sound_below f s = definitions_below (counts_of f) f.blocks s.blocks
