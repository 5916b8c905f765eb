-- Numbers in list order.
use Rattle.std.proofs.Common.{◌≡◌, ℕ, suc, ◌+◌, ◌<◌, List, [], ◌∷◌, length, refl, ap, ◌∙◌, arith, eq-eqb, ne_eqb}
use Rattle.std.specs.Prelude.{if◌then◌else◌}
use Rattle.ir_core.specs.Lookup.{block_numbers}
use Rattle.inline_body.specs.Dense.{after_number, numbers_along}
use Rattle.inline_body.specs.WithBody.{empty_from}

pub along_length : (first n : ℕ) (ks : List ℕ) → length (numbers_along first n ks) ≡ length ks
along_length first n [] = refl
along_length first n (k ∷ ks) = ap suc (along_length first (after_number first n) ks)

along : (first m : ℕ) (ks : List ℕ) (block_params : List (List ℕ)) → first < m → length ks ≡ length block_params → numbers_along first m ks ≡ block_numbers (empty_from m block_params)
along first m [] [] h e = refl
along first m [] (ps ∷ block_params) h e = absurd (omega (arith, e))
along first m (k ∷ ks) [] h e = absurd (omega (arith, e))
along first m (k ∷ ks) (ps ∷ block_params) h e =
    let l : length ks ≡ length block_params = omega (arith, e) in
    let step : after_number first m ≡ m + 1 = ap (λ c. if c then m + 2 else m + 1) (ne_eqb m first (λ q. omega (arith, h, q))) in
    ap (λ (n : ℕ). m ∷ numbers_along first n ks) step ∙ ap (λ (ns : List ℕ). m ∷ ns) (along first (m + 1) ks block_params (omega (arith, h)) l)

pub fits : (first k : ℕ) (ks : List ℕ) (block_params : List (List ℕ)) → length ks ≡ length block_params → numbers_along first first (k ∷ ks) ≡ first ∷ block_numbers (empty_from (first + 2) block_params)
fits first k ks block_params e =
    let step : after_number first first ≡ first + 2 = ap (λ c. if c then first + 2 else first + 1) (eq-eqb first first refl) in
    ap (λ (n : ℕ). first ∷ numbers_along first n ks) step ∙ ap (λ (ns : List ℕ). first ∷ ns) (along first (first + 2) ks block_params (omega arith) e)
