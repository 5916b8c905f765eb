-- A spelling has one name: the digits before the colon end where it stands.
use Rattle.std.proofs.Common.{◌≡◌, ◌<◌, ℕ, List, [], ◌∷◌, ◌++◌, refl, ap, ap₂, sym, subst, arith}
use Rattle.std.specs.Fmt.{decimal}
use Rattle.std.specs.Char.{digit_value}
use Rattle.std.specs.Str.Parse.{AllDigits}
use Rattle.std.proofs.lemmas.Fmt.{decimal_is_IsNumeral, decimal_injective}
use Rattle.ir_core.specs.declared.names.FuncName.{FuncName}
use Rattle.ir_core.specs.declared.names.FuncName.TheVariants as name
use Rattle.program_run.specs.EntryName.{spelling, HasShortNumbers}

-- the colon is no digit
not_digit : (c : ℕ) → 58 ≡ c → digit_value c < 10 → ⊥
not_digit c e d = let big : digit_value 58 < 10 = subst (λ n. digit_value n < 10) (sym e) d in omega (arith, big)

before_colon : (xs ys r s : List ℕ) → AllDigits 10 xs → AllDigits 10 ys → xs ++ 58 ∷ r ≡ ys ++ 58 ∷ s → (xs ≡ ys) × (r ≡ s)
before_colon [] [] r s dx dy h = (refl, cc)
before_colon [] (y ∷ ys) r s dx dy h = let e : 58 ≡ y = cc in absurd (not_digit y e dy.0)
before_colon (x ∷ xs) [] r s dx dy h = let e : 58 ≡ x = cc in absurd (not_digit x e dx.0)
before_colon (x ∷ xs) (y ∷ ys) r s dx dy h =
    let e : x ≡ y = cc in
    let t : xs ++ 58 ∷ r ≡ ys ++ 58 ∷ s = cc in
    let q = before_colon xs ys r s dx.1 dy.1 t in
    (ap₂ (λ z zs. z ∷ zs) e q.0, q.1)

pub one_name : (a b : FuncName) → HasShortNumbers a → HasShortNumbers b → spelling a ≡ spelling b → a ≡ b
one_name (name.Text a) (name.Text b) p q h = let e : a ≡ b = cc in ap name.Text e
one_name (name.Text a) (name.User b j) p q h = cc
one_name (name.User a i) (name.Text b) p q h = cc
one_name (name.User a i) (name.User b j) p q h =
    let t : decimal a ++ 58 ∷ decimal i ≡ decimal b ++ 58 ∷ decimal j = cc in
    let da = decimal_is_IsNumeral a (omega (arith, p.0)) in
    let db = decimal_is_IsNumeral b (omega (arith, q.0)) in
    let both = before_colon (decimal a) (decimal b) (decimal i) (decimal j) da.0.1 db.0.1 t in
    ap₂ name.User (decimal_injective a b (omega (arith, p.0)) (omega (arith, q.0)) both.0) (decimal_injective i j (omega (arith, p.1)) (omega (arith, q.1)) both.1)
