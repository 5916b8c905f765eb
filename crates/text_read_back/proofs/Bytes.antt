-- The numbers of bytes that a narrow access may have, and the bits that its word ends with.
use Rattle.std.proofs.Common.{◌≡◌, ℕ, ◌==◌, Bool, true, false, [], ◌∷◌, refl, sym, subst}
use Rattle.std.specs.Fmt.{decimal, digits}
use Rattle.std.proofs.lemmas.Bool.{eqb-true}
use Rattle.ir_text.specs.Writable.{is_bytes}

pub at_8 : decimal 8 ≡ 56 ∷ []
unfolding digits
at_8 = refl

pub at_16 : decimal 16 ≡ 49 ∷ 54 ∷ []
unfolding digits
at_16 = refl

pub at_32 : decimal 32 ≡ 51 ∷ 50 ∷ []
unfolding digits
at_32 = refl

pub by_bytes : (P : ℕ → Type 0) (bytes : ℕ) → is_bytes bytes ≡ true → P 1 → P 2 → P 4 → P bytes
by_bytes P bytes h one two four = go_one (bytes == 1) refl
  where
    go_four : (bytes == 1) ≡ false → (bytes == 2) ≡ false → (b : Bool) → (bytes == 4) ≡ b → P bytes
    go_four e f true k = subst P (sym (eqb-true bytes 4 k)) four
    go_four e f false k = absurd (let bad : false ≡ true = rw (e, f, k) at h in cc)

    go_two : (bytes == 1) ≡ false → (b : Bool) → (bytes == 2) ≡ b → P bytes
    go_two e true k = subst P (sym (eqb-true bytes 2 k)) two
    go_two e false k = go_four e k (bytes == 4) refl

    go_one : (b : Bool) → (bytes == 1) ≡ b → P bytes
    go_one true k = subst P (sym (eqb-true bytes 1 k)) one
    go_one false k = go_two k (bytes == 2) refl
