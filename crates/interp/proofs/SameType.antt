-- Operations on two values of one type.
use Rattle.std.proofs.Common.{◌≡◌, ℕ, [], ◌∷◌, if◌then◌else◌, None, Some, ap, ◌∙◌, sym}
use Rattle.std.proofs.lemmas.Bool.{eq-eqb}
use Rattle.clk_num.specs.declared.op.Op.{Op}
use Rattle.clk_num.specs.declared.op.Op.TheVariants.{Iadd, Isub, Imul, Band, Bor, Bxor}
use Rattle.clk_num.specs.Width.{bits_of, same}
use Rattle.clk_num.specs.Rows.{row}
use Rattle.clk_num.specs.Operations.{DataValue, Evaluation, Values, value_of, within, meaning, operation, iadd, isub, imul, band, bor, bxor}

given : (x y : DataValue) (n : ℕ) → bits_of x.width ≡ bits_of y.width → Values (value_of x.width n ∷ []) ≡ within (if same x.width y.width then Some (x.width ∷ []) else None) (Values (value_of x.width n ∷ []))
given x y n h = ap (λ b. within (if b then Some (x.width ∷ []) else None) (Values (value_of x.width n ∷ []))) (sym (eq-eqb (bits_of x.width) (bits_of y.width) h))

-- the same at an opcode that is known
at : (op known : Op) (x y : DataValue) (e : Evaluation) → op ≡ known → e ≡ operation known (x ∷ y ∷ []) → e ≡ operation op (x ∷ y ∷ [])
at op known x y e k h = h ∙ ap (λ o. operation o (x ∷ y ∷ [])) (sym k)

-- a result by its width and its number
result : (x z : DataValue) (n : ℕ) → z.width ≡ x.width → z.value ≡ n → Values (z ∷ []) ≡ Values (value_of x.width n ∷ [])
result x z n ew en = ap (λ w. Values (value_of w z.value ∷ [])) ew ∙ ap (λ k. Values (value_of x.width k ∷ [])) en

pub sum : (op : Op) (x y z : DataValue) → op ≡ Iadd → bits_of x.width ≡ bits_of y.width → z.width ≡ x.width → z.value ≡ iadd (bits_of x.width) x.value y.value → Values (z ∷ []) ≡ operation op (x ∷ y ∷ [])
unfolding operation meaning row
sum op x y z k h ew en = at op Iadd x y (Values (z ∷ [])) k (result x z (iadd (bits_of x.width) x.value y.value) ew en ∙ given x y (iadd (bits_of x.width) x.value y.value) h)

pub difference : (op : Op) (x y z : DataValue) → op ≡ Isub → bits_of x.width ≡ bits_of y.width → z.width ≡ x.width → z.value ≡ isub (bits_of x.width) x.value y.value → Values (z ∷ []) ≡ operation op (x ∷ y ∷ [])
unfolding operation meaning row
difference op x y z k h ew en = at op Isub x y (Values (z ∷ [])) k (result x z (isub (bits_of x.width) x.value y.value) ew en ∙ given x y (isub (bits_of x.width) x.value y.value) h)

pub product : (op : Op) (x y z : DataValue) → op ≡ Imul → bits_of x.width ≡ bits_of y.width → z.width ≡ x.width → z.value ≡ imul (bits_of x.width) x.value y.value → Values (z ∷ []) ≡ operation op (x ∷ y ∷ [])
unfolding operation meaning row
product op x y z k h ew en = at op Imul x y (Values (z ∷ [])) k (result x z (imul (bits_of x.width) x.value y.value) ew en ∙ given x y (imul (bits_of x.width) x.value y.value) h)

pub both : (op : Op) (x y z : DataValue) → op ≡ Band → bits_of x.width ≡ bits_of y.width → z.width ≡ x.width → z.value ≡ band (bits_of x.width) x.value y.value → Values (z ∷ []) ≡ operation op (x ∷ y ∷ [])
unfolding operation meaning row
both op x y z k h ew en = at op Band x y (Values (z ∷ [])) k (result x z (band (bits_of x.width) x.value y.value) ew en ∙ given x y (band (bits_of x.width) x.value y.value) h)

pub either : (op : Op) (x y z : DataValue) → op ≡ Bor → bits_of x.width ≡ bits_of y.width → z.width ≡ x.width → z.value ≡ bor (bits_of x.width) x.value y.value → Values (z ∷ []) ≡ operation op (x ∷ y ∷ [])
unfolding operation meaning row
either op x y z k h ew en = at op Bor x y (Values (z ∷ [])) k (result x z (bor (bits_of x.width) x.value y.value) ew en ∙ given x y (bor (bits_of x.width) x.value y.value) h)

pub one_of_both : (op : Op) (x y z : DataValue) → op ≡ Bxor → bits_of x.width ≡ bits_of y.width → z.width ≡ x.width → z.value ≡ bxor (bits_of x.width) x.value y.value → Values (z ∷ []) ≡ operation op (x ∷ y ∷ [])
unfolding operation meaning row
one_of_both op x y z k h ew en = at op Bxor x y (Values (z ∷ [])) k (result x z (bxor (bits_of x.width) x.value y.value) ew en ∙ given x y (bxor (bits_of x.width) x.value y.value) h)
