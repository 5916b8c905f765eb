-- Numbers that are values of a function's parameters are an entry call of it.
use Rattle.std.proofs.Common.{◌≡◌, ◌^◌, ◌<◌, ℤ, pos, negsuc, List, [], ◌∷◌, Some, None, Bool, true, false, if◌then◌else◌, refl, arith, subst}
use Rattle.std.proofs.Math.Nat.{mod-lt}
use Rattle.std.proofs.lemmas.Nat.{pow_pos}
use Rattle.clk_num.specs.declared.width.Width.{Width}
use Rattle.clk_num.specs.Width.{bits_of}
use Rattle.clk_num.specs.Numbers.{wrapped, fits}
use Rattle.clk_num.specs.Operations.{DataValue}
use Rattle.ir_core.specs.declared.signatures.Ty.{Ty}
use Rattle.ir_core.specs.Module.{Function}
use Rattle.ir_core.specs.Lookup.{find_function, param_types, width_of}
use Rattle.ir_core.proofs.Gets.{some_same}
use Rattle.ir_semantics.specs.Values.{value_for, values_for}
use Rattle.ir_semantics.specs.Runs.{HasType, HaveTypes}
use Rattle.ir_semantics.proofs.SafetyTypes.{then_some, both_some}
use Rattle.interp.specs.Entries.{NumbersEnter}

wrapped_below : (w : Width) (z : ℤ) → wrapped (bits_of w) z < 2 ^ bits_of w
unfolding wrapped
wrapped_below w (pos n) = mod-lt n (pow_pos (bits_of w))
wrapped_below w (negsuc n) = let p : 0 < 2 ^ bits_of w = pow_pos (bits_of w) in omega arith

has_type : (t : Ty) (z : ℤ) (x : DataValue) → value_for t z ≡ Some x → HasType t x
has_type t z x h = go (fits (bits_of (width_of t)) z) h
  where
    go : (c : Bool) → (if c then Some (record { width = width_of t; value = wrapped (bits_of (width_of t)) z }) else None) ≡ Some x → HasType t x
    go true q = subst (HasType t) (some_same q) (refl, wrapped_below (width_of t) z)
    go false q = cc

have_types : (ts : List Ty) (zs : List ℤ) (xs : List DataValue) → values_for ts zs ≡ Some xs → HaveTypes ts xs
have_types [] [] xs h = subst (HaveTypes []) (some_same h) tt
have_types [] (z ∷ zs) xs h = cc
have_types (t ∷ ts) [] xs h = cc
have_types (t ∷ ts) (z ∷ zs) xs h =
    let r = both_some (value_for t z) (values_for ts zs) xs h in
    subst (HaveTypes (t ∷ ts)) r.4 (has_type t z r.0 r.2, have_types ts zs r.1 r.3)

pub numbers_enter : NumbersEnter
numbers_enter m entry numbers args h =
    let r = then_some (find_function entry m) (λ (f : Function). values_for (param_types f.sig.params) numbers) args h in
    (r.0, r.1, have_types (param_types r.0.sig.params) numbers args r.2)
