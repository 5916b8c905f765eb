use Rattle.std.proofs.Common.{refl, true, ◌≡◌}
use Rattle.std.proofs.lemmas.Bool.{false≢true}
use Rattle.clk_num.specs.declared.op.Op.{Op}
use Rattle.clk_num.specs.declared.op.Op.TheVariants.{Iadd, Isub, Imul, Band, Bor, Bxor, Smin, Smax, Umin, Umax, Umulhi, Smulhi, Udiv, Urem, Sdiv, Srem, Ishl, Ushr, Sshr, Rotl, Rotr, Icmp, UaddOverflow, SaddOverflow, UsubOverflow, SsubOverflow, Iconcat}
use Rattle.clk_num.specs.declared.width.Width.{Width}
use Rattle.clk_num.specs.declared.width.Width.TheVariants.{W8}
use Rattle.clk_num.specs.Width.{double}
use Rattle.clk_num.specs.Rows.{row, one, with_flag}
use Rattle.std.specs.Prelude.{[], ◌∷◌}
use Rattle.clk_num.proofs.RowLemmas.{row_at, two_have, two_narrow_have, without_row, is_binary, binary_arm}
use Rattle.clk_num.proofs.rows.fits_two.Goals as goal

pub returns-in-Iadd : goal.returns-in-Iadd
unfolding row
returns-in-Iadd c = row_at _ Iadd _ _ c.in-Iadd.is (two_have one c.args.t c.args.u _ c.same.ensures)

pub returns-in-Isub : goal.returns-in-Isub
unfolding row
returns-in-Isub c = row_at _ Isub _ _ c.in-Isub.is (two_have one c.args.t c.args.u _ c.same-in-Isub.ensures)

pub returns-in-Imul : goal.returns-in-Imul
unfolding row
returns-in-Imul c = row_at _ Imul _ _ c.in-Imul.is (two_have one c.args.t c.args.u _ c.same-in-Imul.ensures)

pub returns-in-Band : goal.returns-in-Band
unfolding row
returns-in-Band c = row_at _ Band _ _ c.in-Band.is (two_have one c.args.t c.args.u _ c.same-in-Band.ensures)

pub returns-in-Bor : goal.returns-in-Bor
unfolding row
returns-in-Bor c = row_at _ Bor _ _ c.in-Bor.is (two_have one c.args.t c.args.u _ c.same-in-Bor.ensures)

pub returns-in-Bxor : goal.returns-in-Bxor
unfolding row
returns-in-Bxor c = row_at _ Bxor _ _ c.in-Bxor.is (two_have one c.args.t c.args.u _ c.same-in-Bxor.ensures)

pub returns-in-Smin : goal.returns-in-Smin
unfolding row
returns-in-Smin c = row_at _ Smin _ _ c.in-Smin.is (two_have one c.args.t c.args.u _ c.same-in-Smin.ensures)

pub returns-in-Smax : goal.returns-in-Smax
unfolding row
returns-in-Smax c = row_at _ Smax _ _ c.in-Smax.is (two_have one c.args.t c.args.u _ c.same-in-Smax.ensures)

pub returns-in-Umin : goal.returns-in-Umin
unfolding row
returns-in-Umin c = row_at _ Umin _ _ c.in-Umin.is (two_have one c.args.t c.args.u _ c.same-in-Umin.ensures)

pub returns-in-Umax : goal.returns-in-Umax
unfolding row
returns-in-Umax c = row_at _ Umax _ _ c.in-Umax.is (two_have one c.args.t c.args.u _ c.same-in-Umax.ensures)

pub returns-in-Umulhi : goal.returns-in-Umulhi
unfolding row
returns-in-Umulhi c = row_at _ Umulhi _ _ c.in-Umulhi.is (two_narrow_have one c.args.t c.args.u _ c.same_narrow.ensures)

pub returns-in-Smulhi : goal.returns-in-Smulhi
unfolding row
returns-in-Smulhi c = row_at _ Smulhi _ _ c.in-Smulhi.is (two_narrow_have one c.args.t c.args.u _ c.same_narrow-in-Smulhi.ensures)

pub returns-in-Udiv : goal.returns-in-Udiv
unfolding row
returns-in-Udiv c = row_at _ Udiv _ _ c.in-Udiv.is (two_narrow_have one c.args.t c.args.u _ c.same_narrow-in-Udiv.ensures)

pub returns-in-Urem : goal.returns-in-Urem
unfolding row
returns-in-Urem c = row_at _ Urem _ _ c.in-Urem.is (two_narrow_have one c.args.t c.args.u _ c.same_narrow-in-Urem.ensures)

pub returns-in-Sdiv : goal.returns-in-Sdiv
unfolding row
returns-in-Sdiv c = row_at _ Sdiv _ _ c.in-Sdiv.is (two_narrow_have one c.args.t c.args.u _ c.same_narrow-in-Sdiv.ensures)

pub returns-in-Srem : goal.returns-in-Srem
unfolding row
returns-in-Srem c = row_at _ Srem _ _ c.in-Srem.is (two_narrow_have one c.args.t c.args.u _ c.same_narrow-in-Srem.ensures)

pub returns-in-Ishl : goal.returns-in-Ishl
unfolding row
returns-in-Ishl c = row_at _ Ishl _ _ c.in-Ishl.is refl

pub returns-in-Ushr : goal.returns-in-Ushr
unfolding row
returns-in-Ushr c = row_at _ Ushr _ _ c.in-Ushr.is refl

pub returns-in-Sshr : goal.returns-in-Sshr
unfolding row
returns-in-Sshr c = row_at _ Sshr _ _ c.in-Sshr.is refl

pub returns-in-Rotl : goal.returns-in-Rotl
unfolding row
returns-in-Rotl c = row_at _ Rotl _ _ c.in-Rotl.is refl

pub returns-in-Rotr : goal.returns-in-Rotr
unfolding row
returns-in-Rotr c = row_at _ Rotr _ _ c.in-Rotr.is refl

pub returns-in-Icmp : goal.returns-in-Icmp
unfolding row
returns-in-Icmp c = row_at _ (Icmp c.in-Icmp.field-0) _ _ c.in-Icmp.is (two_have (λ (t : Width). W8 ∷ []) c.args.t c.args.u _ c.same-in-Icmp.ensures)

pub returns-in-UaddOverflow : goal.returns-in-UaddOverflow
unfolding row
returns-in-UaddOverflow c = row_at _ UaddOverflow _ _ c.in-UaddOverflow.is (two_have with_flag c.args.t c.args.u _ c.same-in-UaddOverflow.ensures)

pub returns-in-SaddOverflow : goal.returns-in-SaddOverflow
unfolding row
returns-in-SaddOverflow c = row_at _ SaddOverflow _ _ c.in-SaddOverflow.is (two_have with_flag c.args.t c.args.u _ c.same-in-SaddOverflow.ensures)

pub returns-in-UsubOverflow : goal.returns-in-UsubOverflow
unfolding row
returns-in-UsubOverflow c = row_at _ UsubOverflow _ _ c.in-UsubOverflow.is (two_have with_flag c.args.t c.args.u _ c.same-in-UsubOverflow.ensures)

pub returns-in-SsubOverflow : goal.returns-in-SsubOverflow
unfolding row
returns-in-SsubOverflow c = row_at _ SsubOverflow _ _ c.in-SsubOverflow.is (two_have with_flag c.args.t c.args.u _ c.same-in-SsubOverflow.ensures)

pub returns-in-Iconcat : goal.returns-in-Iconcat
unfolding row
returns-in-Iconcat c = row_at _ Iconcat _ _ c.in-Iconcat.is (two_narrow_have (λ (t : Width). double t ∷ []) c.args.t c.args.u _ c.same_narrow-in-Iconcat.ensures)

pub returns-in_default : goal.returns-in_default
returns-in_default c = without_row _ _ (λ h. binary_arm _ _ _ h (λ (o : Op). elim o as (λ (o : Op). is_binary o ≡ true → c.args.op ≡ o → ⊥) [
  | Iadd ↦ λ _. c.in_default.not-Iadd
  | Isub ↦ λ _. c.in_default.not-Isub
  | Imul ↦ λ _. c.in_default.not-Imul
  | Band ↦ λ _. c.in_default.not-Band
  | Bor ↦ λ _. c.in_default.not-Bor
  | Bxor ↦ λ _. c.in_default.not-Bxor
  | Smin ↦ λ _. c.in_default.not-Smin
  | Smax ↦ λ _. c.in_default.not-Smax
  | Umin ↦ λ _. c.in_default.not-Umin
  | Umax ↦ λ _. c.in_default.not-Umax
  | Umulhi ↦ λ _. c.in_default.not-Umulhi
  | Smulhi ↦ λ _. c.in_default.not-Smulhi
  | Udiv ↦ λ _. c.in_default.not-Udiv
  | Urem ↦ λ _. c.in_default.not-Urem
  | Sdiv ↦ λ _. c.in_default.not-Sdiv
  | Srem ↦ λ _. c.in_default.not-Srem
  | Ishl ↦ λ _. c.in_default.not-Ishl
  | Ushr ↦ λ _. c.in_default.not-Ushr
  | Sshr ↦ λ _. c.in_default.not-Sshr
  | Rotl ↦ λ _. c.in_default.not-Rotl
  | Rotr ↦ λ _. c.in_default.not-Rotr
  | Icmp condition ↦ λ _. c.in_default.not-Icmp condition
  | UaddOverflow ↦ λ _. c.in_default.not-UaddOverflow
  | SaddOverflow ↦ λ _. c.in_default.not-SaddOverflow
  | UsubOverflow ↦ λ _. c.in_default.not-UsubOverflow
  | SsubOverflow ↦ λ _. c.in_default.not-SsubOverflow
  | Iconcat ↦ λ _. c.in_default.not-Iconcat
  | _ ↦ λ h. absurd (false≢true h)
]))
