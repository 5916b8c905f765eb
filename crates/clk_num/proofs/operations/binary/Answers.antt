use Rattle.std.proofs.Common.{true, ap, ◌≡◌, ◌∙◌, Bool}
use Rattle.std.proofs.lemmas.Bool.{false≢true}
use Rattle.clk_num.specs.declared.op.Op.{Op}
use Rattle.clk_num.specs.declared.op.Op.TheVariants.{Iadd, Isub, Imul, Band, Bor, Bxor, Smin, Smax, Umin, Umax, Umulhi, Smulhi, Udiv, Urem, Sdiv, Srem, Ishl, Ushr, Sshr, Rotl, Rotr, Icmp, UaddOverflow, SaddOverflow, UsubOverflow, SsubOverflow, Iconcat}
use Rattle.clk_num.specs.declared.width.Width.{Width}
use Rattle.clk_num.specs.declared.width.Width.TheVariants.{W8}
use Rattle.clk_num.specs.Width.{double}
use Rattle.clk_num.specs.Rows.{row, any, up_to_64, one, with_flag}
use Rattle.clk_num.specs.Operations.{meaning, value_of, flag_of}
use Rattle.std.specs.Prelude.{[], ◌∷◌}
use Rattle.clk_num.proofs.RowLemmas.{means, single, pair, fits_at, fits_two, narrow_is, is_binary, binary_arm}
use Rattle.clk_num.proofs.operations.binary.Goals as goal

pub returns-in-Iadd : goal.returns-in-Iadd
unfolding meaning
returns-in-Iadd c = means _ Iadd _ _ c.in-Iadd.is (single _ _ c.iadd.ensures)

pub returns-in-Isub : goal.returns-in-Isub
unfolding meaning
returns-in-Isub c = means _ Isub _ _ c.in-Isub.is (single _ _ c.isub.ensures)

pub returns-in-Imul : goal.returns-in-Imul
unfolding meaning
returns-in-Imul c = means _ Imul _ _ c.in-Imul.is (single _ _ c.imul.ensures)

pub returns-in-Band : goal.returns-in-Band
unfolding meaning
returns-in-Band c = means _ Band _ _ c.in-Band.is (single _ _ c.band.ensures)

pub returns-in-Bor : goal.returns-in-Bor
unfolding meaning
returns-in-Bor c = means _ Bor _ _ c.in-Bor.is (single _ _ c.bor.ensures)

pub returns-in-Bxor : goal.returns-in-Bxor
unfolding meaning
returns-in-Bxor c = means _ Bxor _ _ c.in-Bxor.is (single _ _ c.bxor.ensures)

pub returns-in-Smin : goal.returns-in-Smin
unfolding meaning
returns-in-Smin c = means _ Smin _ _ c.in-Smin.is (single _ _ c.smin.ensures)

pub returns-in-Smax : goal.returns-in-Smax
unfolding meaning
returns-in-Smax c = means _ Smax _ _ c.in-Smax.is (single _ _ c.smax.ensures)

pub returns-in-Umin : goal.returns-in-Umin
unfolding meaning
returns-in-Umin c = means _ Umin _ _ c.in-Umin.is (single _ _ c.umin.ensures)

pub returns-in-Umax : goal.returns-in-Umax
unfolding meaning
returns-in-Umax c = means _ Umax _ _ c.in-Umax.is (single _ _ c.umax.ensures)

pub returns-in-Umulhi : goal.returns-in-Umulhi
unfolding meaning
returns-in-Umulhi c = means _ Umulhi _ _ c.in-Umulhi.is (single _ _ c.umulhi.ensures)

pub returns-in-Smulhi : goal.returns-in-Smulhi
unfolding meaning
returns-in-Smulhi c = means _ Smulhi _ _ c.in-Smulhi.is (single _ _ c.smulhi.ensures)

pub returns-in-Udiv : goal.returns-in-Udiv
unfolding meaning
returns-in-Udiv c = means _ Udiv _ _ c.in-Udiv.is c.udiv.ensures

pub returns-in-Urem : goal.returns-in-Urem
unfolding meaning
returns-in-Urem c = means _ Urem _ _ c.in-Urem.is c.urem.ensures

pub returns-in-Sdiv : goal.returns-in-Sdiv
unfolding meaning
returns-in-Sdiv c = means _ Sdiv _ _ c.in-Sdiv.is c.sdiv.ensures

pub returns-in-Srem : goal.returns-in-Srem
unfolding meaning
returns-in-Srem c = means _ Srem _ _ c.in-Srem.is c.srem.ensures

pub returns-in-Ishl : goal.returns-in-Ishl
unfolding meaning
returns-in-Ishl c = means _ Ishl _ _ c.in-Ishl.is (single _ _ c.ishl.ensures)

pub returns-in-Ushr : goal.returns-in-Ushr
unfolding meaning
returns-in-Ushr c = means _ Ushr _ _ c.in-Ushr.is (single _ _ c.ushr.ensures)

pub returns-in-Sshr : goal.returns-in-Sshr
unfolding meaning
returns-in-Sshr c = means _ Sshr _ _ c.in-Sshr.is (single _ _ c.sshr.ensures)

pub returns-in-Rotl : goal.returns-in-Rotl
unfolding meaning
returns-in-Rotl c = means _ Rotl _ _ c.in-Rotl.is (single _ _ c.rotl.ensures)

pub returns-in-Rotr : goal.returns-in-Rotr
unfolding meaning
returns-in-Rotr c = means _ Rotr _ _ c.in-Rotr.is (single _ _ c.rotr.ensures)

pub returns-in-Icmp : goal.returns-in-Icmp
unfolding meaning
returns-in-Icmp c = means _ (Icmp c.in-Icmp.cc) _ _ c.in-Icmp.is (single _ _ (c.flag.ensures ∙ ap (λ (b : Bool). value_of W8 (flag_of b)) c.compare.ensures))

pub returns-in-UaddOverflow : goal.returns-in-UaddOverflow
unfolding meaning
returns-in-UaddOverflow c = means _ UaddOverflow _ _ c.in-UaddOverflow.is (pair _ _ _ _ c.iadd-in-UaddOverflow.ensures (c.flag-in-UaddOverflow.ensures ∙ ap (λ (b : Bool). value_of W8 (flag_of b)) c.uadd_overflows.ensures))

pub returns-in-SaddOverflow : goal.returns-in-SaddOverflow
unfolding meaning
returns-in-SaddOverflow c = means _ SaddOverflow _ _ c.in-SaddOverflow.is (pair _ _ _ _ c.iadd-in-SaddOverflow.ensures (c.flag-in-SaddOverflow.ensures ∙ ap (λ (b : Bool). value_of W8 (flag_of b)) c.sadd_overflows.ensures))

pub returns-in-UsubOverflow : goal.returns-in-UsubOverflow
unfolding meaning
returns-in-UsubOverflow c = means _ UsubOverflow _ _ c.in-UsubOverflow.is (pair _ _ _ _ c.isub-in-UsubOverflow.ensures (c.flag-in-UsubOverflow.ensures ∙ ap (λ (b : Bool). value_of W8 (flag_of b)) c.usub_overflows.ensures))

pub returns-in-SsubOverflow : goal.returns-in-SsubOverflow
unfolding meaning
returns-in-SsubOverflow c = means _ SsubOverflow _ _ c.in-SsubOverflow.is (pair _ _ _ _ c.isub-in-SsubOverflow.ensures (c.flag-in-SsubOverflow.ensures ∙ ap (λ (b : Bool). value_of W8 (flag_of b)) c.ssub_overflows.ensures))

pub returns-in-Iconcat : goal.returns-in-Iconcat
unfolding meaning
returns-in-Iconcat c = means _ Iconcat _ _ c.in-Iconcat.is (single _ _ c.iconcat.ensures)

pub isub-requires : goal.isub-requires
unfolding row
isub-requires c = (fits_two any one c.args.x.width c.args.y.width (fits_at _ Isub _ c.in-Isub.is c.requires)).0

pub smin-requires : goal.smin-requires
unfolding row
smin-requires c = (fits_two any one c.args.x.width c.args.y.width (fits_at _ Smin _ c.in-Smin.is c.requires)).0

pub smax-requires : goal.smax-requires
unfolding row
smax-requires c = (fits_two any one c.args.x.width c.args.y.width (fits_at _ Smax _ c.in-Smax.is c.requires)).0

pub umin-requires : goal.umin-requires
unfolding row
umin-requires c = (fits_two any one c.args.x.width c.args.y.width (fits_at _ Umin _ c.in-Umin.is c.requires)).0

pub umax-requires : goal.umax-requires
unfolding row
umax-requires c = (fits_two any one c.args.x.width c.args.y.width (fits_at _ Umax _ c.in-Umax.is c.requires)).0

pub umulhi-requires-clause-same : goal.umulhi-requires-clause-same
unfolding row
umulhi-requires-clause-same c = (fits_two up_to_64 one c.args.x.width c.args.y.width (fits_at _ Umulhi _ c.in-Umulhi.is c.requires)).0

pub umulhi-requires-clause-narrow : goal.umulhi-requires-clause-narrow
unfolding row
umulhi-requires-clause-narrow c = narrow_is _ (fits_two up_to_64 one c.args.x.width c.args.y.width (fits_at _ Umulhi _ c.in-Umulhi.is c.requires)).1

pub smulhi-requires-clause-same : goal.smulhi-requires-clause-same
unfolding row
smulhi-requires-clause-same c = (fits_two up_to_64 one c.args.x.width c.args.y.width (fits_at _ Smulhi _ c.in-Smulhi.is c.requires)).0

pub smulhi-requires-clause-narrow : goal.smulhi-requires-clause-narrow
unfolding row
smulhi-requires-clause-narrow c = narrow_is _ (fits_two up_to_64 one c.args.x.width c.args.y.width (fits_at _ Smulhi _ c.in-Smulhi.is c.requires)).1

pub udiv-requires : goal.udiv-requires
unfolding row
udiv-requires c = (fits_two up_to_64 one c.args.x.width c.args.y.width (fits_at _ Udiv _ c.in-Udiv.is c.requires)).0

pub urem-requires : goal.urem-requires
unfolding row
urem-requires c = (fits_two up_to_64 one c.args.x.width c.args.y.width (fits_at _ Urem _ c.in-Urem.is c.requires)).0

pub sdiv-requires : goal.sdiv-requires
unfolding row
sdiv-requires c = (fits_two up_to_64 one c.args.x.width c.args.y.width (fits_at _ Sdiv _ c.in-Sdiv.is c.requires)).0

pub srem-requires : goal.srem-requires
unfolding row
srem-requires c = (fits_two up_to_64 one c.args.x.width c.args.y.width (fits_at _ Srem _ c.in-Srem.is c.requires)).0

pub compare-requires : goal.compare-requires
unfolding row
compare-requires c = (fits_two any (λ (t : Width). W8 ∷ []) c.args.x.width c.args.y.width (fits_at _ (Icmp c.in-Icmp.cc) _ c.in-Icmp.is c.requires)).0

pub uadd_overflows-requires : goal.uadd_overflows-requires
unfolding row
uadd_overflows-requires c = (fits_two any with_flag c.args.x.width c.args.y.width (fits_at _ UaddOverflow _ c.in-UaddOverflow.is c.requires)).0

pub sadd_overflows-requires : goal.sadd_overflows-requires
unfolding row
sadd_overflows-requires c = (fits_two any with_flag c.args.x.width c.args.y.width (fits_at _ SaddOverflow _ c.in-SaddOverflow.is c.requires)).0

pub isub-requires-in-UsubOverflow : goal.isub-requires-in-UsubOverflow
unfolding row
isub-requires-in-UsubOverflow c = (fits_two any with_flag c.args.x.width c.args.y.width (fits_at _ UsubOverflow _ c.in-UsubOverflow.is c.requires)).0

pub isub-requires-in-SsubOverflow : goal.isub-requires-in-SsubOverflow
unfolding row
isub-requires-in-SsubOverflow c = (fits_two any with_flag c.args.x.width c.args.y.width (fits_at _ SsubOverflow _ c.in-SsubOverflow.is c.requires)).0

pub ssub_overflows-requires : goal.ssub_overflows-requires
unfolding row
ssub_overflows-requires c = (fits_two any with_flag c.args.x.width c.args.y.width (fits_at _ SsubOverflow _ c.in-SsubOverflow.is c.requires)).0

pub iconcat-requires-clause-same : goal.iconcat-requires-clause-same
unfolding row
iconcat-requires-clause-same c = (fits_two up_to_64 (λ (t : Width). double t ∷ []) c.args.x.width c.args.y.width (fits_at _ Iconcat _ c.in-Iconcat.is c.requires)).0

pub iconcat-requires-clause-narrow : goal.iconcat-requires-clause-narrow
unfolding row
iconcat-requires-clause-narrow c = narrow_is _ (fits_two up_to_64 (λ (t : Width). double t ∷ []) c.args.x.width c.args.y.width (fits_at _ Iconcat _ c.in-Iconcat.is c.requires)).1

pub unreachable-requires : goal.unreachable-requires
unreachable-requires c = binary_arm _ _ _ c.requires (λ (o : Op). elim o as (λ (o : Op). is_binary o ≡ true → c.args.op ≡ o → ⊥) [
  | Iadd ↦ λ _. c.in_default.not-Iadd
  | Isub ↦ λ _. c.in_default.not-Isub
  | Imul ↦ λ _. c.in_default.not-Imul
  | Band ↦ λ _. c.in_default.not-Band
  | Bor ↦ λ _. c.in_default.not-Bor
  | Bxor ↦ λ _. c.in_default.not-Bxor
  | Smin ↦ λ _. c.in_default.not-Smin
  | Smax ↦ λ _. c.in_default.not-Smax
  | Umin ↦ λ _. c.in_default.not-Umin
  | Umax ↦ λ _. c.in_default.not-Umax
  | Umulhi ↦ λ _. c.in_default.not-Umulhi
  | Smulhi ↦ λ _. c.in_default.not-Smulhi
  | Udiv ↦ λ _. c.in_default.not-Udiv
  | Urem ↦ λ _. c.in_default.not-Urem
  | Sdiv ↦ λ _. c.in_default.not-Sdiv
  | Srem ↦ λ _. c.in_default.not-Srem
  | Ishl ↦ λ _. c.in_default.not-Ishl
  | Ushr ↦ λ _. c.in_default.not-Ushr
  | Sshr ↦ λ _. c.in_default.not-Sshr
  | Rotl ↦ λ _. c.in_default.not-Rotl
  | Rotr ↦ λ _. c.in_default.not-Rotr
  | Icmp condition ↦ λ _. c.in_default.not-Icmp condition
  | UaddOverflow ↦ λ _. c.in_default.not-UaddOverflow
  | SaddOverflow ↦ λ _. c.in_default.not-SaddOverflow
  | UsubOverflow ↦ λ _. c.in_default.not-UsubOverflow
  | SsubOverflow ↦ λ _. c.in_default.not-SsubOverflow
  | Iconcat ↦ λ _. c.in_default.not-Iconcat
  | _ ↦ λ h. absurd (false≢true h)
])
