use Rattle.std.proofs.Common.{◌∙◌, ◌+◌, List, length, ap, sym, refl}
use Rattle.std.specs.Prelude.{nat_eq}
use Rattle.ir_core.specs.Signatures.{same_sig}
use Rattle.ir_semantics.specs.Import.{first_place}
use Rattle.ir_core.specs.declared.signatures.Sig.{Sig}
use Rattle.body_import.proofs.Compared.{put_own, put_behind}
use Rattle.body_import.proofs.comparing.place_sig.Goals as goal

pub returns-then-place-own : goal.returns-then-place-own
returns-then-place-own c = put_own same_sig c.args.own.now c.args.added.now.items c.args.sig.now c.find_sig-place.result c.find_sig-place.ensures.place c.if-place-own.true

pub returns : goal.returns
returns c =
    put_behind same_sig c.args.own.now c.args.added.now.items c.args.sig.now c.find_sig-place.result c.find_sig-place.ensures.place c.find_sig-behind.result (c.find_sig-place.result + c.find_sig-behind.result) _ c.push_sig.new.list.items
    (c.find_sig-behind.ensures.place ∙ ap (λ (z : List Sig). first_place same_sig z c.args.sig.now) c.as_slice.ensures.value) c.if-place-own.false refl (ap (nat_eq c.find_sig-behind.result) (c.len.ensures ∙ (sym c.as_slice.ensures.len ∙ ap length c.as_slice.ensures.value))) c.in_ok-push_sig.ensures
