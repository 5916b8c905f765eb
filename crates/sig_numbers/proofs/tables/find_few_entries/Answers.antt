use Rattle.std.proofs.Common.{List, refl, sym, ap, ◌∙◌, arith}
use Rattle.std.specs.Prelude.{slice_get}
use Rattle.std.specs.Option.{option_copied}
use Rattle.ir_core.specs.declared.signatures.Sig.{Sig}
use Rattle.sig_numbers.proofs.Tabled.{none_entered, one_entered}
use Rattle.sig_numbers.proofs.tables.find_few_entries.Goals as goal

pub returns-in_default : goal.returns-in_default
returns-in_default c =
    none_entered c.args.func.now.function c.new.result.items (ap (λ (z : List Sig). slice_get z 0) (sym c.sigs.ensures) ∙ (sym c.first.ensures.value ∙ ap option_copied c.in_default.is)) c.new.ensures.items

pub returns : goal.returns
returns c =
    one_entered c.args.func.now.function c.in-Some.sig.now _ c.push.new.self.items c.requires (ap (λ (z : List Sig). slice_get z 0) (sym c.sigs.ensures) ∙ sym c.in-Some.ensures.value) refl
    (rw (c.as_slice.ensures, c.as_slice-2.ensures, c.sig.ensures) at c.have_same_types-returns_alike.ensures) (grind (arith, c.in_ok-push.ensures.items, c.in_ok-entries.ensures.items))
