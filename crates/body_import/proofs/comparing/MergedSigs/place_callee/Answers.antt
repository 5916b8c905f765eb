use Rattle.std.proofs.Common.{◌∙◌, ℕ, ◌+◌, List, length, ap, sym, refl}
use Rattle.std.specs.Prelude.{nat_eq}
use Rattle.ir_core.specs.declared.declarations.Callee.{Callee}
use Rattle.ir_semantics.specs.Import.{first_place, same_callee}
use Rattle.body_import.specs.CalleeKeys.{numbered, renumbered}
use Rattle.body_import.specs.Compared.{all_sigs}
use Rattle.body_import.proofs.Compared.{put_own, put_behind}
use Rattle.body_import.proofs.comparing.MergedSigs.place_callee.Goals as goal

pub returns-then-place-own : goal.returns-then-place-own
returns-then-place-own c =
    let same = same_callee (all_sigs c.args.self.now) in
    let own = c.args.own.now in
    put_own same own c.args.added.now.items (renumbered c.args.table.now c.args.callee.now) c.find_callee-place.result
    (c.find_callee-place.ensures.place ∙ ap (λ (n : ℕ). first_place same own (numbered n c.args.callee.now)) c.number_at-sig.ensures) c.if-place-own.true

pub returns : goal.returns
returns c =
    let same = same_callee (all_sigs c.args.self.now) in
    let own = c.args.own.now in
    let k = c.args.callee.now in
    let number = c.number_at-sig.ensures in
    put_behind same own c.args.added.now.items (renumbered c.args.table.now k) c.find_callee-place.result
    (c.find_callee-place.ensures.place ∙ ap (λ (n : ℕ). first_place same own (numbered n k)) number) c.find_callee-behind.result (c.find_callee-place.result + c.find_callee-behind.result) _ c.push_callee.new.list.items
    (c.find_callee-behind.ensures.place ∙ (ap (λ (z : List Callee). first_place same z (numbered c.number_at-sig.result k)) c.as_slice.ensures.value ∙ ap (λ (n : ℕ). first_place same c.args.added.now.items (numbered n k)) number)) c.if-place-own.false refl (ap (nat_eq c.find_callee-behind.result) (c.len.ensures ∙ (sym c.as_slice.ensures.len ∙ ap length c.as_slice.ensures.value))) c.in_ok-push_callee.ensures
