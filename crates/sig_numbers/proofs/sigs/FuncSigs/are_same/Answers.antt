use Rattle.std.proofs.Common.{false, ap, ◌∙◌}
use Rattle.std.specs.Prelude.{slice_get}
use Rattle.ir_core.specs.Module.{Function}
use Rattle.sig_numbers.specs.declared.tables.SigEntry.{SigEntry}
use Rattle.sig_numbers.specs.Known.{function_of}
use Rattle.sig_numbers.proofs.Tabled.{same_by_number, number_read}
use Rattle.sig_numbers.proofs.sigs.FuncSigs.are_same.Goals as goal

pub returns : goal.returns
returns c = λ s t p q.
    let f : Function = function_of c.self.inside in
    let number = c.self.invariant.number in
    let none : SigEntry = record { number = 0; returns_alike = false } in
    let first = number_read number f c.self.inside.entries.now c.self.invariant.entries c.args.a c.number.result none s (ap (λ (z : Function). slice_get z.sigs c.args.a) c.self.view_is ∙ p) c.number.ensures in
    let second = number_read number f c.self.inside.entries.now c.self.invariant.entries c.args.b c.number-2.result none t (ap (λ (z : Function). slice_get z.sigs c.args.b) c.self.view_is ∙ q) c.number-2.ensures in
    same_by_number number c.self.invariant.tells s t _ _ first second
