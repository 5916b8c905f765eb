use Rattle.std.proofs.Common.{false, ap, ◌∙◌}
use Rattle.std.specs.Prelude.{slice_get}
use Rattle.ir_core.specs.Module.{Function}
use Rattle.sig_numbers.specs.Known.{function_of}
use Rattle.sig_numbers.specs.Tables.{return_alike}
use Rattle.sig_numbers.proofs.Tabled.{flag_read}
use Rattle.sig_numbers.proofs.sigs.FuncSigs.returns_alike.Goals as goal

pub returns : goal.returns
returns c = λ s p.
    let f : Function = function_of c.self.inside in
    flag_read (return_alike f.sig) f.sigs c.self.inside.entries.now c.self.invariant.entries.flags c.args.sig c.number.result (record { number = 0; returns_alike = false }) s (ap (λ (z : Function). slice_get z.sigs c.args.sig) c.self.view_is ∙ p) c.number.ensures
    ∙ ap (λ (z : Function). return_alike z.sig s) c.self.view_is
