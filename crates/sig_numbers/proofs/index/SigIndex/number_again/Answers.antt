use Rattle.std.proofs.Common.{◌≡◌, sym, ap, ◌∙◌}
use Rattle.ir_core.proofs.Equal.{sig_equal}
use Rattle.sig_numbers.specs.Index.{number_of}
use Rattle.sig_numbers.proofs.index.SigIndex.number_again.Goals as goal

pub returns-in-Some : goal.returns-in-Some
returns-in-Some c =
    let same : c.in-Some.last.sig.now ≡ c.args.sig.now = sig_equal c.in-Some.last.sig.now c.args.sig.now (sym c.if-is_same_sig.ensures) in
    ap (number_of c.args.self.now) (sym same) ∙ c.requires.last c.in-Some.last c.in-Some.is
