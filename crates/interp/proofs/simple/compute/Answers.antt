use Rattle.std.proofs.Common.{◌∙◌, ap, sym}
use Rattle.clk_num.specs.Views.{data_of_all}
use Rattle.ir_semantics.specs.Effect.{evaluated}
use Rattle.byte_store.specs.Cells.{bytes_at}
use Rattle.interp.specs.State.{done}
use Rattle.interp.proofs.Acts.{no_row}
use Rattle.interp.proofs.simple.compute.Goals as goal

pub returns-then-not-fits : goal.returns-then-not-fits
returns-then-not-fits c = λ m below w. ap (λ v. done m c.args.frame.now below w c.args.line.now (evaluated (bytes_at c.args.frame.now.slots) w.memory v)) (no_row c.args.op (data_of_all c.args.args.now) (sym c.if-not-fits.true ∙ c.fits.ensures))
