use Rattle.std.proofs.Common.{sym, ◌∙◌}
use Rattle.clif_read.proofs.Functions.{all_read}
use Rattle.clif_read.proofs.modules.read_all_functions.Goals as goal

pub returns : goal.returns
returns c = all_read c.args.reader.now c.read_functions.new.reader c.in-Ok.found.items c.in-Ok.ensures.is (sym c.is_at_end.ensures ∙ c.if-not-is_at_end.false)
