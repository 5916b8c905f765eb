use Rattle.std.proofs.Common.{◌<◌, arith, refl}
use Rattle.std.specs.Vec.{vec_len}
use Rattle.clif_read.proofs.LineLoop.{last_set}
use Rattle.clif_read.proofs.lines.give_to_last.Goals as goal

pub returns-in-Some : goal.returns-in-Some
returns-in-Some c =
    let some : 0 < vec_len c.args.lines.now = c.in-Some.ensures.variant.0 refl in
    last_set _ c.args.lines.now.items c.in-Some.line.now c.give_values.new.line c.args.values (omega (arith, some)) c.in-Some.ensures.value c.give_values.ensures
