use Rattle.std.proofs.lemmas.Option.{IfSome_then}
use Rattle.clif_check.proofs.MeantLaws.{front_has_blocks}
use Rattle.clif_check.proofs.stretches.TextRanges.keep_front.Goals as goal

pub keep_functions-requires : goal.keep_functions-requires
keep_functions-requires c = rw c.as_slice.ensures (front_has_blocks c.args.self.now.text.now c.args.end c.in_ok-front.front c.in_ok-front.ensures)

pub returns : goal.returns
returns c =
    IfSome_then c.keep_functions.result c.keep_functions.ensures
    (λ found kept. (c.in_ok-front.front, c.in_ok-front.ensures, rw c.as_slice.ensures at kept))
