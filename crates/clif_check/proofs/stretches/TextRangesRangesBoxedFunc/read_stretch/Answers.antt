use Rattle.std.proofs.Common.{arith}
use Rattle.std.proofs.lemmas.Option.{IfSome_then}
use Rattle.clif_check.proofs.MeantLaws.{front_follows, kept_follow}
use Rattle.clif_check.proofs.stretches.TextRangesRangesBoxedFunc.read_stretch.Goals as goal

pub returns-then-from-gt0 : goal.returns-then-from-gt0
returns-then-from-gt0 c =
    let ranges = c.args.self.now in
    IfSome_then c.keep_stretch.result c.keep_stretch.ensures
    (λ found kept. kept_follow ranges.part ranges.text.now c.args.from c.args.end found.items c.if-from-gt0.true c.requires.begins kept)

pub returns-else-from-gt0 : goal.returns-else-from-gt0
returns-else-from-gt0 c =
    let ranges = c.args.self.now in
    IfSome_then c.keep_front.result c.keep_front.ensures
    (λ found kept. front_follows ranges.part ranges.text.now c.args.from c.args.end found.items (omega (arith, c.if-from-gt0.false)) kept)
