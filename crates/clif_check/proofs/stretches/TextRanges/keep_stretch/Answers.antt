use Rattle.std.proofs.lemmas.Option.{IfSome_then}
use Rattle.read_workers.proofs.RangeLaws.{stretch_read}
use Rattle.clif_check.proofs.stretches.TextRanges.keep_stretch.Goals as goal

pub returns : goal.returns
returns c =
    let text = c.args.self.now.text.now in
    let range = c.requires in
    IfSome_then c.read_functions.result c.read_functions.ensures
    (λ found keeps. let (raws, read, kept) = keeps in
    (raws, stretch_read text c.args.from c.args.end c.in-Ok.tokens c.new-reader.result raws range.ordered range.ends.0 c.in-Ok.ensures.tokens c.new-reader.ensures read, kept))
