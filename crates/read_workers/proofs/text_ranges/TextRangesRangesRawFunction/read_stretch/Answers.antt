use Rattle.std.proofs.lemmas.Option.{IfSome_then}
use Rattle.read_workers.proofs.RangeLaws.{stretch_read, range_follows}
use Rattle.read_workers.proofs.text_ranges.TextRangesRangesRawFunction.read_stretch.Goals as goal

pub returns : goal.returns
returns c =
    let text = c.args.self.now.text.now in
    let range = c.requires in
    IfSome_then c.read_all_functions.result c.read_all_functions.ensures
    (λ found f. range_follows text c.args.from c.args.end found.items range.begins
    (stretch_read text c.args.from c.args.end c.in-Ok.tokens c.new-reader.result found.items range.ordered range.ends.0 c.in-Ok.ensures.tokens c.new-reader.ensures f))
