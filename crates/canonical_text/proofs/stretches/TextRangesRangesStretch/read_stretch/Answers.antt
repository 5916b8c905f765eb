use Rattle.std.proofs.Common.{List, sym, subst}
use Rattle.std.proofs.lemmas.Option.{IfSome_then}
use Rattle.range_workers.specs.Follow.{Follow}
use Rattle.read_workers.proofs.RangeLaws.{stretch_read}
use Rattle.canonical_text.specs.declared.stretches.Stretch.{Stretch}
use Rattle.canonical_text.specs.Stretches.{PrintedOfRange}
use Rattle.canonical_text.proofs.StretchLaws.{one_stretch, stretches_follow}
use Rattle.canonical_text.proofs.stretches.TextRangesRangesStretch.read_stretch.Goals as goal

pub returns : goal.returns
returns c =
    let text = c.args.self.now.text.now in
    let range = c.requires in
    let made = c.in_ok-stretch.stretch in
    let (raws, read, printed) = c.in_ok-stretch.ensures in
    let stand = stretch_read text c.args.from c.args.end c.in-Ok.tokens c.new-reader.result raws range.ordered range.ends.0 c.in-Ok.ensures.tokens c.new-reader.ensures read in
    let follow = stretches_follow text c.args.from c.args.end raws _ range.begins stand (one_stretch raws made printed) in
    IfSome_then c.list_one.result c.list_one.ensures
    (λ list is. subst (λ (ss : List Stretch). Follow (PrintedOfRange text) c.args.from c.args.end ss) (sym is) follow)
