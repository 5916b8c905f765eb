use Rattle.std.proofs.Common.{subst}
use Rattle.std.proofs.lemmas.Option.{IfSome_then}
use Rattle.clif_read.specs.Texts.{Functions}
use Rattle.read_workers.proofs.RangeLaws.{token_range_follows}
use Rattle.read_workers.proofs.token_ranges.TokenRangesRangesRawFunction.read_stretch.Goals as goal

pub returns : goal.returns
returns c =
    let ranges = c.args.self.now in
    IfSome_then c.read_all_functions.result c.read_all_functions.ensures
    (λ found f. token_range_follows ranges.text.now ranges.tokens.now c.args.from c.args.end found.items c.requires (subst (λ us. Functions us found.items) c.between-reader.ensures f))
