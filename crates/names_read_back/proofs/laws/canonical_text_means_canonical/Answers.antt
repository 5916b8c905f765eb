use Rattle.names_read_back.proofs.TextMeans.{text_means}
use Rattle.names_read_back.proofs.laws.canonical_text_means_canonical.Goals as goal

pub returns : goal.returns
returns c = λ m is w. text_means m is.whole w.functions (c.writable_text_reads_back.ensures m is w)
