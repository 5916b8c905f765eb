use Rattle.names_read_back.proofs.TextMeans.{only_reading}
use Rattle.names_read_back.proofs.laws.canonical_text_reads_as_nothing_else.Goals as goal

pub returns : goal.returns
returns c = λ m is w. only_reading c.one_meaning.ensures m is.whole w.functions (c.writable_text_reads_back.ensures m is w)
