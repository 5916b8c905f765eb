-- canonical_text_tells_types
use Rattle.canonical_reads.proofs.Whole.{none_untyped}
use Rattle.canonical_reads.proofs.laws.canonical_text_tells_types.Goals as goal

pub returns : goal.returns
returns c = λ m is w. none_untyped m is w (c.writable_text_reads_back.ensures m is w)
