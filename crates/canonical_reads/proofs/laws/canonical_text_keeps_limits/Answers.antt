-- canonical_text_keeps_limits
use Rattle.canonical_reads.proofs.Whole.{none_outside}
use Rattle.canonical_reads.proofs.laws.canonical_text_keeps_limits.Goals as goal

pub returns : goal.returns
returns c = λ m is w. none_outside m is w (c.writable_text_reads_back.ensures m is w)
