-- canonical_text_reads_as_canonical
use Rattle.canonical_reads.proofs.Whole.{reads}
use Rattle.canonical_reads.proofs.laws.canonical_text_reads_as_canonical.Goals as goal

pub returns : goal.returns
returns c = λ m is w. reads m is w (c.writable_text_reads_back.ensures m is w)
    (c.canonical_text_means_canonical.ensures m is w) (c.canonical_text_has_no_fault.ensures m is w)
