-- canonical_text_keeps_sizes
use Rattle.canonical_reads.proofs.Whole.{none_too_large}
use Rattle.canonical_reads.proofs.laws.canonical_text_keeps_sizes.Goals as goal

pub returns : goal.returns
returns c = λ m is w raw text.
    none_too_large c.same_size.ensures c.canonical_is_same.ensures c.same_is_renamed.ensures c.renamed_keeps_size.ensures
    m is w raw (c.canonical_text_means_canonical.ensures m is w raw text)
