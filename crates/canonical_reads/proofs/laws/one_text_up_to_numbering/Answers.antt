-- one_text_up_to_numbering
use Rattle.canonical_reads.proofs.Whole.{one_text}
use Rattle.canonical_reads.proofs.laws.one_text_up_to_numbering.Goals as goal

pub returns : goal.returns
returns c = one_text c.canonical_text_reads_as_canonical.ensures c.canonical_text_reads_as_nothing_else.ensures
    c.numbering_keeps_text.ensures
