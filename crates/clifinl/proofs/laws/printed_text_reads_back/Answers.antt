-- printed_text_reads_back
use Rattle.clifinl.proofs.laws.printed_text_reads_back.Goals as goal

pub returns : goal.returns
returns c = λ text m accepted.
    c.canonical_text_reads_back.ensures m (c.read_is_module.ensures text m accepted.reads)
    (c.read_is_writable.ensures text m accepted.reads) accepted.accepted
