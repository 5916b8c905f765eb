-- printing_is_read
use Rattle.printed_reads.proofs.laws.printing_is_read.Goals as goal

pub returns : goal.returns
returns c = λ text m read.
    c.canonical_text_reads_as_canonical.ensures m (c.read_is_module.ensures text m read) (c.read_is_writable.ensures text m read)
