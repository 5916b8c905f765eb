-- canonical_text_has_no_fault
use Rattle.canonical_reads.proofs.Whole.{no_fault}
use Rattle.canonical_reads.proofs.laws.canonical_text_has_no_fault.Goals as goal

pub returns : goal.returns
returns c = λ m is w raw text. no_fault raw
    (c.canonical_text_has_no_duplicate.ensures m is w raw text) (c.canonical_text_defines_its_words.ensures m is w raw text)
    (c.canonical_text_keeps_limits.ensures m is w raw text) (c.canonical_text_tells_types.ensures m is w raw text)
    (c.canonical_text_keeps_sizes.ensures m is w raw text)
