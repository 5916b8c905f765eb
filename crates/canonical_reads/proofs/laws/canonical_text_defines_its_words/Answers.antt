-- canonical_text_defines_its_words
use Rattle.canonical_reads.proofs.Whole.{none_undefined}
use Rattle.canonical_reads.proofs.laws.canonical_text_defines_its_words.Goals as goal

pub returns : goal.returns
returns c = λ m is w. none_undefined m is w (c.writable_text_reads_back.ensures m is w)
