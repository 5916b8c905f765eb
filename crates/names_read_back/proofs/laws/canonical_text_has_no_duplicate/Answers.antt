use Rattle.names_read_back.proofs.NoRepeats.{text_has_none_twice}
use Rattle.names_read_back.proofs.laws.canonical_text_has_no_duplicate.Goals as goal

pub returns : goal.returns
returns c = λ m is w. text_has_none_twice m is w.functions (c.writable_text_reads_back.ensures m is w)
