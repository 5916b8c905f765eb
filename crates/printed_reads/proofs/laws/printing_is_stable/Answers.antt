-- printing_is_stable
use Rattle.std.proofs.Common.{sym}
use Rattle.printed_reads.proofs.laws.printing_is_stable.Goals as goal

pub returns : goal.returns
returns c = λ text m n read again. sym (c.numbering_keeps_text.ensures m n (c.printed_reads_same.ensures text m n read again))
