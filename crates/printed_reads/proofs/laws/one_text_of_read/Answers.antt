-- one_text_of_read
use Rattle.printed_reads.proofs.laws.one_text_of_read.Goals as goal

pub returns : goal.returns
returns c = λ text other m n read same.
    c.one_text_up_to_numbering.ensures m n (c.read_is_module.ensures text m read) (c.read_is_writable.ensures text m read)
    (c.read_is_module.ensures other n same) (c.read_is_writable.ensures other n same)
