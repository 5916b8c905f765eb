use Rattle.clif_words.proofs.Printed.{printed_word}
use Rattle.clif_words.proofs.laws.printed_words.Goals as goal

pub returns : goal.returns
returns c = printed_word
