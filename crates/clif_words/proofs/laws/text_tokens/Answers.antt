use Rattle.clif_words.proofs.TextTokens.{text_tokens}
use Rattle.clif_words.proofs.laws.text_tokens.Goals as goal

pub returns : goal.returns
returns c = λ text tokens lexed. text_tokens text tokens lexed
