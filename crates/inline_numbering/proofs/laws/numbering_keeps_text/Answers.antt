use Rattle.inline_numbering.proofs.Texts as texts
use Rattle.inline_numbering.proofs.laws.numbering_keeps_text.Goals as goal

pub returns : goal.returns
returns c = texts.numbering_keeps_text
