use Rattle.std.proofs.Common.{ap, ◌∙◌}
use Rattle.clif_words.specs.Lexemes.{lexemes}
use Rattle.token_reader.proofs.Ends.{drop_range}
use Rattle.token_reader.proofs.reader.Reader.between.Goals as goal

pub returns : goal.returns
returns c = c.find.ensures.same ∙ ap (lexemes c.args.text.now) (drop_range c.args.tokens.now c.args.from c.args.«end» c.requires.ordered)
