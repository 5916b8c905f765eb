use Rattle.std.proofs.Common.{◌∙◌, ap, slice_range}
use Rattle.std.proofs.lemmas.List.{take_rest}
use Rattle.clif_words.specs.Lexemes.{lexemes}
use Rattle.token_reader.proofs.reader.Reader.new.Goals as goal

pub returns : goal.returns
returns c = c.between.ensures ∙ ap (lexemes c.args.text.now) (ap (slice_range c.args.tokens.now c.args.from) c.len.ensures ∙ take_rest c.args.tokens.now c.args.from)
