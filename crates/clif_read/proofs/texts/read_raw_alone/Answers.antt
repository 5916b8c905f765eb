use Rattle.std.proofs.Common.{length, refl}
use Rattle.clif_lex.proofs.Stretches.{tokens_are_in}
use Rattle.clif_words.specs.Lexemes.{lexemes}
use Rattle.clif_words.proofs.TextTokens.{text_tokens}
use Rattle.clif_read.proofs.ModuleFormed.{module_formed}
use Rattle.clif_read.proofs.Whole.{found_at, stopped_at}
use Rattle.clif_read.proofs.Within.{stopped_within}
use Rattle.clif_read.proofs.texts.read_raw_alone.Goals as goal

pub new-reader-requires-clause-inside : goal.new-reader-requires-clause-inside
new-reader-requires-clause-inside c = tokens_are_in c.args.text.now c.args.tokens.now c.requires.whole

pub returns-in-Ok-clause-found : goal.returns-in-Ok-clause-found
returns-in-Ok-clause-found c =
    found_at (lexemes c.args.text.now c.args.tokens.now) c.new-reader.result c.read_whole_module-read.new.reader (length c.args.text.now) c.in-Ok.found c.new-reader.ensures c.in-Ok.ensures.is

pub returns-in-Ok-clause-formed : goal.returns-in-Ok-clause-formed
returns-in-Ok-clause-formed c =
    module_formed (length c.args.text.now) (lexemes c.args.text.now c.args.tokens.now) c.in-Ok.found (text_tokens c.args.text.now c.args.tokens.now c.requires.whole) (returns-in-Ok-clause-found c)

pub returns-in-Err-clause-stop : goal.returns-in-Err-clause-stop
returns-in-Err-clause-stop c =
    let s = stopped_at (lexemes c.args.text.now c.args.tokens.now) c.new-reader.result c.read_whole_module-read.new.reader (length c.args.text.now) (length c.args.text.now) c.spot_or-spot.result c.in-Err.stop
    c.new-reader.ensures refl c.spot_or-spot.ensures c.in-Err.ensures.is in
    rw c.make_error.ensures s

pub returns-in-Err-clause-within : goal.returns-in-Err-clause-within
returns-in-Err-clause-within c = stopped_within c.args.text.now c.args.tokens.now _ c.requires.whole (returns-in-Err-clause-stop c)
