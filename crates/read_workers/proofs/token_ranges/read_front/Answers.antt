use Rattle.std.proofs.Common.{slice_range}
use Rattle.clif_words.specs.Lexemes.{lexemes}
use Rattle.clif_read.proofs.Whole.{found_at}
use Rattle.read_workers.proofs.token_ranges.read_front.Goals as goal

pub returns-in-Ok : goal.returns-in-Ok
returns-in-Ok c = found_at (lexemes c.args.text.now (slice_range c.args.tokens.now 0 c.args.end)) c.between-reader.result c.read_whole_module.new.reader 0 c.in-Ok.found c.between-reader.ensures c.in-Ok.ensures.is
