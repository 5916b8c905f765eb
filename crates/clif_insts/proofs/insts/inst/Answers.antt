use Rattle.std.proofs.Common.{drop, ap, ◌∙◌}
use Rattle.clif_lex.proofs.Stretches.{tokens_are_in}
use Rattle.clif_words.specs.Lexemes.{lexemes}
use Rattle.clif_insts.specs.Insts.{place_of, place_left}
use Rattle.clif_insts.proofs.Known.{known_inst}
use Rattle.clif_insts.proofs.One.{found_at, stopped_at}
use Rattle.clif_insts.proofs.insts.inst.Goals as goal

pub new-reader-requires-clause-inside : goal.new-reader-requires-clause-inside
new-reader-requires-clause-inside c = tokens_are_in c.args.text.now c.args.tokens.now c.requires.whole

pub returns-in-Ok-clause-found : goal.returns-in-Ok-clause-found
returns-in-Ok-clause-found c =
    found_at (lexemes c.args.text.now (drop c.args.i c.args.tokens.now)) c.new-reader.result c.read_one_inst-read.new.reader (place_left c.args.text.now c.args.tokens.now c.args.i) c.find_place-place.result c.in-Ok.found
    c.new-reader.ensures (c.find_place-place.ensures ∙ ap (place_of c.args.tokens.now c.args.i) c.spot_or.ensures) c.in-Ok.ensures

pub returns-in-Ok-clause-formed : goal.returns-in-Ok-clause-formed
returns-in-Ok-clause-formed c =
    (known_inst c.args.text.now c.args.tokens.now c.args.i (place_left c.args.text.now c.args.tokens.now c.args.i) c.requires.whole c.in-Ok.found c.find_place-place.result
    (returns-in-Ok-clause-found c)).0

pub returns-in-Ok-clause-marks : goal.returns-in-Ok-clause-marks
returns-in-Ok-clause-marks c =
    (known_inst c.args.text.now c.args.tokens.now c.args.i (place_left c.args.text.now c.args.tokens.now c.args.i) c.requires.whole c.in-Ok.found c.find_place-place.result
    (returns-in-Ok-clause-found c)).1

pub returns-in-Err-clause-stop : goal.returns-in-Err-clause-stop
returns-in-Err-clause-stop c =
    let s = stopped_at (lexemes c.args.text.now (drop c.args.i c.args.tokens.now)) c.new-reader.result c.read_one_inst-read.new.reader (place_left c.args.text.now c.args.tokens.now c.args.i) c.find_place-place.result c.in-Err.stop
    c.new-reader.ensures (c.find_place-place.ensures ∙ ap (place_of c.args.tokens.now c.args.i) c.spot_or.ensures) c.in-Err.ensures in
    rw c.make_error.ensures s
