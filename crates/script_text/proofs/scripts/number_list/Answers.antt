use Rattle.std.proofs.Common.{◌≡◌, map, sym, ap, subst, ◌∙◌}
use Rattle.token_reader.specs.Reading.{Stops}
use Rattle.script_text.specs.Symbols.{lexeme_of}
use Rattle.script_text.specs.Lexed.{lexed}
use Rattle.script_text.specs.Grammar.{number_list_is_good}
use Rattle.script_text.specs.Reading.{whole, number_list_at}
use Rattle.script_text.proofs.Parts.{number_list_is}
use Rattle.script_text.proofs.Answered.{reads, refuses}
use Rattle.script_text.proofs.scripts.number_list.Goals as goal

pub returns-in-Ok-clause-read : goal.returns-in-Ok-clause-read
returns-in-Ok-clause-read c =
    let tokens : c.new-reader.result ≡ lexed c.args.text.now =
    c.new-reader.ensures ∙ (ap (map lexeme_of) c.as_slice.ensures.value ∙ (c.in_ok-symbols.ensures.symbols ∙ ap lexed c.as_bytes.ensures.value)) in
    reads number_list_is number_list_is_good c.args.text.now c.in-Ok.numbers.items c.read_whole_list.new.reader (ap (whole number_list_at) (sym tokens) ∙ c.in-Ok.ensures)

pub returns-clause-refused : goal.returns-clause-refused
returns-clause-refused c =
    let tokens : c.new-reader.result ≡ lexed c.args.text.now =
    c.new-reader.ensures ∙ (ap (map lexeme_of) c.as_slice.ensures.value ∙ (c.in_ok-symbols.ensures.symbols ∙ ap lexed c.as_bytes.ensures.value)) in
    rw (c.make_error.ensures, c.spot_or.ensures)
    (refuses number_list_is number_list_is_good c.args.text.now c.in-Err.stop c.read_whole_list.new.reader (subst (λ ts. Stops c.read_whole_list.new.reader c.in-Err.stop (whole number_list_at ts)) tokens c.in-Err.ensures))
