use Rattle.std.proofs.Common.{◌≡◌, map, sym, ap, subst, ◌∙◌}
use Rattle.token_reader.specs.Reading.{Stops}
use Rattle.host_script.specs.Script.{reply_of}
use Rattle.script_text.specs.Symbols.{lexeme_of}
use Rattle.script_text.specs.Lexed.{lexed}
use Rattle.script_text.specs.Grammar as grammar
use Rattle.script_text.specs.Grammar.{script_is_good}
use Rattle.script_text.specs.Values.{script_value}
use Rattle.script_text.specs.Scripts.{Reads}
use Rattle.script_text.specs.Reading.{whole, script_at}
use Rattle.script_text.proofs.Parts.{script_is}
use Rattle.script_text.proofs.Answered.{reads, refuses}
use Rattle.script_text.proofs.scripts.script.Goals as goal

pub returns-in-Ok-clause-read : goal.returns-in-Ok-clause-read
returns-in-Ok-clause-read c =
    let tokens : c.new-reader.result ≡ lexed c.args.text.now =
    c.new-reader.ensures ∙ (ap (map lexeme_of) c.as_slice.ensures.value ∙ (c.in_ok-symbols.ensures.symbols ∙ ap lexed c.as_bytes.ensures.value)) in
    subst (λ replies. Reads grammar.script script_value c.args.text.now (map reply_of replies)) (sym c.from_vec.ensures)
    (reads script_is script_is_good c.args.text.now (map reply_of c.in-Ok.replies.items) c.read_whole_script.new.reader (ap (whole script_at) (sym tokens) ∙ c.in-Ok.ensures))

pub returns-clause-refused : goal.returns-clause-refused
returns-clause-refused c =
    let tokens : c.new-reader.result ≡ lexed c.args.text.now =
    c.new-reader.ensures ∙ (ap (map lexeme_of) c.as_slice.ensures.value ∙ (c.in_ok-symbols.ensures.symbols ∙ ap lexed c.as_bytes.ensures.value)) in
    rw (c.make_error.ensures, c.spot_or.ensures)
    (refuses script_is script_is_good c.args.text.now c.in-Err.stop c.read_whole_script.new.reader (subst (λ ts. Stops c.read_whole_script.new.reader c.in-Err.stop (whole script_at ts)) tokens c.in-Err.ensures))
