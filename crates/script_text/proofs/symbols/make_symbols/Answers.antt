use Rattle.std.proofs.Common.{rules, ◌≡◌}
use Rattle.token_reader.proofs.Views.{some_at, if_some}
use Rattle.script_text.specs.Symbols.{lexeme, lexeme_of}
use Rattle.script_text.proofs.Tokens.{one_more}
use Rattle.script_text.proofs.symbols.make_symbols.Goals as goal

pub tokens-preserved : goal.tokens-preserved
tokens-preserved c =
    let t = some_at c.args.tokens.now c.tokens.i (search rules) in
    let same = if_some (λ token. lexeme_of c.make_symbol_at.result ≡ lexeme c.args.text.now token) _ t.0 t.1 c.make_symbol_at.ensures in
    rw c.in_ok-push.ensures.items (one_more c.args.text.now c.args.tokens.now c.tokens.i t.0 c.tokens.list.items c.make_symbol_at.result t.1 same c.tokens.invariant)
