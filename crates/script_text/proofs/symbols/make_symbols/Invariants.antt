use Rattle.std.proofs.Common.{◌≡◌, map, take}
use Rattle.script_text.specs.Symbols.{lexeme, lexeme_of}
use Rattle.script_text.proofs.symbols.make_symbols.Given as goal

abbrev pub invariant-tokens : goal.invariant-tokens
invariant-tokens l = map lexeme_of l.list.items ≡ map (lexeme l.text) (take l.i l.tokens)
