use Rattle.std.proofs.Common.{◌≡◌, ℕ, true, false, List, Option, Some, None, Ok, Err, IfOk, Result, refl, sym, ap, subst, ◌∙◌}
use Rattle.std.proofs.lemmas.Bool.{not-true, not-false}
use Rattle.grammar.specs.Rules.{Lexeme}
use Rattle.token_reader.specs.declared.stop.Stop.{Stop}
use Rattle.token_reader.specs.declared.stop.Stop.TheVariants as stops
use Rattle.token_reader.specs.Reading.{Stops}
use Rattle.clif_lex.specs.declared.spans.Token.{Token}
use Rattle.clif_read.specs.Declarations.{func_name_at}
use Rattle.clif_words.specs.Lexemes.{lexemes}
use Rattle.test_directives.specs.Directives.{name_by}
use Rattle.test_directives.proofs.Named.{name_read, name_not_read}
use Rattle.test_directives.proofs.names.name_by.Goals as goal

stopped : (text : List ℕ) (ts : List Token) (now : List Lexeme) (stop : Stop) → (stop ≡ stops.NoMemory → ⊥) → Stops now stop (func_name_at (lexemes text ts)) → name_by text ts ≡ None
stopped text ts now stops.NoMemory some e = absurd (some refl)
stopped text ts now stops.Syntax some e = name_not_read text ts _ e
stopped text ts now stops.UnknownOpcode some e = name_not_read text ts _ e
stopped text ts now stops.Unsupported some e = name_not_read text ts _ e

pub returns-then-is_at_end : goal.returns-then-is_at_end
returns-then-is_at_end c =
    let e = ap func_name_at (sym c.new-reader.ensures) ∙ c.in-Ok.ensures.is in
    let left = not-true _ (sym c.is_at_end.ensures ∙ c.if-is_at_end.true) in
    ap (λ (n : List ℕ). Some n) c.in_ok-spelled_name-in-Ok.ensures ∙ sym (name_read c.args.text.now c.args.tokens.now c.in-Ok.name c.read_func_name.new.reader false e left)

pub returns-in-Ok : goal.returns-in-Ok
returns-in-Ok c =
    let e = ap func_name_at (sym c.new-reader.ensures) ∙ c.in-Ok.ensures.is in
    let left = not-false _ (sym c.is_at_end.ensures ∙ c.if-is_at_end.false) in
    sym (name_read c.args.text.now c.args.tokens.now c.in-Ok.name c.read_func_name.new.reader true e left)

by_stop : {E : Type 0} (text : List ℕ) (ts : List Token) (now : List Lexeme) (stop : Stop) (r : Result (Option (List ℕ)) E) → Stops now stop (func_name_at (lexemes text ts))
    → IfOk r (λ n. n ≡ None) → IfOk r (λ n. stop ≡ stops.NoMemory → ⊥) → IfOk r (λ n. n ≡ name_by text ts)
by_stop text ts now stop (Ok n) e none some = none ∙ sym (stopped text ts now stop some e)
by_stop text ts now stop (Err d) e none some = tt

pub returns : goal.returns
returns c =
    by_stop c.args.text.now c.args.tokens.now c.read_func_name.new.reader c.in-Err.stop c.no_name.result
    (subst (λ (l : List Lexeme). Stops c.read_func_name.new.reader c.in-Err.stop (func_name_at l)) c.new-reader.ensures c.in-Err.ensures.is) c.no_name.ensures.none c.no_name.ensures.stop
