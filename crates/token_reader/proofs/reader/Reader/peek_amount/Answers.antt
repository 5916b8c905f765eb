use mir.Syntax.{w128}
use mir.Val.{SFits}
use Rattle.std.proofs.lemmas.Int.{to_z-of_z}
use Rattle.std.proofs.Common.{◌≡◌, take, true, false, sym, ◌∙◌, rules}
use Rattle.clif_lex.specs.declared.spans.Token.{Token}
use Rattle.clif_lex.specs.declared.spans.TokenKind.TheVariants.{Number}
use Rattle.clif_lex.specs.Numbers.{spelled_number}
use Rattle.clif_lex.specs.Spans.{spelling}
use Rattle.clif_words.specs.Lexemes.{is_number}
use Rattle.token_reader.proofs.Ends.{next_within, some_taken}
use Rattle.token_reader.proofs.Shown.{shown_not}
use Rattle.token_reader.proofs.Views.{amount_is, number_kind, if_some, to_if_some}
use Rattle.token_reader.proofs.reader.Reader.peek_amount.Goals as goal

pub get-token-requires : goal.get-token-requires
get-token-requires c = let i = c.self.inside in (next_within i.text.now i.tokens.now i.next.at i.«end» (rw (c.self.view_is) c.requires)).1

pub number-requires-clause-below : goal.number-requires-clause-below
number-requires-clause-below c = let i = c.self.inside in (next_within i.text.now i.tokens.now i.next.at i.«end» (rw (c.self.view_is) c.requires)).1

pub number-requires-clause-kind : goal.number-requires-clause-kind
number-requires-clause-kind c = to_if_some (λ (t : Token). t.kind ≡ Number) _ c.get-token.result c.get-token.ensures (number_kind c.get-token.result.kind (sym c.is_number.ensures ∙ c.if-is_number.true))

pub returns-then-is_number : goal.returns-then-is_number
returns-then-is_number c = λ x xs e.
    let i = c.self.inside in
    let t = c.get-token.result in
    let within = next_within i.text.now i.tokens.now i.next.at i.«end» (rw (c.self.view_is) c.requires) in
    let kept = some_taken i.tokens.now i.next.at i.«end» t within.0 c.get-token.ensures in
    let same = amount_is i.text.now (take i.«end» i.tokens.now) i.next.at t x xs kept (shown_not i.text.now (take i.«end» i.tokens.now) i.next.at t i.next kept c.self.invariant.3) (c.self.view_is ∙ e) in
    let spelled = if_some (λ (z : Token). c.number.result ≡ spelled_number (spelling i.text.now z)) _ t c.get-token.ensures c.number.ensures in
    let is : is_number t.kind ≡ true = sym c.is_number.ensures ∙ c.if-is_number.true in
    let all : c.number.result ≡ x.amount = spelled ∙ (rw is at same.0) in
    let fits : SFits w128 c.number.result = search rules in
    to_z-of_z w128 c.number.result fits ∙ all

pub returns-else-is_number : goal.returns-else-is_number
returns-else-is_number c = λ x xs e.
    let i = c.self.inside in
    let t = c.get-token.result in
    let within = next_within i.text.now i.tokens.now i.next.at i.«end» (rw (c.self.view_is) c.requires) in
    let kept = some_taken i.tokens.now i.next.at i.«end» t within.0 c.get-token.ensures in
    let same = amount_is i.text.now (take i.«end» i.tokens.now) i.next.at t x xs kept (shown_not i.text.now (take i.«end» i.tokens.now) i.next.at t i.next kept c.self.invariant.3) (c.self.view_is ∙ e) in
    let is : is_number t.kind ≡ false = sym c.is_number.ensures ∙ c.if-is_number.false in
    rw is at same.0
