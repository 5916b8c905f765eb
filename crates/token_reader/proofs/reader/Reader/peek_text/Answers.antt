use Rattle.std.proofs.Common.{◌≡◌, take, refl, ap, ◌∙◌}
use Rattle.clif_lex.specs.declared.spans.Token.{Token}
use Rattle.clif_lex.specs.Spans.{spelling}
use Rattle.clif_words.specs.Lexemes.{name_of}
use Rattle.token_reader.proofs.Ends.{next_within, some_taken}
use Rattle.token_reader.proofs.Names.{spells_name}
use Rattle.token_reader.proofs.Shown.{shown_not}
use Rattle.token_reader.proofs.Views.{if_some}
use Rattle.token_reader.proofs.reader.Reader.peek_text.Goals as goal

pub get-token-requires : goal.get-token-requires
get-token-requires c = let i = c.self.inside in (next_within i.text.now i.tokens.now i.next.at i.«end» (rw (c.self.view_is) c.requires)).1

pub spelling-requires-clause-below : goal.spelling-requires-clause-below
spelling-requires-clause-below c = let i = c.self.inside in (next_within i.text.now i.tokens.now i.next.at i.«end» (rw (c.self.view_is) c.requires)).1

pub returns-clause-some : goal.returns-clause-some
returns-clause-some c = λ x xs e.
    let i = c.self.inside in
    let t = c.get-token.result in
    let within = next_within i.text.now i.tokens.now i.next.at i.«end» (rw (c.self.view_is) c.requires) in
    let kept = some_taken i.tokens.now i.next.at i.«end» t within.0 c.get-token.ensures in
    let same = spells_name i.text.now (take i.«end» i.tokens.now) i.next.at t x xs kept (shown_not i.text.now (take i.«end» i.tokens.now) i.next.at t i.next kept c.self.invariant.3) (c.self.view_is ∙ e) in
    let spelled = if_some (λ (z : Token). c.spelling.result.now ≡ spelling i.text.now z) _ t c.get-token.ensures c.spelling.ensures in
    let bytes = c.in_ok-from_slice.ensures ∙ c.strip_mark-bytes.ensures ∙ ap (name_of t.kind) spelled ∙ same.0 in
    rw (bytes, same.1) refl
