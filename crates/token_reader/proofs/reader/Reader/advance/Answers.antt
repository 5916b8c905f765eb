use Rattle.std.proofs.Common.{take, drop, sym, ap, ◌∙◌, arith}
use Rattle.std.proofs.lemmas.Grind.{common_steps}
use Rattle.token_reader.proofs.Ends.{next_within, some_taken}
use Rattle.token_reader.proofs.Shown.{shown_not}
use Rattle.token_reader.proofs.Views.{some_at, takes}
use Rattle.token_reader.proofs.reader.Reader.advance.Goals as goal

pub find-requires-clause-ordered : goal.find-requires-clause-ordered
find-requires-clause-ordered c =
    let i = c.self.inside in
    let within = next_within i.text.now i.tokens.now i.next.at i.«end» (rw (c.self.view_is) c.requires) in
    let less = within.0 in
    omega arith

pub overflow_add-behind : goal.overflow_add-behind
overflow_add-behind c =
    let i = c.self.inside in
    let within = next_within i.text.now i.tokens.now i.next.at i.«end» (rw (c.self.view_is) c.requires) in
    let less = within.0 in
    grind (arith, common_steps)

pub returns : goal.returns
returns c =
    let i = c.self.inside in
    let ts = take i.«end» i.tokens.now in
    let within = next_within i.text.now i.tokens.now i.next.at i.«end» (rw (c.self.view_is) c.requires) in
    let t = some_at i.tokens.now i.next.at within.1 in
    let kept = some_taken i.tokens.now i.next.at i.«end» t.0 within.0 t.1 in
    c.find.ensures.same ∙ sym (ap (drop 1) (sym c.self.view_is ∙ takes i.text.now ts i.next.at t.0 kept (shown_not i.text.now ts i.next.at t.0 i.next kept c.self.invariant.3)))
