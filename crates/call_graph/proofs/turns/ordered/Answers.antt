use Rattle.std.proofs.Common.{◌<◌, ◌∙◌, ℕ, List, sym, subst}
use Rattle.call_graph.specs.Tables.{table}
use Rattle.call_graph.specs.Waiting.{unplaced}
use Rattle.call_graph.proofs.Settling.{ended}
use Rattle.call_graph.proofs.Taking.{settle_there, settle_within, settle_on, place_members, place_waiting, place_placed, place_on, none_is}
use Rattle.call_graph.proofs.turns.ordered.Goals as goal

pub settle-requires-clause-there : goal.settle-requires-clause-there
settle-requires-clause-there c = settle_there c.args.graph.now c.args.piece.now c.requires (table c.woken.placing) c.woken.invariant.keeps c.in-Some.next c.in-Some.ensures.top

pub settle-requires-clause-within : goal.settle-requires-clause-within
settle-requires-clause-within c = settle_within c.args.graph.now c.args.piece.now c.requires (table c.woken.placing) c.woken.invariant.keeps c.in-Some.next c.in-Some.ensures.top

pub woken-preserved : goal.woken-preserved
woken-preserved c =
    let r =
    settle_on c.args.graph.now c.args.piece.now c.requires (table c.woken.placing) c.woken.invariant.keeps c.in-Some.next c.in-Some.ensures.top c.pop.new.self c.pop.ensures.rest (table c.settle.new.self)
    c.in_ok-settle.ensures in
    record { keeps = r.0; list = r.1 ∙ c.woken.invariant.list }

pub place-requires-clause-members : goal.place-requires-clause-members
place-requires-clause-members c =
    let a = c.in-Some-pop_least.ensures.least in
    place_members c.args.graph.now c.args.piece.now c.requires (table c.woken.placing) c.woken.invariant.keeps c.in-Some-pop_least.next c.pop_least.new.self a.0

pub place-requires-clause-waiting : goal.place-requires-clause-waiting
place-requires-clause-waiting c =
    let a = c.in-Some-pop_least.ensures.least in
    place_waiting c.args.graph.now c.args.piece.now c.requires (table c.woken.placing) c.woken.invariant.keeps c.in-Some-pop_least.next c.pop_least.new.self a.0

pub place-requires-clause-placed : goal.place-requires-clause-placed
place-requires-clause-placed c =
    let a = c.in-Some-pop_least.ensures.least in
    place_placed c.args.graph.now c.args.piece.now c.requires (table c.woken.placing) c.woken.invariant.keeps c.in-Some-pop_least.next c.pop_least.new.self a.0

pub turns-smaller : goal.turns-smaller
turns-smaller c =
    let a = c.in-Some-pop_least.ensures.least in
    let r =
    place_on c.args.graph.now c.args.piece.now c.requires (table c.woken.placing) c.woken.invariant.keeps c.in-Some-pop_least.next c.pop_least.new.self a.0
    (none_is c.woken.placing.woken (sym c.in_default.ensures.top)) a.1 c.pop.new.self (table c.place.new.self) c.in_ok-place-in-Some-pop_least.ensures in
    subst (λ (l : List ℕ). unplaced c.args.piece.now c.place.new.self.list.items < unplaced c.args.piece.now l) c.woken.invariant.list r.1

pub turns-preserved : goal.turns-preserved
turns-preserved c =
    let a = c.in-Some-pop_least.ensures.least in
    let r =
    place_on c.args.graph.now c.args.piece.now c.requires (table c.woken.placing) c.woken.invariant.keeps c.in-Some-pop_least.next c.pop_least.new.self a.0
    (none_is c.woken.placing.woken (sym c.in_default.ensures.top)) a.1 c.pop.new.self (table c.place.new.self) c.in_ok-place-in-Some-pop_least.ensures in
    r.0

pub returns : goal.returns
returns c =
    ended c.args.graph.now c.args.piece.now (table c.woken.placing) c.woken.invariant.keeps (none_is c.woken.placing.woken (sym c.in_default.ensures.top)) c.in-None.ensures.none
