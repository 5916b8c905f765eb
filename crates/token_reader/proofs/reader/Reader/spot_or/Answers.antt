use Rattle.std.proofs.Common.{sym, ◌∙◌}
use Rattle.token_reader.proofs.Shown.{spot_shown}
use Rattle.token_reader.proofs.reader.Reader.spot_or.Goals as goal

pub returns-then-is_left : goal.returns-then-is_left
returns-then-is_left c =
    let i = c.self.inside in
    rw (← c.self.view_is) (spot_shown i.text.now _ i.next c.args.«end» c.self.invariant.3 (rw (c.self.view_is) (sym c.is_left.ensures ∙ c.if-is_left.true)))
