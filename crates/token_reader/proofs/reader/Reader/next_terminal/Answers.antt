use Rattle.std.proofs.Common.{sym, ◌∙◌}
use Rattle.token_reader.proofs.Shown.{shown_tells, tells_none}
use Rattle.token_reader.proofs.reader.Reader.next_terminal.Goals as goal

pub returns-then-is_left : goal.returns-then-is_left
returns-then-is_left c =
    let i = c.self.inside in
    rw (← c.self.view_is) (shown_tells i.text.now _ i.next c.self.invariant.3 (rw (c.self.view_is) (sym c.is_left.ensures ∙ c.if-is_left.true)))

pub returns-else-is_left : goal.returns-else-is_left
returns-else-is_left c = rw (← c.self.view_is) (tells_none _ (rw (c.self.view_is) (sym c.is_left.ensures ∙ c.if-is_left.false)))
