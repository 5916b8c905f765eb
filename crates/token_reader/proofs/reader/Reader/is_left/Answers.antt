use Rattle.token_reader.proofs.Shown.{left_is}
use Rattle.token_reader.proofs.reader.Reader.is_left.Goals as goal

pub returns : goal.returns
returns c =
    let i = c.self.inside in
    rw (← c.self.view_is) (left_is i.text.now i.tokens.now i.next.at i.«end» i.next c.self.invariant.2 c.self.invariant.3)
