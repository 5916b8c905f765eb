use Rattle.std.proofs.Common.{refl, ◌∙◌}
use Rattle.token_reader.proofs.Shown.{front_shown}
use Rattle.token_reader.proofs.reader.Reader.peek_name.Goals as goal

pub returns : goal.returns
returns c = λ x xs e.
    let i = c.self.inside in
    let f = front_shown i.text.now _ i.next x xs c.self.invariant.3 (c.self.view_is ∙ e) in
    rw (c.parse_number.ensures, f.0, f.1) refl
