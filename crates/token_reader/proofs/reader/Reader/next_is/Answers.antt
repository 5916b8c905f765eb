use Rattle.std.proofs.Common.{sym, ◌∙◌}
use Rattle.clif_words.proofs.Tags.{tag-code}
use Rattle.clif_words.specs.Seen.{seen}
use Rattle.clif_words.specs.Words.{means}
use Rattle.token_reader.proofs.Shown.{shown_some}
use Rattle.token_reader.proofs.Views.{heads_some}
use Rattle.token_reader.proofs.reader.Reader.next_is.Goals as goal

pub returns-then-is_left : goal.returns-then-is_left
returns-then-is_left c =
    let i = c.self.inside in
    let up = shown_some i.text.now _ i.next c.self.invariant.3 (rw (c.self.view_is) (sym c.is_left.ensures ∙ c.if-is_left.true)) in
    rw (tag-code, tag-code, ← c.self.view_is) (heads_some i.text.now _ (means i.next.class (seen i.next.terminal).number) c.args.class up)
