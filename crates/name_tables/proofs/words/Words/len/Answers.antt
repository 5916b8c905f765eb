use Rattle.std.proofs.Common.{rules, ◌≡◌, ◌+◌, [], length, ap, sym, ◌∙◌, arith}
use Rattle.name_tables.specs.Dense.{or_no_words}
use Rattle.name_tables.proofs.RunLaws.{words_length}
use Rattle.name_tables.proofs.words.Words.len.Goals as goal

pub returns-in-None : goal.returns-in-None
returns-in-None c =
    let run = c.self.inside.run in
    let nothing : or_no_words c.self.inside.behind ≡ [] = ap or_no_words c.in-None.is in
    let same : run ≡ run + length (or_no_words c.self.inside.behind) = rw nothing (omega arith) in
    same ∙ sym (words_length run (or_no_words c.self.inside.behind)) ∙ ap length c.self.view_is

pub returns-in-Some : goal.returns-in-Some
returns-in-Some c =
    let run = c.self.inside.run in
    let value : c.in-Some.behind.value ≡ c.deref.result.now = search rules in
    let words : or_no_words c.self.inside.behind ≡ c.deref.result.now = ap or_no_words c.in-Some.is ∙ value in
    ap (λ k. run + k) (c.len.ensures.len ∙ sym (ap length words)) ∙ sym (words_length run (or_no_words c.self.inside.behind)) ∙ ap length c.self.view_is
