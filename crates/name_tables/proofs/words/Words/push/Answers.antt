use Rattle.std.proofs.Common.{rules, ◌≡◌, ◌++◌, ◌∷◌, [], true, is_none, ap, ◌∙◌}
use Rattle.name_tables.specs.Dense.{or_no_words}
use Rattle.name_tables.proofs.RunLaws.{run_longer, no_words}
use Rattle.name_tables.proofs.words.Words.push.Goals as goal

pub returns-then-self : goal.returns-then-self
returns-then-self c =
    let nothing : is_none c.self.inside.behind ≡ true = search rules in
    let next : c.args.word ≡ c.self.inside.run = search rules in
    run_longer c.self.inside.run c.args.word (or_no_words c.self.inside.behind) (no_words c.self.inside.behind nothing) next ∙ ap (λ ws. ws ++ c.args.word ∷ []) c.self.view_is
