use Rattle.std.proofs.Common.{rules, ◌≡◌, ◌≤◌, ◌-◌, ◌++◌, ◌∷◌, [], nat_eq, None, ap, sym, ◌∙◌}
use Rattle.std.specs.Prelude.{position}
use Rattle.std.proofs.lemmas.Result.{on_ok_weaker}
use Rattle.name_tables.specs.Dense.{words_of, or_no_words}
use Rattle.name_tables.proofs.RunLaws.{behind_run, none_behind, words_more}
use Rattle.name_tables.proofs.words.Words.push_behind.Goals as goal

pub overflow_sub-word : goal.overflow_sub-word
overflow_sub-word c = behind_run c.self.inside.run (or_no_words c.self.inside.behind) c.args.word (ap (position (nat_eq c.args.word)) c.self.view_is ∙ c.requires)

pub push-requires : goal.push-requires
push-requires c =
    let run = c.self.inside.run in
    let words = or_no_words c.self.inside.behind in
    let absent : position (nat_eq c.args.word) (words_of run words) ≡ None = ap (position (nat_eq c.args.word)) c.self.view_is ∙ c.requires in
    let after : run ≤ c.args.word = behind_run run words c.args.word absent in
    let value : c.in-Some.behind.value ≡ c.deref_mut.result.now = search rules in
    ap (position (nat_eq (c.args.word - run))) (sym (ap or_no_words c.in-Some.is ∙ value)) ∙ none_behind run words c.args.word after absent

pub returns-in-Some : goal.returns-in-Some
returns-in-Some c =
    let run = c.self.inside.run in
    let words = or_no_words c.self.inside.behind in
    let after : run ≤ c.args.word = behind_run run words c.args.word (ap (position (nat_eq c.args.word)) c.self.view_is ∙ c.requires) in
    let was : words ≡ c.deref_mut.result.now = ap or_no_words c.in-Some.is ∙ sym c.deref_mut.ensures.value in
    on_ok_weaker c.push.result (λ e. ap (words_of run) (e ∙ ap (λ ws. ws ++ (c.args.word - run) ∷ []) (sym was)) ∙ words_more run words c.args.word after ∙ ap (λ ws. ws ++ c.args.word ∷ []) c.self.view_is) c.push.ensures

pub returns-in_ok-new-in-None : goal.returns-in_ok-new-in-None
returns-in_ok-new-in-None c =
    let run = c.self.inside.run in
    let words = or_no_words c.self.inside.behind in
    let after : run ≤ c.args.word = behind_run run words c.args.word (ap (position (nat_eq c.args.word)) c.self.view_is ∙ c.requires) in
    let was : c.new-behind.result ≡ words = c.new-behind.ensures ∙ sym (ap or_no_words c.in-None.is) in
    let put = c.in_ok-new-in-None.ensures.ok ∙ c.in_ok-push-in-None.ensures ∙ ap (λ ws. ws ++ (c.args.word - run) ∷ []) was in
    ap (words_of run) put ∙ words_more run words c.args.word after ∙ ap (λ ws. ws ++ c.args.word ∷ []) c.self.view_is
