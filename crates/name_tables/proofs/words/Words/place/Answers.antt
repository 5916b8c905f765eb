use Rattle.std.proofs.Common.{rules, ◌≡◌, ◌+◌, ◌-◌, ◌≤◌, nat_eq, [], None, Some, ap, sym, ◌∙◌}
use Rattle.std.specs.Prelude.{position, option_map}
use Rattle.name_tables.specs.Dense.{or_no_words}
use Rattle.name_tables.proofs.RunLaws.{position_in_run, position_less}
use Rattle.name_tables.proofs.words.Words.place.Goals as goal

pub returns-then-word-run-clause-place : goal.returns-then-word-run-clause-place
returns-then-word-run-clause-place c =
    sym (position_in_run c.self.inside.run (or_no_words c.self.inside.behind) c.args.word c.if-word-run.true) ∙ ap (position (nat_eq c.args.word)) c.self.view_is

pub returns-in-None-clause-place : goal.returns-in-None-clause-place
returns-in-None-clause-place c =
    let run = c.self.inside.run in
    let words = or_no_words c.self.inside.behind in
    let after : run ≤ c.args.word = search rules in
    let nothing : words ≡ [] = ap or_no_words c.in-None.is in
    ap (λ ws. option_map (λ p. run + p) (position (nat_eq (c.args.word - run)) ws)) (sym nothing) ∙ sym (position_less run words c.args.word after) ∙ ap (position (nat_eq c.args.word)) c.self.view_is

pub returns-in-Some-place-clause-place : goal.returns-in-Some-place-clause-place
returns-in-Some-place-clause-place c =
    let run = c.self.inside.run in
    let words = or_no_words c.self.inside.behind in
    let after : run ≤ c.args.word = search rules in
    let value : c.in-Some.behind.value ≡ c.deref.result.now = search rules in
    let told : position (nat_eq (c.args.word - run)) c.deref.result.now ≡ Some c.in-Some-place.place = search rules in
    let at : position (nat_eq (c.args.word - run)) words ≡ Some c.in-Some-place.place = ap (position (nat_eq (c.args.word - run))) (ap or_no_words c.in-Some.is ∙ value) ∙ told in
    sym (ap (option_map (λ p. run + p)) at) ∙ sym (position_less run words c.args.word after) ∙ ap (position (nat_eq c.args.word)) c.self.view_is

pub returns-in-None-place-clause-place : goal.returns-in-None-place-clause-place
returns-in-None-place-clause-place c =
    let run = c.self.inside.run in
    let words = or_no_words c.self.inside.behind in
    let after : run ≤ c.args.word = search rules in
    let value : c.in-Some.behind.value ≡ c.deref.result.now = search rules in
    let told : position (nat_eq (c.args.word - run)) c.deref.result.now ≡ None = search rules in
    let at : position (nat_eq (c.args.word - run)) words ≡ None = ap (position (nat_eq (c.args.word - run))) (ap or_no_words c.in-Some.is ∙ value) ∙ told in
    sym (ap (option_map (λ p. run + p)) at) ∙ sym (position_less run words c.args.word after) ∙ ap (position (nat_eq c.args.word)) c.self.view_is
