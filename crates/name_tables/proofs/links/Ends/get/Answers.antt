use Rattle.std.proofs.Common.{rules, ◌≡◌, ◌-◌, ◌<◌, ◌≤◌, length, get_or, slice_get, refl, ap, sym, ◌∙◌}
use Rattle.std.proofs.lemmas.Option.{slice_get_read, slice_get_past}
use Rattle.name_tables.proofs.ValueRuns.{end_in_run, end_behind}
use Rattle.name_tables.proofs.links.Ends.get.Goals as goal

pub returns-then-place-self : goal.returns-then-place-self
returns-then-place-self c =
    sym (end_in_run c.self.inside.run c.self.inside.listed.items c.args.place c.if-place-self.true) ∙ ap (λ es. slice_get es c.args.place) c.self.view_is

pub returns-in-Some : goal.returns-in-Some
returns-in-Some c =
    let items = c.self.inside.listed.items in
    let at = c.args.place - c.self.inside.run in
    let after : c.self.inside.run ≤ c.args.place = search rules in
    let within : at < length items = search rules in
    let is : c.in-Some.end.now ≡ get_or items at c.in-Some.end.now = search rules in
    sym (slice_get_read items (length items) at c.in-Some.end.now refl within is) ∙ sym (end_behind c.self.inside.run items c.args.place after) ∙ ap (λ es. slice_get es c.args.place) c.self.view_is

pub returns-in-None : goal.returns-in-None
returns-in-None c =
    let items = c.self.inside.listed.items in
    let at = c.args.place - c.self.inside.run in
    let after : c.self.inside.run ≤ c.args.place = search rules in
    let past : length items ≤ at = search rules in
    sym (slice_get_past items at past) ∙ sym (end_behind c.self.inside.run items c.args.place after) ∙ ap (λ es. slice_get es c.args.place) c.self.view_is
