use Rattle.std.proofs.Common.{rules, ◌≡◌, None, Some, length, get_or, slice_get, sym, ap, ◌∙◌}
use Rattle.name_tables.specs.declared.firsts.Def.{Def}
use Rattle.name_tables.specs.Aliases.{note_end, least_endless}
use Rattle.name_tables.proofs.ValueRuns.{none_endless, endless_more}
use Rattle.name_tables.proofs.aliases.endless.Goals as goal
use Rattle.name_tables.proofs.aliases.endless.Goals.{in-Some, in_default}

pub returns-then-is_of_values : goal.returns-then-is_of_values
returns-then-is_of_values c =
    sym (ap (least_endless c.args.firsts.now) (c.is_of_values.ensures c.if-is_of_values.true) ∙ none_endless c.args.firsts.now (length c.args.ends.now))

pub loop-place-preserved : goal.loop-place-preserved
loop-place-preserved c =
    let firsts = c.args.firsts.now in
    let ends = c.args.ends.now in
    let place = c.loop-place.place in
    let nothing : Def = record { name = record { number = 0; spot = 0 }; target = None } in
    elim c.match-get.branch [
      | in-Some w ↦ (
          let found : slice_get ends place ≡ Some w.in-Some.end = sym c.get.ensures ∙ w.in-Some.is in
          let more = endless_more firsts ends place nothing (Some w.in-Some.end) c.loop-place-test.true found in
          w.least-is ∙ w.note_end-least.ensures ∙ ap (λ o. note_end o (get_or firsts place nothing).name.spot w.in-Some.end) c.loop-place.invariant ∙ sym more)
      | in_default w ↦ (
          let found : slice_get ends place ≡ None = search rules in
          let more = endless_more firsts ends place nothing None c.loop-place-test.true found in
          w.least-is ∙ c.loop-place.invariant ∙ sym more)
    ]
