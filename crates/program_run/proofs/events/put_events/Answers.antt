use Rattle.std.proofs.Common.{List, [], ◌∷◌, ap, sym, ◌∙◌, map, append_assoc}
use Rattle.interp.specs.declared.outcome.Event.{Event}
use Rattle.interp.specs.Outcome.{event_of}
use Rattle.ir_text.specs.TextTree.{spelled}
use Rattle.text_output.proofs.Puts.{goes, ◌▸◌}
use Rattle.program_run.specs.RunText.{event_text, events_text}
use Rattle.program_run.proofs.events.put_events.Goals as goal

pub events-preserved : goal.events-preserved
events-preserved g c =
    let after = spelled (events_text (map event_of c.in-Some.after.now)) in
    let split = ap (λ (l : List Event). spelled (events_text (map event_of l))) c.in-Some.ensures.cases.0 in
    goes _ c.events.invariant (split ∙ sym (append_assoc (spelled (event_text (event_of c.in-Some.event.now))) (10 ∷ []) after)) (c.put_event.ensures ▸ c.put.ensures)
