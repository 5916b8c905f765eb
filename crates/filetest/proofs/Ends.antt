-- The lines of events.
use Rattle.std.proofs.Common.{◌≡◌, List, [], ◌∷◌, refl, ap, map}
use Rattle.interp.specs.declared.outcome.Event.{Event as CodeEvent}
use Rattle.interp.specs.Outcome.{event_of}
use Rattle.ir_text.specs.TextTree.{spelled}
use Rattle.program_run.specs.RunText.{event_text}

-- the lines of events, by the events of the code
pub twice : (es : List CodeEvent) → map (λ e. spelled (event_text (event_of e))) es ≡ map (λ e. spelled (event_text e)) (map event_of es)
twice [] = refl
twice (e ∷ es) = ap (λ xs. spelled (event_text (event_of e)) ∷ xs) (twice es)
