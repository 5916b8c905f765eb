-- What a run gives, as the definition of runs has it.
use Rattle.std.specs.Prelude.{map}
use Rattle.clk_num.specs.Views.{data_of_all}
use Rattle.ir_semantics.specs.Machine as run
use Rattle.ir_semantics.specs.Runs as runs
use Rattle.interp.specs.declared.outcome.Shown.{Shown}
use Rattle.interp.specs.declared.outcome.Shown.TheVariants.{User, Bytes}
use Rattle.interp.specs.declared.outcome.Event.{Event}
use Rattle.interp.specs.declared.outcome.Event.TheVariants.{Host, Point, Caught}
use Rattle.interp.specs.declared.outcome.End.{End}
use Rattle.interp.specs.declared.outcome.End.TheVariants.{Going, Returned, Trapped, Threw, Unwritten, ScriptEnded}
use Rattle.interp.specs.declared.outcome.End.TheVariants.{BadReply}
use Rattle.interp.specs.declared.outcome.Outcome.{Outcome}

abbrev pub shown_of : Shown → run.Shown
shown_of (User number) = run.User number
shown_of (Bytes bytes) = run.Bytes bytes

abbrev pub event_of : Event → run.Event
event_of (Host name args shown) = run.Host name (data_of_all args) (map shown_of shown)
event_of (Point shown) = run.Point (map shown_of shown)
event_of (Caught tag p0 p1 rank) = run.Caught tag p0 p1 rank

abbrev pub end_of : End → run.End
end_of Going = run.Going
end_of (Returned values) = run.Returned (data_of_all values)
end_of (Trapped code) = run.Trapped code
end_of (Threw tag p0 p1) = run.Threw tag p0 p1
end_of Unwritten = run.Unwritten
end_of ScriptEnded = run.ScriptEnded
end_of BadReply = run.BadReply

abbrev pub outcome_of : Outcome → runs.Outcome
outcome_of o = record { events = map event_of o.events; memory = o.memory; end = end_of o.end }
