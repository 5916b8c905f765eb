-- What sources and sinks in memory answer, call by call. The calls are numbered from 0, and the calls whose numbers are
-- named beforehand fail: they move no byte, and raise the count of faults.
use Rattle.std.specs.Prelude.{ℕ, ◌-◌, ◌==◌, nat_lt, min, Bool, ◌&&◌, ◌||◌, if◌then◌else◌, List, ◌++◌, length, take}
use Rattle.std.specs.Prelude.{drop, Result, Ok, Err}
use Rattle.std.specs.List.{list_any}
use Rattle.clk_flow.specs.declared.traits.Failed.{Failed}
use Rattle.clk_flow.specs.Faults.{raised}

-- a source: what is left, which calls fail, how many bytes a call gives at most, how many calls and faults there were
pub record SourceState : Type 0 where
  pub left : List ℕ
  pub fails : List ℕ
  pub most : ℕ
  pub calls : ℕ
  pub faults : ℕ

abbrev pub is_named : List ℕ → ℕ → Bool
is_named fails call = list_any (λ named. named == call) fails

-- how many bytes a call gives into `room` places
abbrev pub share : SourceState → ℕ → ℕ
share source room = min (min (length source.left) room) source.most

abbrev pub taken : SourceState → ℕ → Result ℕ Failed
taken source room = if is_named source.fails source.calls then Err (record {}) else Ok (share source room)

abbrev pub after_take : SourceState → ℕ → SourceState
after_take source room =
    if is_named source.fails source.calls
    then record source { calls = raised source.calls; faults = raised source.faults }
    else record source { calls = raised source.calls; left = drop (share source room) source.left }

-- a source that never fails
abbrev pub sure_count : List ℕ → ℕ → Result ℕ Failed
sure_count left room = Ok (min (length left) room)

-- a sink: what was written, which calls fail, how many bytes it holds at most, how many calls and faults there were
pub record SinkState : Type 0 where
  pub written : List ℕ
  pub fails : List ℕ
  pub room : ℕ
  pub calls : ℕ
  pub faults : ℕ

-- how many bytes of a piece find room
abbrev pub fitting : SinkState → ℕ → ℕ
fitting sink len = min len (sink.room - length sink.written)

-- a call fails where its number is named, and on a non-empty piece where no room is left
abbrev pub gives_nothing : SinkState → ℕ → Bool
gives_nothing sink len = is_named sink.fails sink.calls || (nat_lt 0 len && (fitting sink len == 0))

abbrev pub given : SinkState → ℕ → Result ℕ Failed
given sink len = if gives_nothing sink len then Err (record {}) else Ok (fitting sink len)

abbrev pub after_give : SinkState → List ℕ → SinkState
after_give sink piece =
    if gives_nothing sink (length piece)
    then record sink { calls = raised sink.calls; faults = raised sink.faults }
    else record sink { calls = raised sink.calls; written = sink.written ++ take (fitting sink (length piece)) piece }
