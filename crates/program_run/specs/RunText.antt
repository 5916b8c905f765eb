-- The text of a run: a line for each event, one for how the run is over, and one for each group of 16 addresses whose
-- bytes are not all 0. Values are written in decimal, as signed, and bytes in two hexadecimal digits each.
use Rattle.std.specs.Prelude.{ℕ, zero, suc, ◌+◌, ◌*◌, ◌/◌, ◌%◌, ◌^◌, ◌==◌, nat_lt, if◌then◌else◌, List, [], ◌∷◌}
use Rattle.std.specs.Prelude.{length, take, drop, codes}
use Rattle.std.specs.List.{list_all}
use Rattle.ir_semantics.specs.Values.{i64}
use Rattle.ir_semantics.specs.Machine.{Shown, User, Bytes, Event, Host, Point, Caught, End, Going, Returned, Trapped}
use Rattle.ir_semantics.specs.Machine.{Threw, Unwritten, ScriptEnded, BadReply, Stuck}
use Rattle.ir_semantics.specs.Runs.{Outcome}
use Rattle.ir_text.specs.TextTree.{Text, Nothing, Word, Numbered, Number, Mark, ◌▹◌, space, line_end, comma, colon}
use Rattle.ir_text.specs.TextTree.{separated, in_parentheses, in_brackets}
use Rattle.ir_text.specs.TextDeclarations.{function_name}
use Rattle.ir_text.specs.TextInstructions.{constant, trap_code}

-- ---- bytes

-- `0` to `9`, then `a` to `f`
abbrev pub hex_digit : ℕ → ℕ
hex_digit d = if nat_lt d 10 then 48 + d else 87 + d

-- `0f`
abbrev pub byte_text : ℕ → Text
byte_text b = Mark (hex_digit (b / 16)) ▹ Mark (hex_digit (b % 16))

-- further bytes, each behind a space
abbrev pub more_bytes : List ℕ → Text
more_bytes [] = Nothing
more_bytes (b ∷ bs) = space ▹ byte_text b ▹ more_bytes bs

-- `01 02`
abbrev pub bytes_text : List ℕ → Text
bytes_text [] = Nothing
bytes_text (b ∷ bs) = byte_text b ▹ more_bytes bs

-- ---- events

abbrev pub shown_text : Shown → Text
shown_text (User number) = Number number
shown_text (Bytes bytes) = in_brackets (bytes_text bytes)

-- ` <7, [01 02]>`, and nothing where no tag is shown
abbrev pub tags_text : List Shown → Text
tags_text [] = Nothing
tags_text (s ∷ ss) = space ▹ Mark 60 ▹ separated shown_text (s ∷ ss) ▹ Mark 62

-- ` tag3 (7, 8)`
abbrev pub exception_text : ℕ → ℕ → ℕ → Text
exception_text tag p0 p1 =
    space ▹ Numbered (codes "tag") tag ▹ space ▹ in_parentheses (constant (i64 p0) ▹ comma ▹ constant (i64 p1))

-- `host %h(5, -1) <7, [01 02]>`, `point <7>` or `caught tag3 (7, 8) rank 0`
abbrev pub event_text : Event → Text
event_text (Host name args shown) =
    Word (codes "host") ▹ space ▹ function_name name ▹ in_parentheses (separated constant args) ▹ tags_text shown
event_text (Point shown) = Word (codes "point") ▹ tags_text shown
event_text (Caught tag p0 p1 rank) =
    Word (codes "caught") ▹ exception_text tag p0 p1 ▹ space ▹ Word (codes "rank") ▹ space ▹ Number rank

-- each event on a line
abbrev pub events_text : List Event → Text
events_text [] = Nothing
events_text (e ∷ es) = event_text e ▹ line_end ▹ events_text es

-- ---- the end

-- `returned [1, 2]`, `trapped int_divz` or `threw tag3 (7, 8)`; a run of an accepted module is never stuck
abbrev pub end_text : End → Text
end_text Going = Word (codes "going")
end_text (Returned values) = Word (codes "returned") ▹ space ▹ in_brackets (separated constant values)
end_text (Trapped code) = Word (codes "trapped") ▹ space ▹ trap_code code
end_text (Threw tag p0 p1) = Word (codes "threw") ▹ exception_text tag p0 p1
end_text Unwritten = Word (codes "unwritten")
end_text ScriptEnded = Word (codes "script") ▹ space ▹ Word (codes "ended")
end_text BadReply = Word (codes "bad") ▹ space ▹ Word (codes "reply")
end_text Stuck = Word (codes "stuck")

-- ---- the memory

-- an address in eight hexadecimal digits, those of its lowest 32 bits
abbrev pub address_text : ℕ → Text
address_text a =
    byte_text (a / 2 ^ 24 % 256) ▹ byte_text (a / 2 ^ 16 % 256) ▹ byte_text (a / 2 ^ 8 % 256) ▹ byte_text (a % 256)

-- `memory 00000010: 00 00 02 01`, and nothing where all bytes of the group are 0
abbrev pub group_line : ℕ → List ℕ → Text
group_line address bytes =
    if list_all (λ b. b == 0) bytes then Nothing
    else (Word (codes "memory") ▹ space ▹ address_text address ▹ colon ▹ space ▹ bytes_text bytes ▹ line_end)

-- the lines of the first n groups
abbrev pub groups_text : List ℕ → ℕ → Text
groups_text memory zero = Nothing
groups_text memory (suc n) = groups_text memory n ▹ group_line (16 * n) (take 16 (drop (16 * n) memory))

-- the last group may be shorter than the others
abbrev pub memory_text : List ℕ → Text
memory_text memory = groups_text memory ((length memory + 15) / 16)

-- ---- the whole

abbrev pub run_text : Outcome → Text
run_text o = events_text o.events ▹ end_text o.end ▹ line_end ▹ memory_text o.memory
