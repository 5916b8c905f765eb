use Rattle.std.proofs.Common.{List, [], ◌≤◌, length}
use Rattle.clif_insts.specs.declared.raw.RawFlag.{RawFlag}
use Rattle.clif_words.specs.Terminals.{codes_of}
use Rattle.token_reader.specs.Reading.{each, with_front}
use Rattle.clif_insts.specs.Flags.{plain_flag_at, begins_plain_flag}
use Rattle.token_reader.proofs.Loops.{Keeps}
use Rattle.clif_insts.proofs.flags.read_plain_flags.Given as goal

abbrev pub invariant-list : goal.invariant-list
invariant-list l = Keeps plain_flag_at (codes_of begins_plain_flag) l.list.items l.reader (with_front (let none : List RawFlag = [] in none) (each plain_flag_at (codes_of begins_plain_flag) (length l.fn.reader) l.fn.reader))
    × (length l.reader ≤ length l.fn.reader)

abbrev pub decreases-list : goal.decreases-list
decreases-list l = length l.reader
