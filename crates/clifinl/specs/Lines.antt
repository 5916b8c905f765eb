-- The line that is written on standard error after a refusal. After Usage stands the text of `clap`'s fault, of which
-- nothing is said here, or the line of a word that is not UTF-8.
use Rattle.std.specs.Prelude.{ℕ, List, [], ◌++◌, codes, decimal}
use Rattle.clif_lex.specs.Faults.{kind_name}
use Rattle.clifinl.specs.declared.status.Refusal.{Refusal}
use Rattle.clifinl.specs.declared.status.Refusal.TheVariants.{Text, TooLong, BadScript, NoEntry, BadArgs, BadDirective}
use Rattle.clifinl.specs.declared.status.Status.{Status}
use Rattle.clifinl.specs.declared.status.Status.TheVariants.{Done, Refused, Usage, ReadFault, WriteFault}
use Rattle.clifinl.specs.declared.status.Status.TheVariants.{NoMemory, ChecksFailed}

abbrev pub refusal_line : Refusal → List ℕ
refusal_line (Text kind place) =
    codes "error " ++ decimal place.line ++ codes ":" ++ decimal place.column ++ codes " " ++ kind_name kind
    ++ codes "\n"
refusal_line TooLong = codes "error TooLong\n"
refusal_line (BadScript count) = codes "error BadScript " ++ decimal count ++ codes "\n"
refusal_line NoEntry = codes "error NoEntry\n"
refusal_line BadArgs = codes "error BadArgs\n"
refusal_line (BadDirective line) = codes "error BadDirective " ++ decimal line ++ codes "\n"

abbrev pub line_of : Status → List ℕ
line_of Done = []
line_of (Refused refusal) = refusal_line refusal
line_of Usage = []
line_of ReadFault = codes "error ReadFault\n"
line_of WriteFault = codes "error WriteFault\n"
line_of NoMemory = codes "error NoMemory\n"
line_of ChecksFailed = []

-- the word of this number, counted from 1 behind the program's name, is not UTF-8
abbrev pub bad_word_line : ℕ → List ℕ
bad_word_line number = codes "error: invalid UTF-8 was detected in word " ++ decimal number ++ codes "\n"
