-- What a comment asks for.
use Rattle.std.specs.Prelude.{ℕ, ◌==◌, if◌then◌else◌, List, [], ◌∷◌, ◌++◌}
use Rattle.std.specs.Prelude.{length, drop, codes, ℤ, Option, Some, None, Ok, Err, decimal}
use Rattle.std.specs.Fmt.{signed_decimal}
use Rattle.std.specs.List.{list_any}
use Rattle.grammar.specs.Rules.{Tree, read_all}
use Rattle.clk_num.specs.declared.op.TrapCode.{TrapCode}
use Rattle.clif_lex.specs.declared.spans.Token.{Token}
use Rattle.clif_lex.specs.Bytes.{semicolon}
use Rattle.clif_lex.specs.Lexing.{tokens_of}
use Rattle.clif_words.specs.Lexemes.{lexemes}
use Rattle.token_reader.specs.Values.{◌otherwise◌, perhaps}
use Rattle.clif_read.specs.declared.raw.RawFuncName.{RawFuncName}
use Rattle.clif_read.specs.declared.raw.RawFuncName.TheVariants as raw_name
use Rattle.clif_read.specs.ModuleGrammar.{func_name}
use Rattle.clif_read.specs.DeclarationValues.{func_name_value}
use Rattle.ir_core.specs.Lookup.{and_then}
use Rattle.ir_semantics.specs.Machine.{HostAct, Reply, Returns, HostTraps, Throws}
use Rattle.script_text.specs.Examples.{script_of, numbers_of}
use Rattle.test_directives.specs.declared.marks.Mark.{Mark}
use Rattle.test_directives.specs.declared.marks.Mark.TheVariants as marks
use Rattle.test_directives.specs.Blanks.{behind, trim_front, trimmed}
use Rattle.test_directives.specs.Frame as frame
use Rattle.test_directives.specs.Frame.{field_text, plain_text, meaning}

-- the end that a run is to have
pub data Expectation : Type 0 where
  Values : List ℤ → Expectation
  Trap : TrapCode → Expectation
  Throw : (tag p0 p1 : ℕ) → Expectation

-- what is wanted of a run: that it returns; `==`: that it has this end; `!=`: that it returns and has not this end
pub data Wanted : Type 0 where
  Return : Wanted
  Equal : Expectation → Wanted
  Unequal : Expectation → Wanted

-- a `run:`, with the name as the canonical text spells it
pub record Call : Type 0 where
  pub name : List ℕ
  pub numbers : List ℤ
  pub wanted : Wanted

-- what a line is to be: one further on contains the text, the next one does, or none up to the next taken one
pub data LineTest : Type 0 where
  Check : List ℕ → LineTest
  Nextln : List ℕ → LineTest
  Not : List ℕ → LineTest

pub data Directive : Type 0 where
  Run : Call → Directive
  Host : List Reply → Directive
  Trace : List ℕ → Directive
  Lines : LineTest → Directive
  Error : Directive

-- a comment that is no directive, one that is one, or one without a reading
pub data Comment : Type 0 where
  Plain : Comment
  Asks : Directive → Comment
  Bad : Comment

-- ---- names

abbrev pub spelled_text : List ℕ → List ℕ
spelled_text name = 37 ∷ name

abbrev pub spelled_user : ℕ → ℤ → List ℕ
spelled_user space number = codes "u" ++ decimal space ++ codes ":" ++ signed_decimal number

abbrev pub spelled_name : RawFuncName → List ℕ
spelled_name (raw_name.Text name spot) = spelled_text name
spelled_name (raw_name.User space number) = spelled_user space.number number.value

-- the name that all of these tokens are
abbrev pub name_by : List ℕ → List Token → Option (List ℕ)
name_by t ts = elim (read_all func_name (lexemes t ts)) [
  | Err stop ↦ None
  | Ok v ↦ Some (spelled_name (func_name_value v))
]

-- the name that a text is, in which no comment stands
abbrev pub name_of : List ℕ → Option (List ℕ)
name_of t =
    if list_any (λ c. c == semicolon) t then None
    else elim (tokens_of t) [ Err e ↦ None | Ok ts ↦ name_by t ts ]

-- ---- numbers and ends

abbrev pub values_of : List ℕ → Option (List ℤ)
values_of t = elim (numbers_of t) [ Err spot ↦ None | Ok numbers ↦ Some numbers ]

abbrev pub replies_of : List ℕ → Option (List Reply)
replies_of t = elim (script_of t) [ Err spot ↦ None | Ok replies ↦ Some replies ]

-- a trap or a throw as an act of a host would be written, without writes
abbrev pub stop_of_act : HostAct → Option Expectation
stop_of_act (Returns numbers) = None
stop_of_act (HostTraps code) = Some (Trap code)
stop_of_act (Throws tag p0 p1) = Some (Throw tag p0 p1)

abbrev pub stop_of_reply : HostAct → List (ℕ × ℕ) → Option Expectation
stop_of_reply act [] = stop_of_act act
stop_of_reply act (w ∷ ws) = None

abbrev pub stop_of_first : Reply → List Reply → Option Expectation
stop_of_first reply [] = stop_of_reply reply.act reply.writes
stop_of_first reply (other ∷ more) = None

abbrev pub stop_of_script : List Reply → Option Expectation
stop_of_script [] = None
stop_of_script (reply ∷ more) = stop_of_first reply more

abbrev pub stop_of : List ℕ → Option Expectation
stop_of t = and_then (replies_of t) stop_of_script

abbrev pub one_of : List ℤ → Option Expectation
one_of [] = None
one_of (n ∷ more) = if length more == 0 then Some (Values (n ∷ [])) else None

-- a number, a trap or a throw
abbrev pub plain_expectation : List ℕ → Option Expectation
plain_expectation t = elim (values_of t) [ Some numbers ↦ one_of numbers | None ↦ stop_of t ]

abbrev pub listed_value : Tree frame.listed → Option Expectation
listed_value v = and_then (values_of (field_text v.1.0)) (λ numbers. Some (Values numbers))

abbrev pub plain_value : Tree frame.plain → Option Expectation
plain_value v = plain_expectation (plain_text v)

abbrev pub expectation_value : Tree frame.expectation → Option Expectation
expectation_value v = (listed_value otherwise plain_value) v.1

-- ---- runs

abbrev pub signed_value : (mark : Mark) → Tree (frame.signed mark) → Option Expectation
signed_value mark v = expectation_value v.1.1

abbrev pub equal_value : Tree (frame.signed marks.Equals) → Option Wanted
equal_value v = and_then (signed_value marks.Equals v) (λ e. Some (Equal e))

abbrev pub unequal_value : Tree (frame.signed marks.Bang) → Option Wanted
unequal_value v = and_then (signed_value marks.Bang v) (λ e. Some (Unequal e))

abbrev pub wanted_value : Tree frame.wanted → Option Wanted
wanted_value v = perhaps (Some Return) (equal_value otherwise unequal_value) v.1

abbrev pub run_value : Tree frame.run → Option Call
run_value v =
    and_then (name_of (field_text v.0)) (λ name.
    and_then (values_of (field_text v.1.1.0)) (λ numbers.
    and_then (wanted_value v.1.1.1.1) (λ wanted.
    Some (record { name = name; numbers = numbers; wanted = wanted }))))

-- the call that a text is, and what is wanted of it
abbrev pub run_of : List ℕ → Option Call
run_of t = meaning frame.run run_value t

-- ---- comments

-- a text that lines are to contain is not empty and has no `$`
abbrev pub line_text : List ℕ → Option (List ℕ)
line_text [] = None
line_text (c ∷ cs) = if list_any (λ b. b == 36) (c ∷ cs) then None else Some (c ∷ cs)

abbrev pub line_directive : (List ℕ → LineTest) → List ℕ → Option Directive
line_directive test t = and_then (line_text (trimmed t)) (λ text. Some (Lines (test text)))

abbrev pub host_of : List ℕ → Option Directive
host_of t = and_then (replies_of t) (λ replies. Some (Host replies))

abbrev pub or_bad : Option Directive → Comment
or_bad None = Bad
or_bad (Some directive) = Asks directive

-- the words of directives that have no reading here
abbrev pub left_out : List (List ℕ × (List ℕ → Option Directive))
left_out =
    (codes "sameln:", λ t. None) ∷
    (codes "unordered:", λ t. None) ∷
    (codes "regex:", λ t. None) ∷
    []

-- the words that begin a directive, with the readings of what stands behind them
abbrev pub readings : List (List ℕ × (List ℕ → Option Directive))
readings =
    (codes "run:", λ t. and_then (run_of t) (λ call. Some (Run call))) ∷
    (codes "host:", host_of) ∷
    (codes "trace:", λ t. Some (Trace (trimmed t))) ∷
    (codes "check:", line_directive Check) ∷
    (codes "nextln:", line_directive Nextln) ∷
    (codes "not:", line_directive Not) ∷
    (codes "error:", λ t. Some Error) ∷
    left_out

-- by the word that the text begins with
abbrev pub by_readings : List (List ℕ × (List ℕ → Option Directive)) → List ℕ → Comment
by_readings [] t = Plain
by_readings (r ∷ rs) t = elim (behind r.0 t) [ Some rest ↦ or_bad (r.1 rest) | None ↦ by_readings rs t ]

-- what a comment is, which begins with its `;`
abbrev pub comment_of : List ℕ → Comment
comment_of comment = by_readings readings (trim_front (drop 1 comment))
