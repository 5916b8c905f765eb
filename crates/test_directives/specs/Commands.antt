-- What a header line asks for.
use Rattle.std.specs.Prelude.{ℕ, ◌+◌, ◌*◌, ◌-◌, nat_le, Bool, true, false, ◌&&◌, if◌then◌else◌, List, [], ◌∷◌, codes}
use Rattle.std.specs.Prelude.{Option, Some, None, decimal}
use Rattle.std.specs.Str.{bytes_eq}
use Rattle.ir_core.specs.Lookup.{and_then}
use Rattle.test_directives.specs.Blanks.{behind, words}

-- the most that a size may be
abbrev pub most_size : ℕ
most_size = 262144

-- the words of `inline`
pub record InlineWords : Type 0 where
  pub precise : Bool
  pub callee_size : ℕ
  pub caller_size : ℕ

-- what a `test` line asks for; of another command its word
pub data Command : Type 0 where
  Cat : Command
  Verifier : Command
  Interpret : Command
  Run : Command
  Inline : InlineWords → Command
  Other : List ℕ → Command

abbrev pub digits_value : ℕ → List ℕ → ℕ
digits_value before [] = before
digits_value before (c ∷ cs) = digits_value (10 * before + (c - 48)) cs

-- the size that these bytes are the decimal digits of
abbrev pub size_of : List ℕ → Option ℕ
size_of digits =
    if bytes_eq (decimal (digits_value 0 digits)) digits && nat_le (digits_value 0 digits) most_size
    then Some (digits_value 0 digits) else None

abbrev pub usual_words : InlineWords
usual_words = record { precise = false; callee_size = 64; caller_size = 4096 }

-- what a word changes; none where it is a size without a reading
abbrev pub after_word : InlineWords → List ℕ → Option InlineWords
after_word asked word =
    if bytes_eq word (codes "precise-output") then Some (record asked { precise = true })
    else elim (behind (codes "callee-size=") word) [
      | Some digits ↦ and_then (size_of digits) (λ n. Some (record asked { callee_size = n }))
      | None ↦ elim (behind (codes "caller-size=") word) [
        | Some digits ↦ and_then (size_of digits) (λ n. Some (record asked { caller_size = n }))
        | None ↦ Some asked
      ]
    ]

-- what all of the words change, in order
abbrev pub after_words : InlineWords → List (List ℕ) → Option InlineWords
after_words asked [] = Some asked
after_words asked (word ∷ rest) = and_then (after_word asked word) (λ next. after_words next rest)

-- the command of the words behind `test`
abbrev pub command_of_words : List (List ℕ) → Option Command
command_of_words [] = None
command_of_words (word ∷ rest) =
    if bytes_eq word (codes "cat") then Some Cat
    else if bytes_eq word (codes "verifier") then Some Verifier
    else if bytes_eq word (codes "interpret") then Some Interpret
    else if bytes_eq word (codes "run") then Some Run
    else if bytes_eq word (codes "inline") then and_then (after_words usual_words rest) (λ asked. Some (Inline asked))
    else Some (Other word)

-- What a header line asks for: none where it is no `test` line, and none within where it is one without a reading.
abbrev pub command_of : List ℕ → Option (Option Command)
command_of header = and_then (behind (codes "test") header) (λ rest. Some (command_of_words (words rest)))

-- whether what it looks at is a text that is accepted
abbrev pub needs_accepted : Command → Bool
needs_accepted Cat = true
needs_accepted Interpret = true
needs_accepted Run = true
needs_accepted (Inline asked) = true
needs_accepted Verifier = false
needs_accepted (Other word) = false

-- the word behind `test`
abbrev pub word_of : Command → List ℕ
word_of Cat = codes "cat"
word_of Verifier = codes "verifier"
word_of Interpret = codes "interpret"
word_of Run = codes "run"
word_of (Inline asked) = codes "inline"
word_of (Other word) = word
