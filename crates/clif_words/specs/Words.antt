-- What a word is to the grammar: a word with a meaning of its own, or a word with a number behind it, as `v7`.
use Rattle.std.specs.Prelude.{ℕ, ◌+◌, ◌*◌, ◌-◌, ◌==◌, ◌&&◌, ◌||◌, ◌^◌, not, nat_lt, Bool, false, if◌then◌else◌, List}
use Rattle.std.specs.Prelude.{[], ◌∷◌, length, take, drop, codes, Option, Some, None, is_some}
use Rattle.std.specs.Str.{bytes_eq}
use Rattle.std.specs.List.{prefix_len, suffix_len}
use Rattle.std.specs.Char.{is_ascii_digit, digit_value}
use Rattle.clif_lex.specs.Bytes.{first}
use Rattle.clif_words.specs.declared.class.Class.{Class}
use Rattle.clif_words.specs.declared.class.Class.TheVariants.{Block, Callee, Exn, Other, RefusedDecl, RefusedType, Ret}
use Rattle.clif_words.specs.declared.class.Class.TheVariants.{Sig, Slot, Tag, UserName, UserTrap, Value}
use Rattle.clif_words.specs.Table.{Row, group, alike, numbered_each, all_words}

-- a class, and which of its words it is
pub record Meaning : Type 0 where
  pub class : Class
  pub number : ℕ

abbrev pub means : Class → ℕ → Meaning
means class number = record { class = class; number = number }

-- the first row of a table that has the word
abbrev pub look_up : List Row → List ℕ → Option Meaning
look_up [] word = None
look_up (row ∷ rest) word = if bytes_eq row.word word then Some (means row.class row.number) else look_up rest word

-- the words that are followed by a number, as `v7`
unfoldable pub stems : List Row
stems = numbered_each (
    group Value (codes "v" ∷ []) ∷
    group Block (codes "block" ∷ []) ∷
    group Slot (codes "ss" ∷ []) ∷
    group Sig (codes "sig" ∷ []) ∷
    group Callee (codes "fn" ∷ []) ∷
    group Tag (codes "tag" ∷ []) ∷
    group Ret (codes "ret" ∷ []) ∷
    group Exn (codes "exn" ∷ []) ∷
    group UserName (codes "u" ∷ []) ∷
    group UserTrap (codes "user" ∷ []) ∷
    [])

-- words that begin another declaration where a number follows them, which may have leading zeros
unfoldable pub refused_stems : List Row
refused_stems = numbered_each (alike RefusedDecl (
    codes "gv" ∷ codes "dss" ∷ codes "dt" ∷ codes "const" ∷ codes "heap" ∷ codes "table" ∷ codes "userextname" ∷ []))

unfoldable pub is_refused : List ℕ → Bool
is_refused stem = is_some (look_up refused_stems stem)

-- how many digits a word ends with, and what stands before them
abbrev pub digits_len : List ℕ → ℕ
digits_len word = suffix_len is_ascii_digit word

abbrev pub stem : List ℕ → List ℕ
stem word = take (length word - digits_len word) word

abbrev pub digits : List ℕ → List ℕ
digits word = drop (length word - digits_len word) word

-- digits without a superfluous leading zero
abbrev pub is_plain : List ℕ → Bool
is_plain ds = not (first ds == 48) || length ds == 1

-- the number that decimal digits write after those that wrote n
abbrev pub decimal_after : ℕ → List ℕ → ℕ
decimal_after n [] = n
decimal_after n (c ∷ cs) = decimal_after (n * 10 + digit_value c) cs

-- the number that digits write; one above 2^64 - 1 is taken as 2^64 - 1
unfoldable pub entity_number : List ℕ → ℕ
entity_number ds = if nat_lt (decimal_after 0 ds) (2 ^ 64) then decimal_after 0 ds else 2 ^ 64 - 1

-- digits and `x`
abbrev pub is_digits_x : List ℕ → Bool
is_digits_x text = let count =
    prefix_len is_ascii_digit text in not (count == 0) && bytes_eq (drop count text) (codes "x")

-- `i` or `f`, digits, `x`, digits: the type of a vector, where the digits at its end are left out
unfoldable pub is_lanes : List ℕ → Bool
is_lanes [] = false
is_lanes (c ∷ rest) = (c == 105 || c == 102) && is_digits_x rest

-- the meaning of a word with a number behind it, by its stem
abbrev pub of_stem : Option Meaning → List ℕ → Meaning
of_stem (Some m) word = if is_plain (digits word) then means m.class (entity_number (digits word)) else means Other 0
of_stem None word =
    if is_refused (stem word) then means RefusedDecl 0
    else if is_lanes (stem word) then means RefusedType 0
    else means Other 0

unfoldable pub numbered_meaning : List ℕ → Meaning
numbered_meaning word = if digits_len word == 0 then means Other 0 else of_stem (look_up stems (stem word)) word

abbrev pub or_numbered : List ℕ → Option Meaning → Meaning
or_numbered word (Some m) = m
or_numbered word None = numbered_meaning word

-- the meaning of a word
unfoldable pub word_meaning : List ℕ → Meaning
word_meaning word = or_numbered word (look_up all_words word)
