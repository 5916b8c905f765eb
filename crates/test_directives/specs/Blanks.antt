-- Blanks, and the words between them.
use Rattle.std.specs.Prelude.{ℕ, ◌-◌, nat_eq, if◌then◌else◌, List, [], ◌∷◌, length, take}
use Rattle.std.specs.Prelude.{drop, Option, Some, None}
use Rattle.std.specs.List.{prefix_len, suffix_len, starts_with}
use Rattle.clif_lex.specs.Bytes.{is_blank}

-- without the blanks in front
abbrev pub trim_front : List ℕ → List ℕ
trim_front t = drop (prefix_len is_blank t) t

-- without the blanks at the end
abbrev pub trim_end : List ℕ → List ℕ
trim_end t = take (length t - suffix_len is_blank t) t

abbrev pub trimmed : List ℕ → List ℕ
trimmed t = trim_end (trim_front t)

-- what stands behind these bytes, where a text begins with them
abbrev pub behind : (front text : List ℕ) → Option (List ℕ)
behind front text = if starts_with nat_eq text front then Some (drop (length front) text) else None

-- a word that may be empty, and the words behind it
abbrev pub with_first : List ℕ → List (List ℕ) → List (List ℕ)
with_first [] words = words
with_first (c ∷ cs) words = (c ∷ cs) ∷ words

-- the bytes up to the first blank, and the words behind it
abbrev pub first_and_words : List ℕ → List ℕ × List (List ℕ)
first_and_words [] = ([], [])
first_and_words (c ∷ cs) =
    if is_blank c then ([], with_first (first_and_words cs).0 (first_and_words cs).1)
    else (c ∷ (first_and_words cs).0, (first_and_words cs).1)

-- the words of a text, cut at blanks
abbrev pub words : List ℕ → List (List ℕ)
words t = with_first (first_and_words t).0 (first_and_words t).1
