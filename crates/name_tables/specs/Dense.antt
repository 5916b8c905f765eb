-- A table with a short way from a word to its place, and a long one where there is no short one.
use Rattle.std.specs.Prelude.{◌≡◌, ℕ, zero, suc, ◌+◌, ◌<◌, nat_eq, List, [], ◌++◌, map, length, get_or}
use Rattle.std.specs.Prelude.{Option, None, Some, position}
use Rattle.std.specs.Global.{Box}
use Rattle.std.specs.List.{range_with_len}
use Rattle.std.specs.declared.hash.FoldHasher.{FoldHasher}
use Rattle.std.specs.declared.hash.BuildHasherDefault.{BuildHasherDefault}
use Rattle.indexmap.specs.IndexMap.{get, IndexMap}

-- the places that the long way knows
abbrev pub Far : Type 0
Far = IndexMap ℕ ℕ (BuildHasherDefault FoldHasher)

abbrev pub SameAt : List ℕ → List ℕ → Type 0
SameAt xs ys = (m : ℕ) → get_or ys m 0 ≡ get_or xs m 0

-- what the short way tells, and else the long one
abbrev pub or_far : ℕ → Option ℕ → Option ℕ
or_far zero far = far
or_far (suc place) far = Some place

-- each word is greater than those before it
abbrev pub IsIncreasing : List ℕ → Type 0
IsIncreasing words = (i j : ℕ) → i < j → j < length words → get_or words i 0 < get_or words j 0

-- what the long way tells: where it isn't kept, the words are searched
abbrev pub far_place : List ℕ → Option Far → ℕ → Option ℕ
far_place words None n = position (nat_eq n) words
far_place words (Some far) n = get nat_eq far n

-- both ways lead to the place of each word
abbrev pub LeadToPlaces : List ℕ → List ℕ → Option Far → Type 0
LeadToPlaces words near far =
    (n : ℕ) → or_far (get_or near n 0) (far_place words far n) ≡ position (nat_eq n) words

-- and where the long way isn't kept, the words can be searched
abbrev pub AreRight : List ℕ → List ℕ → Option Far → Type 0
AreRight words near far = (far ≡ None → IsIncreasing words) × LeadToPlaces words near far

-- a run of words from 0 on, and behind it words that are kept less its length
abbrev pub words_of : ℕ → List ℕ → List ℕ
words_of run behind = range_with_len 0 run ++ map (λ n. run + n) behind

-- what stands behind a run, where there is anything
abbrev pub or_no_words : Option (Box (List ℕ)) → List ℕ
or_no_words None = []
or_no_words (Some behind) = behind.value
