-- Chains of alias lines: from a word to the definition that it stands for in the end.
use Rattle.std.specs.Prelude.{◌≡◌, ℕ, zero, suc, nat_eq, List, [], ◌∷◌, Option, None, Some, find, flat_map, length}
use Rattle.token_reader.specs.declared.raw.RawName.{RawName}
use Rattle.name_tables.specs.declared.firsts.Def.{Def}
use Rattle.name_tables.specs.Words.{place_in}

-- of two definitions of a word the first counts
abbrev pub look : List Def → ℕ → Option Def
look defs n = find (λ d. nat_eq n d.name.number) defs

-- a chain ends at a definition that is no alias line, or at a word without a definition
pub data Ending : Type 0 where
  Ends : Def → Ending
  Lost : Ending

abbrev pub or_lost : Option Def → (Def → Option Ending) → Option Ending
or_lost None go = Some Lost
or_lost (Some d) go = go d

abbrev pub onward : Option RawName → Def → (RawName → Option Ending) → Option Ending
onward None d go = Some (Ends d)
onward (Some m) d go = go m

-- the end of the chain from d on, where it has at most k definitions
unfoldable pub chain : List Def → ℕ → Def → Option Ending
chain defs zero d = None
chain defs (suc k) d = onward d.target d (λ m. or_lost (look defs m.number) (chain defs k))

abbrev pub ComesTo : List Def → Def → Ending → Type 0
ComesTo defs d e = (k : ℕ) × (chain defs k d ≡ Some e)

abbrev pub NeverEnds : List Def → Def → Type 0
NeverEnds defs d = (k : ℕ) → chain defs k d ≡ None

-- an alias line's word at this spot whose chain never ends
abbrev pub IsEndless : List Def → ℕ → Type 0
IsEndless defs spot = (n : ℕ) × (d : Def) × (look defs n ≡ Some d) × (d.name.spot ≡ spot) × NeverEnds defs d

-- the word n stands for the definition e, which is no alias line
abbrev pub StandsFor : List Def → ℕ → Def → Type 0
StandsFor defs n e = (d : Def) × (look defs n ≡ Some d) × ComesTo defs d (Ends e)

-- ---- numbers of values

abbrev pub own_name : Def → List RawName
own_name d = elim d.target [ None ↦ d.name ∷ [] | Some m ↦ [] ]

-- the definitions without the alias lines: the n-th is value n
abbrev pub numbered : List Def → List RawName
numbered defs = flat_map own_name defs

-- The number of a word with this definition: that of the value at its chain's end. A word without one comes behind all.
abbrev pub HasNumber : List Def → Option Def → ℕ → Type 0
HasNumber defs None v = v ≡ length (numbered defs)
HasNumber defs (Some d) v = (e : Def) × ComesTo defs d (Ends e) × (v ≡ place_in (numbered defs) e.name.number)

-- value gives each word its number
abbrev pub IsNumbering : List Def → (ℕ → ℕ) → Type 0
IsNumbering defs value = (n : ℕ) → HasNumber defs (look defs n) (value n)
