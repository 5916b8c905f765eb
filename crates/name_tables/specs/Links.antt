-- What a chain of alias lines comes to.
use Rattle.std.specs.Prelude.{◌≡◌, ℕ, zero, suc, ◌<◌, ◌==◌, Bool, false, List, length, Option, None, Some, get_or}
use Rattle.std.specs.Prelude.{if◌then◌else◌, ◌++◌, map}
use Rattle.std.specs.List.{range_with_len}
use Rattle.name_tables.specs.declared.links.Link.{Link}
use Rattle.name_tables.specs.declared.links.Link.TheVariants.{Value, Missing, To}
use Rattle.name_tables.specs.declared.links.End.{End}
use Rattle.name_tables.specs.declared.links.End.TheVariants.{At, Nowhere, Endless}
use Rattle.name_tables.specs.declared.links.Mark.{Mark}
use Rattle.name_tables.specs.declared.links.Mark.TheVariants.{Open, Walking, Ended}

-- the end of a chain of at most k words from the word i on
abbrev pub follow : Link → ℕ → (ℕ → Option End) → Option End
follow Value i go = Some (At i)
follow Missing i go = Some Nowhere
follow (To j) i go = go j

unfoldable pub chain : List Link → ℕ → ℕ → Option End
chain links zero i = None
chain links (suc k) i = follow (get_or links i Value) i (chain links k)

abbrev pub EndsAt : List Link → ℕ → End → Type 0
EndsAt links i e = (k : ℕ) × (chain links k i ≡ Some e)

abbrev pub NeverEnds : List Link → ℕ → Type 0
NeverEnds links i = (k : ℕ) → chain links k i ≡ None

-- e is what the chain from i comes to
unfoldable pub Means : List Link → End → ℕ → Type 0
Means links (At j) i = EndsAt links i (At j)
Means links Nowhere i = EndsAt links i Nowhere
Means links Endless i = NeverEnds links i

-- each alias line's word is one of the words
abbrev pub InRange : List Link → Type 0
InRange links = (i j : ℕ) → get_or links i Value ≡ To j → j < length links

-- what the marks say is so
abbrev pub AreRight : List Link → List Mark → Type 0
AreRight links marks = (i : ℕ) (e : End) → get_or marks i Open ≡ Ended e → Means links e i

-- the walks that left their marks began below n
abbrev pub AreBelow : ℕ → List Mark → Type 0
AreBelow n marks = (i by : ℕ) → get_or marks i Open ≡ Walking by → by < n

-- the ends of a run of words that are each the end of their own chain, and those behind them
abbrev pub ends_of : ℕ → List End → List End
ends_of run listed = map At (range_with_len 0 run) ++ listed

-- each word has the end of its chain
abbrev pub AreEnds : List Link → List End → Type 0
AreEnds links ends = (length ends ≡ length links) × ((i : ℕ) → i < length links → Means links (get_or ends i Nowhere) i)

abbrev pub walks : ℕ → Mark → Bool
walks start Open = false
walks start (Walking by) = by == start
walks start (Ended e) = false

-- what a walk from start may still pass, and what it has passed
abbrev pub to_pass : ℕ → Mark → ℕ
to_pass start Open = 1
to_pass start (Walking by) = if by == start then 0 else 1
to_pass start (Ended e) = 0

abbrev pub passed : ℕ → Mark → ℕ
passed start m = if walks start m then 1 else 0
