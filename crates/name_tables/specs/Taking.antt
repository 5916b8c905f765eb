-- What becomes of the words of a kind, and of the faults among them, as definitions and uses are taken in order.
use Rattle.std.specs.Prelude.{ℕ, Bool, nat_eq, position, is_none, nat_lt, length, unwrap_or, List, [], ◌∷◌, ◌++◌, None}
use Rattle.std.specs.Prelude.{if◌then◌else◌}
use Rattle.ir_text.specs.Writable.{greatest_number}
use Rattle.token_reader.specs.declared.raw.RawName.{RawName}
use Rattle.name_tables.specs.declared.names.Names.{Names}
use Rattle.name_tables.specs.Least.{earlier_spot}

abbrev pub no_names : Names
no_names = record { words = []; repeated = None; missing = None; outside = None }

abbrev pub is_new : Names → ℕ → Bool
is_new t n = is_none (position (nat_eq n) t.words)

-- a word is seen: its number keeps the limit, or does not
abbrev pub see : Names → RawName → Names
see t n = record t { outside = if nat_lt greatest_number n.number then earlier_spot t.outside n.spot else t.outside }

unfoldable pub declare : Names → RawName → Names
declare t n = record {
  words = if is_new t n.number then t.words ++ n.number ∷ [] else t.words;
  repeated = if is_new t n.number then t.repeated else earlier_spot t.repeated n.spot;
  missing = t.missing;
  outside = (see t n).outside;
}

unfoldable pub refer : Names → RawName → Names
refer t n = record {
  words = t.words;
  repeated = t.repeated;
  missing = if is_new t n.number then earlier_spot t.missing n.spot else t.missing;
  outside = (see t n).outside;
}

-- the place of a word, or the number of words where it is none of them
abbrev pub place_or_count : List ℕ → ℕ → ℕ
place_or_count words n = unwrap_or (position (nat_eq n) words) (length words)
