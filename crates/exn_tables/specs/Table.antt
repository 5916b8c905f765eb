-- Which entries of an exception table take a tag: an entry with a tag takes the exceptions of that tag, and an entry
-- without one, written `default`, takes every exception. A table is tried in written order, and the first match is
-- taken.
use Rattle.std.specs.Prelude.{◌≡◌, ℕ, ◌==◌, Bool, true}
use Rattle.std.specs.Option.{option_map_or}
use Rattle.exn_tables.specs.declared.table.Entry.{Entry}

abbrev pub takes : {T : Type 0} → ℕ → Entry T → Bool
takes tag entry = option_map_or (λ own. own == tag) entry.tag true

-- a clone is the value that it was made from
abbrev pub ClonesAreEqual : {T : Type 0} → (T → T → Type 0) → Type 0
ClonesAreEqual {T} is_clone = (x y : T) → is_clone x y → y ≡ x
