-- What is found by comparing items with one another.
use Rattle.std.specs.Prelude.{◌≡◌, ℕ, ◌+◌, ◌≤◌, List, ◌++◌, length, map, Bool}
use Rattle.ir_core.specs.declared.signatures.Sig.{Sig}
use Rattle.ir_semantics.specs.Import.{with_item, with_items, first_place}
use Rattle.body_import.specs.declared.comparing.MergedSigs.{MergedSigs}

-- a caller's own signatures, and behind them those that are added
abbrev pub all_sigs : MergedSigs → List Sig
all_sigs m = m.own.now ++ m.added.now

-- the place of x among its own items and those added, to which x is put where it is new
pub record IsPlaced {A : Type 0} (same : A → A → Bool) (own old new : List A) (x : A) (place : ℕ) : Type 0 where
  pub list : own ++ new ≡ with_item same (own ++ old) x
  pub first : place ≡ first_place same (own ++ old) x
  pub fewer : length new ≤ length old + 1

-- what is added to its own items where xs are put behind them, and the place of each
pub record IsMerged {A : Type 0} (same : A → A → Bool) (own xs added : List A) (table : List ℕ) : Type 0 where
  pub list : with_items same own xs ≡ own ++ added
  pub places : table ≡ map (first_place same (with_items same own xs)) xs
  pub fewer : length added ≤ length xs
