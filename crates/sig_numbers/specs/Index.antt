-- An index of signatures: two have one number exactly where they are the same.
use Rattle.std.specs.Prelude.{◌≡◌, ◌<◌, ℕ, List, Option, Some}
use Rattle.std.specs.BTreeMap.{get_by, btree_map_len}
use Rattle.ir_core.specs.declared.signatures.Sig.{Sig}
use Rattle.ir_core.specs.Named.{compare_texts}
use Rattle.body_import.specs.SigKeys.{sig_key}
use Rattle.sig_numbers.specs.declared.index.Numbered.{Numbered}
use Rattle.sig_numbers.specs.declared.index.SigIndex.{SigIndex}

-- the number of a key, and of a signature
abbrev pub number_at : SigIndex → List ℕ → Option ℕ
number_at i k = get_by (compare_texts k) i.map

abbrev pub number_of : SigIndex → Sig → Option ℕ
number_of i s = number_at i (sig_key s)

-- the numbers are below the count of keys, no two keys have one number, and the signature that was numbered last has
-- the number that is kept with it
pub record IsIndex (i : SigIndex) : Type 0 where
  pub below : (k : List ℕ) (n : ℕ) → number_at i k ≡ Some n → n < btree_map_len i.map
  pub apart : (j k : List ℕ) (n : ℕ) → number_at i j ≡ Some n → number_at i k ≡ Some n → j ≡ k
  pub last : (l : Numbered) → i.last ≡ Some l → number_of i l.sig.now ≡ Some l.number

-- what has a number keeps it
abbrev pub Keeps : SigIndex → SigIndex → Type 0
Keeps i j = (k : List ℕ) (n : ℕ) → number_at i k ≡ Some n → number_at j k ≡ Some n
