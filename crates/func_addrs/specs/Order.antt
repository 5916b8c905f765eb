-- The order of names as a comparison.
use Rattle.std.specs.Prelude.{◌≡◌, ⊤, ℕ, List, [], ◌∷◌, Bool, true, false}
use Rattle.std.specs.declared.cmp.Ordering.{Ordering}
use Rattle.std.specs.declared.cmp.Ordering.TheVariants.{Less, Greater}
use Rattle.std.specs.Ordering.{is_lt, nat_cmp, ordering_then}
use Rattle.std.specs.Cmp.Lexicographic.{slice_cmp}
use Rattle.ir_core.specs.declared.names.FuncName.{FuncName}
use Rattle.ir_core.specs.declared.names.FuncName.TheVariants as name

abbrev pub text_cmp : List ℕ → FuncName → Ordering
text_cmp a (name.Text b) = slice_cmp nat_cmp a b
text_cmp a (name.User b j) = Less

abbrev pub numbers_cmp : ℕ → ℕ → FuncName → Ordering
numbers_cmp a i (name.Text b) = Greater
numbers_cmp a i (name.User b j) = ordering_then (nat_cmp a b) (nat_cmp i j)

abbrev pub name_cmp : FuncName → FuncName → Ordering
name_cmp (name.Text a) n = text_cmp a n
name_cmp (name.User a i) n = numbers_cmp a i n

-- no name is before the one in front of it
abbrev pub NeverFalls : List FuncName → Type 0
NeverFalls [] = ⊤
NeverFalls (x ∷ []) = ⊤
NeverFalls (x ∷ y ∷ ys) = (is_lt (name_cmp y x) ≡ false) × NeverFalls (y ∷ ys)

-- the first name is before the next, or has none behind it
abbrev pub begins_apart : List FuncName → Bool
begins_apart [] = false
begins_apart (x ∷ []) = true
begins_apart (x ∷ y ∷ ys) = is_lt (name_cmp x y)
