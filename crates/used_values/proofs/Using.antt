-- Facts of each element, where a list is walked: of what is left exactly where of the whole.
use Rattle.std.proofs.Common.{◌≡◌, ◌↔◌, ℕ, ◌+◌, ◌<◌, ◌≤◌, List, [], ◌∷◌, ◌++◌, length, drop, Some, Bool, true, false, get_or, refl, sym, ap, subst, ◌∙◌}
use Rattle.std.specs.Prelude.{slice_get, IsTrue}
use Rattle.std.proofs.lemmas.Option.{slice_get_read, slice_get_past}
use Rattle.ir_core.specs.declared.instructions.Arg.{Arg}
use Rattle.ir_core.specs.declared.instructions.Arg.TheVariants as arg
use Rattle.ir_core.specs.declared.instructions.BlockCall.{BlockCall}
use Rattle.ir_core.specs.Lists.{Each}
use Rattle.ir_core.specs.Uses.{arg_values_used, targets_used}
use Rattle.ir_core.proofs.Members.{each_left, each_right, each_join}
use Rattle.ir_core.proofs.Gets.{next_left}
use Rattle.avail_flow.proofs.Listing.{left_past}

pub record Left (P : ℕ → Type 0) (whole rest : List ℕ) : Type 0 where
  pub all : Each P rest → Each P whole
  pub others : Each P whole → Each P rest

-- what is left begins with a part of which it holds
pub left_more : (P : ℕ → Type 0) (whole rest front behind : List ℕ) → rest ≡ front ++ behind → Each P front → Left P whole rest → Left P whole behind
left_more P whole rest front behind e good l = record {
  all = λ b. l.all (subst (Each P) (sym e) (each_join P front behind good b));
  others = λ w. each_right P front behind (subst (Each P) e (l.others w));
}

-- or of which it does not hold: then it does not hold of the whole
pub left_bad : (P : ℕ → Type 0) (whole rest front behind : List ℕ) → rest ≡ front ++ behind → (Each P front → ⊥) → Left P whole rest → Each P whole → ⊥
left_bad P whole rest front behind e bad l w = bad (each_left P front behind (subst (Each P) e (l.others w)))

pub left_none : (P : ℕ → Type 0) (whole rest : List ℕ) → rest ≡ [] → Left P whole rest → Each P whole
left_none P whole rest e l = l.all (subst (Each P) (sym e) tt)

-- an answer on the front, in the negative and in the positive
pub refuses : (P : ℕ → Type 0) (whole rest front behind : List ℕ) (r : Bool) → rest ≡ front ++ behind → IsTrue r ↔ Each P front → r ≡ false → Left P whole rest → IsTrue false ↔ Each P whole
refuses P whole rest front behind r e t f l = (λ h. absurd cc, λ w. absurd (left_bad P whole rest front behind e (λ p. let y : r ≡ true = t.1 p in cc) l w))

pub goes_on : (P : ℕ → Type 0) (whole rest front behind : List ℕ) (r : Bool) → rest ≡ front ++ behind → IsTrue r ↔ Each P front → r ≡ true → Left P whole rest → Left P whole behind
goes_on P whole rest front behind r e t y l = left_more P whole rest front behind e (t.0 y) l

pub holds : (P : ℕ → Type 0) (whole rest : List ℕ) → rest ≡ [] → Left P whole rest → IsTrue true ↔ Each P whole
holds P whole rest e l = (λ h. left_none P whole rest e l, λ w. refl)

-- ---- the fronts

-- of one value
pub one_value : (P : ℕ → Type 0) (r : Bool) (v : ℕ) → IsTrue r ↔ P v → IsTrue r ↔ Each P (v ∷ [])
one_value P r v t = (λ h. (t.0 h, tt), λ e. t.1 e.0)

args_front : (a : Arg) (as' : List Arg) → arg_values_used (a ∷ as') ≡ arg_values_used (a ∷ []) ++ arg_values_used as'
args_front (arg.Value v) as' = refl
args_front (arg.Ret i) as' = refl
args_front (arg.Exn i) as' = refl

pub args_split : (as' : List Arg) (i : ℕ) (a : Arg) → i < length as' → a ≡ get_or as' i a → arg_values_used (drop i as') ≡ arg_values_used (a ∷ []) ++ arg_values_used (drop (i + 1) as')
args_split as' i a low at = ap arg_values_used (next_left as' i a (slice_get_read as' (length as') i a refl low at)) ∙ args_front a (drop (i + 1) as')

pub targets_split : (ts : List BlockCall) (i : ℕ) (t : BlockCall) → slice_get ts i ≡ Some t → targets_used (drop i ts) ≡ arg_values_used t.args ++ targets_used (drop (i + 1) ts)
targets_split ts i t at = ap targets_used (next_left ts i t at)

pub past : {A : Type 0} (xs : List A) (i : ℕ) → length xs ≤ i → drop i xs ≡ []
past xs i high = left_past xs i (slice_get_past xs i high)

-- ---- of two parts

pub first_refused : (P : ℕ → Type 0) (xs ys : List ℕ) (r : Bool) → IsTrue r ↔ Each P xs → r ≡ false → IsTrue false ↔ Each P (xs ++ ys)
first_refused P xs ys r t f = (λ h. absurd cc, λ e. let y : r ≡ true = t.1 (each_left P xs ys e) in absurd cc)

pub first_held : (P : ℕ → Type 0) (xs ys : List ℕ) (r s : Bool) → IsTrue r ↔ Each P xs → r ≡ true → IsTrue s ↔ Each P ys → IsTrue s ↔ Each P (xs ++ ys)
first_held P xs ys r s t y u = (λ h. each_join P xs ys (t.0 y) (u.0 h), λ e. u.1 (each_right P xs ys e))
