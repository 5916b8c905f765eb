-- The functions of a list, one after the other, each of another name than those before it.
use Rattle.std.proofs.Common.{◌≡◌, ℕ, zero, suc, ◌<◌, ◌+◌, List, [], ◌∷◌, ◌++◌, map, take, length, get_or, true, false, cond, Option, Some, None, refl, sym, ap, ◌∙◌}
use Rattle.std.specs.Prelude.{is_some, slice_get}
use Rattle.std.proofs.lemmas.List.{map_more}
use Rattle.ir_core.specs.declared.names.FuncName.{FuncName}
use Rattle.ir_core.specs.Module.{Function}
use Rattle.ir_core.specs.Edits.{Body}
use Rattle.ir_core.specs.Lists.{Each}
use Rattle.ir_core.specs.Lookup.{same_name, find_function}
use Rattle.ir_core.specs.Named.{function_in, functions_in, place_of}
use Rattle.ir_core.specs.WellFormed.{DifferentNames}
use Rattle.ir_core.proofs.Indexing.{no_place, place_cases}
use Rattle.ir_core.proofs.Firsts.{none_of}
use Rattle.ir_core.proofs.Wholeness.{name_flip, other_first}

none_at : (n : FuncName) (xs : List Body) (k : ℕ) (x : Body) → slice_get xs k ≡ Some x → find_function n (functions_in xs) ≡ None → same_name x.function.name n ≡ false
none_at n [] k x e h = cc
none_at n (y ∷ xs) zero x e h = let q : y ≡ x = cc in ap (λ (z : Body). same_name z.function.name n) (sym q) ∙ (other_first n y.function (functions_in xs) h).0
none_at n (y ∷ xs) (suc k) x e h = none_at n xs k x e (other_first n y.function (functions_in xs) h).1

-- where all names differ, no function before one has its name
none_before : (xs : List Body) (k : ℕ) (x : Body) → slice_get xs k ≡ Some x → DifferentNames (functions_in xs) → find_function x.function.name (functions_in (take k xs)) ≡ None
none_before [] k x e d = cc
none_before (y ∷ xs) zero x e d = refl
none_before (y ∷ xs) (suc k) x e d =
    ap (λ b. cond {A = Option Function} b (Some y.function) (find_function x.function.name (functions_in (take k xs)))) (name_flip y.function.name x.function.name ∙ none_at y.function.name xs k x e d.0)
    ∙ none_before xs k x e d.1

-- where a function before one has its name, not all names differ
pub met_again : (xs : List Body) (k : ℕ) (x : Body) → slice_get xs k ≡ Some x → is_some (place_of x.function.name (functions_in (take k xs))) ≡ true → DifferentNames (functions_in xs) → ⊥
met_again xs k x e met d =
    let q : false ≡ true = ap is_some (sym (no_place x.function.name (functions_in (take k xs)) (none_before xs k x e d))) ∙ met in
    cc

-- with the function at a place behind those before it
pub one_more : (xs : List Body) (k : ℕ) (x : Body) → k < length xs → x ≡ get_or xs k x → functions_in (take (k + 1) xs) ≡ functions_in (take k xs) ++ (x.function ∷ [])
one_more xs k x l e = map_more function_in xs k x l ∙ ap (λ z. functions_in (take k xs) ++ (function_in z ∷ [])) (sym e)

pub each_mapped : {A B : Type 0} (P : B → Type 0) (f : A → B) (xs : List A) → Each (λ a. P (f a)) xs → Each P (map f xs)
each_mapped P f [] h = tt
each_mapped P f (x ∷ xs) h = (h.0, each_mapped P f xs h.1)

-- what is found nowhere
pub not_met : (n : FuncName) (fs : List Function) (o : Option ℕ) → o ≡ place_of n fs → is_some o ≡ false → find_function n fs ≡ None
not_met n fs o e h = place_cases n fs None (sym (none_of o h) ∙ e)
