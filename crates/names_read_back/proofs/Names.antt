-- The numbers of a text's words: without alias lines a word's number is its place among the definitions.
use Rattle.std.proofs.Common.{◌≡◌, ℕ, zero, suc, ◌+◌, ◌<◌, nat_eq, Bool, true, false, cond, List, [], ◌∷◌, length, Option, Some, None, refl, sym, ap, subst, ◌∙◌, arith}
use Rattle.std.specs.List.{range_with_len}
use Rattle.std.proofs.lemmas.Bool.{eqb-true}
use Rattle.std.proofs.lemmas.Bool.Decides.{nat_tests}
use Rattle.ir_core.specs.Lists.{Each}
use Rattle.ir_core.proofs.Equal.{number_flip}
use Rattle.name_tables.specs.declared.firsts.Def.{Def}
use Rattle.name_tables.specs.Words.{place_among, place_in}
use Rattle.name_tables.specs.Chains.{look, chain, Ends, ComesTo, numbered, HasNumber, IsNumbering}

-- among the numbers from a on, each stands at its own place
in_range : (a k j v : ℕ) → v ≡ a + j → j < k → place_among (range_with_len a k) v ≡ j
in_range a zero j v e h = absurd (omega arith)
in_range a (suc k) zero v e h = let s : nat_eq a v ≡ true = grind (arith, nat_tests) in rw s refl
in_range a (suc k) (suc j) v e h =
    let s : nat_eq a v ≡ false = grind (arith, nat_tests) in rw s (ap suc (in_range (a + 1) k j v (omega arith) (omega arith)))

pub own_place : (k v : ℕ) → v < k → place_among (range_with_len 0 k) v ≡ v
own_place k v h = in_range 0 k v v (omega arith) h

-- ---- definitions without alias lines

abbrev pub IsNoAlias : Def → Type 0
IsNoAlias d = d.target ≡ None

not_found : (defs : List Def) (v : ℕ) → Each IsNoAlias defs → look defs v ≡ None → place_in (numbered defs) v ≡ length (numbered defs)
not_found [] v h e = refl
not_found (d ∷ ds) v h e = rw h.0 (go (nat_eq v d.name.number) refl e (not_found ds v h.1))
  where
    go : (b : Bool) → nat_eq v d.name.number ≡ b → cond b (Some d) (look ds v) ≡ None → (look ds v ≡ None → place_in (numbered ds) v ≡ length (numbered ds)) → cond (nat_eq d.name.number v) 0 (suc (place_in (numbered ds) v)) ≡ suc (length (numbered ds))
    go true s e more = absurd cc
    go false s e more = rw (number_flip d.name.number v ∙ s) (ap suc (more e))

pub found_is : (defs : List Def) (v : ℕ) (d : Def) → Each IsNoAlias defs → look defs v ≡ Some d → (d.name.number ≡ v) × IsNoAlias d
found_is [] v d h e = absurd cc
found_is (x ∷ xs) v d h e = go (nat_eq v x.name.number) refl e (found_is xs v d h.1)
  where
    go : (b : Bool) → nat_eq v x.name.number ≡ b → cond b (Some x) (look xs v) ≡ Some d → (look xs v ≡ Some d → (d.name.number ≡ v) × IsNoAlias d) → (d.name.number ≡ v) × IsNoAlias d
    go true s e more = let same : x ≡ d = cc in subst (λ (y : Def). (y.name.number ≡ v) × IsNoAlias y) same (sym (eqb-true v x.name.number s), h.0)
    go false s e more = more e

pub ends : (defs : List Def) (d : Def) → IsNoAlias d → ComesTo defs d (Ends d)
unfolding chain
ends defs d e = (1, rw e refl)

-- a word's number is its place
pub plain_numbering : (defs : List Def) → Each IsNoAlias defs → IsNumbering defs (place_in (numbered defs))
plain_numbering defs h v = go (look defs v) refl
  where
    go : (o : Option Def) → look defs v ≡ o → HasNumber defs o (place_in (numbered defs) v)
    go None e = not_found defs v h e
    go (Some d) e = let is = found_is defs v d h e in (d, ends defs d is.1, ap (place_in (numbered defs)) (sym is.0))
