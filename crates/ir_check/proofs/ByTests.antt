-- The first fault, found by tests.
use Rattle.std.proofs.Common.{◌≡◌, inl, inr, ℕ, List, [], ◌∷◌, ◌++◌, Some, None, Bool, true, false, refl, ap, ◌∙◌, subst}
use Rattle.std.specs.Prelude.{if◌then◌else◌}
use Rattle.ir_core.specs.Module.{Function, Module}
use Rattle.ir_core.specs.Lists.{In, Each}
use Rattle.ir_core.proofs.Gets.{some_same, get_in}
use Rattle.ir_core.proofs.Members.{each_in}
use Rattle.ir_semantics.specs.Accepted.{Rule, not_available}
use Rattle.ir_check.specs.Faults.{Check, tried, first_rules, last_rules, checks, FirstBad, this, later, Passed}
use Rattle.ir_check.specs.Twins.{passes, first_failing, always_available}
use Rattle.ir_check.specs.Laws as law
use Rattle.ir_check.proofs.Firsts.{checks_of, tried_by, accepted_of, of_accepted}
use Rattle.ir_check.proofs.Tests.{Twin, kept_is}

pub rules_are_tests : law.RulesAreTests
rules_are_tests available m f place r h =
    let t = kept_is available m f place r (λ q b i v. record { yes = (h q b i v).0; back = (h q b i v).1 }) in
    (t.yes, t.back)

finds : (t : Check → Bool) (Good : Check → Type 0) (xs : List Check) → ((c : Check) → In c xs → Twin (t c) (Good c)) → (c : Check) → first_failing t xs ≡ Some c → FirstBad Good xs c
finds t Good [] h c q = cc
finds t Good (a ∷ xs) h c q = go (t a) (h a (inl refl)) q (finds t Good xs (λ d i. h d (inr i)) c)
  where
    go : (z : Bool) → Twin z (Good a) → (if z then first_failing t xs else Some a) ≡ Some c → (first_failing t xs ≡ Some c → FirstBad Good xs c) → FirstBad Good (a ∷ xs) c
    go true w q ih = later (w.yes refl) (ih q)
    go false w q ih = subst (λ z. FirstBad Good (a ∷ xs) z) (some_same q) (this (λ g. let e : false ≡ true = w.back g in cc))

finds_none : (t : Check → Bool) (Good : Check → Type 0) (xs : List Check) → ((c : Check) → In c xs → Twin (t c) (Good c)) → first_failing t xs ≡ None → Each Good xs
finds_none t Good [] h q = tt
finds_none t Good (a ∷ xs) h q = go (t a) (h a (inl refl)) q (finds_none t Good xs (λ d i. h d (inr i)))
  where
    go : (z : Bool) → Twin z (Good a) → (if z then first_failing t xs else Some a) ≡ None → (first_failing t xs ≡ None → Each Good xs) → Each Good (a ∷ xs)
    go true w q ih = (w.yes refl, ih q)
    go false w q ih = cc

none_found : (t : Check → Bool) (Good : Check → Type 0) (xs : List Check) → ((c : Check) → In c xs → Twin (t c) (Good c)) → Each Good xs → first_failing t xs ≡ None
none_found t Good [] h e = refl
none_found t Good (a ∷ xs) h e = ap (λ z. if z then first_failing t xs else Some a) ((h a (inl refl)).back e.0) ∙ none_found t Good xs (λ d i. h d (inr i)) e.1

-- in a longer list
pub longer : {A : Type 0} (Good : A → Type 0) (xs ys : List A) (x : A) → FirstBad Good xs x → FirstBad Good (xs ++ ys) x
longer Good [] ys x h = elim h [ ]
longer Good (a ∷ xs) ys x (this p) = this p
longer Good (a ∷ xs) ys x (later p h) = later p (longer Good xs ys x h)

twins : (available : Function → ℕ → ℕ → ℕ → Bool) (m : Module) → ((f : Function) → In f m → law.Tells available f) → (c : Check) → In c (checks m) → Twin (passes available m c) (Passed m c)
twins available m h c i =
    kept_is available m c.func c.place c.rule (λ q b k v. let d = h c.func (get_in m c.number c.func (checks_of m c i)) b k v in record { yes = d.0; back = d.1 })

pub fault_by_tests : law.FaultByTests
fault_by_tests available m h =
    (λ c q. (c.func, finds (passes available m) (Passed m) (checks m) (twins available m h) c q), λ q. accepted_of m (finds_none (passes available m) (Passed m) (checks m) (twins available m h) q), λ ok. none_found (passes available m) (Passed m) (checks m) (twins available m h) (of_accepted m ok))

pub not_last : Each (λ (r : Rule). r ≡ not_available → ⊥) first_rules
not_last = (λ e. cc, (λ e. cc, (λ e. cc, (λ e. cc, (λ e. cc, (λ e. cc, (λ e. cc, (λ e. cc, tt))))))))

pub early : law.EarlyFault
early m c q =
    (c.func, longer (Passed m) (tried first_rules 0 m) (tried last_rules 0 m) c (finds (passes always_available m) (Passed m) (tried first_rules 0 m) twin c q))
  where
    twin : (d : Check) → In d (tried first_rules 0 m) → Twin (passes always_available m d) (Passed m d)
    twin d i = kept_is always_available m d.func d.place d.rule (λ e. absurd (each_in (λ (r : Rule). r ≡ not_available → ⊥) first_rules not_last d.rule (tried_by first_rules 0 m d i) e))
