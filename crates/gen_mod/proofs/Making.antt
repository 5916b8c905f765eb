-- A module is made function by function.
use Rattle.std.proofs.Common.{◌≡◌, ℕ, zero, suc, ◌+◌, ◌-◌, ◌<◌, ◌≤◌, ◌^◌, [], ◌∷◌, ◌++◌, None, refl}
use Rattle.std.proofs.Common.{◌≢◌, Bool, cond, sym, ap, ap₂, ◌∙◌, arith, append_assoc, eq-eqb, ne_eqb}
use Rattle.std.proofs.lemmas.List.{append-nil}
use Rattle.ir_core.specs.Module.{Function, Module}
use Rattle.ir_core.specs.Lists.{Each}
use Rattle.ir_core.specs.Lookup.{find_function}
use Rattle.ir_core.proofs.Members.{each_more, each_join}
use Rattle.gen_mod.specs.Draws.{after, number}
use Rattle.gen_mod.specs.Shapes.{generated_name, adding}
use Rattle.gen_mod.specs.Generated.{Made, makes_adding, shaped, function, functions_from, generated}
use Rattle.gen_mod.proofs.Naming.{Other, find_none, function_named}

-- it has the name of a function before i
pub record Earlier (i : ℕ) (f : Function) : Type 0 where
  pub number : ℕ
  pub before : number < i
  pub named : f.name ≡ generated_name number

-- these functions are made, and those from the function i on are left
pub record Makes (start n i state : ℕ) (made : Module) : Type 0 where
  pub whole : made ++ functions_from (n - i) i state ≡ generated start n
  pub named : Each (Earlier i) made

pub new_name : (start n i state later : ℕ) (made : Module) (f : Function) → i < 2 ^ 64 → (f, later) ≡ function i state
    → Makes start n i state made → find_function f.name made ≡ None
new_name start n i state later made f small is makes =
    ap (λ (m : Made). find_function m.0.name made) is
    ∙ (ap (λ name. find_function name made) (function_named i state)
    ∙ find_none i small made (each_more (Earlier i) (Other i) other made makes.named))
  where
    other : (g : Function) → Earlier i g → Other i g
    other g e = record {
      number = e.number;
      below = omega (arith, e.before, small);
      differs = λ q. omega (arith, e.before, q);
      named = e.named;
    }

next_made : (n i state : ℕ) → i < n
    → functions_from (n - i) i state ≡ (function i state).0 ∷ functions_from (n - (i + 1)) (i + 1) (function i state).1
unfolding functions_from
next_made n i state less = let e : n - i ≡ suc (n - (i + 1)) = omega arith in rw e refl

pub makes_more : (start n i state later : ℕ) (made : Module) (f : Function) → i < n → (f, later) ≡ function i state
    → Makes start n i state made → Makes start n (i + 1) later (made ++ f ∷ [])
makes_more start n i state later made f less is makes = record {
  whole = regroup ∙ makes.whole;
  named = each_join (Earlier (i + 1)) made (f ∷ []) (each_more (Earlier i) (Earlier (i + 1)) earlier made makes.named)
      (last, tt);
}
  where
    last : Earlier (i + 1) f
    last = record {
      number = i;
      before = omega arith;
      named = ap (λ (m : Made). m.0.name) is ∙ function_named i state;
    }

    earlier : (g : Function) → Earlier i g → Earlier (i + 1) g
    earlier g e = record { number = e.number; before = omega (arith, e.before); named = e.named }

    left : functions_from (n - i) i state ≡ f ∷ functions_from (n - (i + 1)) (i + 1) later
    left =
        next_made n i state less
        ∙ ap (λ (m : Made). m.0 ∷ functions_from (n - (i + 1)) (i + 1) m.1) (sym is)

    regroup : (made ++ f ∷ []) ++ functions_from (n - (i + 1)) (i + 1) later ≡ made ++ functions_from (n - i) i state
    regroup =
        append_assoc made (f ∷ []) (functions_from (n - (i + 1)) (i + 1) later) ∙ ap (λ fs. made ++ fs) (sym left)

pub makes_all : (start n i state : ℕ) (made : Module) → n ≤ i → Makes start n i state made → made ≡ generated start n
unfolding functions_from
makes_all start n i state made past makes =
    let e : n - i ≡ zero = omega arith in
    let none : functions_from (n - i) i state ≡ [] = rw e refl in
    sym (append-nil made) ∙ (ap (λ fs. made ++ fs) (sym none) ∙ makes.whole)

-- ---- one function, as the code makes it

module _ (i state : ℕ) where
  abbrev by_test : Bool → Made
  by_test first = cond first (makes_adding i state) (shaped (number 4 (after state)) i (after state))

  -- the first has shape 0
  pub first_made : (constant later : ℕ) (f : Function) → i ≡ 0 → later ≡ after state → constant ≡ number 1000 later
      → f ≡ adding i constant → (f, later) ≡ function i state
  unfolding function
  first_made constant later f first moved drawn is =
      ap₂ (λ (g : Function) (s : ℕ). (g, s)) (is ∙ ap (adding i) (drawn ∙ ap (number 1000) moved)) moved
      ∙ sym (ap by_test (eq-eqb i 0 first))

  -- of any other the shape is drawn first
  pub other_made : (shape between later : ℕ) (f : Function) → i ≢ 0 → between ≡ after state
      → shape ≡ number 4 between → (f, later) ≡ shaped shape i between → (f, later) ≡ function i state
  unfolding function
  other_made shape between later f other moved drawn is =
      is
      ∙ (ap₂ (λ (n s : ℕ). shaped n i s) (drawn ∙ ap (number 4) moved) moved ∙ sym (ap by_test (ne_eqb i 0 other)))
