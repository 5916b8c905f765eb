-- Names of functions, and texts that are compared with others piece by piece.
use Rattle.std.proofs.Common.{◌≡◌, ◌≢◌, ℕ, zero, suc, List, [], ◌∷◌, ◌++◌, Bool, true, false, Option, None, Some, MatchOption, cond, slice_get, refl, sym, ap, ◌∙◌, append_assoc, append-nil, length, nat_eq, Bor}
use Rattle.std.proofs.Math.Dec.{eqb-suc-zero}
use Rattle.std.specs.Bool.{Decides}
use Rattle.ir_core.specs.Module.{Function, Module}
use Rattle.ir_core.specs.Lookup.{same_name, find_function}
use Rattle.ir_core.proofs.Equal.{equal_name}

-- a function's name is found
pub found_named : (m : Module) (i : ℕ) (f : Function) → slice_get m i ≡ Some f → (g : Function) × (find_function f.name m ≡ Some g)
found_named [] i f h = cc
found_named (g ∷ m) zero f h =
    let e : g ≡ f = cc in
    (g, ap (λ b. cond {A = Option Function} b (Some g) (find_function f.name m)) (equal_name g.name f.name (ap (λ (x : Function). x.name) e)))
found_named (g ∷ m) (suc i) f h = go (same_name g.name f.name) (found_named m i f h)
  where
    go : (b : Bool) → (x : Function) × (find_function f.name m ≡ Some x) → (x : Function) × (cond {A = Option Function} b (Some g) (find_function f.name m) ≡ Some x)
    go true r = (g, refl)
    go false r = r

append_cancel : (xs ys zs : List ℕ) → xs ++ ys ≡ xs ++ zs → ys ≡ zs
append_cancel [] ys zs h = h
append_cancel (x ∷ xs) ys zs h = let e : xs ++ ys ≡ xs ++ zs = cc in append_cancel xs ys zs e

-- what is left of a text that is compared, once these bytes were taken
abbrev pub Left : Option (List ℕ) → List ℕ → Option (Bor (List ℕ)) → Type 0
Left whole taken rest = MatchOption rest ((others : List ℕ) → whole ≢ Some (taken ++ others)) (λ r. whole ≡ Some (taken ++ r.now))

-- more bytes are taken
pub left_more : (whole : Option (List ℕ)) (taken bytes rest : List ℕ) (after : Option (Bor (List ℕ))) → whole ≡ Some (taken ++ rest) → MatchOption after ((others : List ℕ) → rest ≢ bytes ++ others) (λ r. rest ≡ bytes ++ r.now) → Left whole (taken ++ bytes) after
left_more whole taken bytes rest None h apart =
    λ others e.
    let q : Some (taken ++ rest) ≡ Some ((taken ++ bytes) ++ others) = sym h ∙ e in
    let r : taken ++ rest ≡ (taken ++ bytes) ++ others = cc in
    apart others (append_cancel taken rest (bytes ++ others) (r ∙ append_assoc taken bytes others))
left_more whole taken bytes rest (Some r) h e =
    h ∙ ap Some (ap (λ l. taken ++ l) e ∙ sym (append_assoc taken bytes r.now))

-- nothing more is left
no_more : (taken rest : List ℕ) → taken ≡ taken ++ rest → rest ≡ []
no_more [] rest h = sym h
no_more (x ∷ taken) rest h = let e : taken ≡ taken ++ rest = cc in no_more taken rest e

-- the whole text was taken exactly where it was and nothing is left
pub differs : (text taken : List ℕ) (rest : Option (Bor (List ℕ))) → Left (Some text) taken rest → rest ≡ None → Decides false (taken ≡ text)
differs text taken None h e = (λ yes. cc, λ same. absurd (h [] (ap Some (sym same ∙ sym (append-nil taken)))))
differs text taken (Some r) h e = cc

pub agrees : (text taken : List ℕ) (rest : Option (Bor (List ℕ))) (r : Bor (List ℕ)) (b : Bool) → Left (Some text) taken rest → rest ≡ Some r → b ≡ nat_eq (length r.now) 0 → Decides b (taken ≡ text)
agrees text taken None r b h e is = cc
agrees text taken (Some s) r b h e is =
    let q : s ≡ r = cc in
    let same : text ≡ taken ++ s.now = cc in
    go r.now b (same ∙ ap (λ (x : Bor (List ℕ)). taken ++ x.now) q) is
  where
    go : (rest : List ℕ) (b : Bool) → text ≡ taken ++ rest → b ≡ nat_eq (length rest) 0 → Decides b (taken ≡ text)
    go [] b h is = (λ _. sym (h ∙ append-nil taken), λ _. is)
    go (x ∷ xs) b h is =
        (λ yes. let e : false ≡ true = sym (eqb-suc-zero (length xs)) ∙ (sym is ∙ yes) in cc, λ same. let q : x ∷ xs ≡ [] = no_more taken (x ∷ xs) (same ∙ h) in cc)
