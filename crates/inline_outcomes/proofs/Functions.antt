-- Functions of a module by their names, and one in another's place: the module speaks of the same names where its callees
-- do.
use Rattle.std.proofs.Common.{◌≡◌, ◌⊎◌, inl, inr, List, [], ◌∷◌, ◌++◌, map, Some, Bool, true, false, refl, sym, ap, ◌∙◌, subst}
use Rattle.std.specs.Prelude.{if◌then◌else◌}
use Rattle.ir_core.specs.declared.names.FuncName.{FuncName}
use Rattle.ir_core.specs.declared.declarations.Callee.{Callee}
use Rattle.ir_core.specs.Module.{Function, Module}
use Rattle.ir_core.specs.Lookup.{same_name, find_function}
use Rattle.ir_core.specs.Lists.{In}
use Rattle.ir_semantics.specs.Names.{mentioned, names}
use Rattle.ir_semantics.specs.Import.{with_item, with_items, callees_with, callees_after, same_callee, sigs_after}
use Rattle.ir_semantics.specs.Splice.{replace}
use Rattle.ir_core.proofs.Equal.{equal_name, cases_name}
use Rattle.ir_core.proofs.Gets.{some_same}
use Rattle.ir_core.proofs.Members.{in_left, in_right, in_cases}
use Rattle.func_addrs.proofs.Keeping.{Within, in_order_same}

pub function_hit : (x : FuncName) (h : Function) (hs : Module) → h.name ≡ x → find_function x (h ∷ hs) ≡ Some h
function_hit x h hs q = ap (λ c. if c then Some h else find_function x hs) (equal_name h.name x q)

pub function_skip : (x : FuncName) (h : Function) (hs : Module) → same_name h.name x ≡ false → find_function x (h ∷ hs) ≡ find_function x hs
function_skip x h hs q = ap (λ c. if c then Some h else find_function x hs) q

pub function_name : (x : FuncName) (m : Module) (f : Function) → find_function x m ≡ Some f → f.name ≡ x
function_name x [] f h = cc
function_name x (k ∷ m) f h =
    elim (cases_name k.name x) [
      | inl q ↦ let e : k ≡ f = some_same (sym (function_hit x k m q) ∙ h) in ap (λ z. z.name) (sym e) ∙ q
      | inr q ↦ function_name x m f (sym (function_skip x k m q) ∙ h)
    ]

pub replaced : (f' : Function) (m : Module) (f : Function) → find_function f'.name m ≡ Some f → find_function f'.name (replace f' m) ≡ Some f'
replaced f' [] f h = cc
replaced f' (k ∷ m) f h =
    elim (cases_name k.name f'.name) [
      | inl q ↦ ap (λ c. find_function f'.name (if c then f' ∷ m else k ∷ replace f' m)) (equal_name k.name f'.name q) ∙ function_hit f'.name f' m refl
      | inr q ↦ ap (λ c. find_function f'.name (if c then f' ∷ m else k ∷ replace f' m)) q ∙ function_skip f'.name k (replace f' m) q ∙ replaced f' m f (sym (function_skip f'.name k m q) ∙ h)
    ]

not_same : {a b : FuncName} → (a ≡ b → ⊥) → same_name a b ≡ false
not_same {a} {b} off = elim (cases_name a b) [ inl q ↦ absurd (off q) | inr q ↦ q ]

pub others_stay : (f' : Function) (m : Module) (x : FuncName) → (x ≡ f'.name → ⊥) → find_function x (replace f' m) ≡ find_function x m
others_stay f' [] x off = refl
others_stay f' (k ∷ m) x off =
    elim (cases_name k.name f'.name) [
      | inl q ↦ ap (λ c. find_function x (if c then f' ∷ m else k ∷ replace f' m)) (equal_name k.name f'.name q) ∙ function_skip x f' m (not_same (λ p. off (sym p))) ∙ sym (function_skip x k m (not_same (λ p. off (sym p ∙ q))))
      | inr q ↦ ap (λ c. find_function x (if c then f' ∷ m else k ∷ replace f' m)) q ∙ under (others_stay f' m x off) (cases_name k.name x)
    ]
  where
    under : find_function x (replace f' m) ≡ find_function x m → (k.name ≡ x) ⊎ (same_name k.name x ≡ false) → find_function x (k ∷ replace f' m) ≡ find_function x (k ∷ m)
    under ih (inl p) = function_hit x k (replace f' m) p ∙ sym (function_hit x k m p)
    under ih (inr p) = function_skip x k (replace f' m) p ∙ ih ∙ sym (function_skip x k m p)

-- names of callees

abbrev callee_name : Callee → FuncName
callee_name c = c.name

abbrev pub own_names : Function → List FuncName
own_names f = f.name ∷ map callee_name f.callees

in_item : (same : Callee → Callee → Bool) (n : FuncName) (ys : List Callee) (x : Callee) → In n (map callee_name (with_item same ys x)) → In n (map callee_name ys) ⊎ (n ≡ x.name)
in_item same n [] x (inl q) = inr q
in_item same n [] x (inr q) = elim q [ ]
in_item same n (y ∷ ys) x h = go (λ k. in_item same n ys x k) (same y x) h
  where
    go : (In n (map callee_name (with_item same ys x)) → In n (map callee_name ys) ⊎ (n ≡ x.name)) → (b : Bool) → In n (map callee_name (if b then y ∷ ys else y ∷ with_item same ys x)) → In n (map callee_name (y ∷ ys)) ⊎ (n ≡ x.name)
    go ih true h = inl h
    go ih false (inl q) = inl (inl q)
    go ih false (inr q) = elim (ih q) [ inl r ↦ inl (inr r) | inr r ↦ inr r ]

item_in : (same : Callee → Callee → Bool) (n : FuncName) (ys : List Callee) (x : Callee) → In n (map callee_name ys) → In n (map callee_name (with_item same ys x))
item_in same n [] x h = elim h [ ]
item_in same n (y ∷ ys) x h = go (λ k. item_in same n ys x k) (same y x) h
  where
    go : (In n (map callee_name ys) → In n (map callee_name (with_item same ys x))) → (b : Bool) → In n (map callee_name (y ∷ ys)) → In n (map callee_name (if b then y ∷ ys else y ∷ with_item same ys x))
    go ih true h = h
    go ih false (inl q) = inl q
    go ih false (inr q) = inr (ih q)

in_items : (same : Callee → Callee → Bool) (n : FuncName) (ys xs : List Callee) → In n (map callee_name (with_items same ys xs)) → In n (map callee_name ys) ⊎ In n (map callee_name xs)
in_items same n ys [] h = inl h
in_items same n ys (x ∷ xs) h =
    elim (in_items same n (with_item same ys x) xs h) [ inl q ↦ elim (in_item same n ys x q) [ inl r ↦ inl r | inr r ↦ inr (inl r) ] | inr q ↦ inr (inr q) ]

items_in : (same : Callee → Callee → Bool) (n : FuncName) (ys xs : List Callee) → In n (map callee_name ys) → In n (map callee_name (with_items same ys xs))
items_in same n ys [] h = h
items_in same n ys (x ∷ xs) h = items_in same n (with_item same ys x) xs (item_in same n ys x h)

with_names : (f g : Function) (cs : List Callee) → map callee_name (callees_with f g cs) ≡ map callee_name cs
with_names f g [] = refl
with_names f g (c ∷ cs) = ap (λ ns. c.name ∷ ns) (with_names f g cs)

-- a function's names are the module's

pub own_mentioned : (x : FuncName) (m : Module) (f : Function) → find_function x m ≡ Some f → (n : FuncName) → In n (own_names f) → In n (mentioned m)
own_mentioned x [] f h n i = cc
own_mentioned x (k ∷ m) f h n i =
    elim (cases_name k.name x) [
      | inl q ↦ (let e : k ≡ f = some_same (sym (function_hit x k m q) ∙ h) in at_head (subst (λ z. In n (own_names z)) (sym e) i))
      | inr q ↦ inr (in_right n (map callee_name k.callees) (mentioned m) (own_mentioned x m f (sym (function_skip x k m q) ∙ h) n i))
    ]
  where
    at_head : In n (own_names k) → In n (mentioned (k ∷ m))
    at_head (inl q) = inl q
    at_head (inr q) = inr (in_left n (map callee_name k.callees) (mentioned m) q)

-- f' in f's place

mentioned_replaced : (f' : Function) (m : Module) (n : FuncName) → In n (mentioned (replace f' m)) → In n (own_names f') ⊎ In n (mentioned m)
mentioned_replaced f' [] n h = elim h [ ]
mentioned_replaced f' (k ∷ m) n h = go (λ i. mentioned_replaced f' m n i) (same_name k.name f'.name) h
  where
    go : (In n (mentioned (replace f' m)) → In n (own_names f') ⊎ In n (mentioned m)) → (b : Bool) → In n (mentioned (if b then f' ∷ m else k ∷ replace f' m)) → In n (own_names f') ⊎ In n (mentioned (k ∷ m))
    go ih true (inl q) = inl (inl q)
    go ih true (inr q) = elim (in_cases n (map callee_name f'.callees) (mentioned m) q) [ inl r ↦ inl (inr r) | inr r ↦ inr (inr (in_right n (map callee_name k.callees) (mentioned m) r)) ]
    go ih false (inl q) = inr (inl q)
    go ih false (inr q) =
        elim (in_cases n (map callee_name k.callees) (mentioned (replace f' m)) q) [
          | inl r ↦ inr (inr (in_left n (map callee_name k.callees) (mentioned m) r))
          | inr r ↦ elim (ih r) [ inl s ↦ inl s | inr s ↦ inr (inr (in_right n (map callee_name k.callees) (mentioned m) s)) ]
        ]

replaced_mentioned : (f' : Function) (m : Module) (f : Function) → find_function f'.name m ≡ Some f → (n : FuncName) → In n (mentioned m) → In n (own_names f) ⊎ In n (mentioned (replace f' m))
replaced_mentioned f' [] f h n i = cc
replaced_mentioned f' (k ∷ m) f h n i = go (λ e j. replaced_mentioned f' m f e n j) (same_name k.name f'.name) refl i
  where
    go : (find_function f'.name m ≡ Some f → In n (mentioned m) → In n (own_names f) ⊎ In n (mentioned (replace f' m))) → (b : Bool) → same_name k.name f'.name ≡ b → In n (mentioned (k ∷ m)) → In n (own_names f) ⊎ In n (mentioned (if b then f' ∷ m else k ∷ replace f' m))
    go ih true q (inl r) = let e : k ≡ f = some_same (sym (ap (λ c. if c then Some k else find_function f'.name m) q) ∙ h) in inl (subst (λ z. In n (own_names z)) e (inl r))
    go ih true q (inr r) =
        let e : k ≡ f = some_same (sym (ap (λ c. if c then Some k else find_function f'.name m) q) ∙ h) in
        elim (in_cases n (map callee_name k.callees) (mentioned m) r) [ inl s ↦ inl (subst (λ z. In n (own_names z)) e (inr s)) | inr s ↦ inr (inr (in_right n (map callee_name f'.callees) (mentioned m) s)) ]
    go ih false q (inl r) = inr (inl r)
    go ih false q (inr r) =
        elim (in_cases n (map callee_name k.callees) (mentioned m) r) [
          | inl s ↦ inr (inr (in_left n (map callee_name k.callees) (mentioned (replace f' m)) s))
          | inr s ↦ elim (ih (sym (function_skip f'.name k m q) ∙ h) s) [ inl t ↦ inl t | inr t ↦ inr (inr (in_right n (map callee_name k.callees) (mentioned (replace f' m)) t)) ]
        ]

-- the names of a module are those of the module in which f has g's callees too
pub names_stay : (m : Module) (f g f' : Function) → f'.name ≡ f.name → f'.callees ≡ callees_after f g → find_function f.name m ≡ Some f → (x : FuncName) → find_function x m ≡ Some g → names m ≡ names (replace f' m)
unfolding names
names_stay m f g f' same callees is_f x is_g = in_order_same (mentioned m) (mentioned (replace f' m)) there back
  where
    is_f' : find_function f'.name m ≡ Some f
    is_f' = ap (λ z. find_function z m) same ∙ is_f

    to_new : (n : FuncName) → In n (own_names f) → In n (own_names f')
    to_new n (inl q) = inl (q ∙ sym same)
    to_new n (inr q) = inr (subst (λ cs. In n (map callee_name cs)) (sym callees) (items_in (same_callee (sigs_after f g)) n f.callees (callees_with f g g.callees) q))

    there : Within (mentioned m) (mentioned (replace f' m))
    there n i =
        elim (replaced_mentioned f' m f is_f' n i) [
          | inl q ↦ own_mentioned f'.name (replace f' m) f' (replaced f' m f is_f') n (to_new n q)
          | inr q ↦ q
        ]

    from_new : (n : FuncName) → In n (own_names f') → In n (mentioned m)
    from_new n (inl q) = own_mentioned f.name m f is_f n (inl (q ∙ same))
    from_new n (inr q) =
        elim (in_items (same_callee (sigs_after f g)) n f.callees (callees_with f g g.callees) (subst (λ cs. In n (map callee_name cs)) callees q)) [
          | inl r ↦ own_mentioned f.name m f is_f n (inr r)
          | inr r ↦ own_mentioned x m g is_g n (inr (subst (In n) (with_names f g g.callees) r))
        ]

    back : Within (mentioned (replace f' m)) (mentioned m)
    back n i = elim (mentioned_replaced f' m n i) [ inl q ↦ from_new n q | inr q ↦ q ]
