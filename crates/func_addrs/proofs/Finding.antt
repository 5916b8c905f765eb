-- Names found by a binary search, and by their addresses.
use Rattle.std.proofs.Common.{◌≡◌, ℕ, zero, suc, ◌+◌, ◌*◌, ◌^◌, ◌<◌, ◌≤◌, List, [], ◌∷◌, Option, Some, None, Bool, true, false, refl, sym, ap, ◌∙◌, subst, arith, length, get_or, slice_get, eq-eqb, ne_eqb, nat_eq, inl, inr}
use Rattle.std.specs.Prelude.{if◌then◌else◌, ◌==◌}
use Rattle.std.specs.declared.cmp.Ordering.{Ordering}
use Rattle.std.specs.declared.cmp.Ordering.TheVariants.{Less, Equal, Greater}
use Rattle.std.specs.Ordering.{is_lt, is_eq, ordering_index, ordering_reverse}
use Rattle.std.specs.List.{AllWithin}
use Rattle.std.proofs.lemmas.Bool.{cases_lt}
use Rattle.std.specs.List.Sorted.{IsSortedBy, IsStrictlySortedBy, IsNonDecreasingBy}
use Rattle.std.proofs.lemmas.List.{get_or-map, length-map}
use Rattle.std.proofs.lemmas.List.Sorted.{searchable_from_sorted}
use Rattle.std.proofs.lemmas.Map.Keys.{Less-from_sorted, sorted_tail}
use Rattle.ir_core.specs.declared.names.FuncName.{FuncName}
use Rattle.ir_core.specs.Lookup.{same_name}
use Rattle.ir_core.proofs.Equal.{equal_name}
use Rattle.ir_semantics.specs.Names.{address, address_from, name_from}
use Rattle.func_addrs.specs.declared.mentions.Mention.{Mention}
use Rattle.func_addrs.specs.Mentions.{names_of}
use Rattle.func_addrs.specs.Order.{name_cmp}
use Rattle.func_addrs.proofs.Comparing.{name_total, same_is, equal_is}

-- ---- the search

-- a mention's name in the list of names
name_at_place : (ms : List Mention) (k : ℕ) (d : Mention) → k < length ms → get_or (names_of ms) k d.name.now ≡ (get_or ms k d).name.now
name_at_place ms k d h = get_or-map (λ (m : Mention). m.name.now) ms k d d.name.now h

sorted_from : (ms : List Mention) → IsStrictlySortedBy name_cmp (names_of ms) → IsSortedBy (λ a b. is_lt (name_cmp a.name.now b.name.now)) ms
sorted_from ms r k d low h =
    let n : length (names_of ms) ≡ length ms = length-map ms (λ (m : Mention). m.name.now) in
    let lt : k < length ms = omega arith in
    let less : name_cmp (get_or ms k d).name.now (get_or ms (k + 1) d).name.now ≡ Less = sym (ap (λ a. name_cmp a (get_or (names_of ms) (k + 1) d.name.now)) (name_at_place ms k d lt) ∙ ap (name_cmp (get_or ms k d).name.now) (name_at_place ms (k + 1) d h)) ∙ Less-from_sorted name_cmp (names_of ms) k (k + 1) d.name.now r (omega arith) (omega arith) in
    ap is_lt (name_total.antisymm (get_or ms (k + 1) d).name.now (get_or ms k d).name.now ∙ ap ordering_reverse less)

pub searchable : (ms : List Mention) (n : FuncName) → IsStrictlySortedBy name_cmp (names_of ms) → IsNonDecreasingBy (λ (m : Mention). ordering_index (name_cmp m.name.now n)) ms
searchable ms n r = searchable_from_sorted name_total (λ (m : Mention). m.name.now) ms n (sorted_from ms r)

-- a name that comes before does not have the address
other_name : (x n : FuncName) → name_cmp x n ≡ Less → same_name x n ≡ false
other_name x n h = sym (same_is x n) ∙ ap is_eq h

there : (i : ℕ) (ns : List FuncName) (n : FuncName) (k : ℕ) (d : FuncName) → IsStrictlySortedBy name_cmp ns → k < length ns → get_or ns k d ≡ n → Some (address (i + k)) ≡ address_from i ns n
there i [] n k d r h e = absurd (omega arith)
there i (x ∷ ns) n zero d r h e =
    let z : i + 0 ≡ i = omega arith in
    ap (λ j. Some (address j)) z ∙ ap (λ b. if b then Some (address i) else address_from (suc i) ns n) (sym (equal_name x n e))
there i (x ∷ ns) n (suc k) d r h e =
    let z : i + suc k ≡ suc i + k = omega arith in
    let less : name_cmp x n ≡ Less = ap (name_cmp x) (sym e) ∙ Less-from_sorted name_cmp (x ∷ ns) 0 (suc k) d r (omega arith) h in
    ap (λ j. Some (address j)) z
    ∙ (there (suc i) ns n k d (sorted_tail name_cmp x ns r) (omega arith) e
    ∙ ap (λ b. if b then Some (address i) else address_from (suc i) ns n) (sym (other_name x n less)))

pub found_there : (ms : List Mention) (n : FuncName) (k : ℕ) (d : Mention) → IsStrictlySortedBy name_cmp (names_of ms) → k < length ms → name_cmp (get_or ms k d).name.now n ≡ Equal → Some (address k) ≡ address_from 0 (names_of ms) n
found_there ms n k d r h e =
    let c : length (names_of ms) ≡ length ms = length-map ms (λ (m : Mention). m.name.now) in
    let z : 0 + k ≡ k = omega arith in
    ap (λ j. Some (address j)) (sym z)
    ∙ there 0 (names_of ms) n k d.name.now r (omega arith) (name_at_place ms k d h ∙ equal_is (get_or ms k d).name.now n e)

pub found_nowhere : (i : ℕ) (ms : List Mention) (n : FuncName) → ((k : ℕ) (d : Mention) → k < length ms → name_cmp (get_or ms k d).name.now n ≡ Equal → ⊥) → None ≡ address_from i (names_of ms) n
found_nowhere i [] n h = refl
found_nowhere i (x ∷ ms) n h =
    found_nowhere (suc i) ms n (λ k d lt e. h (suc k) d (omega arith) e)
    ∙ ap (λ b. if b then Some (address i) else address_from (suc i) (names_of ms) n) (sym (sym (same_is x.name.now n) ∙ not_equal (name_cmp x.name.now n) (λ e. h 0 x (omega arith) e)))
  where
    not_equal : (o : Ordering) → (o ≡ Equal → ⊥) → is_eq o ≡ false
    not_equal Less q = refl
    not_equal Equal q = absurd (q refl)
    not_equal Greater q = refl

-- the same as the search answers
pub found_by_search : (ms : List Mention) (n : FuncName) (k : ℕ) → IsStrictlySortedBy name_cmp (names_of ms) → k < length ms → ((d : Mention) → name_cmp (get_or ms k d).name.now n ≡ Equal) → Some (address k) ≡ address_from 0 (names_of ms) n
found_by_search [] n k r h e = absurd (omega arith)
found_by_search (x ∷ ms) n k r h e = found_there (x ∷ ms) n k x r h (e x)

pub missed_by_search : (ms : List Mention) (n : FuncName) (i : ℕ) → AllWithin (λ (m : Mention). name_cmp m.name.now n ≡ Less) ms 0 i → AllWithin (λ (m : Mention). name_cmp m.name.now n ≡ Greater) ms i (length ms) → None ≡ address_from 0 (names_of ms) n
missed_by_search ms n i less greater =
    found_nowhere 0 ms n (λ k d lt e. elim (cases_lt k i) [
      | inl h ↦ (let q : Less ≡ Equal = sym (less k d (omega arith) h) ∙ e in cc)
      | inr h ↦ (let q : Greater ≡ Equal = sym (greater k d h lt) ∙ e in cc)
    ])

-- ---- addresses

pub name_there : (i : ℕ) (ns : List FuncName) (k a : ℕ) → k < length ns → a ≡ address (i + k) → name_from i ns a ≡ slice_get ns k
name_there i [] k a h e = absurd (omega arith)
name_there i (x ∷ ns) zero a h e = let q : a ≡ address i = omega arith in ap (λ b. if b then Some x else name_from (suc i) ns a) (eq-eqb a (address i) q)
name_there i (x ∷ ns) (suc k) a h e =
    ap (λ b. if b then Some x else name_from (suc i) ns a) (ne_eqb a (address i) (λ q. omega arith))
    ∙ name_there (suc i) ns k a (omega arith) (omega arith)

pub name_nowhere : (i : ℕ) (ns : List FuncName) (a : ℕ) → ((k : ℕ) → k < length ns → a ≡ address (i + k) → ⊥) → name_from i ns a ≡ None
name_nowhere i [] a h = refl
name_nowhere i (x ∷ ns) a h =
    ap (λ b. if b then Some x else name_from (suc i) ns a) (ne_eqb a (address i) (λ q. h 0 (omega arith) (let z : i + 0 ≡ i = omega arith in q ∙ ap address (sym z))))
    ∙ name_nowhere (suc i) ns a (λ k lt e. h (suc k) (omega arith) (let z : suc i + k ≡ i + suc k = omega arith in e ∙ ap address z))
