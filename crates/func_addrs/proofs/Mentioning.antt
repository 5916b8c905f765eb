-- Loops over the names that a module speaks of.
use Rattle.std.proofs.Common.{◌≡◌, ℕ, zero, suc, ◌+◌, ◌<◌, ◌≤◌, List, [], ◌∷◌, ◌++◌, Option, Some, Bool, true, false, refl, sym, ap, ◌∙◌, subst, arith, length, get_or, drop, map, slice_get, append_assoc, drop-cons, add-one}
use Rattle.std.specs.Prelude.{if◌then◌else◌}
use Rattle.std.specs.Ordering.{is_lt}
use Rattle.std.specs.List.Sorted.{IsSortedBy}
use Rattle.std.proofs.lemmas.List.{map-append}
use Rattle.ir_core.specs.declared.declarations.Callee.{Callee}
use Rattle.ir_core.specs.Module.{Function, Module}
use Rattle.ir_core.specs.declared.names.FuncName.{FuncName}
use Rattle.ir_semantics.specs.Names.{mentioned, in_order}
use Rattle.func_addrs.specs.declared.mentions.Mention.{Mention}
use Rattle.func_addrs.specs.Mentions.{names_of}
use Rattle.func_addrs.specs.Order.{name_cmp, NeverFalls, begins_apart}
use Rattle.func_addrs.proofs.Keeping.{order_next, falls_rest}

pub names_push : (ms : List Mention) (x : Mention) → names_of (ms ++ x ∷ []) ≡ names_of ms ++ x.name.now ∷ []
names_push ms x = map-append (λ (m : Mention). m.name.now) ms (x ∷ [])

-- ---- the names as they stand in a module

drop_there : (m : Module) (i : ℕ) (f : Function) → slice_get m i ≡ Some f → drop i m ≡ f ∷ drop (suc i) m
drop_there [] i f h = cc
drop_there (g ∷ m) zero f h = let e : g ≡ f = cc in ap (λ k. k ∷ m) e
drop_there (g ∷ m) (suc i) f h = drop_there m i f h

pub mentioned_next : (m : Module) (i : ℕ) (f : Function) (out new : List FuncName) → slice_get m i ≡ Some f → new ≡ (out ++ f.name ∷ []) ++ map (λ (c : Callee). c.name) f.callees → new ++ mentioned (drop (i + 1) m) ≡ out ++ mentioned (drop i m)
mentioned_next m i f out new h e =
    let d : drop (i + 1) m ≡ drop (suc i) m = ap (λ k. drop k m) (add-one i) in
    let cs = map (λ (c : Callee). c.name) f.callees in
    ap (λ t. t ++ mentioned (drop (i + 1) m)) e
    ∙ (ap (λ t. ((out ++ f.name ∷ []) ++ cs) ++ mentioned t) d
    ∙ (append_assoc (out ++ f.name ∷ []) cs (mentioned (drop (suc i) m))
    ∙ (append_assoc out (f.name ∷ []) (cs ++ mentioned (drop (suc i) m))
    ∙ ap (λ t. out ++ mentioned t) (sym (drop_there m i f h)))))

-- ---- names in order

-- the last name has none behind it
pub last_apart : (ms : List Mention) (i : ℕ) → i + 1 ≡ length ms → true ≡ begins_apart (names_of (drop i ms))
last_apart [] i h = absurd (omega arith)
last_apart (x ∷ []) zero h = refl
last_apart (x ∷ y ∷ ms) zero h = absurd (omega arith)
last_apart (x ∷ ms) (suc i) h = last_apart ms i (omega arith)

pub falls_from : (ms : List Mention) → IsSortedBy (λ a b. is_lt (name_cmp a.name.now b.name.now)) ms → NeverFalls (names_of ms)
falls_from [] s = tt
falls_from (x ∷ []) s = tt
falls_from (x ∷ y ∷ ms) s =
    (s 0 x (omega arith) (omega arith), falls_from (y ∷ ms) (λ k d low h. let e : suc k + 1 ≡ suc (k + 1) = omega arith in subst (λ j. is_lt (name_cmp (get_or (x ∷ y ∷ ms) j d).name.now (get_or (y ∷ ms) k d).name.now) ≡ false) e (s (suc k) d (omega arith) (omega arith))))

falls_drop : (i : ℕ) (ms : List Mention) → NeverFalls (names_of ms) → NeverFalls (names_of (drop i ms))
falls_drop zero ms f = f
falls_drop (suc i) [] f = tt
falls_drop (suc i) (x ∷ ms) f = falls_drop i ms (falls_rest x.name.now (names_of ms) f)

next_kept : (b : Bool) (n : FuncName) (ns : List FuncName) (kept : List FuncName) → begins_apart (n ∷ ns) ≡ b → NeverFalls (n ∷ ns) → kept ++ in_order (n ∷ ns) ≡ (if b then (kept ++ n ∷ []) ++ in_order ns else kept ++ in_order ns)
next_kept true n ns kept e f = ap (λ t. kept ++ t) (order_next n ns f ∙ ap (λ c. if c then n ∷ in_order ns else in_order ns) e) ∙ sym (append_assoc kept (n ∷ []) (in_order ns))
next_kept false n ns kept e f = ap (λ t. kept ++ t) (order_next n ns f ∙ ap (λ c. if c then n ∷ in_order ns else in_order ns) e)

at_place : (b : Bool) (ms : List Mention) (i : ℕ) (d : Mention) (kept total : List FuncName) → i < length ms → NeverFalls (names_of ms) → begins_apart (names_of (drop i ms)) ≡ b → kept ++ in_order (names_of (drop i ms)) ≡ total → (if b then (kept ++ (get_or ms i d).name.now ∷ []) ++ in_order (names_of (drop (i + 1) ms)) else kept ++ in_order (names_of (drop (i + 1) ms))) ≡ total
at_place b ms i d kept total h f e inv =
    let c : drop i ms ≡ get_or ms i d ∷ drop (i + 1) ms = rw (add-one i) (drop-cons ms i d h) in
    sym (next_kept b (get_or ms i d).name.now (names_of (drop (i + 1) ms)) kept (sym (ap (λ t. begins_apart (names_of t)) c) ∙ e) (subst (λ t. NeverFalls (names_of t)) c (falls_drop i ms f)))
    ∙ (ap (λ t. kept ++ in_order (names_of t)) (sym c) ∙ inv)

-- a name that differs from the next is kept
pub kept_next : (ms : List Mention) (i : ℕ) (x : Mention) (kept new total : List FuncName) → i < length ms → NeverFalls (names_of ms) → begins_apart (names_of (drop i ms)) ≡ true → x ≡ get_or ms i x → new ≡ kept ++ x.name.now ∷ [] → kept ++ in_order (names_of (drop i ms)) ≡ total → new ++ in_order (names_of (drop (i + 1) ms)) ≡ total
kept_next ms i x kept new total h f e ex en inv =
    ap (λ ns. ns ++ in_order (names_of (drop (i + 1) ms))) (en ∙ ap (λ (y : Mention). kept ++ y.name.now ∷ []) ex)
    ∙ at_place true ms i x kept total h f e inv

-- and one that does not is left out
pub left_out : (ms : List Mention) (i : ℕ) (kept total : List FuncName) → i < length ms → NeverFalls (names_of ms) → begins_apart (names_of (drop i ms)) ≡ false → kept ++ in_order (names_of (drop i ms)) ≡ total → kept ++ in_order (names_of (drop (i + 1) ms)) ≡ total
left_out [] i kept total h f e inv = absurd (omega arith)
left_out (x ∷ ms) i kept total h f e inv = at_place false (x ∷ ms) i x kept total h f e inv
