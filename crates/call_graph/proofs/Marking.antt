-- Calls listed by marks are the calls by names.
use Rattle.std.proofs.Common.{◌≡◌, ℕ, zero, suc, ◌+◌, ◌<◌, ◌≤◌, List, [], ◌∷◌, ◌++◌, length, map, get_or, take, Option, Some, None, Bool, true, false, ◌||◌, nat_eq, eq-eqb, ne_eqb, inl, inr, refl, sym, ap, ap₂, ◌∙◌, arith}
use Rattle.std.specs.Prelude.{slice_get}
use Rattle.std.proofs.Math.ListN.{set}
use Rattle.std.proofs.lemmas.List.{get_or-set_same, get_or-set_other, take_more, map_push}
use Rattle.std.proofs.lemmas.Bool.{or_right, cases_eq}
use Rattle.ir_core.specs.declared.names.FuncName.{FuncName}
use Rattle.ir_core.specs.declared.declarations.Callee.{Callee}
use Rattle.ir_core.specs.Module.{Line, Function, Module}
use Rattle.ir_core.specs.Lookup.{and_then, block_numbers}
use Rattle.ir_core.specs.Lists.{Different}
use Rattle.ir_core.specs.Uses.{callee_of}
use Rattle.ir_core.specs.Edits.{lines_of, blocks_at}
use Rattle.ir_core.proofs.Indexing.{place_cases}
use Rattle.ir_core.proofs.ByNumber.{blocks_again}
use Rattle.call_graph.specs.Reach.{called_name, or_nothing, names_in, called_names}
use Rattle.call_graph.specs.Calls.{number_of, with_number, numbers_of, has, put_new, each_once, calls_in}
use Rattle.call_graph.specs.Marks.{Fresh, Marked, targets_in, TargetsBelow}

-- ---- marks

or_none : (a b : Bool) → a ≡ false → (b || a) ≡ b
or_none a true h = refl
or_none a false h = h

has_push : (t k : ℕ) (ks : List ℕ) → has t (ks ++ (k ∷ [])) ≡ (has t ks || nat_eq t k)
has_push t k [] = go (nat_eq t k)
  where
    go : (b : Bool) → (b || false) ≡ b
    go true = refl
    go false = refl
has_push t k (x ∷ ks) = go (nat_eq t x) (has_push t k ks)
  where
    go : (b : Bool) → has t (ks ++ (k ∷ [])) ≡ (has t ks || nat_eq t k) → (b || has t (ks ++ (k ∷ []))) ≡ ((b || has t ks) || nat_eq t k)
    go true e = refl
    go false e = e

pub mark : (stamp target : ℕ) (seen calls : List ℕ) → target < length seen → Marked stamp seen calls → Marked stamp (set seen target stamp) (calls ++ (target ∷ []))
mark stamp target seen calls l h t = elim (cases_eq t target) [
  | inl e ↦
      let read : get_or (set seen target stamp) t 0 ≡ stamp = ap (λ z. get_or (set seen target stamp) z 0) e ∙ get_or-set_same seen target stamp 0 l in
      (omega (arith, read), eq-eqb (get_or (set seen target stamp) t 0) stamp read ∙ sym (has_push t target calls ∙ or_right (has t calls) (nat_eq t target) (eq-eqb t target e)))
  | inr e ↦
      let read : get_or (set seen target stamp) t 0 ≡ get_or seen t 0 = get_or-set_other seen target t stamp 0 e in
      (omega (arith, read, (h t).0), ap (λ z. nat_eq z stamp) read ∙ ((h t).1 ∙ sym (has_push t target calls ∙ or_none (nat_eq t target) (has t calls) (ne_eqb t target e))))
]

pub none_marked : (stamp : ℕ) (seen calls : List ℕ) → calls ≡ [] → Fresh stamp seen → Marked stamp seen calls
none_marked stamp seen calls e h t =
    (omega (arith, h t), ne_eqb (get_or seen t 0) stamp (λ q. omega (arith, h t, q)) ∙ ap (has t) (sym e))

pub stale : (stamp : ℕ) (seen calls : List ℕ) → Marked stamp seen calls → Fresh (stamp + 1) seen
stale stamp seen calls h t = omega (arith, (h t).0)

-- ---- lists of calls

pub once_join : (ks xs ys : List ℕ) → each_once ks (xs ++ ys) ≡ each_once (each_once ks xs) ys
once_join ks [] ys = refl
once_join ks (x ∷ xs) ys = once_join (put_new ks x) xs ys

with_join : (o : Option ℕ) (xs ys : List ℕ) → with_number o (xs ++ ys) ≡ with_number o xs ++ ys
with_join None xs ys = refl
with_join (Some k) xs ys = refl

pub numbers_join : (m : Module) (xs ys : List FuncName) → numbers_of m (xs ++ ys) ≡ numbers_of m xs ++ numbers_of m ys
numbers_join m [] ys = refl
numbers_join m (x ∷ xs) ys = ap (with_number (number_of m x)) (numbers_join m xs ys) ∙ with_join (number_of m x) (numbers_of m xs) (numbers_of m ys)

-- one line, and those behind it
pub line_more : (ks : List ℕ) (o : Option ℕ) (ns : List ℕ) → each_once ks (with_number o ns) ≡ each_once (each_once ks (with_number o [])) ns
line_more ks None ns = refl
line_more ks (Some k) ns = refl

number_at : (m : Module) (cs : List Callee) (k : ℕ) → and_then (slice_get (map (λ c. number_of m c.name) cs) k) (λ n. n) ≡ and_then (and_then (slice_get cs k) (λ c. Some c.name)) (number_of m)
number_at m [] k = refl
number_at m (c ∷ cs) zero = refl
number_at m (c ∷ cs) (suc k) = number_at m cs k

target_is : (m : Module) (cs : List Callee) (o : Option ℕ) → and_then o (λ k. and_then (slice_get (map (λ c. number_of m c.name) cs) k) (λ n. n)) ≡ and_then (and_then o (λ k. and_then (slice_get cs k) (λ c. Some c.name))) (number_of m)
target_is m cs None = refl
target_is m cs (Some k) = number_at m cs k

named : (m : Module) (o : Option FuncName) (ns : List FuncName) → numbers_of m (or_nothing o ++ ns) ≡ with_number (and_then o (number_of m)) (numbers_of m ns)
named m None ns = refl
named m (Some n) ns = refl

pub targets_named : (m : Module) (f : Function) (ls : List Line) → targets_in (map (λ c. number_of m c.name) f.callees) ls ≡ numbers_of m (names_in f ls)
targets_named m f [] = refl
targets_named m f (l ∷ ls) =
    ap₂ with_number (target_is m f.callees (callee_of l.inst)) (targets_named m f ls) ∙ sym (named m (called_name f l) (names_in f ls))

pub targets_below : (m : Module) (cs : List Callee) → TargetsBelow (length m) (map (λ c. number_of m c.name) cs)
targets_below m [] k t e = absurd cc
targets_below m (c ∷ cs) zero t e = let p : Some t ≡ number_of m c.name = cc in (place_cases c.name m (Some t) p).0
targets_below m (c ∷ cs) (suc k) t e = targets_below m cs k t e

-- the calls of one block, and those of the blocks behind it
pub block_more : (m : Module) (f : Function) (ks now it rest : List ℕ) (b : ℕ) → it ≡ b ∷ rest → now ≡ each_once ks (targets_in (map (λ c. number_of m c.name) f.callees) (lines_of b f.blocks)) → each_once ks (numbers_of m (called_names f (blocks_at f.blocks it))) ≡ calls_in m f → each_once now (numbers_of m (called_names f (blocks_at f.blocks rest))) ≡ calls_in m f
block_more m f ks now it rest b e n h =
    ap (λ z. each_once z (numbers_of m (called_names f (blocks_at f.blocks rest)))) (n ∙ ap (each_once ks) (targets_named m f (lines_of b f.blocks)))
    ∙ (sym (once_join ks (numbers_of m (names_in f (lines_of b f.blocks))) (numbers_of m (called_names f (blocks_at f.blocks rest))))
    ∙ (ap (each_once ks) (sym (numbers_join m (names_in f (lines_of b f.blocks)) (called_names f (blocks_at f.blocks rest))))
    ∙ (ap (λ z. each_once ks (numbers_of m (called_names f (blocks_at f.blocks z)))) (sym e) ∙ h)))

pub begun : (m : Module) (f : Function) (ks it : List ℕ) → ks ≡ [] → it ≡ block_numbers f.blocks → Different (block_numbers f.blocks) → each_once ks (numbers_of m (called_names f (blocks_at f.blocks it))) ≡ calls_in m f
begun m f ks it e i d = ap₂ (λ z w. each_once z (numbers_of m (called_names f w))) e (ap (blocks_at f.blocks) i ∙ blocks_again f.blocks d)

pub targets_in_range : (m : Module) (cs : List Callee) (ns : List (Option ℕ)) (count : ℕ) → ns ≡ map (λ c. number_of m c.name) cs → count ≡ length m → TargetsBelow count ns
targets_in_range m cs ns count e l k t h = let b = targets_below m cs k t (ap (λ z. slice_get z k) (sym e) ∙ h) in omega (arith, l, b)

pub map_more : {A B : Type 0} (h : A → B) (xs : List A) (i : ℕ) (x : A) → i < length xs → x ≡ get_or xs i x → map h (take i xs) ++ (h x ∷ []) ≡ map h (take (i + 1) xs)
map_more h xs i x l e = ap (λ z. map h (take i xs) ++ (h z ∷ [])) e ∙ sym (ap (map h) (take_more xs i x l) ∙ map_push h (take i xs) (get_or xs i x))

pub map_one : {A B : Type 0} (h : A → B) (xs : List A) (x : A) → 1 ≤ length xs → length xs < 2 → x ≡ get_or xs 0 x → h x ∷ [] ≡ map h xs
map_one h [] x l u e = absurd (omega (arith, l))
map_one h (y ∷ []) x l u e = ap (λ z. h z ∷ []) e
map_one h (y ∷ z ∷ zs) x l u e = absurd (omega (arith, u))
