-- How many sites are inlined: at most as many as the function has lines.
use Rattle.std.proofs.Common.{inl, inr, ℕ, suc, ◌<◌, ◌≤◌, ◌^◌, List, [], ◌∷◌, length, Option, Some, None, Bool, true, false, arith, length-append}
use Rattle.std.specs.Prelude.{if◌then◌else◌}
use Rattle.ir_core.specs.declared.names.FuncName.{FuncName}
use Rattle.ir_core.specs.declared.places.Point as place
use Rattle.ir_core.specs.Lookup.{and_then}
use Rattle.ir_core.specs.Module.{Line, Block, Function}
use Rattle.ir_core.specs.Sound.{IsSound, instruction_count}
use Rattle.ir_core.specs.Uses.{callee_of}
use Rattle.inline_pass.specs.Policy.{Policy, takes}
use Rattle.inline_pass.specs.Sites.{Point, is_site, sites_in, own_sites}
use Rattle.inline_pass.specs.Finished.{callee_at, spliced_at, after_splice}
use Rattle.inline_pass.specs.Inlined.{inlined_by, inlined_with}
use Rattle.inline_pass.specs.Going.{Task, Twins, Onward}
use Rattle.inline_finish.specs.Midway.{Left, Behind, twins_of}

pub inlined_most : (bodies : FuncName → Option Function) (p : Policy) (now : Point → Point) (sites : List Point) (body : Function) → inlined_by bodies p now sites body ≤ length sites
inlined_most bodies p now [] body = omega arith
inlined_most bodies p now (s ∷ ss) body = go (and_then (callee_at body (now s)) bodies) (λ now body. inlined_most bodies p now ss body)
  where
    go : (o : Option Function) → ((now : Point → Point) (body : Function) → inlined_by bodies p now ss body ≤ length ss) → elim o as (λ z. ℕ) [ None ↦ inlined_by bodies p now ss body | Some g ↦ if takes p g (spliced_at body (now s) g) then suc (inlined_by bodies p (after_splice (now s) now) ss (spliced_at body (now s) g)) else inlined_by bodies p now ss body ] ≤ length (s ∷ ss)
    go None ih = let h = ih now body in omega (arith, h)
    go (Some g) ih = by (takes p g (spliced_at body (now s) g)) (ih (after_splice (now s) now) (spliced_at body (now s) g)) (ih now body)
      where
        by : (b : Bool) → inlined_by bodies p (after_splice (now s) now) ss (spliced_at body (now s) g) ≤ length ss → inlined_by bodies p now ss body ≤ length ss → (if b then suc (inlined_by bodies p (after_splice (now s) now) ss (spliced_at body (now s) g)) else inlined_by bodies p now ss body) ≤ length (s ∷ ss)
        by true h k = omega (arith, h)
        by false h k = omega (arith, k)

pub sites_most : (b i : ℕ) (ls : List Line) → length (sites_in b i ls) ≤ length ls
sites_most b i [] = omega arith
sites_most b i (l ∷ ls) = go (is_site (callee_of l.inst)) (sites_most b (suc i) ls)
  where
    go : (c : Bool) → length (sites_in b (suc i) ls) ≤ length ls → length (if c then (b, i) ∷ sites_in b (suc i) ls else sites_in b (suc i) ls) ≤ length (l ∷ ls)
    go true h = omega (arith, h)
    go false h = omega (arith, h)

own_most : (bs : List Block) → length (own_sites bs) ≤ instruction_count bs
own_most [] = omega arith
own_most (b ∷ bs) =
    let one = sites_most b.number 0 b.lines in
    let more = own_most bs in
    let all = length-append (sites_in b.number 0 b.lines) (own_sites bs) in
    omega (arith, one, more, all)

onward_counted : (task : Task) (rest : List Block) (twins : Twins) (n : ℕ) → Onward task rest twins n → n ≤ inlined_with task.bodies task.policy task.function
onward_counted task [] twins n h = let e = h.counted in omega (arith, e)
onward_counted task (own ∷ rest) twins n h = let e = h.counted in omega (arith, e)

pub counted : (task : Task) (left : Left) (code : Function) (at : place.Point) (n : ℕ) → Behind task left code at n → n ≤ inlined_with task.bodies task.policy task.function
counted task left code at n (inl m) = let e = m.going.counted in omega (arith, e)
counted task left code at n (inr b) = onward_counted task left.rest (twins_of b.1.twin code) n b.1.onward

-- so the count fits
pub count_fits : (task : Task) (left : Left) (code : Function) (at : place.Point) (n : ℕ) → Behind task left code at n → IsSound task.function → n < 2 ^ 32
count_fits task left code at n h s =
    let one = counted task left code at n h in
    let most = inlined_most task.bodies task.policy (λ q. q) (own_sites task.function.blocks) task.function in
    let few = own_most task.function.blocks in
    let small = s.small.instructions in
    omega (arith, one, most, few, small)
