use Rattle.std.proofs.Common.{◌≡◌, ℕ, ◌<◌, List, length, take, get_or, ap, ap₂, sym, ◌∙◌, arith}
use Rattle.std.proofs.lemmas.List.{take_all, length-set}
use Rattle.ir_core.proofs.Members.{below_at}
use Rattle.clif_numbers.proofs.PlacesLemmas.{turn, none_placed, place_from, placed}
use Rattle.clif_numbers.proofs.Ranges.{few}
use Rattle.clif_numbers.proofs.places.Places.set.Goals as goal

pub overflow_cast-count : goal.overflow_cast-count
overflow_cast-count c = omega (arith, few c.args.bound c.args.order.items c.requires.different c.requires.range, c.len-count.ensures, c.args.order.ok.0, c.requires.small)

pub overflow_cast-i : goal.overflow_cast-i
overflow_cast-i c = omega (arith, few c.args.bound c.args.order.items c.requires.different c.requires.range, c.loop-i-test.true, ap (length {A = ℕ}) c.deref-number-items.ensures.value, c.requires.small)

pub index_mut-requires : goal.index_mut-requires
index_mut-requires c =
    let at : get_or c.deref-number-items.result.now c.loop-i.i 0 < c.args.bound = below_at c.args.bound c.deref-number-items.result.now c.loop-i.i (rw c.deref-number-items.ensures.value c.requires.range) c.loop-i-test.true in
    omega (arith, at, c.loop-i.invariant.long, c.loop-i.self-inside.places.ok.0)

pub loop-i-preserved : goal.loop-i-preserved
loop-i-preserved c = record {
  long = simp length-set c.loop-i.invariant.long;
  found = turn c.deref-number-items.result.now c.loop-i.self-inside.places.items c.args.bound c.len-count.result c.loop-i.i (rw c.deref-number-items.ensures.value c.requires.different) (rw c.deref-number-items.ensures.value c.requires.range) c.loop-i.invariant.long c.loop-i-test.true c.loop-i.invariant.found;
}

pub invariant_of-self-2 : goal.invariant_of-self-2
invariant_of-self-2 c =
    let order : List ℕ = c.args.order.items in
    let count : c.len-count.result ≡ length order = omega (arith, c.len-count.ensures, c.args.order.ok.0) in
    let all : take c.loop-i.i c.deref-number-items.result.now ≡ order = take_all c.loop-i.i c.deref-number-items.result.now (omega (arith, c.loop-i-test.false)) ∙ c.deref-number-items.ensures.value in
    record {
      small = omega (arith, few c.args.bound order c.requires.different c.requires.range, c.requires.small);
      placed = λ n. placed order c.loop-i.self-inside.places.items n (ap (λ (k : ℕ). get_or c.loop-i.self-inside.places.items n k) (sym count) ∙ c.loop-i.invariant.found n ∙ ap₂ (λ (k : ℕ) (l : List ℕ). place_from 0 k l n) count all);
    }

pub invariant_of-self : goal.invariant_of-self
invariant_of-self c = rw (c.clear.ensures.items, c.in_err-resize.ensures.items, c.clear-2.ensures.items) none_placed
