use Rattle.std.proofs.Common.{◌≡◌, ◌+◌, ◌++◌, ◌-◌, ℕ, List, length, take, drop, sym, ap, ◌∙◌, subst, refl, arith, vec_len, [], Bool, cond}
use Rattle.std.specs.Io.KnownBytes.{Consumes}
use lib.Seq.{take-append-le}
use Rattle.std.proofs.KnownBytes.{Consumes-nil, Consumes-trans, Consumes-kept, Consumes-all}
use Rattle.clk_flow.proofs.Counting.{rose_since}
use Rattle.clk_flow.proofs.Reading.{longer_than, none_more, asked, still_short}
use Rattle.clk_flow.proofs.whole.read_whole.Goals as goal

pub turns-init : goal.turns-init
turns-init g c = record {
  taken = subst (Consumes (g.S.Source.left c.args.source.now) (g.S.Source.left c.args.source.now)) (sym c.new-whole.ensures.items) (Consumes-nil _);
  short = omega (arith, c.new-whole.ensures.len);
  later = omega arith;
}

pub returns-in_default-take-clause-failed : goal.returns-in_default-take-clause-failed
returns-in_default-take-clause-failed g c = λ _. rose_since _ _ _ c.turns.invariant.later c.in_default-take.ensures.cause.failed

pub returns-in_default-take-clause-gone : goal.returns-in_default-take-clause-gone
returns-in_default-take-clause-gone g c =
    (c.turns.whole.items, Consumes-kept _ _ _ _ c.turns.invariant.taken c.in_default-take.ensures.bytes, omega (arith, c.turns.invariant.short, c.turns.whole.ok))

pub returns-then-count-eq0-clause-whole : goal.returns-then-count-eq0-clause-whole
returns-then-count-eq0-clause-whole g c =
    let none = ap (λ (n : ℕ). take n c.take.new.into) c.if-count-eq0.true in (
      none_more _ _ _ _ _ none c.turns.invariant.taken c.in-Ok-take.ensures.bytes.0,
      c.in-Ok-take.ensures.bytes.1 c.if-count-eq0.true (asked c.take.new.into c.turns.chunk (c.args.limit - c.len-in-turns.result) c.min-room.result c.take.auto.into c.min-room.ensures (c.turns.auto.chunk ∙ c.as_mut_slice-chunk.ensures.len ∙ c.in-Ok.ensures.len)).0,
      omega (arith, c.turns-test.true, c.len.ensures),
    )

pub returns-then-is_err-clause-gone : goal.returns-then-is_err-clause-gone
returns-then-is_err-clause-gone g c =
    let asks = (asked c.take.new.into c.turns.chunk (c.args.limit - c.len-in-turns.result) c.min-room.result c.take.auto.into c.min-room.ensures
    (c.turns.auto.chunk ∙ c.as_mut_slice-chunk.ensures.len ∙ c.in-Ok.ensures.len)).1 in
    let ok = c.turns.whole.ok in let is = c.len-in-turns.ensures in let few = c.in-Ok-take.ensures.bound.0 in (
      c.turns.whole.items ++ take c.in-Ok-take.count c.take.new.into,
      Consumes-trans _ _ _ _ _ c.turns.invariant.taken c.in-Ok-take.ensures.bytes.0,
      still_short c.turns.whole.items _ (vec_len c.turns.whole) c.in-Ok-take.count c.args.limit (sym ok.0) c.in-Ok-take.ensures.bound.1
          (omega (arith, asks, is, few)) (omega (arith, c.turns-test.true, c.len.ensures)),
    )

pub turns-preserved : goal.turns-preserved
turns-preserved g c =
    let same = take-append-le c.in-Ok-take.count c.take.new.into (drop (c.min-room.result + 1) c.turns.chunk) c.in-Ok-take.ensures.bound.0 in
    let more = c.turns.whole.items ++ take c.in-Ok-take.count c.take.new.into in
    let grown : c.extend_from_slice.new.self.items ≡ more =
    c.extend_from_slice.ensures.items ∙ ap (λ (b : Bool). cond b (c.turns.whole.items ++ take c.in-Ok-take.count (c.take.new.into ++ drop (c.min-room.result + 1) c.turns.chunk)) c.turns.whole.items) c.if-is_err.ensures.negation
    ∙ ap (λ (bytes : List ℕ). c.turns.whole.items ++ bytes) same in
    let asks = (asked c.take.new.into c.turns.chunk (c.args.limit - c.len-in-turns.result) c.min-room.result c.take.auto.into c.min-room.ensures
    (c.turns.auto.chunk ∙ c.as_mut_slice-chunk.ensures.len ∙ c.in-Ok.ensures.len)).1 in
    let ok = c.turns.whole.ok in let new = c.extend_from_slice.new.self.ok in let is = c.len-in-turns.ensures in let few = c.in-Ok-take.ensures.bound.0 in
    let short = still_short c.turns.whole.items _ (vec_len c.turns.whole) c.in-Ok-take.count c.args.limit (sym ok.0) c.in-Ok-take.ensures.bound.1
    (omega (arith, asks, is, few)) (omega (arith, c.turns-test.true, c.len.ensures)) in record {
      taken = subst (Consumes (g.S.Source.left c.args.source.now) (g.S.Source.left c.take.new.self)) (sym grown)
          (Consumes-trans _ _ _ _ _ c.turns.invariant.taken c.in-Ok-take.ensures.bytes.0);
      short = let long = ap length grown in omega (arith, new.0, long, short);
      later = omega (arith, c.turns.invariant.later, c.in-Ok-take.ensures.cause.later);
    }

pub returns-clause-told_long : goal.returns-clause-told_long
returns-clause-told_long g c = λ _. longer_than _ _ _ c.args.limit c.turns.invariant.taken (let ok = c.turns.whole.ok in omega (arith, ok, c.turns-test.false, c.len.ensures))

pub returns-then-count-eq0-clause-told_whole : goal.returns-then-count-eq0-clause-told_whole
returns-then-count-eq0-clause-told_whole g c =
    let h = returns-then-count-eq0-clause-whole g c in Consumes-all _ _ c.turns.whole.items [] c.turns.whole.items h.0 h.1 refl
