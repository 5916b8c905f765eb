-- Whether a policy takes a body, by sizes that stop at the greatest number.
use Rattle.std.proofs.Common.{◌≡◌, ℕ, ◌+◌, ◌-◌, ◌<◌, ◌≤◌, length, Option, Some, None, Bool, true, false, ◌&&◌, refl, sym, ap, ◌∙◌, subst, arith}
use Rattle.std.specs.Prelude.{nat_le, slice_get, IsSomeAnd, SomeIff}
use Rattle.std.proofs.lemmas.Bool.{le-leb, lt-leb, and_from}
use Rattle.ir_core.specs.declared.places.Point.{Point}
use Rattle.ir_core.specs.Module.{Line, Function, Module}
use Rattle.ir_core.specs.Size.{size_of, capped, total, line_size, block_size}
use Rattle.ir_core.proofs.Sizing.{sigs_count}
use Rattle.ir_semantics.specs.Canon.{SameFunction}
use Rattle.ir_semantics.specs.Splice.{Naming, sides, spliced}
use Rattle.inline_numbering.proofs.Same.{by_way, way_renamed}
use Rattle.inline_numbering.proofs.Sizes.{size_renamed}
use Rattle.inline_body.specs.PlainCall.{splicing_at}
use Rattle.inline_pass.specs.Policy.{Policy, takes}
use Rattle.inline_pass.specs.Finished.{finished}
use Rattle.splice_size.specs.declared.counts.Counts.{Counts}
use Rattle.splice_size.specs.Counts.{counts_of}
use Rattle.splice_size.proofs.Blocks.{site_within}
use Rattle.splice_size.proofs.SpliceSizes.{counts_renamed}
use Rattle.inline_finish.specs.Bodies.{IsBodyOf, AreCountsOf}
use Rattle.inline_finish.specs.Building.{AreCounts}
use Rattle.inline_finish.specs.Deciding.{IsSite, IsDecided}

-- ---- what counts does not see numbers

pub same_counts : (p : Policy) (g h : Function) → SameFunction g h → (counts : Option Counts) → AreCounts p g counts → AreCounts p h counts
same_counts p g h same counts is =
    let r = way_renamed g h same in
    subst (λ n. SomeIff counts (n ≤ p.callee_size) (counts_of h)) (sym (size_renamed (by_way g h) g h r))
    (subst (λ k. SomeIff counts (size_of g ≤ p.callee_size) k) (sym (counts_renamed (by_way g h) g h r)) is)

-- of a body that is there
pub counts_there : (p : Policy) (m : Module) (k : ℕ) (h : Function) (counts : Option Counts) → IsBodyOf p m k h → AreCountsOf p m k counts → AreCounts p h counts
counts_there p m k h counts = go (slice_get m k)
  where
    go : (o : Option Function) → IsSomeAnd o (λ g. SameFunction (finished p m g) h) → IsSomeAnd o (λ g. AreCounts p (finished p m g) counts) → AreCounts p h counts
    go None same is = elim same [ ]
    go (Some g) same is = same_counts p (finished p m g) h same counts is

-- ---- what a function has beside a call is at most its size without the call

pub sigs_within : (f : Function) → length f.sigs ≤ size_of f
sigs_within f = let h = sigs_count f.sigs in omega (arith, h)

pub callees_within : (f : Function) → length f.callees ≤ size_of f
callees_within f = omega arith

module _ (f g : Function) (at : Point) (l : Line) (site : IsSite f g at l) where
  line_within : line_size l ≤ total block_size f.blocks
  line_within =
      let stands = (site sides).stands in
      site_within (splicing_at sides f g at l) f.blocks stands.block stands.block_found stands.lines

  pub sigs_beside : length f.sigs ≤ size_of f - line_size l
  sigs_beside =
      let line = line_within in
      let sigs = sigs_count f.sigs in
      omega (arith, line, sigs)

  pub callees_beside : length f.callees ≤ size_of f - line_size l
  callees_beside = let line = line_within in omega (arith, line)

-- what is no more than a limit that the least size keeps to
pub rest_within : (rest put least limit : ℕ) → least ≡ capped (rest + put) → least ≤ limit → limit ≤ 262144 → rest ≤ limit
rest_within rest put least limit e few small = omega (arith, e, few, small)

-- ---- the decision

over_false : (a b c d : ℕ) → b < a → (nat_le a b && nat_le c d) ≡ false
over_false a b c d h = ap (λ z. z && nat_le c d) (lt-leb a b h)

false_behind : (b : Bool) → (b && false) ≡ false
false_behind true = refl
false_behind false = refl

over_behind : (a b c d : ℕ) → d < c → (nat_le a b && nat_le c d) ≡ false
over_behind a b c d h = ap (λ z. nat_le a b && z) (lt-leb c d h) ∙ false_behind (nat_le a b)

module _ (p : Policy) (f g : Function) (at : Point) (l : Line) where
  pub body_over : (size_of g ≤ p.callee_size → ⊥) → IsDecided p f g at l None
  body_over h n = over_false (size_of g) p.callee_size (size_of (spliced (splicing_at n f g at l))) p.caller_size (omega (arith, h))

  -- what the splice has at least is too large
  pub least_over : (least : ℕ) → ((n : Naming) → least ≤ size_of (spliced (splicing_at n f g at l))) → p.caller_size < least → IsDecided p f g at l None
  least_over least most h n =
      let more = most n in
      over_behind (size_of g) p.callee_size (size_of (spliced (splicing_at n f g at l))) p.caller_size (omega (arith, h, more))

  -- the size of the splice as the code has it
  module _ (size : ℕ) (told : (n : Naming) → size ≡ capped (size_of (spliced (splicing_at n f g at l)))) where
    pub splice_over : p.caller_size < size → IsDecided p f g at l None
    splice_over h n =
        let e = told n in
        over_behind (size_of g) p.callee_size (size_of (spliced (splicing_at n f g at l))) p.caller_size (omega (arith, e, h))

    module _ (few : size ≤ p.caller_size) (limit : p.caller_size ≤ 262144) where
      pub size_told : (n : Naming) → size ≡ size_of (spliced (splicing_at n f g at l))
      size_told n = let e = told n in omega (arith, e, few, limit)

      pub both_within : size_of g ≤ p.callee_size → (n : Naming) → takes p g (spliced (splicing_at n f g at l)) ≡ true
      both_within body n =
          and_from (nat_le (size_of g) p.callee_size) (nat_le (size_of (spliced (splicing_at n f g at l))) p.caller_size)
          (le-leb (size_of g) p.callee_size body)
          (le-leb (size_of (spliced (splicing_at n f g at l))) p.caller_size (subst (λ k. k ≤ p.caller_size) (size_told n) few))
