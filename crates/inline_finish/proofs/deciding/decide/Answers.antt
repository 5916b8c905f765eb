use Rattle.std.proofs.Common.{◌≡◌, ◌+◌, ◌-◌, ◌<◌, ◌≤◌, ◌^◌, ℕ, length, Option, Some, refl, sym, ap, subst, arith}
use Rattle.ir_core.specs.Module.{Line, Function}
use Rattle.ir_core.specs.Size.{size_of, capped, line_size}
use Rattle.ir_core.specs.Viewed.{line_of}
use Rattle.ir_semantics.specs.Splice.{Naming, spliced}
use Rattle.inline_body.specs.PlainCall.{splicing_at}
use Rattle.inline_pass.specs.Policy.{Policy}
use Rattle.splice_size.specs.declared.counts.Counts.{Counts}
use Rattle.splice_size.specs.Counts.{counts_of}
use Rattle.splice_size.specs.SizeAfter.{put_size}
use Rattle.inline_finish.specs.Building.{policy_of, AreCounts}
use Rattle.inline_finish.proofs.Sizes.{callees_beside, callees_within, sigs_beside, sigs_within, rest_within, least_over, splice_over, size_told, both_within}
use Rattle.inline_finish.proofs.deciding.decide.Goals as goal

-- counts that are there are those of the body, which is small
known : (p : Policy) (g : Function) (o : Option Counts) (counts : Counts) → o ≡ Some counts → AreCounts p g o → (size_of g ≤ p.callee_size) × (counts ≡ counts_of g)
known p g o counts e is = subst (AreCounts p g) e is

-- caller and body have few declarations of a kind
fits : (mine theirs beside rest size most limit : ℕ) → mine ≤ beside → rest ≡ beside → rest ≤ limit → theirs ≤ size → size ≤ most → most ≤ 262144 → limit ≤ 262144 → mine + theirs < 2 ^ 32 - 1
fits mine theirs beside rest size most limit a b c d e f g = omega (arith, a, b, c, d, e, f, g)

pub returns-then-least_spliced_size-policy : goal.returns-then-least_spliced_size-policy
returns-then-least_spliced_size-policy c =
    let p : Policy = policy_of c.args.policy in
    let f : Function = c.args.caller.now in
    let g : Function = c.args.body.now.function in
    let l : Line = line_of c.args.line.now in
    let is = known p g c.args.counts c.in-Some.counts c.in-Some.is c.requires.counts in
    let most : (n : Naming) → c.least_spliced_size.result ≤ size_of (spliced (splicing_at n f g c.args.at l)) =
    λ n. c.least_spliced_size.ensures.least (splicing_at n f g c.args.at l) (c.requires.site n) (sym c.requires.size) refl (sym is.1) (sym (ap length c.slots-slots.ensures)) in
    least_over p f g c.args.at l c.least_spliced_size.result most c.if-least_spliced_size-policy.true

pub plan-requires-clause-few_sigs : goal.plan-requires-clause-few_sigs
plan-requires-clause-few_sigs c =
    let p : Policy = policy_of c.args.policy in
    let f : Function = c.args.caller.now in
    let g : Function = c.args.body.now.function in
    let l : Line = line_of c.args.line.now in
    let is = known p g c.args.counts c.in-Some.counts c.in-Some.is c.requires.counts in
    let beside = sigs_beside f g c.args.at l c.requires.site in
    let own = sigs_within g in
    let other = c.requires.limited.caller_size in
    let rest = rest_within (c.args.size - line_size l) (put_size l c.in-Some.counts + length c.slots-slots.result.now) c.least_spliced_size.result p.caller_size c.least_spliced_size.ensures.number c.if-least_spliced_size-policy.false other in
    let same = ap (λ n. n - line_size l) c.requires.size in
    fits (length f.sigs) (length g.sigs) (size_of f - line_size l) (c.args.size - line_size l) (size_of g) p.callee_size p.caller_size beside same rest own is.0 c.requires.limited.callee_size other

pub plan-requires-clause-few_callees : goal.plan-requires-clause-few_callees
plan-requires-clause-few_callees c =
    let p : Policy = policy_of c.args.policy in
    let f : Function = c.args.caller.now in
    let g : Function = c.args.body.now.function in
    let l : Line = line_of c.args.line.now in
    let is = known p g c.args.counts c.in-Some.counts c.in-Some.is c.requires.counts in
    let beside = callees_beside f g c.args.at l c.requires.site in
    let own = callees_within g in
    let other = c.requires.limited.caller_size in
    let rest = rest_within (c.args.size - line_size l) (put_size l c.in-Some.counts + length c.slots-slots.result.now) c.least_spliced_size.result p.caller_size c.least_spliced_size.ensures.number c.if-least_spliced_size-policy.false other in
    let same = ap (λ n. n - line_size l) c.requires.size in
    fits (length f.callees) (length g.callees) (size_of f - line_size l) (c.args.size - line_size l) (size_of g) p.callee_size p.caller_size beside same rest own is.0 c.requires.limited.callee_size other

pub returns-then-size-policy : goal.returns-then-size-policy
returns-then-size-policy c =
    let p : Policy = policy_of c.args.policy in
    let f : Function = c.args.caller.now in
    let g : Function = c.args.body.now.function in
    let l : Line = line_of c.args.line.now in
    let is = known p g c.args.counts c.in-Some.counts c.in-Some.is c.requires.counts in
    let told : (n : Naming) → c.spliced_size-size.result ≡ capped (size_of (spliced (splicing_at n f g c.args.at l))) =
    λ n. c.spliced_size-size.ensures.splice (splicing_at n f g c.args.at l) (c.requires.site n) (sym c.requires.size) refl
    (sym is.1) (sym (ap length c.slots-slots.ensures)) c.in_ok-import.ensures in
    splice_over p f g c.args.at l c.spliced_size-size.result told c.if-size-policy.true

pub returns : goal.returns
returns c =
    let p : Policy = policy_of c.args.policy in
    let f : Function = c.args.caller.now in
    let g : Function = c.args.body.now.function in
    let l : Line = line_of c.args.line.now in
    let is = known p g c.args.counts c.in-Some.counts c.in-Some.is c.requires.counts in
    let told : (n : Naming) → c.spliced_size-size.result ≡ capped (size_of (spliced (splicing_at n f g c.args.at l))) =
    λ n. c.spliced_size-size.ensures.splice (splicing_at n f g c.args.at l) (c.requires.site n) (sym c.requires.size) refl
    (sym is.1) (sym (ap length c.slots-slots.ensures)) c.in_ok-import.ensures in
    let few = c.if-size-policy.false in
    let limit = c.requires.limited.caller_size in (
      both_within p f g c.args.at l c.spliced_size-size.result told few limit is.0,
      c.in_ok-import.ensures,
      size_told p f g c.args.at l c.spliced_size-size.result told few limit,
    )
