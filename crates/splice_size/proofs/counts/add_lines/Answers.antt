use Rattle.std.proofs.Common.{◌≡◌, ℕ, ◌+◌, ◌-◌, ◌<◌, ◌^◌, arith, map, take, refl, sym, subst, ap, ◌∙◌}
use Rattle.std.proofs.lemmas.List.{take_all}
use Rattle.ir_core.specs.declared.instructions.InstData.{InstData}
use Rattle.ir_core.specs.Size.{line_size, total}
use Rattle.ir_core.specs.Viewed.{line_of}
use Rattle.ir_core.proofs.Sizing.{total_map, total_more}
use Rattle.splice_size.specs.declared.counts.Counts.{Counts}
use Rattle.splice_size.specs.Counts.{line_counts, plus, sum_size, summed, IsSmall}
use Rattle.splice_size.proofs.Budgets.{refused, total_part}
use Rattle.splice_size.proofs.Counting.{line_small, plus_assoc, plus_none, plus_size, plus_small, sizes_summed, summed_map, summed_more, summed_small}
use Rattle.splice_size.proofs.Lines.{whole}
use Rattle.splice_size.proofs.counts.add_lines.Goals as goal

abbrev counted : InstData → Counts
counted x = line_counts (line_of x)

abbrev size : InstData → ℕ
size x = line_size (line_of x)

sized : (x : InstData) → sum_size (counted x) ≡ size x
sized x = whole (line_of x) (line_of x).inst refl

pub loop-added-init : goal.loop-added-init
loop-added-init c = record { left = omega arith; added = sym (plus_none c.args.counts.now) }

pub returns-in_err-rest-clause-left : goal.returns-in_err-rest-clause-left
returns-in_err-rest-clause-left c =
    let xs = c.args.lines.now in
    let i = c.loop-added.added-index in
    let all = total line_size (map line_of xs) in
    let part = total_part size xs i c.added-item.result c.loop-added-test.true in
    refused c.from_residual.result (c.args.limit - all) c.args.limit c.loop-added.left (total size (take i xs)) (size c.added-item.result) all
    c.from_residual.ensures c.loop-added.invariant.left c.in_err-rest.ensures
    (omega (arith, ap size c.added-item.is, part, total_map line_size line_of xs))

pub add_line-requires-clause-small : goal.add_line-requires-clause-small
add_line-requires-clause-small c =
    let xs = take c.loop-added.added-index c.args.lines.now in
    subst IsSmall (sym c.loop-added.invariant.added)
    (plus_small c.args.counts.now (summed counted xs) c.requires.small (summed_small counted (λ x. line_small (line_of x)) xs))

pub add_line-requires-clause-few : goal.add_line-requires-clause-few
add_line-requires-clause-few c =
    let xs = take c.loop-added.added-index c.args.lines.now in
    few c.args.limit c.loop-added.left c.in_ok-rest.rest (sum_size c.args.counts.now) (sum_size c.loop-added.counts) (sum_size (summed counted xs)) (total size xs)
    c.loop-added.invariant.left (ap sum_size c.loop-added.invariant.added ∙ plus_size c.args.counts.now (summed counted xs)) (sizes_summed counted size sized xs) c.requires.few
  where
    few : (limit left rest start counts more taken : ℕ) → left + taken ≡ limit → counts ≡ start + more → more ≡ taken → start + limit < 2 ^ 64 → counts + (left - rest) < 2 ^ 64
    few limit left rest start counts more taken e f g h = omega (arith, e, f, g, h)

pub loop-added-preserved : goal.loop-added-preserved
loop-added-preserved c =
    let xs = c.args.lines.now in
    let i = c.loop-added.added-index in
    let so_far = summed counted (take i xs) in
    record {
      left = omega (arith, c.in_ok-rest.ensures, c.loop-added.invariant.left, ap size c.added-item.is, total_more size xs i c.added-item.result c.loop-added-test.true);
      added =
          c.add_line.ensures
          ∙ (ap (λ z. plus z (counted c.added-item.result)) c.loop-added.invariant.added
          ∙ (plus_assoc c.args.counts.now so_far (counted c.added-item.result)
          ∙ ap (plus c.args.counts.now)
          (ap (plus so_far) (ap counted c.added-item.is) ∙ sym (summed_more counted xs i c.added-item.result c.loop-added-test.true))));
    }

pub returns-clause-left : goal.returns-clause-left
returns-clause-left c =
    let xs = c.args.lines.now in
    let e = ap (total size) (take_all c.loop-added.added-index xs c.loop-added-test.false) in
    let m = total_map line_size line_of xs in
    (omega (arith, c.loop-added.invariant.left, e, m), omega (arith, c.loop-added.invariant.left, e, m))

pub returns-clause-added : goal.returns-clause-added
returns-clause-added c =
    let xs = c.args.lines.now in
    let all = take_all c.loop-added.added-index xs c.loop-added-test.false in
    c.loop-added.invariant.added ∙ ap (plus c.args.counts.now) (ap (summed counted) all ∙ sym (summed_map line_counts line_of xs))
