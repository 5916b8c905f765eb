use Rattle.std.proofs.Common.{◌≡◌, ◌<◌, ◌≤◌, ◌∙◌, [], length, drop, get_or, sym, ap, arith}
use Rattle.std.proofs.lemmas.List.{get_or_read}
use Rattle.filetest.specs.LineTests.{difference}
use Rattle.filetest.specs.Views.{seen_lines}
use Rattle.filetest.proofs.Differing.{first_differs, line_is_same, got_has_more}
use Rattle.filetest.proofs.lines.difference.Goals as goal

pub returns-then-ne : goal.returns-then-ne
returns-then-ne c =
    let i = c.loop-i.i in
    let l : i < length c.args.expected.now = omega (arith, c.loop-i-test.true, c.min-common.ensures) in
    let m : i < length c.args.got.now = omega (arith, c.loop-i-test.true, c.min-common.ensures) in
    let x : c.as_slice-wanted.result.now ≡ get_or c.args.expected.now i [] = c.as_slice-wanted.ensures ∙ get_or_read c.args.expected.now i c.index-expected-i.result l c.index-expected-i.is [] in
    first_differs c.args.expected.now c.args.got.now i _ c.as_slice-wanted.result.now c.ne.result c.in_ok-of.field-0 l m x c.ne.ensures c.if-ne.true c.in_ok-of.ensures.0 c.in_ok-of.ensures.1 ∙ c.loop-i.invariant

pub loop-i-preserved : goal.loop-i-preserved
loop-i-preserved c =
    let i = c.loop-i.i in
    let l : i < length c.args.expected.now = omega (arith, c.loop-i-test.true, c.min-common.ensures) in
    let m : i < length c.args.got.now = omega (arith, c.loop-i-test.true, c.min-common.ensures) in
    let x : c.as_slice-wanted.result.now ≡ get_or c.args.expected.now i [] = c.as_slice-wanted.ensures ∙ get_or_read c.args.expected.now i c.index-expected-i.result l c.index-expected-i.is [] in
    line_is_same c.args.expected.now c.args.got.now i _ c.as_slice-wanted.result.now c.ne.result l m x c.ne.ensures c.if-ne.false ∙ c.loop-i.invariant

pub returns-in_ok-of-3 : goal.returns-in_ok-of-3
returns-in_ok-of-3 c =
    let at : c.loop-i.i ≡ c.min-common.result = omega (arith, c.loop-i-test.false, c.loop-i.auto.i-end) in
    let l : length c.args.expected.now ≤ c.min-common.result = omega (arith, c.if-common-expected.false) in
    let m : c.min-common.result < length c.args.got.now = omega (arith, c.if-common-got.true) in
    got_has_more c.args.expected.now c.args.got.now c.min-common.result _ c.in_ok-of-3.field-0 l m c.in_ok-of-3.ensures.0 c.in_ok-of-3.ensures.1
    ∙ (ap (λ k. difference (drop k c.args.expected.now) (drop k (seen_lines c.args.got.now))) (sym at) ∙ c.loop-i.invariant)
