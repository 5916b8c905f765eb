use Rattle.std.proofs.Common.{◌≡◌, ◌∙◌, ap, sym, take, Some, None}
use Rattle.std.proofs.lemmas.List.{take-map}
use Rattle.filetest.specs.LineTests.{found_any}
use Rattle.filetest.specs.Views.{seen_lines, texts_of, pair_of}
use Rattle.test_directives.specs.Views.{line_test_of}
use Rattle.filetest.proofs.LineChecking.{takes, fails_before}
use Rattle.filetest.proofs.line_checks.judge.Goals as goal

pub returns-in-Some-2 : goal.returns-in-Some-2
returns-in-Some-2 c =
    let left = c.args.left.now in
    let f : Some (pair_of c.in-Some-2.pair) ≡ found_any (texts_of c.args.nots.now) (take c.in-Some.at (seen_lines left)) = rw c.in-Some-2.is at c.in_ok-pair-in-Some.ensures ∙ ap (found_any (texts_of c.args.nots.now)) (sym (take-map (λ x. x.now) c.in-Some.at left)) in
    fails_before (texts_of c.args.nots.now) (seen_lines left) (line_test_of c.args.test.now) c.in-Some.at (pair_of c.in-Some-2.pair) c.requires c.in-Some.ensures.1 f

pub returns-in-None-2 : goal.returns-in-None-2
returns-in-None-2 c =
    let left = c.args.left.now in
    let f : None ≡ found_any (texts_of c.args.nots.now) (take c.in-Some.at (seen_lines left)) = rw c.in-None-2.is at c.in_ok-pair-in-Some.ensures ∙ ap (found_any (texts_of c.args.nots.now)) (sym (take-map (λ x. x.now) c.in-Some.at left)) in
    (c.in-Some.ensures.0, takes (texts_of c.args.nots.now) (seen_lines left) (line_test_of c.args.test.now) c.in-Some.at c.requires c.in-Some.ensures.1 f)
