use Rattle.std.proofs.Common.{◌≡◌, List, [], drop, drop_of_length-le, map, sym, ap, ◌∙◌, arith}
use Rattle.test_directives.specs.declared.places.PlacedComment.{PlacedComment}
use Rattle.test_directives.specs.Placing.{placed_of}
use Rattle.test_directives.specs.Reading.{finished_by}
use Rattle.test_directives.proofs.Finishing.{finished_end}
use Rattle.test_directives.proofs.Reader.{tests_go_on, stops_go_on, functions_go_on}
use Rattle.test_directives.proofs.tests.read_function.Goals as goal

pub loop-comment-preserved : goal.loop-comment-preserved
loop-comment-preserved c =
    let old = c.loop-comment.reader in
    let reads = c.in_ok-take.ensures.taken in
    record {
      functions = functions_go_on old c.take.new.self c.args.comments.now c.loop-comment.comment-index _ reads ∙ c.loop-comment.invariant.functions;
      tests = tests_go_on old c.take.new.self c.args.comments.now c.loop-comment.comment-index _ c.loop-comment-test.true reads ∙ c.loop-comment.invariant.tests;
      stops = stops_go_on old c.take.new.self c.args.comments.now c.loop-comment.comment-index _ c.loop-comment-test.true reads ∙ c.loop-comment.invariant.stops;
    }

pub returns-clause-tests : goal.returns-clause-tests
returns-clause-tests c =
    let r = c.loop-comment.reader in
    let past : drop c.loop-comment.comment-index c.args.comments.now ≡ [] = drop_of_length-le c.args.comments.now (omega (arith, c.loop-comment-test.false)) in
    c.into_tests.ensures.tests ∙ (sym (finished_end r) ∙ (ap (λ (cs : List PlacedComment). finished_by r (map placed_of cs)) (sym past) ∙ c.loop-comment.invariant.tests))
