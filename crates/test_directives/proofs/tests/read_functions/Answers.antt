use Rattle.std.proofs.Common.{IfErr, List, map, sym, ap, subst, ◌∙◌}
use Rattle.std.proofs.lemmas.Result.{IfOk-weaker}
use Rattle.test_directives.specs.Placing.{placed_of, InOrder}
use Rattle.test_directives.specs.Reading.{tests_by, bad_by, IsFirst}
use Rattle.test_directives.specs.Tests.{Placed}
use Rattle.test_directives.proofs.Placed.{comments_in_order}
use Rattle.test_directives.proofs.Reader.{tests_same, bad_same}
use Rattle.test_directives.proofs.tests.read_functions.Goals as goal

pub read_each-requires-clause-in_order : goal.read_each-requires-clause-in_order
read_each-requires-clause-in_order c =
    subst InOrder (sym (ap (map placed_of) c.as_slice-2.ensures.value ∙ c.in_ok-comments.ensures)) (comments_in_order c.args.text.now 0 c.args.tokens.now c.requires.stand)

pub returns-clause-functions : goal.returns-clause-functions
returns-clause-functions c =
    let cs = ap (map placed_of) c.as_slice-2.ensures.value ∙ c.in_ok-comments.ensures in
    let same = ap (λ (ds : List Placed). tests_by c.args.text.now ds c.args.functions.now) cs ∙ tests_same c.args.text.now c.args.tokens.now c.args.functions.now in
    IfOk-weaker c.read_each.result _ _ (λ list h. record { tests = h.tests ∙ same; placed = h.placed }) c.read_each.ensures.functions

pub returns-clause-good : goal.returns-clause-good
returns-clause-good c =
    let cs = ap (map placed_of) c.as_slice-2.ensures.value ∙ c.in_ok-comments.ensures in
    let same = ap (λ (ds : List Placed). bad_by c.args.text.now ds c.args.functions.now c.args.functions.now) cs ∙ bad_same c.args.text.now c.args.tokens.now c.args.functions.now c.args.functions.now in
    IfOk-weaker c.read_each.result _ _ (λ list h. sym same ∙ h) c.read_each.ensures.good

pub returns-clause-bad : goal.returns-clause-bad
returns-clause-bad c =
    let cs = ap (map placed_of) c.as_slice-2.ensures.value ∙ c.in_ok-comments.ensures in
    let same = ap (λ (ds : List Placed). bad_by c.args.text.now ds c.args.functions.now c.args.functions.now) cs ∙ bad_same c.args.text.now c.args.tokens.now c.args.functions.now c.args.functions.now in
    subst (λ o. IfErr c.read_each.result (IsFirst o)) same c.read_each.ensures.bad
