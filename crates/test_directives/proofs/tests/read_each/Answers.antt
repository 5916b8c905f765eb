use Rattle.std.proofs.Common.{◌≡◌, ℕ, ◌+◌, length, List, [], ◌∷◌, ◌++◌, map, drop, sym, ap, subst, ◌∙◌, arith, length-drop}
use Rattle.std.specs.Prelude.{All}
use Rattle.std.proofs.lemmas.List.{map-append}
use Rattle.std.proofs.lemmas.List.Elements.{All-append, All-cons, All-nil}
use Rattle.clif_lex.specs.Places.{line_at}
use Rattle.clif_read.specs.declared.raw.RawFunction.{RawFunction}
use Rattle.test_directives.specs.declared.places.PlacedComment.{PlacedComment}
use Rattle.test_directives.specs.Placing.{placed_of, between, Counted, InOrder, LeavesBehind, AreAscending}
use Rattle.test_directives.specs.Reading.{tests_by, bad_by}
use Rattle.test_directives.specs.Tests.{FunctionTests, first_spot}
use Rattle.test_directives.specs.Views.{function_of, IsPlaced}
use Rattle.test_directives.proofs.Ascending.{later, weaker_ascending}
use Rattle.test_directives.proofs.Dealing.{first_some, first_none, rest_is, own_of, tests_next, bad_next, left_next}
use Rattle.test_directives.proofs.Placed.{drop_twice}
use Rattle.test_directives.proofs.tests.read_each.Goals.{in-Some-first, in-None}
use Rattle.test_directives.proofs.tests.read_each.Goals as goal

pub line_at-line-requires-clause-within : goal.line_at-line-requires-clause-within
line_at-line-requires-clause-within c =
    let all = subst (AreAscending c.args.text.now c.loop-func.lines.at) c.in-Some.ensures.cases.0 c.loop-func.invariant.ascending in
    let l = (later c.args.text.now c.loop-func.lines.at c.in-Some.func.now c.in-Some.others.now all).1 in
    rw c.loop-func.invariant.text (omega (arith, l))

pub loop-func-preserved : goal.loop-func-preserved
loop-func-preserved c =
    let text = c.args.text.now in
    let xs = c.args.comments.now in
    let cs = map placed_of xs in
    let f = c.in-Some.func.now in
    let fs = c.in-Some.others.now in
    let every = c.args.named.now.functions.now in
    let n = c.loop-func.next in
    let split = c.in-Some.ensures.cases.0 in
    let all = subst (AreAscending text c.loop-func.lines.at) split c.loop-func.invariant.ascending in
    let less = (later text c.loop-func.lines.at f fs all).0 in
    let until : c.match-first.until ≡ first_spot text fs = elim c.match-first.branch [
      | in-Some-first w ↦ w.until-is ∙ first_some text w.in-Some-first.next.now fs w.in-Some-first.ensures.value
      | in-None w ↦ w.until-is ∙ first_none text fs w.in-None.ensures.value
    ] in
    let left : LeavesBehind (first_spot text (f ∷ fs)) cs (map placed_of (drop n xs)) = subst (λ (gs : List RawFunction). LeavesBehind (first_spot text gs) cs (map placed_of (drop n xs))) split c.loop-func.invariant.behind in
    let rest = rest_is xs n in
    let cut = c.between-start.ensures.own ∙ (λ j. between (map placed_of (rest j)) f.spot (until j)) in
    let own = own_of cs xs _ n text f fs left cut in
    let line = c.line_at-line.ensures.line ∙ ap (λ (t : List ℕ). line_at t f.spot) c.loop-func.invariant.text in
    let within = c.between-start.ensures.within in
    let size = ap length rest ∙ length-drop n xs in
    let small = c.loop-func.invariant.within in
    record {
      text = ap (λ (v : Counted). v.text) c.line_at-line.ensures.at ∙ c.loop-func.invariant.text;
      within = omega (arith, within, size, small);
      ascending = subst (λ (k : ℕ). AreAscending text k fs) (sym (ap (λ (v : Counted). v.at) c.line_at-line.ensures.at)) (weaker_ascending text f.spot (f.spot + 1) fs (omega arith) all.1);
      in_order = subst InOrder (λ j. map placed_of ((ap (drop c.between-start.result.1) rest ∙ sym (drop_twice n c.between-start.result.1 xs)) j)) c.between-start.ensures.in_order;
      behind = left_next cs xs n c.between-start.result.1 text f fs less left
          (λ from stop low. ap (λ (ys : List PlacedComment). between (map placed_of ys) from stop) (sym rest)
          ∙ (c.between-start.ensures.behind from stop (omega (arith, until, low)) ∙ ap (λ (ys : List PlacedComment). between (map placed_of (drop c.between-start.result.1 ys)) from stop) rest));
      tests = ap (λ ts. map function_of ts ++ tests_by text cs fs) c.in_ok-push.ensures.items
          ∙ (ap (λ (ts : List FunctionTests). ts ++ tests_by text cs fs) (map-append function_of c.loop-func.list.items (c.in_ok-read_function.field-0 ∷ []))
          ∙ tests_next text cs _ c.line_at-line.result f fs every (map function_of c.loop-func.list.items) (function_of c.in_ok-read_function.field-0) line own c.in_ok-read_function.ensures.tests
          (ap (λ (gs : List RawFunction). map function_of c.loop-func.list.items ++ tests_by text cs gs) (sym split) ∙ c.loop-func.invariant.tests));
      placed = subst (All (λ t. All (IsPlaced every) t.runs.items)) (sym c.in_ok-push.ensures.items)
          (All-append (λ t. All (IsPlaced every) t.runs.items) _ _ c.loop-func.invariant.placed (All-cons (λ t. All (IsPlaced every) t.runs.items) _ [] c.in_ok-read_function.ensures.placed (All-nil (λ t. All (IsPlaced every) t.runs.items))));
      bad = bad_next text cs _ every f fs own c.in_ok-read_function.ensures.good ∙ (ap (bad_by text cs every) (sym split) ∙ c.loop-func.invariant.bad);
    }
