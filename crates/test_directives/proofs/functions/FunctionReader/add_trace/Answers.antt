use Rattle.std.proofs.Common.{◌≡◌, ℕ, true, not, List, [], ◌∷◌, ◌++◌, map, slice_get, Some, sym, ap, subst, ◌∙◌}
use Rattle.std.specs.Prelude.{All}
use Rattle.std.proofs.lemmas.List.{map-append}
use Rattle.std.proofs.lemmas.List.Elements.{All-append, All-cons, All-nil}
use Rattle.host_script.specs.Script.{replies_of}
use Rattle.test_directives.specs.Directives.{Trace}
use Rattle.test_directives.specs.Reading.{Read, has_run, continued, after_directive}
use Rattle.test_directives.specs.Tests.{RunTest, first_named}
use Rattle.test_directives.specs.Views as views
use Rattle.test_directives.specs.Views.{run_of, IsPlaced}
use Rattle.test_directives.proofs.Finishing.{continued_last, has_run_last}
use Rattle.std.proofs.lemmas.List.Elements.{All-pop}
use Rattle.test_directives.proofs.functions.FunctionReader.add_trace.Goals as goal

pub invariant_of-self-2 : goal.invariant_of-self-2
invariant_of-self-2 c =
    let fs = c.self.inside.named.now.functions.now in
    let old = All-pop (IsPlaced fs) c.self.inside.tests.runs.items c.pop.new.self.items (Some c.in-Some.run') c.in-Some.ensures.items c.self.invariant in
    let name : c.in_ok-with_event.field-0.name ≡ c.in-Some.run'.name = ap (λ (r : RunTest). r.call.name) c.in_ok-with_event.ensures.run in
    let placed : IsPlaced fs c.in_ok-with_event.field-0 = ap (slice_get fs) c.in_ok-with_event.ensures.place ∙ (old.1 ∙ ap (λ (n : List ℕ). first_named n fs) (sym name)) in
    subst (All (IsPlaced fs)) (sym c.in_ok-push.ensures.items)
    (All-append (IsPlaced fs) _ _ old.0 (All-cons (IsPlaced fs) _ [] placed (All-nil (IsPlaced fs))))

pub returns-clause-taken : goal.returns-clause-taken
returns-clause-taken c =
    let fs = c.self.inside.named.now.functions.now in
    let front = map run_of c.pop.new.self.items in
    let old : map run_of c.self.inside.tests.runs.items ≡ front ++ run_of c.in-Some.run' ∷ [] = ap (map run_of) c.in-Some.ensures.items ∙ map-append run_of c.pop.new.self.items (c.in-Some.run' ∷ []) in
    let runs : map run_of c.push.new.self.items ≡ continued (map run_of c.self.inside.tests.runs.items) (c.args.event ∷ []) =
    ap (map run_of) c.in_ok-push.ensures.items
    ∙ (map-append run_of c.pop.new.self.items (c.in_ok-with_event.field-0 ∷ [])
    ∙ (ap (λ (r : RunTest). front ++ r ∷ []) c.in_ok-with_event.ensures.run
    ∙ (sym (continued_last front (run_of c.in-Some.run') (c.args.event ∷ [])) ∙ ap (λ (rs : List RunTest). continued rs (c.args.event ∷ [])) (sym old)))) in
    let some : has_run (map run_of c.self.inside.tests.runs.items) ≡ true = ap has_run old ∙ has_run_last front (run_of c.in-Some.run') in (
      ap (λ (v : Read). not (has_run v.tests.runs)) (sym c.self.view_is) ∙ ap not some,
      (λ j. record {
        functions = fs;
        end_spot = c.self.inside.end_spot;
        tests = record (views.function_of c.self.inside.tests) { runs = runs j };
        script = replies_of c.self.inside.script;
        has_check = c.self.inside.has_check;
      }) ∙ ap (λ (v : Read). after_directive v c.args.line (Trace c.args.event)) c.self.view_is,
    )
