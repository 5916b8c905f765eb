use Rattle.std.proofs.Common.{◌≡◌, ℕ, Bool, true, false, not, ◌&&◌, List, [], ◌∷◌, ◌++◌, map, Some, None, refl, sym, ap, subst, ◌∙◌}
use Rattle.std.specs.Prelude.{All}
use Rattle.std.proofs.lemmas.List.{map-append}
use Rattle.std.proofs.lemmas.List.Elements.{All-append, All-cons, All-nil}
use Rattle.clif_read.specs.declared.raw.RawFunction.{RawFunction}
use Rattle.host_script.specs.Script.{replies_of}
use Rattle.ir_semantics.specs.Machine.{Reply}
use Rattle.test_directives.specs.Directives.{Call}
use Rattle.test_directives.specs.Names.{names_of, first_place}
use Rattle.test_directives.specs.Reading.{Read, run, after_directive}
use Rattle.test_directives.specs.Tests.{are_values, may_be_wanted, is_call}
use Rattle.test_directives.specs.Views as views
use Rattle.test_directives.specs.Views.{run_of, IsPlaced}
use Rattle.test_directives.proofs.Calls.{called, no_call, is_call_at}
use Rattle.test_directives.proofs.functions.FunctionReader.add_run.Goals as goal
use Rattle.test_directives.proofs.functions.FunctionReader.add_run.Goals.{then-not-are_values-via-then-not-are_values, then-not-are_values-via-else-not-are_values+then-not-may_be_wanted}

and_false : (b : Bool) → (b && false) ≡ false
and_false true = refl
and_false false = refl

pub returns-in_default-clause-refused : goal.returns-in_default-clause-refused
returns-in_default-clause-refused c =
    let fs = c.self.inside.named.now.functions.now in
    let call : Call = record { name = c.args.name; numbers = c.args.numbers; wanted = views.wanted_of c.args.wanted } in
    let none : first_place c.args.name (names_of fs) ≡ None = sym (c.in_default.ensures.place ∙ ap (λ (n : List ℕ). first_place n (names_of fs)) c.as_slice.ensures) in
    (refl, subst (λ (gs : List RawFunction). not (is_call gs call) ≡ true) (ap (λ (v : Read). v.functions) c.self.view_is) (ap not (no_call fs call none)))

pub returns-then-not-are_values-clause-refused : goal.returns-then-not-are_values-clause-refused
returns-then-not-are_values-clause-refused c =
    let fs = c.self.inside.named.now.functions.now in
    let f = c.index-self-func.result in
    let call : Call = record { name = c.args.name; numbers = c.args.numbers; wanted = views.wanted_of c.args.wanted } in
    let at : Some c.in-Some.func ≡ first_place c.args.name (names_of fs) = c.in-Some.ensures.place ∙ ap (λ (n : List ℕ). first_place n (names_of fs)) c.as_slice.ensures in
    let is = is_call_at fs call c.in-Some.func f at c.in-Some.ensures.within c.index-self-func.is in
    let values : c.are_values.result ≡ are_values f.signature.params c.args.numbers = c.are_values.ensures ∙ ((λ j. are_values (c.as_slice-2.ensures j) (c.as_slice-3.ensures j)) ∙ ap (λ (g : RawFunction). are_values g.signature.params c.args.numbers) (sym c.index-self-func.is)) in
    let none : is_call fs call ≡ false = elim c.then-not-are_values.branch [
      | then-not-are_values-via-then-not-are_values w ↦ is ∙ ap (λ (b : Bool). b && may_be_wanted f call.wanted) (sym values ∙ w.if-not-are_values.true)
      | then-not-are_values-via-else-not-are_values+then-not-may_be_wanted w ↦ is ∙ (ap (λ (b : Bool). are_values f.signature.params c.args.numbers && b) (ap (λ (g : RawFunction). may_be_wanted g call.wanted) c.index-self-func.is ∙ (sym w.may_be_wanted.ensures ∙ w.if-not-may_be_wanted.true)) ∙ and_false (are_values f.signature.params c.args.numbers))
    ] in
    (refl, subst (λ (gs : List RawFunction). not (is_call gs call) ≡ true) (ap (λ (v : Read). v.functions) c.self.view_is) (ap not none))

pub invariant_of-self-2 : goal.invariant_of-self-2
invariant_of-self-2 c =
    let fs = c.self.inside.named.now.functions.now in
    let at : Some c.in-Some.func ≡ first_place c.args.name (names_of fs) = c.in-Some.ensures.place ∙ ap (λ (n : List ℕ). first_place n (names_of fs)) c.as_slice.ensures in
    subst (All (IsPlaced fs)) (sym c.in_ok-push.ensures.items)
    (All-append (IsPlaced fs) _ _ c.self.invariant (All-cons (IsPlaced fs) _ [] (called c.args.name fs c.in-Some.func (sym at)) (All-nil (IsPlaced fs))))

pub returns-clause-taken : goal.returns-clause-taken
returns-clause-taken c =
    let fs = c.self.inside.named.now.functions.now in
    let f = c.index-self-func.result in
    let call : Call = record { name = c.args.name; numbers = c.args.numbers; wanted = views.wanted_of c.args.wanted } in
    let at : Some c.in-Some.func ≡ first_place c.args.name (names_of fs) = c.in-Some.ensures.place ∙ ap (λ (n : List ℕ). first_place n (names_of fs)) c.as_slice.ensures in
    let is = is_call_at fs call c.in-Some.func f at c.in-Some.ensures.within c.index-self-func.is in
    let values : are_values f.signature.params c.args.numbers ≡ true = sym (c.are_values.ensures ∙ ((λ j. are_values (c.as_slice-2.ensures j) (c.as_slice-3.ensures j)) ∙ ap (λ (g : RawFunction). are_values g.signature.params c.args.numbers) (sym c.index-self-func.is))) ∙ c.if-not-are_values.false in
    let wanted : may_be_wanted f call.wanted ≡ true = ap (λ (g : RawFunction). may_be_wanted g call.wanted) c.index-self-func.is ∙ (sym c.may_be_wanted.ensures ∙ c.if-not-may_be_wanted.false) in
    let yes : is_call fs call ≡ true = is ∙ (λ j. values j && wanted j) in
    let script : replies_of c.replace-script.result ≡ replies_of c.self.inside.script = ap replies_of c.replace-script.ensures.value in
    let empty : replies_of c.replace-script.new.dest ≡ [] = ap replies_of c.replace-script.ensures.after ∙ c.no_script.ensures in
    let runs = ap (map run_of) c.in_ok-push.ensures.items
    ∙ (map-append run_of c.self.inside.tests.runs.items _ ∙ ap (λ (s : List Reply). map run_of c.self.inside.tests.runs.items ++ record { line = c.args.line; call = call; script = s; trace = [] } ∷ []) script) in (
      subst (λ (gs : List RawFunction). not (is_call gs call) ≡ false) (ap (λ (v : Read). v.functions) c.self.view_is) (ap not yes),
      (λ j. record {
        functions = fs;
        end_spot = c.self.inside.end_spot;
        tests = record (views.function_of c.self.inside.tests) { runs = runs j };
        script = empty j;
        has_check = c.self.inside.has_check;
      }) ∙ ap (λ (v : Read). after_directive v c.args.line (run c.args.name c.args.numbers (views.wanted_of c.args.wanted))) c.self.view_is,
    )
