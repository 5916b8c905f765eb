use Rattle.std.proofs.Common.{ℕ, ◌+◌, true, false, List, [], ◌∷◌, ◌++◌, map, drop, Some, None, sym, ap, ◌∙◌, arith, append_assoc}
use Rattle.std.specs.Prelude.{option_map}
use Rattle.std.proofs.lemmas.List.{map-append}
use Rattle.test_directives.specs.Commands as spec
use Rattle.test_directives.specs.Tests.{Placed, placed, headers, commands, bad_header}
use Rattle.test_directives.specs.Views.{command_of}
use Rattle.test_directives.proofs.TokenSteps.{headers_next, commands_next, bad_next}
use Rattle.test_directives.proofs.tests.commands.Goals as goal
use Rattle.test_directives.proofs.tests.commands.Goals.{in-None, in-Some-Some+in_ok-push-in-Some-Some}

pub tokens-preserved-then-not-is_header : goal.tokens-preserved-then-not-is_header
tokens-preserved-then-not-is_header c =
    let plain = sym c.is_header.ensures ∙ c.if-not-is_header.true in
    let same = headers_next c.args.text.now c.args.tokens.now c.tokens.i c.get-token.result false c.get-token.ensures plain in
    record {
      bad = ap bad_header (sym same) ∙ c.tokens.invariant.bad;
      seen = ap (λ (hs : List Placed). map command_of c.tokens.list.items ++ commands hs) (sym same) ∙ c.tokens.invariant.seen;
    }

pub spelling-requires-clause-ordered : goal.spelling-requires-clause-ordered
spelling-requires-clause-ordered c =
    let some = (c.requires.inside.each c.tokens.i c.get-token.result c.get-token.ensures).some in
    omega (arith, some)

pub spelling-requires-clause-within : goal.spelling-requires-clause-within
spelling-requires-clause-within c = (c.requires.inside.each c.tokens.i c.get-token.result c.get-token.ensures).within

pub returns-in-Some-None-clause-bad : goal.returns-in-Some-None-clause-bad
returns-in-Some-None-clause-bad c =
    let header = sym c.is_header.ensures ∙ c.if-not-is_header.false in
    let ahead = headers_next c.args.text.now c.args.tokens.now c.tokens.i c.get-token.result true c.get-token.ensures header in
    let read = ap spec.command_of (sym c.spelling.ensures) ∙ (sym c.in_ok-command_of.ensures ∙ ap (option_map (option_map command_of)) (c.in-Some-None.is ∙ ap (λ o. Some o) c.in-Some-None.field-0-is)) in
    sym c.tokens.invariant.bad
    ∙ (ap bad_header ahead
    ∙ (bad_next (placed c.args.text.now c.get-token.result) (headers c.args.text.now (drop (c.tokens.i + 1) c.args.tokens.now)) (Some None) read ∙ ap (λ (n : ℕ). Some n) (sym c.place.ensures.line)))

pub tokens-preserved : goal.tokens-preserved
tokens-preserved c =
    let header = sym c.is_header.ensures ∙ c.if-not-is_header.false in
    let ahead = headers_next c.args.text.now c.args.tokens.now c.tokens.i c.get-token.result true c.get-token.ensures header in
    let h = placed c.args.text.now c.get-token.result in
    let hs = headers c.args.text.now (drop (c.tokens.i + 1) c.args.tokens.now) in
    let read = ap spec.command_of (sym c.spelling.ensures) ∙ sym c.in_ok-command_of.ensures in
    elim c.match-branch-2.branch [
      | in-None w ↦ (let none = read ∙ ap (option_map (option_map command_of)) w.in-None.is in record {
        bad = sym (ap bad_header ahead ∙ bad_next h hs None none) ∙ c.tokens.invariant.bad;
        seen = ap (λ l. map command_of l.items ++ commands hs) w.list-is
            ∙ (ap (λ (cs : List spec.Command). map command_of c.tokens.list.items ++ cs) (sym (ap commands ahead ∙ commands_next h hs None none)) ∙ c.tokens.invariant.seen);
      })
      | in-Some-Some+in_ok-push-in-Some-Some w ↦ (let some = read ∙ ap (option_map (option_map command_of)) (w.in-Some-Some.is ∙ ap (λ o. Some o) w.in-Some-Some.field-0-is) in record {
        bad = sym (ap bad_header ahead ∙ bad_next h hs (Some (Some (command_of w.in-Some-Some.command))) some) ∙ c.tokens.invariant.bad;
        seen = ap (λ l. map command_of l.items ++ commands hs) w.list-is
            ∙ (ap (λ l. map command_of l ++ commands hs) w.in_ok-push-in-Some-Some.ensures.items
            ∙ (ap (λ (cs : List spec.Command). cs ++ commands hs) (map-append command_of c.tokens.list.items (w.in-Some-Some.command ∷ []))
            ∙ (append_assoc (map command_of c.tokens.list.items) (command_of w.in-Some-Some.command ∷ []) (commands hs)
            ∙ (ap (λ (cs : List spec.Command). map command_of c.tokens.list.items ++ cs) (sym (ap commands ahead ∙ commands_next h hs (Some (Some (command_of w.in-Some-Some.command))) some)) ∙ c.tokens.invariant.seen))));
      })
    ]
