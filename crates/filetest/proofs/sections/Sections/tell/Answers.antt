use Rattle.std.proofs.Common.{List, map, Option, IfSome, sym, subst}
use Rattle.std.specs.List.{AllByRecursion}
use Rattle.test_directives.specs.Commands.{Command}
use Rattle.test_directives.specs.Views.{command_of, function_of}
use Rattle.filetest.specs.declared.report.Writer.{Writer}
use Rattle.filetest.specs.declared.sections.Kind.{Kind}
use Rattle.filetest.specs.Carrying.{IsCarriedOut}
use Rattle.filetest.specs.Sections.{command_by, nothing_told}
use Rattle.filetest.proofs.CommandChecks.{on_both}
use Rattle.filetest.proofs.Kept.{carried_again, carried_alone, found, put, same_kind}
use Rattle.filetest.proofs.sections.Sections.tell.Goals as goal

pub returns-in-Some-get-clause-told : goal.returns-in-Some-get-clause-told
returns-in-Some-get-clause-told c =
    let m = c.args.checked.now in
    let ts = map function_of c.args.tests.now in
    let faults = c.args.faults.now in
    let P : Kind × Writer → Type 0 = λ e. IsCarriedOut nothing_told e.1 m ts faults (command_by e.0) in
    let kept : P (c.in-Some.kind, c.in-Some-get.section.now) =
    subst (λ (o : Option Writer). IfSome o (λ w. P (c.in-Some.kind, w))) (sym c.in-Some-get.ensures.value) (found _ same_kind P c.in-Some.kind c.args.self.now.told.entries c.requires.kept) in
    let is : IsCarriedOut nothing_told c.in-Some-get.section.now m ts faults (command_of c.args.command.now) = subst (λ (d : Command). IsCarriedOut nothing_told c.in-Some-get.section.now m ts faults d) c.in-Some.ensures kept in
    on_both c.append.result (carried_again m ts faults (command_of c.args.command.now) c.args.out.now c.append.new.self c.in-Some-get.section.now is) c.append.ensures.text c.append.ensures.counts

pub returns-clause-kept : goal.returns-clause-kept
returns-clause-kept c =
    let m = c.args.checked.now in
    let ts = map function_of c.args.tests.now in
    let faults = c.args.faults.now in
    let P : Kind × Writer → Type 0 = λ e. IsCarriedOut nothing_told e.1 m ts faults (command_by e.0) in
    let alone : IsCarriedOut nothing_told c.carry_out-2.new.out m ts faults (command_of c.args.command.now) =
    carried_alone m ts faults (command_of c.args.command.now) c.new-section.result c.carry_out-2.new.out c.new-section.ensures.text c.new-section.ensures.counts c.in_ok-carry_out.ensures in
    let told : P (c.in-Some.kind, c.carry_out-2.new.out) = subst (λ (d : Command). IsCarriedOut nothing_told c.carry_out-2.new.out m ts faults d) (sym c.in-Some.ensures) alone in
    subst (λ (es : List (Kind × Writer)). AllByRecursion P es) (sym c.in_ok-insert.ensures.entries) (put _ same_kind P c.in-Some.kind c.carry_out-2.new.out c.args.self.now.told.entries c.requires.kept told)
