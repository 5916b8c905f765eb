use Rattle.std.proofs.Common.{ℤ, List, Some, refl, sym, ap, subst, ◌∙◌}
use Rattle.script_text.specs.Grammar as grammar
use Rattle.script_text.specs.Scripts.{Refuses}
use Rattle.script_text.specs.Values.{number_list_value}
use Rattle.test_directives.specs.Directives.{values_of}
use Rattle.test_directives.proofs.Texts.{read_is, refused_is, no_text}
use Rattle.test_directives.proofs.values.numbers_of.Goals as goal

pub returns-in_default : goal.returns-in_default
returns-in_default c = sym (no_text grammar.number_list number_list_value refl refl c.args.text.now c.in_default.ensures.cases.0)

pub returns-in-Ok-number_list : goal.returns-in-Ok-number_list
returns-in-Ok-number_list c =
    ap (λ (xs : List ℤ). Some xs) c.from_vec.ensures
    ∙ sym (sym (ap values_of c.in-Ok.ensures.cases.0) ∙ read_is grammar.number_list number_list_value refl c.in-Ok.text.now c.in-Ok-number_list.numbers.items c.in-Ok-number_list.ensures.read)

pub returns-in-Err-BadScript : goal.returns-in-Err-BadScript
returns-in-Err-BadScript c =
    let stop = subst (Refuses grammar.number_list c.in-Ok.text.now) c.in-Err-BadScript.field-0-is c.in-Err-BadScript.ensures.refused in
    sym (sym (ap values_of c.in-Ok.ensures.cases.0) ∙ refused_is grammar.number_list number_list_value refl c.in-Ok.text.now c.in-Err-BadScript.field-0-0 stop)
