use Rattle.std.proofs.Common.{refl, sym, ap, subst, ◌∙◌}
use Rattle.host_script.specs.Script.{replies_of}
use Rattle.script_text.specs.Grammar as grammar
use Rattle.script_text.specs.Scripts.{Refuses}
use Rattle.script_text.specs.Values.{script_value}
use Rattle.test_directives.specs.Directives as spec
use Rattle.test_directives.specs.Directives.{values_of}
use Rattle.test_directives.proofs.Texts.{read_is, refused_is, no_text}
use Rattle.test_directives.proofs.values.script_of.Goals as goal

pub returns-in_default : goal.returns-in_default
returns-in_default c = sym (no_text grammar.script script_value refl refl c.args.text.now c.in_default.ensures.cases.0)

pub returns-in-Ok-script : goal.returns-in-Ok-script
returns-in-Ok-script c =
    sym (sym (ap spec.replies_of c.in-Ok.ensures.cases.0) ∙ read_is grammar.script script_value refl c.in-Ok.text.now (replies_of c.in-Ok-script.script) c.in-Ok-script.ensures.read)

pub returns-in-Err-BadScript : goal.returns-in-Err-BadScript
returns-in-Err-BadScript c =
    let stop = subst (Refuses grammar.script c.in-Ok.text.now) c.in-Err-BadScript.field-0-is c.in-Err-BadScript.ensures.refused in
    sym (sym (ap spec.replies_of c.in-Ok.ensures.cases.0) ∙ refused_is grammar.script script_value refl c.in-Ok.text.now c.in-Err-BadScript.field-0-0 stop)
