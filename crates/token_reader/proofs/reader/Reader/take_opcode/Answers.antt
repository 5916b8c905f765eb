use Rattle.std.proofs.Common.{Some, sym, ap, subst, ◌∙◌}
use Rattle.clif_words.specs.declared.meanings.Terminal.TheVariants as terminals
use Rattle.token_reader.specs.Next.{Tells}
use Rattle.token_reader.proofs.Opcodes.{opcode_told, opcode_missed}
use Rattle.token_reader.proofs.Shown.{front_shown}
use Rattle.token_reader.proofs.reader.Reader.take_opcode.Goals as goal

pub returns-then-not-next_is-clause-is : goal.returns-then-not-next_is-clause-is
returns-then-not-next_is-clause-is c = opcode_missed c.args.class c.args.self.now (sym c.next_is.ensures ∙ c.if-not-next_is.true)

pub returns-in-Some-Word-Opcode-clause-is : goal.returns-in-Some-Word-Opcode-clause-is
returns-in-Some-Word-Opcode-clause-is c =
    let i = c.self.inside in
    opcode_told c.args.class c.in-Some-Word-Opcode.kind i.next.spot c.args.self.now c.advance.new.self
    (subst (λ next. Tells next c.args.self.now) (c.in-Some-Word-Opcode.is ∙ ap Some (c.in-Some-Word-Opcode.field-0-is ∙ ap terminals.Word c.in-Some-Word-Opcode.field-0-0-is)) c.next_terminal.ensures) (sym c.next_is.ensures ∙ c.if-not-next_is.false) c.advance.ensures
    (λ x xs e. (front_shown i.text.now _ i.next x xs c.self.invariant.3 (c.self.view_is ∙ e)).1)
