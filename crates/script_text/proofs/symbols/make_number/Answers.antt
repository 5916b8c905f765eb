use Rattle.std.proofs.Common.{sym, ◌∙◌}
use Rattle.script_text.proofs.Numbers.{byte_small}
use Rattle.script_text.proofs.symbols.make_number.Goals as goal

pub invariant_of-result-clause-byte : goal.invariant_of-result-clause-byte
invariant_of-result-clause-byte c = λ e. rw (c.value.ensures.value, c.in-Some.ensures.value) (byte_small _ (sym c.classify_number.ensures ∙ e))
