-- A text has at most one place where no text of a rule goes on, and none where it is one of the rule.
use Rattle.std.proofs.Common.{length, sym, ap, subst, ◌∙◌}
use Rattle.grammar.specs.Rules.{Derives}
use Rattle.grammar.proofs.OneStop.{one_place, not_derived}
use Rattle.token_reader.specs.Next.{spot_or}
use Rattle.script_text.specs.Laws.{OnePlace, NoneWhereRead}

pub one_place_of_text : OnePlace
one_place_of_text r text s t (us, rest, cut, (begins, stop, at)) (ws, more, split, (begun, stopped, there)) =
    let one = one_place r us rest ws more (sym cut ∙ split) begins stop begun stopped in
    at ∙ (ap (spot_or (length text)) one.1 ∙ sym there)

pub none_where_read : NoneWhereRead
none_where_read r text spot v d (us, rest, cut, (begins, stop, at)) = not_derived r us rest stop v (subst (λ l. Derives r l v) cut d)
