use Rattle.std.proofs.Common.{◌≡◌, ◌∙◌, ◌<◌, ◌^◌, ap, sym, subst, length, arith}
use Rattle.std.specs.List.Sorted.{IsStrictlySortedBy}
use Rattle.std.proofs.lemmas.List.Sorted.{IsPermutation-map}
use Rattle.ir_semantics.specs.Names.{names, in_order, mentioned}
use Rattle.func_addrs.specs.declared.mentions.Mention.{Mention}
use Rattle.func_addrs.specs.Mentions.{names_of}
use Rattle.func_addrs.specs.Order.{name_cmp}
use Rattle.func_addrs.proofs.Keeping.{order_same, order_rises}
use Rattle.func_addrs.proofs.addresses.FuncAddrs.of_module.Goals as goal

pub returns-clause-names : goal.returns-clause-names
unfolding names
returns-clause-names c =
    let sorted = c.sort_mentions.new.mentions.items in
    c.in_ok-names.ensures
    ∙ (ap (λ ms. in_order (names_of ms)) c.as_slice.ensures.value
    ∙ (sym (order_same (names_of c.in_ok-mentions.mentions.items) (names_of sorted) (IsPermutation-map (λ (m : Mention). m.name.now) c.in_ok-mentions.mentions.items sorted c.sort_mentions.ensures.same))
    ∙ ap in_order c.in_ok-mentions.ensures))

pub returns-clause-ordered : goal.returns-clause-ordered
returns-clause-ordered c =
    let few = c.if-len-ge-TOO_MANY.false in
    let count = c.len.ensures in
    record {
      rising = subst (IsStrictlySortedBy name_cmp) (sym c.in_ok-names.ensures) (order_rises (names_of c.as_slice.result.now));
      few = omega arith;
    }
