use Rattle.std.proofs.Common.{rules}
use Rattle.std.specs.Ordering.{is_lt}
use Rattle.std.proofs.lemmas.List.Sorted.{ranks_by, answers_always}
use Rattle.func_addrs.specs.declared.mentions.Mention.{Mention}
use Rattle.func_addrs.specs.Order.{name_cmp}
use Rattle.func_addrs.proofs.Comparing.{name_total}
use Rattle.func_addrs.proofs.Mentioning.{falls_from}
use Rattle.func_addrs.proofs.mentions.sort_mentions.Goals as goal

pub returns-clause-ordered : goal.returns-clause-ordered
returns-clause-ordered c =
    falls_from _ (c.sort_unstable_by.ensures.sorted (λ (a b : Mention). is_lt (name_cmp a.name.now b.name.now)) (ranks_by name_total (λ (m : Mention). m.name.now)) (answers_always _ _ _ (λ f a r g h. search rules)))
