use Rattle.std.proofs.Common.{◌∙◌, ap, sym, subst, Some, rules}
use Rattle.std.specs.List.Sorted.{IsStrictlySortedBy}
use Rattle.std.proofs.lemmas.Fn.{always_returns_same}
use Rattle.ir_semantics.specs.Names.{address_from}
use Rattle.func_addrs.specs.declared.mentions.Mention.{Mention}
use Rattle.func_addrs.specs.Mentions.{names_of}
use Rattle.func_addrs.specs.Order.{name_cmp}
use Rattle.func_addrs.proofs.Finding.{found_by_search, missed_by_search, searchable}
use Rattle.func_addrs.proofs.addresses.FuncAddrs.find.Goals as goal

pub returns-in-Ok : goal.returns-in-Ok
returns-in-Ok c =
    let rising = subst (λ xs. IsStrictlySortedBy name_cmp (names_of xs)) (sym c.deref.ensures.value) c.requires.rising in
    ap Some c.address_at.ensures
    ∙ (found_by_search c.deref.result.now c.args.name.now c.in-Ok.place rising c.in-Ok.ensures.bound
    (c.in-Ok.ensures.position (λ (m : Mention). name_cmp m.name.now c.args.name.now) (always_returns_same _ _ _ (λ a r g h. search rules)))
    ∙ ap (λ xs. address_from 0 (names_of xs) c.args.name.now) c.deref.ensures.value)

pub returns-in-Err : goal.returns-in-Err
returns-in-Err c =
    let rising = subst (λ xs. IsStrictlySortedBy name_cmp (names_of xs)) (sym c.deref.ensures.value) c.requires.rising in
    let point = c.in-Err.ensures.position (λ (m : Mention). name_cmp m.name.now c.args.name.now) (always_returns_same _ _ _ (λ a r g h. search rules)) (searchable c.deref.result.now c.args.name.now rising) in
    missed_by_search c.deref.result.now c.args.name.now _ point.0 point.1
    ∙ ap (λ xs. address_from 0 (names_of xs) c.args.name.now) c.deref.ensures.value
