use Rattle.std.proofs.Common.{◌≡◌, ◌∙◌, ap, ◌+◌, ◌%◌, ◌^◌, of_z, to_z-of_z, FitsSigned}
use Rattle.std.specs.Int.{w64}
use Rattle.interp.proofs.Addresses.{address_is}
use Rattle.interp.proofs.accesses.address_of.Goals as goal

pub returns : goal.returns
returns c =
    let low : c.value-2.result ≡ c.args.base.value % 2 ^ 64 = c.value-2.ensures.value ∙ (c.new-low.ensures.value ∙ ap (λ n. n % 2 ^ 64) c.value.ensures.value) in
    let fits : FitsSigned w64 c.from.result = record { sfits = c.from.type_inv } in
    c.wrapping_add_signed.ensures
    ∙ (ap (λ z. (c.value-2.result + of_z w64 z) % 2 ^ 64) (to_z-of_z fits)
    ∙ (ap (λ n. (n + of_z w64 c.from.result) % 2 ^ 64) low
    ∙ (ap (λ z. (c.args.base.value % 2 ^ 64 + of_z w64 z) % 2 ^ 64) (c.from.ensures ∙ to_z-of_z c.ranges.offset)
    ∙ address_is c.args.base.value c.args.offset c.ranges.offset)))
