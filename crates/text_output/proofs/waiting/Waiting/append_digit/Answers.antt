use Rattle.std.proofs.Common.{◌≡◌, ℕ, ◌+◌, ◌++◌, List, length, length-take-le, arith, sym, ap, ap₂, ◌∙◌}
use Rattle.std.proofs.lemmas.Fmt.{decimal_digit}
use Rattle.std.proofs.lemmas.List.{take_more_set}
use Rattle.text_output.proofs.waiting.Waiting.append_digit.Goals as goal

pub returns : goal.returns
returns c =
    let waits : length c.args.self.now ≡ c.self.inside.len = ap length (sym c.self.view_is) ∙ length-take-le c.self.inside.len c.self.inside.bytes (omega (arith, c.self.invariant, c.self.told)) in
    take_more_set c.self.inside.bytes c.self.inside.len (48 + c.args.digit) (omega (arith, waits, c.requires.room, c.self.told))
    ∙ ap₂ (λ (l ds : List ℕ). l ++ ds) c.self.view_is (sym (decimal_digit c.args.digit c.requires.one))
