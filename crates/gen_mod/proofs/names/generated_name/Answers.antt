use Rattle.std.proofs.Common.{◌∙◌, ap, ap₂, ◌++◌, List, ℕ}
use Rattle.ir_core.specs.declared.names.FuncName.TheVariants.{Text}
use Rattle.gen_mod.proofs.names.generated_name.Goals as goal

pub returns : goal.returns
returns c =
    ap Text
    (c.in_ok-from_slice.ensures
    ∙ (c.as_slice-2.ensures.value
    ∙ (c.in_ok-extend_from_slice.ensures.items
    ∙ ap₂ (λ (xs ys : List ℕ). xs ++ ys) (c.in_ok-text.ensures.items ∙ c.as_slice.ensures) (c.as_bytes.ensures.value ∙ c.format.ensures.text))))
