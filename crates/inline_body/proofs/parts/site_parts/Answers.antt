use Rattle.std.proofs.Common.{List, map, ap, ◌++◌, ◌∙◌}
use Rattle.ir_core.specs.declared.signatures.Ty.{Ty}
use Rattle.inline_body.specs.Results.{repeated}
use Rattle.inline_body.proofs.parts.site_parts.Goals as goal

pub returns-clause-types : goal.returns-clause-types
returns-clause-types c = (
  c.in_ok-kept.kept.items,
  c.in_ok-kept.ensures,
  c.in_ok-types.ensures ∙ ap (λ (given : List Ty). map (λ t. t.1) c.args.callee.now.function.types ++ repeated c.args.tail_calls given) c.as_slice.ensures.value,
)
