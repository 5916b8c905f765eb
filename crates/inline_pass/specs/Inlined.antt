-- How many sites are inlined: those of a function's own text at which the body as it is then gets one more body.
use Rattle.std.specs.Prelude.{ℕ, suc, List, [], ◌∷◌, map, sum, Option, Some, None, if◌then◌else◌}
use Rattle.ir_core.specs.declared.names.FuncName.{FuncName}
use Rattle.ir_core.specs.Module.{Function, Module}
use Rattle.ir_core.specs.Lookup.{and_then}
use Rattle.inline_pass.specs.Policy.{Policy, takes}
use Rattle.inline_pass.specs.Sites.{Point, own_sites}
use Rattle.inline_pass.specs.Finished.{callee_at, spliced_at, after_splice, finished_body}

-- of some sites in turn, as they are inlined into a body
abbrev pub inlined_by : (FuncName → Option Function) → Policy → (Point → Point) → List Point → Function → ℕ
inlined_by bodies policy now [] body = 0
inlined_by bodies policy now (site ∷ sites) body =
    elim (and_then (callee_at body (now site)) bodies) [
      | None ↦ inlined_by bodies policy now sites body
      | Some callee ↦
          if takes policy callee (spliced_at body (now site) callee)
          then suc (inlined_by bodies policy (after_splice (now site) now) sites (spliced_at body (now site) callee))
          else inlined_by bodies policy now sites body
    ]

-- while a function is finished with these bodies
abbrev pub inlined_with : (FuncName → Option Function) → Policy → Function → ℕ
inlined_with bodies p f = inlined_by bodies p (λ q. q) (own_sites f.blocks) f

-- in the finished body of a function of m
abbrev pub inlined : Policy → Module → Function → ℕ
inlined p m f = inlined_with (finished_body p m f.name) p f

-- in all finished bodies of m together
abbrev pub all_inlined : Policy → Module → ℕ
all_inlined p m = sum (map (inlined p m) m)
