-- Finished bodies. The finished body of a function begins with its own text. At each site of its text, in order, whose
-- callee is a function of the module in another piece, the callee's finished body is inlined into the body as it is
-- then, where the policy takes it. Calls that came in with a body are no sites.
use Rattle.std.specs.Prelude.{ℕ, zero, suc, List, [], ◌∷◌, length, map, Option, Some, None, if◌then◌else◌}
use Rattle.ir_core.specs.declared.names.FuncName.{FuncName}
use Rattle.ir_core.specs.Module.{Function, Module}
use Rattle.ir_core.specs.Lookup.{and_then, find_function}
use Rattle.ir_semantics.specs.Splice.{sides, splice_with}
use Rattle.call_graph.specs.Reach.{apart}
use Rattle.inline_pass.specs.Policy.{Policy, takes}
use Rattle.inline_pass.specs.Sites.{Point, own_sites, point_behind, called}

-- the name that the call at a point of the body calls
abbrev pub callee_at : Function → Point → Option FuncName
callee_at body at = called body at.0 at.1

-- the body with another one in place of the call at a point
abbrev pub spliced_at : Function → Point → Function → Function
spliced_at body at callee = splice_with sides body at.0 at.1 callee

-- where each site stands once there was a splice at a point
abbrev pub after_splice : Point → (Point → Point) → Point → Point
after_splice at now site = point_behind at.0 at.1 (now site)

-- the sites in turn; `now` says where each stands in the body, and `bodies` has the bodies of other pieces
abbrev pub inline_by : (FuncName → Option Function) → Policy → (Point → Point) → List Point → Function → Function
inline_by bodies policy now [] body = body
inline_by bodies policy now (site ∷ sites) body =
    elim (and_then (callee_at body (now site)) bodies) [
      | None ↦ inline_by bodies policy now sites body
      | Some callee ↦
          if takes policy callee (spliced_at body (now site) callee)
          then inline_by bodies policy (after_splice (now site) now) sites (spliced_at body (now site) callee)
          else inline_by bodies policy now sites body
    ]

abbrev pub finish_by : (FuncName → Option Function) → Policy → Function → Function
finish_by bodies p f = inline_by bodies p (λ q. q) (own_sites f.blocks) f

-- the body that a name has in a module, where it is in another piece than x; `pieces` is the module whose pieces count
abbrev pub body_of : Module → Module → FuncName → FuncName → Option Function
body_of pieces m x y = if apart pieces x y then find_function y m else None

-- what a function in another piece reaches is less than what the caller reaches, so as many turns as the module has
-- functions are enough
abbrev pub finished_in : ℕ → Policy → Module → Function → Function
finished_in zero p m f = f
finished_in (suc n) p m f = finish_by (λ y. and_then (body_of m m f.name y) (λ g. Some (finished_in n p m g))) p f

abbrev pub finished : Policy → Module → Function → Function
finished p m f = finished_in (length m) p m f

-- the finished body that a name has for x: of a function in another piece
abbrev pub finished_body : Policy → Module → FuncName → FuncName → Option Function
finished_body p m x y = and_then (body_of m m x y) (λ g. Some (finished p m g))

-- all finished bodies, in the module's order
abbrev pub passed : Policy → Module → Module
passed p m = map (finished p m) m
