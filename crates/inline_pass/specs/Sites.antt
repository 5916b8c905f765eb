-- The sites of a function's own text, in order of the text, and where each stands after others were inlined.
use Rattle.std.specs.Prelude.{ℕ, suc, ◌+◌, ◌-◌, List, [], ◌∷◌, ◌++◌, Option, Some, None, Bool, true, false, ◌&&◌}
use Rattle.std.specs.Prelude.{nat_eq, nat_lt, if◌then◌else◌, slice_get}
use Rattle.ir_core.specs.declared.names.FuncName.{FuncName}
use Rattle.ir_core.specs.Module.{Line, Block, Function}
use Rattle.ir_core.specs.Lookup.{and_then, find_block}
use Rattle.ir_semantics.specs.Splice.{sides}
use Rattle.ir_core.specs.Uses.{callee_of}

-- a block's number and the point of a line in it
abbrev pub Point : Type 0
Point = ℕ × ℕ

abbrev pub is_site : Option ℕ → Bool
is_site None = false
is_site (Some k) = true

-- the direct calls among a block's lines, from its i-th line on
abbrev pub sites_in : ℕ → ℕ → List Line → List Point
sites_in b i [] = []
sites_in b i (l ∷ ls) = if is_site (callee_of l.inst) then (b, i) ∷ sites_in b (suc i) ls else sites_in b (suc i) ls

abbrev pub own_sites : List Block → List Point
own_sites [] = []
own_sites (b ∷ bs) = sites_in b.number 0 b.lines ++ own_sites bs

-- where a point of the caller stands after the splice at the line i of the block `at`
abbrev pub point_behind : ℕ → ℕ → Point → Point
point_behind at i p =
    if nat_eq p.0 at && nat_lt i p.1 then (sides.after, p.1 - (i + 1)) else (sides.caller_block p.0, p.1)

-- the name that the call at a point calls
abbrev pub called : Function → ℕ → ℕ → Option FuncName
called f at i =
    and_then (find_block at f.blocks) (λ b.
    and_then (slice_get b.lines i) (λ l.
    and_then (callee_of l.inst) (λ k.
    and_then (slice_get f.callees k) (λ c. Some c.name))))
