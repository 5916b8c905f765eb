-- The laws of a splice: a call replaced by the body of its callee keeps every outcome, and the numbers of values and
-- blocks don't matter.
use Rattle.std.specs.Prelude.{◌≡◌, List}
use Rattle.clk_num.specs.Operations.{DataValue}
use Rattle.ir_core.specs.declared.names.FuncName.{FuncName}
use Rattle.ir_core.specs.Module.{Module}
use Rattle.ir_semantics.specs.Machine.{World}
use Rattle.ir_semantics.specs.Splice.{Splicing, sides, spliced, replace}
use Rattle.ir_semantics.specs.Site.{Site}
use Rattle.ir_semantics.specs.Same.{Safe, Written, Forth, ForthWithinDouble, Back, Same, SameWithinDouble}
use Rattle.ir_core.specs.WellFormed.{IsModule}
use Rattle.ir_semantics.specs.Accepted.{Accepted}
use Rattle.ir_semantics.specs.Canon.{SameUpToNumbering}

-- every run of m that lacks nothing and reads no unwritten byte is one of r, and the other way round
abbrev pub RunsKept : Module → Module → Type 0
RunsKept m r =
    (entry : FuncName) (args : List DataValue) (w : World) → Safe m entry args w → Written m entry args w
    → Forth m r entry args w × Back m r entry args w

-- the same, where twice the steps are enough
abbrev pub RunsKeptWithinDouble : Module → Module → Type 0
RunsKeptWithinDouble m r =
    (entry : FuncName) (args : List DataValue) (w : World) → Safe m entry args w → Written m entry args w
    → ForthWithinDouble m r entry args w × Back m r entry args w

-- a direct call of any kind replaced by its callee's body
abbrev pub SpliceKeepsRuns : Type 0
SpliceKeepsRuns =
    (m : Module) (p : Splicing) → p.naming ≡ sides → Site m p → RunsKeptWithinDouble m (replace (spliced p) m)

-- modules that are the same up to numbering
abbrev pub NumberingKeepsRuns : Type 0
NumberingKeepsRuns = (m r : Module) → SameUpToNumbering m r → RunsKept m r

-- ---- the same of accepted modules and entry calls

abbrev pub SpliceKeeps : Type 0
SpliceKeeps =
    (m : Module) → IsModule m → Accepted m → (p : Splicing) → p.naming ≡ sides → Site m p
    → SameWithinDouble m (replace (spliced p) m)

abbrev pub NumberingKeeps : Type 0
NumberingKeeps = (m r : Module) → IsModule m → Accepted m → SameUpToNumbering m r → Same m r
