-- Acceptance does not depend on the numbers of values and blocks, and a splice keeps it.
use Rattle.std.specs.Prelude.{◌≡◌, ◌≤◌}
use Rattle.ir_core.specs.Module.{Module}
use Rattle.ir_core.specs.Size.{size_of}
use Rattle.ir_core.specs.WellFormed.{IsModule}
use Rattle.ir_semantics.specs.Accepted.{Accepted}
use Rattle.ir_semantics.specs.Canon.{SameUpToNumbering}
use Rattle.ir_semantics.specs.Site.{Site}
use Rattle.ir_semantics.specs.Splice.{Splicing, sides, spliced, replace}
use Rattle.ir_text.specs.Writable.{Writable}

-- of two modules that are the same up to numbering, one is accepted where the other is
abbrev pub NumberingAccepted : Type 0
NumberingAccepted = (m r : Module) → SameUpToNumbering m r → IsModule m → Accepted m → IsModule r × Accepted r

-- and one is writable where the other is
abbrev pub NumberingWritable : Type 0
NumberingWritable = (m r : Module) → SameUpToNumbering m r → Writable m → Writable r

-- the splice of two functions of an accepted module is accepted, and writable where it is no larger than a text may be
abbrev pub SpliceAccepted : Type 0
SpliceAccepted =
    (m : Module) → IsModule m → Accepted m → (p : Splicing) → p.naming ≡ sides → Site m p
    → IsModule (replace (spliced p) m) × Accepted (replace (spliced p) m)

abbrev pub SpliceWritable : Type 0
SpliceWritable =
    (m : Module) → IsModule m → Accepted m → Writable m → (p : Splicing) → p.naming ≡ sides → Site m p
    → size_of (spliced p) ≤ 262144 → Writable (replace (spliced p) m)
