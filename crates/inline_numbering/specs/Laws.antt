-- The laws of a splice under other numbers.
use Rattle.std.specs.Prelude.{◌≡◌, ℕ, List, map}
use Rattle.ir_core.specs.Module.{Block, Function}
use Rattle.ir_core.specs.Lists.{In}
use Rattle.ir_core.specs.Sound.{IsSound, IsWhole}
use Rattle.ir_core.specs.WellFormed.{WellFormed}
use Rattle.ir_core.specs.Lookup.{block_numbers}
use Rattle.ir_semantics.specs.Canon.{SameFunction}
use Rattle.ir_semantics.specs.Renaming.{Renaming, block_under}
use Rattle.ir_semantics.specs.Splice.{Naming, Splicing, sides, spliced, spliced_blocks, splice_with}
use Rattle.inline_acceptance.specs.Alone.{AloneParts, CallSite}
use Rattle.inline_numbering.specs.Carried.{Carries, SamePlace, SiteUnder, splicing_under}
use Rattle.inline_numbering.specs.Renamed.{Renamed}

-- t takes the numbers of the splice p to the numbers m of the same splice in c, which is the caller under r, with h,
-- which is the callee under s
abbrev pub Carrying : Renaming → Renaming → Renaming → Naming → Function → Function → Splicing → Type 0
Carrying t r s m c h p = Carries t r s p.naming m p.caller c p.callee h

-- r keeps the block of the site apart from these
abbrev pub KeepsApart : Renaming → ℕ → List Block → Type 0
KeepsApart r at bs = (x : ℕ) → In x (block_numbers bs) → r.block x ≡ r.block at → x ≡ at

-- the blocks
abbrev pub SpliceCarried : Type 0
SpliceCarried =
    (t r s : Renaming) (p : Splicing) (m : Naming) (c h : Function) → Carrying t r s m c h p
    → (bs : List Block) → KeepsApart r p.at bs
    → map (block_under t) (spliced_blocks p bs) ≡ spliced_blocks (splicing_under r m c h p) (map (block_under r) bs)

-- the whole splice
abbrev pub SpliceRenamed : Type 0
SpliceRenamed =
    (t r s : Renaming) (p : Splicing) (m : Naming) (c h : Function) → Carrying t r s m c h p → SiteUnder r s p c h
    → WellFormed (spliced p) → WellFormed (spliced (splicing_under r m c h p))
    → Renamed t (spliced p) (spliced (splicing_under r m c h p))

-- a splice whose numbers are in range, as the code's are, is whole where the splice of the definition is well-formed
abbrev pub SpliceStaysWhole : Type 0
SpliceStaysWhole =
    (t r s : Renaming) (p : Splicing) (m : Naming) (c h : Function) → Carrying t r s m c h p → SiteUnder r s p c h
    → WellFormed (spliced p) → IsSound (spliced (splicing_under r m c h p))
    → IsWhole (spliced (splicing_under r m c h p))

-- the numbers of the definition go to any others
abbrev pub SidesCarry : Type 0
SidesCarry =
    (r s : Renaming) (m : Naming) (b c g h : Function) → Renamed r b c → Renamed s g h → WellFormed g
    → (t : Renaming) × Carries t r s sides m b c g h

-- the splice of the definition
abbrev pub by_sides : Splicing → Splicing
by_sides q = record q { naming = sides }

-- a splice of two functions that are accepted alone, by any numbers that are in range: it is whole, and the
-- definition's up to numbering
abbrev pub SpliceOfAnyNumbers : Type 0
SpliceOfAnyNumbers =
    (q : Splicing) → CallSite q → AloneParts q → IsSound (spliced q)
    → IsWhole (spliced q) × SameFunction (spliced (by_sides q)) (spliced q)

-- functions that are the same up to numbering, at places that correspond, have splices that are the same up to
-- numbering
abbrev pub SpliceRespectsNumbers : Type 0
SpliceRespectsNumbers =
    (m : Naming) (b c g h : Function) (at there i : ℕ) → SameFunction b c → SameFunction g h → SamePlace b c at there
    → WellFormed (splice_with sides b at i g) → WellFormed (splice_with m c there i h)
    → SameFunction (splice_with sides b at i g) (splice_with m c there i h)
