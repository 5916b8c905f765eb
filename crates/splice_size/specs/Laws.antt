-- The laws of the size of a splice.
use Rattle.std.specs.Prelude.{◌≡◌, ℕ, ◌+◌, ◌≤◌, List, [], ◌++◌}
use Rattle.ir_core.specs.declared.declarations.Callee.{Callee}
use Rattle.ir_core.specs.declared.signatures.Sig.{Sig}
use Rattle.ir_core.specs.Lists.{Different}
use Rattle.ir_core.specs.Lookup.{block_numbers}
use Rattle.ir_core.specs.Module.{Line, Function}
use Rattle.ir_core.specs.Size.{line_size, size_of}
use Rattle.ir_semantics.specs.Accepted.{RulesHold}
use Rattle.ir_semantics.specs.Import.{callees_after, sigs_after}
use Rattle.ir_semantics.specs.Renaming.{Renaming, line_under}
use Rattle.ir_semantics.specs.Splice.{Naming, Splicing, spliced}
use Rattle.inline_outcomes.specs.Stands.{Stands}
use Rattle.inline_numbering.specs.Carried.{SiteUnder, splicing_under}
use Rattle.inline_numbering.specs.Renamed.{Renamed}
use Rattle.splice_size.specs.declared.counts.Counts.{Counts}
use Rattle.splice_size.specs.Counts.{counts_of, declared_size, sum_size}
use Rattle.splice_size.specs.SizeAfter.{added_size, size_after}

-- the site stands in its caller, and both functions keep their own rules
pub record Sited (p : Splicing) : Type 0 where
  pub stands : Stands p
  pub caller : RulesHold [] p.caller
  pub callee : RulesHold [] p.callee
  pub callee_blocks : Different (block_numbers p.callee.blocks)

-- the declarations that f takes over from g
pub record TakesOver (f g : Function) (sigs : List Sig) (callees : List Callee) : Type 0 where
  pub sigs_are : sigs_after f g ≡ f.sigs ++ sigs
  pub callees_are : callees_after f g ≡ f.callees ++ callees

-- the size of a splice, which is not asked to be whole
abbrev pub SizeOfSplice : Type 0
SizeOfSplice =
    (p : Splicing) → Sited p → (sigs : List Sig) (callees : List Callee) → TakesOver p.caller p.callee sigs callees
    → size_of (spliced p)
    ≡ size_after (size_of p.caller) p.site (counts_of p.callee) (added_size p.callee.slots sigs callees)

-- the site is a part of its caller
abbrev pub SiteWithin : Type 0
SiteWithin = (p : Splicing) → Stands p → line_size p.site ≤ size_of p.caller

-- the counts are the function's size, by parts
abbrev pub SizeByCounts : Type 0
SizeByCounts = (f : Function) → size_of f ≡ declared_size f + sum_size (counts_of f)

-- under other numbers a function has the same counts, a site makes the same of a size, and a splice has the same size
abbrev pub RenamedKeepsCounts : Type 0
RenamedKeepsCounts = (r : Renaming) (f g : Function) → Renamed r f g → counts_of g ≡ counts_of f

abbrev pub SizeAfterUnder : Type 0
SizeAfterUnder =
    (r : Renaming) (size : ℕ) (site : Line) (c : Counts) (added : ℕ)
    → size_after size (line_under r site) c added ≡ size_after size site c added

abbrev pub SpliceSizeUnder : Type 0
SpliceSizeUnder =
    (r s : Renaming) (p : Splicing) (m : Naming) (c h : Function) → SiteUnder r s p c h
    → size_of (spliced (splicing_under r m c h p)) ≡ size_of (spliced p)
