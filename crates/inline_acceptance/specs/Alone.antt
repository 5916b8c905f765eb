-- Functions that are accepted by themselves, and a splice of two of them.
use Rattle.std.specs.Prelude.{◌≡◌, ℕ, [], ◌∷◌, ◌++◌, Some, slice_get}
use Rattle.ir_core.specs.declared.declarations.Callee.{Callee}
use Rattle.ir_core.specs.Lists.{In}
use Rattle.ir_core.specs.Lookup.{find_block}
use Rattle.ir_core.specs.Module.{Block, Function}
use Rattle.ir_core.specs.Uses.{callee_of}
use Rattle.ir_core.specs.WellFormed.{WellFormed}
use Rattle.ir_semantics.specs.Accepted.{Accepted}
use Rattle.ir_semantics.specs.Splice.{Splicing, sides, spliced}
use Rattle.inline_outcomes.specs.Stands.{Stands}

-- the module that has it alone is accepted
abbrev pub AcceptedAlone : Function → Type 0
AcceptedAlone f = Accepted (f ∷ [])

-- a direct call in the caller, by a declaration that states the signature of the body that comes in its place
pub record CallSite (p : Splicing) : Type 0 where
  pub block : Block
  pub block_found : find_block p.at p.caller.blocks ≡ Some block
  pub lines : block.lines ≡ p.before ++ (p.site ∷ p.behind)
  pub callee : ℕ
  pub is_call : callee_of p.site.inst ≡ Some callee
  pub declared : Callee
  pub declared_found : slice_get p.caller.callees callee ≡ Some declared
  pub signature : slice_get p.caller.sigs declared.sig ≡ Some p.callee.sig

abbrev pub standing : (p : Splicing) → CallSite p → Stands p
standing p site = record { block = site.block; block_found = site.block_found; lines = site.lines }

-- where the callee declares the caller, it states the caller's signature
abbrev pub StatesCaller : Splicing → Type 0
StatesCaller p =
    (c : Callee) → In c p.callee.callees → c.name ≡ p.caller.name → slice_get p.callee.sigs c.sig ≡ Some p.caller.sig

-- two functions, each well-formed and accepted alone
pub record AloneParts (p : Splicing) : Type 0 where
  pub caller_whole : WellFormed p.caller
  pub callee_whole : WellFormed p.callee
  pub caller_accepted : AcceptedAlone p.caller
  pub callee_accepted : AcceptedAlone p.callee

-- their splice is well-formed, and accepted alone where what comes in states the signature of the function that it
-- comes into
abbrev pub SpliceAlone : Type 0
SpliceAlone =
    (p : Splicing) → p.naming ≡ sides → CallSite p → AloneParts p
    → WellFormed (spliced p) × (StatesCaller p → AcceptedAlone (spliced p))
