-- A direct call can be replaced where the splice is within the limit of sizes.
use Rattle.std.proofs.Common.{◌≡◌, ℕ, Some, None, refl, sym, ap, ◌∙◌, subst}
use Rattle.ir_core.specs.declared.places.Point.{Point}
use Rattle.ir_core.specs.Module.{Instruction, Plain, Branches, SequencePoint, Return, Call, ReturnCall, TryCall, Line, Function}
use Rattle.ir_core.specs.Uses.{callee_of}
use Rattle.ir_semantics.specs.Splice.{sides}
use Rattle.inline_body.specs.PlainCall.{IsPlainCall}
use Rattle.inline_ends.specs.TailCall.{IsTailCall}
use Rattle.inline_ends.specs.TryCallSite.{IsTryCall}
use Rattle.inline_caller.specs.Replacing.{CanReplace, plain, tail, tries}
use Rattle.splice_bounds.specs.Laws.{WithinLimit, PlainCallHasNumbers, TailCallHasNumbers, TryCallHasNumbers}

pub replaceable : (f g : Function) (at : Point) (l : Line) → PlainCallHasNumbers → TailCallHasNumbers → TryCallHasNumbers → (j : ℕ) → callee_of l.inst ≡ Some j → WithinLimit sides f g at l → CanReplace f g at
replaceable f g at l plain_law tail_law try_law j is limit = go l.inst refl is
  where
    go : (i : Instruction) → l.inst ≡ i → callee_of l.inst ≡ Some j → CanReplace f g at
    go (Call t args) e c = plain (plain_law sides f g at l limit (subst IsPlainCall (sym e) tt))
    go (ReturnCall t args) e c = tail (tail_law sides f g at l limit (subst IsTailCall (sym e) tt))
    go (TryCall t sig args normal table) e c = tries (try_law sides f g at l limit (subst IsTryCall (sym e) tt))
    go (Plain p) e c = let z : None ≡ Some j = sym (ap callee_of e) ∙ c in absurd cc
    go (Branches b) e c = let z : None ≡ Some j = sym (ap callee_of e) ∙ c in absurd cc
    go SequencePoint e c = let z : None ≡ Some j = sym (ap callee_of e) ∙ c in absurd cc
    go (Return vs) e c = let z : None ≡ Some j = sym (ap callee_of e) ∙ c in absurd cc
