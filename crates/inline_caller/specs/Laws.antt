-- A splice under the code's numbers is that of the definition.
use Rattle.std.specs.Prelude.{◌≡◌, ℕ, Some, slice_get}
use Rattle.ir_core.specs.declared.places.Point.{Point}
use Rattle.ir_core.specs.declared.declarations.Callee.{Callee}
use Rattle.ir_core.specs.Module.{Line, Function}
use Rattle.ir_core.specs.Edits.{IsPoint, lines_of}
use Rattle.ir_core.specs.Sound.{IsSound, IsWhole}
use Rattle.ir_core.specs.Uses.{callee_of}
use Rattle.ir_core.specs.WellFormed.{WellFormed}
use Rattle.ir_semantics.specs.Canon.{SameFunction}
use Rattle.ir_semantics.specs.Splice.{sides, splice_with}
use Rattle.inline_acceptance.specs.Alone.{AcceptedAlone}
use Rattle.inline_body.specs.PlainCall.{IsSplice}

-- a direct call stands at the place in f, by a declaration that states the signature of g
pub record CallsAt (f g : Function) (at : Point) : Type 0 where
  pub there : IsPoint f at
  pub line : Line
  pub found : slice_get (lines_of at.block f.blocks) at.index ≡ Some line
  pub callee : ℕ
  pub is_call : callee_of line.inst ≡ Some callee
  pub declared : Callee
  pub declared_found : slice_get f.callees callee ≡ Some declared
  pub signature : slice_get f.sigs declared.sig ≡ Some g.sig

-- where caller and callee are accepted alone, what comes out is whole, and the definition's splice up to numbering
abbrev pub SpliceIsDefinitions : Type 0
SpliceIsDefinitions =
    (f g h : Function) (at : Point) → CallsAt f g at → WellFormed f → WellFormed g → AcceptedAlone f → AcceptedAlone g
    → IsSplice f g at h → IsSound h → IsWhole h × SameFunction (splice_with sides f at.block at.index g) h
