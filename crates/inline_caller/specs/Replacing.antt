-- A call of any kind, and when its callee's body can come in its place.
use Rattle.ir_core.specs.declared.places.Point.{Point}
use Rattle.ir_core.specs.Module.{Instruction, ReturnCall, TryCall, Function}
use Rattle.inline_body.specs.PlainCall.{CanSplice}
use Rattle.inline_ends.specs.TailCall.{CanSpliceTail}
use Rattle.inline_ends.specs.TryCallSite.{CanSpliceTry}
use Rattle.inline_caller.specs.declared.kinds.CallKind.{CallKind}
use Rattle.inline_caller.specs.declared.kinds.CallKind.TheVariants.{Plain, Tail, Try}

-- the kind of a call; any other instruction has that of a plain call
abbrev pub kind_of_call : Instruction → CallKind
kind_of_call (ReturnCall t args) = Tail
kind_of_call (TryCall t sig args normal table) = Try
kind_of_call _ = Plain

-- a call of some kind stands at the place in f, and can be replaced by the body of g
pub data CanReplace (f g : Function) (at : Point) : Type 0 where
  plain : CanSplice f g at → CanReplace f g at
  tail : CanSpliceTail f g at → CanReplace f g at
  tries : CanSpliceTry f g at → CanReplace f g at
