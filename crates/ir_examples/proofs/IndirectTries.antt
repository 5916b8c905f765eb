-- A worked example: an indirect `try_call` names one signature, and keeps it where it is inlined.
use Rattle.std.specs.Prelude.{◌≡◌, [], ◌∷◌, None, Some}
use Rattle.std.proofs.Common.{refl}
use Rattle.ir_core.specs.Signatures.{same_sig}
use Rattle.ir_core.specs.declared.signatures.Ty.TheVariants.{I64}
use Rattle.ir_core.specs.declared.signatures.Conv.TheVariants.{Fast}
use Rattle.ir_core.specs.declared.instructions.Arg.TheVariants.{Value, Ret}
use Rattle.ir_core.specs.Module.{TryIndirect, call_target, TryCall, Function}
use Rattle.ir_core.specs.Lookup.{signature_of}
use Rattle.ir_core.specs.Uses.{sigs_used}
use Rattle.ir_semantics.specs.Splice.{sides, splice_with}
use Rattle.ir_semantics.specs.Canon.{canonical}
use Rattle.ir_examples.proofs.Written.{signature, declares, f, g, of_i64, line, to, jumps, returns, block, function, forwards}

-- It calls the address that it is given, by its one signature.
abbrev trying_callee : Function
trying_callee =
    function g (of_i64 Fast) [] (signature (I64 ∷ I64 ∷ []) (I64 ∷ []) Fast ∷ []) [] (I64 ∷ I64 ∷ []) (
    block 0 (0 ∷ []) (line None [] (TryCall (TryIndirect 0) 0 (0 ∷ 0 ∷ []) (to 1 (Ret 0 ∷ [])) []) ∷ []) ∷
    block 1 (1 ∷ []) (returns (1 ∷ []) ∷ []) ∷ [])

abbrev trying_caller : Function
trying_caller = forwards f g

-- The callee's first signature is the caller's second.
abbrev trying_result : Function
trying_result =
    function f (of_i64 Fast) [] (of_i64 Fast ∷ signature (I64 ∷ I64 ∷ []) (I64 ∷ []) Fast ∷ []) (declares g 0 ∷ []) (I64 ∷ I64 ∷ I64 ∷ I64 ∷ []) (
    block 0 (0 ∷ []) (jumps 1 (Value 0 ∷ []) ∷ []) ∷
    block 1 (1 ∷ []) (line None [] (TryCall (TryIndirect 1) 1 (1 ∷ 1 ∷ []) (to 2 (Ret 0 ∷ [])) []) ∷ []) ∷
    block 2 (2 ∷ []) (jumps 3 (Value 2 ∷ []) ∷ []) ∷
    block 3 (3 ∷ []) (returns (3 ∷ []) ∷ []) ∷ [])

trying_text : canonical (splice_with sides trying_caller 0 0 trying_callee) ≡ trying_result
unfolding same_sig
trying_text = refl

-- by that number the call goes, and it uses no other
trying_signature : signature_of trying_result (call_target (TryIndirect 1) 1) ≡ Some (signature (I64 ∷ I64 ∷ []) (I64 ∷ []) Fast)
trying_signature = refl

trying_uses : sigs_used (TryCall (TryIndirect 1) 1 (1 ∷ 1 ∷ []) (to 2 (Ret 0 ∷ [])) []) ≡ 1 ∷ []
trying_uses = refl
