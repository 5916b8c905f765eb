-- Values of an instruction are in range.
use Rattle.std.proofs.Common.{◌≡◌, ℕ, zero, suc, ◌<◌, List, [], ◌∷◌, length, Some, get_or, refl, subst}
use Rattle.std.specs.Prelude.{slice_get}
use Rattle.std.proofs.lemmas.Option.{slice_get_read, same_Some}
use Rattle.ir_core.specs.declared.instructions.Arg.{Arg}
use Rattle.ir_core.specs.declared.instructions.Arg.TheVariants as arg
use Rattle.ir_core.specs.declared.instructions.BlockCall.{BlockCall}
use Rattle.ir_core.specs.Module.{Instruction}
use Rattle.ir_core.specs.Lists.{Below}
use Rattle.ir_core.specs.Uses.{arg_values_used, targets_used, targets, operands, values_used}
use Rattle.ir_core.proofs.Members.{below_left, below_right}

one_below : (n : ℕ) (a : Arg) (as' : List Arg) → Below n (arg_values_used (a ∷ as')) → Below n (arg_values_used (a ∷ []))
one_below n (arg.Value v) as' b = (b.0, tt)
one_below n (arg.Ret i) as' b = tt
one_below n (arg.Exn i) as' b = tt

others_below : (n : ℕ) (a : Arg) (as' : List Arg) → Below n (arg_values_used (a ∷ as')) → Below n (arg_values_used as')
others_below n (arg.Value v) as' b = b.1
others_below n (arg.Ret i) as' b = b
others_below n (arg.Exn i) as' b = b

at_below : (n : ℕ) (as' : List Arg) (i : ℕ) (a : Arg) → Below n (arg_values_used as') → slice_get as' i ≡ Some a → Below n (arg_values_used (a ∷ []))
at_below n [] i a b h = absurd cc
at_below n (x ∷ as') zero a b h = subst (λ (z : Arg). Below n (arg_values_used (z ∷ []))) (same_Some x a h) (one_below n x as' b)
at_below n (x ∷ as') (suc i) a b h = at_below n as' i a (others_below n x as' b) h

pub arg_below : (n : ℕ) (as' : List Arg) (i : ℕ) (a : Arg) → Below n (arg_values_used as') → i < length as' → a ≡ get_or as' i a → Below n (arg_values_used (a ∷ []))
arg_below n as' i a b low at = at_below n as' i a b (slice_get_read as' (length as') i a refl low at)

in_targets : (n : ℕ) (ts : List BlockCall) (i : ℕ) (t : BlockCall) → Below n (targets_used ts) → slice_get ts i ≡ Some t → Below n (arg_values_used t.args)
in_targets n [] i t b h = absurd cc
in_targets n (u ∷ ts) zero t b h = subst (λ (z : BlockCall). Below n (arg_values_used z.args)) (same_Some u t h) (below_left n (arg_values_used u.args) (targets_used ts) b)
in_targets n (u ∷ ts) (suc i) t b h = in_targets n ts i t (below_right n (arg_values_used u.args) (targets_used ts) b) h

pub target_args_below : (n : ℕ) (i : Instruction) (k : ℕ) (t : BlockCall) → Below n (values_used i) → slice_get (targets i) k ≡ Some t → Below n (arg_values_used t.args)
target_args_below n i k t b h = in_targets n (targets i) k t (below_right n (operands i) (targets_used (targets i)) b) h

pub operands_below : (n : ℕ) (i : Instruction) → Below n (values_used i) → Below n (operands i)
operands_below n i b = below_left n (operands i) (targets_used (targets i)) b
