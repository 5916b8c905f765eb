-- Worked examples of sizes, policies and the pass.
use Rattle.std.specs.Prelude.{◌≡◌, ℕ, [], ◌∷◌, map, None}
use Rattle.std.proofs.Common.{inl, refl}
use Rattle.clk_num.specs.Operations.{value_of}
use Rattle.clk_num.specs.declared.width.Width.TheVariants.{W32}
use Rattle.ir_core.specs.declared.names.FuncName.{FuncName}
use Rattle.ir_core.specs.declared.names.FuncName.TheVariants.{Text}
use Rattle.ir_core.specs.declared.signatures.Ty.TheVariants.{I32, I64}
use Rattle.ir_core.specs.declared.signatures.Conv.TheVariants.{Fast}
use Rattle.ir_core.specs.declared.instructions.Arg.TheVariants.{Value}
use Rattle.ir_core.specs.Module.{Const, Direct, Plain, Call, Function, Module}
use Rattle.ir_core.specs.Signatures.{same_sig}
use Rattle.ir_semantics.specs.Splice.{sides, splice_with}
use Rattle.ir_semantics.specs.Canon.{canonical}
use Rattle.ir_core.specs.Size.{size_of}
use Rattle.ir_examples.proofs.Written.{signature, declares, f, g, of_i64, line, jumps, returns, block, function, forwards}
use Rattle.call_graph.specs.Order.{BottomUp, bottom_up, piece_number}
use Rattle.inline_pass.specs.Finished.{passed}
use Rattle.inline_pass.specs.Inlined.{inlined, all_inlined}
use Rattle.inline_pass.specs.Pass.{pass}
use Rattle.inline_pass.specs.Policy.{Policy}

abbrev sizes : (callee_size caller_size : ℕ) → Policy
sizes callee_size caller_size = record { callee_size = callee_size; caller_size = caller_size }

abbrev a : FuncName
a = Text (97 ∷ [])

abbrev b : FuncName
b = Text (98 ∷ [])

abbrev c : FuncName
c = Text (99 ∷ [])

abbrev f0 : FuncName
f0 = Text (102 ∷ 48 ∷ [])

abbrev f1 : FuncName
f1 = Text (102 ∷ 49 ∷ [])

-- A function and its one caller.
abbrev constant : Function
constant =
    function f0 (signature [] (I32 ∷ []) Fast) [] [] [] (I32 ∷ []) (
    block 0 [] (line None (0 ∷ []) (Plain (Const (value_of W32 10))) ∷ returns (0 ∷ []) ∷ []) ∷ [])

abbrev one_call : Function
one_call =
    function f1 (signature [] (I32 ∷ []) Fast) [] (signature [] (I32 ∷ []) Fast ∷ []) (declares f0 0 ∷ []) (I32 ∷ []) (
    block 0 [] (line None (0 ∷ []) (Call (Direct 0) []) ∷ returns (0 ∷ []) ∷ []) ∷ [])

abbrev with_constant : Function
with_constant =
    function f1 (signature [] (I32 ∷ []) Fast) [] (signature [] (I32 ∷ []) Fast ∷ []) (declares f0 0 ∷ []) (I32 ∷ I32 ∷ []) (
    block 0 [] (jumps 1 [] ∷ []) ∷
    block 1 [] (line None (0 ∷ []) (Plain (Const (value_of W32 10))) ∷ jumps 2 (Value 0 ∷ []) ∷ []) ∷
    block 2 (1 ∷ []) (returns (1 ∷ []) ∷ []) ∷ [])

constant_size : size_of constant ≡ 5
constant_size = refl

caller_size : size_of one_call ≡ 8
caller_size = refl

spliced_size : size_of (splice_with sides one_call 0 0 constant) ≡ 14
unfolding same_sig
spliced_size = refl

abbrev pair_of : Module
pair_of = constant ∷ one_call ∷ []

at_limits : map canonical (passed (sizes 5 14) pair_of) ≡ constant ∷ with_constant ∷ []
unfolding same_sig
at_limits = refl

below_callee_size : passed (sizes 4 14) pair_of ≡ pair_of
unfolding same_sig
below_callee_size = refl

below_caller_size : passed (sizes 5 13) pair_of ≡ pair_of
unfolding same_sig
below_caller_size = refl

inlined_at_limits : map (inlined (sizes 5 14) pair_of) pair_of ≡ 0 ∷ 1 ∷ []
unfolding same_sig
inlined_at_limits = refl

inlined_below_callee_size : all_inlined (sizes 4 14) pair_of ≡ 0
inlined_below_callee_size = refl

inlined_below_caller_size : all_inlined (sizes 5 13) pair_of ≡ 0
unfolding same_sig
inlined_below_caller_size = refl

-- Recursion, and a caller of a recursive function.
abbrev itself : Function
itself = forwards f f

abbrev other : Function
other = forwards g f

abbrev other_result : Function
other_result =
    function g (of_i64 Fast) [] (of_i64 Fast ∷ []) (declares f 0 ∷ []) (I64 ∷ I64 ∷ I64 ∷ I64 ∷ []) (
    block 0 (0 ∷ []) (jumps 1 (Value 0 ∷ []) ∷ []) ∷
    block 1 (1 ∷ []) (line None (2 ∷ []) (Call (Direct 0) (1 ∷ [])) ∷ jumps 2 (Value 2 ∷ []) ∷ []) ∷
    block 2 (3 ∷ []) (returns (3 ∷ []) ∷ []) ∷ [])

recursion : map canonical (passed (sizes 64 4096) (itself ∷ other ∷ [])) ≡ itself ∷ other_result ∷ []
unfolding same_sig
recursion = refl

-- a call that came in with the body is no site
inlined_of_recursion : map (inlined (sizes 64 4096) (itself ∷ other ∷ [])) (itself ∷ other ∷ []) ≡ 0 ∷ 1 ∷ []
unfolding same_sig
inlined_of_recursion = refl

-- Two functions that call each other, and a caller.
abbrev in_a : Function
in_a = forwards a b

abbrev in_b : Function
in_b = forwards b a

abbrev in_c : Function
in_c = forwards c a

abbrev in_c_result : Function
in_c_result =
    function c (of_i64 Fast) [] (of_i64 Fast ∷ []) (declares a 0 ∷ declares b 0 ∷ []) (I64 ∷ I64 ∷ I64 ∷ I64 ∷ []) (
    block 0 (0 ∷ []) (jumps 1 (Value 0 ∷ []) ∷ []) ∷
    block 1 (1 ∷ []) (line None (2 ∷ []) (Call (Direct 1) (1 ∷ [])) ∷ jumps 2 (Value 2 ∷ []) ∷ []) ∷
    block 2 (3 ∷ []) (returns (3 ∷ []) ∷ []) ∷ [])

one_piece_of_two : map canonical (passed (sizes 64 4096) (in_a ∷ in_b ∷ in_c ∷ [])) ≡ in_a ∷ in_b ∷ in_c_result ∷ []
unfolding same_sig
one_piece_of_two = refl

inlined_of_two : all_inlined (sizes 64 4096) (in_a ∷ in_b ∷ in_c ∷ []) ≡ 1
unfolding same_sig
inlined_of_two = refl

in_order : map canonical (pass (sizes 64 4096) (a ∷ b ∷ c ∷ []) (in_a ∷ in_b ∷ in_c ∷ [])) ≡ in_a ∷ in_b ∷ in_c_result ∷ []
unfolding same_sig
in_order = refl

-- the order from callees to callers: the piece of the two, then the caller
order_of_pieces : bottom_up (in_a ∷ in_b ∷ in_c ∷ []) ≡ a ∷ b ∷ c ∷ []
order_of_pieces = refl

numbers_of_pieces : map (piece_number (in_a ∷ in_b ∷ in_c ∷ [])) (a ∷ b ∷ c ∷ []) ≡ 0 ∷ 0 ∷ 2 ∷ []
numbers_of_pieces = refl

-- a callee that stands behind its caller in the module
caller_first : bottom_up (one_call ∷ constant ∷ []) ≡ f0 ∷ f1 ∷ []
caller_first = refl

-- a caller before its callee is no bottom-up order
caller_not_first : BottomUp pair_of (f1 ∷ f0 ∷ []) → ⊥
caller_not_first order = order.callees_before.1 f0 (inl refl) refl (inl refl)
