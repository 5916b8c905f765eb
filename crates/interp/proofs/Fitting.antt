-- Lines that fit, and narrow loads.
use Rattle.std.proofs.Common.{◌≡◌, ℕ, ◌*◌, ◌<◌, ◌≤◌, ◌^◌, ◌%◌, ℤ, List, [], ◌∷◌, Option, Some, None, Bool, true, false, ◌&&◌, ◌||◌, ◌==◌, nat_lt, nat_le, refl, arith, ap, ◌∙◌, sym, subst}
use Rattle.std.specs.Prelude.{IsTrue}
use Rattle.std.proofs.lemmas.Bool.{ltb-true, lt-ltb}
use Rattle.std.proofs.Math.Nat.{mod-eq_of_lt}
use Rattle.clk_num.specs.declared.width.Width.{Width}
use Rattle.clk_num.specs.declared.width.Width.TheVariants.{W8, W16, W32, W64, W128}
use Rattle.clk_num.specs.declared.op.Op.TheVariants.{Uextend, Sextend}
use Rattle.clk_num.specs.Width.{bits_of}
use Rattle.clk_num.specs.Rows.{row, where_so}
use Rattle.clk_num.specs.Operations.{DataValue, value_of, Evaluation, Values, within, sextend, meaning, operation}
use Rattle.ir_core.specs.declared.signatures.Ty.{Ty}
use Rattle.ir_core.specs.declared.instructions.Access.{Access}
use Rattle.ir_core.specs.declared.instructions.Access.TheVariants.{Uload, Sload}
use Rattle.ir_core.specs.declared.instructions.Flags.{Flags}
use Rattle.ir_core.specs.declared.instructions.InstData.{InstData}
use Rattle.ir_core.specs.Module.{Load, Module}
use Rattle.ir_core.specs.Lookup.{width_of}
use Rattle.ir_semantics.specs.TypeRules.{is_narrow}
use Rattle.ir_semantics.specs.Values.{number_of, by_endian, memory_read, address_at, bytes_read, loaded}
use Rattle.ir_semantics.specs.Machine.{World, Trapped, Stuck}
use Rattle.ir_semantics.specs.Effect.{Go, need, evaluated}
use Rattle.clk_num.specs.declared.op.TrapCode.TheVariants.{HeapOob}
use Rattle.byte_store.specs.Bytes.{number_by}
use Rattle.byte_store.specs.Cells.{bytes_at}
use Rattle.interp.specs.State.{env_of, done, simply}
use Rattle.interp.specs.declared.state.Frame.{Frame}
use Rattle.interp.specs.declared.state.Wait.{Wait}

both : (a b : Bool) → IsTrue (a && b) → IsTrue a × IsTrue b
both true b h = (refl, h)
both false b h = absurd (cc h)

is_true : (b : Bool) → IsTrue b → b ≡ true
is_true b h = h

-- ---- narrow loads

pub sizes : (n : ℕ) (t : Ty) → IsTrue (is_narrow n t) → (n == 1 || n == 2 || n == 4) ≡ true
sizes n t h =
    let p = (both ((n == 1 || n == 2 || n == 4) && nat_lt (8 * n) (bits_of (width_of t))) (nat_le (bits_of (width_of t)) 64) h).0 in
    is_true (n == 1 || n == 2 || n == 4) (both (n == 1 || n == 2 || n == 4) (nat_lt (8 * n) (bits_of (width_of t))) p).0

pub fewer : (n : ℕ) (t : Ty) → IsTrue (is_narrow n t) → 8 * n < bits_of (width_of t)
fewer n t h =
    let p = (both ((n == 1 || n == 2 || n == 4) && nat_lt (8 * n) (bits_of (width_of t))) (nat_le (bits_of (width_of t)) 64) h).0 in
    ltb-true (8 * n) (bits_of (width_of t)) (is_true (nat_lt (8 * n) (bits_of (width_of t))) (both (n == 1 || n == 2 || n == 4) (nat_lt (8 * n) (bits_of (width_of t))) p).1)

bits_most : (w : Width) → bits_of w ≤ 128
bits_most W8 = omega arith
bits_most W16 = omega arith
bits_most W32 = omega arith
bits_most W64 = omega arith
bits_most W128 = omega arith

pub at_most : (n : ℕ) (t : Ty) → IsTrue (is_narrow n t) → n ≤ 16
at_most n t h = let f = fewer n t h in let b = bits_most (width_of t) in omega arith

uextend_is : (target : Width) (x : DataValue) → nat_lt (bits_of x.width) (bits_of target) ≡ true → operation (Uextend target) (x ∷ []) ≡ Values (value_of target x.value ∷ [])
unfolding operation meaning row
uextend_is target x h = ap (λ b. within (where_so b (target ∷ [])) (Values (value_of target x.value ∷ []))) h

sextend_is : (target : Width) (x : DataValue) → nat_lt (bits_of x.width) (bits_of target) ≡ true → operation (Sextend target) (x ∷ []) ≡ Values (value_of target (sextend (bits_of target) (bits_of x.width) x.value) ∷ [])
unfolding operation meaning row
sextend_is target x h = ap (λ b. within (where_so b (target ∷ [])) (Values (value_of target (sextend (bits_of target) (bits_of x.width) x.value) ∷ []))) h

-- the value that was read, and the width that has its bytes
pub zero_extended : (n number : ℕ) (t : Ty) (v : Width) (x : DataValue) → IsTrue (is_narrow n t) → v ≡ width_of t → bits_of x.width ≡ 8 * n → number < 2 ^ (8 * n) → x.value ≡ number % 2 ^ bits_of x.width → operation (Uextend v) (x ∷ []) ≡ Values (loaded (Uload t n) number ∷ [])
zero_extended n number t v x h ev ew small ex =
    let lt : bits_of x.width < bits_of (width_of t) = let f = fewer n t h in omega arith in
    let below : number < 2 ^ bits_of x.width = subst (λ k. number < 2 ^ k) (sym ew) small in
    ap (λ w. operation (Uextend w) (x ∷ [])) ev
    ∙ (uextend_is (width_of t) x (lt-ltb (bits_of x.width) (bits_of (width_of t)) lt)
    ∙ ap (λ k. Values (value_of (width_of t) k ∷ [])) (ex ∙ mod-eq_of_lt below))

pub sign_extended : (n number : ℕ) (t : Ty) (v : Width) (x : DataValue) → IsTrue (is_narrow n t) → v ≡ width_of t → bits_of x.width ≡ 8 * n → number < 2 ^ (8 * n) → x.value ≡ number % 2 ^ bits_of x.width → operation (Sextend v) (x ∷ []) ≡ Values (loaded (Sload t n) number ∷ [])
sign_extended n number t v x h ev ew small ex =
    let lt : bits_of x.width < bits_of (width_of t) = let f = fewer n t h in omega arith in
    let below : number < 2 ^ bits_of x.width = subst (λ k. number < 2 ^ k) (sym ew) small in
    ap (λ w. operation (Sextend w) (x ∷ [])) ev
    ∙ (sextend_is (width_of t) x (lt-ltb (bits_of x.width) (bits_of (width_of t)) lt)
    ∙ (ap (λ k. Values (value_of (width_of t) (sextend (bits_of (width_of t)) (bits_of x.width) k) ∷ [])) (ex ∙ mod-eq_of_lt below)
    ∙ ap (λ k. Values (value_of (width_of t) (sextend (bits_of (width_of t)) k number) ∷ [])) ew))

by_number : (big : Bool) (access : Access) (x : Frame) (w : World) (number : ℕ) (o : Option (List ℕ)) → Some number ≡ number_by big o → Go (loaded access number ∷ []) (bytes_at x.slots) w.memory ≡ need o (Trapped HeapOob) (λ bs. Go (loaded access (number_of (by_endian big bs)) ∷ []) (bytes_at x.slots) w.memory)
by_number big access x w number None h = cc h
by_number big access x w number (Some bs) h = let e : number ≡ number_of (by_endian big bs) = cc h in ap (λ k. Go (loaded access k ∷ []) (bytes_at x.slots) w.memory) e

-- a value that was read is what the load gives
pub read_is : (m : Module) (x : Frame) (below : List Wait) (w : World) (l : InstData) (access : Access) (flags : Flags) (address : ℕ) (offset : ℤ) (base : DataValue) (number : ℕ) (e : Evaluation) → Some base ≡ env_of x.values address → Some number ≡ number_by flags.big (memory_read w.memory (address_at base.value offset) (bytes_read access)) → e ≡ Values (loaded access number ∷ []) → done m x below w l (evaluated (bytes_at x.slots) w.memory e) ≡ done m x below w l (simply m x w (Load access flags address offset))
read_is m x below w l access flags address offset base number e eb en ee =
    ap (λ v. done m x below w l (evaluated (bytes_at x.slots) w.memory v)) ee
    ∙ (ap (done m x below w l) (by_number flags.big access x w number (memory_read w.memory (address_at base.value offset) (bytes_read access)) en)
    ∙ ap (λ o. done m x below w l (need o Stuck (λ x'. need (memory_read w.memory (address_at x'.value offset) (bytes_read access)) (Trapped HeapOob) (λ bs. Go (loaded access (number_of (by_endian flags.big bs)) ∷ []) (bytes_at x.slots) w.memory)))) eb)
