-- Writes to slots and to memory.
use Rattle.std.proofs.Common.{◌≡◌, ℕ, suc, ◌+◌, ◌<◌, ◌≤◌, ℤ, List, [], ◌∷◌, ◌++◌, length, take, drop, set, Some, None, true, false, nat_lt, ◌&&◌, get_or, drop-cons, add-one, refl, arith, ap, ◌∙◌, sym}
use Rattle.std.specs.Prelude.{Result, Ok, Err, OnOk, OnErr}
use Rattle.clk_num.specs.Operations.{DataValue}
use Rattle.ir_core.specs.declared.instructions.InstData.{InstData}
use Rattle.ir_core.specs.Module.{Module, StackStore}
use Rattle.ir_semantics.specs.Values.{Slots, slot_place, bytes_in, put_bytes, bytes_of, memory_write, by_endian}
use Rattle.ir_semantics.specs.Machine.{World, Stuck}
use Rattle.ir_semantics.specs.Effect.{need, Go}
use Rattle.byte_store.specs.Cells.{bytes_at}
use Rattle.byte_store.proofs.Bytes.{write_in, bytes_length}
use Rattle.std.proofs.lemmas.List.{take-set, drop-set, take-append-drop}
use Rattle.std.proofs.Math.Seq.{drop-length}
use Rattle.std.proofs.Math.Nat.{mod-eq_of_lt}
use Rattle.std.proofs.lemmas.Bool.{and_parts}
use Rattle.ir_semantics.specs.Step.{writes_fit, written}
use Rattle.interp.specs.State.{function_at, env_of, done, simply}
use Rattle.interp.specs.declared.state.Frame.{Frame}
use Rattle.interp.specs.declared.state.Wait.{Wait}

pub stored : (m : Module) (x : Frame) (below : List Wait) (w : World) (l : InstData) (v k : ℕ) (offset : ℤ) (y : DataValue) (place : ℕ) (new : Slots) → Some y ≡ env_of x.values v → Some place ≡ slot_place (function_at m x.at) k offset (bytes_in y.width) → new ≡ put_bytes (bytes_at x.slots) k place (bytes_of (bytes_in y.width) y.value) → done m x below w l (Go [] new w.memory) ≡ done m x below w l (simply m x w (StackStore v k offset))
stored m x below w l v k offset y place new ev ep es =
    ap (λ s. done m x below w l (Go [] s w.memory)) es
    ∙ (ap (λ o. done m x below w l (need o Stuck (λ o. Go [] (put_bytes (bytes_at x.slots) k o (bytes_of (bytes_in y.width) y.value)) w.memory))) ep
    ∙ ap (λ o. done m x below w l (need o Stuck (λ y. need (slot_place (function_at m x.at) k offset (bytes_in y.width)) Stuck (λ o. Go [] (put_bytes (bytes_at x.slots) k o (bytes_of (bytes_in y.width) y.value)) w.memory)))) ev)

-- ---- a byte written to memory

set-split : (m : List ℕ) (a b : ℕ) → a < length m → take a m ++ (b ∷ drop (a + 1) m) ≡ set m a b
set-split m a b h = ap (λ t. t ++ (b ∷ drop (a + 1) m)) (sym (take-set m a b)) ∙ (ap (λ t. take a (set m a b) ++ t) (sym (drop-set m a b h)) ∙ take-append-drop a (set m a b))

one_byte : (b : ℕ) → b < 256 → bytes_of 1 b ≡ b ∷ []
unfolding bytes_of
one_byte b h = ap (λ k. k ∷ []) (mod-eq_of_lt h)

pub wrote : {T E : Type 0} (r : Result T E) (m m' : List ℕ) (a b : ℕ) → OnOk r (Some m' ≡ memory_write m a (by_endian false (bytes_of 1 b))) → OnErr r (None ≡ memory_write m a (by_endian false (bytes_of 1 b))) → a < length m → b < 256 → m' ≡ set m a b
wrote (Ok u) m m' a b h k lt small =
    let le : a + 1 ≤ length m = omega arith in
    let e : Some m' ≡ Some (take a m ++ (bytes_of 1 b ++ drop (a + 1) m)) = h ∙ sym (write_in m a 1 (bytes_of 1 b) (bytes_length 1 b) le) in
    let e2 : m' ≡ take a m ++ (bytes_of 1 b ++ drop (a + 1) m) = cc e in
    e2 ∙ (ap (λ bs. take a m ++ (bs ++ drop (a + 1) m)) (one_byte b small) ∙ set-split m a b lt)
wrote (Err u) m m' a b h k lt small =
    let le : a + 1 ≤ length m = omega arith in
    let e : None ≡ Some (take a m ++ (bytes_of 1 b ++ drop (a + 1) m)) = k ∙ sym (write_in m a 1 (bytes_of 1 b) (bytes_length 1 b) le) in
    absurd (cc e)

-- the writes from a place on lie in the memory, and one is made
pub inside_next : (ws : List (ℕ × ℕ)) (i n : ℕ) (d : ℕ × ℕ) → i < length ws → writes_fit (drop i ws) n ≡ true → (nat_lt (get_or ws i d).0 n ≡ true) × (writes_fit (drop (i + 1) ws) n ≡ true)
inside_next ws i n d h e =
    let f : writes_fit (get_or ws i d ∷ drop (suc i) ws) n ≡ true = ap (λ t. writes_fit t n) (sym (drop-cons ws i d h)) ∙ e in
    let p : (nat_lt (get_or ws i d).0 n ≡ true) × (writes_fit (drop (suc i) ws) n ≡ true) = and_parts (nat_lt (get_or ws i d).0 n) (writes_fit (drop (suc i) ws) n) f in
    (p.0, ap (λ k. writes_fit (drop k ws) n) (add-one i) ∙ p.1)

written_cons : (a : ℕ × ℕ) (as' : List (ℕ × ℕ)) (m : List ℕ) → written (a ∷ as') m ≡ written as' (set m a.0 a.1)
unfolding written
written_cons a as' m = refl

written_none : (m : List ℕ) → written [] m ≡ m
unfolding written
written_none m = refl

pub written_next : (ws : List (ℕ × ℕ)) (i : ℕ) (d : ℕ × ℕ) (m : List ℕ) → i < length ws → written (drop (i + 1) ws) (set m (get_or ws i d).0 (get_or ws i d).1) ≡ written (drop i ws) m
written_next ws i d m h = rw (drop-cons ws i d h, add-one i) (sym (written_cons (get_or ws i d) (drop (suc i) ws) m))

pub written_end : (ws : List (ℕ × ℕ)) (i : ℕ) (m : List ℕ) → i ≡ length ws → m ≡ written (drop i ws) m
written_end ws i m e = sym (rw (e, drop-length ws) (written_none m))

pub outside_at : (ws : List (ℕ × ℕ)) (i n : ℕ) (d : ℕ × ℕ) → i < length ws → nat_lt (get_or ws i d).0 n ≡ false → false ≡ writes_fit (drop i ws) n
outside_at ws i n d h e = sym (ap (λ t. writes_fit t n) (drop-cons ws i d h) ∙ ap (λ b. b && writes_fit (drop (suc i) ws) n) e)

pub inside_at : (ws : List (ℕ × ℕ)) (i n : ℕ) (d : ℕ × ℕ) → i < length ws → nat_lt (get_or ws i d).0 n ≡ true → writes_fit (drop (i + 1) ws) n ≡ writes_fit (drop i ws) n
inside_at ws i n d h e = ap (λ k. writes_fit (drop k ws) n) (add-one i) ∙ sym (ap (λ t. writes_fit t n) (drop-cons ws i d h) ∙ ap (λ b. b && writes_fit (drop (suc i) ws) n) e)

pub fit_end : (ws : List (ℕ × ℕ)) (i n : ℕ) → i ≡ length ws → true ≡ writes_fit (drop i ws) n
fit_end ws i n e = sym (ap (λ k. writes_fit (drop k ws) n) e ∙ ap (λ t. writes_fit t n) (drop-length ws))
