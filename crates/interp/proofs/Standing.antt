-- What stands at a number, after more room and after a write.
use Rattle.std.proofs.Common.{◌≡◌, ℕ, zero, suc, ◌<◌, List, [], ◌∷◌, ◌++◌, length, Option, Some, slice_get, set, refl, arith, if◌then◌else◌, nat_eq, ap, sym, ◌∙◌, Bool, true, false}
use Rattle.std.proofs.Math.Dec.{eqb-suc-zero, eqb-zero-suc, eqb-suc-suc}
use Rattle.std.proofs.Math.Path.{fun_ext}
use Rattle.std.specs.Option.{option_map}
use Rattle.clk_num.specs.declared.bits.Bits.{Bits}
use Rattle.clk_num.specs.Views.{data_of}
use Rattle.byte_store.specs.Cells.{cell_of, put_cell}
use Rattle.ir_semantics.specs.Values.{Env, put}
use Rattle.interp.specs.declared.held.Held.TheVariants.{Nothing, Narrow, Wide}
use Rattle.interp.specs.declared.held.Register.{Register}
use Rattle.interp.specs.State.{value_held, held_value}

no_more : (xs : List Register) (r : Register) (w : ℕ → Option Bits) → r.held ≡ Nothing → (v : ℕ) → held_value (slice_get (xs ++ r ∷ []) v) (w v) ≡ held_value (slice_get xs v) (w v)
no_more [] r w h zero = ap (λ k. value_held k (record { width = r.width; value = r.value }) (w zero)) h
no_more [] r w h (suc v) = refl
no_more (x ∷ xs) r w h zero = refl
no_more (x ∷ xs) r w h (suc v) = no_more xs r (λ i. w (suc i)) h v

-- the values of narrow ones and wide ones
abbrev pub held_in : List Register → List (Option Bits) → Env
held_in xs wide v = held_value (slice_get xs v) (cell_of wide v)

pub more_room : (xs : List Register) (r : Register) (wide : List (Option Bits)) → r.held ≡ Nothing → held_in (xs ++ r ∷ []) wide ≡ held_in xs wide
more_room xs r wide h = fun_ext (λ v. no_more xs r (cell_of wide) h v)

set_at : (xs : List Register) (i : ℕ) (r : Register) (w : Option Bits) → i < length xs → (v : ℕ) → held_value (slice_get (set xs i r) v) w ≡ (if nat_eq v i then held_value (Some r) w else held_value (slice_get xs v) w)
set_at [] i r w h v = absurd (omega arith)
set_at (y ∷ ys) zero r w h zero = refl
set_at (y ∷ ys) zero r w h (suc v) = ap (λ c. if c then held_value (Some r) w else held_value (slice_get ys v) w) (sym (eqb-suc-zero v))
set_at (y ∷ ys) (suc i) r w h zero = ap (λ c. if c then held_value (Some r) w else held_value (Some y) w) (sym (eqb-zero-suc i))
set_at (y ∷ ys) (suc i) r w h (suc v) = set_at ys i r w (omega arith) v ∙ ap (λ c. if c then held_value (Some r) w else held_value (slice_get ys v) w) (sym (eqb-suc-suc v i))

pub set_narrow : (xs : List Register) (i : ℕ) (r : Register) (wide : List (Option Bits)) → i < length xs → r.held ≡ Narrow → held_in (set xs i r) wide ≡ put (held_in xs wide) i (record { width = r.width; value = r.value })
set_narrow xs i r wide h n = fun_ext (λ v. set_at xs i r (cell_of wide v) h v ∙ ap (λ k. if nat_eq v i then value_held k (record { width = r.width; value = r.value }) (cell_of wide v) else held_value (slice_get xs v) (cell_of wide v)) n)

by_case : (c : Bool) (b : Bits) (o : Option Register) (u : Option Bits) → (if c then option_map data_of (if c then Some b else u) else held_value o (if c then Some b else u)) ≡ (if c then Some (data_of b) else held_value o u)
by_case true b o u = refl
by_case false b o u = refl

pub set_wide : (xs : List Register) (i : ℕ) (r : Register) (b : Bits) (wide wide' : List (Option Bits)) → i < length xs → r.held ≡ Wide → cell_of wide' ≡ put_cell (cell_of wide) i b → held_in (set xs i r) wide' ≡ put (held_in xs wide) i (data_of b)
set_wide xs i r b wide wide' h n e =
    fun_ext (λ v. set_at xs i r (cell_of wide' v) h v
    ∙ (ap (λ k. if nat_eq v i then value_held k (record { width = r.width; value = r.value }) (cell_of wide' v) else held_value (slice_get xs v) (cell_of wide' v)) n
    ∙ (ap (λ (f : ℕ → Option Bits). if nat_eq v i then option_map data_of (f v) else held_value (slice_get xs v) (f v)) e
    ∙ by_case (nat_eq v i) b (slice_get xs v) (cell_of wide v))))
