-- The results of an operation are of the types of its row.
use Rattle.std.proofs.Common.{ℕ, Bool, true, false, cond, refl, List, [], ◌∷◌, Option, Some, None}
use Rattle.clk_num.specs.declared.op.Op.{Op}
use Rattle.clk_num.specs.declared.op.Op.TheVariants.{Iadd, Isub, Imul, Band, Bor, Bxor, Smin, Smax, Umin, Umax, Umulhi, Smulhi, Udiv, Urem, Sdiv, Srem, Ineg, Bnot, Iabs, Clz, Ctz, Popcnt, Bitrev, Bswap, Ishl, Ushr, Sshr, Rotl, Rotr, Icmp, Select, Uextend, Sextend, Ireduce, UaddOverflow, SaddOverflow, UsubOverflow, SsubOverflow, Iconcat, Isplit}
use Rattle.clk_num.specs.declared.op.TrapCode.{TrapCode}
use Rattle.clk_num.specs.declared.width.Width.{Width}
use Rattle.clk_num.specs.declared.width.Width.TheVariants.{W8}
use Rattle.clk_num.specs.Width.{bits_of, same, narrower, double, half}
use Rattle.clk_num.specs.Rows.{row, of_one, of_two, of_shift, of_select, any, up_to_64, from_16, one, with_flag}
use Rattle.clk_num.specs.Operations.{DataValue, Evaluation, Values, Traps, NoRow, value_of, widths, within, unary, binary, division, trap_or, comparison, overflowing, select, conversion, concatenation, halves, meaning, operation, holds, iadd, isub, imul, band, bor, bxor, smin, smax, umin, umax, umulhi, smulhi, udiv, urem, sdiv, srem, ineg, bnot, iabs, clz, ctz, popcnt, bitrev, bswap, ishl, ushr, sshr, rotl, rotr, divides_by_zero, sdiv_trap, sextend, ireduce, uadd_overflows, sadd_overflows, usub_overflows, ssub_overflows}
use Rattle.clk_num.specs.Results.{IsOfRow, KeepsRow}

-- an evaluation is of a row whose types are tested
tested : (b : Bool) (ts : List Width) (e : Evaluation) → IsOfRow (Some ts) e → IsOfRow (cond b (Some ts) None) (within (cond b (Some ts) None) e)
tested true ts (Values ys) h = h
tested true ts (Traps code) h = h
tested true ts NoRow h = h
tested false ts e h = refl

tested_both : (a b : Bool) (ts : List Width) (e : Evaluation) → IsOfRow (Some ts) e
    → IsOfRow (cond a (cond b (Some ts) None) None) (within (cond a (cond b (Some ts) None) None) e)
tested_both true b ts e h = tested b ts e h
tested_both false b ts e h = refl

of_unary : (has : Width → Bool) (f : ℕ → ℕ → ℕ) (xs : List DataValue) → IsOfRow (of_one has one (widths xs)) (within (of_one has one (widths xs)) (unary f xs))
of_unary has f [] = refl
of_unary has f (x ∷ []) = tested (has x.width) _ _ refl
of_unary has f (x ∷ y ∷ xs) = refl

of_binary : (has : Width → Bool) (f : ℕ → ℕ → ℕ → ℕ) (xs : List DataValue)
    → IsOfRow (of_two has one (widths xs)) (within (of_two has one (widths xs)) (binary f xs))
of_binary has f [] = refl
of_binary has f (x ∷ []) = refl
of_binary has f (x ∷ y ∷ []) = tested_both (same x.width y.width) (has x.width) _ _ refl
of_binary has f (x ∷ y ∷ z ∷ xs) = refl

of_shifted : (f : ℕ → ℕ → ℕ → ℕ) (xs : List DataValue) → IsOfRow (of_shift (widths xs)) (within (of_shift (widths xs)) (binary f xs))
of_shifted f [] = refl
of_shifted f (x ∷ []) = refl
of_shifted f (x ∷ y ∷ []) = refl
of_shifted f (x ∷ y ∷ z ∷ xs) = refl

of_division : (trap : ℕ → ℕ → ℕ → Option TrapCode) (f : ℕ → ℕ → ℕ → ℕ) (xs : List DataValue)
    → IsOfRow (of_two up_to_64 one (widths xs)) (within (of_two up_to_64 one (widths xs)) (division trap f xs))
of_division trap f [] = refl
of_division trap f (x ∷ []) = refl
of_division trap f (x ∷ y ∷ []) = tested_both (same x.width y.width) (up_to_64 x.width) _ _ (go (trap (bits_of x.width) x.value y.value))
  where
    go : (o : Option TrapCode) → IsOfRow (Some (x.width ∷ [])) (trap_or o (Values (value_of x.width (f (bits_of x.width) x.value y.value) ∷ [])))
    go None = refl
    go (Some code) = tt
of_division trap f (x ∷ y ∷ z ∷ xs) = refl

of_comparison : (test : ℕ → ℕ → ℕ → Bool) (xs : List DataValue)
    → IsOfRow (of_two any (λ t. W8 ∷ []) (widths xs)) (within (of_two any (λ t. W8 ∷ []) (widths xs)) (comparison test xs))
of_comparison test [] = refl
of_comparison test (x ∷ []) = refl
of_comparison test (x ∷ y ∷ []) = tested (same x.width y.width) _ _ refl
of_comparison test (x ∷ y ∷ z ∷ xs) = refl

of_overflowing : (f : ℕ → ℕ → ℕ → ℕ) (test : ℕ → ℕ → ℕ → Bool) (xs : List DataValue)
    → IsOfRow (of_two any with_flag (widths xs)) (within (of_two any with_flag (widths xs)) (overflowing f test xs))
of_overflowing f test [] = refl
of_overflowing f test (x ∷ []) = refl
of_overflowing f test (x ∷ y ∷ []) = tested (same x.width y.width) _ _ refl
of_overflowing f test (x ∷ y ∷ z ∷ xs) = refl

of_selection : (xs : List DataValue) → IsOfRow (of_select (widths xs)) (within (of_select (widths xs)) (select xs))
of_selection [] = refl
of_selection (c ∷ []) = refl
of_selection (c ∷ x ∷ []) = refl
of_selection (c ∷ x ∷ y ∷ []) = tested (same x.width y.width) _ _ refl
of_selection (c ∷ x ∷ y ∷ z ∷ xs) = refl

of_conversion : (has : Width → Bool) (target : Width) (f : ℕ → ℕ → ℕ) (xs : List DataValue)
    → IsOfRow (of_one has (λ t. target ∷ []) (widths xs)) (within (of_one has (λ t. target ∷ []) (widths xs)) (conversion target f xs))
of_conversion has target f [] = refl
of_conversion has target f (x ∷ []) = tested (has x.width) _ _ refl
of_conversion has target f (x ∷ y ∷ xs) = refl

of_concatenation : (xs : List DataValue)
    → IsOfRow (of_two up_to_64 (λ t. double t ∷ []) (widths xs)) (within (of_two up_to_64 (λ t. double t ∷ []) (widths xs)) (concatenation xs))
of_concatenation [] = refl
of_concatenation (x ∷ []) = refl
of_concatenation (x ∷ y ∷ []) = tested_both (same x.width y.width) (up_to_64 x.width) _ _ refl
of_concatenation (x ∷ y ∷ z ∷ xs) = refl

of_halves : (xs : List DataValue)
    → IsOfRow (of_one from_16 (λ t. half t ∷ half t ∷ []) (widths xs)) (within (of_one from_16 (λ t. half t ∷ half t ∷ []) (widths xs)) (halves xs))
of_halves [] = refl
of_halves (x ∷ []) = tested (from_16 x.width) _ _ refl
of_halves (x ∷ y ∷ xs) = refl

pub keeps_row : (op : Op) (xs : List DataValue) → KeepsRow op xs
unfolding operation row meaning
keeps_row Iadd xs = of_binary any iadd xs
keeps_row Isub xs = of_binary any isub xs
keeps_row Imul xs = of_binary any imul xs
keeps_row Band xs = of_binary any band xs
keeps_row Bor xs = of_binary any bor xs
keeps_row Bxor xs = of_binary any bxor xs
keeps_row Smin xs = of_binary any smin xs
keeps_row Smax xs = of_binary any smax xs
keeps_row Umin xs = of_binary any umin xs
keeps_row Umax xs = of_binary any umax xs
keeps_row Umulhi xs = of_binary up_to_64 umulhi xs
keeps_row Smulhi xs = of_binary up_to_64 smulhi xs
keeps_row Udiv xs = of_division divides_by_zero udiv xs
keeps_row Urem xs = of_division divides_by_zero urem xs
keeps_row Sdiv xs = of_division sdiv_trap sdiv xs
keeps_row Srem xs = of_division divides_by_zero srem xs
keeps_row Ineg xs = of_unary any ineg xs
keeps_row Bnot xs = of_unary any bnot xs
keeps_row Iabs xs = of_unary any iabs xs
keeps_row Clz xs = of_unary any clz xs
keeps_row Ctz xs = of_unary any ctz xs
keeps_row Popcnt xs = of_unary any popcnt xs
keeps_row Bitrev xs = of_unary any bitrev xs
keeps_row Bswap xs = of_unary from_16 bswap xs
keeps_row Ishl xs = of_shifted ishl xs
keeps_row Ushr xs = of_shifted ushr xs
keeps_row Sshr xs = of_shifted sshr xs
keeps_row Rotl xs = of_shifted rotl xs
keeps_row Rotr xs = of_shifted rotr xs
keeps_row (Icmp condition) xs = of_comparison (holds condition) xs
keeps_row Select xs = of_selection xs
keeps_row (Uextend target) xs = of_conversion (λ t. narrower t target) target (λ w x. x) xs
keeps_row (Sextend target) xs = of_conversion (λ t. narrower t target) target (sextend (bits_of target)) xs
keeps_row (Ireduce target) xs = of_conversion (λ t. narrower target t) target (λ w x. ireduce (bits_of target) x) xs
keeps_row UaddOverflow xs = of_overflowing iadd uadd_overflows xs
keeps_row SaddOverflow xs = of_overflowing iadd sadd_overflows xs
keeps_row UsubOverflow xs = of_overflowing isub usub_overflows xs
keeps_row SsubOverflow xs = of_overflowing isub ssub_overflows xs
keeps_row Iconcat xs = of_concatenation xs
keeps_row Isplit xs = of_halves xs
