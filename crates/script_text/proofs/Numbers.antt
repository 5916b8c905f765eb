-- A number from 0 to 255 is kept in a byte.
use Rattle.std.proofs.Common.{◌≡◌, ◌<◌, ◌≤◌, ◌%◌, ◌^◌, Bool, true, false, cond, ℤ, pos, negsuc, refl, arith}
use Rattle.std.proofs.Math.Nat.{mod-eq_of_lt}
use Rattle.std.proofs.lemmas.Bool.{leb-true}
use Rattle.std.specs.Int.RustNames.{int_lt, int_le}
use Rattle.clk_num.specs.Numbers.{wrapped}
use Rattle.script_text.specs.declared.terminal.Terminal.{Terminal}
use Rattle.script_text.specs.declared.terminal.Terminal.TheVariants.{Negative, Byte, Large}
use Rattle.script_text.specs.Symbols.{number_terminal}

pub byte_small : (z : ℤ) → number_terminal z ≡ Byte → wrapped 64 z < 2 ^ 8
unfolding wrapped
byte_small (pos n) e = go (int_lt (pos n) (pos 0)) (int_le (pos n) (pos 255)) refl e
  where
    small : n ≤ 255 → n % 2 ^ 64 < 2 ^ 8
    small le = let m : n % 2 ^ 64 ≡ n = mod-eq_of_lt (omega arith) in omega arith

    go : (a b : Bool) → int_le (pos n) (pos 255) ≡ b → cond {A = Terminal} a Negative (cond b Byte Large) ≡ Byte → n % 2 ^ 64 < 2 ^ 8
    go true b h e = absurd cc
    go false true h e = small (leb-true n 255 h)
    go false false h e = absurd cc
byte_small (negsuc n) e = absurd cc
