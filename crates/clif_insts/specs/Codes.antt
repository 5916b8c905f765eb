-- Conditions and trap codes by their places.
use Rattle.std.specs.Prelude.{ℕ, ◌==◌, if◌then◌else◌}
use Rattle.clk_num.specs.declared.op.Cc.{Cc}
use Rattle.clk_num.specs.declared.op.Cc.TheVariants as cc
use Rattle.clif_insts.specs.declared.raw.RawTrap.{RawTrap}
use Rattle.clif_insts.specs.declared.raw.RawTrap.TheVariants as traps

abbrev pub condition_of : ℕ → Cc
condition_of n =
    if n == 0 then cc.Eq else if n == 1 then cc.Ne else if n == 2 then cc.Slt else if n == 3 then cc.Sge else if n == 4
    then cc.Sgt else
    if n == 5 then cc.Sle else if n == 6 then cc.Ult else if n == 7 then cc.Uge else if n == 8 then cc.Ugt else cc.Ule

abbrev pub trap_of : ℕ → RawTrap
trap_of n =
    if n == 0 then traps.StkOvf else if n == 1 then traps.IntOvf else if n == 2 then traps.HeapOob else if n == 3
    then traps.IntDivz else traps.BadToint
