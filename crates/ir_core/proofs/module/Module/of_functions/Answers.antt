use Rattle.std.proofs.Common.{List, [], ◌∷◌}
use Rattle.ir_core.specs.Lists.{Each}
use Rattle.ir_core.specs.Module.{Function}
use Rattle.ir_core.specs.Named.{function_in, functions_in}
use Rattle.ir_core.specs.Sound.{IsSound, IsWhole}
use Rattle.ir_core.specs.WellFormed.{WellFormed, DifferentNames}
use Rattle.ir_core.proofs.Apart.{each_mapped}
use Rattle.ir_core.proofs.Wholeness.{whole_of}
use Rattle.ir_core.proofs.module.Module.of_functions.Goals as goal

all_whole : (fs : List Function) → Each IsSound fs → Each IsWhole fs → Each WellFormed fs
all_whole [] sound whole = tt
all_whole (f ∷ fs) sound whole = (whole_of f sound.0 whole.0, all_whole fs sound.1 whole.1)

pub invariant_of-result : goal.invariant_of-result
invariant_of-result c =
    let is = c.in-Some.is in
    let listed = c.as_slice.ensures.value in
    let made = c.in_ok-names.ensures in
    let defined : Each IsWhole (functions_in c.args.funcs.items) = each_mapped IsWhole function_in c.args.funcs.items c.requires in
    let names : DifferentNames (functions_in c.args.funcs.items) = rw (is, listed) at made.names in
    let sound : Each IsSound (functions_in c.args.funcs.items) = rw (is, listed) at made.sound in
    record {
      defined = defined;
      functions = record { names = names; whole = all_whole (functions_in c.args.funcs.items) sound defined };
      index = rw (is, listed) at made.functions;
    }
