use Rattle.std.proofs.Common.{◌≡◌, take}
use Rattle.clif_meaning.specs.Instructions.{flags_of}
use Rattle.clif_lines.proofs.targets.flags.Given as goal

abbrev pub invariant-loop-flag : goal.invariant-loop-flag
invariant-loop-flag l = l.flags ≡ flags_of (take l.flag-index l.written)
