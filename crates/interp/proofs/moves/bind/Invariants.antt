use Rattle.std.proofs.Common.{◌≡◌, drop}
use Rattle.clk_num.specs.Views.{data_of_all}
use Rattle.ir_semantics.specs.Values.{bind}
use Rattle.interp.specs.State.{env_of}
use Rattle.interp.proofs.moves.bind.Given as goal

abbrev pub invariant-names : goal.invariant-names
invariant-names l = bind (drop l.i l.names) (data_of_all (drop l.i l.xs)) (env_of l.values) ≡ bind l.names (data_of_all l.xs) (env_of l.fn.values)
