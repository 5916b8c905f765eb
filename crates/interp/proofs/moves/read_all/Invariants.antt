use Rattle.std.proofs.Common.{◌≡◌, Some, drop}
use Rattle.clk_num.specs.Views.{data_of_all}
use Rattle.ir_semantics.specs.Values.{all_of, join}
use Rattle.interp.specs.State.{env_of}
use Rattle.interp.proofs.moves.read_all.Given as goal

abbrev pub invariant-names : goal.invariant-names
invariant-names l = join (Some (data_of_all l.out.items)) (all_of (env_of l.values) (drop l.name-index l.names)) ≡ all_of (env_of l.values) l.names
