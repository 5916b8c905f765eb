use Rattle.std.proofs.Common.{◌≡◌, Some, drop}
use Rattle.clk_num.specs.Views.{data_of_all}
use Rattle.ir_semantics.specs.Values.{all_of, join}
use Rattle.ir_semantics.specs.Effect.{arg_value}
use Rattle.interp.specs.State.{env_of}
use Rattle.interp.proofs.moves.read_args.Given as goal

abbrev pub invariant-args-2 : goal.invariant-args-2
invariant-args-2 l = join (Some (data_of_all l.out.items)) (all_of (arg_value (env_of l.values) (data_of_all l.results) (data_of_all l.payloads)) (drop l.arg-index l.args)) ≡ all_of (arg_value (env_of l.values) (data_of_all l.results) (data_of_all l.payloads)) l.args
