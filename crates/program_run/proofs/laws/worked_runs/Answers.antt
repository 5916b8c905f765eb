use Rattle.std.proofs.Common.{refl}
use Rattle.std.specs.Fmt.{digits}
use Rattle.clk_num.specs.Numbers.{signed, wrapped, fits}
use Rattle.clk_num.specs.Rows.{row}
use Rattle.clk_num.specs.Operations.{sdiv_trap, meaning, operation}
use Rattle.ir_semantics.specs.Values.{number_of, bytes_of, memory_write, address_at}
use Rattle.ir_semantics.specs.Step.{written}
use Rattle.program_run.proofs.laws.worked_runs.Goals as goal

pub returns : goal.returns
unfolding digits signed wrapped fits row sdiv_trap meaning operation number_of bytes_of memory_write address_at written
returns c =
    record {
      caught = refl;
      threw = refl;
      goes_on = refl;
      shown = refl;
      unwritten = refl;
      no_reply = refl;
      bad_reply = refl;
      stored = refl;
      outside = refl;
      trapped = refl;
      negative = refl;
    }
