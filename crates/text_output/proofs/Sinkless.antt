-- The start of an output without a sink.
use Rattle.std.proofs.Common.{None}
use Rattle.text_output.specs.Output.{Start}

abbrev pub no_sink : Start
no_sink = record { name = 0; written = None; faults = 0 }
