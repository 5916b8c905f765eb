use Rattle.std.proofs.Common.{[], Some, refl}
use Rattle.program_run.specs.EntryName.{spelling}
use Rattle.program_run.proofs.Comparing.{differs, agrees}
use Rattle.program_run.proofs.entries.is_spelled.Goals as goal

pub returns-in-None : goal.returns-in-None
returns-in-None c =
    let text = c.args.text.now in
    differs text (spelling c.args.name.now) c.put_name.new.out.rest (c.put_name.ensures.puts (record { name = 0; written = Some text; faults = 0 }) [] refl) c.in-None.is

pub returns-in-Some : goal.returns-in-Some
returns-in-Some c =
    let text = c.args.text.now in
    agrees text (spelling c.args.name.now) c.put_name.new.out.rest c.in-Some.rest c.is_empty.result (c.put_name.ensures.puts (record { name = 0; written = Some text; faults = 0 }) [] refl) c.in-Some.is c.is_empty.ensures
