use Rattle.std.proofs.Common.{◌∙◌, ap, map, option_map}
use Rattle.clif_lex.specs.Places.{line_at}
use Rattle.filetest.proofs.FaultLaws.{lines_from_spots}
use Rattle.filetest.proofs.verifying.fault_lines.Goals as goal

pub returns-clause-lines : goal.returns-clause-lines
returns-clause-lines c =
    lines_from_spots c.args.text.now c.args.raw.now c.in_ok-spots.spots.items _ c.in_ok-spots.ensures.spots
    (c.in_ok-lines_of_spots.ensures ∙ ap (map (option_map (line_at c.args.text.now))) c.as_slice.ensures.value)
