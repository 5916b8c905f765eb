use Rattle.std.proofs.Common.{subst}
use Rattle.filetest.specs.Taking.{IsPlaceWith}
use Rattle.filetest.specs.Views.{seen_lines}
use Rattle.filetest.proofs.LineChecking.{other_takes}
use Rattle.filetest.proofs.line_checks.taken_place.Goals as goal

pub returns-in_default : goal.returns-in_default
returns-in_default c = other_takes c.args.test.now.check c.args.test.now.text (seen_lines c.args.left.now) c.place_with.result c.in_default.not-Nextln c.requires (subst (λ t. IsPlaceWith t (seen_lines c.args.left.now) c.place_with.result) c.as_slice-text.ensures c.place_with.ensures)
