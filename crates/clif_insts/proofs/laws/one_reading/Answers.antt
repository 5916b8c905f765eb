use Rattle.std.proofs.Common.{List, refl}
use Rattle.grammar.specs.Rules.{Lexeme, Answers, read_all}
use Rattle.grammar.proofs.Exact.{exact}
use Rattle.clif_insts.specs.declared.opening.Opening.{Opening}
use Rattle.clif_insts.specs.declared.opening.Opening.TheVariants as openings
use Rattle.clif_insts.specs.Grammar.{excepted, inst}
use Rattle.clif_insts.proofs.laws.one_reading.Goals as goal

pub returns : goal.returns
returns c = by_opening
  where
    by_opening : (opening : Opening) (tokens : List Lexeme) → Answers (inst (excepted opening)) tokens (read_all (inst (excepted opening)) tokens)
    by_opening openings.AfterResults = exact (inst (excepted openings.AfterResults)) refl
    by_opening openings.AfterTags = exact (inst (excepted openings.AfterTags)) refl
    by_opening openings.LineStart = exact (inst (excepted openings.LineStart)) refl
