use Rattle.std.proofs.Common.{rules, tests}
use Rattle.std.proofs.lemmas.Iterator.Consumers.{YieldsList-from_first}
use Rattle.std.proofs.lemmas.Iterator.Search.{all_from_yields_List}
use Rattle.clif_lex.specs.declared.spans.Token.{Token}
use Rattle.clif_lex.specs.Lexing.{is_preamble}
use Rattle.read_workers.proofs.text_ranges.may_go_on_with_headers.Goals as goal

pub returns : goal.returns
returns c =
    all_from_yields_List (λ (t : Token). is_preamble t.kind) _ _ _ c.all.ensures.ran (YieldsList-from_first (λ x. x) (λ left. left) c.args.tokens.now c.iter.ensures) (λ x b q k. search (rules, tests))
