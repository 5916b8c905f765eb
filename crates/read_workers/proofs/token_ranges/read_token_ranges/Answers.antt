use Rattle.std.proofs.Common.{[], sym, subst}
use Rattle.std.proofs.lemmas.Option.{IfSome_then}
use Rattle.clif_words.specs.Lexemes.{lexemes}
use Rattle.clif_read.specs.Texts.{IsModule}
use Rattle.read_workers.proofs.RangeLaws.{whole_token_range, empty_token_range, none_listed, whole_list}
use Rattle.read_workers.proofs.token_ranges.read_token_ranges.Goals as goal

pub find_next_function-first-requires : goal.find_next_function-first-requires
find_next_function-first-requires g c = whole_token_range c.args.text.now c.args.tokens.now c.len-end.result c.requires.whole c.len-end.ensures

pub returns : goal.returns
returns g c =
    let text = c.args.text.now in
    let tokens = c.args.tokens.now in
    let first = c.find_next_function-first.result in
    let size = c.len-end.result in
    let rest = c.in_ok-rest.ensures first [] (empty_token_range text tokens first size c.find_next_function-first.ensures.behind, none_listed text tokens first) in
    IfSome_then c.add_functions.result c.add_functions.ensures
    (λ found e. subst (IsModule (lexemes text tokens)) (sym e)
    (whole_list text tokens first size c.in_ok-front.front c.in_ok-rest.rest.items c.len-end.ensures c.find_next_function-first.ensures.behind.ordered c.in_ok-front.ensures rest.1))
