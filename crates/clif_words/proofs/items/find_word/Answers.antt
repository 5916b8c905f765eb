use Rattle.std.proofs.Common.{option_map, sym, ap, ◌∙◌, arith}
use Rattle.clif_words.specs.Seen.{seen_word}
use Rattle.clif_words.specs.Table.{all_words}
use Rattle.clif_words.proofs.Places.{short_word, two_rows, next_row, words_count}
use Rattle.clif_words.proofs.items.find_word.Goals as goal

pub match_word-requires : goal.match_word-requires
match_word-requires c = omega (arith, words_count)

pub overflow_add-number : goal.overflow_add-number
overflow_add-number c = omega (arith, words_count)

pub match_word-requires-in-None : goal.match_word-requires-in-None
match_word-requires-in-None c = omega (arith, words_count)

pub returns-then-word-lt2 : goal.returns-then-word-lt2
returns-then-word-lt2 c = sym (short_word c.args.word.now (omega arith))

pub returns-in-Some : goal.returns-in-Some
unfolding all_words
returns-in-Some c =
    sym (c.find_row-number.ensures.only
    ∙ two_rows all_words c.find_row-number.result c.args.word.now (seen_word c.in-Some.found) (sym c.match_word.ensures ∙ ap (option_map seen_word) c.in-Some.is))

pub returns-in-None : goal.returns-in-None
unfolding all_words
returns-in-None c =
    c.match_word-in-None.ensures
    ∙ sym (c.find_row-number.ensures.only
    ∙ next_row all_words c.find_row-number.result c.args.word.now (sym c.match_word.ensures ∙ ap (option_map seen_word) c.in-None.is))
