-- The definitions, computed on examples.
use Rattle.std.proofs.Common.{refl}
use Rattle.std.specs.Fmt.{digits}
use Rattle.clif_lex.specs.Lexing.{number_at, word_at, token_at, tokens_from}
use Rattle.clif_words.specs.Lexemes.{lexemes}
use Rattle.clif_words.specs.Table.{all_words}
use Rattle.clif_words.specs.Words.{stems, refused_stems, is_refused, entity_number, is_lanes, numbered_meaning, word_meaning}
use Rattle.clk_num.specs.Numbers.{fits, wrapped}
use Rattle.script_text.specs.Lexed.{lexed}
use Rattle.script_text.specs.Symbols as symbols
use Rattle.test_directives.specs.Frame.{meaning_from}
use Rattle.test_directives.specs.Examples.{WorkedHeaders, WorkedComments, WorkedRuns, RefusedRuns}

pub worked_headers : WorkedHeaders
unfolding digits
worked_headers = record {
  other = refl;
  missing = refl;
  ignored = refl;
  inline = refl;
  zero_in_front = refl;
  too_large = refl;
}

pub worked_comments : WorkedComments
unfolding digits number_at word_at token_at tokens_from lexemes all_words stems refused_stems is_refused entity_number is_lanes numbered_meaning word_meaning fits wrapped lexed symbols.word symbols.number meaning_from
worked_comments = record {
  equal = refl;
  user = refl;
  trap = refl;
  returns = refl;
  unclosed = refl;
  one_sign = refl;
  act = refl;
  bare = refl;
  trace = refl;
  check = refl;
  empty = refl;
  dollar = refl;
  error = refl;
  script = refl;
}

pub worked_runs : WorkedRuns
unfolding digits number_at word_at token_at tokens_from lexemes all_words stems refused_stems is_refused entity_number is_lanes numbered_meaning word_meaning fits wrapped lexed symbols.word symbols.number meaning_from
worked_runs = record {
  equal = refl;
  returns = refl;
  listed = refl;
  throws = refl;
  blanks = refl;
}

pub refused_runs : RefusedRuns
unfolding digits number_at word_at token_at tokens_from lexemes all_words stems refused_stems is_refused entity_number is_lanes numbered_meaning word_meaning fits wrapped lexed symbols.word symbols.number meaning_from
refused_runs = record {
  empty = refl;
  unclosed = refl;
  unopened = refl;
  one_sign = refl;
  blank_in_sign = refl;
  no_expectation = refl;
  bracket = refl;
  behind_bracket = refl;
  two_numbers = refl;
  returned = refl;
  closed_twice = refl;
  opened_twice = refl;
  behind = refl;
  no_name = refl;
}
