-- The definitions, computed on examples.
use Rattle.std.proofs.Common.{refl}
use Rattle.clif_lex.specs.Lexing.{number_at, word_at, token_at, tokens_from}
use Rattle.clif_words.specs.Table.{all_words}
use Rattle.clif_words.specs.Words.{stems, refused_stems, is_refused, entity_number, is_lanes, numbered_meaning, word_meaning}
use Rattle.clk_num.specs.Numbers.{fits, wrapped}
use Rattle.script_text.specs.Lexed.{lexed}
use Rattle.script_text.specs.Symbols as symbols
use Rattle.script_text.specs.Examples.{WorkedScripts, RefusedScripts, WorkedLists}

pub worked_scripts : WorkedScripts
unfolding number_at word_at token_at tokens_from all_words stems refused_stems is_refused entity_number is_lanes numbered_meaning word_meaning fits wrapped lexed symbols.word symbols.number
worked_scripts = record {
  empty = refl;
  bare = refl;
  values = refl;
  throws = refl;
  payloads = refl;
  writes = refl;
}

pub refused_scripts : RefusedScripts
unfolding number_at word_at token_at tokens_from all_words stems refused_stems is_refused entity_number is_lanes numbered_meaning word_meaning fits wrapped lexed symbols.word symbols.number
refused_scripts = record {
  tag_missing = refl;
  reply_missing = refl;
  value_missing = refl;
  comment = refl;
  header = refl;
  no_token = refl;
  before_no_token = refl;
  wide_byte = refl;
  negative_address = refl;
  large_code = refl;
  large_tag = refl;
}

pub worked_lists : WorkedLists
unfolding number_at word_at token_at tokens_from all_words stems refused_stems is_refused entity_number is_lanes numbered_meaning word_meaning fits wrapped lexed symbols.word symbols.number
worked_lists = record {
  none = refl;
  some = refl;
  trailing_comma = refl;
  not_a_number = refl;
}
