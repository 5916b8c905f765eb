use Rattle.grammar.proofs.Exact.{exact}
use Rattle.script_text.specs.Grammar as grammar
use Rattle.script_text.proofs.laws.one_reading.Goals as goal

pub returns : goal.returns
returns c = record {
  scripts = exact grammar.script grammar.script_is_good;
  lists = exact grammar.number_list grammar.number_list_is_good;
}
