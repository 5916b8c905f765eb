use Rattle.std.proofs.Common.{List, map, ap, ap₂, ◌∙◌}
use Rattle.ir_core.specs.declared.signatures.Sig.{Sig}
use Rattle.sig_numbers.specs.Index.{number_of}
use Rattle.sig_numbers.specs.Tables.{return_alike}
use Rattle.sig_numbers.proofs.Tabled.{index_tells}
use Rattle.sig_numbers.proofs.tables.find_own_entries.Goals as goal

pub returns : goal.returns
returns c = record {
  number = number_of c.find_entries.new.index;
  tells = index_tells c.find_entries.new.index c.in_ok-entries.ensures.index;
  entries = record {
    numbers = c.in_ok-entries.ensures.numbers ∙ ap (map (number_of c.find_entries.new.index)) c.sigs-sigs.ensures;
    flags = c.in_ok-entries.ensures.flags ∙ ap₂ (λ (s : Sig) (z : List Sig). map (return_alike s) z) c.sig.ensures c.sigs-sigs.ensures;
  };
}
