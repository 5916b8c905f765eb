use Rattle.std.proofs.Common.{◌≡◌, Some, ap, subst, ◌∙◌, sym}
use Rattle.std.proofs.lemmas.Option.{same_Some}
use Rattle.sig_numbers.specs.declared.index.Numbered.{Numbered}
use Rattle.sig_numbers.specs.Index.{number_of, number_at}
use Rattle.sig_numbers.proofs.index.SigIndex.number.Goals as goal

pub returns-clause-index : goal.returns-clause-index
returns-clause-index c = record {
  below = c.in_ok-number.ensures.index.below;
  apart = c.in_ok-number.ensures.index.apart;
  last = λ l e.
      subst (λ (z : Numbered). number_of c.number_key.new.self z.sig.now ≡ Some z.number)
      (same_Some (record { sig = c.args.sig; number = c.in_ok-number.number }) l e)
      (ap (number_at c.number_key.new.self) (sym c.in_ok-key.ensures) ∙ c.in_ok-number.ensures.number);
}
