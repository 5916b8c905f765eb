use Rattle.std.proofs.Common.{subst, Option, List, ℕ, Bor}
use Rattle.std.proofs.lemmas.Bool.Decides.{Decides-eqb}
use Rattle.std.proofs.lemmas.Slice.Eq.{strip_prefix_is}
use Rattle.program_run.proofs.Comparing.{Left, left_more}
use Rattle.program_run.proofs.entries.ComparisonOutput.put.Goals as goal

pub returns-in-Some : goal.returns-in-Some
returns-in-Some c =
    let rest = c.in-Some.rest.now in
    let bytes = c.args.bytes.now in
    record {
      puts = λ start taken h.
          left_more start.written taken bytes rest c.strip_prefix-self.result
          (subst (λ (o : Option (Bor (List ℕ))). Left start.written taken o) c.in-Some.is h)
          (strip_prefix_is Decides-eqb rest bytes c.strip_prefix-self.result c.strip_prefix-self.ensures.cases);
    }
