use Rattle.clif_names.proofs.ListedLaws.{all_listed, listed_first, listed_none, chains_number}
use Rattle.clif_names.proofs.laws.faults_counted_out.Goals as goal

pub returns-clause-listed : goal.returns-clause-listed
returns-clause-listed c = all_listed

pub returns-clause-first : goal.returns-clause-first
returns-clause-first c = listed_first

pub returns-clause-none : goal.returns-clause-none
returns-clause-none c = listed_none

pub returns-clause-chains : goal.returns-clause-chains
returns-clause-chains c = chains_number
