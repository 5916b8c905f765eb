use Rattle.names_read_back.proofs.Numbers.{is_numbering, callees_read}
use Rattle.names_read_back.proofs.Declarations.{name_back, sig_back, slots_back, sigs_back}
use Rattle.names_read_back.proofs.laws.names_read_back.Goals as goal

pub returns-clause-numbering : goal.returns-clause-numbering
returns-clause-numbering c = λ f is. is_numbering f is

pub returns-clause-declarations : goal.returns-clause-declarations
returns-clause-declarations c = λ f. (name_back f.name, sig_back f.sig, slots_back f, sigs_back f)

pub returns-clause-callees : goal.returns-clause-callees
returns-clause-callees c = λ f is. callees_read f is
