use Rattle.std.proofs.Common.{refl}
use Rattle.clif_words.proofs.Tags.{tag-code}
use Rattle.clif_insts.proofs.opening.is.Goals as goal

pub returns : goal.returns
returns c = rw (tag-code, tag-code) refl
