use Rattle.clif_insts.proofs.Formed.{inst_formed}
use Rattle.clif_insts.proofs.InstMarks.{inst_marked}
use Rattle.clif_insts.proofs.Marked.{marks_formed}
use Rattle.clif_insts.proofs.laws.derived_insts_are_formed.Goals as goal

pub returns : goal.returns
returns c = λ excepted len tokens v known d.
    ((inst_formed excepted).formed len tokens v known.each d, marks_formed ((inst_marked excepted).among tokens v d) len known)
