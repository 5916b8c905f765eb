use Rattle.clif_check.proofs.HeadLaws as heads
use Rattle.clif_check.proofs.HeadLaws.{heads_differ}
use Rattle.clif_check.proofs.MeantLaws.{module_read}
use Rattle.clif_check.proofs.laws.accepted_by_heads.Goals as goal

pub returns : goal.returns
returns c = λ text raw m is meant few apart declared. record {
  reads = module_read text raw m is meant (heads_differ m apart) few;
  accepted = heads.accepted_by_heads m meant.own declared;
}
