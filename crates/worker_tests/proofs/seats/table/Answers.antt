use Rattle.std.proofs.lemmas.Result.{IfOk-weaker}
use Rattle.worker_driver.proofs.Closing.{board_for, all_idle}
use Rattle.worker_tests.proofs.seats.table.Goals as goal

pub returns : goal.returns
returns c = IfOk-weaker c.new.result _ _ (λ made is.
    (board_for c.args.«module».now c.args.policy c.args.seats made.0 made.1.items is, all_idle c.args.«module».now c.args.policy c.args.seats made.0 made.1.items is)) c.new.ensures
