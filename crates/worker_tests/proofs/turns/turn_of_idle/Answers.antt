use Rattle.worker_driver.proofs.Views.{idle_done}
use Rattle.worker_tests.proofs.turns.turn_of_idle.Goals as goal

pub turn-turn-requires-clause-done : goal.turn-turn-requires-clause-done
turn-turn-requires-clause-done g c _ _ = idle_done c.args.«module».now c.args.board.now c.args.seat c.new-ahead.result.items c.new-ahead.ensures.items c.requires.board.1
