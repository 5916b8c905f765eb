use Rattle.std.proofs.Common.{◌<◌, ◌+◌, arith}
use Rattle.clif_words.proofs.Places.{look_up-placed, number_at, number_at-below, sum_of, words_count}
use Rattle.clif_words.proofs.items.find_row.Goals as goal

pub returns-clause-within : goal.returns-clause-within
returns-clause-within c =
    let below = number_at-below (sum_of c.args.word.now) in
    rw words_count (let more : number_at (sum_of c.args.word.now) + 1 < 203 = omega (arith, below) in more)

pub returns-clause-only : goal.returns-clause-only
returns-clause-only c = look_up-placed c.args.word.now
