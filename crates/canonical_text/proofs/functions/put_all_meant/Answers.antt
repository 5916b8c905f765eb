use Rattle.std.proofs.Common.{◌≡◌, ◌+◌, [], ◌∷◌, ◌++◌, length, take, refl, rules}
use Rattle.std.proofs.lemmas.List.{take_more}
use Rattle.std.proofs.lemmas.Option.{slice_get_read}
use Rattle.ir_core.proofs.Gets.{each_at}
use Rattle.canonical_text.proofs.PrintedLaws.{puts_none, puts_join}
use Rattle.canonical_text.proofs.functions.put_all_meant.Goals as goal

pub loop-raw-init : goal.loop-raw-init
loop-raw-init g c = rw c.new-heads.ensures.items puts_none

pub put_meant-requires : goal.put_meant-requires
put_meant-requires g c =
    let raws = c.args.raws.now in
    each_at _ raws c.loop-raw.raw-index c.raw-item.result c.requires
    (slice_get_read raws (length raws) c.loop-raw.raw-index c.raw-item.result refl c.loop-raw-test.true c.raw-item.is)

pub loop-raw-preserved : goal.loop-raw-preserved
loop-raw-preserved g c =
    let raws = c.args.raws.now in
    let i = c.loop-raw.raw-index in
    let raw = c.raw-item.result in
    let head = c.in_ok-head.head in
    let next : take (i + 1) raws ≡ take i raws ++ raw ∷ [] = rw (take_more raws i raw c.loop-raw-test.true, ← c.raw-item.is) refl in
    let pushed : c.push.new.self.items ≡ c.loop-raw.heads.items ++ head ∷ [] = search rules in
    rw (pushed, next) (puts_join (take i raws) (raw ∷ []) c.loop-raw.heads.items (head ∷ []) c.loop-raw.invariant c.in_ok-head.ensures)
