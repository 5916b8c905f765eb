use Rattle.std.proofs.Common.{◌≡◌, ◌+◌, [], ◌∷◌, ◌++◌, length, take, refl, rules}
use Rattle.std.proofs.lemmas.List.{take_more}
use Rattle.std.proofs.lemmas.Option.{slice_get_read}
use Rattle.ir_core.proofs.Gets.{each_at}
use Rattle.clif_check.proofs.MeantLaws.{kept_none, kept_join}
use Rattle.clif_check.proofs.stretches.keep_functions.Goals as goal

pub loop-raw-init : goal.loop-raw-init
loop-raw-init c = rw c.new-functions.ensures.items (kept_none c.args.part)

pub keep_function-requires : goal.keep_function-requires
keep_function-requires c =
    let raws = c.args.raws.now in
    each_at _ raws c.loop-raw.raw-index c.raw-item.result c.requires
    (slice_get_read raws (length raws) c.loop-raw.raw-index c.raw-item.result refl c.loop-raw-test.true c.raw-item.is)

pub loop-raw-preserved : goal.loop-raw-preserved
loop-raw-preserved c =
    let raws = c.args.raws.now in
    let i = c.loop-raw.raw-index in
    let raw = c.raw-item.result in
    let func = c.in_ok-func.func in
    let next : take (i + 1) raws ≡ take i raws ++ raw ∷ [] = rw (take_more raws i raw c.loop-raw-test.true, ← c.raw-item.is) refl in
    let pushed : c.push.new.self.items ≡ c.loop-raw.functions.items ++ func ∷ [] = search rules in
    rw (pushed, next) (kept_join c.args.part (take i raws) (raw ∷ []) c.loop-raw.functions.items (func ∷ []) c.loop-raw.invariant c.in_ok-func.ensures)
