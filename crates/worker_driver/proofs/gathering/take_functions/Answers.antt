use Rattle.std.proofs.Common.{rules, ◌≡◌, ℕ, ◌<◌, List, [], ◌∷◌, ◌++◌, length, ap, ◌∙◌, sym, subst, arith, length-append}
use Rattle.std.specs.declared.sync.Arc.{Arc}
use Rattle.std.specs.declared.alloc.Global.{Global}
use Rattle.ir_core.specs.Edits.{Body}
use Rattle.ir_core.specs.Lists.{Each}
use Rattle.ir_core.specs.Sound.{IsSound}
use Rattle.inline_finish.specs.declared.bodies.Built.{Built}
use Rattle.worker_driver.specs.Gathered.{inlined_in}
use Rattle.worker_driver.proofs.Gathered.{map_with, of_funcs, functions_with, sound_with, sum_with}
use Rattle.worker_driver.proofs.gathering.take_functions.Goals as goal

pub loop-built-preserved : goal.loop-built-preserved
loop-built-preserved c = let inv = c.loop-built.invariant in
    let before : List (Arc Built Global) = c.loop-built.yielded in let a : Arc Built Global = c.in-Some.built in
    let n : ℕ = c.deref.result.now.inlined in let func : Body = c.in_ok-func.func in
    let here : n ≡ inlined_in a = ap (λ (b : Built). b.inlined) c.deref.ensures in
    let fits : n < 18446744073709551616 = search rules in
    let listed = c.in_ok-push-2.ensures.items ∙ ap (λ (g : Body). c.loop-built.funcs.items ++ (g ∷ [])) c.in_ok-boxed.ensures in
    let longer = ap length c.in_ok-push.ensures.items ∙ length-append c.loop-built.inlined_by_function.items (n ∷ []) in record {
      functions = ap of_funcs listed ∙ functions_with c.loop-built.funcs.items func before a inv.functions c.in_ok-func.ensures.same;
      sound = subst (λ (funcs : List Body). Each IsSound (of_funcs funcs)) (sym listed) (sound_with c.loop-built.funcs.items func inv.sound c.in_ok-func.ensures.sound);
      inlined = let so = inv.inlined in let more = sum_with before a in omega arith;
      by_function = c.in_ok-push.ensures.items ∙ map_with inlined_in before a c.loop-built.inlined_by_function.items n inv.by_function here;
      bound = let so = inv.bound in omega arith;
    }
