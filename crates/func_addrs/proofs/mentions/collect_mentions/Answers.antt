use Rattle.std.proofs.Common.{◌≡◌, ◌∙◌, ◌++◌, ◌∷◌, [], ap, map}
use Rattle.ir_core.specs.declared.declarations.Callee.{Callee}
use Rattle.ir_core.specs.declared.names.FuncName.{FuncName}
use Rattle.func_addrs.specs.Mentions.{names_of}
use Rattle.func_addrs.proofs.Mentioning.{names_push, mentioned_next}
use Rattle.func_addrs.proofs.mentions.collect_mentions.Goals as goal

pub funcs-preserved : goal.funcs-preserved
funcs-preserved c =
    let f = c.func-func.result.now.function in
    let pushed : names_of c.push.new.self.items ≡ names_of c.funcs.mentions.items ++ f.name ∷ [] = ap names_of c.in_ok-push.ensures.items ∙ (names_push c.funcs.mentions.items (record { name = c.name.result }) ∙ ap (λ (n : FuncName). names_of c.funcs.mentions.items ++ n ∷ []) c.name.ensures.value) in
    mentioned_next c.args.module.now c.funcs.i f (names_of c.funcs.mentions.items) (names_of c.push_callees.new.mentions.items) c.func-func.ensures.at
    (c.in_ok-push_callees.ensures ∙ (ap (λ ns. ns ++ map (λ (k : Callee). k.name) c.callees.result.now) pushed ∙ ap (λ cs. (names_of c.funcs.mentions.items ++ f.name ∷ []) ++ map (λ (k : Callee). k.name) cs) c.callees.ensures))
    ∙ c.funcs.invariant
