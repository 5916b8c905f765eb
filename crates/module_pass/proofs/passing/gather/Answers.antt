use Rattle.std.proofs.Common.{ℕ, List, [], ◌∷◌, ◌++◌, Option, Some, sym, ap, ◌∙◌, subst, arith, rules}
use Rattle.std.proofs.lemmas.List.{length-set}
use Rattle.ir_core.proofs.Order.{get_set_other}
use Rattle.ir_semantics.specs.Canon.{SameUpToNumbering}
use Rattle.inline_finish.specs.declared.bodies.Built.{Built}
use Rattle.module_pass.proofs.Gathering.{body_in, inlined_with_it, by_function_with_it, whole_at, new_at, made_with_it}
use Rattle.module_pass.proofs.passing.gather.Goals as goal

pub unreachable-requires : goal.unreachable-requires
unreachable-requires c =
    let built = c.args.built.items in let places = c.loop-i.places.items in let i = c.loop-i.i in
    let a = c.requires.built.long in let n = c.len-i-end.ensures.count in let t = c.loop-i-test.true in
    let long = c.loop-i.invariant.long in
    let e = body_in places built i c.index_mut.result.now (omega arith) c.index_mut.ensures.value
    (c.loop-i.invariant.left i (omega arith)) in
    let none = sym c.replace.ensures.value ∙ c.in_default.is in
    let f = c.requires.all i (omega arith) in let some = f.1 in cc

pub push-requires-clause-whole : goal.push-requires-clause-whole
push-requires-clause-whole c =
    let m = c.args.«module».now in let built = c.args.built.items in let i = c.loop-i.i in let b = c.in-Some.built in
    let n = c.len-i-end.ensures.count in let t = c.loop-i-test.true in let long = c.loop-i.invariant.long in
    let e = body_in c.loop-i.places.items built i c.index_mut.result.now (omega arith) c.index_mut.ensures.value
    (c.loop-i.invariant.left i (omega arith)) in
    let at = e ∙ ap (λ (o : Option Built). Some o) (sym c.replace.ensures.value ∙ c.in-Some.is) in
    whole_at c.args.policy m built c.requires.built i b at c.func_of.result.function c.func_of.ensures.same
    c.func_of.ensures.sound

pub push-requires-clause-new : goal.push-requires-clause-new
push-requires-clause-new c =
    let m = c.args.«module».now in let built = c.args.built.items in let i = c.loop-i.i in let b = c.in-Some.built in
    let n = c.len-i-end.ensures.count in let t = c.loop-i-test.true in let long = c.loop-i.invariant.long in
    let e = body_in c.loop-i.places.items built i c.index_mut.result.now (omega arith) c.index_mut.ensures.value
    (c.loop-i.invariant.left i (omega arith)) in
    let at = e ∙ ap (λ (o : Option Built). Some o) (sym c.replace.ensures.value ∙ c.in-Some.is) in
    new_at c.args.policy m built c.requires.built i b at c.func_of.result.function c.func_of.ensures.same
    c.loop-i.passed c.loop-i.invariant.made c.len-i-end.ensures.functions.names

pub loop-i-preserved : goal.loop-i-preserved
loop-i-preserved c =
    let m = c.args.«module».now in let built = c.args.built.items in let i = c.loop-i.i in let b = c.in-Some.built in
    let places = c.loop-i.places.items in
    let n = c.len-i-end.ensures.count in let t = c.loop-i-test.true in let long = c.loop-i.invariant.long in
    let e = body_in places built i c.index_mut.result.now (omega arith) c.index_mut.ensures.value
    (c.loop-i.invariant.left i (omega arith)) in
    let at = e ∙ ap (λ (o : Option Built). Some o) (sym c.replace.ensures.value ∙ c.in-Some.is) in
    record {
      long = length-set places i c.replace.new.dest ∙ long;
      left = λ j l. get_set_other places i j c.replace.new.dest (λ q. omega (arith, q, l))
          ∙ c.loop-i.invariant.left j (omega (arith, l));
      made = subst (SameUpToNumbering _) (sym c.in_ok-push.ensures.ok)
          (made_with_it c.args.policy m built c.requires.built i b at c.func_of.result.function c.func_of.ensures.same
          c.loop-i.passed c.loop-i.invariant.made);
      inlined = let q = c.loop-i.invariant.inlined in
          let s = inlined_with_it c.args.policy m built c.requires.built i b at in omega arith;
      by_function = c.in_ok-push-2.ensures.items
          ∙ (ap (λ (ns : List ℕ). ns ++ b.inlined ∷ []) c.loop-i.invariant.by_function
          ∙ sym (by_function_with_it c.args.policy m built c.requires.built i b at));
      bound = let q = c.loop-i.invariant.bound in search rules;
    }
