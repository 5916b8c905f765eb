use Rattle.std.proofs.Common.{List, ◌<◌, length, sym, subst}
use Rattle.std.proofs.lemmas.Option.{slice_get_within}
use Rattle.ir_core.specs.Module.{Function}
use Rattle.ir_check.proofs.Signed.{declared_alike, one_function}
use Rattle.ir_check.proofs.rules.declares_signature.Goals as goal

pub is_own-requires : goal.is_own-requires
is_own-requires c = record {
  caller = subst (λ (z : List Function). c.args.number < length z) (sym c.requires.same) (slice_get_within c.args.«module».now c.args.number c.args.func.now.function c.requires.at);
  callee = subst (λ (z : List Function). c.in-Some.i < length z) (sym c.requires.same) c.in-Some.ensures.cases.0;
  there = λ g h. subst (λ (z : Function). c.args.callee.now.sig < length z.sigs) (sym (one_function c.args.«module».now c.args.sigs.now c.requires.same c.args.number c.args.func.now.function g c.requires.at h)) c.requires.there;
}

pub returns-in-Some : goal.returns-in-Some
returns-in-Some c = declared_alike c.args.«module».now c.args.sigs.now c.requires.same c.args.number c.args.func.now.function c.requires.at c.args.callee.now c.requires.there c.in-Some.i c.in-Some.ensures.cases.0 c.in-Some.ensures.cases.1 c.is_own.result c.is_own.ensures
