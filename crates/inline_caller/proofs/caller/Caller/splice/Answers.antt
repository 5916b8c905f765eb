use Rattle.std.proofs.Common.{◌≡◌, length, ap, sym, subst, arith}
use Rattle.ir_core.specs.Module.{Function}
use Rattle.body_import.specs.Imports.{IsImportOf}
use Rattle.inline_body.specs.PlainCall.{IsSplice}
use Rattle.inline_caller.specs.Prepared.{IsPreparedFor}
use Rattle.inline_caller.specs.Replacing.{CanReplace}
use Rattle.inline_caller.proofs.Indexed.{extended_index}
use Rattle.inline_caller.proofs.ReplacedCalls.{replaced}
use Rattle.inline_caller.proofs.caller.Caller.splice.Goals as goal

pub prepare_planned-requires-clause-imported : goal.prepare_planned-requires-clause-imported
prepare_planned-requires-clause-imported g c = subst (λ (z : Function). IsImportOf z c.args.callee.now.function c.args.import) (sym c.self.view_is) c.requires.imported

pub invariant_of-self-2 : goal.invariant_of-self-2
invariant_of-self-2 g c =
    let f : Function = c.self.inside.func.function in
    let h : Function = c.args.callee.now.function in
    let k : Function = c.put_prepared.new.caller.function in
    let can = replaced f h c.args.site (subst (λ (z : Function). CanReplace z h c.args.site) (sym c.self.view_is) c.requires.can) in
    let imported = subst (λ (z : Function). IsImportOf z h c.args.import) (sym c.self.view_is) c.requires.imported in
    let same : c.prepare_planned.new.caller.function ≡ f = c.in_ok-call.ensures.same in
    let prepared = subst (λ (z : Function). IsPreparedFor z h c.args.site c.in_ok-call.call) (sym same) c.in_ok-call.ensures.prepared in
    let spliced : IsSplice f h c.args.site k = subst (λ (z : Function). IsSplice z h c.args.site k) same (c.put_prepared.ensures.spliced h c.args.site prepared) in
    record {
      counted =
          let before = c.self.invariant.counted in
          let added = c.blocks_added.ensures in
          let now = c.put_prepared.ensures.blocks h c.args.site prepared in
          let as_before = ap (λ (z : Function). length z.blocks) same in
          omega (arith, before, added, now, as_before);
      indexed = λ is.
          extended_index f h k c.args.site can.line c.args.import c.extend_index.new.index c.as_slice.result.now c.as_slice-2.result.now can.there can.found c.values.ensures.sound spliced imported c.as_slice.ensures c.as_slice-2.ensures
          (c.in_ok-extend_index.ensures (c.self.invariant.indexed c.if-not-self.false));
    }
