use Rattle.std.proofs.Common.{◌≡◌, ◌∙◌, ap, sym, ◌<◌, ◌≤◌, length, get_or, rules, arith, Some, None, [], refl}
use Rattle.std.specs.Vec.{vec_len}
use Rattle.ir_core.specs.declared.declarations.Callee.{Callee}
use Rattle.ir_core.specs.declared.signatures.Sig.{Sig}
use Rattle.ir_core.specs.declared.signatures.Conv.TheVariants.{Fast}
use Rattle.ir_core.specs.Module.{Function}
use Rattle.ir_core.specs.Lookup.{find_function}
use Rattle.interp.specs.State.{function_at, found_at}
use Rattle.interp.specs.declared.state.Links.{Links}
use Rattle.interp.proofs.Entering.{at_found}
use Rattle.interp.proofs.Finding.{missing_past, missing_callee, found_callee}
use Rattle.interp.proofs.calls.find_callee.Goals as goal

abbrev some_sig : Sig
some_sig = record { params = []; results = []; conv = Fast }

pub returns-then-at-len : goal.returns-then-at-len
returns-then-at-len c = missing_past c.args.program.now.module.now c.args.at c.args.callee (search rules)

pub returns-then-number-callees : goal.returns-then-number-callees
returns-then-number-callees c =
    let le : length c.callees-callees.result.now ≤ c.args.callee = search rules in
    missing_callee c.args.program.now.module.now c.args.at c.args.callee c.func-func.result.now.function c.callees-callees.result.now c.func-func.ensures.at c.callees-callees.ensures le

pub index-requires-2 : goal.index-requires-2
index-requires-2 c =
    let lt : c.args.at < length c.args.program.now.module.now = search rules in
    let same : length c.callees-callees.result.now ≡ length (function_at c.args.program.now.module.now c.args.at).callees = ap length (c.callees-callees.ensures ∙ ap (λ (g : Function). g.callees) (sym (at_found c.args.program.now.module.now c.args.at c.func-func.result.now.function c.func-func.ensures.at))) in
    let links : length c.index.result.now.callees.items ≡ length (function_at c.args.program.now.module.now c.args.at).callees = ap (λ (l : Links). length l.callees.items) c.index.ensures ∙ c.requires.linked.callees c.args.at c.index.result.now lt in
    let n : c.number-number.result < length c.callees-callees.result.now = search rules in
    let len : vec_len c.index.result.now.callees ≡ length c.index.result.now.callees.items = c.index.result.now.callees.ok.0 in
    omega arith

pub returns-in-Some : goal.returns-in-Some
returns-in-Some c =
    let lt : c.args.at < length c.args.program.now.module.now = search rules in
    let callees : c.callees-callees.result.now ≡ (function_at c.args.program.now.module.now c.args.at).callees = c.callees-callees.ensures ∙ ap (λ (g : Function). g.callees) (sym (at_found c.args.program.now.module.now c.args.at c.func-func.result.now.function c.func-func.ensures.at)) in
    let n : c.number-number.result < length c.callees-callees.result.now = search rules in
    let same : length c.callees-callees.result.now ≡ length (function_at c.args.program.now.module.now c.args.at).callees = ap length callees in
    let s : c.number-sig.result < length c.sigs-sigs.result.now = search rules in
    let link : find_function c.index-callees-number.result.name c.args.program.now.module.now ≡ found_at c.args.program.now.module.now (Some c.in-Some.place) =
    ap (λ (d : Callee). find_function d.name c.args.program.now.module.now) (c.index-callees-number.is ∙ ap (λ cs. get_or cs c.number-number.result c.index-callees-number.result) callees)
    ∙ (c.requires.linked.found c.args.at c.number-number.result c.index.result.now c.index-2.result.now c.index-callees-number.result lt (omega arith)
    ∙ (ap (λ (l : Links). found_at c.args.program.now.module.now (get_or l.callees.items c.number-number.result c.index-2.result.now)) (sym c.index.ensures)
    ∙ ap (found_at c.args.program.now.module.now) (sym c.index-2.ensures ∙ c.in-Some.is))) in
    let sig : Sig = get_or c.sigs-sigs.result.now c.number-sig.result some_sig in
    found_callee c.args.program.now.module.now c.args.at c.args.callee c.number-number.result c.func-func.result.now.function c.callees-callees.result.now c.sigs-sigs.result.now c.index-callees-number.result c.number-sig.result sig some_sig (Some (function_at c.args.program.now.module.now c.in-Some.place)) c.func-func.ensures.at c.callees-callees.ensures c.sigs-sigs.ensures c.number-number.ensures n c.index-callees-number.is c.number-sig.ensures s refl link

pub returns-in-None : goal.returns-in-None
returns-in-None c =
    let lt : c.args.at < length c.args.program.now.module.now = search rules in
    let callees : c.callees-callees.result.now ≡ (function_at c.args.program.now.module.now c.args.at).callees = c.callees-callees.ensures ∙ ap (λ (g : Function). g.callees) (sym (at_found c.args.program.now.module.now c.args.at c.func-func.result.now.function c.func-func.ensures.at)) in
    let n : c.number-number.result < length c.callees-callees.result.now = search rules in
    let same : length c.callees-callees.result.now ≡ length (function_at c.args.program.now.module.now c.args.at).callees = ap length callees in
    let s : c.number-sig.result < length c.sigs-sigs.result.now = search rules in
    let link : find_function c.index-callees-number.result.name c.args.program.now.module.now ≡ found_at c.args.program.now.module.now (None) =
    ap (λ (d : Callee). find_function d.name c.args.program.now.module.now) (c.index-callees-number.is ∙ ap (λ cs. get_or cs c.number-number.result c.index-callees-number.result) callees)
    ∙ (c.requires.linked.found c.args.at c.number-number.result c.index.result.now c.index-2.result.now c.index-callees-number.result lt (omega arith)
    ∙ (ap (λ (l : Links). found_at c.args.program.now.module.now (get_or l.callees.items c.number-number.result c.index-2.result.now)) (sym c.index.ensures)
    ∙ ap (found_at c.args.program.now.module.now) (sym c.index-2.ensures ∙ c.in-None.is))) in
    found_callee c.args.program.now.module.now c.args.at c.args.callee c.number-number.result c.func-func.result.now.function c.callees-callees.result.now c.sigs-sigs.result.now c.index-callees-number.result c.number-sig.result c.index-sigs-sig.result c.index-sigs-sig.result None c.func-func.ensures.at c.callees-callees.ensures c.sigs-sigs.ensures c.number-number.ensures n c.index-callees-number.is c.number-sig.ensures s c.index-sigs-sig.is link
