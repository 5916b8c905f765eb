use Rattle.std.proofs.Common.{map, length, get_or, ap, sym, ◌∙◌, arith}
use Rattle.std.proofs.lemmas.List.{length-map}
use Rattle.ir_semantics.specs.Import.{same_callee}
use Rattle.body_import.specs.CalleeKeys.{callee_key, key_among, renumbered}
use Rattle.body_import.proofs.CalleesDecided.{callees_decide, keys_among}
use Rattle.body_import.proofs.FirstPlaces.{kept_shorter}
use Rattle.body_import.proofs.Imported.{added_is, table_is}
use Rattle.body_import.proofs.callees.import_callees.Goals as goal

pub kept_callees-requires-clause-as_many : goal.kept_callees-requires-clause-as_many
kept_callees-requires-clause-as_many c = ap length c.as_slice.ensures.value ∙ (c.in_ok-merge.ensures.as_many ∙ (sym (length-map c.in_ok-callee_keys.field-0.items (λ k. k.items)) ∙ (ap length c.in_ok-callee_keys.ensures ∙ length-map c.args.callees.now (λ d. callee_key (get_or c.args.table.now d.sig 0) d))))

pub returns-clause-added : goal.returns-clause-added
returns-clause-added c = λ sigs own knows count first.
    added_is (same_callee sigs) (key_among sigs) (callees_decide sigs) own (map (renumbered c.args.table.now) c.args.callees.now) c.in_ok-kept_callees.field-0 c.in_ok-merge.merge.is_new.items c.as_slice.result.now (map (λ k. k.items) c.in_ok-callee_keys.field-0.items) (c.in_ok-callee_keys.ensures ∙ keys_among sigs c.args.table.now c.args.callees.now first c.requires.in_range) (c.in_ok-merge.ensures.is_new (map (key_among sigs) own) knows (count ∙ sym (length-map own (key_among sigs)))) c.as_slice.ensures.value c.in_ok-kept_callees.ensures

pub returns-clause-table : goal.returns-clause-table
returns-clause-table c = λ sigs own knows count first.
    table_is (same_callee sigs) (key_among sigs) (callees_decide sigs) own (map (renumbered c.args.table.now) c.args.callees.now) c.in_ok-merge.merge.places.items c.as_slice-2.result.now c.in_ok-as_func_refs.field-0 (map (λ k. k.items) c.in_ok-callee_keys.field-0.items) (c.in_ok-callee_keys.ensures ∙ keys_among sigs c.args.table.now c.args.callees.now first c.requires.in_range) (c.in_ok-merge.ensures.places (map (key_among sigs) own) knows (count ∙ sym (length-map own (key_among sigs)))) c.as_slice-2.ensures.value c.in_ok-as_func_refs.ensures

pub returns-clause-fewer : goal.returns-clause-fewer
returns-clause-fewer c =
    let k = kept_shorter c.as_slice.result.now (map (renumbered c.args.table.now) c.args.callees.now) in
    let e = ap length c.in_ok-kept_callees.ensures in
    let n = length-map c.args.callees.now (renumbered c.args.table.now) in
    omega (arith, k, e, n)
