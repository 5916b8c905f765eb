use Rattle.std.proofs.Common.{map, length, ap, sym, ◌∙◌, arith}
use Rattle.std.proofs.lemmas.List.{length-map}
use Rattle.ir_core.specs.Signatures.{same_sig}
use Rattle.body_import.specs.SigKeys.{sig_key}
use Rattle.body_import.proofs.FirstPlaces.{kept_shorter}
use Rattle.body_import.proofs.Imported.{added_is, table_is}
use Rattle.body_import.proofs.SigsDecided.{sigs_decide}
use Rattle.body_import.proofs.sigs.import_sigs.Goals as goal

pub kept_sigs-requires : goal.kept_sigs-requires
kept_sigs-requires c = ap length c.as_slice.ensures.value ∙ (c.in_ok-merge.ensures.as_many ∙ (sym (length-map c.in_ok-sig_keys.field-0.items (λ k. k.items)) ∙ (ap length c.in_ok-sig_keys.ensures ∙ length-map c.args.sigs.now sig_key)))

pub returns-clause-added : goal.returns-clause-added
returns-clause-added c = λ own knows count.
    added_is same_sig sig_key sigs_decide own c.args.sigs.now c.in_ok-kept_sigs.field-0 c.in_ok-merge.merge.is_new.items c.as_slice.result.now (map (λ k. k.items) c.in_ok-sig_keys.field-0.items) c.in_ok-sig_keys.ensures (c.in_ok-merge.ensures.is_new (map sig_key own) knows (count ∙ sym (length-map own sig_key))) c.as_slice.ensures.value c.in_ok-kept_sigs.ensures

pub returns-clause-table : goal.returns-clause-table
returns-clause-table c = λ own knows count.
    table_is same_sig sig_key sigs_decide own c.args.sigs.now c.in_ok-merge.merge.places.items c.as_slice-2.result.now c.in_ok-as_sig_refs.field-0 (map (λ k. k.items) c.in_ok-sig_keys.field-0.items) c.in_ok-sig_keys.ensures (c.in_ok-merge.ensures.places (map sig_key own) knows (count ∙ sym (length-map own sig_key))) c.as_slice-2.ensures.value c.in_ok-as_sig_refs.ensures

pub returns-clause-fewer : goal.returns-clause-fewer
returns-clause-fewer c =
    let k = kept_shorter c.as_slice.result.now c.args.sigs.now in
    let e = ap length c.in_ok-kept_sigs.ensures in
    omega (arith, k, e)

pub returns-clause-as_many : goal.returns-clause-as_many
returns-clause-as_many c = ap length (c.in_ok-as_sig_refs.ensures ∙ c.as_slice-2.ensures.value) ∙ (c.in_ok-merge.ensures.as_many_places ∙ (sym (length-map c.in_ok-sig_keys.field-0.items (λ k. k.items)) ∙ (ap length c.in_ok-sig_keys.ensures ∙ length-map c.args.sigs.now sig_key)))
