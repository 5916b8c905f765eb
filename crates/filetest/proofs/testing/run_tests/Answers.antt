use Rattle.std.proofs.Common.{◌∙◌, sym, subst}
use Rattle.std.proofs.lemmas.Result.{err_from_is_err_and}
use Rattle.clif_resolve.proofs.BlockWords.{text_has_blocks}
use Rattle.filetest.specs.Tested.{HasFaultLines, IsRefusal}
use Rattle.filetest.proofs.Whole.{all_limited, all_placed, whole_report, refused_module, refused_tokens, refused_text, refused_directive, refused_memory}
use Rattle.filetest.proofs.testing.run_tests.Goals as goal

pub read_tests-requires-clause-read : goal.read_tests-requires-clause-read
read_tests-requires-clause-read c = record { tokens = c.in_ok-tokens.tokens; lexed = c.in_ok-tokens.ensures.tokens; read = c.in_ok-raw.ensures.found }

pub tested_module-requires : goal.tested_module-requires
tested_module-requires c = text_has_blocks _ (c.args.text.now, record { tokens = c.in_ok-tokens.tokens; lexed = c.in_ok-tokens.ensures.tokens; read = c.in_ok-raw.ensures.found })

pub needed_fault_lines-requires-clause-blocks : goal.needed_fault_lines-requires-clause-blocks
needed_fault_lines-requires-clause-blocks c = text_has_blocks _ (c.args.text.now, record { tokens = c.in_ok-tokens.tokens; lexed = c.in_ok-tokens.ensures.tokens; read = c.in_ok-raw.ensures.found })

pub report_of-requires-clause-limited : goal.report_of-requires-clause-limited
report_of-requires-clause-limited c = all_limited c.args.text.now c.in_ok-tokens.tokens c.in_ok-raw.raw c.in_ok-file.file c.in_ok-file.ensures.file _ c.as_slice-commands.ensures.value

pub report_of-requires-clause-placed : goal.report_of-requires-clause-placed
report_of-requires-clause-placed c = all_placed c.args.text.now c.in_ok-tokens.tokens c.in_ok-raw.raw c.in_ok-file.file c.in_ok-file.ensures.file c.is_module_needed.result c.in_ok-checked.checked c.as_slice-functions.result.now
    (text_has_blocks _ (c.args.text.now, record { tokens = c.in_ok-tokens.tokens; lexed = c.in_ok-tokens.ensures.tokens; read = c.in_ok-raw.ensures.found }))
    c.in_ok-checked.ensures.tested c.as_slice-functions.ensures.value

pub returns-in_err-tokens-clause-refused : goal.returns-in_err-tokens-clause-refused
returns-in_err-tokens-clause-refused c = let p = err_from_is_err_and c.from_residual.result c.from_residual.ensures.1 in rw p.1 (refused_tokens c.args.text.now c.in_err-tokens.field-0.0 p.0 c.in_err-tokens.ensures.tokens p.2)

pub returns-in_err-raw-clause-refused : goal.returns-in_err-raw-clause-refused
returns-in_err-raw-clause-refused c = let p = err_from_is_err_and c.from_residual-in_err-raw.result c.from_residual-in_err-raw.ensures.1 in rw p.1 (refused_text c.args.text.now c.in_ok-tokens.tokens c.in_err-raw.field-0.0 p.0 c.in_ok-tokens.ensures.tokens c.in_err-raw.ensures.stop p.2)

pub returns-in_err-file-clause-refused : goal.returns-in_err-file-clause-refused
returns-in_err-file-clause-refused c = let p = err_from_is_err_and c.from_residual-in_err-file.result c.from_residual-in_err-file.ensures.1 in rw p.1 (refused_directive c.args.text.now c.in_ok-tokens.tokens c.in_ok-raw.raw c.in_err-file.field-0.0 p.0 c.in_ok-tokens.ensures.tokens c.in_ok-raw.ensures.found c.in_err-file.ensures.bad p.2)

pub returns-in_err-checked-clause-refused : goal.returns-in_err-checked-clause-refused
returns-in_err-checked-clause-refused c = let p = err_from_is_err_and c.from_residual-in_err-checked.result c.from_residual-in_err-checked.ensures.1 in
    rw p.1 (subst (IsRefusal c.args.text.now) (sym p.2) (refused_module c.args.text.now c.in_ok-tokens.tokens c.in_ok-raw.raw c.in_ok-file.file c.in_ok-file.ensures.file _ c.is_module_needed.result c.in_err-checked.field-0.0
    c.in_ok-tokens.ensures.tokens c.in_ok-raw.ensures.found c.as_slice-commands.ensures.value c.is_module_needed.ensures c.in_err-checked.ensures.refused))

pub returns-in_err-faults-clause-refused : goal.returns-in_err-faults-clause-refused
returns-in_err-faults-clause-refused c = let p = err_from_is_err_and c.from_residual-in_err-faults.result c.from_residual-in_err-faults.ensures.1 in rw p.1 (refused_memory c.args.text.now p.0 (p.2 ∙ c.in_err-faults.ensures.memory))

pub returns-in_err-report-clause-refused : goal.returns-in_err-report-clause-refused
returns-in_err-report-clause-refused c = let p = err_from_is_err_and c.from_residual-in_err-report.result c.from_residual-in_err-report.ensures.1 in rw p.1 (refused_memory c.args.text.now p.0 p.2)

pub returns-clause-report : goal.returns-clause-report
returns-clause-report c = whole_report c.args.text.now c.in_ok-tokens.tokens c.in_ok-raw.raw c.in_ok-file.file c.in_ok-file.ensures.file _ c.as_slice-functions.result.now c.is_module_needed.result c.are_faults_needed.result c.in_ok-checked.checked c.as_slice.result.now _
    c.in_ok-tokens.ensures.tokens c.in_ok-raw.ensures.found c.as_slice-commands.ensures.value c.as_slice-functions.ensures.value
    c.is_module_needed.ensures c.in_ok-checked.ensures.tested c.are_faults_needed.ensures (subst (HasFaultLines c.are_faults_needed.result c.args.text.now c.in_ok-raw.raw) (sym c.as_slice.ensures.value) c.in_ok-faults.ensures.faults) c.in_ok-report.ensures
