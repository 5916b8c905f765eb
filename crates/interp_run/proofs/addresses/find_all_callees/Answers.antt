use Rattle.std.proofs.Common.{◌∙◌, ap}
use Rattle.func_addrs.specs.Mentions.{names_of}
use Rattle.interp_run.specs.Addressing.{callee_addresses}
use Rattle.interp_run.proofs.Addressing.{rows_of, rows_more}
use Rattle.interp_run.proofs.addresses.find_all_callees.Goals as goal

pub funcs-preserved : goal.funcs-preserved
funcs-preserved c =
    let ns = names_of c.args.names.now.names.items in
    ap rows_of c.in_ok-push.ensures.items
    ∙ rows_more c.args.module.now ns c.funcs.found.items c.funcs.i c.func.result.now.function c.in_ok-find_callees.field-0 c.func.ensures.at c.funcs.invariant (c.in_ok-find_callees.ensures ∙ ap (callee_addresses ns) c.callees.ensures)
