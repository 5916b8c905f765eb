use Rattle.std.proofs.Common.{sym, ◌∙◌}
use Rattle.clif_resolve.proofs.FaultlessLaws.{function_faulty, function_free}
use Rattle.clif_resolve.proofs.functions.meant_by_names.Goals as goal

pub returns-then-not-is_none-clause-free : goal.returns-then-not-is_none-clause-free
returns-then-not-is_none-clause-free c =
    function_faulty c.args.raw.now c.least.result c.least.ensures (sym c.is_none.ensures ∙ c.if-not-is_none.true)

pub undeclared-requires : goal.undeclared-requires
undeclared-requires c =
    function_free c.args.raw.now c.least.result c.least.ensures (sym c.is_none.ensures ∙ c.if-not-is_none.false)

pub build_by_names-requires-clause-free : goal.build_by_names-requires-clause-free
build_by_names-requires-clause-free c =
    function_free c.args.raw.now c.least.result c.least.ensures (sym c.is_none.ensures ∙ c.if-not-is_none.false)

pub returns-clause-free : goal.returns-clause-free
returns-clause-free c =
    function_free c.args.raw.now c.least.result c.least.ensures (sym c.is_none.ensures ∙ c.if-not-is_none.false)
