use Rattle.std.proofs.Common.{[], ◌∷◌, length, map, refl, sym, ◌∙◌, arith}
use mathlib.Core.List.{map-append}
use Rattle.std.proofs.lemmas.Result.{err_from_is_err_and}
use Rattle.token_reader.proofs.Loops.{goes_on, fails, is_done}
use Rattle.script_text.specs.declared.terminal.Terminal.TheVariants.{Comma}
use Rattle.script_text.specs.Terminals.{code}
use Rattle.script_text.specs.Reading.{comma_at, more_at}
use Rattle.script_text.proofs.commas.read_more_items.Goals as goal

pub list-init : goal.list-init
unfolding more_at
list-init g c = ((length c.args.reader.now, omega arith, refl), omega arith)

pub list-preserved : goal.list-preserved
list-preserved g c =
    let p = g.I.Items.item_at c.args.items.now in
    let seen = g.I.Items.seen in
    (rw (c.in_ok-push.ensures.items, map-append seen c.list.list.items (c.in_ok-item.item ∷ [])) (goes_on (comma_at p) (code Comma ∷ []) (map seen c.list.list.items) c.list.reader c.read_next_item.new.reader (seen c.in_ok-item.item) (more_at p (map seen c.args.front.items) c.args.reader.now) (sym c.next_is.ensures ∙ c.list-test.true) c.in_ok-item.ensures.is c.in_ok-item.ensures.shorter c.list.invariant.0), omega (arith, c.in_ok-item.ensures.shorter, c.list.invariant.1))

pub returns-in_err-item-clause-is : goal.returns-in_err-item-clause-is
returns-in_err-item-clause-is g c =
    let p = g.I.Items.item_at c.args.items.now in
    let seen = g.I.Items.seen in
    let e = err_from_is_err_and c.from_residual.result c.from_residual.ensures.1 in
    rw (e.1, e.2) (fails (comma_at p) (code Comma ∷ []) (map seen c.list.list.items) c.list.reader c.read_next_item.new.reader c.in_err-item.field-0.0 (more_at p (map seen c.args.front.items) c.args.reader.now) (sym c.next_is.ensures ∙ c.list-test.true) c.in_err-item.ensures.is c.list.invariant.0)

pub returns-clause-is : goal.returns-clause-is
returns-clause-is g c =
    let p = g.I.Items.item_at c.args.items.now in
    let seen = g.I.Items.seen in
    is_done (comma_at p) (code Comma ∷ []) (map seen c.list.list.items) c.list.reader (more_at p (map seen c.args.front.items) c.args.reader.now) (sym c.next_is.ensures ∙ c.list-test.false) c.list.invariant.0
