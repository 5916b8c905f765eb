use Rattle.std.proofs.Common.{[], false, length, sym, ◌∙◌, arith}
use Rattle.std.proofs.lemmas.Result.{err_from_is_err_and}
use Rattle.clif_read.specs.Lines.{more_lines_at, lines_at}
use Rattle.clif_read.proofs.LineLoop.{goes_on, fails, is_done}
use Rattle.clif_read.proofs.lines.read_lines.Goals as goal

pub lines-preserved : goal.lines-preserved
lines-preserved c =
    (goes_on c.lines.list.items _ c.lines.after_return _ c.lines.reader c.add_line.new.reader (more_lines_at (length c.args.reader.now) [] false c.args.reader.now) (sym c.begins_line.ensures ∙ c.lines-test.true) c.in_ok-after_return.ensures.is c.in_ok-after_return.ensures.shorter c.lines.invariant.0, omega (arith, c.in_ok-after_return.ensures.shorter, c.lines.invariant.1))

pub returns-in_err-after_return-clause-is : goal.returns-in_err-after_return-clause-is
unfolding lines_at
returns-in_err-after_return-clause-is c =
    let p = err_from_is_err_and c.from_residual-in_err-after_return.result c.from_residual-in_err-after_return.ensures.1 in
    rw (p.1, p.2) (fails c.lines.list.items c.lines.after_return c.lines.reader c.add_line.new.reader c.in_err-after_return.field-0.0 (more_lines_at (length c.args.reader.now) [] false c.args.reader.now) (sym c.begins_line.ensures ∙ c.lines-test.true) c.in_err-after_return.ensures.is c.lines.invariant.0)

pub returns-clause-is : goal.returns-clause-is
unfolding lines_at
returns-clause-is c =
    rw c.trim.ensures
    (is_done c.lines.list.items c.lines.after_return c.lines.reader (more_lines_at (length c.args.reader.now) [] false c.args.reader.now) (sym c.begins_line.ensures ∙ c.lines-test.false) c.lines.invariant.0)
