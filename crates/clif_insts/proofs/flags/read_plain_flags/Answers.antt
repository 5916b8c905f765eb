use Rattle.std.proofs.Common.{List, [], length, sym, ◌∙◌, arith}
use Rattle.std.proofs.lemmas.Result.{err_from_is_err_and}
use Rattle.clif_insts.specs.declared.raw.RawFlag.{RawFlag}
use Rattle.clif_words.specs.Terminals.{codes_of}
use Rattle.token_reader.specs.Reading.{each, with_front}
use Rattle.clif_insts.specs.Flags.{plain_flag_at, begins_plain_flag, plain_flags_at}
use Rattle.token_reader.proofs.Loops.{goes_on, fails, is_done}
use Rattle.clif_insts.proofs.flags.read_plain_flags.Goals as goal

pub list-preserved : goal.list-preserved
list-preserved c =
    (rw c.in_ok-push.ensures.items (goes_on plain_flag_at (codes_of begins_plain_flag) c.list.list.items c.list.reader c.read_plain_flag.new.reader c.in_ok-item.item (with_front (let none : List RawFlag = [] in none) (each plain_flag_at (codes_of begins_plain_flag) (length c.args.reader.now) c.args.reader.now)) (sym c.begins_plain_flag.ensures ∙ c.list-test.true) c.in_ok-item.ensures.is c.in_ok-item.ensures.shorter c.list.invariant.0), omega (arith, c.in_ok-item.ensures.shorter, c.list.invariant.1))

pub returns-in_err-item-clause-is : goal.returns-in_err-item-clause-is
unfolding plain_flags_at
returns-in_err-item-clause-is c =
    let p = err_from_is_err_and c.from_residual.result c.from_residual.ensures.1 in
    rw (p.1, p.2) (fails plain_flag_at (codes_of begins_plain_flag) c.list.list.items c.list.reader c.read_plain_flag.new.reader c.in_err-item.field-0.0 (with_front (let none : List RawFlag = [] in none) (each plain_flag_at (codes_of begins_plain_flag) (length c.args.reader.now) c.args.reader.now)) (sym c.begins_plain_flag.ensures ∙ c.list-test.true) c.in_err-item.ensures.is c.list.invariant.0)

pub returns-clause-is : goal.returns-clause-is
unfolding plain_flags_at
returns-clause-is c = is_done plain_flag_at (codes_of begins_plain_flag) c.list.list.items c.list.reader (with_front (let none : List RawFlag = [] in none) (each plain_flag_at (codes_of begins_plain_flag) (length c.args.reader.now) c.args.reader.now)) (sym c.begins_plain_flag.ensures ∙ c.list-test.false) c.list.invariant.0
