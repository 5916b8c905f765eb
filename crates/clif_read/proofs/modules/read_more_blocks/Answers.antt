use Rattle.std.proofs.Common.{[], ◌∷◌, length, sym, ◌∙◌, arith}
use Rattle.std.proofs.lemmas.Result.{err_from_is_err_and}
use Rattle.clif_words.specs.declared.class.Class.TheVariants as classes
use Rattle.clif_words.specs.Classes.{code}
use Rattle.token_reader.specs.Reading.{each, with_front}
use Rattle.clif_read.specs.Modules.{block_at, more_blocks_at}
use Rattle.token_reader.proofs.Loops.{goes_on, fails, is_done}
use Rattle.clif_read.proofs.modules.read_more_blocks.Goals as goal

pub list-preserved : goal.list-preserved
list-preserved c =
    (rw c.in_ok-push.ensures.items (goes_on block_at (code classes.Block ∷ []) c.list.list.items c.list.reader c.read_block.new.reader c.in_ok-item.item (with_front c.args.front.items (each block_at (code classes.Block ∷ []) (length c.args.reader.now) c.args.reader.now)) (sym c.next_is.ensures ∙ c.list-test.true) c.in_ok-item.ensures.is c.in_ok-item.ensures.shorter c.list.invariant.0), omega (arith, c.in_ok-item.ensures.shorter, c.list.invariant.1))

pub returns-in_err-item-clause-is : goal.returns-in_err-item-clause-is
unfolding more_blocks_at
returns-in_err-item-clause-is c =
    let p = err_from_is_err_and c.from_residual.result c.from_residual.ensures.1 in
    rw (p.1, p.2) (fails block_at (code classes.Block ∷ []) c.list.list.items c.list.reader c.read_block.new.reader c.in_err-item.field-0.0 (with_front c.args.front.items (each block_at (code classes.Block ∷ []) (length c.args.reader.now) c.args.reader.now)) (sym c.next_is.ensures ∙ c.list-test.true) c.in_err-item.ensures.is c.list.invariant.0)

pub returns-clause-is : goal.returns-clause-is
unfolding more_blocks_at
returns-clause-is c = is_done block_at (code classes.Block ∷ []) c.list.list.items c.list.reader (with_front c.args.front.items (each block_at (code classes.Block ∷ []) (length c.args.reader.now) c.args.reader.now)) (sym c.next_is.ensures ∙ c.list-test.false) c.list.invariant.0
