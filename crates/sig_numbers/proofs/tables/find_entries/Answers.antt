use Rattle.sig_numbers.specs.Tables.{return_alike}
use Rattle.sig_numbers.proofs.Tabled.{entries_more, flags_more}
use Rattle.sig_numbers.proofs.tables.find_entries.Goals as goal

pub loop-sig-preserved : goal.loop-sig-preserved
loop-sig-preserved c = record {
  index = c.in_ok-number.ensures.index;
  keeps = λ k n e. c.in_ok-number.ensures.keeps k n (c.loop-sig.invariant.keeps k n e);
  numbers = entries_more c.loop-sig.index c.number.new.self c.in_ok-number.ensures.keeps c.args.sigs.now c.loop-sig.entries.items c.push.new.self.items c.loop-sig.sig-index _ c.sig-item.result c.loop-sig.invariant.numbers c.in_ok-push.ensures.items c.loop-sig-test.true c.sig-item.is c.in_ok-number.ensures.number;
  flags = flags_more (return_alike c.args.own.now) c.args.sigs.now c.loop-sig.entries.items c.push.new.self.items c.loop-sig.sig-index _ c.sig-item.result c.loop-sig.invariant.flags c.in_ok-push.ensures.items c.loop-sig-test.true c.sig-item.is (rw (c.as_slice.ensures, c.as_slice-in-loop-sig.ensures) at c.have_same_types-returns_alike.ensures);
}
