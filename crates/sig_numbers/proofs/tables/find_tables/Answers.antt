use Rattle.std.proofs.Common.{ap, arith}
use Rattle.std.proofs.Common.{length}
use Rattle.sig_numbers.specs.Index.{number_of}
use Rattle.sig_numbers.proofs.Tabled.{no_tables, tabling_more, index_tells}
use Rattle.sig_numbers.proofs.tables.find_tables.Goals as goal

pub loop-i-init : goal.loop-i-init
loop-i-init c = record {
  index = c.new-index.ensures;
  count = ap length c.in_ok-tables.ensures.items;
  tabling = no_tables c.new-index.result c.args.«module».now c.in_ok-tables.tables.items c.in_ok-tables.ensures.items;
}

pub loop-i-preserved : goal.loop-i-preserved
loop-i-preserved c = record {
  index = c.in_ok-table.ensures.index;
  count = grind (arith, c.in_ok-push.ensures.items, c.loop-i.invariant.count);
  tabling = tabling_more c.loop-i.index c.find_table.new.index c.in_ok-table.ensures.keeps c.args.«module».now c.loop-i.tables.items c.push.new.self.items c.loop-i.i c.func.result.now.function c.in_ok-table.table c.loop-i.invariant.count c.func.ensures.at c.in_ok-table.ensures.table c.in_ok-push.ensures.items c.loop-i.invariant.tabling;
}

pub returns : goal.returns
returns c = record {
  number = number_of c.loop-i.index;
  tells = index_tells c.loop-i.index c.loop-i.invariant.index;
  count = let e = c.loop-i.invariant.count in let n = c.len-i-end.ensures.count in omega (arith, e, n);
  each = c.loop-i.invariant.tabling;
}
