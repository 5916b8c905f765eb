use Rattle.std.proofs.Common.{◌≡◌, ◌++◌, ◌∷◌, [], None, arith, length-append}
use Rattle.name_tables.specs.declared.firsts.Def.{Def}
use Rattle.name_tables.proofs.Counts.{counted_more, count_more}
use Rattle.name_tables.proofs.aliases.list_counts.Goals as goal

pub loop-first-preserved : goal.loop-first-preserved
loop-first-preserved c =
    let firsts = c.args.firsts.now in
    let old = c.loop-first.counts.items in
    let count = c.loop-first.count in
    let nothing : Def = record { name = record { number = 0; spot = 0 }; target = None } in
    let pushed : c.push.new.self.items ≡ old ++ count ∷ [] = c.in_ok-push.ensures.items in
    rw pushed (record {
      long = omega (arith, length-append old (count ∷ []));
      each = counted_more firsts old c.loop-first.first-index count c.loop-first.invariant.long c.loop-first.invariant.each c.loop-first.invariant.count;
      count = omega (arith, count_more firsts c.loop-first.first-index nothing c.loop-first-test.true);
      small = omega arith;
    })
