use Rattle.std.proofs.Common.{◌≡◌, ◌∙◌, ◌+◌, ap, rules, arith, length, ◌<◌, get_or, set, drop}
use Rattle.std.proofs.lemmas.Bool.{ltb-true}
use Rattle.std.proofs.lemmas.List.{length-set}
use Rattle.ir_semantics.specs.Step as step
use Rattle.interp.proofs.Storing.{inside_next, written_next, written_end, wrote}
use Rattle.interp.proofs.hosts.apply_writes.Goals as goal

pub writes-preserved : goal.writes-preserved
writes-preserved c =
    let p = inside_next c.args.writes.now c.writes.write-index (length c.writes.memory) (0, 0) c.writes-test.true c.writes.invariant.inside in
    let small : (get_or c.args.writes.now c.writes.write-index (0, 0)).1 < 256 = search rules in
    let few : c.from.result < 256 = omega (arith, c.from.ensures) in
    let e0 : c.write-written.new.self ≡ set c.writes.memory (get_or c.args.writes.now c.writes.write-index (0, 0)).0 c.from.result = wrote c.write-written.result c.writes.memory c.write-written.new.self (get_or c.args.writes.now c.writes.write-index (0, 0)).0 c.from.result c.write-written.ensures.ok c.write-written.ensures.err (ltb-true (get_or c.args.writes.now c.writes.write-index (0, 0)).0 (length c.writes.memory) p.0) few in
    let e : c.write-written.new.self ≡ set c.writes.memory (get_or c.args.writes.now c.writes.write-index (0, 0)).0 (get_or c.args.writes.now c.writes.write-index (0, 0)).1 = e0 ∙ ap (set c.writes.memory (get_or c.args.writes.now c.writes.write-index (0, 0)).0) c.from.ensures in
    record {
      inside = ap (step.writes_fit (drop (c.writes.write-index + 1) c.args.writes.now)) (ap length e ∙ length-set c.writes.memory (get_or c.args.writes.now c.writes.write-index (0, 0)).0 (get_or c.args.writes.now c.writes.write-index (0, 0)).1) ∙ p.1;
      is = ap (step.written (drop (c.writes.write-index + 1) c.args.writes.now)) e ∙ (written_next c.args.writes.now c.writes.write-index (0, 0) c.writes.memory c.writes-test.true ∙ c.writes.invariant.is);
    }

pub returns : goal.returns
returns c = written_end c.args.writes.now c.writes.write-index c.writes.memory (search rules) ∙ c.writes.invariant.is
