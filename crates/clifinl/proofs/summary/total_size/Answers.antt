use Rattle.std.proofs.Common.{arith}
use Rattle.ir_core.specs.Size.{size_of}
use Rattle.ir_core.proofs.Gets.{each_at}
use Rattle.ir_text.specs.Writable.{FunctionWritable}
use Rattle.clifinl.proofs.Measures.{one_more}
use Rattle.clifinl.proofs.summary.total_size.Goals as goal

pub loop-i-preserved : goal.loop-i-preserved
loop-i-preserved c =
    let m = c.args.module.now in let f = c.func.result.now.function in
    let writable = each_at FunctionWritable m c.loop-i.i f c.requires.functions c.func.ensures.at in
    let more = one_more size_of m c.loop-i.i f c.func.ensures.at in
    record {
      sum = omega (arith, c.loop-i.invariant.sum, c.size.ensures, writable.size, more);
      bound = omega (arith, c.loop-i.invariant.bound, c.size.ensures, writable.size);
    }
