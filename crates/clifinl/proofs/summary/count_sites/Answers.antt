use Rattle.std.proofs.Common.{arith}
use Rattle.ir_text.specs.Writable.{FunctionWritable}
use Rattle.ir_core.proofs.Gets.{each_at}
use Rattle.clifinl.specs.GenCommand.{function_sites}
use Rattle.clifinl.proofs.Measures.{few_sites, one_more}
use Rattle.clifinl.proofs.summary.count_sites.Goals as goal

pub loop-i-preserved : goal.loop-i-preserved
loop-i-preserved c =
    let m = c.args.module.now in let f = c.func.result.now.function in
    let writable = each_at FunctionWritable m c.loop-i.i f c.requires.functions c.func.ensures.at in
    let more = one_more (function_sites m) m c.loop-i.i f c.func.ensures.at in
    record {
      sum = omega (arith, c.loop-i.invariant.sum, c.count_func_sites.ensures, more);
      bound = omega (arith, c.loop-i.invariant.bound, c.count_func_sites.ensures, few_sites m f, writable.size);
    }
