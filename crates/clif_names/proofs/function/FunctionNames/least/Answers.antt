use Rattle.clif_names.proofs.FunctionLaws.{function_least}
use Rattle.clif_names.proofs.function.FunctionNames.least.Goals as goal

pub returns : goal.returns
returns c =
    let names = c.args.self.now in
    rw (c.of_function.ensures, c.requires.uses, c.requires.endless) (function_least c.args.func.now names.ends c.requires.ends)
