-- How many sites the pass inlines: at most as many as the functions have parts.
use Rattle.std.proofs.Common.{◌*◌, ◌≤◌, List, [], ◌∷◌, length, arith, length-append}
use Rattle.std.specs.List.{sum_by}
use Rattle.std.proofs.lemmas.List.Sums.{sum-map, sum_by-cons}
use Rattle.ir_core.specs.Lists.{Each}
use Rattle.ir_core.specs.Module.{Block, Function, Module}
use Rattle.ir_core.specs.Size.{block_size, size_of, total}
use Rattle.ir_text.specs.Writable.{FunctionWritable}
use Rattle.inline_pass.specs.Finished.{finished_body}
use Rattle.inline_pass.specs.Inlined.{all_inlined, inlined}
use Rattle.inline_pass.specs.Policy.{Policy}
use Rattle.inline_pass.specs.Sites.{own_sites, sites_in}
use Rattle.inline_finish.proofs.Counts.{inlined_most, sites_most}
use Rattle.clifinl.proofs.Measures.{length_few}

own_most : (bs : List Block) → length (own_sites bs) ≤ total block_size bs
own_most [] = omega arith
own_most (b ∷ bs) = omega (arith, sites_most b.number 0 b.lines, length_few b.lines, own_most bs, length-append (sites_in b.number 0 b.lines) (own_sites bs))

function_most : (p : Policy) (m : Module) (f : Function) → inlined p m f ≤ size_of f
function_most p m f = omega (arith, inlined_most (finished_body p m f.name) p (λ q. q) (own_sites f.blocks) f, own_most f.blocks)

sum_most : (p : Policy) (m fs : Module) → Each FunctionWritable fs → sum_by (inlined p m) fs ≤ 262144 * length fs
sum_most p m [] w = omega arith
sum_most p m (f ∷ fs) w = omega (arith, sum_by-cons (inlined p m) f fs, function_most p m f, w.0.size, sum_most p m fs w.1)

pub few_inlined : (p : Policy) (m : Module) → Each FunctionWritable m → all_inlined p m ≤ 262144 * length m
few_inlined p m w = omega (arith, sum-map (inlined p m) m, sum_most p m m w)
