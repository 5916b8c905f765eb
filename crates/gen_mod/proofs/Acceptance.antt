-- A generated module is one, every rule accepts it, and it has a text.
use Rattle.std.proofs.Common.{◌≡◌, ℕ, zero, suc, ◌+◌, ◌<◌, ◌≤◌, ◌^◌, length, refl, ap, arith}
use Rattle.ir_core.specs.Lists.{Each}
use Rattle.ir_core.specs.WellFormed.{WellFormed, IsModule}
use Rattle.ir_core.proofs.Members.{each_in}
use Rattle.ir_semantics.specs.Accepted.{RulesHold, Accepted}
use Rattle.ir_text.specs.Writable.{FunctionWritable, Writable}
use Rattle.gen_mod.specs.Generated.{function, functions_from, generated}
use Rattle.gen_mod.proofs.EachShape.{of_function, of_functions}
use Rattle.gen_mod.proofs.Naming.{functions_differ}
use Rattle.gen_mod.proofs.ShapesWhole.{adding_whole, calling_two_whole, trying_whole, choosing_whole}
use Rattle.gen_mod.proofs.ShapesWritable.{adding_writable, calling_two_writable, trying_writable, choosing_writable}
use Rattle.gen_mod.proofs.ShapeRules.{Signed, adding_keeps, calling_two_keeps, trying_keeps, choosing_keeps}

pub generated_is_module : (number count : ℕ) → count ≤ 2 ^ 64 → IsModule (generated number count)
generated_is_module number count few = record {
  names = functions_differ count 0 number (omega (arith, few));
  whole = of_functions WellFormed (record {
    adds = λ i c small. adding_whole i c;
    calls_two = λ i a b p q. calling_two_whole i a b;
    tries = λ i a p. trying_whole i a;
    chooses = λ i c a small p. choosing_whole i c a;
  }) count 0 number;
}

signed : (number count : ℕ) → Each Signed (generated number count)
signed number count = of_functions Signed (record {
  adds = λ i c small. refl;
  calls_two = λ i a b p q. refl;
  tries = λ i a p. refl;
  chooses = λ i c a small p. refl;
}) count 0 number

pub generated_accepted : (number count : ℕ) → Accepted (generated number count)
generated_accepted number count =
    let m = generated number count in
    let same = signed number count in
    each_in (RulesHold m) m
    (of_functions (RulesHold m) (record {
      adds = adding_keeps m;
      calls_two = λ i a b p q. calling_two_keeps m same i a b;
      tries = λ i a p. trying_keeps m same i a;
      chooses = λ i c a small p. choosing_keeps m same i c a small;
    }) count 0 number)

length_functions : (count i state : ℕ) → length (functions_from count i state) ≡ count
unfolding functions_from
length_functions zero i state = refl
length_functions (suc count) i state = ap suc (length_functions count (i + 1) (function i state).1)

writable : (i state : ℕ) → i < 2 ^ 64 → FunctionWritable (function i state).0
writable = of_function (λ i f. i < 2 ^ 64 → FunctionWritable f) (record {
  adds = λ i c small here. adding_writable i c here small;
  calls_two = λ i a b p q here. calling_two_writable i a b here p q;
  tries = λ i a p here. trying_writable i a here p;
  chooses = λ i c a small p here. choosing_writable i c a here small p;
})

all_writable : (count i state : ℕ) → i + count ≤ 2 ^ 64 → Each FunctionWritable (functions_from count i state)
unfolding functions_from
all_writable zero i state few = tt
all_writable (suc count) i state few =
    (writable i state (omega arith), all_writable count (i + 1) (function i state).1 (omega arith))

pub generated_writable : (number count : ℕ) → count ≤ 65536 → Writable (generated number count)
generated_writable number count few = record {
  functions = all_writable count 0 number (omega arith);
  count = let n = length_functions count 0 number in omega arith;
}
