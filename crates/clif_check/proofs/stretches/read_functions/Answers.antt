use Rattle.std.proofs.Common.{◌≡◌, List, [], ◌∷◌, ◌++◌, length, Ok, refl, sym, ◌∙◌, arith, rules}
use Rattle.clif_words.specs.declared.class.Class.TheVariants as classes
use Rattle.clif_words.specs.Classes.{code}
use Rattle.token_reader.specs.Reading.{each, with_front}
use Rattle.token_reader.proofs.Loops.{goes_on, is_done}
use Rattle.clif_read.specs.declared.raw.RawFunction.{RawFunction}
use Rattle.clif_read.specs.Modules.{function_at, functions_at}
use Rattle.clif_read.proofs.Functions.{all_read}
use Rattle.clif_check.proofs.MeantLaws.{function_has_blocks, kept_none, kept_join}
use Rattle.clif_check.proofs.stretches.read_functions.Goals as goal

pub keep_function-requires : goal.keep_function-requires
keep_function-requires c = function_has_blocks c.functions.reader c.read_function.new.reader c.in-Ok.raw c.in-Ok.ensures.is

pub functions-init : goal.functions-init
functions-init c = ([], (length c.args.reader.now, omega arith, refl), rw c.new-functions.ensures.items (kept_none c.args.part))

pub functions-preserved : goal.functions-preserved
functions-preserved c =
    let (rs, keeps, kept) = c.functions.invariant in
    let raw = c.in-Ok.raw in
    let func = c.in_ok-func.func in
    let total = with_front (let none : List RawFunction = [] in none) (each function_at (code classes.Function ∷ []) (length c.args.reader.now) c.args.reader.now) in
    let pushed : c.push.new.self.items ≡ c.functions.functions.items ++ func ∷ [] = search rules in (
      rs ++ raw ∷ [],
      goes_on function_at (code classes.Function ∷ []) rs c.functions.reader c.read_function.new.reader raw total (sym c.next_is.ensures ∙ c.functions-test.true) c.in-Ok.ensures.is c.in-Ok.ensures.shorter keeps,
      rw pushed (kept_join c.args.part rs (raw ∷ []) c.functions.functions.items (func ∷ []) kept c.in_ok-func.ensures),
    )

pub returns : goal.returns
unfolding functions_at
returns c =
    let (rs, keeps, kept) = c.functions.invariant in
    let total = with_front (let none : List RawFunction = [] in none) (each function_at (code classes.Function ∷ []) (length c.args.reader.now) c.args.reader.now) in
    let read : functions_at c.args.reader.now ≡ Ok (rs, c.functions.reader) = is_done function_at (code classes.Function ∷ []) rs c.functions.reader total (sym c.next_is.ensures ∙ c.functions-test.false) keeps in
    (rs, all_read c.args.reader.now c.functions.reader rs read (sym c.is_at_end.ensures ∙ c.if-not-is_at_end.false), kept)
