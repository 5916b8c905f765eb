use Rattle.std.proofs.Common.{◌≡◌, List, [], ◌∷◌, ◌++◌, length, Ok, refl, sym, ◌∙◌, arith, rules}
use Rattle.clif_words.specs.declared.class.Class.TheVariants as classes
use Rattle.clif_words.specs.Classes.{code}
use Rattle.token_reader.specs.Reading.{each, with_front}
use Rattle.token_reader.proofs.Loops.{goes_on, is_done}
use Rattle.clif_read.specs.declared.raw.RawFunction.{RawFunction}
use Rattle.clif_read.specs.Modules.{function_at, functions_at}
use Rattle.clif_read.proofs.Functions.{all_read}
use Rattle.clif_check.proofs.MeantLaws.{function_has_blocks}
use Rattle.canonical_text.proofs.PrintedLaws.{puts_none, puts_join}
use Rattle.canonical_text.proofs.functions.put_tokens.Goals as goal

pub put_meant-requires : goal.put_meant-requires
put_meant-requires g c = function_has_blocks c.functions.reader c.read_function.new.reader c.in-Ok.raw c.in-Ok.ensures.is

pub functions-init : goal.functions-init
functions-init g c = ([], (length c.args.reader.now, omega arith, refl), rw c.new-heads.ensures.items puts_none)

pub functions-preserved : goal.functions-preserved
functions-preserved g c =
    let (rs, keeps, put) = c.functions.invariant in
    let raw = c.in-Ok.raw in
    let head = c.in_ok-head.head in
    let total = with_front (let none : List RawFunction = [] in none) (each function_at (code classes.Function ∷ []) (length c.args.reader.now) c.args.reader.now) in
    let pushed : c.push.new.self.items ≡ c.functions.heads.items ++ head ∷ [] = search rules in (
      rs ++ raw ∷ [],
      goes_on function_at (code classes.Function ∷ []) rs c.functions.reader c.read_function.new.reader raw total (sym c.next_is.ensures ∙ c.functions-test.true) c.in-Ok.ensures.is c.in-Ok.ensures.shorter keeps,
      rw pushed (puts_join rs (raw ∷ []) c.functions.heads.items (head ∷ []) put c.in_ok-head.ensures),
    )

pub returns : goal.returns
unfolding functions_at
returns g c =
    let (rs, keeps, put) = c.functions.invariant in
    let total = with_front (let none : List RawFunction = [] in none) (each function_at (code classes.Function ∷ []) (length c.args.reader.now) c.args.reader.now) in
    let read : functions_at c.args.reader.now ≡ Ok (rs, c.functions.reader) = is_done function_at (code classes.Function ∷ []) rs c.functions.reader total (sym c.next_is.ensures ∙ c.functions-test.false) keeps in
    (rs, all_read c.args.reader.now c.functions.reader rs read (sym c.is_at_end.ensures ∙ c.if-not-is_at_end.false), put)
