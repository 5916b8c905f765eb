use Rattle.std.proofs.Common.{◌≡◌, ℕ, ◌<◌, ◌≤◌, List, [], ◌∷◌, ◌++◌, Option, None, Some, true, false, length, take, get_or, refl, sym, ap, subst, ◌∙◌, arith}
use Rattle.std.specs.Prelude.{is_some, is_none}
use Rattle.std.proofs.lemmas.List.{take_all}
use Rattle.std.proofs.lemmas.Option.{slice_get_read}
use Rattle.ir_core.specs.Edits.{Body}
use Rattle.ir_core.specs.Lists.{Each}
use Rattle.ir_core.specs.Lookup.{find_function}
use Rattle.ir_core.specs.Named.{IsIndex, functions_in, place_of}
use Rattle.ir_core.specs.Sound.{IsSound}
use Rattle.ir_core.specs.WellFormed.{DifferentNames}
use Rattle.ir_core.proofs.Apart.{met_again, not_met, one_more}
use Rattle.ir_core.proofs.Members.{each_join}
use Rattle.ir_core.proofs.Wholeness.{names_more}
use Rattle.ir_core.proofs.index.Names.of.Goals as goal

some_there : (o : Option ℕ) → is_none o ≡ false → is_some o ≡ true
some_there None e = cc
some_there (Some k) e = refl

none_there : (o : Option ℕ) → is_none o ≡ true → is_some o ≡ false
none_there None e = refl
none_there (Some k) e = cc

pub returns-then-not-branch-clause-functions : goal.returns-then-not-branch-clause-functions
returns-then-not-branch-clause-functions c =
    let xs = c.args.funcs.now in
    let k = c.functions.place in
    let x = c.index-funcs-place.result in
    let within : k < length xs = omega arith in
    let there : x ≡ get_or xs k x = c.index-funcs-place.is in
    let met = place_of x.function.name (functions_in (take k xs)) in
    let named = λ (f : Body). is_none (place_of f.function.name (functions_in (take k xs))) in
    met_again xs k x (slice_get_read xs (length xs) k x refl within there) (some_there met (ap named (sym c.get-func.ensures) ∙ (sym c.in_ok-add_other.ensures.cases ∙ c.if-not-branch.true)))

pub functions-preserved : goal.functions-preserved
functions-preserved c =
    let i = c.functions.invariant in
    let xs = c.args.funcs.now in
    let k = c.functions.place in
    let x = c.index-funcs-place.result in
    let within : k < length xs = omega arith in
    let there : x ≡ get_or xs k x = c.index-funcs-place.is in
    let more = sym (one_more xs k x within there) in
    let met = place_of x.function.name (functions_in (take k xs)) in
    let named = λ (f : Body). is_none (place_of f.function.name (functions_in (take k xs))) in
    let new : find_function x.function.name (functions_in (take k xs)) ≡ None =
    not_met x.function.name (functions_in (take k xs)) met refl (none_there met (ap named (sym c.get-func.ensures) ∙ (sym c.in_ok-add_other.ensures.cases ∙ c.if-not-branch.false))) in
    record {
      index = subst (IsIndex c.add_other.new.self) more (subst (λ (f : Body). IsIndex c.add_other.new.self (functions_in (take k xs) ++ (f.function ∷ []))) c.get-func.ensures (c.in_ok-add_other.ensures.added c.if-not-branch.false));
      apart = subst DifferentNames more (names_more (functions_in (take k xs)) x.function i.apart new);
      sound = subst (Each IsSound) more (each_join IsSound (functions_in (take k xs)) (x.function ∷ []) i.sound (subst (λ (f : Body). IsSound f.function) c.get-func.ensures c.add_other.ensures.sound, tt));
    }

pub returns : goal.returns
returns c =
    let i = c.functions.invariant in
    let xs = c.args.funcs.now in
    let past : length xs ≤ c.functions.place = omega arith in
    let all : take c.functions.place xs ≡ xs = take_all c.functions.place xs past in
    record {
      functions = subst (λ (ys : List Body). IsIndex c.functions.names (functions_in ys)) all i.index;
      names = subst (λ (ys : List Body). DifferentNames (functions_in ys)) all i.apart;
      sound = subst (λ (ys : List Body). Each IsSound (functions_in ys)) all i.sound;
    }
