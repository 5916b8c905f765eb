-- What the parts of a `run:` mean, read from left to right.
use Rattle.std.proofs.Common.{◌≡◌, ℕ, ℤ, ◌==◌, Bool, false, List, length, cond, Option, Some, None, sym, ap, ◌∙◌}
use Rattle.std.specs.List.{list_all}
use Rattle.ir_core.specs.Lookup.{and_then}
use Rattle.test_directives.specs.Blanks.{trim_front}
use Rattle.test_directives.specs.declared.marks.Mark.{Mark}
use Rattle.test_directives.specs.declared.marks.Mark.TheVariants as marks
use Rattle.test_directives.specs.Marks.{behind_mark, begins, is_in}
use Rattle.test_directives.specs.Frame as frame
use Rattle.test_directives.specs.Frame.{meaning}
use Rattle.test_directives.specs.Directives.{Expectation, Wanted, Call, Values, Return, Equal, Unequal, name_of, values_of, plain_expectation, listed_value, plain_value, expectation_value, signed_value, equal_value, unequal_value, wanted_value, run_value, run_of}
use Rattle.test_directives.proofs.Parts.{front, back, empty_is, Anywhere, listed_is, listed_anywhere, plain_is, plain_anywhere, expectation_is, expectation_anywhere, signed_is, signed_anywhere, map_is, map_anywhere, wanted_is, wanted_anywhere, run_is}

pub listed_reads : (t : List ℕ)
    → meaning frame.listed listed_value t ≡ and_then (behind_mark marks.LeftBracket t) (λ rest. and_then (behind_mark marks.RightBracket (back rest)) (λ more. cond (length (trim_front more) == 0) (and_then (values_of (front rest)) (λ numbers. Some (Values numbers))) None))
listed_reads t =
    listed_is (λ x. and_then (values_of x) (λ numbers. Some (Values numbers))) 0 t
    ∙ (λ j. and_then (behind_mark marks.LeftBracket t) (λ rest. and_then (behind_mark marks.RightBracket (back rest)) (λ more. empty_is (trim_front more) (and_then (values_of (front rest)) (λ numbers. Some (Values numbers))) None j)))

pub plain_reads : (t : List ℕ) → meaning frame.plain plain_value t ≡ and_then (behind_mark marks.Other t) (λ rest. cond (list_all (is_in frame.plain_letter) rest) (plain_expectation t) None)
plain_reads t = plain_is plain_expectation 0 t

listed_there : Anywhere frame.listed listed_value
listed_there = listed_anywhere (λ x. and_then (values_of x) (λ numbers. Some (Values numbers)))

plain_there : Anywhere frame.plain plain_value
plain_there = plain_anywhere plain_expectation

pub expectation_reads : (t : List ℕ)
    → meaning frame.expectation expectation_value t ≡ cond (begins marks.LeftBracket (trim_front t)) (meaning frame.listed listed_value (trim_front t)) (meaning frame.plain plain_value (trim_front t))
expectation_reads t = expectation_is listed_value plain_value listed_there plain_there 0 t

expectation_there : Anywhere frame.expectation expectation_value
expectation_there = expectation_anywhere listed_value plain_value listed_there plain_there

pub signed_reads : (m : Mark) (t : List ℕ)
    → meaning (frame.signed m) (signed_value m) t ≡ and_then (behind_mark m t) (λ rest. and_then (behind_mark marks.Equals rest) (λ more. meaning frame.expectation expectation_value more))
signed_reads m t = signed_is m expectation_value expectation_there 0 t

signed_there : (m : Mark) → Anywhere (frame.signed m) (signed_value m)
signed_there m = signed_anywhere m expectation_value expectation_there

pub equal_reads : (t : List ℕ) → meaning (frame.signed marks.Equals) equal_value t ≡ and_then (meaning (frame.signed marks.Equals) (signed_value marks.Equals) t) (λ e. Some (Equal e))
equal_reads t = map_is (frame.signed marks.Equals) (signed_value marks.Equals) (λ e. Some (Equal e)) 0 t

pub unequal_reads : (t : List ℕ) → meaning (frame.signed marks.Bang) unequal_value t ≡ and_then (meaning (frame.signed marks.Bang) (signed_value marks.Bang) t) (λ e. Some (Unequal e))
unequal_reads t = map_is (frame.signed marks.Bang) (signed_value marks.Bang) (λ e. Some (Unequal e)) 0 t

equal_there : Anywhere (frame.signed marks.Equals) equal_value
equal_there = map_anywhere (frame.signed marks.Equals) (signed_value marks.Equals) (λ e. Some (Equal e)) (signed_there marks.Equals)

unequal_there : Anywhere (frame.signed marks.Bang) unequal_value
unequal_there = map_anywhere (frame.signed marks.Bang) (signed_value marks.Bang) (λ e. Some (Unequal e)) (signed_there marks.Bang)

pub wanted_reads : (t : List ℕ)
    → meaning frame.wanted wanted_value t ≡ cond (length (trim_front t) == 0) (Some Return) (cond (begins marks.Equals (trim_front t)) (meaning (frame.signed marks.Equals) equal_value (trim_front t)) (meaning (frame.signed marks.Bang) unequal_value (trim_front t)))
wanted_reads t =
    wanted_is (Some Return) equal_value unequal_value equal_there unequal_there 0 t
    ∙ empty_is (trim_front t) (Some Return) (cond (begins marks.Equals (trim_front t)) (meaning (frame.signed marks.Equals) equal_value (trim_front t)) (meaning (frame.signed marks.Bang) unequal_value (trim_front t)))

abbrev by_begins : List ℕ → Bool → Option Wanted
by_begins rest b = cond b (meaning (frame.signed marks.Equals) equal_value rest) (meaning (frame.signed marks.Bang) unequal_value rest)

-- what is wanted where something stands behind the blanks, by whether it begins with `=`
pub wanted_by : (t rest : List ℕ) (b : Bool) → rest ≡ trim_front t → (length rest == 0) ≡ false → begins marks.Equals rest ≡ b → by_begins rest b ≡ meaning frame.wanted wanted_value t
wanted_by t rest b e some first =
    sym (wanted_reads t
    ∙ (ap (λ (x : List ℕ). cond (length x == 0) (Some Return) (by_begins x (begins marks.Equals x))) (sym e)
    ∙ (ap (λ (d : Bool). cond d (Some Return) (by_begins rest (begins marks.Equals rest))) some ∙ ap (by_begins rest) first)))

wanted_there : Anywhere frame.wanted wanted_value
wanted_there = wanted_anywhere (Some Return) equal_value unequal_value equal_there unequal_there

abbrev made : List ℕ → List ℤ → Wanted → Option Call
made name numbers wanted = Some (record { name = name; numbers = numbers; wanted = wanted })

pub run_reads : (t : List ℕ)
    → run_of t ≡ and_then (behind_mark marks.LeftParen (back t)) (λ rest. and_then (behind_mark marks.RightParen (back rest)) (λ more.
    and_then (name_of (front t)) (λ name. and_then (values_of (front rest)) (λ numbers. and_then (meaning frame.wanted wanted_value more) (λ wanted. Some (record { name = name; numbers = numbers; wanted = wanted }))))))
run_reads t = run_is name_of values_of wanted_value made wanted_there 0 t
