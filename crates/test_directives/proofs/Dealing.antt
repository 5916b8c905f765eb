-- One function after the other takes its comments.
use Rattle.std.proofs.Common.{◌≡◌, ℕ, ◌+◌, ◌-◌, ◌<◌, List, [], ◌∷◌, ◌++◌, length, map, take, drop, slice_get, Option, Some, None, refl, sym, ap, ◌∙◌, arith, length-drop, append_assoc}
use Rattle.std.proofs.lemmas.List.{take_all}
use Rattle.clif_lex.specs.Places.{line_at}
use Rattle.clif_read.specs.declared.raw.RawFunction.{RawFunction}
use Rattle.test_directives.specs.declared.places.PlacedComment.{PlacedComment}
use Rattle.test_directives.specs.Placing.{placed_of, between, LeavesBehind}
use Rattle.test_directives.specs.Reading.{bad_comment, tests_by, bad_by}
use Rattle.test_directives.specs.Tests.{Placed, FunctionTests, first_spot, tests_in, or_else}
use Rattle.test_directives.proofs.Placed.{drop_twice}

pub rest_is : {A : Type 0} (xs : List A) (n : ℕ) → take (length xs - n) (drop n xs) ≡ drop n xs
rest_is xs n = take_all (length xs - n) (drop n xs) (let l = length-drop n xs in omega arith)

-- the comments of the next function
pub own_of : (cs : List Placed) (xs own : List PlacedComment) (n : ℕ) (text : List ℕ) (f : RawFunction) (fs : List RawFunction)
    → LeavesBehind (first_spot text (f ∷ fs)) cs (map placed_of (drop n xs))
    → map placed_of own ≡ between (map placed_of (drop n xs)) f.spot (first_spot text fs) → map placed_of own ≡ between cs f.spot (first_spot text fs)
own_of cs xs own n text f fs left cut = cut ∙ sym (left f.spot (first_spot text fs) (omega arith))

pub tests_next : (text : List ℕ) (cs own : List Placed) (line : ℕ) (f : RawFunction) (fs all : List RawFunction) (done : List FunctionTests) (t : FunctionTests)
    → line ≡ line_at text f.spot → own ≡ between cs f.spot (first_spot text fs) → t ≡ tests_in line f own
    → done ++ tests_by text cs (f ∷ fs) ≡ tests_by text cs all → (done ++ t ∷ []) ++ tests_by text cs fs ≡ tests_by text cs all
tests_next text cs own line f fs all done t at is e before =
    append_assoc done (t ∷ []) (tests_by text cs fs)
    ∙ (ap (λ (u : FunctionTests). done ++ (u ∷ tests_by text cs fs)) (e ∙ (λ j. tests_in (at j) f (is j))) ∙ before)

pub bad_next : (text : List ℕ) (cs own : List Placed) (every : List RawFunction) (f : RawFunction) (fs : List RawFunction)
    → own ≡ between cs f.spot (first_spot text fs) → bad_comment every own ≡ None → bad_by text cs every fs ≡ bad_by text cs every (f ∷ fs)
bad_next text cs own every f fs is good =
    sym (ap (λ (o : Option ℕ). or_else o (bad_by text cs every fs)) (ap (bad_comment every) (sym is) ∙ good))

pub left_next : (cs : List Placed) (xs : List PlacedComment) (n end : ℕ) (text : List ℕ) (f : RawFunction) (fs : List RawFunction) → f.spot < first_spot text fs
    → LeavesBehind (first_spot text (f ∷ fs)) cs (map placed_of (drop n xs))
    → LeavesBehind (first_spot text fs) (map placed_of (drop n xs)) (map placed_of (drop end (drop n xs)))
    → LeavesBehind (first_spot text fs) cs (map placed_of (drop (n + end) xs))
left_next cs xs n end text f fs less before cut from until low =
    before from until (omega arith) ∙ (cut from until low ∙ sym (ap (λ (ys : List PlacedComment). between (map placed_of ys) from until) (drop_twice n end xs)))

-- ---- where the next function begins

pub first_some : (text : List ℕ) (g : RawFunction) (fs : List RawFunction) → Some g ≡ slice_get fs 0 → g.spot ≡ first_spot text fs
first_some text g [] e = absurd cc
first_some text g (f ∷ fs) e = let same : g ≡ f = cc in ap (λ (h : RawFunction). h.spot) same

pub first_none : (text : List ℕ) (fs : List RawFunction) → (let o : Option RawFunction = None in o) ≡ slice_get fs 0 → length text ≡ first_spot text fs
first_none text [] e = refl
first_none text (f ∷ fs) e = absurd cc
