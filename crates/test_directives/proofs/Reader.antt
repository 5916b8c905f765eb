-- The comments of a function, one after the other.
use Rattle.std.proofs.Common.{◌≡◌, ℕ, suc, ◌+◌, ◌<◌, true, false, List, [], ◌∷◌, length, map, drop, get_or, Some, refl, sym, ap, ◌∙◌, arith, drop-cons}
use Rattle.clif_lex.specs.declared.spans.Token.{Token}
use Rattle.clif_read.specs.declared.raw.RawFunction.{RawFunction}
use Rattle.test_directives.specs.declared.places.PlacedComment.{PlacedComment}
use Rattle.test_directives.specs.Directives.{comment_of}
use Rattle.test_directives.specs.Placing.{placed_of}
use Rattle.test_directives.specs.Reading.{Read, Reads, stops, finished_by, stopped_by, tests_by, bad_by}
use Rattle.test_directives.specs.Tests.{comments, first_spot, tests_of, all_tests, first_bad, first_bad_of, or_else}
use Rattle.test_directives.proofs.Finishing.{finished_step, stopped_step, stopped_here, same_functions}
use Rattle.test_directives.proofs.Placed.{between_comments}

ahead : (cs : List PlacedComment) (i : ℕ) (x : PlacedComment) → i < length cs → map placed_of (drop i cs) ≡ placed_of (get_or cs i x) ∷ map placed_of (drop (i + 1) cs)
ahead cs i x less =
    let e : suc i ≡ i + 1 = omega arith in
    ap (map placed_of) (drop-cons cs i x less ∙ ap (λ (k : ℕ). get_or cs i x ∷ drop k cs) e)

pub tests_go_on : (old new : Read) (cs : List PlacedComment) (i : ℕ) (x : PlacedComment) → i < length cs → Reads old (placed_of (get_or cs i x)) new
    → finished_by new (map placed_of (drop (i + 1) cs)) ≡ finished_by old (map placed_of (drop i cs))
tests_go_on old new cs i x less reads =
    ap (λ (r : Read). finished_by r (map placed_of (drop (i + 1) cs))) reads.1
    ∙ (finished_step old (placed_of (get_or cs i x)) (map placed_of (drop (i + 1) cs)) ∙ ap (finished_by old) (sym (ahead cs i x less)))

pub stops_go_on : (old new : Read) (cs : List PlacedComment) (i : ℕ) (x : PlacedComment) → i < length cs → Reads old (placed_of (get_or cs i x)) new
    → stopped_by new (map placed_of (drop (i + 1) cs)) ≡ stopped_by old (map placed_of (drop i cs))
stops_go_on old new cs i x less reads =
    ap (λ (r : Read). stopped_by r (map placed_of (drop (i + 1) cs))) reads.1
    ∙ (stopped_step old (placed_of (get_or cs i x)) (map placed_of (drop (i + 1) cs)) reads.0 ∙ ap (stopped_by old) (sym (ahead cs i x less)))

pub functions_go_on : (old new : Read) (cs : List PlacedComment) (i : ℕ) (x : PlacedComment) → Reads old (placed_of (get_or cs i x)) new → new.functions ≡ old.functions
functions_go_on old new cs i x reads = ap (λ (r : Read). r.functions) reads.1 ∙ same_functions old (placed_of (get_or cs i x)) (comment_of (placed_of (get_or cs i x)).text)

pub stops_at : (old : Read) (cs : List PlacedComment) (i : ℕ) (x : PlacedComment) → i < length cs → stops old (comment_of (placed_of (get_or cs i x)).text) ≡ true
    → stopped_by old (map placed_of (drop i cs)) ≡ Some (placed_of (get_or cs i x)).line
stops_at old cs i x less e = ap (stopped_by old) (ahead cs i x less) ∙ stopped_here old (placed_of (get_or cs i x)) (map placed_of (drop (i + 1) cs)) e

-- ---- dealt out to the functions

pub tests_same : (text : List ℕ) (ts : List Token) (fs : List RawFunction) → tests_by text (comments text ts) fs ≡ all_tests text ts fs
tests_same text ts [] = refl
tests_same text ts (f ∷ fs) =
    let own = sym (between_comments text ts f.spot (first_spot text fs)) in
    let rest = tests_same text ts fs in
    (λ j. tests_of text f (own j) ∷ rest j)

pub bad_same : (text : List ℕ) (ts : List Token) (every fs : List RawFunction) → bad_by text (comments text ts) every fs ≡ first_bad_of text ts every fs
bad_same text ts every [] = refl
bad_same text ts every (f ∷ fs) =
    let own = sym (between_comments text ts f.spot (first_spot text fs)) in
    let rest = bad_same text ts every fs in
    (λ j. or_else (first_bad every false false (own j)) (rest j))
