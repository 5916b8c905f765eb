-- What a comment changes, and what the comments behind it ask for, make what all of them ask for.
use Rattle.std.proofs.Common.{◌≡◌, ℕ, Bool, true, false, cond, ◌&&◌, ◌||◌, nat_lt, List, [], ◌∷◌, ◌++◌, map, Option, Some, None, refl, sym, ap, ◌∙◌, append_assoc}
use Rattle.std.specs.List.{filter}
use Rattle.std.proofs.lemmas.List.{append-nil}
use Rattle.test_directives.specs.Directives.{Directive, Run, Host, Trace, Lines, Error, LineTest, Comment, Plain, Asks, Bad, comment_of}
use Rattle.test_directives.specs.Tests.{Placed, RunTest, Said, said, said_by, traces, runs_with, line_tests, error_line, expected_line, expected_lines, is_plain, is_run, has_check_in, asks, or_else, first_bad}
use Rattle.test_directives.specs.Reading.{Read, has_run, with_events, continued, after_directive, after_comment, stops, finished, finished_by, stopped_by}

-- ---- the events of the last run

continued_none : (rs : List RunTest) → continued rs [] ≡ rs
continued_none [] = refl
continued_none (r ∷ []) = ap (λ (t : List (List ℕ)). record r { trace = t } ∷ []) (append-nil r.trace)
continued_none (r ∷ s ∷ rs) = ap (λ (ts : List RunTest). r ∷ ts) (continued_none (s ∷ rs))

continued_more : (rs : List RunTest) (xs ys : List (List ℕ)) → continued (continued rs xs) ys ≡ continued rs (xs ++ ys)
continued_more [] xs ys = refl
continued_more (r ∷ []) xs ys = ap (λ (t : List (List ℕ)). record r { trace = t } ∷ []) (append_assoc r.trace xs ys)
continued_more (r ∷ s ∷ []) xs ys = ap (λ (ts : List RunTest). r ∷ ts) (continued_more (s ∷ []) xs ys)
continued_more (r ∷ s ∷ t ∷ rs) xs ys = ap (λ (ts : List RunTest). r ∷ ts) (continued_more (s ∷ t ∷ rs) xs ys)

pub continued_last : (rs : List RunTest) (r : RunTest) (xs : List (List ℕ)) → continued (rs ++ r ∷ []) xs ≡ rs ++ with_events r xs ∷ []
continued_last [] r xs = refl
continued_last (q ∷ []) r xs = refl
continued_last (q ∷ s ∷ rs) r xs = ap (λ (ts : List RunTest). q ∷ ts) (continued_last (s ∷ rs) r xs)

pub has_run_last : (rs : List RunTest) (r : RunTest) → has_run (rs ++ r ∷ []) ≡ true
has_run_last [] r = refl
has_run_last (q ∷ rs) r = refl

has_run_continued : (rs : List RunTest) (xs : List (List ℕ)) → has_run (continued rs xs) ≡ has_run rs
has_run_continued [] xs = refl
has_run_continued (r ∷ []) xs = refl
has_run_continued (r ∷ s ∷ rs) xs = refl

-- ---- one directive

or_false : (b : Bool) → b ≡ (b || false)
or_false true = refl
or_false false = refl

or_true : (b : Bool) → true ≡ (b || true)
or_true true = refl
or_true false = refl

or_else_more : (a : Option ℕ) (line : ℕ) (b : Option ℕ) → or_else (or_else a (Some line)) b ≡ or_else a (Some line)
or_else_more (Some x) line b = refl
or_else_more None line b = refl

directive_step : (r : Read) (line : ℕ) (d : Directive) (ss : List Said) (plain : List (List ℕ))
    → finished (after_directive r line d) ss plain ≡ finished r (record { line = line; directive = d } ∷ ss) plain
directive_step r line (Run call) ss plain =
    let new : RunTest = record { line = line; call = call; script = r.script; trace = [] } in
    ap (λ (rs : List RunTest). record (finished r (record { line = line; directive = Run call } ∷ ss) plain) { runs = rs })
    (ap (λ (rs : List RunTest). rs ++ runs_with [] ss) (continued_last r.tests.runs new (traces ss))
    ∙ (append_assoc r.tests.runs (with_events new (traces ss) ∷ []) (runs_with [] ss)
    ∙ sym (ap (λ (rs : List RunTest). rs ++ (with_events new (traces ss) ∷ runs_with [] ss)) (continued_none r.tests.runs))))
directive_step r line (Host replies) ss plain = refl
directive_step r line (Trace event) ss plain =
    ap (λ (rs : List RunTest). record (finished r ss plain) { runs = rs ++ runs_with r.script ss }) (continued_more r.tests.runs (event ∷ []) (traces ss))
directive_step r line (Lines test) ss plain =
    ap (λ (ts : List LineTest). record (finished r ss plain) { lines = ts }) (append_assoc r.tests.lines (test ∷ []) (line_tests ss))
directive_step r line Error ss plain =
    ap (λ (e : Option ℕ). record (finished r ss plain) { error = e }) (or_else_more r.tests.error line (error_line ss))

-- ---- one comment

abbrev plain_too : Read → Placed → Comment → List (List ℕ) → List (List ℕ)
plain_too r c comment plain = cond (nat_lt r.end_spot c.spot && is_plain comment) (expected_line c.text ∷ plain) plain

none_more : (b : Bool) (x : List ℕ) (xs : List (List ℕ)) → cond (b && false) (x ∷ xs) xs ≡ xs
none_more true x xs = refl
none_more false x xs = refl

comment_step : (r : Read) (c : Placed) (comment : Comment) (ss : List Said) (plain : List (List ℕ))
    → finished (after_comment r c comment) ss plain ≡ finished r (said_by c.line comment ++ ss) (plain_too r c comment plain)
comment_step r c Plain ss plain = go (nat_lt r.end_spot c.spot)
  where
    go : (b : Bool) → finished (cond b (record r { tests = record r.tests { expected = r.tests.expected ++ expected_line c.text ∷ [] } }) r) ss plain
        ≡ finished r ss (cond (b && true) (expected_line c.text ∷ plain) plain)
    go true = ap (λ (e : List (List ℕ)). record (finished r ss plain) { expected = e }) (append_assoc r.tests.expected (expected_line c.text ∷ []) plain)
    go false = refl
comment_step r c (Asks d) ss plain =
    directive_step r c.line d ss plain
    ∙ ap (finished r (record { line = c.line; directive = d } ∷ ss)) (sym (none_more (nat_lt r.end_spot c.spot) (expected_line c.text) plain))
comment_step r c Bad ss plain = ap (finished r ss) (sym (none_more (nat_lt r.end_spot c.spot) (expected_line c.text) plain))

same_end : (r : Read) (c : Placed) (comment : Comment) → (after_comment r c comment).end_spot ≡ r.end_spot
same_end r c Plain = go (nat_lt r.end_spot c.spot)
  where
    go : (b : Bool) → (cond b (record r { tests = record r.tests { expected = r.tests.expected ++ expected_line c.text ∷ [] } }) r).end_spot ≡ r.end_spot
    go true = refl
    go false = refl
same_end r c (Asks (Run call)) = refl
same_end r c (Asks (Host replies)) = refl
same_end r c (Asks (Trace event)) = refl
same_end r c (Asks (Lines test)) = refl
same_end r c (Asks Error) = refl
same_end r c Bad = refl

pub same_functions : (r : Read) (c : Placed) (comment : Comment) → (after_comment r c comment).functions ≡ r.functions
same_functions r c Plain = go (nat_lt r.end_spot c.spot)
  where
    go : (b : Bool) → (cond b (record r { tests = record r.tests { expected = r.tests.expected ++ expected_line c.text ∷ [] } }) r).functions ≡ r.functions
    go true = refl
    go false = refl
same_functions r c (Asks (Run call)) = refl
same_functions r c (Asks (Host replies)) = refl
same_functions r c (Asks (Trace event)) = refl
same_functions r c (Asks (Lines test)) = refl
same_functions r c (Asks Error) = refl
same_functions r c Bad = refl

abbrev plain_behind : ℕ → List Placed → List Placed
plain_behind end cs = filter (λ d. nat_lt end d.spot && is_plain (comment_of d.text)) cs

lines_step : (end : ℕ) (c : Placed) (cs : List Placed)
    → expected_lines end (c ∷ cs) ≡ cond (nat_lt end c.spot && is_plain (comment_of c.text)) (expected_line c.text ∷ expected_lines end cs) (expected_lines end cs)
lines_step end c cs = go (nat_lt end c.spot && is_plain (comment_of c.text))
  where
    go : (b : Bool) → map (λ d. expected_line d.text) (cond b (c ∷ plain_behind end cs) (plain_behind end cs)) ≡ cond b (expected_line c.text ∷ expected_lines end cs) (expected_lines end cs)
    go true = refl
    go false = refl

pub finished_step : (r : Read) (c : Placed) (cs : List Placed) → finished_by (after_comment r c (comment_of c.text)) cs ≡ finished_by r (c ∷ cs)
finished_step r c cs =
    ap (λ (end : ℕ). finished (after_comment r c (comment_of c.text)) (said cs) (expected_lines end cs)) (same_end r c (comment_of c.text))
    ∙ (comment_step r c (comment_of c.text) (said cs) (expected_lines r.end_spot cs)
    ∙ ap (finished r (said_by c.line (comment_of c.text) ++ said cs)) (sym (lines_step r.end_spot c cs)))

-- ---- what stops

run_seen : (r : Read) (c : Placed) (comment : Comment) → has_run (after_comment r c comment).tests.runs ≡ (has_run r.tests.runs || asks is_run comment)
run_seen r c Plain = go (nat_lt r.end_spot c.spot)
  where
    go : (b : Bool) → has_run (cond b (record r { tests = record r.tests { expected = r.tests.expected ++ expected_line c.text ∷ [] } }) r).tests.runs ≡ (has_run r.tests.runs || false)
    go true = or_false (has_run r.tests.runs)
    go false = or_false (has_run r.tests.runs)
run_seen r c (Asks (Run call)) = has_run_last r.tests.runs (record { line = c.line; call = call; script = r.script; trace = [] }) ∙ or_true (has_run r.tests.runs)
run_seen r c (Asks (Host replies)) = or_false (has_run r.tests.runs)
run_seen r c (Asks (Trace event)) = has_run_continued r.tests.runs (event ∷ []) ∙ or_false (has_run r.tests.runs)
run_seen r c (Asks (Lines test)) = or_false (has_run r.tests.runs)
run_seen r c (Asks Error) = or_false (has_run r.tests.runs)
run_seen r c Bad = or_false (has_run r.tests.runs)

check_seen : (r : Read) (c : Placed) (comment : Comment) → (after_comment r c comment).has_check ≡ (r.has_check || asks has_check_in comment)
check_seen r c Plain = go (nat_lt r.end_spot c.spot)
  where
    go : (b : Bool) → (cond b (record r { tests = record r.tests { expected = r.tests.expected ++ expected_line c.text ∷ [] } }) r).has_check ≡ (r.has_check || false)
    go true = or_false r.has_check
    go false = or_false r.has_check
check_seen r c (Asks (Run call)) = or_false r.has_check
check_seen r c (Asks (Host replies)) = or_false r.has_check
check_seen r c (Asks (Trace event)) = or_false r.has_check
check_seen r c (Asks (Lines test)) = refl
check_seen r c (Asks Error) = or_false r.has_check
check_seen r c Bad = or_false r.has_check

pub stopped_here : (r : Read) (c : Placed) (cs : List Placed) → stops r (comment_of c.text) ≡ true → stopped_by r (c ∷ cs) ≡ Some c.line
stopped_here r c cs e =
    ap (λ (b : Bool). cond b (Some c.line) (first_bad r.functions (has_run r.tests.runs || asks is_run (comment_of c.text)) (r.has_check || asks has_check_in (comment_of c.text)) cs)) e

pub stopped_step : (r : Read) (c : Placed) (cs : List Placed) → stops r (comment_of c.text) ≡ false
    → stopped_by (after_comment r c (comment_of c.text)) cs ≡ stopped_by r (c ∷ cs)
stopped_step r c cs e =
    (λ j. first_bad (same_functions r c (comment_of c.text) j) (run_seen r c (comment_of c.text) j) (check_seen r c (comment_of c.text) j) cs)
    ∙ sym (ap (λ (b : Bool). cond b (Some c.line) (first_bad r.functions (has_run r.tests.runs || asks is_run (comment_of c.text)) (r.has_check || asks has_check_in (comment_of c.text)) cs)) e)

-- ---- the first and the last

pub finished_end : (r : Read) → finished_by r [] ≡ r.tests
finished_end r =
    let runs : continued r.tests.runs [] ++ [] ≡ r.tests.runs = append-nil (continued r.tests.runs []) ∙ continued_none r.tests.runs in
    let error : or_else r.tests.error None ≡ r.tests.error = none_else r.tests.error in
    (λ j. record r.tests { runs = runs j; lines = append-nil r.tests.lines j; error = error j; expected = append-nil r.tests.expected j })
  where
    none_else : (a : Option ℕ) → or_else a None ≡ a
    none_else (Some x) = refl
    none_else None = refl
