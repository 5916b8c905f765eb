-- Comments in order are cut at spots.
use Rattle.std.proofs.Common.{◌≡◌, ℕ, ◌+◌, ◌<◌, ◌≤◌, ◌-◌, zero, suc, Bool, true, false, cond, ◌&&◌, nat_lt, nat_le, List, [], ◌∷◌, length, take, drop, map, refl, sym, ap, subst, ◌∙◌, arith}
use Rattle.std.specs.List.{filter, prefix_len}
use Rattle.std.proofs.lemmas.Bool.{ltb-true, ltb-false, leb-true, leb-false}
use Rattle.clif_lex.specs.declared.spans.Token.{Token}
use Rattle.clif_lex.specs.Spelling.{StandFrom}
use Rattle.clif_words.specs.Lexemes.{is_comment}
use Rattle.ir_core.proofs.Ranges.{map_take, map_drop}
use Rattle.test_directives.specs.Tests.{Placed, placed, comments, comments_between}
use Rattle.test_directives.specs.Placing.{between, up_to, before, LeavesBehind, InOrder, InOrderFrom}

abbrev is_between : ℕ → ℕ → Placed → Bool
is_between from until c = nat_lt from c.spot && nat_lt c.spot until

-- the comments between two spots are those of all comments
pub between_comments : (text : List ℕ) (ts : List Token) (from until : ℕ) → comments_between text ts from until ≡ between (comments text ts) from until
between_comments text [] from until = refl
between_comments text (t ∷ ts) from until = go (is_comment t.kind) (is_between from until (placed text t)) refl (between_comments text ts from until)
  where
    keeps : (d : Bool) → comments_between text ts from until ≡ between (comments text ts) from until
        → map (placed text) (cond d (t ∷ filter (λ u. is_comment u.kind && (nat_lt from u.start && nat_lt u.start until)) ts) (filter (λ u. is_comment u.kind && (nat_lt from u.start && nat_lt u.start until)) ts))
        ≡ cond d (placed text t ∷ between (comments text ts) from until) (between (comments text ts) from until)
    keeps true ih = ap (λ (cs : List Placed). placed text t ∷ cs) ih
    keeps false ih = ih

    go : (a b : Bool) → is_between from until (placed text t) ≡ b → comments_between text ts from until ≡ between (comments text ts) from until
        → map (placed text) (cond (a && b) (t ∷ filter (λ u. is_comment u.kind && (nat_lt from u.start && nat_lt u.start until)) ts) (filter (λ u. is_comment u.kind && (nat_lt from u.start && nat_lt u.start until)) ts))
        ≡ filter (is_between from until) (map (placed text) (cond a (t ∷ filter (λ u. is_comment u.kind) ts) (filter (λ u. is_comment u.kind) ts)))
    go false b e ih = ih
    go true b e ih = keeps b ih ∙ sym (ap (λ (d : Bool). cond d (placed text t ∷ between (comments text ts) from until) (between (comments text ts) from until)) e)

-- ---- lists from their front on

drop_more : (n : ℕ) (c : Placed) (cs : List Placed) → drop (1 + n) (c ∷ cs) ≡ drop n cs
drop_more n c cs = let e : 1 + n ≡ suc n = omega arith in ap (λ (k : ℕ). drop k (c ∷ cs)) e

take_more : (n : ℕ) (c : Placed) (cs : List Placed) → take (1 + n) (c ∷ cs) ≡ c ∷ take n cs
take_more n c cs = let e : 1 + n ≡ suc n = omega arith in ap (λ (k : ℕ). take k (c ∷ cs)) e

abbrev behind_run : (Placed → Bool) → List Placed → List Placed
behind_run p cs = drop (prefix_len p cs) cs

run_goes_on : (p : Placed → Bool) (c : Placed) (cs : List Placed) → p c ≡ true → behind_run p (c ∷ cs) ≡ behind_run p cs
run_goes_on p c cs e = ap (λ (d : Bool). drop (cond d (1 + prefix_len p cs) 0) (c ∷ cs)) e ∙ drop_more (prefix_len p cs) c cs

run_ends : (p : Placed → Bool) (c : Placed) (cs : List Placed) → p c ≡ false → behind_run p (c ∷ cs) ≡ c ∷ cs
run_ends p c cs e = ap (λ (d : Bool). drop (cond d (1 + prefix_len p cs) 0) (c ∷ cs)) e

-- ---- order

weaker : (m n : ℕ) (cs : List Placed) → m ≤ n → InOrderFrom n cs → InOrderFrom m cs
weaker m n [] le o = tt
weaker m n (c ∷ cs) le o = let a = o.0 in (omega arith, o.1)

pub in_order_behind : (p : Placed → Bool) (n : ℕ) (cs : List Placed) → InOrderFrom n cs → InOrderFrom n (behind_run p cs)
in_order_behind p n [] o = tt
in_order_behind p n (c ∷ cs) o = go (p c) refl (in_order_behind p n cs (weaker n c.spot cs o.0 o.1))
  where
    go : (b : Bool) → p c ≡ b → InOrderFrom n (behind_run p cs) → InOrderFrom n (behind_run p (c ∷ cs))
    go true e ih = subst (InOrderFrom n) (sym (run_goes_on p c cs e)) ih
    go false e ih = subst (InOrderFrom n) (sym (run_ends p c cs e)) o

-- ---- what stands between

passed : (from until : ℕ) (c : Placed) (cs : List Placed) → c.spot ≤ from → between (c ∷ cs) from until ≡ between cs from until
passed from until c cs le = go (nat_lt from c.spot) refl
  where
    go : (b : Bool) → nat_lt from c.spot ≡ b → between (c ∷ cs) from until ≡ between cs from until
    go true e = absurd (let l = ltb-true from c.spot e in omega arith)
    go false e = ap (λ (d : Bool). cond (d && nat_lt c.spot until) (c ∷ between cs from until) (between cs from until)) e

outside : (from until : ℕ) (c : Placed) (cs : List Placed) → until ≤ c.spot → between (c ∷ cs) from until ≡ between cs from until
outside from until c cs le = go (nat_lt from c.spot) (nat_lt c.spot until) refl
  where
    go : (a b : Bool) → nat_lt c.spot until ≡ b → cond (a && nat_lt c.spot until) (c ∷ between cs from until) (between cs from until) ≡ between cs from until
    go a true e = absurd (let l = ltb-true c.spot until e in omega arith)
    go true false e = ap (λ (d : Bool). cond d (c ∷ between cs from until) (between cs from until)) e
    go false false e = refl

inside : (from until : ℕ) (c : Placed) (cs : List Placed) → from < c.spot → nat_lt c.spot until ≡ true → between (c ∷ cs) from until ≡ c ∷ between cs from until
inside from until c cs less e = go (nat_lt from c.spot) refl
  where
    go : (b : Bool) → nat_lt from c.spot ≡ b → between (c ∷ cs) from until ≡ c ∷ between cs from until
    go true h = (λ j. cond (h j && nat_lt c.spot until) (c ∷ between cs from until) (between cs from until)) ∙ ap (λ (d : Bool). cond d (c ∷ between cs from until) (between cs from until)) e
    go false h = absurd (let l = ltb-false from c.spot h in omega arith)

none_behind : (from until n : ℕ) (cs : List Placed) → until ≤ n → InOrderFrom n cs → between cs from until ≡ []
none_behind from until n [] le o = refl
none_behind from until n (c ∷ cs) le o =
    let a = o.0 in
    outside from until c cs (omega arith) ∙ none_behind from until c.spot cs (omega arith) o.1

own_front : (from until n : ℕ) (cs : List Placed) → from < n → InOrderFrom n cs → take (before until cs) cs ≡ between cs from until
own_front from until n [] less o = refl
own_front from until n (c ∷ cs) less o =
    let a = o.0 in
    let l : from < c.spot = omega arith in
    go (nat_lt c.spot until) refl l (own_front from until c.spot cs l o.1)
  where
    go : (b : Bool) → nat_lt c.spot until ≡ b → from < c.spot → take (before until cs) cs ≡ between cs from until
        → take (before until (c ∷ cs)) (c ∷ cs) ≡ between (c ∷ cs) from until
    go true e le ih =
        ap (λ (d : Bool). take (cond d (1 + before until cs) 0) (c ∷ cs)) e ∙ (take_more (before until cs) c cs
        ∙ (ap (λ (ds : List Placed). c ∷ ds) ih ∙ sym (inside from until c cs le e)))
    go false e le ih =
        let far = ltb-false c.spot until e in
        ap (λ (d : Bool). take (cond d (1 + before until cs) 0) (c ∷ cs)) e ∙ sym (none_behind from until c.spot (c ∷ cs) far (omega arith, o.1))

-- those between two spots are those up to the second, behind those up to the first
pub own_comments : (from until n : ℕ) (cs : List Placed) → InOrderFrom n cs
    → take (before until (drop (up_to from cs) cs)) (drop (up_to from cs) cs) ≡ between cs from until
own_comments from until n [] o = refl
own_comments from until n (c ∷ cs) o = go (nat_le c.spot from) refl (own_comments from until c.spot cs o.1)
  where
    go : (b : Bool) → nat_le c.spot from ≡ b → take (before until (drop (up_to from cs) cs)) (drop (up_to from cs) cs) ≡ between cs from until
        → take (before until (behind_run (λ d. nat_le d.spot from) (c ∷ cs))) (behind_run (λ d. nat_le d.spot from) (c ∷ cs)) ≡ between (c ∷ cs) from until
    go true e ih =
        ap (λ (ds : List Placed). take (before until ds) ds) (run_goes_on (λ d. nat_le d.spot from) c cs e) ∙ (ih ∙ sym (passed from until c cs (leb-true c.spot from e)))
    go false e ih =
        ap (λ (ds : List Placed). take (before until ds) ds) (run_ends (λ d. nat_le d.spot from) c cs e) ∙ (own_front from until c.spot (c ∷ cs) (leb-false c.spot from e) (omega arith, o.1))

run_passed : (p : Placed → Bool) (from until : ℕ) → ((c : Placed) → p c ≡ true → c.spot ≤ from) → (cs : List Placed) → between cs from until ≡ between (behind_run p cs) from until
run_passed p from until low [] = refl
run_passed p from until low (c ∷ cs) = go (p c) refl (run_passed p from until low cs)
  where
    go : (b : Bool) → p c ≡ b → between cs from until ≡ between (behind_run p cs) from until → between (c ∷ cs) from until ≡ between (behind_run p (c ∷ cs)) from until
    go true e ih =
        passed from until c cs (low c e) ∙ (ih ∙ sym (ap (λ (ds : List Placed). between ds from until) (run_goes_on p c cs e)))
    go false e ih = sym (ap (λ (ds : List Placed). between ds from until) (run_ends p c cs e))

pub leaves_behind : (from until : ℕ) (cs : List Placed) → from ≤ until
    → LeavesBehind until cs (drop (before until (drop (up_to from cs) cs)) (drop (up_to from cs) cs))
leaves_behind from until cs le start stop low =
    run_passed (λ c. nat_le c.spot from) start stop (λ c e. let l = leb-true c.spot from e in omega arith) cs
    ∙ run_passed (λ c. nat_lt c.spot until) start stop (λ c e. let l = ltb-true c.spot until e in omega arith) (drop (up_to from cs) cs)

pub in_order_left : (from until n : ℕ) (cs : List Placed) → InOrderFrom n cs
    → InOrderFrom n (drop (before until (drop (up_to from cs) cs)) (drop (up_to from cs) cs))
in_order_left from until n cs o =
    in_order_behind (λ c. nat_lt c.spot until) n (drop (up_to from cs) cs) (in_order_behind (λ c. nat_le c.spot from) n cs o)

-- ---- cuts seen through a view

pub prefix_of_map : {A B : Type 0} (f : A → B) (p : B → Bool) (xs : List A) → prefix_len p (map f xs) ≡ prefix_len (λ x. p (f x)) xs
prefix_of_map f p [] = refl
prefix_of_map f p (x ∷ xs) = ap (λ (n : ℕ). cond (p (f x)) (1 + n) 0) (prefix_of_map f p xs)

drop_none : {A : Type 0} (n : ℕ) (xs : List A) → length xs ≡ 0 → drop n xs ≡ []
drop_none zero [] e = refl
drop_none (suc n) [] e = refl
drop_none n (x ∷ xs) e = absurd (omega arith)

pub drop_twice : {A : Type 0} (m n : ℕ) (xs : List A) → drop (m + n) xs ≡ drop n (drop m xs)
drop_twice zero n xs = let e : 0 + n ≡ n = omega arith in ap (λ (k : ℕ). drop k xs) e
drop_twice {A} (suc m) n [] = let e : suc m + n ≡ suc (m + n) = omega arith in ap (λ (k : ℕ). drop {A = A} k []) e ∙ sym (drop_none {A = A} n [] refl)
drop_twice (suc m) n (x ∷ xs) = let e : suc m + n ≡ suc (m + n) = omega arith in ap (λ (k : ℕ). drop k (x ∷ xs)) e ∙ drop_twice m n xs

-- what a cut of comments between two spots takes
pub cut_own : {A : Type 0} (f : A → Placed) (xs : List A) (from until start count : ℕ) → InOrder (map f xs) → start ≡ prefix_len (λ x. nat_le (f x).spot from) xs
    → count ≡ prefix_len (λ x. nat_lt (f x).spot until) (drop start xs) → map f (take (start + count - start) (drop start xs)) ≡ between (map f xs) from until
cut_own f xs from until start count o at len =
    let less : start + count - start ≡ count = omega arith in
    let first : start ≡ up_to from (map f xs) = at ∙ sym (prefix_of_map f (λ c. nat_le c.spot from) xs) in
    let second : count ≡ before until (drop start (map f xs)) = len ∙ (sym (prefix_of_map f (λ c. nat_lt c.spot until) (drop start xs)) ∙ ap (before until) (map_drop f start xs)) in
    ap (λ (n : ℕ). map f (take n (drop start xs))) less
    ∙ (map_take f count (drop start xs) ∙ (ap (take count) (map_drop f start xs)
    ∙ (ap (λ (n : ℕ). take n (drop start (map f xs))) second
    ∙ (ap (λ (n : ℕ). take (before until (drop n (map f xs))) (drop n (map f xs))) first ∙ own_comments from until 0 (map f xs) o))))

pub cut_rest : {A : Type 0} (f : A → Placed) (xs : List A) (from until start count : ℕ) → start ≡ prefix_len (λ x. nat_le (f x).spot from) xs
    → count ≡ prefix_len (λ x. nat_lt (f x).spot until) (drop start xs)
    → map f (drop (start + count) xs) ≡ drop (before until (drop (up_to from (map f xs)) (map f xs))) (drop (up_to from (map f xs)) (map f xs))
cut_rest f xs from until start count at len =
    let first : start ≡ up_to from (map f xs) = at ∙ sym (prefix_of_map f (λ c. nat_le c.spot from) xs) in
    let second : count ≡ before until (drop start (map f xs)) = len ∙ (sym (prefix_of_map f (λ c. nat_lt c.spot until) (drop start xs)) ∙ ap (before until) (map_drop f start xs)) in
    map_drop f (start + count) xs ∙ (drop_twice start count (map f xs)
    ∙ (ap (λ (n : ℕ). drop n (drop start (map f xs))) second ∙ ap (λ (n : ℕ). drop (before until (drop n (map f xs))) (drop n (map f xs))) first))

-- the comments of tokens that stand one behind the other are in order
pub comments_in_order : (text : List ℕ) (from : ℕ) (ts : List Token) → StandFrom text from ts → InOrderFrom from (comments text ts)
comments_in_order text from [] s = tt
comments_in_order text from (t ∷ ts) s =
    let a = s.0 in
    let some = s.1.some in
    let rest = comments_in_order text t.end ts s.3 in
    go (is_comment t.kind) (weaker from t.end (comments text ts) (omega arith) rest) (omega (arith, a), weaker t.start t.end (comments text ts) (omega arith) rest)
  where
    go : (b : Bool) → InOrderFrom from (comments text ts) → (from ≤ t.start) × InOrderFrom t.start (comments text ts)
        → InOrderFrom from (map (placed text) (cond b (t ∷ filter (λ u. is_comment u.kind) ts) (filter (λ u. is_comment u.kind) ts)))
    go true rest all = all
    go false rest all = rest
