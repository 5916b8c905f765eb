-- Each rule of a `run:`, read from left to right.
use Rattle.std.proofs.Common.{◌≡◌, ℕ, zero, suc, ◌+◌, ◌==◌, Bool, true, false, ◌&&◌, cond, List, [], ◌∷◌, length, take, drop, map, pos, Option, Some, None, Ok, Err, refl, sym, ap, ◌∙◌, arith}
use Rattle.std.proofs.lemmas.Bool.Decides.{nat_tests}
use Rattle.std.specs.List.{prefix_len, list_all}
use Rattle.grammar.specs.Rules.{Lexeme, Rule, Tok, Seq, Alt, Opt, Many, Tree, Out, heads, heads_any, member, firsts, read}
use Rattle.ir_core.specs.Lookup.{and_then}
use Rattle.token_reader.specs.Values.{◌otherwise◌, perhaps}
use Rattle.test_directives.specs.Blanks.{trim_front}
use Rattle.test_directives.specs.declared.marks.Mark.{Mark}
use Rattle.test_directives.specs.declared.marks.Mark.TheVariants.{Blank, LeftParen, RightParen, LeftBracket, RightBracket, Equals, Bang, Other}
use Rattle.test_directives.specs.Marks.{code, mark_of, token_of, bytes_from, behind_mark, begins, is_in, count}
use Rattle.test_directives.specs.Frame.{one, letter, field, blanks, plain_letter, byte, plain_byte, letter_byte, field_text, plain_text, listed, plain, expectation, signed, wanted, run, meaning_from}
use Rattle.test_directives.proofs.Words.{drop_more, take_more}
use Rattle.test_directives.proofs.Frame.{ended, meant, seq_ok, tok_is, first_is, alt_is, opt_is, tok_single, letter_single, plain_single, many_is, trimmed_is}

abbrev pub front : List ℕ → List ℕ
front t = take (count letter t) t

abbrev pub back : List ℕ → List ℕ
back t = drop (count letter t) t

-- the meaning is the same at every spot
abbrev pub Anywhere : {A : Type 0} (r : Rule) → (Tree r → Option A) → Type 0
Anywhere r f = (s : ℕ) (t : List ℕ) → meaning_from s r f t ≡ meaning_from 0 r f t

abbrev pub empty_or : {A : Type 0} → List ℕ → A → A → A
empty_or [] x y = x
empty_or (c ∷ cs) x y = y

pub empty_is : {A : Type 0} (t : List ℕ) (x y : A) → empty_or t x y ≡ cond (length t == 0) x y
empty_is [] x y = refl
empty_is {A} (c ∷ cs) x y = let e : (length (c ∷ cs) == 0) ≡ false = grind (arith, nat_tests) in sym (ap (λ (b : Bool). let o : A = cond b x y in o) e)

-- ---- fields and blanks

field_then : {A : Type 0} (b : Rule) (g : List ℕ → Tree b → Option A) (s : ℕ) (t : List ℕ)
    → (spot : ℕ) × (ended (λ (v : Tree field × Tree b). g (field_text v.0) v.1) (read (Seq field b) (bytes_from s t)) ≡ ended (g (front t)) (read b (bytes_from spot (back t))))
field_then b g s t =
    let k = many_is letter letter_byte letter_single s t in
    (k.0, seq_ok field b (λ v. g (field_text v.0) v.1) (bytes_from s t) (bytes_from k.0 (back t)) k.1 k.2 ∙ ap (λ (x : List ℕ). ended (g x) (read b (bytes_from k.0 (back t)))) k.3)

blanks_then : {A : Type 0} (b : Rule) (g : Tree b → Option A) (s : ℕ) (t : List ℕ)
    → (spot : ℕ) × (ended (λ (v : Tree blanks × Tree b). g v.1) (read (Seq blanks b) (bytes_from s t)) ≡ ended g (read b (bytes_from spot (trim_front t))))
blanks_then b g s t =
    let k = many_is (one Blank) byte (tok_single 0) s t in
    (k.0, seq_ok blanks b (λ v. g v.1) (bytes_from s t) (bytes_from k.0 (drop (count (one Blank) t) t)) k.1 k.2 ∙ ap (λ (x : List ℕ). ended g (read b (bytes_from k.0 x))) (sym (trimmed_is t)))

blanks_end : {A : Type 0} (o : Option A) (s : ℕ) (t : List ℕ) → ended (λ (v : Tree blanks). o) (read blanks (bytes_from s t)) ≡ empty_or (trim_front t) o None
blanks_end {A} o s t =
    let k = many_is (one Blank) byte (tok_single 0) s t in
    ap (ended (λ (v : Tree blanks). o)) k.2 ∙ (ap (λ (x : List ℕ). cond (heads_any (bytes_from k.0 x)) None o) (sym (trimmed_is t)) ∙ go k.0 (trim_front t))
  where
    go : (spot : ℕ) (x : List ℕ) → cond (heads_any (bytes_from spot x)) None o ≡ empty_or x o None
    go spot [] = refl
    go spot (c ∷ cs) = refl

-- ---- numbers in brackets

pub listed_is : {A : Type 0} (g : List ℕ → Option A) (s : ℕ) (t : List ℕ)
    → meaning_from s listed (λ v. g (field_text v.1.0)) t ≡ and_then (behind_mark LeftBracket t) (λ rest. and_then (behind_mark RightBracket (back rest)) (λ more. empty_or (trim_front more) (g (front rest)) None))
listed_is {A} g s t =
    meant listed (λ v. g (field_text v.1.0)) s t
    ∙ (tok_is LeftBracket (Seq field (Seq (one RightBracket) blanks)) (λ u. g (field_text u.0)) s t
    ∙ (λ j. and_then (behind_mark LeftBracket t) (λ rest. inside rest j)))
  where
    inside : (rest : List ℕ) → ended (λ (u : Tree field × Tree (Seq (one RightBracket) blanks)). g (field_text u.0)) (read (Seq field (Seq (one RightBracket) blanks)) (bytes_from (suc s) rest))
        ≡ and_then (behind_mark RightBracket (back rest)) (λ more. empty_or (trim_front more) (g (front rest)) None)
    inside rest =
        let k = field_then (Seq (one RightBracket) blanks) (λ x w. g x) (suc s) rest in
        k.1 ∙ (tok_is RightBracket blanks (λ v. g (front rest)) k.0 (back rest) ∙ (λ j. and_then (behind_mark RightBracket (back rest)) (λ more. blanks_end (g (front rest)) (suc k.0) more j)))

pub listed_anywhere : {A : Type 0} (g : List ℕ → Option A) → Anywhere listed (λ v. g (field_text v.1.0))
listed_anywhere g s t = listed_is g s t ∙ sym (listed_is g 0 t)

-- ---- a number, a trap or a throw

all_front : {A : Type 0} (p : ℕ → Bool) (spot : ℕ) (t : List ℕ) (o : List ℕ → Option A)
    → cond (heads_any (bytes_from spot (drop (prefix_len p t) t))) None (o (take (prefix_len p t) t)) ≡ cond (list_all p t) (o t) None
all_front p spot [] o = refl
all_front {A} p spot (c ∷ cs) o = go (p c) refl (all_front p spot cs (λ x. o (c ∷ x)))
  where
    go : (b : Bool) → p c ≡ b → cond (heads_any (bytes_from spot (drop (prefix_len p cs) cs))) None (o (c ∷ take (prefix_len p cs) cs)) ≡ cond (list_all p cs) (o (c ∷ cs)) None
        → cond (heads_any (bytes_from spot (drop (prefix_len p (c ∷ cs)) (c ∷ cs)))) None (o (take (prefix_len p (c ∷ cs)) (c ∷ cs))) ≡ cond (list_all p (c ∷ cs)) (o (c ∷ cs)) None
    go true e ih =
        ap (λ (d : Bool). let n = cond d (1 + prefix_len p cs) 0 in cond (heads_any (bytes_from spot (drop n (c ∷ cs)))) None (o (take n (c ∷ cs)))) e
        ∙ ((λ j. cond (heads_any (bytes_from spot (drop_more (prefix_len p cs) c cs j))) None (o (take_more (prefix_len p cs) c cs j)))
        ∙ (ih ∙ sym (ap (λ (d : Bool). cond (d && list_all p cs) (o (c ∷ cs)) None) e)))
    go false e ih =
        ap (λ (d : Bool). let n = cond d (1 + prefix_len p cs) 0 in cond (heads_any (bytes_from spot (drop n (c ∷ cs)))) None (o (take n (c ∷ cs)))) e
        ∙ sym (ap (λ (d : Bool). cond (d && list_all p cs) (o (c ∷ cs)) None) e)

many_end : {A : Type 0} (o : List ℕ → Option A) (s : ℕ) (t : List ℕ)
    → ended (λ (vs : List (Tree plain_letter)). o (map plain_byte vs)) (read (Many plain_letter) (bytes_from s t)) ≡ cond (list_all (is_in plain_letter) t) (o t) None
many_end o s t =
    let k = many_is plain_letter plain_byte plain_single s t in
    ap (ended (λ (vs : List (Tree plain_letter)). o (map plain_byte vs))) k.2
    ∙ (ap (λ (x : List ℕ). cond (heads_any (bytes_from k.0 (drop (count plain_letter t) t))) None (o x)) k.3 ∙ all_front (is_in plain_letter) k.0 t o)

pub plain_is : {A : Type 0} (g : List ℕ → Option A) (s : ℕ) (t : List ℕ)
    → meaning_from s plain (λ v. g (plain_text v)) t ≡ and_then (behind_mark Other t) (λ rest. cond (list_all (is_in plain_letter) rest) (g t) None)
plain_is g s [] = meant plain (λ v. g (plain_text v)) s []
plain_is {A} g s (c ∷ cs) =
    meant plain (λ v. g (plain_text v)) s (c ∷ cs)
    ∙ (first_is Other (Many plain_letter) (λ v. g (plain_text v)) s c cs
    ∙ (ap (λ (o : Option A). cond (code (mark_of c) == code Other) o None) (many_end (λ x. g (c ∷ x)) (suc s) cs) ∙ go (code (mark_of c) == code Other)))
  where
    go : (h : Bool) → cond h (cond (list_all (is_in plain_letter) cs) (g (c ∷ cs)) None) None ≡ and_then (cond h (Some cs) None) (λ rest. cond (list_all (is_in plain_letter) rest) (g (c ∷ cs)) None)
    go true = refl
    go false = refl

pub plain_anywhere : {A : Type 0} (g : List ℕ → Option A) → Anywhere plain (λ v. g (plain_text v))
plain_anywhere g s t = plain_is g s t ∙ sym (plain_is g 0 t)

-- ---- expectations

pub expectation_is : {A : Type 0} (f : Tree listed → Option A) (g : Tree plain → Option A) → Anywhere listed f → Anywhere plain g → (s : ℕ) (t : List ℕ)
    → meaning_from s expectation (λ v. (f otherwise g) v.1) t ≡ cond (begins LeftBracket (trim_front t)) (meaning_from 0 listed f (trim_front t)) (meaning_from 0 plain g (trim_front t))
expectation_is {A} f g p q s t =
    let k = blanks_then (Alt listed plain) (f otherwise g) s t in
    meant expectation (λ v. (f otherwise g) v.1) s t
    ∙ (k.1
    ∙ (alt_is listed plain f g (bytes_from k.0 (trim_front t))
    ∙ (ap (λ (h : Bool). cond h (ended f (read listed (bytes_from k.0 (trim_front t)))) (ended g (read plain (bytes_from k.0 (trim_front t))))) (same k.0 (trim_front t))
    ∙ (λ j. cond (begins LeftBracket (trim_front t)) ((sym (meant listed f k.0 (trim_front t)) ∙ p k.0 (trim_front t)) j) ((sym (meant plain g k.0 (trim_front t)) ∙ q k.0 (trim_front t)) j)))))
  where
    same : (spot : ℕ) (x : List ℕ) → heads (firsts listed) (bytes_from spot x) ≡ begins LeftBracket x
    same spot [] = refl
    same spot (c ∷ cs) = refl

pub expectation_anywhere : {A : Type 0} (f : Tree listed → Option A) (g : Tree plain → Option A) → Anywhere listed f → Anywhere plain g → Anywhere expectation (λ v. (f otherwise g) v.1)
expectation_anywhere f g p q s t = expectation_is f g p q s t ∙ sym (expectation_is f g p q 0 t)

-- ---- what is wanted

pub signed_is : {A : Type 0} (m : Mark) (f : Tree expectation → Option A) → Anywhere expectation f → (s : ℕ) (t : List ℕ)
    → meaning_from s (signed m) (λ v. f v.1.1) t ≡ and_then (behind_mark m t) (λ rest. and_then (behind_mark Equals rest) (λ more. meaning_from 0 expectation f more))
signed_is {A} m f p s t =
    meant (signed m) (λ v. f v.1.1) s t
    ∙ (tok_is m (Seq (one Equals) expectation) (λ u. f u.1) s t
    ∙ (λ j. and_then (behind_mark m t) (λ rest. second rest j)))
  where
    second : (rest : List ℕ) → ended (λ (u : Lexeme × Tree expectation). f u.1) (read (Seq (one Equals) expectation) (bytes_from (suc s) rest)) ≡ and_then (behind_mark Equals rest) (λ more. meaning_from 0 expectation f more)
    second rest =
        tok_is Equals expectation f (suc s) rest
        ∙ (λ j. and_then (behind_mark Equals rest) (λ more. (sym (meant expectation f (suc (suc s)) more) ∙ p (suc (suc s)) more) j))

pub signed_anywhere : {A : Type 0} (m : Mark) (f : Tree expectation → Option A) → Anywhere expectation f → Anywhere (signed m) (λ v. f v.1.1)
signed_anywhere m f p s t = signed_is m f p s t ∙ sym (signed_is m f p 0 t)

pub wanted_is : {A : Type 0} (none : Option A) (f : Tree (signed Equals) → Option A) (g : Tree (signed Bang) → Option A) → Anywhere (signed Equals) f → Anywhere (signed Bang) g → (s : ℕ) (t : List ℕ)
    → meaning_from s wanted (λ v. perhaps none (f otherwise g) v.1) t
    ≡ empty_or (trim_front t) none (cond (begins Equals (trim_front t)) (meaning_from 0 (signed Equals) f (trim_front t)) (meaning_from 0 (signed Bang) g (trim_front t)))
wanted_is {A} none f g p q s t =
    let k = blanks_then (Opt (Alt (signed Equals) (signed Bang))) (perhaps none (f otherwise g)) s t in
    meant wanted (λ v. perhaps none (f otherwise g) v.1) s t
    ∙ (k.1 ∙ (opt_is (Alt (signed Equals) (signed Bang)) (perhaps none (f otherwise g)) (bytes_from k.0 (trim_front t)) ∙ go k.0 (trim_front t)))
  where
    by : (spot c : ℕ) (xs : List Lexeme) (m : Mark)
        → cond (heads (firsts (Alt (signed Equals) (signed Bang))) (record { class = code m; number = c; amount = pos 0; name = []; spot = spot } ∷ xs))
        (cond (heads (firsts (signed Equals)) (record { class = code m; number = c; amount = pos 0; name = []; spot = spot } ∷ xs)) (ended f (read (signed Equals) (record { class = code m; number = c; amount = pos 0; name = []; spot = spot } ∷ xs))) (ended g (read (signed Bang) (record { class = code m; number = c; amount = pos 0; name = []; spot = spot } ∷ xs))))
        None
        ≡ cond (member (code m) (code Equals ∷ [])) (ended f (read (signed Equals) (record { class = code m; number = c; amount = pos 0; name = []; spot = spot } ∷ xs))) (ended g (read (signed Bang) (record { class = code m; number = c; amount = pos 0; name = []; spot = spot } ∷ xs)))
    by spot c xs Blank = refl
    by spot c xs LeftParen = refl
    by spot c xs RightParen = refl
    by spot c xs LeftBracket = refl
    by spot c xs RightBracket = refl
    by spot c xs Equals = refl
    by spot c xs Bang = refl
    by spot c xs Other = refl

    go : (spot : ℕ) (x : List ℕ)
        → cond (heads (firsts (Alt (signed Equals) (signed Bang))) (bytes_from spot x)) (ended (f otherwise g) (read (Alt (signed Equals) (signed Bang)) (bytes_from spot x))) (cond (heads_any (bytes_from spot x)) None none)
        ≡ empty_or x none (cond (begins Equals x) (meaning_from 0 (signed Equals) f x) (meaning_from 0 (signed Bang) g x))
    go spot [] = refl
    go spot (c ∷ cs) =
        ap (λ (o : Option A). cond (heads (firsts (Alt (signed Equals) (signed Bang))) (bytes_from spot (c ∷ cs))) o None) (alt_is (signed Equals) (signed Bang) f g (bytes_from spot (c ∷ cs)))
        ∙ (by spot c (bytes_from (suc spot) cs) (mark_of c)
        ∙ (λ j. cond (begins Equals (c ∷ cs)) ((sym (meant (signed Equals) f spot (c ∷ cs)) ∙ p spot (c ∷ cs)) j) ((sym (meant (signed Bang) g spot (c ∷ cs)) ∙ q spot (c ∷ cs)) j)))

pub wanted_anywhere : {A : Type 0} (none : Option A) (f : Tree (signed Equals) → Option A) (g : Tree (signed Bang) → Option A) → Anywhere (signed Equals) f → Anywhere (signed Bang) g → Anywhere wanted (λ v. perhaps none (f otherwise g) v.1)
wanted_anywhere none f g p q s t = wanted_is none f g p q s t ∙ sym (wanted_is none f g p q 0 t)

-- ---- runs

map_ended : {A B T : Type 0} (f : T → Option A) (k : A → Option B) (o : Out T) → ended (λ w. and_then (f w) k) o ≡ and_then (ended f o) k
map_ended {A} {B} f k (Ok x) = go (heads_any x.1)
  where
    go : (b : Bool) → cond b None (and_then (f x.0) k) ≡ and_then (cond b None (f x.0)) k
    go true = refl
    go false = refl
map_ended f k (Err e) = refl

-- a meaning, and what is made of it
pub map_is : {A B : Type 0} (r : Rule) (f : Tree r → Option A) (k : A → Option B) (s : ℕ) (t : List ℕ) → meaning_from s r (λ w. and_then (f w) k) t ≡ and_then (meaning_from s r f t) k
map_is r f k s t = meant r (λ w. and_then (f w) k) s t ∙ (map_ended f k (read r (bytes_from s t)) ∙ ap (λ o. and_then o k) (sym (meant r f s t)))

pub map_anywhere : {A B : Type 0} (r : Rule) (f : Tree r → Option A) (k : A → Option B) → Anywhere r f → Anywhere r (λ w. and_then (f w) k)
map_anywhere r f k p s t = map_is r f k s t ∙ (ap (λ o. and_then o k) (p s t) ∙ sym (map_is r f k 0 t))

nothing : {B T : Type 0} (o : Out T) → ended (λ (w : T). let n : Option B = None in n) o ≡ None
nothing {B} (Ok x) = go (heads_any x.1)
  where
    go : (b : Bool) → (let n : Option B = cond b None None in n) ≡ None
    go true = refl
    go false = refl
nothing (Err e) = refl

pull : {X Y A B T : Type 0} (x : Option X) (y : Option Y) (f : T → Option A) (k : X → Y → A → Option B) (o : Out T)
    → ended (λ w. and_then x (λ u. and_then y (λ v. and_then (f w) (k u v)))) o ≡ and_then x (λ u. and_then y (λ v. and_then (ended f o) (k u v)))
pull {X} {Y} {A} {B} {T} None y f k o = nothing {B = B} o
pull {X} {Y} {A} {B} {T} (Some u) None f k o = nothing {B = B} o
pull (Some u) (Some v) f k o = map_ended f (k u v) o

pub run_is : {X Y A B : Type 0} (n : List ℕ → Option X) (v : List ℕ → Option Y) (f : Tree wanted → Option A) (k : X → Y → A → Option B) → Anywhere wanted f → (s : ℕ) (t : List ℕ)
    → meaning_from s run (λ w. and_then (n (field_text w.0)) (λ x. and_then (v (field_text w.1.1.0)) (λ y. and_then (f w.1.1.1.1) (k x y)))) t
    ≡ and_then (behind_mark LeftParen (back t)) (λ rest. and_then (behind_mark RightParen (back rest)) (λ more.
    and_then (n (front t)) (λ x. and_then (v (front rest)) (λ y. and_then (meaning_from 0 wanted f more) (k x y)))))
run_is {X} {Y} {A} {B} n v f k p s t =
    let first = field_then Behind (λ x w. made x (field_text w.1.0) w.1.1.1) s t in
    meant run (λ w. made (field_text w.0) (field_text w.1.1.0) w.1.1.1.1) s t
    ∙ (first.1
    ∙ (tok_is LeftParen Inside (λ w. made (front t) (field_text w.0) w.1.1) first.0 (back t)
    ∙ (λ j. and_then (behind_mark LeftParen (back t)) (λ rest. inside (suc first.0) rest j))))
  where
    Inside : Rule
    Inside = Seq field (Seq (one RightParen) wanted)

    Behind : Rule
    Behind = Seq (one LeftParen) (Seq field (Seq (one RightParen) wanted))

    made : List ℕ → List ℕ → Tree wanted → Option B
    made a b w = and_then (n a) (λ x. and_then (v b) (λ y. and_then (f w) (k x y)))

    last : (spot : ℕ) (rest more : List ℕ) → ended (λ (w : Tree wanted). made (front t) (front rest) w) (read wanted (bytes_from spot more))
        ≡ and_then (n (front t)) (λ x. and_then (v (front rest)) (λ y. and_then (meaning_from 0 wanted f more) (k x y)))
    last spot rest more =
        pull (n (front t)) (v (front rest)) f k (read wanted (bytes_from spot more))
        ∙ ap (λ (o : Option A). and_then (n (front t)) (λ x. and_then (v (front rest)) (λ y. and_then o (k x y)))) (sym (meant wanted f spot more) ∙ p spot more)

    inside : (spot : ℕ) (rest : List ℕ) → ended (λ (w : Tree Inside). made (front t) (field_text w.0) w.1.1) (read Inside (bytes_from spot rest))
        ≡ and_then (behind_mark RightParen (back rest)) (λ more. and_then (n (front t)) (λ x. and_then (v (front rest)) (λ y. and_then (meaning_from 0 wanted f more) (k x y))))
    inside spot rest =
        let q = field_then (Seq (one RightParen) wanted) (λ x w. made (front t) x w.1) spot rest in
        q.1
        ∙ (tok_is RightParen wanted (λ w. made (front t) (front rest) w) q.0 (back rest)
        ∙ (λ j. and_then (behind_mark RightParen (back rest)) (λ more. last (suc q.0) rest more j)))
