-- The parts of a `run:`, read from left to right.
use Rattle.std.proofs.Common.{◌≡◌, ℕ, zero, suc, ◌+◌, ◌==◌, Bool, true, false, not, ◌&&◌, ◌||◌, cond, List, [], ◌∷◌, ◌++◌, length, take, drop, map, Option, Some, None, Result, Ok, Err, refl, sym, ap, subst, ◌∙◌, inl, inr}
use Rattle.std.specs.Prelude.{◌⊎◌}
use Rattle.std.specs.List.{prefix_len, list_all, list_any}
use Rattle.std.proofs.lemmas.Bool.{eqb-true, eq-eqb}
use Rattle.std.proofs.lemmas.List.Folds.{list_any-append}
use Rattle.grammar.specs.Rules.{Lexeme, Kind, Syntax, Rule, Tok, Seq, Alt, Opt, Many, Tree, Out, heads, heads_any, member, firsts, read, read_all, repeat, ◌>>=◌}
use Rattle.clif_lex.specs.Bytes.{is_blank}
use Rattle.ir_core.specs.Lookup.{and_then}
use Rattle.token_reader.specs.Values.{◌otherwise◌}
use Rattle.test_directives.specs.Blanks.{trim_front}
use Rattle.test_directives.specs.declared.marks.Mark.{Mark}
use Rattle.test_directives.specs.declared.marks.Mark.TheVariants.{Blank, LeftParen, RightParen, LeftBracket, RightBracket, Equals, Bang, Other}
use Rattle.test_directives.specs.Marks.{code, mark_of, token_of, bytes_from, behind_mark, begins, is_in, count}
use Rattle.test_directives.specs.Frame.{one, letter, field, blanks, plain_letter, byte, letter_byte, plain_byte, meaning_from}
use Rattle.test_directives.proofs.Words.{drop_more, take_more}

-- what all of the tokens mean, by what was read of them
abbrev pub ended : {A T : Type 0} → (T → Option A) → Out T → Option A
ended f (Ok x) = cond (heads_any x.1) None (f x.0)
ended f (Err e) = None

abbrev by_answer : {A T : Type 0} → (T → Option A) → Result T (Kind × List Lexeme) → Option A
by_answer f (Ok v) = f v
by_answer f (Err e) = None

abbrev whole : {T : Type 0} → Out T → Result T (Kind × List Lexeme)
whole o = o >>= λ x. cond (heads_any x.1) (Err (Syntax, x.1)) (Ok x.0)

whole_is : {A T : Type 0} (f : T → Option A) (o : Out T) → by_answer f (whole o) ≡ ended f o
whole_is {A} {T} f (Ok x) = go (heads_any x.1)
  where
    go : (b : Bool) → by_answer {A = A} {T = T} f (cond b (Err (Syntax, x.1)) (Ok x.0)) ≡ cond b None (f x.0)
    go true = refl
    go false = refl
whole_is f (Err e) = refl

pub meant : {A : Type 0} (r : Rule) (f : Tree r → Option A) (s : ℕ) (t : List ℕ) → meaning_from s r f t ≡ ended f (read r (bytes_from s t))
unfolding meaning_from
meant r f s t = whole_is f (read r (bytes_from s t))

-- ---- steps

pub seq_ok : {A : Type 0} (a b : Rule) (f : Tree a × Tree b → Option A) (ts rest : List Lexeme) (v : Tree a) → read a ts ≡ Ok (v, rest) → ended f (read (Seq a b) ts) ≡ ended (λ w. f (v, w)) (read b rest)
seq_ok {A} a b f ts rest v e = ap (λ (o : Out (Tree a)). ended f (o >>= λ x. read b x.1 >>= λ y. Ok ((x.0, y.0), y.1))) e ∙ go (read b rest)
  where
    go : (o : Out (Tree b)) → ended f (o >>= λ y. Ok ((v, y.0), y.1)) ≡ ended (λ w. f (v, w)) o
    go (Ok y) = refl
    go (Err d) = refl

pub tok_is : {A : Type 0} (m : Mark) (b : Rule) (g : Tree b → Option A) (s : ℕ) (t : List ℕ)
    → ended (λ (v : Lexeme × Tree b). g v.1) (read (Seq (one m) b) (bytes_from s t)) ≡ and_then (behind_mark m t) (λ rest. ended g (read b (bytes_from (suc s) rest)))
tok_is m b g s [] = refl
tok_is {A} m b g s (c ∷ cs) = go (code (mark_of c) == code m)
  where
    two : (o : Out (Tree b)) → ended (λ (v : Lexeme × Tree b). g v.1) (o >>= λ y. Ok ((token_of s c, y.0), y.1)) ≡ ended g o
    two (Ok y) = refl
    two (Err e) = refl

    go : (h : Bool) → ended (λ (v : Lexeme × Tree b). g v.1) (cond {A = Out Lexeme} h (Ok (token_of s c, bytes_from (suc s) cs)) (Err (Syntax, token_of s c ∷ bytes_from (suc s) cs)) >>= λ x. read b x.1 >>= λ y. Ok ((x.0, y.0), y.1))
        ≡ and_then (cond h (Some cs) None) (λ rest. ended g (read b (bytes_from (suc s) rest)))
    go true = two (read b (bytes_from (suc s) cs))
    go false = refl

-- the same, where the token counts
pub first_is : {A : Type 0} (m : Mark) (b : Rule) (f : Lexeme × Tree b → Option A) (s c : ℕ) (cs : List ℕ)
    → ended f (read (Seq (one m) b) (bytes_from s (c ∷ cs))) ≡ cond (code (mark_of c) == code m) (ended (λ w. f (token_of s c, w)) (read b (bytes_from (suc s) cs))) None
first_is {A} m b f s c cs = go (code (mark_of c) == code m)
  where
    two : (o : Out (Tree b)) → ended f (o >>= λ y. Ok ((token_of s c, y.0), y.1)) ≡ ended (λ w. f (token_of s c, w)) o
    two (Ok y) = refl
    two (Err e) = refl

    go : (h : Bool) → ended f (cond {A = Out Lexeme} h (Ok (token_of s c, bytes_from (suc s) cs)) (Err (Syntax, token_of s c ∷ bytes_from (suc s) cs)) >>= λ x. read b x.1 >>= λ y. Ok ((x.0, y.0), y.1))
        ≡ cond h (ended (λ w. f (token_of s c, w)) (read b (bytes_from (suc s) cs))) None
    go true = two (read b (bytes_from (suc s) cs))
    go false = refl

pub alt_is : {A : Type 0} (a b : Rule) (f : Tree a → Option A) (g : Tree b → Option A) (ts : List Lexeme)
    → ended (f otherwise g) (read (Alt a b) ts) ≡ cond (heads (firsts a) ts) (ended f (read a ts)) (ended g (read b ts))
alt_is {A} a b f g ts = go (heads (firsts a) ts)
  where
    left : (o : Out (Tree a)) → ended (f otherwise g) (o >>= λ x. Ok (inl x.0, x.1)) ≡ ended f o
    left (Ok x) = refl
    left (Err e) = refl

    right : (o : Out (Tree b)) → ended (f otherwise g) (o >>= λ x. Ok (inr x.0, x.1)) ≡ ended g o
    right (Ok x) = refl
    right (Err e) = refl

    go : (h : Bool) → ended (f otherwise g) (cond {A = Out (Tree (Alt a b))} h (read a ts >>= λ x. Ok (inl x.0, x.1)) (read b ts >>= λ x. Ok (inr x.0, x.1))) ≡ cond h (ended f (read a ts)) (ended g (read b ts))
    go true = left (read a ts)
    go false = right (read b ts)

pub opt_is : {A : Type 0} (a : Rule) (f : Option (Tree a) → Option A) (ts : List Lexeme)
    → ended f (read (Opt a) ts) ≡ cond (heads (firsts a) ts) (ended (λ v. f (Some v)) (read a ts)) (cond (heads_any ts) None (f None))
opt_is {A} a f ts = go (heads (firsts a) ts)
  where
    some : (o : Out (Tree a)) → ended f (o >>= λ x. Ok (Some x.0, x.1)) ≡ ended (λ v. f (Some v)) o
    some (Ok x) = refl
    some (Err e) = refl

    go : (h : Bool) → ended f (cond {A = Out (Option (Tree a))} h (read a ts >>= λ x. Ok (Some x.0, x.1)) (Ok (None, ts))) ≡ cond h (ended (λ v. f (Some v)) (read a ts)) (cond (heads_any ts) None (f None))
    go true = some (read a ts)
    go false = refl

-- ---- bytes that repeat

-- a rule of one token, which is read as its byte
pub record Single (a : Rule) (f : Tree a → ℕ) : Type 0 where
  pub one : (x : Lexeme) (xs : List Lexeme) → member x.class (firsts a) ≡ true → (v : Tree a) × (read a (x ∷ xs) ≡ Ok (v, xs)) × (f v ≡ x.number)

or_none : (b : Bool) → (b || false) ≡ true → b ≡ true
or_none true h = refl
or_none false h = absurd cc

pub tok_single : (c : ℕ) → Single (Tok c) byte
tok_single c = record {
  one = λ x xs h. (x, (let e : x.class ≡ c = sym (eqb-true c x.class (or_none (c == x.class) h)) in ap (λ (b : Bool). let o : Out Lexeme = cond b (Ok (x, xs)) (Err (Syntax, x ∷ xs)) in o) (eq-eqb x.class c e)), refl);
}

pub alt_single : (a b : Rule) (f : Tree a → ℕ) (g : Tree b → ℕ) → Single a f → Single b g → Single (Alt a b) (f otherwise g)
alt_single a b f g p q = record { one = λ x xs h. go x xs (member x.class (firsts a)) refl (sym (list_any-append (λ d. d == x.class) (firsts a) (firsts b)) ∙ h) }
  where
    go : (x : Lexeme) (xs : List Lexeme) (d : Bool) → member x.class (firsts a) ≡ d → (member x.class (firsts a) || member x.class (firsts b)) ≡ true
        → (v : Tree (Alt a b)) × (read (Alt a b) (x ∷ xs) ≡ Ok (v, xs)) × ((f otherwise g) v ≡ x.number)
    go x xs true e h =
        let k = p.one x xs e in
        (inl k.0, ap (λ (d : Bool). let o : Out (Tree (Alt a b)) = cond d (read a (x ∷ xs) >>= λ y. Ok (inl y.0, y.1)) (read b (x ∷ xs) >>= λ y. Ok (inr y.0, y.1)) in o) e ∙ ap (λ (o : Out (Tree a)). let r : Out (Tree (Alt a b)) = o >>= λ y. Ok (inl y.0, y.1) in r) k.1, k.2)
    go x xs false e h =
        let k = q.one x xs (subst (λ (d : Bool). (d || member x.class (firsts b)) ≡ true) e h) in
        (inr k.0, ap (λ (d : Bool). let o : Out (Tree (Alt a b)) = cond d (read a (x ∷ xs) >>= λ y. Ok (inl y.0, y.1)) (read b (x ∷ xs) >>= λ y. Ok (inr y.0, y.1)) in o) e ∙ ap (λ (o : Out (Tree b)). let r : Out (Tree (Alt a b)) = o >>= λ y. Ok (inr y.0, y.1) in r) k.1, k.2)

-- all the bytes in front that are of the rule are read
abbrev pub Reads : (a : Rule) → (Tree a → ℕ) → ℕ → List ℕ → Type 0
Reads a f s t = (spot : ℕ) × (vs : List (Tree a)) × (read (Many a) (bytes_from s t) ≡ Ok (vs, bytes_from spot (drop (count a t) t))) × (map f vs ≡ take (count a t) t)

pub many_is : (a : Rule) (f : Tree a → ℕ) → Single a f → (s : ℕ) (t : List ℕ) → Reads a f s t
many_is a f p s [] = (s, [], refl, refl)
many_is a f p s (c ∷ cs) = go (is_in a c) refl (many_is a f p (suc s) cs)
  where
    step : Bool → Out (List (Tree a))
    step b = cond b (read a (token_of s c ∷ bytes_from (suc s) cs) >>= λ x. repeat (read a) (firsts a) (length (bytes_from (suc s) cs)) x.1 >>= λ y. Ok (x.0 ∷ y.0, y.1)) (Ok ([], token_of s c ∷ bytes_from (suc s) cs))

    go : (b : Bool) → is_in a c ≡ b → Reads a f (suc s) cs → Reads a f s (c ∷ cs)
    go true e (spot, vs, r, w) =
        let k = p.one (token_of s c) (bytes_from (suc s) cs) e in
        let n : count a (c ∷ cs) ≡ 1 + count a cs = ap (λ (d : Bool). cond d (1 + count a cs) 0) e in
        let d : drop (count a (c ∷ cs)) (c ∷ cs) ≡ drop (count a cs) cs = ap (λ (i : ℕ). drop i (c ∷ cs)) n ∙ drop_more (count a cs) c cs in
        let g : take (count a (c ∷ cs)) (c ∷ cs) ≡ c ∷ take (count a cs) cs = ap (λ (i : ℕ). take i (c ∷ cs)) n ∙ take_more (count a cs) c cs in (
          spot,
          k.0 ∷ vs,
          ap step e
              ∙ (ap (λ (o : Out (Tree a)). let z : Out (List (Tree a)) = o >>= λ x. repeat (read a) (firsts a) (length (bytes_from (suc s) cs)) x.1 >>= λ y. Ok (x.0 ∷ y.0, y.1) in z) k.1
              ∙ (ap (λ (o : Out (List (Tree a))). let z : Out (List (Tree a)) = o >>= λ y. Ok (k.0 ∷ y.0, y.1) in z) r
              ∙ ap (λ (l : List ℕ). let z : Out (List (Tree a)) = Ok (k.0 ∷ vs, bytes_from spot l) in z) (sym d))),
          (λ j. k.2 j ∷ w j) ∙ sym g,
        )
    go false e ih =
        let n : count a (c ∷ cs) ≡ 0 = ap (λ (d : Bool). cond d (1 + count a cs) 0) e in
        (s, [], ap step e ∙ ap (λ (i : ℕ). let z : Out (List (Tree a)) = Ok ([], bytes_from s (drop i (c ∷ cs))) in z) (sym n), ap (λ (i : ℕ). take i (c ∷ cs)) (sym n))

-- ---- blanks

blank_is : (c : ℕ) → is_blank c ≡ is_in (one Blank) c
blank_is c = go (is_blank c) (c == 40) (c == 41) (c == 91) (c == 93) (c == 61) (c == 33)
  where
    go : (b l r lb rb e n : Bool) → b ≡ member (code (cond b Blank (cond l LeftParen (cond r RightParen (cond lb LeftBracket (cond rb RightBracket (cond e Equals (cond n Bang Other)))))))) (0 ∷ [])
    go true l r lb rb e n = refl
    go false true r lb rb e n = refl
    go false false true lb rb e n = refl
    go false false false true rb e n = refl
    go false false false false true e n = refl
    go false false false false false true n = refl
    go false false false false false false true = refl
    go false false false false false false false = refl

pub trimmed_is : (t : List ℕ) → trim_front t ≡ drop (count (one Blank) t) t
trimmed_is t = λ j. drop (prefix_len (λ c. blank_is c j) t) t

pub letter_single : Single letter letter_byte
letter_single = alt_single (one Blank) (one Other) byte byte (tok_single 0) (tok_single 7)

pub plain_single : Single plain_letter plain_byte
plain_single = alt_single letter (Alt (one LeftParen) (one RightParen)) letter_byte (byte otherwise byte) letter_single (alt_single (one LeftParen) (one RightParen) byte byte (tok_single 1) (tok_single 2))
