-- What a rule's reading gives, seen as the values that the code makes. One lemma for each way to make a rule of others.
use Rattle.std.proofs.Common.{◌≡◌, ℕ, zero, suc, true, false, cond, List, [], ◌∷◌, length, map, Option, Some, None, Ok, Err, refl, sym, ap, ◌∙◌, inl, inr}
use Rattle.grammar.specs.Rules.{Lexeme, Kind, Syntax, Rule, Tok, Seq, Alt, Opt, Many, Refuse, Tree, Out, heads, member, firsts, token, read, repeat, ◌>>=◌}
use Rattle.clif_words.specs.declared.class.Class.{Class}
use Rattle.clif_words.specs.Classes.{code}
use Rattle.clif_words.specs.Terminals.{one, refused, codes_of}
use Rattle.token_reader.specs.Reading.{name, opcode, opcode_by, amount, name_at, opcode_at, amount_at, each, refuse, refuse_codes}
use Rattle.token_reader.specs.Values.{either, perhaps, seen}

-- the reading p is that of the rule r, seen through f
pub record Is {A : Type 0} (r : Rule) (f : Tree r → A) (p : List Lexeme → Out A) : Type 0 where
  pub same : (ts : List Lexeme) → p ts ≡ seen f (read r ts)

-- a rule's own reading
pub rule_is : {A : Type 0} (r : Rule) (f : Tree r → A) → Is r f (λ ts. seen f (read r ts))
rule_is r f = record { same = λ ts. refl }

bind_same : {A B : Type 0} (m n : Out A) (f g : A × List Lexeme → Out B) → m ≡ n → ((x : A × List Lexeme) → f x ≡ g x) → (m >>= f) ≡ (n >>= g)
bind_same m (Ok x) f g e h = ap (λ (z : Out _). z >>= f) e ∙ h x
bind_same m (Err d) f g e h = ap (λ (z : Out _). z >>= f) e

seen_then : {A C : Type 0} (a b : Rule) (g : Tree a → A) (f : A → Tree b → C) (m : Out (Tree a))
    → (seen g m >>= λ x. seen (f x.0) (read b x.1)) ≡ seen (λ (v : Tree a × Tree b). f (g v.0) v.1) (m >>= λ x. read b x.1 >>= λ y. Ok ((x.0, y.0), y.1))
seen_then {A} {C} a b g f (Ok x) = go (read b x.1)
  where
    go : (n : Out (Tree b)) → seen (f (g x.0)) n ≡ seen (λ (v : Tree a × Tree b). f (g v.0) v.1) (n >>= λ y. Ok ((x.0, y.0), y.1))
    go (Ok y) = refl
    go (Err e) = refl
seen_then a b g f (Err e) = refl

-- one rule, and then another, whose reading makes the whole value
pub then_is : {A C : Type 0} {a : Rule} {g : Tree a → A} {p : List Lexeme → Out A} → Is a g p
    → (b : Rule) (f : A → Tree b → C) (q : A → List Lexeme → Out C) → ((x : A) → Is b (f x) (q x))
    → Is (Seq a b) (λ v. f (g v.0) v.1) (λ ts. p ts >>= λ x. q x.0 x.1)
then_is {A} {C} {a} {g} {p} e b f q h = record {
  same = λ ts. bind_same (p ts) (seen g (read a ts)) (λ x. q x.0 x.1) (λ x. seen (f x.0) (read b x.1)) (e.same ts) (λ x. (h x.0).same x.1)
      ∙ seen_then a b g f (read a ts);
}

seen_map : {A B C : Type 0} (g : A → B) (k : B → C) (m : Out A) → (seen g m >>= λ x. Ok (k x.0, x.1)) ≡ seen (λ v. k (g v)) m
seen_map g k (Ok x) = refl
seen_map g k (Err e) = refl

seen_after : {A B C : Type 0} (f : B → C) (g : A → B) (m : Out A) → seen f (m >>= λ x. Ok (g x.0, x.1)) ≡ seen (λ v. f (g v)) m
seen_after f g (Ok x) = refl
seen_after f g (Err e) = refl

-- the value of a rule, made into another
pub map_is : {A B : Type 0} {r : Rule} {g : Tree r → A} {p : List Lexeme → Out A} → Is r g p → (k : A → B) → Is r (λ v. k (g v)) (λ ts. p ts >>= λ x. Ok (k x.0, x.1))
map_is {A} {B} {r} {g} {p} e k = record { same = λ ts. ap (λ (z : Out A). z >>= λ x. Ok (k x.0, x.1)) (e.same ts) ∙ seen_map g k (read r ts) }

-- the same value in other words
pub also : {A : Type 0} {r : Rule} {f : Tree r → A} {p : List Lexeme → Out A} → Is r f p → (g : Tree r → A) → ((v : Tree r) → f v ≡ g v) → Is r g p
also {A} {r} {f} {p} e g h = record { same = λ ts. e.same ts ∙ go (read r ts) }
  where
    go : (o : Out (Tree r)) → seen f o ≡ seen g o
    go (Ok x) = ap (λ (b : A). Ok (b, x.1)) (h x.0)
    go (Err x) = refl

-- a token
token_is : (c : ℕ) (ts : List Lexeme) → token c ts ≡ seen (λ x. x) (read (Tok c) ts)
token_is c ts = go (token c ts)
  where
    go : (o : Out Lexeme) → o ≡ seen (λ x. x) o
    go (Ok x) = refl
    go (Err e) = refl

pub name_is : (class : Class) → Is (one class) name (name_at class)
unfolding name_at
name_is class = record { same = λ ts. ap (λ (z : Out Lexeme). z >>= λ x. Ok (name x.0, x.1)) (token_is (code class) ts) ∙ seen_map (λ x. x) name (token (code class) ts) }

pub opcode_is : (class : Class) → Is (one class) opcode (opcode_at class)
unfolding opcode_at
opcode_is class = map_is (name_is class) opcode_by

pub amount_is : (class : Class) → Is (one class) amount (amount_at class)
unfolding amount_at
amount_is class = record { same = λ ts. ap (λ (z : Out Lexeme). z >>= λ x. Ok (amount x.0, x.1)) (token_is (code class) ts) ∙ seen_map (λ x. x) amount (token (code class) ts) }

-- [ ]
pub opt_is : {A : Type 0} {r : Rule} {f : Tree r → A} {p : List Lexeme → Out A} → Is r f p → (none : A)
    → Is (Opt r) (perhaps none f) (λ ts. cond (heads (firsts r) ts) (p ts) (Ok (none, ts)))
opt_is {A} {r} {f} {p} e none = record {
  same = λ ts. elim (heads (firsts r) ts) as (λ b. cond {A = Out A} b (p ts) (Ok (none, ts)) ≡ seen (perhaps none f) (cond {A = Out (Option (Tree r))} b (read r ts >>= λ x. Ok (Some x.0, x.1)) (Ok (None, ts)))) [
    | true ↦ e.same ts ∙ sym (seen_after (perhaps none f) Some (read r ts))
    | false ↦ refl
  ];
}

-- one of two
pub alt_is : {A : Type 0} {a b : Rule} {f : Tree a → A} {g : Tree b → A} {p q : List Lexeme → Out A} → Is a f p → Is b g q
    → Is (Alt a b) (either f g) (λ ts. cond (heads (firsts a) ts) (p ts) (q ts))
alt_is {A} {a} {b} {f} {g} {p} {q} d e = record {
  same = λ ts. elim (heads (firsts a) ts) as (λ h. cond {A = Out A} h (p ts) (q ts) ≡ seen (either f g) (cond {A = Out (Tree (Alt a b))} h (read a ts >>= λ x. Ok (inl x.0, x.1)) (read b ts >>= λ x. Ok (inr x.0, x.1)))) [
    | true ↦ d.same ts ∙ sym (seen_after (either f g) inl (read a ts))
    | false ↦ e.same ts ∙ sym (seen_after (either f g) inr (read b ts))
  ];
}

-- { }
each_two : {A : Type 0} (r : Rule) (f : Tree r → A) (n : ℕ) → ((ts : List Lexeme) → each {A = A} (λ us. seen f (read r us)) (firsts r) n ts ≡ seen (map f) (repeat (read r) (firsts r) n ts))
    → (m : Out (Tree r)) → (seen f m >>= λ x. each (λ us. seen f (read r us)) (firsts r) n x.1 >>= λ y. Ok (x.0 ∷ y.0, y.1)) ≡ seen (map f) (m >>= λ x. repeat (read r) (firsts r) n x.1 >>= λ y. Ok (x.0 ∷ y.0, y.1))
each_two {A} r f n ih (Err e) = refl
each_two {A} r f n ih (Ok x) = ap (λ (z : Out _). z >>= λ y. Ok (f x.0 ∷ y.0, y.1)) (ih x.1) ∙ go (repeat (read r) (firsts r) n x.1)
  where
    go : (o : Out (List (Tree r))) → (seen (map f) o >>= λ y. Ok (f x.0 ∷ y.0, y.1)) ≡ seen (map f) (o >>= λ y. Ok (x.0 ∷ y.0, y.1))
    go (Ok y) = refl
    go (Err e) = refl

each_rule : {A : Type 0} (r : Rule) (f : Tree r → A) (n : ℕ) (ts : List Lexeme) → each {A = A} (λ us. seen f (read r us)) (firsts r) n ts ≡ seen (map f) (repeat (read r) (firsts r) n ts)
unfolding each
each_rule r f zero ts = refl
each_rule {A} r f (suc n) ts =
    elim (heads (firsts r) ts) as (λ b. cond {A = Out (List A)} b (seen f (read r ts) >>= λ x. each (λ us. seen f (read r us)) (firsts r) n x.1 >>= λ y. Ok (x.0 ∷ y.0, y.1)) (Ok ([], ts))
    ≡ seen (map f) (cond {A = Out (List (Tree r))} b (read r ts >>= λ x. repeat (read r) (firsts r) n x.1 >>= λ y. Ok (x.0 ∷ y.0, y.1)) (Ok ([], ts)))) [
      | true ↦ each_two r f n (each_rule r f n) (read r ts)
      | false ↦ refl
    ]

each_same : {A : Type 0} (p q : List Lexeme → Out A) (cs : List ℕ) → ((ts : List Lexeme) → p ts ≡ q ts) → (n : ℕ) (ts : List Lexeme) → each p cs n ts ≡ each q cs n ts
unfolding each
each_same p q cs e zero ts = refl
each_same {A} p q cs e (suc n) ts =
    ap (λ (z : Out (List A)). cond (heads cs ts) z (Ok ([], ts)))
    (bind_same (p ts) (q ts) (λ x. each p cs n x.1 >>= λ y. Ok (x.0 ∷ y.0, y.1)) (λ x. each q cs n x.1 >>= λ y. Ok (x.0 ∷ y.0, y.1)) (e ts)
    (λ x. ap (λ (z : Out (List A)). z >>= λ y. Ok (x.0 ∷ y.0, y.1)) (each_same p q cs e n x.1)))

pub many_is : {A : Type 0} {r : Rule} {f : Tree r → A} {p : List Lexeme → Out A} → Is r f p → Is (Many r) (map f) (λ ts. each p (firsts r) (length ts) ts)
many_is {A} {r} {f} {p} e = record { same = λ ts. each_same p (λ us. seen f (read r us)) (firsts r) e.same (length ts) ts ∙ each_rule r f (length ts) ts }

-- a token that is refused
pub refuse_codes_is : {A : Type 0} (codes : List ℕ) (kind : Kind) (f : ⊥ → A) → Is (Refuse codes kind) f (refuse_codes codes kind)
refuse_codes_is {A} codes kind f = record { same = go }
  where
    go : (ts : List Lexeme) → refuse_codes {A = A} codes kind ts ≡ seen f (read (Refuse codes kind) ts)
    go [] = refl
    go (x ∷ xs) =
        elim (member x.class codes) as (λ b. (let e : Out A = Err (cond b kind Syntax, x ∷ xs) in e) ≡ seen f (cond {A = Out ⊥} b (Err (kind, x ∷ xs)) (Err (Syntax, x ∷ xs)))) [ true ↦ refl | false ↦ refl ]

pub refuse_is : {A : Type 0} (classes : List Class) (kind : Kind) (f : ⊥ → A) → Is (refused classes kind) f (refuse classes kind)
refuse_is classes kind f = refuse_codes_is (codes_of classes) kind f
