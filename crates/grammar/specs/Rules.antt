-- Grammars as data: what a rule derives, what begins it, and reading by the next token alone.
-- A rule is written as in EBNF, and each of its forms has a constructor. Terminals are classes of tokens.
use Rattle.std.specs.Prelude.{◌≡◌, ℕ, zero, suc, ◌-◌, ◌==◌, Bool, true, false, not, ◌&&◌, ◌||◌, if◌then◌else◌, List, []}
use Rattle.std.specs.Prelude.{◌∷◌, ◌++◌, length, take, Option, Some, None, Result, Ok, Err, ◌⊎◌, ℤ}
use Rattle.std.proofs.Common.{inl, inr}
use Rattle.std.specs.List.{list_all, list_any}

-- The class of a token. A grammar gives each of its classes a name, and uses the names alone.
abbrev pub Class : Type 0
Class = ℕ

-- A token as a grammar sees it: its class, and the place of its first byte in the text. `number` says which of the
-- words of its class it is (as 7 in `v7`), `amount` what a number spells, and `name` what a name spells.
pub record Lexeme : Type 0 where
  pub class : Class
  pub number : ℕ
  pub amount : ℤ
  pub name : List ℕ
  pub spot : ℕ

-- Why a token does not fit: it is out of place, or a word that its place refuses.
pub data Kind : Type 0 where
  Syntax : Kind
  UnknownOpcode : Kind
  Unsupported : Kind

pub data Rule : Type 0 where
  Empty : Rule
  -- one token of this class
  Tok : Class → Rule
  -- one rule, and then another
  Seq : Rule → Rule → Rule
  -- one of two
  Alt : Rule → Rule → Rule
  -- [ ]
  Opt : Rule → Rule
  -- { }
  Many : Rule → Rule
  -- no text; at this place a token of one of the classes is refused as this kind
  Refuse : List Class → Kind → Rule
  -- { } of the first rule; but after a token of this class the next one is of the second rule
  Chain : Class → Rule → Rule → Rule

-- what a rule's text is made of
abbrev pub Tree : Rule → Type 0
Tree Empty = Unit {0}
Tree (Tok c) = Lexeme
Tree (Seq a b) = Tree a × Tree b
Tree (Alt a b) = Tree a ⊎ Tree b
Tree (Opt a) = Option (Tree a)
Tree (Many a) = List (Tree a)
Tree (Refuse c k) = ⊥
Tree (Chain c a b) = List (Tree a ⊎ Tree b)

-- ---- what a rule derives

-- the list is cut in two, of which this holds
abbrev pub Cut : List Lexeme → (List Lexeme → List Lexeme → Type 0) → Type 0
Cut ts P = (us : List Lexeme) × (vs : List Lexeme) × (ts ≡ us ++ vs) × P us vs

abbrev pub Each : {A : Type 0} → (List Lexeme → A → Type 0) → List Lexeme → List A → Type 0
Each D ts [] = ts ≡ []
Each D ts (v ∷ vs) = Cut ts (λ us ws. D us v × Each D ws vs)

abbrev pub MaybeOne : {A : Type 0} → (List Lexeme → A → Type 0) → List Lexeme → Option A → Type 0
MaybeOne D ts None = ts ≡ []
MaybeOne D ts (Some v) = D ts v

abbrev pub OneOf : {A B : Type 0} → (List Lexeme → A → Type 0) → (List Lexeme → B → Type 0) → List Lexeme → A ⊎ B
    → Type 0
OneOf D E ts = elim [ inl v ↦ D ts v | inr v ↦ E ts v ]

-- whether the last of the tokens is of the class; where there is none, what was so before
abbrev pub ends : Class → Bool → List Lexeme → Bool
ends c f [] = f
ends c f (x ∷ xs) = ends c (x.class == c) xs

-- one after the other, each by what stands before it
abbrev pub Links : {A : Type 0} → (Bool → List Lexeme → A → Type 0) → ℕ → Bool → List Lexeme → List A → Type 0
Links D c f ts [] = ts ≡ []
Links D c f ts (v ∷ vs) = Cut ts (λ us ws. D f us v × Links D c (ends c f us) ws vs)

-- of the first where f is false, and of the second where it is true
abbrev pub ByFlag : {A B : Type 0} → (List Lexeme → A → Type 0) → (List Lexeme → B → Type 0) → Bool → List Lexeme
    → A ⊎ B → Type 0
ByFlag D E f ts = elim [ inl v ↦ (f ≡ false) × D ts v | inr v ↦ (f ≡ true) × E ts v ]

abbrev pub OnFlag : Bool → Type 0 → Type 0 → Type 0
OnFlag f P Q = ((f ≡ false) × P) ⊎ ((f ≡ true) × Q)

-- the tokens are a text of the rule, made of this
abbrev pub Derives : (r : Rule) → List Lexeme → Tree r → Type 0
Derives Empty ts v = ts ≡ []
Derives (Tok c) ts x = (ts ≡ x ∷ []) × (x.class ≡ c)
Derives (Seq a b) ts v = Cut ts (λ us ws. Derives a us v.0 × Derives b ws v.1)
Derives (Alt a b) ts v = OneOf (Derives a) (Derives b) ts v
Derives (Opt a) ts v = MaybeOne (Derives a) ts v
Derives (Many a) ts vs = Each (Derives a) ts vs
Derives (Refuse c k) ts v = ⊥
Derives (Chain c a b) ts vs = Links (ByFlag (Derives a) (Derives b)) c false ts vs

-- the tokens begin a text of the rule
abbrev pub Begins : Rule → List Lexeme → Type 0
Begins Empty ts = ts ≡ []
Begins (Tok c) ts = (ts ≡ []) ⊎ ((x : Lexeme) × (ts ≡ x ∷ []) × (x.class ≡ c))
Begins (Seq a b) ts = Begins a ts ⊎ Cut ts (λ us ws. ((v : Tree a) × Derives a us v) × Begins b ws)
Begins (Alt a b) ts = Begins a ts ⊎ Begins b ts
Begins (Opt a) ts = (ts ≡ []) ⊎ Begins a ts
Begins (Many a) ts = Cut ts (λ us ws. ((vs : List (Tree a)) × Each (Derives a) us vs) × ((ws ≡ []) ⊎ Begins a ws))
Begins (Refuse c k) ts = ts ≡ []
Begins (Chain c a b) ts =
    Cut ts (λ us ws. ((vs : List (Tree a ⊎ Tree b)) × Links (ByFlag (Derives a) (Derives b)) c false us vs)
    × ((ws ≡ []) ⊎ OnFlag (ends c false us) (Begins a ws) (Begins b ws)))

-- ---- reading by the next token

abbrev pub member : Class → List Class → Bool
member c cs = list_any (λ d. d == c) cs

-- whether the next token is of one of the classes
abbrev pub heads : List Class → List Lexeme → Bool
heads cs [] = false
heads cs (x ∷ xs) = member x.class cs

-- whether a rule has an empty text
abbrev pub nullable : Rule → Bool
nullable Empty = true
nullable (Tok c) = false
nullable (Seq a b) = nullable a && nullable b
nullable (Alt a b) = nullable a || nullable b
nullable (Opt a) = true
nullable (Many a) = true
nullable (Refuse c k) = false
nullable (Chain c a b) = true

-- the classes of the tokens that a rule looks at first
abbrev pub firsts : Rule → List Class
firsts Empty = []
firsts (Tok c) = c ∷ []
firsts (Seq a b) = firsts a ++ (if nullable a then firsts b else [])
firsts (Alt a b) = firsts a ++ firsts b
firsts (Opt a) = firsts a
firsts (Many a) = firsts a
firsts (Refuse cs k) = cs
firsts (Chain c a b) = firsts a

-- the classes of the tokens with which a whole text of the rule may go on
abbrev pub exts : Rule → List Class
exts Empty = []
exts (Tok c) = []
exts (Seq a b) = exts b ++ (if nullable b then exts a else [])
exts (Alt a b) = (exts a ++ exts b) ++ (if nullable b then firsts a else [])
exts (Opt a) = firsts a ++ exts a
exts (Many a) = firsts a ++ exts a
exts (Refuse c k) = []
exts (Chain c a b) = (firsts a ++ firsts b) ++ (exts a ++ exts b)

abbrev pub disjoint : List Class → List Class → Bool
disjoint cs ds = list_all (λ c. not (member c ds)) cs

-- whether the next token always says which way to go
abbrev pub good : Rule → Bool
good Empty = true
good (Tok c) = true
good (Seq a b) = (good a && good b) && disjoint (exts a) (firsts b)
good (Alt a b) = (good a && good b) && (not (nullable a) && disjoint (firsts a) (firsts b))
good (Opt a) = good a && not (nullable a)
good (Many a) = (good a && not (nullable a)) && disjoint (exts a) (firsts a)
good (Refuse c k) = true
good (Chain c a b) =
    ((good a && good b) && (not (nullable a) && not (nullable b))) && disjoint (exts a ++ exts b) (firsts a ++ firsts b)

-- a value and the tokens behind it; or why and where reading stopped
abbrev pub Out : Type 0 → Type 0
Out A = Result (A × List Lexeme) (Kind × List Lexeme)

infixl 10 ◌>>=◌
abbrev pub ◌>>=◌ : {A B E : Type 0} → Result A E → (A → Result B E) → Result B E
(Ok x) >>= f = f x
(Err e) >>= f = Err e

abbrev pub token : Class → List Lexeme → Out Lexeme
token c [] = Err (Syntax, [])
token c (x ∷ xs) = if x.class == c then Ok (x, xs) else Err (Syntax, x ∷ xs)

abbrev pub refusal : List Class → Kind → List Lexeme → Out ⊥
refusal cs k [] = Err (Syntax, [])
refusal cs k (x ∷ xs) = if member x.class cs then Err (k, x ∷ xs) else Err (Syntax, x ∷ xs)

-- as long as the next token is one of the classes, at most n times
abbrev pub repeat : {A : Type 0} → (List Lexeme → Out A) → List ℕ → ℕ → List Lexeme → Out (List A)
repeat p cs zero ts = Ok ([], ts)
repeat p cs (suc n) ts =
    if heads cs ts then (p ts >>= λ x. repeat p cs n x.1 >>= λ y. Ok (x.0 ∷ y.0, y.1)) else Ok ([], ts)

-- the tokens before the rest
abbrev pub used : List Lexeme → List Lexeme → List Lexeme
used ts rest = take (length ts - length rest) ts

-- as long as the next token is one that may come behind what stands before it, at most n times
abbrev pub chain : {A : Type 0} → (Bool → List Lexeme → Out A) → (Bool → List ℕ) → ℕ → Bool → ℕ → List Lexeme
    → Out (List A)
chain p cs c f zero ts = Ok ([], ts)
chain p cs c f (suc n) ts =
    if heads (cs f) ts
    then (p f ts >>= λ x. chain p cs c (ends c f (used ts x.1)) n x.1 >>= λ y. Ok (x.0 ∷ y.0, y.1)) else Ok ([], ts)

abbrev pub by_flag : {A B : Type 0} → (List Lexeme → Out A) → (List Lexeme → Out B) → Bool → List Lexeme → Out (A ⊎ B)
by_flag p q f ts = if f then (q ts >>= λ x. Ok (inr x.0, x.1)) else (p ts >>= λ x. Ok (inl x.0, x.1))

abbrev pub read : (r : Rule) → List Lexeme → Out (Tree r)
read Empty ts = Ok (tt, ts)
read (Tok c) ts = token c ts
read (Seq a b) ts = read a ts >>= λ x. read b x.1 >>= λ y. Ok ((x.0, y.0), y.1)
read (Alt a b) ts =
    if heads (firsts a) ts then (read a ts >>= λ x. Ok (inl x.0, x.1)) else (read b ts >>= λ x. Ok (inr x.0, x.1))
read (Opt a) ts = if heads (firsts a) ts then (read a ts >>= λ x. Ok (Some x.0, x.1)) else Ok (None, ts)
read (Many a) ts = repeat (read a) (firsts a) (length ts) ts
read (Refuse c k) ts = refusal c k ts
read (Chain c a b) ts = chain (by_flag (read a) (read b)) (λ f. if f then firsts b else firsts a) c false (length ts) ts

-- After a text that begins the rule, this token stands at a place that refuses it as this kind.
abbrev pub Refuses : Rule → List Lexeme → Lexeme → Kind → Type 0
Refuses Empty ts x k = ⊥
Refuses (Tok c) ts x k = ⊥
Refuses (Seq a b) ts x k = Refuses a ts x k ⊎ Cut ts (λ us ws. ((v : Tree a) × Derives a us v) × Refuses b ws x k)
Refuses (Alt a b) ts x k = Refuses a ts x k ⊎ Refuses b ts x k
Refuses (Opt a) ts x k = Refuses a ts x k
Refuses (Many a) ts x k = Cut ts (λ us ws. ((vs : List (Tree a)) × Each (Derives a) us vs) × Refuses a ws x k)
Refuses (Refuse cs j) ts x k = (ts ≡ []) × (member x.class cs ≡ true) × (k ≡ j)
Refuses (Chain c a b) ts x k =
    Cut ts (λ us ws. ((vs : List (Tree a ⊎ Tree b)) × Links (ByFlag (Derives a) (Derives b)) c false us vs)
    × OnFlag (ends c false us) (Refuses a ws x k) (Refuses b ws x k))

-- ---- the whole of a text

abbrev pub heads_any : List Lexeme → Bool
heads_any [] = false
heads_any (x ∷ xs) = true

-- all of the tokens
abbrev pub read_all : (r : Rule) → List Lexeme → Result (Tree r) (Kind × List Lexeme)
read_all r ts = read r ts >>= λ x. if heads_any x.1 then Err (Syntax, x.1) else Ok x.0

-- no text of the rule goes on behind these tokens with those that are left, or none ends there
abbrev pub GoesNoFurther : Rule → List Lexeme → List Lexeme → Type 0
GoesNoFurther r us [] = (v : Tree r) → Derives r us v → ⊥
GoesNoFurther r us (x ∷ more) = Begins r (us ++ x ∷ []) → ⊥

-- Where no text of the rule goes on: the tokens before begin one, and with the next they don't, or there is no next and
-- they are no text of the rule.
abbrev pub StopsAt : Rule → List Lexeme → Kind → List Lexeme → Type 0
StopsAt r us k [] = (k ≡ Syntax) × ((v : Tree r) → Derives r us v → ⊥)
StopsAt r us k (x ∷ more) =
    (Begins r (us ++ x ∷ []) → ⊥) × ((j : Kind) → Refuses r us x j → k ≡ j) × ((k ≡ Syntax) ⊎ Refuses r us x k)

-- The answer is the text's reading. Where there is none, the answer says where and why.
abbrev pub Answers : (r : Rule) → List Lexeme → Result (Tree r) (Kind × List Lexeme) → Type 0
Answers r ts (Ok v) = Derives r ts v × ((w : Tree r) → Derives r ts w → w ≡ v)
Answers r ts (Err e) = Cut ts (λ us rest. (rest ≡ e.1) × Begins r us × StopsAt r us e.0 rest)
