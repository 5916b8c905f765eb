-- What a tree takes from its words is taken from the tokens of its text, in their order. One lemma for each way to make a rule of others.
use Rattle.std.proofs.Common.{◌≡◌, ℕ, ◌+◌, ◌^◌, ◌<◌, ◌≤◌, Bool, true, false, List, [], ◌∷◌, ◌++◌, map, Option, Some, None, refl, sym, ap, subst, ◌∙◌, inl, inr, arith}
use Rattle.std.specs.Prelude.{◌⊎◌}
use Rattle.std.specs.List.{list_all, flat_map}
use Rattle.grammar.specs.Rules.{Lexeme, Class, Kind, Rule, Tok, Seq, Alt, Opt, Many, Refuse, Chain, Tree, Each, Links, ByFlag, ends, Derives}
use Rattle.ir_core.specs.Lists as lists
use Rattle.clif_lex.specs.Bytes.{is_word_byte}
use Rattle.clif_lex.specs.Numbers.{is_wide}
use Rattle.clif_words.specs.declared.class.Class as words
use Rattle.clif_words.specs.declared.class.Class.TheVariants as classes
use Rattle.clif_words.specs.Classes.{code}
use Rattle.clif_words.specs.Terminals.{one, ◌then◌, comma}
use Rattle.clif_words.specs.TextTokens.{IsTextToken, RiseFrom, AreTextTokens}
use Rattle.clif_words.proofs.TextTokens.{rise_weaker}
use Rattle.token_reader.specs.declared.raw.RawName.{RawName}
use Rattle.token_reader.specs.declared.raw.RawNumber.{RawNumber}
use Rattle.token_reader.specs.declared.raw.RawOpcode.{RawOpcode}
use Rattle.token_reader.specs.Grammar.{commas}
use Rattle.token_reader.specs.Reading.{name, opcode, amount}
use Rattle.token_reader.specs.Values.{either, perhaps, commas_value}
use Rattle.clif_insts.specs.Marks.{Mark, Spot, Word, Opcode, Number, Name, spot_of, MarkFormed, MarksFormed}

-- ---- marks of tokens

-- the mark is taken from the token
abbrev pub IsOf : Lexeme → Mark → Type 0
IsOf x (Spot spot) = spot ≡ x.spot
IsOf x (Word n) = n ≡ name x
IsOf x (Opcode o) = o ≡ opcode x
IsOf x (Number n) = n ≡ amount x
IsOf x (Name bytes spot) = (bytes ≡ x.name) × (spot ≡ x.spot) × (x.class ≡ code classes.Name)

-- the marks are of some of the tokens, in their order
pub data Among : List Mark → List Lexeme → Type 0 where
  done : Among [] []
  pass : {x : Lexeme} {ms : List Mark} {xs : List Lexeme} → Among ms xs → Among ms (x ∷ xs)
  take : {x : Lexeme} {m : Mark} {ms : List Mark} {xs : List Lexeme} → IsOf x m → Among ms xs → Among (m ∷ ms) (x ∷ xs)

pub among_none : (xs : List Lexeme) → Among [] xs
among_none [] = done
among_none (x ∷ xs) = pass (among_none xs)

pub among_join : {ms ns : List Mark} {xs ys : List Lexeme} → Among ms xs → Among ns ys → Among (ms ++ ns) (xs ++ ys)
among_join done b = b
among_join (pass a) b = pass (among_join a b)
among_join (take h a) b = take h (among_join a b)

pub among_front : {ms : List Mark} {xs : List Lexeme} → Among ms xs → (ys : List Lexeme) → Among ms (xs ++ ys)
among_front done ys = among_none ys
among_front (pass a) ys = pass (among_front a ys)
among_front (take h a) ys = take h (among_front a ys)

mark_formed : (len : ℕ) (x : Lexeme) (m : Mark) → IsTextToken len x → IsOf x m → MarkFormed len m
mark_formed len x (Spot spot) token h = subst (λ (s : ℕ). s < len) (sym h) token.inside
mark_formed len x (Word n) token h = subst (λ (n : RawName). (n.spot < len) × (n.number < 2 ^ 64)) (sym h) (token.inside, token.number)
mark_formed len x (Opcode o) token h = subst (λ (o : RawOpcode). o.spot < len) (sym h) token.inside
mark_formed len x (Number n) token h = subst (λ (n : RawNumber). (n.spot < len) × (is_wide n.value ≡ true)) (sym h) (token.inside, token.amount)
mark_formed len x (Name bytes spot) token h = (
  subst (λ (s : ℕ). s < len) (sym h.1) token.inside,
  (λ e. token.named h.2 (sym h.0 ∙ e)),
  subst (λ (bs : List ℕ). list_all is_word_byte bs ≡ true) (sym h.0) token.name,
)

pub each_formed : {ms : List Mark} {xs : List Lexeme} → Among ms xs → (len : ℕ) → lists.Each (IsTextToken len) xs → lists.Each (MarkFormed len) ms
each_formed done len tokens = tt
each_formed (pass a) len tokens = each_formed a len tokens.1
each_formed (take {x} {m} h a) len tokens = (mark_formed len x m tokens.0 h, each_formed a len tokens.1)

spot_same : (x : Lexeme) (m : Mark) → IsOf x m → spot_of m ≡ x.spot
spot_same x (Spot spot) h = h
spot_same x (Word n) h = ap (λ (n : RawName). n.spot) h
spot_same x (Opcode o) h = ap (λ (o : RawOpcode). o.spot) h
spot_same x (Number n) h = ap (λ (n : RawNumber). n.spot) h
spot_same x (Name bytes spot) h = h.1

pub rises : {ms : List Mark} {xs : List Lexeme} → Among ms xs → (low : ℕ) → RiseFrom low (map (λ (x : Lexeme). x.spot) xs) → RiseFrom low (map spot_of ms)
rises done low rise = tt
rises (pass {x} {ms} a) low rise = rise_weaker low (x.spot + 1) (map spot_of ms) (let first = rise.0 in omega arith) (rises a (x.spot + 1) rise.1)
rises (take {x} {m} {ms} h a) low rise =
    let same = spot_same x m h in
    (subst (λ (s : ℕ). low ≤ s) (sym same) rise.0, subst (λ (s : ℕ). RiseFrom (s + 1) (map spot_of ms)) (sym same) (rises a (x.spot + 1) rise.1))

pub marks_formed : {ms : List Mark} {xs : List Lexeme} → Among ms xs → (len : ℕ) → AreTextTokens len xs → MarksFormed len ms
marks_formed a len tokens = record { each = each_formed a len tokens.each; rising = rises a 0 tokens.rising }

-- ---- marks of trees

pub record Marked (r : Rule) (m : Tree r → List Mark) : Type 0 where
  pub among : (ts : List Lexeme) (v : Tree r) → Derives r ts v → Among (m v) ts

-- a rule of which nothing is taken
pub unmarked : (r : Rule) → Marked r (λ v. [])
unmarked r = record { among = λ ts v d. among_none ts }

pub marked_same : {r : Rule} {m n : Tree r → List Mark} → Marked r m → ((v : Tree r) → m v ≡ n v) → Marked r n
marked_same {r} {m} {n} a same = record { among = λ ts v d. subst (λ (ms : List Mark). Among ms ts) (same v) (a.among ts v d) }

pub token_marked : (c : Class) (m : Lexeme → Mark) → ((x : Lexeme) → x.class ≡ c → IsOf x (m x)) → Marked (Tok c) (λ x. m x ∷ [])
token_marked c m h = record { among = λ ts x d. subst (Among (m x ∷ [])) (sym d.0) (take (h x d.1) done) }

pub word_marked : (class : words.Class) → Marked (one class) (λ x. Word (name x) ∷ [])
word_marked class = token_marked (code class) (λ x. Word (name x)) (λ x e. refl)

pub opcode_marked : (class : words.Class) → Marked (one class) (λ x. Opcode (opcode x) ∷ [])
opcode_marked class = token_marked (code class) (λ x. Opcode (opcode x)) (λ x e. refl)

pub amount_marked : (class : words.Class) → Marked (one class) (λ x. Number (amount x) ∷ [])
amount_marked class = token_marked (code class) (λ x. Number (amount x)) (λ x e. refl)

pub spot_marked : (class : words.Class) → Marked (one class) (λ x. Spot x.spot ∷ [])
spot_marked class = token_marked (code class) (λ x. Spot x.spot) (λ x e. refl)

-- one rule, and then another
pub both_marked : {a b : Rule} {m : Tree a → List Mark} {n : Tree b → List Mark} → Marked a m → Marked b n → Marked (Seq a b) (λ v. m v.0 ++ n v.1)
both_marked {a} {b} {m} {n} p q = record { among = λ ts v d. subst (Among (m v.0 ++ n v.1)) (sym d.2) (among_join (p.among d.0 v.0 d.3.0) (q.among d.1 v.1 d.3.1)) }

-- the same, where nothing is taken of the first, or of the second
pub second_marked : {a b : Rule} {n : Tree b → List Mark} → Marked b n → Marked (Seq a b) (λ v. n v.1)
second_marked {a} {b} {n} q = both_marked (unmarked a) q

pub first_marked : {a b : Rule} {m : Tree a → List Mark} → Marked a m → Marked (Seq a b) (λ v. m v.0)
first_marked {a} {b} {m} p = record { among = λ ts v d. subst (Among (m v.0)) (sym d.2) (among_front (p.among d.0 v.0 d.3.0) d.1) }

-- one of two
pub either_marked : {a b : Rule} {m : Tree a → List Mark} {n : Tree b → List Mark} → Marked a m → Marked b n → Marked (Alt a b) (either m n)
either_marked {a} {b} {m} {n} p q = record { among = go }
  where
    go : (ts : List Lexeme) (v : Tree a ⊎ Tree b) → Derives (Alt a b) ts v → Among (either m n v) ts
    go ts (inl v) d = p.among ts v d
    go ts (inr v) d = q.among ts v d

-- a word that is refused is no text
pub refused_marked : {cs : List Class} {kind : Kind} (m : ⊥ → List Mark) → Marked (Refuse cs kind) m
refused_marked m = record { among = λ ts v d. absurd v }

-- [ ]
pub perhaps_marked : {a : Rule} {m : Tree a → List Mark} → Marked a m → Marked (Opt a) (perhaps [] m)
perhaps_marked {a} {m} p = record { among = go }
  where
    go : (ts : List Lexeme) (v : Option (Tree a)) → Derives (Opt a) ts v → Among (perhaps [] m v) ts
    go ts None d = among_none ts
    go ts (Some v) d = p.among ts v d

-- { }
pub many_marked : {a : Rule} {m : Tree a → List Mark} → Marked a m → Marked (Many a) (λ vs. flat_map m vs)
many_marked {a} {m} p = record { among = go }
  where
    go : (ts : List Lexeme) (vs : List (Tree a)) → Each (Derives a) ts vs → Among (flat_map m vs) ts
    go ts [] d = among_none ts
    go ts (v ∷ vs) d = subst (Among (m v ++ flat_map m vs)) (sym d.2) (among_join (p.among d.0 v d.3.0) (go d.1 vs d.3.1))

-- { }, where a token says which of two rules the next is of
pub chain_marked : {c : Class} {a b : Rule} {m : Tree a → List Mark} {n : Tree b → List Mark} → Marked a m → Marked b n → Marked (Chain c a b) (λ vs. flat_map (either m n) vs)
chain_marked {c} {a} {b} {m} {n} p q = record { among = go false }
  where
    one_of : (f : Bool) (ts : List Lexeme) (v : Tree a ⊎ Tree b) → ByFlag (Derives a) (Derives b) f ts v → Among (either m n v) ts
    one_of f ts (inl v) d = p.among ts v d.1
    one_of f ts (inr v) d = q.among ts v d.1

    go : (f : Bool) (ts : List Lexeme) (vs : List (Tree a ⊎ Tree b)) → Links (ByFlag (Derives a) (Derives b)) c f ts vs → Among (flat_map (either m n) vs) ts
    go f ts [] d = among_none ts
    go f ts (v ∷ vs) d = subst (Among (either m n v ++ flat_map (either m n) vs)) (sym d.2) (among_join (one_of f d.0 v d.3.0) (go (ends c f d.0) d.1 vs d.3.1))

-- the marks of a list that is made of another
pub flat_map_map : {A B : Type 0} (g : B → List Mark) (h : A → B) (xs : List A) → flat_map (λ (x : A). g (h x)) xs ≡ flat_map g (map h xs)
flat_map_map g h [] = refl
flat_map_map g h (x ∷ xs) = ap (λ (ms : List Mark). g (h x) ++ ms) (flat_map_map g h xs)

pub each_marked : {A : Type 0} {a : Rule} (f : Tree a → A) (g : A → List Mark) → Marked a (λ v. g (f v)) → Marked (Many a) (λ vs. flat_map g (map f vs))
each_marked f g p = marked_same (many_marked p) (flat_map_map g f)

-- a { "," a }
pub commas_marked : {A : Type 0} {a : Rule} (f : Tree a → A) (g : A → List Mark) → Marked a (λ v. g (f v)) → Marked (commas a) (λ v. flat_map g (commas_value a f v))
commas_marked {A} {a} f g p =
    marked_same (both_marked p (many_marked (second_marked {a = comma} p)))
    (λ v. ap (λ (ms : List Mark). g (f v.0) ++ ms) (flat_map_map g (λ (w : Lexeme × Tree a). f w.1) v.1))

-- [ ] of a list
pub perhaps_list : {A : Type 0} {a : Rule} (f : Tree a → List A) (g : A → List Mark) → Marked a (λ v. flat_map g (f v)) → Marked (Opt a) (λ v. flat_map g (perhaps [] f v))
perhaps_list {A} {a} f g p = marked_same (perhaps_marked p) same
  where
    same : (v : Option (Tree a)) → perhaps [] (λ v. flat_map g (f v)) v ≡ flat_map g (perhaps [] f v)
    same None = refl
    same (Some v) = refl

-- a list between two tokens, which may be empty
pub within_marked : {A : Type 0} {a : Rule} (left right : words.Class) (f : Tree a → List A) (g : A → List Mark) → Marked a (λ v. flat_map g (f v))
    → Marked (one left then Opt a then one right) (λ v. flat_map g (perhaps [] f v.1.0))
within_marked left right f g p = second_marked (first_marked (perhaps_list f g p))
