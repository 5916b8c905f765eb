-- A text in pieces that is apart from what follows it, and is derived by a rule wherever it stands.
use Rattle.std.proofs.Common.{◌≡◌, ℕ, ◌+◌, true, false, List, [], ◌∷◌, ◌++◌, map, length, Option, Some, None, refl, sym, ap, ap₂, subst, ◌∙◌, inl, inr, append_assoc}
use Rattle.std.proofs.lemmas.Bool.{and_from}
use Rattle.std.proofs.lemmas.List.{map-append, append-nil}
use Rattle.clif_lex.specs.Bytes.{is_word_byte, is_mark}
use Rattle.clif_lex.specs.declared.spans.TokenKind.{TokenKind}
use Rattle.clif_lex.specs.declared.spans.TokenKind.TheVariants as kind
use Rattle.grammar.specs.Rules.{Lexeme, Rule, Seq, Alt, Opt, Many, Tree, Derives}
use Rattle.ir_text.specs.TextTree.{Text, Nothing, Blanks, Word, Numbered, Name, Number, Signed, Offset, Mark, Arrow, Then, ◌▹◌, spelled, space, comma, more, separated}
use Rattle.clif_words.specs.declared.class.Class.{Class}
use Rattle.clif_words.specs.declared.class.Class.TheVariants as classes
use Rattle.clif_words.specs.Classes.{code}
use Rattle.clif_words.specs.Lexemes.{meaning_of, amount_of, name_of, lexemes}
use Rattle.clif_words.specs.Terminals.{one}
use Rattle.clif_words.proofs.Joined.{lexemes-append}
use Rattle.token_reader.specs.Grammar.{commas}
use Rattle.text_read_back.proofs.Stretches.{front, clear, tokens_at, seen_in, seen_at}

-- ---- the tokens of pieces, as the grammar sees them

abbrev pub lexeme_as : TokenKind → List ℕ → ℕ → Lexeme
lexeme_as k s at = record { class = code (meaning_of k s).class; number = (meaning_of k s).number; amount = amount_of k s; name = name_of k s; spot = at }

abbrev pub s_at : ℕ → Text → List Lexeme
s_at at t = seen_at lexeme_as at t

pub lexemes_of_text : (t : Text) (text : List ℕ) (at : ℕ) → lexemes text (tokens_at at t) ≡ map (seen_in lexeme_as text) (tokens_at at t)
unfolding lexemes
lexemes_of_text Nothing text at = refl
lexemes_of_text (Blanks bytes) text at = refl
lexemes_of_text (Word word) text at = refl
lexemes_of_text (Numbered word number) text at = refl
lexemes_of_text (Name bytes) text at = refl
lexemes_of_text (Number number) text at = refl
lexemes_of_text (Signed number) text at = refl
lexemes_of_text (Offset number) text at = refl
lexemes_of_text (Mark byte) text at = refl
lexemes_of_text Arrow text at = refl
lexemes_of_text (Then s t) text at =
    let next = at + length (spelled s) in
    lexemes-append text (tokens_at at s) (tokens_at next t)
    ∙ ap (λ (z : List Lexeme). z ++ lexemes text (tokens_at next t)) (lexemes_of_text s text at)
    ∙ ap (λ (z : List Lexeme). map (seen_in lexeme_as text) (tokens_at at s) ++ z) (lexemes_of_text t text next)
    ∙ sym (map-append (seen_in lexeme_as text) (tokens_at at s) (tokens_at next t))

-- ---- told

-- the tokens are derived by a rule, and their tree says x
pub record Told (r : Rule) {A : Type 0} (f : Tree r → A) (x : A) (ts : List Lexeme) : Type 0 where
  pub tree : Tree r
  pub derived : Derives r ts tree
  pub says : f tree ≡ x

pub told_as : {r : Rule} {A : Type 0} {f : Tree r → A} {x : A} {ts us : List Lexeme} → ts ≡ us → Told r f x us → Told r f x ts
told_as {r} {A} {f} {x} e t = subst (λ z. Told r f x z) (sym e) t

pub told_pair : {a b : Rule} {A B : Type 0} {f : Tree a → A} {g : Tree b → B} {x : A} {y : B} {us ws : List Lexeme}
    → Told a f x us → Told b g y ws → Told (Seq a b) {A = A × B} (λ (v : Tree a × Tree b). (f v.0, g v.1)) (x, y) (us ++ ws)
told_pair {a} {b} {A} {B} {f} {g} {x} {y} {us} {ws} s t = record { tree = (s.tree, t.tree); derived = (us, ws, refl, (s.derived, t.derived)); says = ap₂ (λ (p : A) (q : B). (let z : A × B = (p, q) in z)) s.says t.says }

-- ---- texts

-- no byte of a word begins the text, where none follows it
pub record Soft (t : Text) : Type 0 where
  pub so : (b : ℕ) → is_word_byte b ≡ false → is_word_byte (front t b) ≡ false

pub soft_then : {s t : Text} → Soft s → Soft t → Soft (s ▹ t)
soft_then {s} {t} p q = record { so = λ b h. p.so (front t b) (q.so b h) }

pub soft_nothing : Soft Nothing
soft_nothing = record { so = λ b h. h }

pub soft_space : {t : Text} → Soft (space ▹ t)
soft_space = record { so = λ b h. refl }

pub soft_comma : {t : Text} → Soft (comma ▹ t)
soft_comma = record { so = λ b h. refl }

pub soft_mark : (byte : ℕ) (t : Text) → is_word_byte byte ≡ false → Soft (Mark byte ▹ t)
soft_mark byte t e = record { so = λ b h. e }

-- The text is apart from what begins with no byte of a word, and wherever it stands the rule derives it, and it says x.
pub record Reads (r : Rule) {A : Type 0} (f : Tree r → A) (x : A) (t : Text) : Type 0 where
  pub clear : (b : ℕ) → is_word_byte b ≡ false → clear t b ≡ true
  pub told : (at : ℕ) → Told r f x (s_at at t)

-- one text, then another
pub seq : {a b : Rule} {A B : Type 0} {f : Tree a → A} {g : Tree b → B} {x : A} {y : B} {s t : Text}
    → Reads a f x s → Reads b g y t → Soft t → Reads (Seq a b) {A = A × B} (λ (v : Tree a × Tree b). (f v.0, g v.1)) (x, y) (s ▹ t)
seq {a} {b} {A} {B} {f} {g} {x} {y} {s} {t} p q soft = record {
  clear = λ c h. and_from (clear s (front t c)) (clear t c) (p.clear (front t c) (soft.so c h)) (q.clear c h);
  told = λ at. told_pair (p.told at) (q.told (at + length (spelled s)));
}

-- said in another way
pub means : {r : Rule} {A B : Type 0} {f : Tree r → A} {x : A} {t : Text} (h : A → B) → Reads r f x t → Reads r (λ v. h (f v)) (h x) t
means h p = record { clear = p.clear; told = λ at. (let k = p.told at in record { tree = k.tree; derived = k.derived; says = ap h k.says }) }

-- blanks before a text
pub blank : {r : Rule} {A : Type 0} {f : Tree r → A} {x : A} {t : Text} → Reads r f x t → Reads r f x (space ▹ t)
blank p = record { clear = λ b h. p.clear b h; told = λ at. p.told (at + 1) }

-- nothing before a text
pub gap : {r : Rule} {A : Type 0} {f : Tree r → A} {x : A} {t : Text} → Reads r f x t → Reads r f x (Nothing ▹ t)
gap p = record { clear = λ b h. p.clear b h; told = λ at. p.told (at + 0) }

pub left : {a b : Rule} {A : Type 0} {x : A} {t : Text} (f : Tree (Alt a b) → A) → Reads a (λ v. f (inl v)) x t → Reads (Alt a b) f x t
left f p = record { clear = p.clear; told = λ at. (let k = p.told at in record { tree = inl k.tree; derived = k.derived; says = k.says }) }

pub right : {a b : Rule} {A : Type 0} {x : A} {t : Text} (f : Tree (Alt a b) → A) → Reads b (λ v. f (inr v)) x t → Reads (Alt a b) f x t
right f p = record { clear = p.clear; told = λ at. (let k = p.told at in record { tree = inr k.tree; derived = k.derived; says = k.says }) }

pub some : {r : Rule} {A : Type 0} {x : A} {t : Text} (f : Tree (Opt r) → A) → Reads r (λ v. f (Some v)) x t → Reads (Opt r) f x t
some f p = record { clear = p.clear; told = λ at. (let k = p.told at in record { tree = Some k.tree; derived = k.derived; says = k.says }) }

pub none : (r : Rule) {A : Type 0} (f : Tree (Opt r) → A) → Reads (Opt r) f (f None) Nothing
none r f = record { clear = λ b h. refl; told = λ at. record { tree = None; derived = refl; says = refl } }

-- ---- marks

abbrev pub nothing_said : Lexeme → Unit {0}
nothing_said l = tt

pub mark : (c : Class) (byte : ℕ) → is_mark byte ≡ true → (meaning_of (kind.Mark byte) (byte ∷ [])).class ≡ c → Reads (one c) nothing_said tt (Mark byte)
mark c byte m e = record { clear = λ b h. m; told = λ at. record { tree = lexeme_as (kind.Mark byte) (byte ∷ []) at; derived = (refl, ap code e); says = refl } }

-- a mark, then a text
pub mark_then : {b : Rule} {B : Type 0} {g : Tree b → B} {y : B} {t : Text} (c : Class) (byte : ℕ) → is_mark byte ≡ true → (meaning_of (kind.Mark byte) (byte ∷ [])).class ≡ c
    → Reads b g y t → Reads (Seq (one c) b) (λ (v : Lexeme × Tree b). g v.1) y (Mark byte ▹ t)
mark_then {b} {B} {g} {y} {t} c byte m e q = record {
  clear = λ d h. and_from (is_mark byte) (clear t d) m (q.clear d h);
  told = λ at. (let k = q.told (at + 1) in record { tree = (lexeme_as (kind.Mark byte) (byte ∷ []) at, k.tree); derived = (lexeme_as (kind.Mark byte) (byte ∷ []) at ∷ [], s_at (at + 1) t, refl, ((refl, ap code e), k.derived)); says = k.says });
}

-- a comma and a space, then a text
pub comma_then : {b : Rule} {B : Type 0} {g : Tree b → B} {y : B} {t : Text} → Reads b g y t → Reads (Seq (one classes.Comma) b) (λ (v : Lexeme × Tree b). g v.1) y (comma ▹ t)
comma_then {b} {B} {g} {y} {t} q = record {
  clear = λ d h. q.clear d h;
  told = λ at. (let k = q.told (at + 2) in record { tree = (lexeme_as (kind.Mark 44) (44 ∷ []) at, k.tree); derived = (lexeme_as (kind.Mark 44) (44 ∷ []) at ∷ [], s_at (at + 2) t, refl, ((refl, refl), k.derived)); says = k.says });
}

-- a text, then a mark
pub then_mark : {a : Rule} {A : Type 0} {f : Tree a → A} {x : A} {s : Text} (c : Class) (byte : ℕ) → is_mark byte ≡ true → is_word_byte byte ≡ false → (meaning_of (kind.Mark byte) (byte ∷ [])).class ≡ c
    → Reads a f x s → Reads (Seq a (one c)) (λ (v : Tree a × Lexeme). f v.0) x (s ▹ Mark byte)
then_mark {a} {A} {f} {x} {s} c byte m w e p = record {
  clear = λ d h. and_from (clear s byte) (is_mark byte) (p.clear byte w) m;
  told = λ at. (let k = p.told at in let next = at + length (spelled s) in record { tree = (k.tree, lexeme_as (kind.Mark byte) (byte ∷ []) next); derived = (s_at at s, lexeme_as (kind.Mark byte) (byte ∷ []) next ∷ [], refl, (k.derived, (refl, ap code e))); says = k.says });
}

-- ---- lists behind commas

-- each text reads as its own
abbrev pub AllRead : {X A : Type 0} (r : Rule) (f : Tree r → A) (s : X → Text) (say : X → A) → List X → Type 0
AllRead r f s say [] = Unit {0}
AllRead r f s say (x ∷ xs) = Reads r f (say x) (s x) × AllRead r f s say xs

pub more_soft : {X : Type 0} (s : X → Text) (xs : List X) → Soft (more s xs)
more_soft s [] = soft_nothing
more_soft s (x ∷ xs) = record { so = λ b h. refl }

pub more_reads : {X A : Type 0} (r : Rule) (f : Tree r → A) (s : X → Text) (say : X → A) (xs : List X) → AllRead r f s say xs
    → Reads (Many (Seq (one classes.Comma) r)) (map (λ (v : Lexeme × Tree r). f v.1)) (map say xs) (more s xs)
more_reads {X} {A} r f s say [] h = record { clear = λ b e. refl; told = λ at. record { tree = []; derived = refl; says = refl } }
more_reads {X} {A} r f s say (x ∷ xs) h =
    let ih = more_reads r f s say xs h.1 in
    record {
      clear = λ b e. and_from (clear (s x) (front (more s xs) b)) (clear (more s xs) b) (h.0.clear (front (more s xs) b) ((more_soft s xs).so b e)) (ih.clear b e);
      told = λ at. (
          let c = (comma_then h.0).told at in
          let next = at + 2 + length (spelled (s x)) in
          let m = ih.told next in
          record {
            tree = c.tree ∷ m.tree;
            derived = (s_at at (comma ▹ s x), s_at next (more s xs), refl, (c.derived, m.derived));
            says = ap₂ (λ (y : A) (ys : List A). y ∷ ys) c.says m.says;
          });
    }

pub separated_reads : {X A : Type 0} (r : Rule) (f : Tree r → A) (s : X → Text) (say : X → A) (x : X) (xs : List X) → AllRead r f s say (x ∷ xs)
    → Reads (commas r) (λ v. f v.0 ∷ map (λ (w : Lexeme × Tree r). f w.1) v.1) (say x ∷ map say xs) (separated s (x ∷ xs))
separated_reads {X} {A} r f s say x xs h = means (λ (p : A × List A). p.0 ∷ p.1) (seq h.0 (more_reads r f s say xs h.1) (more_soft s xs))

-- ---- texts that are apart from whatever follows them, as those that end with a space

pub record Closed (r : Rule) {A : Type 0} (f : Tree r → A) (x : A) (t : Text) : Type 0 where
  pub clear : (b : ℕ) → clear t b ≡ true
  pub told : (at : ℕ) → Told r f x (s_at at t)

pub closed_seq : {a b : Rule} {A B : Type 0} {f : Tree a → A} {g : Tree b → B} {x : A} {y : B} {s t : Text}
    → Closed a f x s → Reads b g y t → Reads (Seq a b) {A = A × B} (λ (v : Tree a × Tree b). (f v.0, g v.1)) (x, y) (s ▹ t)
closed_seq {a} {b} {A} {B} {f} {g} {x} {y} {s} {t} p q = record {
  clear = λ c h. and_from (clear s (front t c)) (clear t c) (p.clear (front t c)) (q.clear c h);
  told = λ at. told_pair (p.told at) (q.told (at + length (spelled s)));
}

-- the first of two alternatives, and the second, where the meaning is known
pub first_of : {a b : Rule} {A : Type 0} {f : Tree (Alt a b) → A} {x : A} {t : Text} → Reads a (λ v. f (inl v)) x t → Reads (Alt a b) f x t
first_of {a} {b} {A} {f} p = left f p

pub past : {a b : Rule} {A : Type 0} {f : Tree (Alt a b) → A} {x : A} {t : Text} → Reads b (λ v. f (inr v)) x t → Reads (Alt a b) f x t
past {a} {b} {A} {f} p = right f p

-- a part that may be left out, and is
pub skip : (a : Rule) {b : Rule} {B : Type 0} {g : Tree b → B} {y : B} {t : Text} → Reads b g y t → Reads (Seq (Opt a) b) (λ (v : Option (Tree a) × Tree b). g v.1) y t
skip a {b} {B} {g} {y} {t} q = record { clear = q.clear; told = λ at. (let k = q.told at in record { tree = (None, k.tree); derived = ([], s_at at t, refl, (refl, k.derived)); says = k.says }) }

-- two texts that are written as one, then another
pub seq_three : {a b c : Rule} {A B C : Type 0} {f : Tree a → A} {g : Tree b → B} {h : Tree c → C} {x : A} {y : B} {z : C} {s t u : Text}
    → Reads a f x s → Reads b g y t → Reads c h z u → Soft t → Soft u
    → Reads (Seq a (Seq b c)) {A = A × (B × C)} (λ (v : Tree a × (Tree b × Tree c)). (f v.0, (g v.1.0, h v.1.1))) (x, (y, z)) ((s ▹ t) ▹ u)
seq_three {a} {b} {c} {A} {B} {C} {f} {g} {h} {x} {y} {z} {s} {t} {u} p q r soft_t soft_u = record {
  clear = λ d e. and_from (clear (s ▹ t) (front u d)) (clear u d)
      (and_from (clear s (front t (front u d))) (clear t (front u d)) (p.clear (front t (front u d)) (soft_t.so (front u d) (soft_u.so d e))) (q.clear (front u d) (soft_u.so d e))) (r.clear d e);
  told = λ at. told_as (append_assoc (s_at at s) (s_at (at + length (spelled s)) t) (s_at (at + length (spelled s ++ spelled t)) u))
      (told_pair (p.told at) (told_pair (q.told (at + length (spelled s))) (r.told (at + length (spelled s ++ spelled t)))));
}

-- nothing behind a text
pub then_nothing : {r : Rule} {A : Type 0} {f : Tree r → A} {x : A} {t : Text} → Reads r f x t → Reads r f x (t ▹ Nothing)
then_nothing {r} {A} {f} {x} {t} p = record {
  clear = λ b h. and_from (clear t b) true (p.clear b h) refl;
  told = λ at. told_as (append-nil (s_at at t)) (p.told at);
}
