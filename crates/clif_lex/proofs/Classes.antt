-- The table of the bytes' classes says what the definitions say.
use Rattle.std.proofs.Common.{◌≡◌, ℕ, zero, suc, ◌+◌, ◌<◌, Bool, true, false, not, ◌&&◌, ◌==◌, cond, List, [], ◌∷◌, length, get_or, bit_and, refl, sym, ◌∙◌, ap, arith}
use Rattle.std.proofs.lemmas.Bool.{and_parts}
use Rattle.clif_lex.specs.declared.bytes.TheConstants.{CLASSES, WORD_BYTE, LETTER, MARK, BLANK}
use Rattle.clif_lex.specs.Bytes.{is_blank, is_letter, is_word_byte, is_mark}

abbrev has : ℕ → ℕ → Bool
has bit class = not (bit_and class bit == 0)

abbrev same : Bool → Bool → Bool
same a b = cond a b (not b)

-- whether the classes of the bytes from `c` on have the bit where a set has the byte
abbrev tells : ℕ → (ℕ → Bool) → ℕ → List ℕ → Bool
tells bit is c [] = true
tells bit is c (x ∷ xs) = same (has bit x) (is c) && tells bit is (c + 1) xs

same_eq : (a b : Bool) → same a b ≡ true → a ≡ b
same_eq true true h = refl
same_eq true false h = sym h
same_eq false true h = h
same_eq false false h = refl

told : (bit : ℕ) (is : ℕ → Bool) (c : ℕ) (xs : List ℕ) (i : ℕ) → tells bit is c xs ≡ true → i < length xs → has bit (get_or xs i 0) ≡ is (c + i)
told bit is c [] i h below = absurd (omega arith)
told bit is c (x ∷ xs) zero h below =
    let e : c + 0 ≡ c = omega arith in
    rw e (same_eq (has bit x) (is c) (and_parts (same (has bit x) (is c)) (tells bit is (c + 1) xs) h).0)
told bit is c (x ∷ xs) (suc i) h below =
    let e : c + suc i ≡ c + 1 + i = omega arith in
    rw e (told bit is (c + 1) xs i (and_parts (same (has bit x) (is c)) (tells bit is (c + 1) xs) h).1 (omega arith))

in_table : (bit : ℕ) (is : ℕ → Bool) → tells bit is 0 CLASSES ≡ true → (c : ℕ) → c < 256 → has bit (get_or CLASSES c 0) ≡ is c
in_table bit is h c below =
    let e : 0 + c ≡ c = omega arith in
    told bit is 0 CLASSES c h below ∙ ap is e

pub blank_class : (c : ℕ) → c < 256 → has BLANK (get_or CLASSES c 0) ≡ is_blank c
blank_class c h = in_table BLANK is_blank refl c h

pub letter_class : (c : ℕ) → c < 256 → has LETTER (get_or CLASSES c 0) ≡ is_letter c
letter_class c h = in_table LETTER is_letter refl c h

pub word_class : (c : ℕ) → c < 256 → has WORD_BYTE (get_or CLASSES c 0) ≡ is_word_byte c
word_class c h = in_table WORD_BYTE is_word_byte refl c h

pub mark_class : (c : ℕ) → c < 256 → has MARK (get_or CLASSES c 0) ≡ is_mark c
mark_class c h = in_table MARK is_mark refl c h
