-- A text in pieces: the tokens that it is made of, one after the other, with the blanks between them.
use Rattle.std.specs.Prelude.{ℕ, suc, ℤ, pos, negsuc, List, [], ◌∷◌, ◌++◌, decimal}
use Rattle.std.specs.Fmt.{signed_decimal}

pub data Text : Type 0 where
  Nothing : Text
  -- bytes that no token has: spaces and line feeds
  Blanks : List ℕ → Text
  -- a word, as `iadd`
  Word : List ℕ → Text
  -- a word that ends with a number, as `v7`, `block3` or `uload8`
  Numbered : List ℕ → ℕ → Text
  -- a name behind `%`
  Name : List ℕ → Text
  -- a number without a sign
  Number : ℕ → Text
  -- a number, with its sign where it is below 0
  Signed : ℤ → Text
  -- a number with its sign
  Offset : ℤ → Text
  -- one of the marks, by its byte
  Mark : ℕ → Text
  -- `->`
  Arrow : Text
  -- one text, then another
  Then : Text → Text → Text

infixr 4 ◌▹◌
abbrev pub ◌▹◌ : Text → Text → Text
a ▹ b = Then a b

-- `+8` or `-8`
abbrev pub with_sign : ℤ → List ℕ
with_sign (pos n) = 43 ∷ decimal n
with_sign (negsuc n) = 45 ∷ decimal (suc n)

-- the bytes of a text
abbrev pub spelled : Text → List ℕ
spelled Nothing = []
spelled (Blanks bytes) = bytes
spelled (Word word) = word
spelled (Numbered word number) = word ++ decimal number
spelled (Name bytes) = 37 ∷ bytes
spelled (Number number) = decimal number
spelled (Signed number) = signed_decimal number
spelled (Offset number) = with_sign number
spelled (Mark byte) = byte ∷ []
spelled Arrow = 45 ∷ 62 ∷ []
spelled (Then a b) = spelled a ++ spelled b

-- ---- blanks and marks by their names

abbrev pub space : Text
space = Blanks (32 ∷ [])

abbrev pub line_end : Text
line_end = Blanks (10 ∷ [])

-- what stands before a declaration and before an instruction
abbrev pub indent : Text
indent = Blanks (32 ∷ 32 ∷ 32 ∷ 32 ∷ [])

abbrev pub comma : Text
comma = Mark 44 ▹ space

abbrev pub colon : Text
colon = Mark 58

abbrev pub equals : Text
equals = space ▹ Mark 61 ▹ space

-- ---- lists

module _ {A : Type 0} (text_of : A → Text) where
  -- further items, each behind a comma
  abbrev pub more : List A → Text
  more [] = Nothing
  more (x ∷ xs) = comma ▹ text_of x ▹ more xs

  -- items with commas between them
  abbrev pub separated : List A → Text
  separated [] = Nothing
  separated (x ∷ xs) = text_of x ▹ more xs

abbrev pub in_parentheses : Text → Text
in_parentheses t = Mark 40 ▹ t ▹ Mark 41

abbrev pub in_brackets : Text → Text
in_brackets t = Mark 91 ▹ t ▹ Mark 93
