-- The flags of a memory access as the text form of CLIF says them: any number of the nine flags, `big` and `little` not
-- together. The grammar says the same by what stands first (`flags`).
use Rattle.std.specs.Prelude.{◌≡◌, ◌==◌, ◌&&◌, Bool, false, List, map}
use Rattle.std.specs.List.{list_any}
use Rattle.grammar.specs.Rules.{Lexeme, Kind, Rule, Many, Tree, Derives, Begins, Refuses}
use Rattle.clif_words.specs.declared.class.Class.{Class}
use Rattle.clif_words.specs.declared.class.Class.TheVariants as classes
use Rattle.clif_words.specs.Classes.{code}
use Rattle.clif_words.specs.Terminals.{◌or◌, little, big}
use Rattle.clif_insts.specs.declared.raw.RawFlag.{RawFlag}
use Rattle.clif_insts.specs.declared.raw.RawFlag.TheVariants as flag_words
use Rattle.clif_insts.specs.Grammar.{plain_flag, flags}
use Rattle.token_reader.specs.Values.{◌otherwise◌}
use Rattle.clif_insts.specs.Values.{plain_flag_value, flags_value}

-- one of the nine flags
abbrev pub any_flag : Rule
any_flag = plain_flag or little or big

abbrev pub any_flag_value : Tree any_flag → RawFlag
any_flag_value = plain_flag_value otherwise (λ x. flag_words.Little) otherwise (λ x. flag_words.Big)

-- a token of the class is among these
abbrev pub has : Class → List Lexeme → Bool
has class ts = list_any (λ x. code class == x.class) ts

-- `big` and `little` stand together
abbrev pub both_orders : List Lexeme → Bool
both_orders ts = has classes.Big ts && has classes.Little ts

-- the tokens are a text of the rule, which means this
abbrev pub Means : {A : Type 0} (r : Rule) → (Tree r → A) → List Lexeme → A → Type 0
Means r f ts x = (v : Tree r) × Derives r ts v × (f v ≡ x)

-- each follows from the other
infix 2 ◌iff◌
abbrev pub ◌iff◌ : Type 0 → Type 0 → Type 0
P iff Q = (P → Q) × (Q → P)

-- the same texts with the same meaning, the same beginnings, and the same refused words
abbrev pub FlagsLetter : List Lexeme → Type 0
FlagsLetter ts =
    ((fs : List RawFlag)
    → Means flags flags_value ts fs iff (Means (Many any_flag) (map any_flag_value) ts fs × (both_orders ts ≡ false)))
    × (Begins flags ts iff (Begins (Many any_flag) ts × (both_orders ts ≡ false)))
    × ((x : Lexeme) (k : Kind) → Refuses flags ts x k iff (Refuses (Many any_flag) ts x k × (both_orders ts ≡ false)))
