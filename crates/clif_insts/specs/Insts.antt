-- One instruction, read from a place of the list of tokens on: which one it is and where it stops, or where and why
-- there is none.
use Rattle.std.specs.Prelude.{◌≡◌, ℕ, ◌+◌, nat_lt, List, [], ◌∷◌, ◌++◌, ◌⊎◌, length, take, drop}
use Rattle.std.specs.List.{prefix_len}
use Rattle.grammar.specs.Rules.{Lexeme, Rule, Kind, Tree, Cut, Derives, Begins, StopsAt}
use Rattle.grammar.specs.Rules as rules
use Rattle.clif_lex.specs.declared.spans.Token.{Token}
use Rattle.clif_insts.specs.declared.raw.RawInst.{RawInst}
use Rattle.clif_insts.specs.declared.insts.SyntaxErr.{SyntaxErr}
use Rattle.clif_insts.specs.declared.insts.SyntaxErr.TheVariants as errors
use Rattle.token_reader.specs.declared.stop.Stop.{Stop}
use Rattle.token_reader.specs.declared.stop.Stop.TheVariants as stops
use Rattle.clif_insts.specs.Grammar.{whole_inst, return_alone}
use Rattle.clif_insts.specs.InstValues.{whole_value}
use Rattle.token_reader.specs.Next.{spot_or}

-- the tokens begin with a text of the rule
abbrev pub Starts : Rule → List Lexeme → Type 0
Starts r ts = Cut ts (λ us rest. (v : Tree r) × Derives r us v)

-- The tokens that an instruction may be made of. Where a `return` is followed by the results of the next line, or by
-- its alias, it is the only one.
abbrev pub Own : List Lexeme → List Lexeme → Type 0
Own ts own = (Starts return_alone ts × (own ≡ take 1 ts)) ⊎ ((Starts return_alone ts → ⊥) × (own ≡ ts))

-- the tokens are this instruction, and are read in no other way
abbrev pub IsInst : List Lexeme → RawInst → Type 0
IsInst us x =
    (v : Tree whole_inst) × Derives whole_inst us v × (x ≡ whole_value v)
    × ((w : Tree whole_inst) → Derives whole_inst us w → w ≡ v)

-- there is no next token, or with it the tokens begin no instruction
abbrev pub NoMore : List Lexeme → List Lexeme → Type 0
NoMore us [] = Unit {0}
NoMore us (x ∷ more) = Begins whole_inst (us ++ x ∷ []) → ⊥

-- i, and the tokens from i on that start before this spot
abbrev pub place_of : List Token → ℕ → ℕ → ℕ
place_of tokens i spot = i + prefix_len (λ t. nat_lt t.start spot) (drop i tokens)

-- the place in the list of the first of these tokens, which are left of those from i on; of none it is the list's
-- length
abbrev pub place_left : List ℕ → List Token → ℕ → List Lexeme → ℕ
place_left text tokens i rest = place_of tokens i (spot_or (length text) rest)

-- the place behind some of the tokens
abbrev pub place_behind : (List Lexeme → ℕ) → List Lexeme → List Lexeme → ℕ
place_behind place us ts = place (drop (length us) ts)

-- the tokens up to k are this instruction, and no more of them begin one
abbrev pub Found : List Lexeme → (List Lexeme → ℕ) → RawInst → ℕ → Type 0
Found ts place x k =
    (own : List Lexeme) × Own ts own
    × Cut own (λ us rest. IsInst us x × NoMore us rest × (k ≡ place_behind place us ts))

-- The tokens up to k are no instruction. They begin one, and with the next they begin none, or there is no next. The
-- kind is that of the words that the place refuses, and Syntax elsewhere.
abbrev pub Missing : List Lexeme → (List Lexeme → ℕ) → Kind → ℕ → Type 0
Missing ts place kind k =
    (own : List Lexeme) × Own ts own
    × Cut own (λ us rest. Begins whole_inst us × ((v : Tree whole_inst) → Derives whole_inst us v → ⊥)
    × StopsAt whole_inst us kind rest × (k ≡ place_behind place us ts))

abbrev pub Stopped : List Lexeme → (List Lexeme → ℕ) → SyntaxErr → Type 0
Stopped ts place (errors.Syntax k) = Missing ts place rules.Syntax k
Stopped ts place (errors.UnknownOpcode k) = Missing ts place rules.UnknownOpcode k
Stopped ts place (errors.Unsupported k) = Missing ts place rules.Unsupported k
Stopped ts place errors.NoMemory = Unit {0}

-- why reading stopped, and at which token
abbrev pub error_at : Stop → ℕ → SyntaxErr
error_at stops.Syntax k = errors.Syntax k
error_at stops.UnknownOpcode k = errors.UnknownOpcode k
error_at stops.Unsupported k = errors.Unsupported k
error_at stops.NoMemory k = errors.NoMemory
