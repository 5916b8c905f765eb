-- Items behind commas, types and numbers are read as their rules of the grammar say.
use Rattle.std.proofs.Common.{List, [], ◌∷◌, ◌++◌, map, Option, Some, None}
use Rattle.grammar.specs.Rules.{Lexeme, Rule, Opt, Many, Tree, Unsupported, Out}
use Rattle.ir_core.specs.declared.signatures.Ty.TheVariants as ty_words
use Rattle.clif_words.specs.declared.class.Class.TheVariants as classes
use Rattle.token_reader.specs.declared.raw.RawName.{RawName}
use Rattle.clif_words.specs.Terminals.{◌then◌, ◌or◌, comma, ty_i64, signed}
use Rattle.token_reader.specs.Grammar.{commas, number, refused_type, any_type, suffix, suffix_i64}
use Rattle.token_reader.specs.Reading.{name, comma_at, more_at, commas_at}
use Rattle.token_reader.specs.Types.{type_of, type_at, suffix_at, opt_suffix_at, i64_at, suffix_i64_at, opt_suffix_i64_at}
use Rattle.token_reader.specs.Numbers.{number_at, offset_at}
use Rattle.token_reader.specs.Values.{◌otherwise◌, perhaps, never, commas_value, any_type_value, suffix_value, opt_suffix_value, number_value, offset_value}
use Rattle.token_reader.proofs.Seen.{Is, then_is, map_is, opt_is, alt_is, many_is, refuse_is, name_is, amount_is}

-- { "," a }, after items in front
pub more_is : {A : Type 0} {a : Rule} {f : Tree a → A} {p : List Lexeme → Out A} → Is a f p → (front : List A)
    → Is (Many (comma then a)) (λ vs. front ++ map (λ v. f v.1) vs) (more_at p front)
unfolding more_at comma_at
more_is {A} {a} {f} {p} e front = map_is (many_is (then_is (name_is classes.Comma) a (λ c v. f v) (λ c. p) (λ c. e))) (λ xs. front ++ xs)

-- a { "," a }
pub commas_is : {A : Type 0} {a : Rule} {f : Tree a → A} {p : List Lexeme → Out A} → Is a f p
    → Is (commas a) (commas_value a f) (commas_at p)
unfolding commas_at
commas_is {A} {a} {f} {p} e = then_is e (Many (comma then a)) (λ x vs. x ∷ map (λ v. f v.1) vs) (λ x. more_at p (x ∷ [])) (λ x. more_is e (x ∷ []))

-- ---- types and numbers

pub type_is : Is any_type any_type_value type_at
unfolding type_at
type_is = alt_is (map_is (name_is classes.Ty) (λ x. type_of x.number)) (alt_is (map_is (name_is classes.TyI64) (λ x. ty_words.I64)) (refuse_is (classes.RefusedType ∷ []) Unsupported never))

pub suffix_is : Is suffix suffix_value suffix_at
unfolding suffix_at
suffix_is = then_is (name_is classes.Dot) any_type (λ d v. any_type_value v) (λ d. type_at) (λ d. type_is)

pub opt_suffix_is : Is (Opt suffix) opt_suffix_value opt_suffix_at
unfolding opt_suffix_at
opt_suffix_is = opt_is (map_is suffix_is Some) None

abbrev i64_word : Tree (ty_i64 or refused_type) → RawName
i64_word = name otherwise never

abbrev pub i64_value : Tree suffix_i64 → RawName
i64_value v = i64_word v.1

abbrev pub opt_i64_value : Tree (Opt suffix_i64) → Option RawName
opt_i64_value = perhaps None (λ v. Some (i64_value v))

i64_is : Is (ty_i64 or refused_type) i64_word i64_at
unfolding i64_at
i64_is = alt_is (name_is classes.TyI64) (refuse_is (classes.RefusedType ∷ []) Unsupported never)

pub suffix_i64_is : Is suffix_i64 i64_value suffix_i64_at
unfolding suffix_i64_at
suffix_i64_is = then_is (name_is classes.Dot) (ty_i64 or refused_type) (λ d v. i64_word v) (λ d. i64_at) (λ d. i64_is)

pub opt_suffix_i64_is : Is (Opt suffix_i64) opt_i64_value opt_suffix_i64_at
unfolding opt_suffix_i64_at
opt_suffix_i64_is = opt_is (map_is suffix_i64_is Some) None

pub number_is : Is number number_value number_at
unfolding number_at
number_is = alt_is (amount_is classes.Unsigned) (amount_is classes.Signed)

pub offset_is : Is (Opt signed) offset_value offset_at
unfolding offset_at
offset_is = opt_is (map_is (amount_is classes.Signed) Some) None
