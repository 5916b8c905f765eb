-- Flags of a memory access, read from left to right.
use Rattle.std.specs.Prelude.{ℕ, ◌==◌, if◌then◌else◌, List, [], ◌∷◌, ◌++◌, length, Ok}
use Rattle.grammar.specs.Rules.{Lexeme, Unsupported, Out, heads, ◌>>=◌}
use Rattle.clif_words.specs.declared.class.Class.{Class}
use Rattle.clif_words.specs.declared.class.Class.TheVariants as classes
use Rattle.clif_insts.specs.declared.flags.Order.{Order}
use Rattle.clif_insts.specs.declared.flags.Order.TheVariants as orders
use Rattle.clif_insts.specs.declared.raw.RawFlag.{RawFlag}
use Rattle.clif_insts.specs.declared.raw.RawFlag.TheVariants as flags
use Rattle.clif_words.specs.Classes.{code}
use Rattle.clif_words.specs.Terminals.{codes_of}
use Rattle.token_reader.specs.Reading.{next_is, name_at, each, with_front, refuse}

abbrev pub flag_of : ℕ → RawFlag
flag_of n =
    if n == 0 then flags.Notrap else if n == 1 then flags.Aligned else if n == 2 then flags.Readonly else if n == 3
    then flags.CanMove else if n == 4 then flags.Heap else flags.Table

abbrev pub begins_plain_flag : List Class
begins_plain_flag = classes.Flag ∷ classes.Vmctx ∷ classes.TrapCode ∷ classes.UserTrap ∷ []

-- a flag but `little` and `big`
unfoldable pub plain_flag_at : List Lexeme → Out RawFlag
plain_flag_at ts =
    if next_is classes.Flag ts then (name_at classes.Flag ts >>= λ x. Ok (flag_of x.0.number, x.1))
    else if next_is classes.Vmctx ts then (name_at classes.Vmctx ts >>= λ x. Ok (flags.Vmctx, x.1))
    else refuse (classes.TrapCode ∷ classes.UserTrap ∷ []) Unsupported ts

unfoldable pub plain_flags_at : List Lexeme → Out (List RawFlag)
plain_flags_at ts = with_front [] (each plain_flag_at (codes_of begins_plain_flag) (length ts) ts)

-- the class of `little` or `big`, and the flag
abbrev pub order_class : Order → Class
order_class orders.Little = classes.Little
order_class orders.Big = classes.Big

abbrev pub order_flag : Order → RawFlag
order_flag orders.Little = flags.Little
order_flag orders.Big = flags.Big

-- a flag, but of `big` and `little` this one alone
unfoldable pub ordered_flag_at : Order → List Lexeme → Out RawFlag
ordered_flag_at order ts =
    if heads (codes_of begins_plain_flag) ts then plain_flag_at ts
    else (name_at (order_class order) ts >>= λ x. Ok (order_flag order, x.1))

unfoldable pub ordered_flags_at : Order → List RawFlag → List Lexeme → Out (List RawFlag)
ordered_flags_at order front ts =
    with_front front
    (each (ordered_flag_at order) (codes_of begins_plain_flag ++ code (order_class order) ∷ []) (length ts) ts)

unfoldable pub flags_at : List Lexeme → Out (List RawFlag)
flags_at ts = plain_flags_at ts >>= λ fs.
    if next_is classes.Big fs.1 then ordered_flags_at orders.Big fs.0 fs.1
    else if next_is classes.Little fs.1 then ordered_flags_at orders.Little fs.0 fs.1
    else Ok (fs.0, fs.1)
