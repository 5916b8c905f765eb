-- The terminals of the grammar: a token of one class each.
use Rattle.std.specs.Prelude.{ℕ, List, [], ◌∷◌, map}
use Rattle.grammar.specs.Rules.{Rule, Tok, Seq, Alt, Refuse, Kind}
use Rattle.clif_words.specs.declared.class.Class.{Class}
use Rattle.clif_words.specs.declared.class.Class.TheVariants as classes
use Rattle.clif_words.specs.Classes.{code}

-- one rule, and then another
infixr 4 ◌then◌
abbrev pub ◌then◌ : Rule → Rule → Rule
a then b = Seq a b

-- one of two rules
infixr 3 ◌or◌
abbrev pub ◌or◌ : Rule → Rule → Rule
a or b = Alt a b

-- a token of the class
abbrev pub one : Class → Rule
one class = Tok (code class)

abbrev pub codes_of : List Class → List ℕ
codes_of classes = map code classes

-- no text: at this place tokens of the classes are refused in this way
abbrev pub refused : List Class → Kind → Rule
refused classes kind = Refuse (codes_of classes) kind

abbrev pub header : Rule
header = one classes.Header

abbrev pub name : Rule
name = one classes.Name

abbrev pub unsigned : Rule
unsigned = one classes.Unsigned

abbrev pub signed : Rule
signed = one classes.Signed

abbrev pub srcloc : Rule
srcloc = one classes.Srcloc

abbrev pub arrow : Rule
arrow = one classes.Arrow

abbrev pub left_paren : Rule
left_paren = one classes.LeftParen

abbrev pub right_paren : Rule
right_paren = one classes.RightParen

abbrev pub left_brace : Rule
left_brace = one classes.LeftBrace

abbrev pub right_brace : Rule
right_brace = one classes.RightBrace

abbrev pub left_bracket : Rule
left_bracket = one classes.LeftBracket

abbrev pub right_bracket : Rule
right_bracket = one classes.RightBracket

abbrev pub comma : Rule
comma = one classes.Comma

abbrev pub colon : Rule
colon = one classes.Colon

abbrev pub equals : Rule
equals = one classes.Equals

abbrev pub dot : Rule
dot = one classes.Dot

abbrev pub less : Rule
less = one classes.Less

abbrev pub greater : Rule
greater = one classes.Greater

abbrev pub function_word : Rule
function_word = one classes.Function

abbrev pub conv : Rule
conv = one classes.Conv

abbrev pub cold : Rule
cold = one classes.Cold

abbrev pub ty : Rule
ty = one classes.Ty

abbrev pub ty_i64 : Rule
ty_i64 = one classes.TyI64

abbrev pub ext : Rule
ext = one classes.Ext

abbrev pub vmctx : Rule
vmctx = one classes.Vmctx

abbrev pub sret : Rule
sret = one classes.Sret

abbrev pub explicit_slot : Rule
explicit_slot = one classes.ExplicitSlot

abbrev pub align : Rule
align = one classes.Align

abbrev pub colocated : Rule
colocated = one classes.Colocated

abbrev pub default_word : Rule
default_word = one classes.Default

abbrev pub flag : Rule
flag = one classes.Flag

abbrev pub little : Rule
little = one classes.Little

abbrev pub big : Rule
big = one classes.Big

abbrev pub trap_code : Rule
trap_code = one classes.TrapCode

abbrev pub condition : Rule
condition = one classes.Condition

abbrev pub value : Rule
value = one classes.Value

abbrev pub block : Rule
block = one classes.Block

abbrev pub slot : Rule
slot = one classes.Slot

abbrev pub sig : Rule
sig = one classes.Sig

abbrev pub callee : Rule
callee = one classes.Callee

abbrev pub tag : Rule
tag = one classes.Tag

abbrev pub ret : Rule
ret = one classes.Ret

abbrev pub exn : Rule
exn = one classes.Exn

abbrev pub user_name : Rule
user_name = one classes.UserName

abbrev pub user_trap : Rule
user_trap = one classes.UserTrap

abbrev pub iconst : Rule
iconst = one classes.Iconst

abbrev pub binary : Rule
binary = one classes.Binary

abbrev pub unary : Rule
unary = one classes.Unary

abbrev pub icmp : Rule
icmp = one classes.Icmp

abbrev pub select : Rule
select = one classes.Select

abbrev pub convert : Rule
convert = one classes.Convert

abbrev pub binary_imm : Rule
binary_imm = one classes.BinaryImm

abbrev pub icmp_imm : Rule
icmp_imm = one classes.IcmpImm

abbrev pub load : Rule
load = one classes.Load

abbrev pub load_wide : Rule
load_wide = one classes.LoadWide

abbrev pub store : Rule
store = one classes.Store

abbrev pub stack_load : Rule
stack_load = one classes.StackLoad

abbrev pub stack_store : Rule
stack_store = one classes.StackStore

abbrev pub func_addr : Rule
func_addr = one classes.FuncAddr

abbrev pub nullary : Rule
nullary = one classes.Nullary

abbrev pub jump : Rule
jump = one classes.Jump

abbrev pub brif : Rule
brif = one classes.Brif

abbrev pub br_table : Rule
br_table = one classes.BrTable

abbrev pub return_word : Rule
return_word = one classes.Return

abbrev pub trap : Rule
trap = one classes.Trap

abbrev pub trap_if : Rule
trap_if = one classes.TrapIf

abbrev pub call : Rule
call = one classes.Call

abbrev pub try_call : Rule
try_call = one classes.TryCall

abbrev pub call_indirect : Rule
call_indirect = one classes.CallIndirect

abbrev pub try_call_indirect : Rule
try_call_indirect = one classes.TryCallIndirect

-- a word that is no opcode, in an opcode place
abbrev pub words : List Class
words =
    classes.Function ∷ classes.Conv ∷ classes.Cold ∷ classes.Ty ∷ classes.TyI64 ∷ classes.RefusedType ∷
    classes.Ext ∷ classes.Vmctx ∷ classes.Sret ∷ classes.ExplicitSlot ∷ classes.Align ∷ classes.Colocated ∷
    classes.RefusedDecl ∷ classes.Default ∷ classes.Context ∷ classes.Flag ∷ classes.Little ∷ classes.Big ∷
    classes.TrapCode ∷ classes.Condition ∷ classes.Value ∷ classes.Block ∷ classes.Slot ∷ classes.Sig ∷
    classes.Callee ∷ classes.Tag ∷ classes.Ret ∷ classes.Exn ∷ classes.UserName ∷ classes.UserTrap ∷
    classes.Other ∷ []
