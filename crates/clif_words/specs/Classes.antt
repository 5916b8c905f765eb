-- The classes of tokens as the grammar counts them. No definition but this one uses the numbers.
use Rattle.std.specs.Prelude.{ℕ}
use Rattle.clif_words.specs.declared.class.Class.{Class}
use Rattle.clif_words.specs.declared.class.Class.TheVariants.{Header, Name, Unsigned, Signed, Srcloc, Arrow, LeftParen}
use Rattle.clif_words.specs.declared.class.Class.TheVariants.{RightParen, LeftBrace, RightBrace, LeftBracket}
use Rattle.clif_words.specs.declared.class.Class.TheVariants.{RightBracket, Comma, Colon, Equals, Dot, Less, Greater}
use Rattle.clif_words.specs.declared.class.Class.TheVariants.{Function, Conv, Cold, Ty, TyI64, RefusedType, Ext, Vmctx}
use Rattle.clif_words.specs.declared.class.Class.TheVariants.{Sret, ExplicitSlot, Align, Colocated, RefusedDecl}
use Rattle.clif_words.specs.declared.class.Class.TheVariants.{Default, Context, Flag, Little, Big, TrapCode, Condition}
use Rattle.clif_words.specs.declared.class.Class.TheVariants.{Value, Block, Slot, Sig, Callee, Tag, Ret, Exn, UserName}
use Rattle.clif_words.specs.declared.class.Class.TheVariants.{UserTrap, Other, Iconst, Binary, Unary, Icmp, Select}
use Rattle.clif_words.specs.declared.class.Class.TheVariants.{Convert, BinaryImm, IcmpImm, Load, LoadWide, Store}
use Rattle.clif_words.specs.declared.class.Class.TheVariants.{StackLoad, StackStore, FuncAddr, Nullary, Jump, Brif}
use Rattle.clif_words.specs.declared.class.Class.TheVariants.{BrTable, Return, Trap, TrapIf, Call, TryCall}
use Rattle.clif_words.specs.declared.class.Class.TheVariants.{CallIndirect, TryCallIndirect, RefusedOpcode}

abbrev pub code : Class → ℕ
code Header = 0
code Name = 1
code Unsigned = 2
code Signed = 3
code Srcloc = 4
code Arrow = 5
code LeftParen = 6
code RightParen = 7
code LeftBrace = 8
code RightBrace = 9
code LeftBracket = 10
code RightBracket = 11
code Comma = 12
code Colon = 13
code Equals = 14
code Dot = 15
code Less = 16
code Greater = 17
code Function = 18
code Conv = 19
code Cold = 20
code Ty = 21
code TyI64 = 22
code RefusedType = 23
code Ext = 24
code Vmctx = 25
code Sret = 26
code ExplicitSlot = 27
code Align = 28
code Colocated = 29
code RefusedDecl = 30
code Default = 31
code Context = 32
code Flag = 33
code Little = 34
code Big = 35
code TrapCode = 36
code Condition = 37
code Value = 38
code Block = 39
code Slot = 40
code Sig = 41
code Callee = 42
code Tag = 43
code Ret = 44
code Exn = 45
code UserName = 46
code UserTrap = 47
code Other = 48
code Iconst = 49
code Binary = 50
code Unary = 51
code Icmp = 52
code Select = 53
code Convert = 54
code BinaryImm = 55
code IcmpImm = 56
code Load = 57
code LoadWide = 58
code Store = 59
code StackLoad = 60
code StackStore = 61
code FuncAddr = 62
code Nullary = 63
code Jump = 64
code Brif = 65
code BrTable = 66
code Return = 67
code Trap = 68
code TrapIf = 69
code Call = 70
code TryCall = 71
code CallIndirect = 72
code TryCallIndirect = 73
code RefusedOpcode = 74
