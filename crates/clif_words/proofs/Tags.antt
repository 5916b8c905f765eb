-- The number that the code compares is the one by which the grammar counts.
use Rattle.std.proofs.Common.{◌≡◌, refl}
use denote.Enum.Declared.{tag_of}
use Rattle.clif_words.specs.declared.class.Class.{Class}
use Rattle.clif_words.specs.declared.class.Class.TheVariants as classes
use Rattle.clif_words.specs.contracts.class.Class.{the_type}
use Rattle.clif_words.specs.Classes.{code}

pub tag-code : (c : Class) → tag_of the_type c ≡ code c
tag-code classes.Header = refl
tag-code classes.Name = refl
tag-code classes.Unsigned = refl
tag-code classes.Signed = refl
tag-code classes.Srcloc = refl
tag-code classes.Arrow = refl
tag-code classes.LeftParen = refl
tag-code classes.RightParen = refl
tag-code classes.LeftBrace = refl
tag-code classes.RightBrace = refl
tag-code classes.LeftBracket = refl
tag-code classes.RightBracket = refl
tag-code classes.Comma = refl
tag-code classes.Colon = refl
tag-code classes.Equals = refl
tag-code classes.Dot = refl
tag-code classes.Less = refl
tag-code classes.Greater = refl
tag-code classes.Function = refl
tag-code classes.Conv = refl
tag-code classes.Cold = refl
tag-code classes.Ty = refl
tag-code classes.TyI64 = refl
tag-code classes.RefusedType = refl
tag-code classes.Ext = refl
tag-code classes.Vmctx = refl
tag-code classes.Sret = refl
tag-code classes.ExplicitSlot = refl
tag-code classes.Align = refl
tag-code classes.Colocated = refl
tag-code classes.RefusedDecl = refl
tag-code classes.Default = refl
tag-code classes.Context = refl
tag-code classes.Flag = refl
tag-code classes.Little = refl
tag-code classes.Big = refl
tag-code classes.TrapCode = refl
tag-code classes.Condition = refl
tag-code classes.Value = refl
tag-code classes.Block = refl
tag-code classes.Slot = refl
tag-code classes.Sig = refl
tag-code classes.Callee = refl
tag-code classes.Tag = refl
tag-code classes.Ret = refl
tag-code classes.Exn = refl
tag-code classes.UserName = refl
tag-code classes.UserTrap = refl
tag-code classes.Other = refl
tag-code classes.Iconst = refl
tag-code classes.Binary = refl
tag-code classes.Unary = refl
tag-code classes.Icmp = refl
tag-code classes.Select = refl
tag-code classes.Convert = refl
tag-code classes.BinaryImm = refl
tag-code classes.IcmpImm = refl
tag-code classes.Load = refl
tag-code classes.LoadWide = refl
tag-code classes.Store = refl
tag-code classes.StackLoad = refl
tag-code classes.StackStore = refl
tag-code classes.FuncAddr = refl
tag-code classes.Nullary = refl
tag-code classes.Jump = refl
tag-code classes.Brif = refl
tag-code classes.BrTable = refl
tag-code classes.Return = refl
tag-code classes.Trap = refl
tag-code classes.TrapIf = refl
tag-code classes.Call = refl
tag-code classes.TryCall = refl
tag-code classes.CallIndirect = refl
tag-code classes.TryCallIndirect = refl
tag-code classes.RefusedOpcode = refl
