-- A class is told by its number.
use Rattle.std.proofs.Common.{◌≡◌, ℕ, List, [], ◌∷◌, get_or, refl, sym, ap, ◌∙◌}
use Rattle.clif_words.specs.declared.class.Class.{Class}
use Rattle.clif_words.specs.declared.class.Class.TheVariants as classes
use Rattle.clif_words.specs.Classes.{code}

all_classes : List Class
all_classes =
    classes.Header ∷ classes.Name ∷ classes.Unsigned ∷ classes.Signed ∷ classes.Srcloc ∷ classes.Arrow ∷
    classes.LeftParen ∷ classes.RightParen ∷ classes.LeftBrace ∷ classes.RightBrace ∷ classes.LeftBracket ∷
    classes.RightBracket ∷ classes.Comma ∷ classes.Colon ∷ classes.Equals ∷ classes.Dot ∷ classes.Less ∷
    classes.Greater ∷ classes.Function ∷ classes.Conv ∷ classes.Cold ∷ classes.Ty ∷ classes.TyI64 ∷
    classes.RefusedType ∷ classes.Ext ∷ classes.Vmctx ∷ classes.Sret ∷ classes.ExplicitSlot ∷ classes.Align ∷
    classes.Colocated ∷ classes.RefusedDecl ∷ classes.Default ∷ classes.Context ∷ classes.Flag ∷ classes.Little ∷
    classes.Big ∷ classes.TrapCode ∷ classes.Condition ∷ classes.Value ∷ classes.Block ∷ classes.Slot ∷
    classes.Sig ∷ classes.Callee ∷ classes.Tag ∷ classes.Ret ∷ classes.Exn ∷ classes.UserName ∷ classes.UserTrap ∷
    classes.Other ∷ classes.Iconst ∷ classes.Binary ∷ classes.Unary ∷ classes.Icmp ∷ classes.Select ∷
    classes.Convert ∷ classes.BinaryImm ∷ classes.IcmpImm ∷ classes.Load ∷ classes.LoadWide ∷ classes.Store ∷
    classes.StackLoad ∷ classes.StackStore ∷ classes.FuncAddr ∷ classes.Nullary ∷ classes.Jump ∷ classes.Brif ∷
    classes.BrTable ∷ classes.Return ∷ classes.Trap ∷ classes.TrapIf ∷ classes.Call ∷ classes.TryCall ∷
    classes.CallIndirect ∷ classes.TryCallIndirect ∷ classes.RefusedOpcode ∷ []

class_at : ℕ → Class
class_at n = get_or all_classes n classes.Other

its_class : (class : Class) → class_at (code class) ≡ class
unfolding class_at all_classes
its_class classes.Header = refl
its_class classes.Name = refl
its_class classes.Unsigned = refl
its_class classes.Signed = refl
its_class classes.Srcloc = refl
its_class classes.Arrow = refl
its_class classes.LeftParen = refl
its_class classes.RightParen = refl
its_class classes.LeftBrace = refl
its_class classes.RightBrace = refl
its_class classes.LeftBracket = refl
its_class classes.RightBracket = refl
its_class classes.Comma = refl
its_class classes.Colon = refl
its_class classes.Equals = refl
its_class classes.Dot = refl
its_class classes.Less = refl
its_class classes.Greater = refl
its_class classes.Function = refl
its_class classes.Conv = refl
its_class classes.Cold = refl
its_class classes.Ty = refl
its_class classes.TyI64 = refl
its_class classes.RefusedType = refl
its_class classes.Ext = refl
its_class classes.Vmctx = refl
its_class classes.Sret = refl
its_class classes.ExplicitSlot = refl
its_class classes.Align = refl
its_class classes.Colocated = refl
its_class classes.RefusedDecl = refl
its_class classes.Default = refl
its_class classes.Context = refl
its_class classes.Flag = refl
its_class classes.Little = refl
its_class classes.Big = refl
its_class classes.TrapCode = refl
its_class classes.Condition = refl
its_class classes.Value = refl
its_class classes.Block = refl
its_class classes.Slot = refl
its_class classes.Sig = refl
its_class classes.Callee = refl
its_class classes.Tag = refl
its_class classes.Ret = refl
its_class classes.Exn = refl
its_class classes.UserName = refl
its_class classes.UserTrap = refl
its_class classes.Other = refl
its_class classes.Iconst = refl
its_class classes.Binary = refl
its_class classes.Unary = refl
its_class classes.Icmp = refl
its_class classes.Select = refl
its_class classes.Convert = refl
its_class classes.BinaryImm = refl
its_class classes.IcmpImm = refl
its_class classes.Load = refl
its_class classes.LoadWide = refl
its_class classes.Store = refl
its_class classes.StackLoad = refl
its_class classes.StackStore = refl
its_class classes.FuncAddr = refl
its_class classes.Nullary = refl
its_class classes.Jump = refl
its_class classes.Brif = refl
its_class classes.BrTable = refl
its_class classes.Return = refl
its_class classes.Trap = refl
its_class classes.TrapIf = refl
its_class classes.Call = refl
its_class classes.TryCall = refl
its_class classes.CallIndirect = refl
its_class classes.TryCallIndirect = refl
its_class classes.RefusedOpcode = refl

pub code_tells : (a b : Class) → code a ≡ code b → a ≡ b
code_tells a b same = sym (its_class a) ∙ ap class_at same ∙ its_class b
