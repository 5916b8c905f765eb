-- The canonical text of what stands before a function's blocks: its name and signature, and its declarations.
use Rattle.std.specs.Prelude.{ℕ, ◌+◌, Bool, true, false, ◌&&◌, ◌==◌, if◌then◌else◌, List, [], ◌∷◌, codes}
use Rattle.ir_core.specs.declared.declarations.Callee.{Callee}
use Rattle.ir_core.specs.declared.declarations.SlotDecl.{SlotDecl}
use Rattle.ir_core.specs.declared.names.FuncName.{FuncName}
use Rattle.ir_core.specs.declared.names.FuncName.TheVariants as name
use Rattle.ir_core.specs.declared.signatures.Ext.{Ext}
use Rattle.ir_core.specs.declared.signatures.Ext.TheVariants as ext
use Rattle.ir_core.specs.declared.signatures.Param.{Param}
use Rattle.ir_core.specs.declared.signatures.Purpose.{Purpose}
use Rattle.ir_core.specs.declared.signatures.Purpose.TheVariants as purpose
use Rattle.ir_core.specs.declared.signatures.Sig.{Sig}
use Rattle.ir_core.specs.Module.{Function}
use Rattle.ir_text.specs.TextTree.{Text, Nothing, Word, Numbered, Name, Number, Arrow, ◌▹◌, space, line_end, indent}
use Rattle.ir_text.specs.TextTree.{comma, colon, equals, separated, in_parentheses}
use Rattle.ir_text.specs.Words.{type_word, convention_word}

-- ---- names and signatures

abbrev pub function_name : FuncName → Text
function_name (name.Text bytes) = Name bytes
function_name (name.User space index) = Numbered (codes "u") space ▹ colon ▹ Number index

abbrev pub extension : Ext → Text
extension ext.No = Nothing
extension ext.Uext = space ▹ Word (codes "uext")
extension ext.Sext = space ▹ Word (codes "sext")

abbrev pub purpose_text : Purpose → Text
purpose_text purpose.Normal = Nothing
purpose_text purpose.Vmctx = space ▹ Word (codes "vmctx")
purpose_text purpose.Sret = space ▹ Word (codes "sret")

abbrev pub parameter : Param → Text
parameter p = Word (type_word p.ty) ▹ extension p.ext ▹ purpose_text p.purpose

abbrev pub signature_results : List Param → Text
signature_results [] = Nothing
signature_results (p ∷ ps) = space ▹ Arrow ▹ space ▹ separated parameter (p ∷ ps)

-- `(i64, i32 uext) -> i64 fast`
abbrev pub signature : Sig → Text
signature s =
    in_parentheses (separated parameter s.params) ▹ signature_results s.results ▹ space ▹ Word (convention_word s.conv)

-- ---- declarations: the number of the first, and the declarations

abbrev pub alignment : ℕ → Text
alignment bytes = if bytes == 1 then Nothing else (comma ▹ Word (codes "align") ▹ equals ▹ Number bytes)

abbrev pub slot_line : ℕ → SlotDecl → Text
slot_line k s =
    indent ▹ Numbered (codes "ss") k ▹ equals ▹ Word (codes "explicit_slot") ▹ space ▹ Number s.size ▹ alignment s.align
    ▹ line_end

abbrev pub signature_line : ℕ → Sig → Text
signature_line k s = indent ▹ Numbered (codes "sig") k ▹ equals ▹ signature s ▹ line_end

abbrev pub colocation : Bool → Text
colocation colocated = if colocated then Word (codes "colocated") ▹ space else Nothing

abbrev pub callee_line : ℕ → Callee → Text
callee_line k c =
    indent ▹ Numbered (codes "fn") k ▹ equals ▹ colocation c.colocated ▹ function_name c.name ▹ space
    ▹ Numbered (codes "sig") c.sig ▹ line_end

-- each declaration on a line
abbrev pub declarations : {A : Type 0} → (ℕ → A → Text) → ℕ → List A → Text
declarations line k [] = Nothing
declarations line k (x ∷ xs) = line k x ▹ declarations line (k + 1) xs

abbrev pub is_empty : {A : Type 0} → List A → Bool
is_empty [] = true
is_empty (x ∷ xs) = false

-- an empty line follows where there was a declaration
abbrev pub after_declarations : Function → Text
after_declarations f = if is_empty f.slots && is_empty f.sigs && is_empty f.callees then Nothing else line_end
