-- Parameters and declarations on examples: the tokens of a short text, and what it is or where it stops.
use Rattle.std.proofs.Common.{◌≡◌, ℕ, true, false, List, [], ◌∷◌, map, Some, Ok, Err, refl}
use Rattle.std.specs.Prelude.{ℤ, pos, codes, Result}
use Rattle.grammar.specs.Rules.{Lexeme, Kind, Syntax, Unsupported, Many, Rule, Tree, read_all, ◌>>=◌}
use Rattle.ir_core.specs.declared.signatures.Ty.TheVariants as ty
use Rattle.ir_core.specs.declared.signatures.Conv.TheVariants as convs
use Rattle.clif_words.specs.declared.class.Class.{Class}
use Rattle.clif_words.specs.declared.class.Class.TheVariants as classes
use Rattle.clif_words.specs.Classes.{code}
use Rattle.clif_read.specs.declared.raw.RawAttribute.TheVariants.{Uext, Sret}
use Rattle.clif_read.specs.declared.raw.RawParam.{RawParam}
use Rattle.clif_read.specs.declared.raw.RawFuncName.TheVariants as names
use Rattle.clif_read.specs.declared.raw.RawCalleeSig.TheVariants as callee_sigs
use Rattle.clif_read.specs.declared.raw.RawDecl.{RawDecl}
use Rattle.clif_read.specs.declared.raw.RawDecl.TheVariants as decls
use Rattle.clif_read.specs.ModuleGrammar.{param, decl}
use Rattle.clif_read.specs.DeclarationValues.{param_value, decl_value}

-- a word, a number and a name, by their spots
abbrev word : Class → ℕ → ℕ → Lexeme
word class n spot = record { class = code class; number = n; amount = pos 0; name = []; spot = spot }

abbrev number : ℤ → ℕ → Lexeme
number n spot = record { class = code classes.Unsigned; number = 0; amount = n; name = []; spot = spot }

abbrev name : List ℕ → ℕ → Lexeme
name bytes spot = record { class = code classes.Name; number = 0; amount = pos 0; name = bytes; spot = spot }

-- what the whole text is by the rule, or why and before which tokens it stops
abbrev told : {A : Type 0} (r : Rule) → (Tree r → A) → List Lexeme → Result A (Kind × List Lexeme)
told r f ts = read_all r ts >>= λ v. Ok (f v)

abbrev a_param : List Lexeme → Result RawParam (Kind × List Lexeme)
a_param = told param param_value

abbrev some_decls : List Lexeme → Result (List RawDecl) (Kind × List Lexeme)
some_decls = told (Many decl) (map decl_value)

-- `i64 sret uext`
in_any_order : a_param (word classes.TyI64 0 0 ∷ word classes.Sret 0 4 ∷ word classes.Ext 0 9 ∷ []) ≡ Ok (record { ty = ty.I64; attributes = Sret ∷ Uext ∷ [] })
in_any_order = refl

-- `i64 uext sext`: at the second
one_of_a_pair : a_param (word classes.TyI64 0 0 ∷ word classes.Ext 0 4 ∷ word classes.Ext 1 9 ∷ []) ≡ Err (Syntax, word classes.Ext 1 9 ∷ [])
one_of_a_pair = refl

-- `i64 vmctx uext sret`: at the third
one_of_the_other : a_param (word classes.TyI64 0 0 ∷ word classes.Vmctx 0 4 ∷ word classes.Ext 0 10 ∷ word classes.Sret 0 15 ∷ []) ≡ Err (Syntax, word classes.Sret 0 15 ∷ [])
one_of_the_other = refl

-- `f32`
refused_type : a_param (word classes.RefusedType 1 0 ∷ []) ≡ Err (Unsupported, word classes.RefusedType 1 0 ∷ [])
refused_type = refl

-- `ss0 = explicit_slot 8, align = 4`
aligned_slot : some_decls (word classes.Slot 0 0 ∷ word classes.Equals 0 4 ∷ word classes.ExplicitSlot 0 6 ∷ number (pos 8) 20 ∷ word classes.Comma 0 21 ∷ word classes.Align 0 23 ∷ word classes.Equals 0 29 ∷ number (pos 4) 31 ∷ [])
    ≡ Ok (decls.Slot (record { number = 0; spot = 0 }) (record { value = pos 8; spot = 20 }) (Some (record { value = pos 4; spot = 31 })) ∷ [])
aligned_slot = refl

-- `fn0 = colocated %g sig0` and `fn1 = u0:1 () cold`
two_callees : some_decls (word classes.Callee 0 0 ∷ word classes.Equals 0 4 ∷ word classes.Colocated 0 6 ∷ name (codes "g") 16 ∷ word classes.Sig 0 19 ∷
    word classes.Callee 1 24 ∷ word classes.Equals 0 28 ∷ word classes.UserName 0 30 ∷ word classes.Colon 0 32 ∷ number (pos 1) 33 ∷ word classes.LeftParen 0 35 ∷ word classes.RightParen 0 36 ∷ word classes.Cold 0 38 ∷ [])
    ≡ Ok (decls.Callee true (record { number = 0; spot = 0 }) (callee_sigs.Declared (record { number = 0; spot = 19 })) (names.Text (codes "g") 16) ∷
    decls.Callee false (record { number = 1; spot = 24 }) (callee_sigs.Inline (record { params = []; results = []; conv = Some convs.Cold })) (names.User (record { number = 0; spot = 30 }) (record { value = pos 1; spot = 33 })) ∷ [])
two_callees = refl

-- `sig0 = () gv0`: a declaration may begin there
refused_behind_a_signature : some_decls (word classes.Sig 0 0 ∷ word classes.Equals 0 5 ∷ word classes.LeftParen 0 7 ∷ word classes.RightParen 0 8 ∷ word classes.RefusedDecl 0 10 ∷ []) ≡ Err (Unsupported, word classes.RefusedDecl 0 10 ∷ [])
refused_behind_a_signature = refl

-- `fn0 = %g gv0`: a signature is missing
refused_in_a_callee : some_decls (word classes.Callee 0 0 ∷ word classes.Equals 0 4 ∷ name (codes "g") 6 ∷ word classes.RefusedDecl 0 9 ∷ []) ≡ Err (Syntax, word classes.RefusedDecl 0 9 ∷ [])
refused_in_a_callee = refl
