-- What the trees of signatures and declarations mean, one definition a rule.
use Rattle.std.specs.Prelude.{List, [], ◌∷◌, ◌==◌, Bool, true, false, if◌then◌else◌, ℕ, Some, None}
use Rattle.grammar.specs.Rules.{Lexeme, Opt, Tree}
use Rattle.ir_core.specs.declared.signatures.Conv.{Conv}
use Rattle.ir_core.specs.declared.signatures.Conv.TheVariants as convs
use Rattle.token_reader.specs.declared.raw.RawNumber.{RawNumber}
use Rattle.clif_words.specs.Terminals.{◌then◌, ◌or◌, comma, equals, ext, align, colocated, sig}
use Rattle.token_reader.specs.Grammar.{number}
use Rattle.token_reader.specs.Reading.{name}
use Rattle.token_reader.specs.Values.{◌otherwise◌, perhaps, never, commas_value, any_type_value, number_value}
use Rattle.clif_read.specs.declared.raw.RawAttribute.{RawAttribute}
use Rattle.clif_read.specs.declared.raw.RawAttribute.TheVariants as attributes
use Rattle.clif_read.specs.declared.raw.RawParam.{RawParam}
use Rattle.clif_read.specs.declared.raw.RawSignature.{RawSignature}
use Rattle.clif_read.specs.declared.raw.RawFuncName.{RawFuncName}
use Rattle.clif_read.specs.declared.raw.RawFuncName.TheVariants as names
use Rattle.clif_read.specs.declared.raw.RawCalleeSig.{RawCalleeSig}
use Rattle.clif_read.specs.declared.raw.RawCalleeSig.TheVariants as callee_sigs
use Rattle.clif_read.specs.declared.raw.RawDecl.{RawDecl}
use Rattle.clif_read.specs.declared.raw.RawDecl.TheVariants as decls
use Rattle.clif_read.specs.ModuleGrammar.{purpose, param, params, convention, signature, func_name, slot_decl, sig_decl}
use Rattle.clif_read.specs.ModuleGrammar.{callee_decl, decl}

-- `uext` and `sext`, by their place among the words of their class
abbrev pub ext_of : ℕ → RawAttribute
ext_of n = if n == 0 then attributes.Uext else attributes.Sext

abbrev pub ext_value : Lexeme → RawAttribute
ext_value x = ext_of x.number

abbrev pub purpose_value : Tree purpose → RawAttribute
purpose_value = (λ x. attributes.Vmctx) otherwise (λ x. attributes.Sret)

abbrev pub opt_purpose_value : Tree (Opt purpose) → List RawAttribute
opt_purpose_value = perhaps [] (λ v. purpose_value v ∷ [])

abbrev pub opt_ext_value : Tree (Opt ext) → List RawAttribute
opt_ext_value = perhaps [] (λ v. ext_value v ∷ [])

abbrev pub attributes_value : Tree ((ext then Opt purpose) or (purpose then Opt ext)) → List RawAttribute
attributes_value = (λ v. ext_value v.0 ∷ opt_purpose_value v.1) otherwise (λ v. purpose_value v.0 ∷ opt_ext_value v.1)

abbrev pub param_value : Tree param → RawParam
param_value v = record { ty = any_type_value v.0; attributes = perhaps [] attributes_value v.1 }

abbrev pub params_value : Tree params → List RawParam
params_value = commas_value param param_value

-- a convention but `cold`, by its place among the words of its class
abbrev pub convention_of : ℕ → Conv
convention_of n =
    if n == 0 then convs.Fast else if n == 1 then convs.Tail else if n == 2 then convs.SystemV else if n == 3
    then convs.WindowsFastcall else
    if n == 4 then convs.AppleAarch64 else if n == 5 then convs.Probestack else convs.Winch

abbrev pub convention_value : Tree convention → Conv
convention_value = (λ x. convention_of x.number) otherwise (λ x. convs.Cold)

abbrev pub signature_value : Tree signature → RawSignature
signature_value v = record {
  params = perhaps [] params_value v.1.0;
  results = perhaps [] (λ w. params_value w.1) v.1.1.1.0;
  conv = perhaps None (λ w. Some (convention_value w)) v.1.1.1.1;
}

abbrev pub func_name_value : Tree func_name → RawFuncName
func_name_value = (λ x. names.Text x.name x.spot) otherwise (λ v. names.User (name v.0) (number_value v.1.1))

abbrev pub align_value : Tree (comma then align then equals then number) → RawNumber
align_value v = number_value v.1.1.1

abbrev pub slot_decl_value : Tree slot_decl → RawDecl
slot_decl_value v = decls.Slot (name v.0) (number_value v.1.1.1.0) (perhaps None (λ w. Some (align_value w)) v.1.1.1.1)

abbrev pub sig_decl_value : Tree sig_decl → RawDecl
sig_decl_value v = decls.Sig (name v.0) (signature_value v.1.1)

abbrev pub callee_sig_value : Tree (sig or signature) → RawCalleeSig
callee_sig_value = (λ x. callee_sigs.Declared (name x)) otherwise (λ v. callee_sigs.Inline (signature_value v))

abbrev pub is_there : Tree (Opt colocated) → Bool
is_there = perhaps false (λ x. true)

abbrev pub callee_decl_value : Tree callee_decl → RawDecl
callee_decl_value v =
    decls.Callee (is_there v.1.1.0) (name v.0) (callee_sig_value v.1.1.1.1) (func_name_value v.1.1.1.0)

abbrev pub decl_value : Tree decl → RawDecl
decl_value = slot_decl_value otherwise sig_decl_value otherwise callee_decl_value otherwise never
