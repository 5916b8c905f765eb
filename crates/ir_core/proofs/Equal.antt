-- Names and signatures that are the same are equal.
use Rattle.std.proofs.Common.{◌≡◌, ◌⊎◌, inl, inr, ℕ, List, [], ◌∷◌, Bool, true, false, ◌&&◌, nat_eq, refl, sym, ap, ap₂, ◌∙◌, eq-eqb, ne_eqb}
use Rattle.std.proofs.lemmas.Bool.{cases_eq, and_parts, and_from}
use Rattle.std.specs.Str.{bytes_eq}
use Rattle.ir_core.specs.declared.names.FuncName.{FuncName}
use Rattle.ir_core.specs.declared.names.FuncName.TheVariants as name
use Rattle.ir_core.specs.declared.signatures.Sig.{Sig}
use Rattle.ir_core.specs.declared.signatures.Param.{Param}
use Rattle.ir_core.specs.declared.signatures.Conv.{Conv}
use Rattle.ir_core.specs.declared.signatures.Conv.TheVariants.{Fast, Cold, Tail, SystemV, WindowsFastcall, AppleAarch64, Probestack, Winch}
use Rattle.ir_core.specs.declared.signatures.Ext.{Ext}
use Rattle.ir_core.specs.declared.signatures.Ext.TheVariants as ext
use Rattle.ir_core.specs.declared.signatures.Purpose.{Purpose}
use Rattle.ir_core.specs.declared.signatures.Purpose.TheVariants as purpose
use Rattle.ir_core.specs.declared.signatures.Ty.{Ty}
use Rattle.ir_core.specs.declared.signatures.Ty.TheVariants as ty
use Rattle.ir_core.specs.Lookup.{same_bytes, same_name}
use Rattle.ir_core.specs.Signatures.{same_type, same_ext, same_purpose, same_conv, same_param, same_params, same_sig}

pub number_equal : (a b : ℕ) → nat_eq a b ≡ true → a ≡ b
number_equal a b h = elim (cases_eq a b) [ inl q ↦ q | inr q ↦ absurd (let e : false ≡ true = sym (ne_eqb a b q) ∙ h in cc) ]

pub bytes_equal : (as' bs : List ℕ) → same_bytes as' bs ≡ true → as' ≡ bs
bytes_equal [] [] h = refl
bytes_equal (a ∷ as') (b ∷ bs) h = let p = and_parts (nat_eq a b) (same_bytes as' bs) h in ap₂ (λ x xs. x ∷ xs) (number_equal a b p.0) (bytes_equal as' bs p.1)
bytes_equal [] (b ∷ bs) h = cc
bytes_equal (a ∷ as') [] h = cc

pub bytes_same : (as' : List ℕ) → same_bytes as' as' ≡ true
bytes_same [] = refl
bytes_same (a ∷ as') = and_from (nat_eq a a) (same_bytes as' as') (eq-eqb a a refl) (bytes_same as')

-- which of two comes first makes no difference
pub number_flip : (a b : ℕ) → nat_eq a b ≡ nat_eq b a
number_flip a b = elim (cases_eq a b) [ inl e ↦ eq-eqb a b e ∙ sym (eq-eqb b a (sym e)) | inr e ↦ ne_eqb a b e ∙ sym (ne_eqb b a (λ q. e (sym q))) ]

pub bytes_flip : (as' bs : List ℕ) → same_bytes as' bs ≡ same_bytes bs as'
bytes_flip [] [] = refl
bytes_flip [] (b ∷ bs) = refl
bytes_flip (a ∷ as') [] = refl
bytes_flip (a ∷ as') (b ∷ bs) = ap₂ (λ p q. p && q) (number_flip a b) (bytes_flip as' bs)

pub eq_bytes : (as' bs : List ℕ) → bytes_eq as' bs ≡ same_bytes as' bs
eq_bytes [] [] = refl
eq_bytes (a ∷ as') (b ∷ bs) = ap (λ x. nat_eq a b && x) (eq_bytes as' bs)
eq_bytes [] (b ∷ bs) = refl
eq_bytes (a ∷ as') [] = refl

pub name_equal : (a b : FuncName) → same_name a b ≡ true → a ≡ b
name_equal (name.Text a) (name.Text b) h = ap name.Text (bytes_equal a b h)
name_equal (name.User a i) (name.User b j) h = let p = and_parts (nat_eq a b) (nat_eq i j) h in ap₂ name.User (number_equal a b p.0) (number_equal i j p.1)
name_equal (name.Text a) (name.User b j) h = cc
name_equal (name.User a i) (name.Text b) h = cc

pub name_same : (a : FuncName) → same_name a a ≡ true
name_same (name.Text a) = bytes_same a
name_same (name.User a i) = and_from (nat_eq a a) (nat_eq i i) (eq-eqb a a refl) (eq-eqb i i refl)

pub cases_name : (a b : FuncName) → (a ≡ b) ⊎ (same_name a b ≡ false)
cases_name a b = go (same_name a b) refl
  where
    go : (c : Bool) → same_name a b ≡ c → (a ≡ b) ⊎ (same_name a b ≡ false)
    go true h = inl (name_equal a b h)
    go false h = inr h

pub equal_name : (a b : FuncName) → a ≡ b → same_name a b ≡ true
equal_name a b h = ap (same_name a) (sym h) ∙ name_same a

-- signatures

pub type_equal : (a b : Ty) → same_type a b ≡ true → a ≡ b
type_equal ty.I8 ty.I8 h = refl
type_equal ty.I16 ty.I16 h = refl
type_equal ty.I32 ty.I32 h = refl
type_equal ty.I64 ty.I64 h = refl
type_equal ty.I128 ty.I128 h = refl
type_equal _ _ h = cc

ext_equal : (a b : Ext) → same_ext a b ≡ true → a ≡ b
ext_equal ext.No ext.No h = refl
ext_equal ext.Uext ext.Uext h = refl
ext_equal ext.Sext ext.Sext h = refl
ext_equal _ _ h = cc

purpose_equal : (a b : Purpose) → same_purpose a b ≡ true → a ≡ b
purpose_equal purpose.Normal purpose.Normal h = refl
purpose_equal purpose.Vmctx purpose.Vmctx h = refl
purpose_equal purpose.Sret purpose.Sret h = refl
purpose_equal _ _ h = cc

pub conv_equal : (a b : Conv) → same_conv a b ≡ true → a ≡ b
conv_equal Fast Fast h = refl
conv_equal Cold Cold h = refl
conv_equal Tail Tail h = refl
conv_equal SystemV SystemV h = refl
conv_equal WindowsFastcall WindowsFastcall h = refl
conv_equal AppleAarch64 AppleAarch64 h = refl
conv_equal Probestack Probestack h = refl
conv_equal Winch Winch h = refl
conv_equal _ _ h = cc

param_equal : (a b : Param) → same_param a b ≡ true → a ≡ b
param_equal a b h =
    let p = and_parts (same_type a.ty b.ty && same_ext a.ext b.ext) (same_purpose a.purpose b.purpose) h in
    let q = and_parts (same_type a.ty b.ty) (same_ext a.ext b.ext) p.0 in
    ap (λ t. record a { ty = t }) (type_equal a.ty b.ty q.0) ∙ ap (λ e. record a { ty = b.ty; ext = e }) (ext_equal a.ext b.ext q.1) ∙ ap (λ e. record b { purpose = e }) (purpose_equal a.purpose b.purpose p.1)

params_equal : (as' bs : List Param) → same_params as' bs ≡ true → as' ≡ bs
params_equal [] [] h = refl
params_equal (a ∷ as') (b ∷ bs) h = let p = and_parts (same_param a b) (same_params as' bs) h in ap₂ (λ x xs. x ∷ xs) (param_equal a b p.0) (params_equal as' bs p.1)
params_equal [] (b ∷ bs) h = cc
params_equal (a ∷ as') [] h = cc

pub sig_equal : (a b : Sig) → same_sig a b ≡ true → a ≡ b
unfolding same_sig
sig_equal a b h =
    let p = and_parts (same_params a.params b.params && same_params a.results b.results) (same_conv a.conv b.conv) h in
    let q = and_parts (same_params a.params b.params) (same_params a.results b.results) p.0 in
    ap (λ z. record a { params = z }) (params_equal a.params b.params q.0) ∙ ap (λ z. record a { params = b.params; results = z }) (params_equal a.results b.results q.1) ∙ ap (λ z. record b { conv = z }) (conv_equal a.conv b.conv p.1)

pub type_same : (a : Ty) → same_type a a ≡ true
type_same ty.I8 = refl
type_same ty.I16 = refl
type_same ty.I32 = refl
type_same ty.I64 = refl
type_same ty.I128 = refl

ext_same : (a : Ext) → same_ext a a ≡ true
ext_same ext.No = refl
ext_same ext.Uext = refl
ext_same ext.Sext = refl

purpose_same : (a : Purpose) → same_purpose a a ≡ true
purpose_same purpose.Normal = refl
purpose_same purpose.Vmctx = refl
purpose_same purpose.Sret = refl

pub conv_same : (a : Conv) → same_conv a a ≡ true
conv_same Fast = refl
conv_same Cold = refl
conv_same Tail = refl
conv_same SystemV = refl
conv_same WindowsFastcall = refl
conv_same AppleAarch64 = refl
conv_same Probestack = refl
conv_same Winch = refl

params_same : (as' : List Param) → same_params as' as' ≡ true
params_same [] = refl
params_same (a ∷ as') =
    and_from (same_param a a) (same_params as' as') (and_from (same_type a.ty a.ty && same_ext a.ext a.ext) (same_purpose a.purpose a.purpose) (and_from (same_type a.ty a.ty) (same_ext a.ext a.ext) (type_same a.ty) (ext_same a.ext)) (purpose_same a.purpose)) (params_same as')

pub sig_same : (a : Sig) → same_sig a a ≡ true
unfolding same_sig
sig_same a = and_from (same_params a.params a.params && same_params a.results a.results) (same_conv a.conv a.conv) (and_from (same_params a.params a.params) (same_params a.results a.results) (params_same a.params) (params_same a.results)) (conv_same a.conv)
