-- Names, signatures and declarations of a raw function mean those of the function.
use Rattle.std.proofs.Common.{◌≡◌, ℕ, zero, suc, ◌+◌, ◌<◌, nat_eq, ◌==◌, Bool, true, false, List, [], ◌∷◌, ◌++◌, map, length, Option, refl, sym, ap, ap₂, ◌∙◌, arith}
use Rattle.std.specs.Prelude.{flat_map}
use Rattle.std.specs.List.{range_with_len}
use Rattle.std.proofs.lemmas.Bool.{eqb-true}
use Rattle.std.proofs.lemmas.Bool.Decides.{nat_tests}
use Rattle.std.proofs.lemmas.Grind.{flat_map-append}
use Rattle.std.proofs.lemmas.List.{append-nil}
use Rattle.ir_core.specs.declared.declarations.Callee.{Callee}
use Rattle.ir_core.specs.declared.declarations.SlotDecl.{SlotDecl}
use Rattle.ir_core.specs.declared.names.FuncName.{FuncName}
use Rattle.ir_core.specs.declared.names.FuncName.TheVariants as name
use Rattle.ir_core.specs.declared.signatures.Conv.{Conv}
use Rattle.ir_core.specs.declared.signatures.Ext.{Ext}
use Rattle.ir_core.specs.declared.signatures.Ext.TheVariants as ext
use Rattle.ir_core.specs.declared.signatures.Param.{Param}
use Rattle.ir_core.specs.declared.signatures.Purpose.{Purpose}
use Rattle.ir_core.specs.declared.signatures.Purpose.TheVariants as purpose
use Rattle.ir_core.specs.declared.signatures.Sig.{Sig}
use Rattle.ir_core.specs.declared.signatures.Ty.{Ty}
use Rattle.ir_core.specs.Lists.{Each}
use Rattle.ir_core.specs.Module.{Function}
use Rattle.token_reader.specs.declared.raw.RawName.{RawName}
use Rattle.clif_read.specs.declared.raw.RawDecl.{RawDecl}
use Rattle.name_tables.specs.Definitions.{slot_names, sig_names, callee_names}
use Rattle.clif_meaning.specs.Meaning as says
use Rattle.text_read_back.specs.Defining.{number_of}
use Rattle.text_read_back.specs.RawOf as raws

pub name_back : (n : FuncName) → says.name_of (raws.function_name n) ≡ n
name_back (name.Text bytes) = refl
name_back (name.User space index) = refl

abbrev param_with : Ty → Ext → Purpose → Param
param_with t e p = record { ty = t; ext = e; purpose = p }

param_at : (t : Ty) (e : Ext) (p : Purpose) → says.param_of (raws.parameter (param_with t e p)) ≡ param_with t e p
param_at t ext.No purpose.Normal = refl
param_at t ext.No purpose.Vmctx = refl
param_at t ext.No purpose.Sret = refl
param_at t ext.Uext purpose.Normal = refl
param_at t ext.Uext purpose.Vmctx = refl
param_at t ext.Uext purpose.Sret = refl
param_at t ext.Sext purpose.Normal = refl
param_at t ext.Sext purpose.Vmctx = refl
param_at t ext.Sext purpose.Sret = refl

params_back : (ps : List Param) → map says.param_of (map raws.parameter ps) ≡ ps
params_back [] = refl
params_back (p ∷ ps) = ap₂ (λ (q : Param) (qs : List Param). q ∷ qs) (param_at p.ty p.ext p.purpose) (params_back ps)

abbrev sig_with : Conv → List Param → List Param → Sig
sig_with c ps rs = record { params = ps; results = rs; conv = c }

pub sig_back : (s : Sig) → says.sig_of (raws.signature s) ≡ s
sig_back s = ap₂ (sig_with s.conv) (params_back s.params) (params_back s.results)

-- ---- declarations

alignment_back : (bytes : ℕ) → says.alignment (raws.alignment bytes) ≡ bytes
alignment_back bytes = go (bytes == 1) refl
  where
    go : (b : Bool) → (bytes == 1) ≡ b → says.alignment (raws.alignment bytes) ≡ bytes
    go true e = rw e (sym (eqb-true bytes 1 e))
    go false e = rw e refl

-- a function's declarations, in order
abbrev pub decls_of : Function → List RawDecl
decls_of f = raws.numbered raws.slot_decl 0 f.slots ++ (raws.numbered raws.sig_decl 0 f.sigs ++ raws.numbered raws.callee_decl 0 f.callees)

pub three : {B : Type 0} (g : RawDecl → List B) (xs ys zs : List RawDecl) → flat_map g (xs ++ (ys ++ zs)) ≡ flat_map g xs ++ (flat_map g ys ++ flat_map g zs)
three {B} g xs ys zs = flat_map-append g xs (ys ++ zs) ∙ ap (λ (ws : List B). flat_map g xs ++ ws) (flat_map-append g ys zs)

-- what declarations of another kind give
pub none_of : {A B : Type 0} (g : RawDecl → List B) (decl : ℕ → A → RawDecl) → ((k : ℕ) (x : A) → g (decl k x) ≡ []) → (k : ℕ) (xs : List A) → flat_map g (raws.numbered decl k xs) ≡ []
none_of g decl h k [] = refl
none_of {A} {B} g decl h k (x ∷ xs) = ap₂ (λ (y z : List B). y ++ z) (h k x) (none_of g decl h (k + 1) xs)

abbrev slot_with : ℕ → ℕ → SlotDecl
slot_with s a = record { size = s; align = a }

slots_from : (k : ℕ) (ss : List SlotDecl) → flat_map says.decl_slots (raws.numbered raws.slot_decl k ss) ≡ ss
slots_from k [] = refl
slots_from k (s ∷ ss) = ap₂ (λ (a : ℕ) (ts : List SlotDecl). slot_with s.size a ∷ ts) (alignment_back s.align) (slots_from (k + 1) ss)

pub slots_back : (f : Function) → flat_map says.decl_slots (decls_of f) ≡ f.slots
slots_back f =
    three says.decl_slots (raws.numbered raws.slot_decl 0 f.slots) (raws.numbered raws.sig_decl 0 f.sigs) (raws.numbered raws.callee_decl 0 f.callees)
    ∙ ap₂ (λ (x y : List SlotDecl). x ++ y) (slots_from 0 f.slots)
    (ap₂ (λ (x y : List SlotDecl). x ++ y) (none_of says.decl_slots raws.sig_decl (λ k x. refl) 0 f.sigs) (none_of says.decl_slots raws.callee_decl (λ k x. refl) 0 f.callees))
    ∙ append-nil f.slots

sigs_from : (k : ℕ) (ss : List Sig) → map (λ s. s.1) (flat_map says.decl_sigs (raws.numbered raws.sig_decl k ss)) ≡ ss
sigs_from k [] = refl
sigs_from k (s ∷ ss) = ap₂ (λ (t : Sig) (ts : List Sig). t ∷ ts) (sig_back s) (sigs_from (k + 1) ss)

pub sigs_back : (f : Function) → map (λ s. s.1) (flat_map says.decl_sigs (decls_of f)) ≡ f.sigs
sigs_back f =
    let slots = raws.numbered raws.slot_decl 0 f.slots in let sigs = raws.numbered raws.sig_decl 0 f.sigs in let callees = raws.numbered raws.callee_decl 0 f.callees in
    ap (map (λ (s : Option RawName × Sig). s.1)) (
    three says.decl_sigs slots sigs callees
    ∙ ap₂ (λ (x y : List (Option RawName × Sig)). x ++ (flat_map says.decl_sigs sigs ++ y)) (none_of says.decl_sigs raws.slot_decl (λ k x. refl) 0 f.slots) (none_of says.decl_sigs raws.callee_decl (λ k x. refl) 0 f.callees)
    ∙ append-nil (flat_map says.decl_sigs sigs))
    ∙ sigs_from 0 f.sigs

-- ---- the words of slots and callees are their places

pub slot_words_from : (k : ℕ) (ss : List SlotDecl) → map number_of (flat_map slot_names (raws.numbered raws.slot_decl k ss)) ≡ range_with_len k (length ss)
slot_words_from k [] = refl
slot_words_from k (s ∷ ss) = ap (λ (ns : List ℕ). k ∷ ns) (slot_words_from (k + 1) ss)

pub sig_words_from : (k : ℕ) (ss : List Sig) → map number_of (flat_map sig_names (raws.numbered raws.sig_decl k ss)) ≡ range_with_len k (length ss)
sig_words_from k [] = refl
sig_words_from k (s ∷ ss) = ap (λ (ns : List ℕ). k ∷ ns) (sig_words_from (k + 1) ss)

pub callee_words_from : (k : ℕ) (cs : List Callee) → map number_of (flat_map callee_names (raws.numbered raws.callee_decl k cs)) ≡ range_with_len k (length cs)
callee_words_from k [] = refl
callee_words_from k (c ∷ cs) = ap (λ (ns : List ℕ). k ∷ ns) (callee_words_from (k + 1) cs)

pub sig_from : (a : ℕ) (ss : List Sig) (j v : ℕ) → v ≡ a + j → j < length ss → says.sig_place (flat_map says.decl_sigs (raws.numbered raws.sig_decl a ss)) v ≡ j
sig_from a [] j v e h = absurd (omega arith)
sig_from a (s ∷ ss) zero v e h = let t : nat_eq v a ≡ true = grind (arith, nat_tests) in rw t refl
sig_from a (s ∷ ss) (suc j) v e h =
    let t : nat_eq v a ≡ false = grind (arith, nat_tests) in rw t (ap suc (sig_from (a + 1) ss j v (omega arith) (omega arith)))

-- ---- callees: each names its signature by a word

abbrev callee_with : FuncName → Bool → ℕ → Callee
callee_with n c s = record { name = n; colocated = c; sig = s }

callees_past_slots : (sig : ℕ → ℕ) (count k : ℕ) (ss : List SlotDecl) (rest : List RawDecl) → says.callees_from sig count (raws.numbered raws.slot_decl k ss ++ rest) ≡ says.callees_from sig count rest
callees_past_slots sig count k [] rest = refl
callees_past_slots sig count k (s ∷ ss) rest = callees_past_slots sig count (k + 1) ss rest

callees_alone : (sig : ℕ → ℕ) (count k : ℕ) (cs : List Callee) → Each (λ (c : Callee). sig c.sig ≡ c.sig) cs → says.callees_from sig count (raws.numbered raws.callee_decl k cs) ≡ cs
callees_alone sig count k [] h = refl
callees_alone sig count k (c ∷ cs) h =
    ap₂ (λ (n : FuncName) (s : ℕ). callee_with n c.colocated s ∷ says.callees_from sig count (raws.numbered raws.callee_decl (k + 1) cs)) (name_back c.name) h.0
    ∙ ap (λ (ds : List Callee). c ∷ ds) (callees_alone sig count (k + 1) cs h.1)

callees_past_sigs : (sig : ℕ → ℕ) (count k j : ℕ) (ss : List Sig) (cs : List Callee) → Each (λ (c : Callee). sig c.sig ≡ c.sig) cs
    → says.callees_from sig count (raws.numbered raws.sig_decl k ss ++ raws.numbered raws.callee_decl j cs) ≡ cs
callees_past_sigs sig count k j [] cs h = callees_alone sig count j cs h
callees_past_sigs sig count k j (s ∷ ss) cs h = callees_past_sigs sig (suc count) (k + 1) j ss cs h

pub callees_back : (f : Function) (sig : ℕ → ℕ) → Each (λ (c : Callee). sig c.sig ≡ c.sig) f.callees → says.callees_from sig 0 (decls_of f) ≡ f.callees
callees_back f sig h = callees_past_slots sig 0 0 f.slots (raws.numbered raws.sig_decl 0 f.sigs ++ raws.numbered raws.callee_decl 0 f.callees) ∙ callees_past_sigs sig 0 0 0 f.sigs f.callees h
