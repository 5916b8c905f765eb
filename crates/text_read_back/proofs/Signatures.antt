-- Names and signatures, read as what they say.
use Rattle.std.proofs.Common.{◌≡◌, ◌≢◌, ℕ, ◌+◌, true, ◌&&◌, List, [], ◌∷◌, ◌++◌, map, length, Option, Some, None, refl, sym, ap, arith, inl, append_assoc}
use Rattle.std.specs.Prelude.{codes, IsTrue}
use Rattle.std.specs.List.{list_all}
use Rattle.std.proofs.lemmas.Bool.{and_from}
use Rattle.std.proofs.lemmas.Bool.Decides.{nat_tests}
use Rattle.std.proofs.lemmas.List.{append-nil}
use Rattle.clif_lex.specs.Bytes.{is_word_byte, first}
use Rattle.clif_lex.specs.declared.spans.TokenKind.TheVariants as kind
use Rattle.grammar.specs.Rules.{Lexeme, Rule, Seq, Opt, Tree}
use Rattle.ir_core.specs.declared.names.FuncName.{FuncName}
use Rattle.ir_core.specs.declared.names.FuncName.TheVariants as func_names
use Rattle.ir_core.specs.declared.signatures.Conv.{Conv}
use Rattle.ir_core.specs.declared.signatures.Conv.TheVariants as convs
use Rattle.ir_core.specs.declared.signatures.Ext.{Ext}
use Rattle.ir_core.specs.declared.signatures.Ext.TheVariants as exts
use Rattle.ir_core.specs.declared.signatures.Param.{Param}
use Rattle.ir_core.specs.declared.signatures.Purpose.{Purpose}
use Rattle.ir_core.specs.declared.signatures.Purpose.TheVariants as purposes
use Rattle.ir_core.specs.declared.signatures.Sig.{Sig}
use Rattle.ir_core.specs.declared.signatures.Ty.{Ty}
use Rattle.ir_core.specs.Lists.{Each}
use Rattle.ir_text.specs.TextTree.{Text, Word, Number, ◌▹◌, spelled, space, separated, in_parentheses}
use Rattle.ir_text.specs.TextDeclarations as text
use Rattle.ir_text.specs.Words.{convention_word}
use Rattle.ir_text.specs.Writable.{is_name_byte, NameWritable}
use Rattle.clif_words.specs.declared.class.Class.TheVariants as classes
use Rattle.clif_words.specs.Table.{all_words}
use Rattle.clif_words.specs.Terminals.{◌then◌, ◌or◌, arrow, ext, left_paren, right_paren}
use Rattle.clif_words.specs.Words.{word_meaning}
use Rattle.token_reader.specs.declared.raw.RawName.{RawName}
use Rattle.token_reader.specs.declared.raw.RawNumber.{RawNumber}
use Rattle.token_reader.specs.Values.{perhaps}
use Rattle.clif_read.specs.declared.raw.RawAttribute.{RawAttribute}
use Rattle.clif_read.specs.declared.raw.RawAttribute.TheVariants as attributes
use Rattle.clif_read.specs.declared.raw.RawFuncName.TheVariants as raw_names
use Rattle.clif_read.specs.declared.raw.RawParam.{RawParam}
use Rattle.clif_read.specs.declared.raw.RawSignature.{RawSignature}
use Rattle.clif_read.specs.ModuleGrammar.{purpose, param, params, convention, signature, func_name}
use Rattle.clif_read.specs.DeclarationValues.{ext_of, ext_value, purpose_value, opt_purpose_value, opt_ext_value, attributes_value, param_value, params_value, convention_of, convention_value, signature_value, func_name_value}
use Rattle.text_read_back.proofs.Stretches.{clear}
use Rattle.text_read_back.specs.Bare.{bare_func_name}
use Rattle.text_read_back.specs.RawOf as raws
use Rattle.text_read_back.proofs.Told.{lexeme_as, s_at, Told, told_as, told_pair, Reads, Soft, soft_nothing, soft_then, soft_space, soft_mark, seq, means, blank, gap, left, right, none, some, mark_then, separated_reads, nothing_said}
use Rattle.text_read_back.proofs.Stems.{user_name_stem}
use Rattle.text_read_back.proofs.Terms.{word_says, entity_reads, number_reads, type_reads}
use Rattle.text_read_back.proofs.Operands.{all_read}

-- ---- names

word_byte : (b : ℕ) → is_name_byte b ≡ true → is_word_byte b ≡ true
word_byte b h = grind (arith, nat_tests)

all_word : (bytes : List ℕ) → Each (λ b. IsTrue (is_name_byte b)) bytes → list_all is_word_byte bytes ≡ true
all_word [] h = refl
all_word (b ∷ bs) h = and_from (is_word_byte b) (list_all is_word_byte bs) (word_byte b h.0) (all_word bs h.1)

first_word : (bytes : List ℕ) → bytes ≢ [] → Each (λ b. IsTrue (is_name_byte b)) bytes → is_word_byte (first bytes) ≡ true
first_word [] some h = absurd (some refl)
first_word (b ∷ bs) some h = word_byte b h.0

pub func_name_reads : (x : FuncName) → NameWritable x → Reads func_name (λ v. bare_func_name (func_name_value v)) (raws.function_name x) (text.function_name x)
func_name_reads (func_names.Text bytes) h = record {
  clear = λ b e. rw (first_word bytes h.0 h.1, all_word bytes h.1, e) refl;
  told = λ at. record { tree = inl (lexeme_as kind.Name (37 ∷ bytes) at); derived = (refl, refl); says = refl };
}
func_name_reads (func_names.User space index) h =
    let a = h.0 in let b = h.1 in
    right (λ v. bare_func_name (func_name_value v))
    (means (λ (p : RawName × RawNumber). raw_names.User p.0 p.1)
    (seq (entity_reads (codes "u") classes.UserName space user_name_stem refl (omega arith)) (mark_then classes.Colon 58 refl refl (number_reads index (omega arith))) (soft_mark 58 (Number index) refl)))

-- ---- parameters

-- what may stand behind a text, and does not
last_out : {a : Rule} {A B : Type 0} {f : Tree a → A} {x : A} {s : Text} (b : Rule) (g : Tree (Opt b) → B) → Reads a f x s → Reads (Seq a (Opt b)) {A = A × B} (λ (v : Tree a × Option (Tree b)). (f v.0, g v.1)) (x, g None) s
last_out {a} {A} {B} {f} {x} {s} b g p = record {
  clear = p.clear;
  told = λ at. (let k = p.told at in record { tree = (k.tree, None); derived = (s_at at s, [], sym (append-nil (s_at at s)), (k.derived, refl)); says = ap (λ (y : A). (let z : A × B = (y, g None) in z)) k.says });
}

abbrev attribute_rule : Rule
attribute_rule = (ext then Opt purpose) or (purpose then Opt ext)

abbrev attributes_say : Tree (Opt attribute_rule) → List RawAttribute
attributes_say = perhaps [] attributes_value

uext_reads : Reads ext ext_value attributes.Uext (Word (codes "uext"))
unfolding word_meaning all_words
uext_reads = word_says classes.Ext (codes "uext") ext_of attributes.Uext refl refl refl

sext_reads : Reads ext ext_value attributes.Sext (Word (codes "sext"))
unfolding word_meaning all_words
sext_reads = word_says classes.Ext (codes "sext") ext_of attributes.Sext refl refl refl

vmctx_reads : Reads purpose purpose_value attributes.Vmctx (Word (codes "vmctx"))
unfolding word_meaning all_words
vmctx_reads = left purpose_value (word_says classes.Vmctx (codes "vmctx") (λ k. attributes.Vmctx) attributes.Vmctx refl refl refl)

sret_reads : Reads purpose purpose_value attributes.Sret (Word (codes "sret"))
unfolding word_meaning all_words
sret_reads = right purpose_value (word_says classes.Sret (codes "sret") (λ k. attributes.Sret) attributes.Sret refl refl refl)

opt_purpose_reads : (p : Purpose) → Reads (Opt purpose) opt_purpose_value (raws.purposes p) (text.purpose_text p)
opt_purpose_reads purposes.Normal = none purpose opt_purpose_value
opt_purpose_reads purposes.Vmctx = some opt_purpose_value (blank (means (λ (x : RawAttribute). x ∷ []) vmctx_reads))
opt_purpose_reads purposes.Sret = some opt_purpose_value (blank (means (λ (x : RawAttribute). x ∷ []) sret_reads))

purpose_soft : (p : Purpose) → Soft (text.purpose_text p)
purpose_soft purposes.Normal = soft_nothing
purpose_soft purposes.Vmctx = record { so = λ b h. refl }
purpose_soft purposes.Sret = record { so = λ b h. refl }

with_ext : {x : RawAttribute} {t : Text} (p : Purpose) → Reads ext ext_value x t → Reads (Opt attribute_rule) attributes_say (x ∷ raws.purposes p) (t ▹ text.purpose_text p)
with_ext p is =
    some attributes_say (left (λ v. attributes_say (Some v)) (means (λ (q : RawAttribute × List RawAttribute). q.0 ∷ q.1) (seq is (opt_purpose_reads p) (purpose_soft p))))

purpose_alone : {x : RawAttribute} {t : Text} → Reads purpose purpose_value x t → Reads (Opt attribute_rule) attributes_say (x ∷ []) t
purpose_alone is =
    some attributes_say (right (λ v. attributes_say (Some v)) (means (λ (q : RawAttribute × List RawAttribute). q.0 ∷ q.1) (last_out ext opt_ext_value is)))

attributes_read : (e : Ext) (p : Purpose) → Reads (Opt attribute_rule) attributes_say (raws.extension e ++ raws.purposes p) (text.extension e ▹ text.purpose_text p)
attributes_read exts.No purposes.Normal = gap (none attribute_rule attributes_say)
attributes_read exts.No purposes.Vmctx = gap (blank (purpose_alone vmctx_reads))
attributes_read exts.No purposes.Sret = gap (blank (purpose_alone sret_reads))
attributes_read exts.Uext p = with_ext p (blank uext_reads)
attributes_read exts.Sext p = with_ext p (blank sext_reads)

extension_soft : (e : Ext) → Soft (text.extension e)
extension_soft exts.No = soft_nothing
extension_soft exts.Uext = record { so = λ b h. refl }
extension_soft exts.Sext = record { so = λ b h. refl }

pub param_reads : (p : Param) → Reads param param_value (raws.parameter p) (text.parameter p)
param_reads p =
    means (λ (q : Ty × List RawAttribute). (let r : RawParam = record { ty = q.0; attributes = q.1 } in r))
    (seq (type_reads p.ty) (attributes_read p.ext p.purpose) (soft_then (extension_soft p.ext) (purpose_soft p.purpose)))

-- ---- signatures

params_read : (ps : List Param) → Reads (Opt params) (perhaps [] params_value) (map raws.parameter ps) (separated text.parameter ps)
params_read [] = none params (perhaps [] params_value)
params_read (p ∷ ps) = some (perhaps [] params_value) (separated_reads param param_value text.parameter raws.parameter p ps (all_read param param_value text.parameter raws.parameter param_reads (p ∷ ps)))

abbrev results_say : Tree (Opt (arrow then params)) → List RawParam
results_say = perhaps [] (λ w. params_value w.1)

results_read : (ps : List Param) → Reads (Opt (arrow then params)) results_say (map raws.parameter ps) (text.signature_results ps)
results_read [] = none (arrow then params) results_say
results_read (p ∷ ps) =
    let q = separated_reads param param_value text.parameter raws.parameter p ps (all_read param param_value text.parameter raws.parameter param_reads (p ∷ ps)) in
    record {
      clear = λ b h. q.clear b h;
      told = λ at. (
          let k = q.told (at + 1 + 2 + 1) in
          let a = lexeme_as kind.Arrow (45 ∷ 62 ∷ []) (at + 1) in
          record { tree = Some (a, k.tree); derived = (a ∷ [], s_at (at + 1 + 2 + 1) (separated text.parameter (p ∷ ps)), refl, ((refl, refl), k.derived)); says = k.says });
    }

convention_reads : (c : Conv) → Reads convention convention_value c (Word (convention_word c))
unfolding word_meaning all_words
convention_reads convs.Fast = left convention_value (word_says classes.Conv (codes "fast") convention_of convs.Fast refl refl refl)
convention_reads convs.Cold = right convention_value (word_says classes.Cold (codes "cold") (λ k. convs.Cold) convs.Cold refl refl refl)
convention_reads convs.Tail = left convention_value (word_says classes.Conv (codes "tail") convention_of convs.Tail refl refl refl)
convention_reads convs.SystemV = left convention_value (word_says classes.Conv (codes "system_v") convention_of convs.SystemV refl refl refl)
convention_reads convs.WindowsFastcall = left convention_value (word_says classes.Conv (codes "windows_fastcall") convention_of convs.WindowsFastcall refl refl refl)
convention_reads convs.AppleAarch64 = left convention_value (word_says classes.Conv (codes "apple_aarch64") convention_of convs.AppleAarch64 refl refl refl)
convention_reads convs.Probestack = left convention_value (word_says classes.Conv (codes "probestack") convention_of convs.Probestack refl refl refl)
convention_reads convs.Winch = left convention_value (word_says classes.Conv (codes "winch") convention_of convs.Winch refl refl refl)

abbrev convention_says : Tree (Opt convention) → Option Conv
convention_says = perhaps None (λ w. Some (convention_value w))

pub signature_reads : (s : Sig) → Reads signature signature_value (raws.signature s) (text.signature s)
signature_reads s =
    let ps = params_read s.params in
    let rs = results_read s.results in
    let c : Reads (Opt convention) convention_says (Some s.conv) (Word (convention_word s.conv)) = some convention_says (means (λ (x : Conv). (let o : Option Conv = Some x in o)) (convention_reads s.conv)) in
    let tail = seq rs (blank c) soft_space in
    let t1 = separated text.parameter s.params in
    let t2 = text.signature_results s.results ▹ space ▹ Word (convention_word s.conv) in
    record {
      clear = λ b h. and_from (clear t1 41 && true) (clear t2 b) (and_from (clear t1 41) true (ps.clear 41 refl) refl) (tail.clear b h);
      told = λ at. (
          let at2 = at + 1 + length (spelled t1) in
          let at3 = at + length (spelled (in_parentheses t1)) in
          let l = lexeme_as (kind.Mark 40) (40 ∷ []) at in
          let r = lexeme_as (kind.Mark 41) (41 ∷ []) at2 in
          let open_told : Told left_paren nothing_said tt (l ∷ []) = record { tree = l; derived = (refl, refl); says = refl } in
          let close_told : Told right_paren nothing_said tt (r ∷ []) = record { tree = r; derived = (refl, refl); says = refl } in
          let whole = told_pair open_told (told_pair (ps.told (at + 1)) (told_pair close_told (tail.told at3))) in
          let us : s_at at (text.signature s) ≡ l ∷ (s_at (at + 1) t1 ++ (r ∷ s_at at3 t2)) = ap (λ (z : List Lexeme). l ∷ z) (append_assoc (s_at (at + 1) t1) (r ∷ []) (s_at at3 t2)) in
          told_as us (record {
            tree = whole.tree;
            derived = whole.derived;
            says = ap (λ (q : Unit {0} × (List RawParam × (Unit {0} × (List RawParam × Option Conv)))). (let z : RawSignature = record { params = q.1.0; results = q.1.1.1.0; conv = q.1.1.1.1 } in z)) whole.says;
          }));
    }
