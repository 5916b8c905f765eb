-- Declarations, read as what they say.
use Rattle.std.proofs.Common.{◌≡◌, ℕ, ◌+◌, ◌^◌, ◌<◌, ◌≤◌, ◌==◌, Bool, true, false, ◌&&◌, cond, List, [], ◌∷◌, ◌++◌, map, length, Option, Some, None, refl, sym, ap, ap₂, ◌∙◌, arith, inr, append_assoc}
use Rattle.std.specs.Prelude.{codes, pos}
use Rattle.std.proofs.lemmas.Bool.{and_from}
use Rattle.std.proofs.lemmas.Bool.Decides.{nat_tests}
use Rattle.std.proofs.lemmas.List.{append-nil, length-append}
use Rattle.clif_lex.specs.declared.spans.TokenKind.TheVariants as kind
use Rattle.grammar.specs.Rules.{Lexeme, Rule, Seq, Opt, Many, Tree}
use Rattle.ir_core.specs.declared.declarations.Callee.{Callee}
use Rattle.ir_core.specs.declared.declarations.SlotDecl.{SlotDecl}
use Rattle.ir_core.specs.declared.signatures.Sig.{Sig}
use Rattle.ir_core.specs.Lists.{Each}
use Rattle.ir_text.specs.TextTree.{Text, Nothing, Word, Number, ◌▹◌, spelled, equals, comma, indent, line_end}
use Rattle.ir_text.specs.TextDeclarations as text
use Rattle.ir_text.specs.Writable.{greatest_number, is_alignment, NameWritable, SlotWritable}
use Rattle.clif_words.specs.declared.class.Class.TheVariants as classes
use Rattle.clif_words.specs.Table.{all_words}
use Rattle.clif_words.specs.Terminals as terms
use Rattle.clif_words.specs.Terminals.{◌then◌, ◌or◌, one}
use Rattle.clif_words.specs.Words.{word_meaning}
use Rattle.token_reader.specs.declared.raw.RawName.{RawName}
use Rattle.token_reader.specs.declared.raw.RawNumber.{RawNumber}
use Rattle.token_reader.specs.Grammar.{number}
use Rattle.token_reader.specs.Values.{perhaps}
use Rattle.clif_read.specs.declared.raw.RawCalleeSig.{RawCalleeSig}
use Rattle.clif_read.specs.declared.raw.RawCalleeSig.TheVariants as callee_sigs
use Rattle.clif_read.specs.declared.raw.RawDecl.{RawDecl}
use Rattle.clif_read.specs.declared.raw.RawDecl.TheVariants as decls
use Rattle.clif_read.specs.declared.raw.RawFuncName.{RawFuncName}
use Rattle.clif_read.specs.declared.raw.RawSignature.{RawSignature}
use Rattle.clif_read.specs.ModuleGrammar.{signature, decl}
use Rattle.clif_read.specs.DeclarationValues.{align_value, callee_sig_value, is_there, decl_value}
use Rattle.text_read_back.proofs.Stretches.{front, clear}
use Rattle.text_read_back.specs.Bare.{bare_number, bare_option, bare_callee_sig, bare_decl}
use Rattle.text_read_back.specs.RawOf as raws
use Rattle.text_read_back.proofs.Told.{lexeme_as, s_at, told_as, Reads, Closed, Soft, soft_nothing, soft_space, seq, closed_seq, means, blank, left, right, none, some, comma_then, nothing_said}
use Rattle.text_read_back.proofs.Stems.{slot_stem, sig_stem, callee_stem}
use Rattle.text_read_back.proofs.Terms.{word_says, entity_reads, number_reads}
use Rattle.text_read_back.proofs.Signatures.{func_name_reads, signature_reads}

-- ---- parts of a line

-- ` = `, then a text
equals_then : {b : Rule} {B : Type 0} {g : Tree b → B} {y : B} {t : Text} → Reads b g y t → Reads (Seq (one classes.Equals) b) (λ (v : Lexeme × Tree b). g v.1) y (equals ▹ t)
equals_then {b} {B} {g} {y} {t} q = record {
  clear = λ d h. q.clear d h;
  told = λ at. (
      let k = q.told (at + 3) in
      let e = lexeme_as (kind.Mark 61) (61 ∷ []) (at + 1) in
      record { tree = (e, k.tree); derived = (e ∷ [], s_at (at + 3) t, refl, ((refl, refl), k.derived)); says = k.says });
}

-- the end of a line behind a text
ended : {r : Rule} {A : Type 0} {f : Tree r → A} {x : A} {t : Text} → Reads r f x t → Reads r f x (t ▹ line_end)
ended {r} {A} {f} {x} {t} p = record {
  clear = λ b h. and_from (clear t 10) true (p.clear 10 refl) refl;
  told = λ at. told_as (append-nil (s_at at t)) (p.told at);
}

-- a line of its own
alone : {r : Rule} {A : Type 0} {f : Tree r → A} {x : A} {t : Text} → ((b : ℕ) → clear t b ≡ clear t 10) → Reads r f x t → Closed r f x (indent ▹ t)
alone {r} {A} {f} {x} {t} same p = record { clear = λ b. same b ∙ p.clear 10 refl; told = λ at. p.told (at + 4) }

end_soft : {t : Text} → Soft t → Soft (t ▹ line_end)
end_soft {t} s = record { so = λ b h. s.so 10 refl }

equals_soft : {t : Text} → Soft (equals ▹ t)
equals_soft = record { so = λ b h. refl }

-- ---- slots

abbrev align_rule : Rule
align_rule = terms.comma then terms.align then terms.equals then number

abbrev align_says : Tree (Opt align_rule) → Option RawNumber
align_says o = bare_option bare_number (perhaps None (λ w. Some (align_value w)) o)

abbrev nothing_more : ℕ → Unit {0}
nothing_more k = tt

align_word : Reads terms.align nothing_said tt (Word (codes "align"))
unfolding word_meaning all_words
align_word = word_says classes.Align (codes "align") nothing_more tt refl refl refl

explicit_slot_word : Reads terms.explicit_slot nothing_said tt (Word (codes "explicit_slot"))
unfolding word_meaning all_words
explicit_slot_word = word_says classes.ExplicitSlot (codes "explicit_slot") nothing_more tt refl refl refl

align_reads : (bytes : ℕ) → bytes < 2 ^ 64 → Reads (Opt align_rule) align_says (raws.alignment bytes) (text.alignment bytes)
align_reads bytes lt = go (bytes == 1)
  where
    go : (b : Bool) → Reads (Opt align_rule) align_says (cond {A = Option RawNumber} b None (Some (raws.number (pos bytes)))) (cond {A = Text} b Nothing (comma ▹ Word (codes "align") ▹ equals ▹ Number bytes))
    go true = none align_rule align_says
    go false =
        some align_says (comma_then (means (λ (p : Unit {0} × RawNumber). (let o : Option RawNumber = Some p.1 in o)) (seq align_word (equals_then (number_reads bytes lt)) equals_soft)))

align_soft : (bytes : ℕ) → Soft (text.alignment bytes)
align_soft bytes = go (bytes == 1)
  where
    go : (b : Bool) → Soft (cond {A = Text} b Nothing (comma ▹ Word (codes "align") ▹ equals ▹ Number bytes))
    go true = soft_nothing
    go false = record { so = λ b h. refl }

alignments : (n : ℕ) → is_alignment n ≡ true → n < 2 ^ 64
alignments n h = grind (arith, nat_tests)

abbrev decl_says : Tree decl → RawDecl
decl_says v = bare_decl (decl_value v)

slot_reads : (k : ℕ) (s : SlotDecl) → k < 2 ^ 64 → SlotWritable s → Closed decl (λ v. bare_decl (decl_value v)) (raws.slot_decl k s) (text.slot_line k s)
slot_reads k s lt h =
    let size = h.0 in
    alone (λ b. refl)
    (left decl_says (means (λ (p : RawName × (Unit {0} × (RawNumber × Option RawNumber))). decls.Slot p.0 p.1.1.0 p.1.1.1)
    (seq (entity_reads (codes "ss") classes.Slot k slot_stem refl lt)
    (equals_then (seq explicit_slot_word (blank (seq (number_reads s.size (omega arith)) (ended (align_reads s.align (alignments s.align h.1))) (end_soft (align_soft s.align)))) soft_space)) equals_soft)))

-- ---- signatures and callees

sig_reads : (k : ℕ) (s : Sig) → k < 2 ^ 64 → Closed decl (λ v. bare_decl (decl_value v)) (raws.sig_decl k s) (text.signature_line k s)
sig_reads k s lt =
    alone (λ b. refl)
    (right decl_says (left (λ v. decl_says (inr v)) (means (λ (p : RawName × RawSignature). decls.Sig p.0 p.1)
    (seq (entity_reads (codes "sig") classes.Sig k sig_stem refl lt) (equals_then (ended (signature_reads s))) equals_soft))))

colocated_read : (b : Bool) → Closed (Opt terms.colocated) is_there b (text.colocation b)
unfolding word_meaning all_words
colocated_read false = record { clear = λ b. refl; told = λ at. record { tree = None; derived = refl; says = refl } }
colocated_read true = record { clear = λ b. refl; told = λ at. record { tree = Some (lexeme_as kind.Word (codes "colocated") at); derived = (refl, refl); says = refl } }

abbrev sig_says : Tree (terms.sig or signature) → RawCalleeSig
sig_says v = bare_callee_sig (callee_sig_value v)

abbrev pub CalleeFits : Callee → Type 0
CalleeFits c = NameWritable c.name × (c.sig ≤ greatest_number)

callee_reads : (k : ℕ) (c : Callee) → k < 2 ^ 64 → CalleeFits c → Closed decl (λ v. bare_decl (decl_value v)) (raws.callee_decl k c) (text.callee_line k c)
callee_reads k c lt h =
    let le = h.1 in
    alone (λ b. refl)
    (right decl_says (right (λ v. decl_says (inr v)) (left (λ v. decl_says (inr (inr v))) (means (λ (p : RawName × (Bool × (RawFuncName × RawCalleeSig))). decls.Callee p.1.0 p.0 p.1.1.1 p.1.1.0)
    (seq (entity_reads (codes "fn") classes.Callee k callee_stem refl lt)
    (equals_then (closed_seq (colocated_read c.colocated) (seq (func_name_reads c.name h.0)
    (blank (ended (left sig_says (means (λ (x : RawName). callee_sigs.Declared x) (entity_reads (codes "sig") classes.Sig c.sig sig_stem refl (omega arith)))))) soft_space))) equals_soft)))))

-- ---- lists of them

-- what stands behind declarations, without any
pub no_declarations : {B : Rule} {Y : Type 0} {g : Tree B → Y} {y : Y} {t : Text} → Closed B g y t
    → Closed (Seq (Many decl) B) {A = List RawDecl × Y} (λ (v : List (Tree decl) × Tree B). (map (λ w. bare_decl (decl_value w)) v.0, g v.1)) ([], y) t
no_declarations {B} {Y} {g} {y} {t} q = record {
  clear = q.clear;
  told = λ at. (let k = q.told at in record { tree = ([], k.tree); derived = ([], s_at at t, refl, (refl, k.derived)); says = ap (λ (z : Y). (let p : List RawDecl × Y = ([], z) in p)) k.says });
}

-- declarations before others, and before what stands behind all
declared : {A : Type 0} (line : ℕ → A → Text) (say : ℕ → A → RawDecl) (P : A → Type 0) → ((k : ℕ) (x : A) → k < 2 ^ 64 → P x → Closed decl (λ v. bare_decl (decl_value v)) (say k x) (line k x))
    → (k : ℕ) (xs : List A) → k + length xs ≤ 2 ^ 64 → Each P xs → (B : Rule) {Y : Type 0} (g : Tree B → Y) {y : Y} {ys : List RawDecl} {t : Text}
    → Closed (Seq (Many decl) B) {A = List RawDecl × Y} (λ (v : List (Tree decl) × Tree B). (map (λ w. bare_decl (decl_value w)) v.0, g v.1)) (ys, y) t
    → Closed (Seq (Many decl) B) {A = List RawDecl × Y} (λ (v : List (Tree decl) × Tree B). (map (λ w. bare_decl (decl_value w)) v.0, g v.1)) (raws.numbered say k xs ++ ys, y) (text.declarations line k xs ▹ t)
declared line say P each k [] le h B {Y} g {y} {ys} {t} q = record { clear = q.clear; told = λ at. q.told (at + 0) }
declared line say P each k (x ∷ xs) le h B {Y} g {y} {ys} {t} q =
    let one = each k x (omega arith) h.0 in
    let more = declared line say P each (k + 1) xs (omega arith) h.1 B g q in
    let u = line k x in
    let us = text.declarations line (k + 1) xs in
    record {
      clear = λ b. and_from (clear u (front us (front t b)) && clear us (front t b)) (clear t b) (and_from (clear u (front us (front t b))) (clear us (front t b)) (one.clear (front us (front t b))) (left_of (clear us (front t b)) (clear t b) (more.clear b))) (q.clear b);
      told = λ at. (
          let a = one.told at in
          let at1 = at + length (spelled u) in
          let m = more.told at1 in
          let d = m.derived in
          let place : at + length (spelled u ++ spelled us) ≡ at1 + length (spelled us) = omega (arith, length-append (spelled u) (spelled us)) in
          let same : s_at at (text.declarations line k (x ∷ xs) ▹ t) ≡ s_at at u ++ s_at at1 (us ▹ t) =
          append_assoc (s_at at u) (s_at at1 us) (s_at (at + length (spelled u ++ spelled us)) t) ∙ ap (λ (i : ℕ). s_at at u ++ (s_at at1 us ++ s_at i t)) place in
          let cut : s_at at u ++ s_at at1 (us ▹ t) ≡ (s_at at u ++ d.0) ++ d.1 = ap (λ (z : List Lexeme). s_at at u ++ z) d.2 ∙ sym (append_assoc (s_at at u) d.0 d.1) in
          told_as same (record {
            tree = (a.tree ∷ m.tree.0, m.tree.1);
            derived = (s_at at u ++ d.0, d.1, cut, ((s_at at u, d.0, refl, (a.derived, d.3.0)), d.3.1));
            says = ap₂ (λ (z : RawDecl) (p : List RawDecl × Y). (let r : List RawDecl × Y = (z ∷ p.0, p.1) in r)) a.says m.says;
          }));
    }
  where
    left_of : (a b : Bool) → (a && b) ≡ true → a ≡ true
    left_of true b h = refl
    left_of false b h = absurd cc

abbrev pub CalleesFit : List Callee → Type 0
CalleesFit cs = Each CalleeFits cs

-- the declarations of a function, and what stands behind them
pub declarations_read : (slots : List SlotDecl) (sigs : List Sig) (callees : List Callee) → length slots ≤ greatest_number → length sigs ≤ greatest_number → length callees ≤ greatest_number
    → Each SlotWritable slots → CalleesFit callees → (B : Rule) {Y : Type 0} (g : Tree B → Y) {y : Y} {t : Text} → Closed B g y t
    → Closed (Seq (Many decl) B) {A = List RawDecl × Y} (λ (v : List (Tree decl) × Tree B). (map (λ w. bare_decl (decl_value w)) v.0, g v.1))
    (raws.numbered raws.slot_decl 0 slots ++ (raws.numbered raws.sig_decl 0 sigs ++ (raws.numbered raws.callee_decl 0 callees ++ [])), y)
    (text.declarations text.slot_line 0 slots ▹ text.declarations text.signature_line 0 sigs ▹ text.declarations text.callee_line 0 callees ▹ t)
declarations_read slots sigs callees a b c hs hc B g q =
    declared text.slot_line raws.slot_decl SlotWritable slot_reads 0 slots (omega arith) hs B g
    (declared text.signature_line raws.sig_decl (λ s. Unit {0}) (λ k s lt h. sig_reads k s lt) 0 sigs (omega arith) (each_unit sigs) B g
    (declared text.callee_line raws.callee_decl CalleeFits callee_reads 0 callees (omega arith) hc B g (no_declarations q)))
  where
    each_unit : (ss : List Sig) → Each (λ (s : Sig). Unit {0}) ss
    each_unit [] = tt
    each_unit (s ∷ ss) = (tt, each_unit ss)
