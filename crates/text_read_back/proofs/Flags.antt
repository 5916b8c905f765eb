-- The flags of a memory access, in the order in which they are written.
use Rattle.std.proofs.Common.{◌≡◌, ℕ, ◌+◌, Bool, true, false, not, ◌&&◌, List, [], ◌∷◌, ◌++◌, map, length, Some, None, refl, ap, ap₂, ◌∙◌, inl, inr}
use Rattle.std.specs.Prelude.{codes}
use Rattle.std.proofs.lemmas.List.{append-nil}
use Rattle.clif_lex.specs.declared.spans.TokenKind.TheVariants as kind
use Rattle.grammar.specs.Rules.{Lexeme, Rule, Many, Tree}
use Rattle.ir_core.specs.declared.instructions.Flags.{Flags}
use Rattle.ir_text.specs.TextTree.{Text, Word, ◌▹◌, spelled, space}
use Rattle.ir_text.specs.TextInstructions as text
use Rattle.clif_words.specs.declared.class.Class.TheVariants as classes
use Rattle.clif_words.specs.Table.{all_words}
use Rattle.clif_words.specs.Terminals.{◌or◌, big, little}
use Rattle.clif_words.specs.Words.{word_meaning}
use Rattle.clif_insts.specs.declared.raw.RawFlag.{RawFlag}
use Rattle.clif_insts.specs.declared.raw.RawFlag.TheVariants as words
use Rattle.clif_insts.specs.Flags.{flag_of}
use Rattle.clif_insts.specs.Grammar.{plain_flag, flags}
use Rattle.token_reader.specs.Values.{◌otherwise◌}
use Rattle.clif_insts.specs.Values.{plain_flag_value, flags_value}
use Rattle.text_read_back.proofs.Stretches.{clear}
use Rattle.text_read_back.specs.RawOf as raws
use Rattle.text_read_back.proofs.Told.{lexeme_as, s_at, Reads, Closed, left, right}
use Rattle.text_read_back.proofs.Terms.{word_says}

-- ---- the words

notrap_reads : Reads plain_flag plain_flag_value words.Notrap (Word (codes "notrap"))
unfolding word_meaning all_words
notrap_reads = left plain_flag_value (word_says classes.Flag (codes "notrap") flag_of words.Notrap refl refl refl)

aligned_reads : Reads plain_flag plain_flag_value words.Aligned (Word (codes "aligned"))
unfolding word_meaning all_words
aligned_reads = left plain_flag_value (word_says classes.Flag (codes "aligned") flag_of words.Aligned refl refl refl)

readonly_reads : Reads plain_flag plain_flag_value words.Readonly (Word (codes "readonly"))
unfolding word_meaning all_words
readonly_reads = left plain_flag_value (word_says classes.Flag (codes "readonly") flag_of words.Readonly refl refl refl)

can_move_reads : Reads plain_flag plain_flag_value words.CanMove (Word (codes "can_move"))
unfolding word_meaning all_words
can_move_reads = left plain_flag_value (word_says classes.Flag (codes "can_move") flag_of words.CanMove refl refl refl)

heap_reads : Reads plain_flag plain_flag_value words.Heap (Word (codes "heap"))
unfolding word_meaning all_words
heap_reads = left plain_flag_value (word_says classes.Flag (codes "heap") flag_of words.Heap refl refl refl)

table_reads : Reads plain_flag plain_flag_value words.Table (Word (codes "table"))
unfolding word_meaning all_words
table_reads = left plain_flag_value (word_says classes.Flag (codes "table") flag_of words.Table refl refl refl)

vmctx_reads : Reads plain_flag plain_flag_value words.Vmctx (Word (codes "vmctx"))
unfolding word_meaning all_words
vmctx_reads = right plain_flag_value (left (λ v. plain_flag_value (inr v)) (word_says classes.Vmctx (codes "vmctx") (λ n. words.Vmctx) words.Vmctx refl refl refl))

-- ---- { }

module _ (r : Rule) (f : Tree r → RawFlag) where
  last_read : (set : Bool) (w : List ℕ) (x : RawFlag) → Reads r f x (Word w) → Closed (Many r) (map f) (raws.flag set x) (text.flag set w)
  last_read false w x p = record { clear = λ b. refl; told = λ at. record { tree = []; derived = refl; says = refl } }
  last_read true w x p = record {
    clear = λ b. (let k : clear (Word w) 32 ≡ true = p.clear 32 refl in rw k refl);
    told = λ at. (let k = p.told at in record { tree = k.tree ∷ []; derived = (s_at at (Word w), [], refl, (k.derived, refl)); says = ap (λ (y : RawFlag). y ∷ []) k.says });
  }

  more_read : {ys : List RawFlag} {t : Text} (set : Bool) (w : List ℕ) (x : RawFlag) → Reads r f x (Word w) → Closed (Many r) (map f) ys t → Closed (Many r) (map f) (raws.flag set x ++ ys) (text.flag set w ▹ t)
  more_read {ys} {t} false w x p q = record { clear = λ b. q.clear b; told = λ at. q.told (at + 0) }
  more_read {ys} {t} true w x p q = record {
    clear = λ b. (let k : clear (Word w) 32 ≡ true = p.clear 32 refl in rw (k, q.clear b) refl);
    told = λ at. (
        let k = p.told at in
        let m = q.told (at + length (spelled (Word w ▹ space))) in
        record { tree = k.tree ∷ m.tree; derived = (s_at at (Word w), s_at (at + length (spelled (Word w ▹ space))) t, refl, (k.derived, m.derived)); says = ap₂ (λ (y : RawFlag) (zs : List RawFlag). y ∷ zs) k.says m.says });
  }

  -- the flags behind `little` and `big`
  abbrev later_flags : Flags → List RawFlag
  later_flags g = raws.flag g.heap words.Heap ++ (raws.flag g.table words.Table ++ raws.flag g.vmctx words.Vmctx)

  abbrev later_text : Flags → Text
  later_text g = text.flag g.heap (codes "heap") ▹ text.flag g.table (codes "table") ▹ text.flag g.vmctx (codes "vmctx")

  later_read : (g : Flags) → Reads r f words.Heap (Word (codes "heap")) → Reads r f words.Table (Word (codes "table")) → Reads r f words.Vmctx (Word (codes "vmctx")) → Closed (Many r) (map f) (later_flags g) (later_text g)
  later_read g h t v =
      more_read g.heap (codes "heap") words.Heap h (more_read g.table (codes "table") words.Table t (last_read g.vmctx (codes "vmctx") words.Vmctx v))

-- a plain flag before flags
before : {ys : List RawFlag} {t : Text} (set : Bool) (w : List ℕ) (x : RawFlag) → Reads plain_flag plain_flag_value x (Word w) → Closed flags flags_value ys t → Closed flags flags_value (raws.flag set x ++ ys) (text.flag set w ▹ t)
before {ys} {t} false w x p q = record { clear = λ b. q.clear b; told = λ at. q.told (at + 0) }
before {ys} {t} true w x p q = record {
  clear = λ b. (let k : clear (Word w) 32 ≡ true = p.clear 32 refl in rw (k, q.clear b) refl);
  told = λ at. (
      let k = p.told at in
      let m = q.told (at + length (spelled (Word w ▹ space))) in
      let l = lexeme_as kind.Word w at in
      record {
        tree = (k.tree ∷ m.tree.0, m.tree.1);
        derived = (l ∷ m.derived.0, m.derived.1, ap (λ (z : List Lexeme). l ∷ z) m.derived.2, ((l ∷ [], m.derived.0, refl, (k.derived, m.derived.3.0)), m.derived.3.1));
        says = ap₂ (λ (y : RawFlag) (zs : List RawFlag). y ∷ zs) k.says m.says;
      });
}

ordered_reads : (g : Flags) (l b : Bool) → not (b && l) ≡ true
    → Closed flags flags_value (raws.flag l words.Little ++ (raws.flag b words.Big ++ later_flags plain_flag plain_flag_value g)) (text.flag l (codes "little") ▹ text.flag b (codes "big") ▹ later_text plain_flag plain_flag_value g)
unfolding word_meaning all_words
ordered_reads g false false h =
    let k = later_read plain_flag plain_flag_value g heap_reads table_reads vmctx_reads in
    record {
      clear = λ c. k.clear c;
      told = λ at. (let m = k.told (at + 0 + 0) in
          record { tree = (m.tree, None); derived = (s_at (at + 0 + 0) (later_text plain_flag plain_flag_value g), [], sym_nil (s_at (at + 0 + 0) (later_text plain_flag plain_flag_value g)), (m.derived, refl)); says = append-nil (map plain_flag_value m.tree) ∙ m.says });
    }
  where
    sym_nil : (xs : List Lexeme) → xs ≡ xs ++ []
    sym_nil [] = refl
    sym_nil (x ∷ xs) = ap (λ (z : List Lexeme). x ∷ z) (sym_nil xs)
ordered_reads g true false h =
    let f : Tree (plain_flag or little) → RawFlag = plain_flag_value otherwise (λ x. words.Little) in
    let k = later_read (plain_flag or little) f g (left f heap_reads) (left f table_reads) (left f vmctx_reads) in
    record {
      clear = λ c. k.clear c;
      told = λ at. (
          let next = at + 7 + 0 in
          let m = k.told next in
          let l = lexeme_as kind.Word (codes "little") at in
          record { tree = ([], Some (inr (l, m.tree))); derived = ([], l ∷ s_at next (later_text plain_flag plain_flag_value g), refl, (refl, (l ∷ [], s_at next (later_text plain_flag plain_flag_value g), refl, ((refl, refl), m.derived)))); says = ap (λ (zs : List RawFlag). words.Little ∷ zs) m.says });
    }
ordered_reads g false true h =
    let f : Tree (plain_flag or big) → RawFlag = plain_flag_value otherwise (λ x. words.Big) in
    let k = later_read (plain_flag or big) f g (left f heap_reads) (left f table_reads) (left f vmctx_reads) in
    record {
      clear = λ c. k.clear c;
      told = λ at. (
          let next = at + 0 + 4 in
          let m = k.told next in
          let l = lexeme_as kind.Word (codes "big") (at + 0) in
          record { tree = ([], Some (inl (l, m.tree))); derived = ([], l ∷ s_at next (later_text plain_flag plain_flag_value g), refl, (refl, (l ∷ [], s_at next (later_text plain_flag plain_flag_value g), refl, ((refl, refl), m.derived)))); says = ap (λ (zs : List RawFlag). words.Big ∷ zs) m.says });
    }
ordered_reads g true true h = absurd cc

pub flags_read : (g : Flags) → not (g.big && g.little) ≡ true → Closed flags flags_value (raws.flags g) (text.flags g)
flags_read g h =
    before g.notrap (codes "notrap") words.Notrap notrap_reads
    (before g.aligned (codes "aligned") words.Aligned aligned_reads
    (before g.readonly (codes "readonly") words.Readonly readonly_reads
    (before g.can_move (codes "can_move") words.CanMove can_move_reads (ordered_reads g g.little g.big h))))
