-- A list of blocks split at one of them.
use Rattle.std.proofs.Common.{◌≡◌, ℕ, suc, ◌+◌, inl, inr, List, [], ◌∷◌, ◌++◌, length, refl, sym, ap, ap₂, ◌∙◌, subst, arith, eq-eqb, ne_eqb, append_assoc}
use Rattle.std.specs.Prelude.{if◌then◌else◌}
use Rattle.std.proofs.lemmas.Bool.{cases_eq}
use Rattle.ir_core.specs.Module.{Block, Line}
use Rattle.ir_core.specs.Lookup.{definitions, line_definitions, block_numbers}
use Rattle.ir_core.specs.Lists.{In, Different}
use Rattle.ir_core.specs.Sound.{instruction_count}
use Rattle.ir_core.specs.Edits.{at_block, insert_after, lines_of}

-- a block of the list, and what the edits make of the list
pub record Split (a : ℕ) (bs : List Block) : Type 0 where
  pub before : List Block
  pub here : Block
  pub behind : List Block
  pub number : here.number ≡ a
  pub is : bs ≡ before ++ (here ∷ behind)
  pub at : (g : Block → Block) → at_block a g bs ≡ before ++ (g here ∷ behind)
  pub insert : (new : Block) → insert_after a new bs ≡ before ++ (here ∷ (new ∷ behind))
  pub lines : lines_of a bs ≡ here.lines

pub at_block_none : (a : ℕ) (g : Block → Block) (bs : List Block) → (In a (block_numbers bs) → ⊥) → at_block a g bs ≡ bs
at_block_none a g [] h = refl
at_block_none a g (b ∷ bs) h = ap₂ (λ x xs. x ∷ xs) (ap (λ c. if c then g b else b) (ne_eqb b.number a (λ e. h (inl (sym e))))) (at_block_none a g bs (λ i. h (inr i)))

pub split : (a : ℕ) (bs : List Block) → In a (block_numbers bs) → Different (block_numbers bs) → Split a bs
split a [] i d = elim i [ ]
split a (b ∷ bs) i d =
    elim (cases_eq b.number a) [
      | inl e ↦
          let absent : In a (block_numbers bs) → ⊥ = λ j. d.0 (subst (λ z. In z (block_numbers bs)) (sym e) j) in
          record {
            before = [];
            here = b;
            behind = bs;
            number = e;
            is = refl;
            at = λ g. ap₂ (λ x xs. x ∷ xs) (ap (λ c. if c then g b else b) (eq-eqb b.number a e)) (at_block_none a g bs absent);
            insert = λ new. ap (λ c. if c then b ∷ (new ∷ bs) else b ∷ insert_after a new bs) (eq-eqb b.number a e);
            lines = ap (λ c. if c then b.lines else lines_of a bs) (eq-eqb b.number a e);
          }
      | inr e ↦
          let r : Split a bs = split a bs (elim i [ inl q ↦ absurd (e (sym q)) | inr r ↦ r ]) d.1 in
          record {
            before = b ∷ r.before;
            here = r.here;
            behind = r.behind;
            number = r.number;
            is = ap (λ z. b ∷ z) r.is;
            at = λ g. ap₂ (λ x xs. x ∷ xs) (ap (λ c. if c then g b else b) (ne_eqb b.number a e)) (r.at g);
            insert = λ new. ap (λ c. if c then b ∷ (new ∷ bs) else b ∷ insert_after a new bs) (ne_eqb b.number a e) ∙ ap (λ z. b ∷ z) (r.insert new);
            lines = ap (λ c. if c then b.lines else lines_of a bs) (ne_eqb b.number a e) ∙ r.lines;
          }
    ]

-- what a block defines
abbrev pub block_definitions : Block → List ℕ
block_definitions b = b.params ++ line_definitions b.lines

pub line_definitions_join : (ls ms : List Line) → line_definitions (ls ++ ms) ≡ line_definitions ls ++ line_definitions ms
line_definitions_join [] ms = refl
line_definitions_join (l ∷ ls) ms = ap (λ r. l.results ++ r) (line_definitions_join ls ms) ∙ sym (append_assoc l.results (line_definitions ls) (line_definitions ms))

pub definitions_join : (xs ys : List Block) → definitions (xs ++ ys) ≡ definitions xs ++ definitions ys
definitions_join [] ys = refl
definitions_join (b ∷ xs) ys =
    ap (λ r. b.params ++ (line_definitions b.lines ++ r)) (definitions_join xs ys)
    ∙ (ap (λ r. b.params ++ r) (sym (append_assoc (line_definitions b.lines) (definitions xs) (definitions ys))) ∙ sym (append_assoc b.params (line_definitions b.lines ++ definitions xs) (definitions ys)))

pub definitions_split : (xs ys : List Block) (b : Block) → definitions (xs ++ (b ∷ ys)) ≡ definitions xs ++ (block_definitions b ++ definitions ys)
definitions_split xs ys b = definitions_join xs (b ∷ ys) ∙ ap (λ r. definitions xs ++ r) (sym (append_assoc b.params (line_definitions b.lines) (definitions ys)))

pub count_join : (xs ys : List Block) → instruction_count (xs ++ ys) ≡ instruction_count xs + instruction_count ys
count_join [] ys = omega arith
count_join (b ∷ xs) ys = omega (arith, count_join xs ys)

pub count_split : (xs ys : List Block) (b : Block) → instruction_count (xs ++ (b ∷ ys)) ≡ instruction_count xs + (length b.lines + instruction_count ys)
count_split xs ys b = count_join xs (b ∷ ys)

pub numbers_split : (xs ys : List Block) (b c : Block) → c.number ≡ b.number → block_numbers (xs ++ (c ∷ ys)) ≡ block_numbers (xs ++ (b ∷ ys))
numbers_split [] ys b c e = ap (λ n. n ∷ block_numbers ys) e
numbers_split (x ∷ xs) ys b c e = ap (λ r. x.number ∷ r) (numbers_split xs ys b c e)

pub length_split : (xs ys : List Block) (b c : Block) → length (xs ++ (c ∷ ys)) ≡ length (xs ++ (b ∷ ys))
length_split [] ys b c = refl
length_split (x ∷ xs) ys b c = ap suc (length_split xs ys b c)
