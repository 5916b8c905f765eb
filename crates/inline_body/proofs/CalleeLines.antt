-- A callee's lines under the numbers of a splice are the code's copies of them.
use Rattle.std.proofs.Common.{◌≡◌, ℕ, ◌+◌, List, [], ◌∷◌, ◌++◌, map, length, get_or, refl, ap, ap₂, ◌∙◌}
use Rattle.std.specs.Prelude.{if◌then◌else◌}
use Rattle.debug_tags.specs.declared.tags.Tag.{Tag}
use Rattle.debug_tags.specs.declared.tags.Tag.TheVariants as tag
use Rattle.ir_core.specs.Module.{Instruction, CallTarget, Plain, Branches, SequencePoint, Return, Call, ReturnCall}
use Rattle.ir_core.specs.Module.{TryCall, Line}
use Rattle.ir_semantics.specs.Import.{sig_after, callee_after}
use Rattle.ir_semantics.specs.Renaming.{tag_under, called_under, instruction_under}
use Rattle.ir_semantics.specs.Splice.{Splicing, caller_names, callee_names, tags_before, joined_tags, callee_line}
use Rattle.inline_body.specs.declared.names.Names.{Names}
use Rattle.inline_body.specs.Named.{names_of}
use Rattle.inline_body.specs.Inlined.{takes_tags, copied_tags, copied_line}
use Rattle.inline_body.proofs.SameNames.{values_same, tags_same, called_same, instruction_same}

outer_kept : (p : Splicing) (ts : List Tag) → map (tag_under (caller_names p)) ts ≡ ts
outer_kept p [] = refl
outer_kept p (tag.User n ∷ ts) = ap (λ (xs : List Tag). tag.User n ∷ xs) (outer_kept p ts)
outer_kept p (tag.Slot k ∷ ts) = ap (λ (xs : List Tag). tag.Slot k ∷ xs) (outer_kept p ts)

tags_are : (i : Instruction) (outer inner : List Tag)
    → tags_before i outer inner ≡ (if takes_tags i then outer ++ inner else inner)
tags_are (Plain x) outer inner = refl
tags_are (Branches x) outer inner = refl
tags_are SequencePoint outer inner = refl
tags_are (Return x) outer inner = refl
tags_are (Call x y) outer inner = refl
tags_are (ReturnCall x y) outer inner = refl
tags_are (TryCall x y z u v) outer inner = refl

-- the names are the numbers that the splice gives what is the callee's
pub record IsNumbering (p : Splicing) (n : Names) : Type 0 where
  pub value : (v : ℕ) → p.naming.callee_value v ≡ n.values + v
  pub block : (b : ℕ) → p.naming.callee_block b ≡ get_or n.blocks b 0
  pub slots : length p.caller.slots ≡ n.slots
  pub sig : (k : ℕ) → sig_after p.caller p.callee k ≡ get_or n.sigs k n.sig_count
  pub callee : (k : ℕ) → callee_after p.caller p.callee k ≡ get_or n.callees k n.callee_count

module _ (p : Splicing) (n : Names) (is : IsNumbering p n) where
  slot_is : (k : ℕ) → (callee_names p).slot k ≡ (names_of n).slot k
  slot_is k = ap (λ (z : ℕ). z + k) is.slots

  pub values_are : (vs : List ℕ) → map p.naming.callee_value vs ≡ map (names_of n).value vs
  values_are vs = values_same (callee_names p) (names_of n) is.value is.block slot_is is.sig is.callee vs

  pub called_are : (t : CallTarget) → called_under (callee_names p) t ≡ called_under (names_of n) t
  called_are t = called_same (callee_names p) (names_of n) is.value is.block slot_is is.sig is.callee t

  pub instructions_are : (i : Instruction) → instruction_under (callee_names p) i ≡ instruction_under (names_of n) i
  instructions_are i = instruction_same (callee_names p) (names_of n) is.value is.block slot_is is.sig is.callee i

  inner_are : (ts : List Tag) → map (tag_under (callee_names p)) ts ≡ map (tag_under (names_of n)) ts
  inner_are ts = tags_same (callee_names p) (names_of n) is.value is.block slot_is is.sig is.callee ts

  pub joined_are : (i : Instruction) (ts : List Tag) → joined_tags p i ts ≡ copied_tags n p.site.tags i ts
  joined_are i ts =
      ap₂ (λ (x y : List Tag). tags_before i x y) (outer_kept p p.site.tags) (inner_are ts)
      ∙ tags_are i p.site.tags (map (tag_under (names_of n)) ts)

  pub line_is : (l : Line) → callee_line p l ≡ copied_line n p.site.tags l
  line_is l =
      ap (λ (i : Instruction). record { inst = i; ty = l.ty; results = map p.naming.callee_value l.results; tags = joined_tags p l.inst l.tags })
      (instructions_are l.inst)
      ∙ ap₂ (λ (x : List ℕ) (y : List Tag). record { inst = instruction_under (names_of n) l.inst; ty = l.ty; results = x; tags = y })
      (values_are l.results) (joined_are l.inst l.tags)
