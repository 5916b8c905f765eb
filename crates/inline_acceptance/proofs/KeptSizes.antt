-- A function under other numbers of values and blocks has the same size, and is writable where it was.
use Rattle.std.proofs.Common.{◌≡◌, ℕ, ◌≤◌, ◌+◌, List, [], ◌∷◌, length, map, refl, sym, ap, ap₂, ◌∙◌, subst}
use Rattle.exn_tables.specs.declared.table.Entry.{Entry}
use Rattle.ir_core.specs.declared.declarations.Callee.{Callee}
use Rattle.ir_core.specs.declared.instructions.BlockCall.{BlockCall}
use Rattle.ir_core.specs.Module.{Function, Module, Jump, Brif, BrTable, Branches, Call, Instruction, Line, Block, Plain, Return, ReturnCall, SequencePoint, TryCall}
use Rattle.ir_core.specs.Lookup.{type_of, definitions, block_numbers}
use Rattle.ir_core.specs.Lists.{Each}
use Rattle.ir_core.specs.Uses.{table_targets, targets, operands}
use Rattle.ir_semantics.specs.Canon.{canonical_names, canonical, canonical_module}
use Rattle.ir_semantics.specs.Renaming.{Renaming, arg_under, block_under, entry_under, instruction_under, line_under, tag_under, target_under}
use Rattle.ir_core.specs.Size.{argument_count, block_size, entry_count, line_size, operand_count, sig_size, size_of, total}
use Rattle.ir_core.specs.WellFormed.{WellFormed}
use Rattle.ir_core.proofs.Members.{each_by, each_in, in_map, map_in}
use Rattle.ir_text.specs.Writable.{LineWritable, FunctionWritable, Writable, NameWritable, SlotWritable}
use Rattle.inline_acceptance.specs.Laws.{NumberingWritable}
use Rattle.inline_outcomes.proofs.Local.{Injective}
use Rattle.inline_outcomes.proofs.Frames.{Embeds}
use Rattle.inline_outcomes.proofs.Related.{RestOf}
use Rattle.inline_outcomes.proofs.Numbering.{Renumbers, renumber_embeds, place_injective, back_names, back_is_injective, back_rest, canonical_back}
use Rattle.inline_acceptance.proofs.KeptLists.{each_map, length_map}
use Rattle.inline_acceptance.proofs.KeptForms.{form_under, tags_written}
use Rattle.inline_acceptance.proofs.KeptNumbers.{canonical_typed}
use Rattle.inline_acceptance.proofs.KeptCanon.{back_typed}
use Rattle.inline_acceptance.proofs.KeptLists.{targets_under}
use Rattle.inline_acceptance.proofs.KeptRules.{operands_under}

-- ---- sizes

pub total_map : {A B : Type 0} (h : A → B) (f : B → ℕ) (g : A → ℕ) → ((a : A) → f (h a) ≡ g a) → (xs : List A) → total f (map h xs) ≡ total g xs
total_map h f g same [] = refl
total_map h f g same (x ∷ xs) = ap₂ (λ a b. a + b) (same x) (total_map h f g same xs)

entries_same : (r : Renaming) (i : Instruction) → entry_count (instruction_under r i) ≡ entry_count i
entries_same r (Branches (Jump t)) = refl
entries_same r (Branches (Brif v t u)) = refl
entries_same r (Branches (BrTable v d ts)) = length_map (target_under r) ts
entries_same r (TryCall t s args normal table) = length_map (entry_under r) table
entries_same r (Plain p) = refl
entries_same r SequencePoint = refl
entries_same r (Return a) = refl
entries_same r (Call a b) = refl
entries_same r (ReturnCall a b) = refl

pub operands_same : (r : Renaming) (i : Instruction) → operand_count (instruction_under r i) ≡ operand_count i
operands_same r i =
    let a = ap length (operands_under r i) ∙ length_map r.value (operands i) in
    let b = ap (total argument_count) (targets_under r i) ∙ total_map (target_under r) argument_count argument_count (λ t. length_map (arg_under r) t.args) (targets i) in ap₂ (λ x y. x + y) a b

pub line_same : (r : Renaming) (l : Line) → line_size (line_under r l) ≡ line_size l
line_same r l =
    let a = length_map r.value l.results in
    let b = operands_same r l.inst in
    let c = entries_same r l.inst in
    let d = length_map (tag_under r) l.tags in ap₂ (λ x y. x + y) (ap₂ (λ x y. x + y) (ap (λ x. 1 + x) a) (ap₂ (λ x y. x + y) b c)) d

pub block_same : (r : Renaming) (b : Block) → block_size (block_under r b) ≡ block_size b
block_same r b = ap₂ (λ x y. x + y) (ap (λ x. 1 + x) (length_map r.value b.params)) (total_map (line_under r) line_size line_size (line_same r) b.lines)

module _ (F G : Function) (r : Renaming) (value : Injective r.value) (block : Injective r.block) (rest : (k : ℕ) → (r.slot k ≡ k) × (r.sig k ≡ k) × (r.callee k ≡ k)) (same : Renumbers r F G) (name : G.name ≡ F.name) (typed : (v : ℕ) → type_of G (r.value v) ≡ type_of F v) where
  size_same : size_of G ≡ size_of F
  size_same =
      let a = ap (total block_size) same.blocks ∙ total_map (block_under r) block_size block_size (block_same r) F.blocks in
      let b = ap length same.slots in
      let c = ap length same.callees in
      let d = ap (total sig_size) same.sigs in ap₂ (λ x y. x + y) (ap₂ (λ x y. x + y) (ap₂ (λ x y. x + y) b c) d) a

  emb : Embeds F G r (RestOf r)
  emb = renumber_embeds r F G value block (λ k. (rest k).0) (λ k. (rest k).1) (λ k. (rest k).2) same

  line_written : (l : Line) → LineWritable F l → LineWritable G (line_under r l)
  line_written l h = (form_under F G r (RestOf r) emb typed l (line_under r l) refl refl l.inst h.0, tags_written r l.tags h.1)

  pub renumbered_writable : FunctionWritable F → FunctionWritable G
  renumbered_writable w =
      record {
        name = subst NameWritable (sym name) w.name;
        slots = subst (Each SlotWritable) (sym same.slots) w.slots;
        callees = subst (Each (λ (c : Callee). NameWritable c.name)) (sym same.callees) w.callees;
        lines = subst (Each (λ (b : Block). Each (LineWritable G) b.lines)) (sym same.blocks) (each_map (λ (b : Block). Each (LineWritable F) b.lines) (λ (b : Block). Each (LineWritable G) b.lines) (block_under r) (λ b h. each_map (LineWritable F) (LineWritable G) (line_under r) line_written b.lines h) F.blocks w.lines);
        size = subst (λ n. n ≤ 262144) (sym size_same) w.size;
      }

to_canonical : (m : Module) → Each WellFormed m → Writable m → Writable (canonical_module m)
to_canonical m whole w =
    record {
      functions = each_by FunctionWritable (canonical_module m) (λ h p.
          let u = map_in canonical h m p in
          let f = u.0 in
          subst FunctionWritable (sym u.2) (renumbered_writable f (canonical f) (canonical_names f) (place_injective (definitions f.blocks)) (place_injective (block_numbers f.blocks)) (λ k. (refl, refl, refl)) (record { sig = refl; slots = refl; sigs = refl; callees = refl; blocks = refl }) refl (canonical_typed f (each_in WellFormed m whole f u.1)) (each_in FunctionWritable m w.functions f u.1)));
      count = subst (λ n. n ≤ 65536) (sym (length_map canonical m)) w.count;
    }

from_canonical : (m : Module) → Each WellFormed m → Writable (canonical_module m) → Writable m
from_canonical m whole w =
    record {
      functions = each_by FunctionWritable m (λ f p.
          let wf = each_in WellFormed m whole f p in
          let inj = back_is_injective f wf in
          renumbered_writable (canonical f) f (back_names f) inj.0 inj.1 (back_rest f) (record { sig = refl; slots = refl; sigs = refl; callees = refl; blocks = sym (canonical_back f wf) }) refl (back_typed f wf) (each_in FunctionWritable (canonical_module m) w.functions (canonical f) (in_map canonical f m p)));
      count = subst (λ n. n ≤ 65536) (length_map canonical m) w.count;
    }

pub numbering_writable : NumberingWritable
numbering_writable m r (whole_m, whole_r, same) w = from_canonical r whole_r (subst Writable same (to_canonical m whole_m w))
