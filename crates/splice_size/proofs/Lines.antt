-- The size of what a line of the callee becomes at a site.
use Rattle.std.proofs.Common.{◌≡◌, ℕ, suc, ◌+◌, ◌*◌, List, [], ◌++◌, length, map, None, refl, ap, ap₂, ◌∙◌, sym, arith, length-append}
use Rattle.std.specs.Prelude.{⊤}
use Rattle.exn_tables.specs.declared.table.Entry.{Entry}
use Rattle.debug_tags.specs.declared.tags.Tag.{Tag}
use Rattle.ir_core.specs.declared.instructions.BlockCall.{BlockCall}
use Rattle.ir_core.specs.Module.{CallTarget, Direct, Indirect, TryTarget, TryDirect, TryIndirect, call_target, Instruction, Plain, Branches, SequencePoint, Return, Call, ReturnCall, TryCall, Line}
use Rattle.ir_core.specs.Size.{argument_count, block_size, entry_count, line_size, operand_count, total}
use Rattle.ir_core.specs.Uses.{called_used, table_targets}
use Rattle.ir_core.proofs.Sizing.{total_join, total_targets}
use Rattle.ir_semantics.specs.Renaming.{Renaming, arg_under, called_under, entry_under, instruction_under, tag_under, try_target_under}
use Rattle.ir_semantics.specs.Splice.{Splicing, Fragment, callee_line, callee_names, caller_names, from, joined_tags, new_results, outer_table, try_target}
use Rattle.splice_size.specs.Counts.{counts_by}
use Rattle.splice_size.specs.SizeAfter.{table_size, taking_tags}
use Rattle.inline_acceptance.proofs.KeptSizes.{line_same, total_map}
use Rattle.inline_acceptance.proofs.KeptLists.{length_map}
use Rattle.ir_semantics.proofs.Ranges.{length_from}

-- what acceptance says of a line: it has no results where it leaves the function, and a return has no tags
abbrev pub Fits : Line → Instruction → Type 0
Fits l (Return vs) = (length l.results ≡ 0) × (l.tags ≡ [])
Fits l (ReturnCall t args) = length l.results ≡ 0
Fits l (TryCall t sig args normal table) = length l.results ≡ 0
Fits l _ = ⊤

-- the lines and the blocks of a fragment
abbrev pub fragment_size : Fragment → ℕ
fragment_size q = total line_size q.lines + total block_size q.more

-- ---- numbers of operands and of entries

bare : Instruction → Line
bare i = record { inst = i; ty = None; results = []; tags = [] }

pub inst_same : (r : Renaming) (i : Instruction) → operand_count (instruction_under r i) + entry_count (instruction_under r i) ≡ operand_count i + entry_count i
unfolding bare
inst_same r i = let e = line_same r (bare i) in omega (arith, e)

pub call_same : (r : Renaming) (t : CallTarget) (args : List ℕ) → length (called_used (called_under r t) ++ map r.value args) ≡ length (called_used t ++ args)
call_same r (Direct k) args = length_map r.value args
call_same r (Indirect s a) args = ap suc (length_map r.value args)

try_used : (t : CallTarget) (sig : ℕ) → called_used (call_target (try_target t) sig) ≡ called_used t
try_used (Direct k) sig = refl
try_used (Indirect s a) sig = refl

pub as_try_same : (r : Renaming) (t : CallTarget) (sig : ℕ) (args : List ℕ) → length (called_used (call_target (try_target (called_under r t)) sig) ++ map r.value args) ≡ length (called_used t ++ args)
as_try_same r t sig args = ap (λ (z : List ℕ). length (z ++ map r.value args)) (try_used (called_under r t) sig) ∙ call_same r t args

pub try_same : (r : Renaming) (t : TryTarget) (sig own : ℕ) (args : List ℕ) → length (called_used (call_target (try_target_under r t) sig) ++ map r.value args) ≡ length (called_used (call_target t own) ++ args)
try_same r (TryDirect k) sig own args = length_map r.value args
try_same r (TryIndirect a) sig own args = ap suc (length_map r.value args)

pub entries_same : (r : Renaming) (es : List (Entry BlockCall)) → total argument_count (table_targets (map (entry_under r) es)) ≡ total argument_count (table_targets es)
entries_same r es =
    total_targets (map (entry_under r) es)
    ∙ (total_map (entry_under r) (λ e. argument_count e.target) (λ e. argument_count e.target) (λ e. length_map (arg_under r) e.target.args) es ∙ sym (total_targets es))

pub entries_join : (es fs : List (Entry BlockCall)) → total argument_count (table_targets (es ++ fs)) ≡ total argument_count (table_targets es) + total argument_count (table_targets fs)
entries_join es fs =
    total_targets (es ++ fs) ∙ (total_join (λ e. argument_count e.target) es fs ∙ ap₂ (λ x y. x + y) (sym (total_targets es)) (sym (total_targets fs)))

-- the size of a line whose instruction is known
pub known_size : (l : Line) (i : Instruction) → l.inst ≡ i → line_size l ≡ (1 + length l.results) + (operand_count i + entry_count i) + length l.tags
known_size l i e = ap (λ z. (1 + length l.results) + (operand_count z + entry_count z) + length l.tags) e

-- the part of its size that stands beside a return's operands, and these
pub whole : (l : Line) (i : Instruction) → l.inst ≡ i → (counts_by l i).blocks + (counts_by l i).returned ≡ line_size l
whole l (Return vs) e = let a = known_size l (Return vs) e in omega (arith, a)
whole l (Plain x) e = omega arith
whole l (Branches x) e = omega arith
whole l SequencePoint e = omega arith
whole l (Call t args) e = omega arith
whole l (ReturnCall t args) e = omega arith
whole l (TryCall t sig args normal table) e = omega arith

module _ (p : Splicing) where
  -- ---- tags

  outer_length : length (map (tag_under (caller_names p)) p.site.tags) ≡ length p.site.tags
  outer_length = length_map (tag_under (caller_names p)) p.site.tags

  both_length : (ts : List Tag) → length (map (tag_under (caller_names p)) p.site.tags ++ map (tag_under (callee_names p)) ts) ≡ length p.site.tags + length ts
  both_length ts =
      length-append (map (tag_under (caller_names p)) p.site.tags) (map (tag_under (callee_names p)) ts)
      ∙ ap₂ (λ x y. x + y) outer_length (length_map (tag_under (callee_names p)) ts)

  tags_length : (l : Line) (i : Instruction) (ts : List Tag) → length (joined_tags p i ts) ≡ taking_tags (counts_by l i) * length p.site.tags + length ts
  tags_length l (Plain x) ts = let e = length_map (tag_under (callee_names p)) ts in omega (arith, e)
  tags_length l (Branches x) ts = let e = length_map (tag_under (callee_names p)) ts in omega (arith, e)
  tags_length l (Return x) ts = let e = length_map (tag_under (callee_names p)) ts in omega (arith, e)
  tags_length l SequencePoint ts = let e = both_length ts in omega (arith, e)
  tags_length l (Call t args) ts = let e = both_length ts in omega (arith, e)
  tags_length l (ReturnCall t args) ts = let e = both_length ts in omega (arith, e)
  tags_length l (TryCall t sig args normal table) ts = let e = both_length ts in omega (arith, e)

  -- of an instruction that is known
  pub known_tags : (l : Line) (i : Instruction) → l.inst ≡ i → length (joined_tags p l.inst l.tags) ≡ taking_tags (counts_by l i) * length p.site.tags + length l.tags
  known_tags l i e = ap (λ z. length (joined_tags p z l.tags)) e ∙ tags_length l i l.tags

  -- a line that stays what it is
  pub stays : (l : Line) (i : Instruction) → l.inst ≡ i → line_size (callee_line p l) ≡ line_size l + taking_tags (counts_by l i) * length p.site.tags
  stays l i e =
      let a = length_map p.naming.callee_value l.results in
      let b = inst_same (callee_names p) l.inst in
      let c = known_tags l i e in omega (arith, a, b, c)

  pub new_length : (c : ℕ) → length (new_results p c) ≡ length p.site.results
  new_length c = length_map (p.naming.new_value c) (from 0 (length p.site.results)) ∙ length_from 0 (length p.site.results)

  pub outer_size : (table : List (Entry BlockCall)) → length (outer_table p table) + total argument_count (table_targets (outer_table p table)) ≡ table_size table
  outer_size table = ap₂ (λ x y. x + y) (length_map (entry_under (caller_names p)) table) (entries_same (caller_names p) table)
