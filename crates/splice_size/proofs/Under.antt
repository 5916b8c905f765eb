-- The same under other numbers.
use Rattle.std.proofs.Common.{◌≡◌, ℕ, ◌+◌, ◌-◌, ◌*◌, List, [], ◌∷◌, length, map, refl, ap, ap₂, ◌∙◌, arith}
use Rattle.ir_core.specs.Module.{Instruction, Plain, Branches, SequencePoint, Return, Call, ReturnCall, TryCall, Line, Block}
use Rattle.ir_core.specs.Size.{block_size, line_size, total}
use Rattle.ir_semantics.specs.Renaming.{Renaming, arg_under, block_under, entry_under, instruction_under, line_under, tag_under}
use Rattle.ir_semantics.specs.Splice.{args_of, kind_of}
use Rattle.splice_size.specs.declared.counts.Counts.{Counts}
use Rattle.splice_size.specs.Counts.{bare_size, block_counts, counts_by, line_counts, none, plus, summed}
use Rattle.splice_size.specs.SizeAfter.{after_size, any_calls, body_size, size_after, taking_tags}
use Rattle.splice_size.proofs.Lines.{entries_same, whole}
use Rattle.inline_acceptance.proofs.KeptSizes.{line_same}
use Rattle.inline_acceptance.proofs.KeptLists.{length_map}

-- ---- counts

bare_same : (r : Renaming) (l : Line) → bare_size (line_under r l) ≡ bare_size l
bare_same r l = ap₂ (λ x y. (1 + x) + y) (length_map r.value l.results) (length_map (tag_under r) l.tags)

by_same : (r : Renaming) (l : Line) (i : Instruction) → counts_by (line_under r l) (instruction_under r i) ≡ counts_by l i
by_same r l SequencePoint = ap (λ n. record none { blocks = n; sequence_points = 1 }) (line_same r l)
by_same r l (Return vs) = ap₂ (λ n k. record none { blocks = n; returned = k; returns = 1 }) (bare_same r l) (length_map r.value vs)
by_same r l (Call t args) = ap₂ (λ n k. record none { blocks = n; calls = 1; results = k }) (line_same r l) (length_map r.value l.results)
by_same r l (ReturnCall t args) = ap (λ n. record none { blocks = n; tail_calls = 1 }) (line_same r l)
by_same r l (TryCall t sig args normal table) = ap (λ n. record none { blocks = n; try_calls = 1 }) (line_same r l)
by_same r l (Plain x) = ap (λ n. record none { blocks = n }) (line_same r l)
by_same r l (Branches x) = ap (λ n. record none { blocks = n }) (line_same r l)

lines_same : (r : Renaming) (ls : List Line) → summed line_counts (map (line_under r) ls) ≡ summed line_counts ls
lines_same r [] = refl
lines_same r (l ∷ ls) = ap₂ plus (by_same r l l.inst) (lines_same r ls)

pub blocks_same : (r : Renaming) (bs : List Block) → summed block_counts (map (block_under r) bs) ≡ summed block_counts bs
blocks_same r [] = refl
blocks_same r (b ∷ bs) =
    ap₂ plus (ap₂ (λ n c. plus (record none { blocks = 1 + n }) c) (length_map r.value b.params) (lines_same r b.lines)) (blocks_same r bs)

-- ---- sites

-- what is put, by an instruction and its numbers of tags and of results
abbrev put_by : Instruction → ℕ → ℕ → Counts → ℕ
put_by i tags results c = (1 + length (args_of i)) + body_size (kind_of i) tags results c + after_size (kind_of i) results

put_same : (r : Renaming) (i : Instruction) (tags results : ℕ) (c : Counts) → put_by (instruction_under r i) tags results c ≡ put_by i tags results c
put_same r (Call t args) tags results c = ap (λ n. (1 + n) + body_size (kind_of (Call t args)) tags results c + (1 + results)) (length_map r.value args)
put_same r (ReturnCall t args) tags results c = ap (λ n. (1 + n) + body_size (kind_of (ReturnCall t args)) tags results c + 0) (length_map r.value args)
put_same r (TryCall t sig args normal table) tags results c =
    ap₂ (λ n rest. (1 + n) + rest + 0) (length_map r.value args)
    (ap₂ (λ table_size normal_size. c.blocks + taking_tags c * tags + any_calls c * table_size + (c.calls + c.results) + (c.returns + c.tail_calls) * normal_size)
    (ap₂ (λ x y. x + y) (length_map (entry_under r) table) (entries_same r table)) (length_map (arg_under r) normal.args))
put_same r (Plain x) tags results c = refl
put_same r (Branches x) tags results c = refl
put_same r SequencePoint tags results c = refl
put_same r (Return vs) tags results c = refl

pub site_same : (r : Renaming) (size : ℕ) (l : Line) (c : Counts) (added : ℕ) → size_after size (line_under r l) c added ≡ size_after size l c added
site_same r size l c added =
    ap₂ (λ x y. (size - x) + (y + added)) (line_same r l)
    (put_same r l.inst (length (map (tag_under r) l.tags)) (length (map r.value l.results)) c
    ∙ ap₂ (λ x y. put_by l.inst x y c) (length_map (tag_under r) l.tags) (length_map r.value l.results))

-- ---- the counts are the size of the blocks

lines_whole : (ls : List Line) → total line_size ls ≡ (summed line_counts ls).blocks + (summed line_counts ls).returned
lines_whole [] = omega arith
lines_whole (l ∷ ls) =
    joined (line_size l) (total line_size ls) (line_counts l).blocks (line_counts l).returned (summed line_counts ls).blocks (summed line_counts ls).returned (whole l l.inst refl) (lines_whole ls)
  where
    joined : (x y a b c d : ℕ) → a + b ≡ x → y ≡ c + d → x + y ≡ (a + c) + (b + d)
    joined x y a b c d e f = omega (arith, e, f)

pub blocks_whole : (bs : List Block) → total block_size bs ≡ (summed block_counts bs).blocks + (summed block_counts bs).returned
blocks_whole [] = omega arith
blocks_whole (b ∷ bs) =
    joined (length b.params) (total line_size b.lines) (total block_size bs) (summed line_counts b.lines).blocks (summed line_counts b.lines).returned (summed block_counts bs).blocks (summed block_counts bs).returned
    (lines_whole b.lines) (blocks_whole bs)
  where
    joined : (n x y a b c d : ℕ) → x ≡ a + b → y ≡ c + d → ((1 + n) + x) + y ≡ (((1 + n) + a) + c) + ((0 + b) + d)
    joined n x y a b c d e f = omega (arith, e, f)
