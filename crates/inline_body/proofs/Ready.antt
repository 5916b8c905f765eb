-- From what the calls of `prepare` answer to a piece that is ready, and that of the splice.
use Rattle.std.proofs.Common.{◌≡◌, ℕ, zero, suc, ◌+◌, ◌-◌, ◌*◌, ◌<◌, ◌≤◌, ◌^◌, ◌⊎◌, inl, inr, List, [], ◌∷◌, ◌++◌, map, length, take, drop, get_or, Option, Some, None, refl, sym, ap, ap₂, ◌∙◌, subst, arith, length-append, eq-eqb, ne_eqb}
use Rattle.std.specs.Prelude.{if◌then◌else◌, slice_get, nat_eq, Bool, true, false}
use Rattle.std.specs.List.{enumerate_from}
use Rattle.std.proofs.lemmas.List.{length-map}
use Rattle.std.proofs.lemmas.List.FromFn.{length-enumerate_from}
use Rattle.debug_tags.specs.declared.tags.Tag.{Tag}
use Rattle.ir_core.specs.declared.places.Point.{Point}
use Rattle.ir_core.specs.declared.signatures.Ty.{Ty}
use Rattle.ir_core.specs.declared.instructions.Arg.TheVariants as arg
use Rattle.ir_core.specs.Module.{Instruction, Plain, Branches, SequencePoint, Return, Call, ReturnCall, TryCall, Line, Block, Function}
use Rattle.ir_core.specs.Lists.{In, Different, Each, Below}
use Rattle.ir_core.specs.Lookup.{block_numbers, definitions, line_definitions, find_block, type_of}
use Rattle.ir_core.specs.Uses.{values_used, slots_shown, called_used}
use Rattle.ir_semantics.specs.Renaming.{typed_under}
use Rattle.ir_core.specs.Sound.{Counts, counts_of, IsSound, LineInRange, BlockInRange, instruction_count}
use Rattle.ir_core.specs.Edits.{IsPoint, lines_of}
use Rattle.ir_core.specs.Viewed.{line_of}
use Rattle.ir_core.proofs.Members.{below_in, below_more, below_right, below_left}
use Rattle.ir_core.proofs.Counting.{definitions_below, all_in}
use Rattle.ir_semantics.specs.Import.{sig_after, callee_after}
use Rattle.ir_semantics.specs.Splice.{Naming, Splicing, Within, kind_of, args_of, from, first_number, callee_names, body, jump_in, new_types, spliced, splice_with}
use Rattle.ir_semantics.proofs.Arguments.{value_args_used}
use Rattle.body_import.specs.declared.declarations.Import.{Import}
use Rattle.body_import.specs.Imports.{IsImportOf}
use Rattle.body_import.proofs.FirstPlaces.{each_at}
use Rattle.inline_body.specs.declared.names.Names.{Names}
use Rattle.inline_body.specs.declared.prepared.PreparedBody.{PreparedBody}
use Rattle.inline_body.specs.Named.{names_of}
use Rattle.inline_body.specs.Dense.{after_number, numbers_along}
use Rattle.inline_body.specs.Inlined.{jump_line, results_from, inlined_block, blocks_from, BlockReached}
use Rattle.inline_body.specs.WithBody.{empty_from, all_of, lines_in, numbers_of, counts_with}
use Rattle.inline_body.specs.Within.{Numbers}
use Rattle.inline_body.specs.Prepared.{IsBodyOf, IsReady, appended}
use Rattle.inline_body.specs.Results.{tail_calls, tail_calls_in, starts_along, repeated, OneTail}
use Rattle.inline_body.specs.PlainCall.{IsPlainCall, CanSplice, Keeps, splicing_at, IsPrepared, IsSplice}
use Rattle.inline_body.proofs.Along.{fits}
use Rattle.inline_body.proofs.WithinBody.{body_is}
use Rattle.inline_body.proofs.ResultTypes.{repeated_length, enumerate_join, types_moved, blocks_typed}
use Rattle.inline_body.proofs.BodyRanges.{NamesInRange, NamesReach, blocks_in_range, blocks_reached, jump_in_range}
use Rattle.inline_body.proofs.BodyDefinitions.{map_in, blocks_members, blocks_differ, blocks_count, params_there, lines_there, params_differ, own_lines_differ, lines_apart, lines_ranged, params_ranged, lines_counted, numbers_listed, blocks_listed}

-- ---- lists

pub below_at : (xs : List ℕ) (k d m : ℕ) → Below m xs → k < length xs → get_or xs k d < m
below_at [] k d m b h = absurd (omega (arith, h))
below_at (x ∷ xs) zero d m b h = b.0
below_at (x ∷ xs) (suc k) d m b h = below_at xs k d m b.1 (omega (arith, h))

at_key : (h : ℕ → ℕ) (m : ℕ) (ks : List ℕ) → Below m (map h ks) → (k : ℕ) → In k ks → h k < m
at_key h m [] b k i = elim i [ ]
at_key h m (j ∷ ks) b k (inl e) = subst (λ (z : ℕ). h z < m) (sym e) b.0
at_key h m (j ∷ ks) b k (inr i) = at_key h m ks b.1 k i

pub same_list : (vs : List ℕ) → map (λ v. v) vs ≡ vs
same_list [] = refl
same_list (v ∷ vs) = ap (λ z. v ∷ z) (same_list vs)

-- the table has numbers below m for the callee's blocks
pub named_below : (n : Names) (g : Function) (sg : IsSound g) (m : ℕ)
    → Below m (map (λ k. get_or n.blocks k 0) (block_numbers g.blocks)) → (b : ℕ) → b < length g.blocks
    → get_or n.blocks b 0 < m
named_below n g sg m h b l =
    at_key (λ k. get_or n.blocks k 0) m (block_numbers g.blocks) h b
    (all_in (length g.blocks) (block_numbers g.blocks) sg.blocks_differ sg.block_range
    (length-map g.blocks (λ (b : Block). b.number)) b l)

-- there are numbers for all that is the callee's
pub names_reach : (f g : Function) (i : Import) (imp : IsImportOf f g i) (n : Names) → n.values ≡ length f.types
    → n.slots ≡ length f.slots → length n.blocks ≡ length g.blocks → n.sigs ≡ i.sigs.table
    → n.callees ≡ i.callees.table → length f.types + length g.types < 2 ^ 32
    → length f.slots + length g.slots < 2 ^ 32 → NamesReach n (counts_of g)
names_reach f g i imp n values slots blocks sigs callees few_values few_slots =
    record {
      values = omega (arith, few_values, values);
      slots = omega (arith, few_slots, slots);
      blocks = blocks;
      callees = ap length callees ∙ imp.callee_table;
      sigs = ap length sigs ∙ imp.sig_table;
    }

-- the callee's values under their numbers are not the caller's
pub moved_undefined : (f g : Function) (sf : IsSound f) (n : Names) → n.values ≡ length f.types → (v : ℕ)
    → In v (map (λ u. n.values + u) (definitions g.blocks)) → In v (definitions f.blocks) → ⊥
moved_undefined f g sf n values v j k =
    let low = below_in (length f.types) (definitions f.blocks) v (definitions_below (counts_of f) f.blocks sf.blocks) k in
    let old = map_in (λ u. n.values + u) v (definitions g.blocks) j in
    let e = old.2 in
    omega (arith, low, e, values)

along_above : (first m k : ℕ) (ks : List ℕ) → first < m → m + length ks ≤ k → Below k (numbers_along first m ks)
along_above first m k [] h l = tt
along_above first m k (j ∷ ks) h l =
    let step : after_number first m ≡ m + 1 = ap (λ c. if c then m + 2 else m + 1) (ne_eqb m first (λ q. omega (arith, h, q))) in
    (omega (arith, l), subst (λ (z : ℕ). Below k (numbers_along first z ks)) (sym step) (along_above first (m + 1) k ks (omega (arith, h)) (omega (arith, l))))

along_below : (first k : ℕ) (ks : List ℕ) → first + length ks + 1 ≤ k → Below k (numbers_along first first ks)
along_below first k [] l = tt
along_below first k (j ∷ ks) l =
    let step : after_number first first ≡ first + 2 = ap (λ c. if c then first + 2 else first + 1) (eq-eqb first first refl) in
    (omega (arith, l), subst (λ (z : ℕ). Below k (numbers_along first z ks)) (sym step) (along_above first (first + 2) k ks (omega arith) (omega (arith, l))))

along_fits : (first : ℕ) (ks : List ℕ) (pss : List (List ℕ)) → length ks ≡ suc (length pss) → numbers_along first first ks ≡ first ∷ block_numbers (empty_from (first + 2) pss)
along_fits first [] pss e = absurd (omega (arith, e))
along_fits first (k ∷ ks) pss e = fits first k ks pss (omega (arith, e))

inlined_numbers : (n : Names) (outer : List Tag) (after : ℕ) (starts : List ℕ) (count : ℕ) (bs : List Block) → block_numbers (map (inlined_block n outer after starts count) bs) ≡ map (λ b. get_or n.blocks b 0) (block_numbers bs)
inlined_numbers n outer after starts count [] = refl
inlined_numbers n outer after starts count (b ∷ bs) = ap (λ z. get_or n.blocks b.number 0 ∷ z) (inlined_numbers n outer after starts count bs)

pub numbers_below : (bs : List Block) (m : ℕ) → Below m (block_numbers bs) → Each (λ (b : Block). b.number < m) bs
numbers_below [] m h = tt
numbers_below (b ∷ bs) m h = (h.0, numbers_below bs m h.1)

from_below : (s k n m : ℕ) → s + (k + n) ≤ m → Below m (map (λ i. s + i) (from k n))
from_below s k zero m h = tt
from_below s k (suc n) m h = (omega (arith, h), from_below s (suc k) n m (omega (arith, h)))

-- where new results begin and end
starts_end : (starts : List ℕ) (m count : ℕ) (bs : List Block) (M : ℕ) → map (λ b. get_or starts b 0) (block_numbers bs) ≡ starts_along m count bs → OneTail bs → m + count * tail_calls_in bs ≤ M → Each (λ (b : Block). (get_or starts b.number 0 + count ≤ M + count) × (0 < tail_calls b.lines → get_or starts b.number 0 + count ≤ M)) bs
starts_end starts m count [] M e o h = tt
starts_end starts m count (b ∷ bs) M e o h =
    let first : get_or starts b.number 0 ≡ m = cc in
    let rest : map (λ k. get_or starts k 0) (block_numbers bs) ≡ starts_along (m + count * tail_calls b.lines) count bs = cc in (
      (omega (arith, first, h), λ t. let one = o.0 in let q : tail_calls b.lines ≡ 1 = omega (arith, one, t) in let c : count * tail_calls b.lines ≡ count * 1 = ap (λ (z : ℕ). count * z) q in omega (arith, first, h, c)),
      starts_end starts (m + count * tail_calls b.lines) count bs M rest o.1 (omega (arith, h)),
    )

starts_fit : (starts : List ℕ) (count M : ℕ) (bs : List Block) → M + count ≤ 2 ^ 32 → Each (λ (b : Block). (get_or starts b.number 0 + count ≤ M + count) × (0 < tail_calls b.lines → get_or starts b.number 0 + count ≤ M)) bs → Each (λ (b : Block). get_or starts b.number 0 + count ≤ 2 ^ 32) bs
starts_fit starts count M [] l h = tt
starts_fit starts count M (b ∷ bs) l h = (let a = (h.0).0 in omega (arith, a, l), starts_fit starts count M bs l h.1)

starts_range : (starts : List ℕ) (count M : ℕ) (bs : List Block) → Each (λ (b : Block). (get_or starts b.number 0 + count ≤ M + count) × (0 < tail_calls b.lines → get_or starts b.number 0 + count ≤ M)) bs → Each (λ (b : Block). 0 < tail_calls b.lines → Below M (results_from starts count b.number)) bs
starts_range starts count M [] h = tt
starts_range starts count M (b ∷ bs) h = (λ t. from_below (get_or starts b.number 0) 0 count M (let a = (h.0).1 t in omega (arith, a)), starts_range starts count M bs h.1)

-- the line at a place is in range
pub line_at : (N : Counts) (a i : ℕ) (l : Line) (bs : List Block) → Each (BlockInRange N) bs → slice_get (lines_of a bs) i ≡ Some l → LineInRange N l
line_at N a i l [] h e = cc
line_at N a i l (b ∷ bs) h e = go (nat_eq b.number a) e (λ q. line_at N a i l bs h.1 q)
  where
    each_get : (ls : List Line) (k : ℕ) → Each (LineInRange N) ls → slice_get ls k ≡ Some l → LineInRange N l
    each_get [] k h e = cc
    each_get (x ∷ ls) zero h e = let q : x ≡ l = cc in subst (LineInRange N) q h.0
    each_get (x ∷ ls) (suc k) h e = each_get ls k h.1 e

    go : (c : Bool) → slice_get (if c then b.lines else lines_of a bs) i ≡ Some l → (slice_get (lines_of a bs) i ≡ Some l → LineInRange N l) → LineInRange N l
    go true e ih = each_get b.lines i (h.0).lines e
    go false e ih = ih e

pub index_small : (a : ℕ) (bs : List Block) → length (lines_of a bs) ≤ instruction_count bs
index_small a [] = omega arith
index_small a (b ∷ bs) = go (nat_eq b.number a) (index_small a bs)
  where
    go : (c : Bool) → length (lines_of a bs) ≤ instruction_count bs → length (if c then b.lines else lines_of a bs) ≤ length b.lines + instruction_count bs
    go true h = omega arith
    go false h = omega (arith, h)

call_args : (i : Instruction) → IsPlainCall i → (n : ℕ) → Below n (values_used i) → Below n (args_of i)
call_args (Call t args) h n b = below_right n (called_used t) args (below_left n (called_used t ++ args) [] b)
call_args (Plain p) h n b = absurd h
call_args (Branches c) h n b = absurd h
call_args SequencePoint h n b = absurd h
call_args (Return vs) h n b = absurd h
call_args (ReturnCall t args) h n b = absurd h
call_args (TryCall t sig args normal table) h n b = absurd h

pub is_within : (i : Instruction) → IsPlainCall i → kind_of i ≡ Within
is_within (Call t args) h = refl
is_within (Plain p) h = absurd h
is_within (Branches c) h = absurd h
is_within SequencePoint h = absurd h
is_within (Return vs) h = absurd h
is_within (ReturnCall t args) h = absurd h
is_within (TryCall t sig args normal table) h = absurd h

-- ---- what `prepare` makes

pub record IsMade (f g : Function) (l : Line) (i : Import) (n : Names) (starts : List ℕ) (ts : List Ty) (q : PreparedBody) : Type 0 where
  pub values : n.values ≡ length f.types
  pub slots : n.slots ≡ length f.slots
  pub blocks : length n.blocks ≡ length g.blocks
  pub numbers : map (λ b. get_or n.blocks b 0) (block_numbers g.blocks) ≡ numbers_along (length f.blocks) (length f.blocks) (block_numbers g.blocks)
  pub sigs : n.sigs ≡ i.sigs.table
  pub sig_count : n.sig_count ≡ length f.sigs + length i.sigs.added
  pub callees : n.callees ≡ i.callees.table
  pub callee_count : n.callee_count ≡ length f.callees + length i.callees.added
  pub starts_length : length starts ≡ length g.blocks
  pub starts_are : map (λ b. get_or starts b 0) (block_numbers g.blocks) ≡ starts_along (length f.types + length g.types) (length l.results) g.blocks
  pub typed : map Some ts ≡ map (type_of f) l.results
  pub piece_slots : q.slots ≡ g.slots
  pub piece_sigs : q.sigs ≡ i.sigs.added
  pub piece_callees : q.callees ≡ i.callees.added
  pub piece_types : q.types ≡ map (λ t. t.1) g.types ++ repeated (tail_calls_in g.blocks) ts
  pub jump : line_of q.jump ≡ jump_line (length f.blocks) (args_of l.inst)
  pub results : q.results ≡ l.results
  pub body : blocks_from (q.first ∷ q.block_params) q.block_lines ≡ map (inlined_block n l.tags (length f.blocks + 1) starts (length l.results)) g.blocks
  pub as_many : length (q.first ∷ q.block_params) ≡ length q.block_lines

module _ (f g : Function) (at : Point) (sf : IsSound f) (sg : IsSound g) (can : CanSplice f g at) where
  site_line : LineInRange (counts_of f) can.line
  site_line = line_at (counts_of f) at.block at.index can.line f.blocks sf.blocks can.found

  pub results_below : Below (length f.types) can.line.results
  results_below = site_line.results

  -- what `inline_blocks` asks
  module _ (i : Import) (imp : IsImportOf f g i) (n : Names) (starts : List ℕ) (values : n.values ≡ length f.types) (slots : n.slots ≡ length f.slots) (blocks : length n.blocks ≡ length g.blocks) (sigs : n.sigs ≡ i.sigs.table) (callees : n.callees ≡ i.callees.table) (long : length starts ≡ length g.blocks) (are : map (λ b. get_or starts b 0) (block_numbers g.blocks) ≡ starts_along (length f.types + length g.types) (length can.line.results) g.blocks) where
    ends : Each (λ (b : Block). (get_or starts b.number 0 + length can.line.results ≤ (length f.types + length g.types + length can.line.results * tail_calls_in g.blocks) + length can.line.results) × (0 < tail_calls b.lines → get_or starts b.number 0 + length can.line.results ≤ length f.types + length g.types + length can.line.results * tail_calls_in g.blocks)) g.blocks
    ends = starts_end starts (length f.types + length g.types) (length can.line.results) g.blocks (length f.types + length g.types + length can.line.results * tail_calls_in g.blocks) are can.one_tail (omega arith)

    pub reached : Each (BlockReached n starts (length can.line.results)) g.blocks
    reached =
        let fv = can.few_values in
        let fs = can.few_slots in
        let reach = names_reach f g i imp n values slots blocks sigs callees (omega (arith, fv)) (omega (arith, fs)) in
        blocks_reached n (counts_of g) reach starts (length can.line.results) long g.blocks sg.blocks (numbers_below g.blocks (length g.blocks) sg.block_range)
        (starts_fit starts (length can.line.results) (length f.types + length g.types + length can.line.results * tail_calls_in g.blocks) g.blocks (omega (arith, fv)) ends)

  module _ (i : Import) (imp : IsImportOf f g i) (n : Names) (starts : List ℕ) (ts : List Ty) (q : PreparedBody) (made : IsMade f g can.line i n starts ts q) where
    abbrev count : ℕ
    count = length can.line.results

    abbrev top : ℕ
    top = length f.types + length g.types + count * tail_calls_in g.blocks

    abbrev body_blocks : List Block
    body_blocks = map (inlined_block n can.line.tags (length f.blocks + 1) starts count) g.blocks

    typed_length : length ts ≡ count
    typed_length = sym (length-map ts Some) ∙ (ap length made.typed ∙ length-map can.line.results (type_of f))

    types_length : length f.types + length q.types ≡ top
    types_length =
        let a = ap length made.piece_types in
        let b = length-append (map (λ (t : ℕ × Ty). t.1) g.types) (repeated (tail_calls_in g.blocks) ts) in
        let c = length-map g.types (λ (t : ℕ × Ty). t.1) in
        let d = repeated_length (tail_calls_in g.blocks) ts in
        let e : length ts * tail_calls_in g.blocks ≡ count * tail_calls_in g.blocks = ap (λ (z : ℕ). z * tail_calls_in g.blocks) typed_length in
        omega (arith, a, b, c, d, e)

    all_types : length (appended f q).types ≡ top
    all_types = length-append f.types (enumerate_from (length f.types) q.types) ∙ (ap (λ (z : ℕ). length f.types + z) (length-enumerate_from (length f.types) q.types) ∙ types_length)

    heads : length q.block_params + 1 ≡ length g.blocks
    heads = let a = blocks_listed (q.first ∷ q.block_params) q.block_lines made.as_many in let b = ap length made.body in let c = length-map g.blocks (inlined_block n can.line.tags (length f.blocks + 1) starts count) in omega (arith, a, b, c)

    abbrev N : Counts
    N = counts_with (appended f q) (length q.block_params + 2)

    in_range : NamesInRange n (counts_of g) N
    in_range =
        record {
          values = λ v h. let a = all_types in let e = made.values in omega (arith, a, e, h);
          blocks = named_below n g sg N.blocks (subst (Below N.blocks) (sym made.numbers) (along_below (length f.blocks) N.blocks (block_numbers g.blocks) (let k = length-map g.blocks (λ (b : Block). b.number) in let e = heads in omega (arith, k, e))));
          slots = λ k h. let a = length-append f.slots q.slots in let b = ap length made.piece_slots in let e = made.slots in omega (arith, a, b, e, h);
          sigs = λ k h. let a = length-append f.sigs q.sigs in let b = ap length made.piece_sigs in let r = below_at i.sigs.table k n.sig_count (length f.sigs + length i.sigs.added) imp.sigs_below (let s = imp.sig_table in omega (arith, s, h)) in let e = ap (λ (z : List ℕ). get_or z k n.sig_count) made.sigs in omega (arith, a, b, r, e);
          callees = λ k h. let a = length-append f.callees q.callees in let b = ap length made.piece_callees in let r = below_at i.callees.table k n.callee_count (length f.callees + length i.callees.added) imp.callees_below (let s = imp.callee_table in omega (arith, s, h)) in let e = ap (λ (z : List ℕ). get_or z k n.callee_count) made.callees in omega (arith, a, b, r, e);
        }

    site_shown : Below N.slots (slots_shown can.line.tags)
    site_shown = below_more (length f.slots) N.slots (let a = length-append f.slots q.slots in omega (arith, a)) (slots_shown can.line.tags) site_line.shown

    body_in_range : Each (BlockInRange N) body_blocks
    body_in_range =
        blocks_in_range n (counts_of g) N in_range can.line.tags site_shown (length f.blocks + 1) (let h = heads in let p = can.has_block in omega (arith, h, p)) starts count g.blocks
        (subst (λ (z : ℕ). Each (λ (b : Block). 0 < tail_calls b.lines → Below z (results_from starts count b.number)) g.blocks) (sym all_types) (starts_range starts count top g.blocks (starts_end starts (length f.types + length g.types) count g.blocks top made.starts_are can.one_tail (omega arith))))
        sg.blocks

    old_below : (v : ℕ) → ((u : ℕ) × In u (definitions g.blocks) × (v ≡ n.values + u)) → v < length f.types + length g.types
    old_below v old = let b = below_in (length g.types) (definitions g.blocks) old.0 (definitions_below (counts_of g) g.blocks sg.blocks) old.1 in let e = old.2 in let w = made.values in omega (arith, b, e, w)

    body_differs : Different (definitions body_blocks)
    body_differs = blocks_differ n can.line.tags (length f.blocks + 1) starts count (length f.types + length g.types) g.blocks made.starts_are can.one_tail sg.defined_once old_below

    body_undefined : (v : ℕ) → In v (definitions body_blocks) → In v (definitions f.blocks) → ⊥
    body_undefined v j k =
        let low = below_in (length f.types) (definitions f.blocks) v (definitions_below (counts_of f) f.blocks sf.blocks) k in
        elim (blocks_members n can.line.tags (length f.blocks + 1) starts count (length f.types + length g.types) g.blocks made.starts_are can.one_tail v j) [
          | inl old ↦ let e = old.2 in let w = made.values in omega (arith, low, e, w)
          | inr r ↦ let a = r.0 in omega (arith, low, a)
        ]

    lines_long : length (lines_in q.block_lines) ≡ instruction_count g.blocks + tail_calls_in g.blocks
    lines_long = lines_counted (q.first ∷ q.block_params) q.block_lines made.as_many ∙ (ap instruction_count made.body ∙ blocks_count n can.line.tags (length f.blocks + 1) starts count g.blocks)

    from_body : (P : List Block → Type 0) → P body_blocks → P (blocks_from (q.first ∷ q.block_params) q.block_lines)
    from_body P h = subst P (sym made.body) h

    differs : Different (definitions (blocks_from (q.first ∷ q.block_params) q.block_lines))
    differs = from_body (λ bs. Different (definitions bs)) body_differs

    ready : IsReady f at q
    ready =
        let ranged = from_body (Each (BlockInRange N)) body_in_range in
        let e = made.as_many in
        let pss = q.first ∷ q.block_params in
        record {
          few_slots = let a = can.few_slots in let b = ap length made.piece_slots in omega (arith, a, b);
          few_sigs = let a = can.few_sigs in let b = ap length made.piece_sigs in let d = imp.fewer_sigs in omega (arith, a, b, d);
          few_callees = let a = can.few_callees in let b = ap length made.piece_callees in let d = imp.fewer_callees in omega (arith, a, b, d);
          few_values = let a = can.few_values in let b = types_length in omega (arith, a, b);
          few_blocks = let a = can.few_blocks in let b = heads in omega (arith, a, b);
          few_lines = let a = can.few_lines in let b = lines_long in omega (arith, a, b);
          callees_in_range = subst (λ z. Each (λ c. c.sig < length f.sigs + length q.sigs) z) (sym made.piece_callees) (subst (λ z. Each (λ c. c.sig < length f.sigs + length z) i.callees.added) (sym made.piece_sigs) imp.in_range);
          there = can.there;
          fits = let a = can.there.1 in let b = index_small at.block f.blocks in let s = sf.small.instructions in omega (arith, a, b, s);
          numbers = numbers_listed pss q.block_lines e ∙ (ap block_numbers made.body ∙ (inlined_numbers n can.line.tags (length f.blocks + 1) starts count g.blocks ∙ (made.numbers ∙ along_fits (length f.blocks) (block_numbers g.blocks) q.block_params (let k = length-map g.blocks (λ (b : Block). b.number) in let h = heads in omega (arith, k, h)))));
          are_results = λ l found. made.results ∙ (let s : Some can.line ≡ Some l = sym can.found ∙ found in let q : can.line ≡ l = cc in ap (λ (z : Line). z.results) q);
          declared = params_ranged N pss q.block_lines e ranged;
          different = params_differ pss q.block_lines e differs;
          undefined = λ v j k. body_undefined v (subst (λ bs. In v (definitions bs)) made.body (params_there pss q.block_lines e v j)) k;
          jump = subst (LineInRange N) (sym made.jump) (jump_in_range N (length f.blocks) (args_of can.line.inst) (let h = heads in omega (arith, h)) (below_more (length f.types) N.values (let a = all_types in omega (arith, a)) (args_of can.line.inst) (call_args can.line.inst can.plain (length f.types) site_line.values)));
          jump_results = ap (λ (z : Line). z.results) made.jump;
          lines = lines_ranged N pss q.block_lines e ranged;
          lines_different = own_lines_differ pss q.block_lines e differs;
          lines_undefined = λ v j k. body_undefined v (subst (λ bs. In v (definitions bs)) made.body (lines_there pss q.block_lines e v j)) k;
          apart = λ v j k. lines_apart pss q.block_lines e differs v j k;
        }

    -- the code's own numbers
    abbrev naming : Naming
    naming = record { caller_value = λ v. v; callee_value = λ v. n.values + v; caller_block = λ b. b; callee_block = λ b. get_or n.blocks b 0; after = length f.blocks + 1; new_value = λ c j. get_or starts c 0 + j; new_block = λ c j. 0 }

    abbrev p : Splicing
    p = splicing_at naming f g at can.line

    numbers_are : Numbers p n starts
    numbers_are =
        record {
          kind = is_within can.line.inst can.plain;
          value = λ v. refl;
          block = λ b. refl;
          slots = sym made.slots;
          sig = λ k. imp.sig k ∙ ap₂ (λ (z : List ℕ) (d : ℕ). get_or z k d) (sym made.sigs) (sym made.sig_count);
          callee = λ k. imp.callee k ∙ ap₂ (λ (z : List ℕ) (d : ℕ). get_or z k d) (sym made.callees) (sym made.callee_count);
          new_value = λ c j. refl;
        }

    types_are : map (typed_under (callee_names p)) g.types ++ new_types p g.blocks ≡ enumerate_from (length f.types) q.types
    types_are =
        let ty = map (λ (t : ℕ × Ty). t.1) g.types in
        let starts_typed : map (λ b. get_or starts b 0) (block_numbers g.blocks) ≡ starts_along (length f.types + length g.types) (length ts) g.blocks = made.starts_are ∙ ap (λ (z : ℕ). starts_along (length f.types + length g.types) z g.blocks) (sym typed_length) in
        let front : map (typed_under (callee_names p)) g.types ≡ enumerate_from (length f.types) ty = ap (map (typed_under (callee_names p))) sg.numbered ∙ types_moved (callee_names p) n.values 0 (length f.types) ty (λ v. refl) (let e = made.values in omega (arith, e)) in
        let back = blocks_typed p ts (is_within can.line.inst can.plain) made.typed starts (length f.types + length g.types) g.blocks (λ c j. refl) starts_typed can.one_tail in
        ap₂ (λ x y. x ++ y) front back
        ∙ (enumerate_join (length f.types) (length f.types + length g.types) ty (repeated (tail_calls_in g.blocks) ts) (let k = length-map g.types (λ (t : ℕ × Ty). t.1) in omega (arith, k))
        ∙ ap (enumerate_from (length f.types)) (sym made.piece_types))

    first_is : (bs : List Block) → 0 < length bs → map (λ b. get_or n.blocks b 0) (block_numbers bs) ≡ numbers_along (length f.blocks) (length f.blocks) (block_numbers bs) → get_or n.blocks (first_number bs) 0 ≡ length f.blocks
    first_is [] h e = absurd (omega (arith, h))
    first_is (b ∷ bs) h e = cc

    jump_is : jump_in p ≡ line_of q.jump
    jump_is = ap₂ (λ (x : ℕ) (y : List ℕ). jump_line x y) (first_is g.blocks can.has_block made.numbers) (same_list (args_of can.line.inst)) ∙ sym made.jump

    is_body : IsBodyOf p f at q
    is_body =
        record {
          caller = refl;
          at = refl;
          before = refl;
          behind = refl;
          kind = is_within can.line.inst can.plain;
          caller_value = λ v. refl;
          caller_block = λ b. refl;
          after = refl;
          slots = sym made.piece_slots;
          sigs = imp.sigs ∙ ap (λ z. f.sigs ++ z) (sym made.piece_sigs);
          callees = imp.callees ∙ ap (λ z. f.callees ++ z) (sym made.piece_callees);
          types = types_are;
          jump = jump_is;
          body = body_is p n starts numbers_are g.blocks ∙ sym made.body;
          results = sym made.results;
        }

    pub prepared : IsPrepared f g at i q
    prepared = record { ready = ready; line = can.line; found = can.found; naming = naming; keeps = record { caller_value = λ v. refl; caller_block = λ b. refl; after = refl }; is_body = is_body; sigs = made.piece_sigs; callees = made.piece_callees }

-- ---- the splice by its place

found_block : (a : ℕ) (bs : List Block) → In a (block_numbers bs) → (b : Block) × (find_block a bs ≡ Some b) × (lines_of a bs ≡ b.lines)
found_block a [] i = elim i [ ]
found_block a (b ∷ bs) i = go (nat_eq b.number a) refl i (λ j. found_block a bs j)
  where
    go : (c : Bool) → nat_eq b.number a ≡ c → In a (block_numbers (b ∷ bs)) → (In a (block_numbers bs) → (d : Block) × (find_block a bs ≡ Some d) × (lines_of a bs ≡ d.lines)) → (d : Block) × ((if c then Some b else find_block a bs) ≡ Some d) × ((if c then b.lines else lines_of a bs) ≡ d.lines)
    go true e i ih = (b, refl, refl)
    go false e (inl q) ih = absurd (let t = eq-eqb b.number a (sym q) in let z : true ≡ false = sym t ∙ e in cc)
    go false e (inr j) ih = ih j

pub spliced_at : (n : Naming) (f g : Function) (at : Point) (l : Line) → In at.block (block_numbers f.blocks) → slice_get (lines_of at.block f.blocks) at.index ≡ Some l → spliced (splicing_at n f g at l) ≡ splice_with n f at.block at.index g
spliced_at n f g at l there found =
    let b = found_block at.block f.blocks there in
    let e : slice_get b.0.lines at.index ≡ Some l = ap (λ (z : List Line). slice_get z at.index) (sym b.2) ∙ found in
    ap (λ (z : List Line). spliced (record { naming = n; caller = f; callee = g; at = at.block; before = take at.index z; site = l; behind = drop (suc at.index) z })) b.2
    ∙ (sym (ap (λ (o : Option Line). elim o [ None ↦ f | Some x ↦ spliced (record { naming = n; caller = f; callee = g; at = at.block; before = take at.index b.0.lines; site = x; behind = drop (suc at.index) b.0.lines }) ]) e)
    ∙ sym (ap (λ (o : Option Block). elim o [ None ↦ f | Some c ↦ elim (slice_get c.lines at.index) [ None ↦ f | Some x ↦ spliced (record { naming = n; caller = f; callee = g; at = at.block; before = take at.index c.lines; site = x; behind = drop (suc at.index) c.lines }) ] ]) b.1))
