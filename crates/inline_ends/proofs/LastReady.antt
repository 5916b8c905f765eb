-- A body for a call that ends its block is ready, and that of the splice, where its blocks are the splice's.
use Rattle.std.proofs.Common.{◌≡◌, ℕ, ◌+◌, ◌-◌, ◌<◌, ◌^◌, List, [], ◌∷◌, ◌++◌, map, length, get_or, Some, refl, sym, ap, ap₂, ◌∙◌, subst, arith, append-nil, length-append}
use Rattle.std.specs.Prelude.{slice_get}
use Rattle.std.specs.List.{enumerate_from}
use Rattle.std.proofs.lemmas.List.{length-map}
use Rattle.std.proofs.lemmas.List.FromFn.{length-enumerate_from}
use Rattle.ir_core.specs.declared.places.Point.{Point}
use Rattle.ir_core.specs.declared.signatures.Ty.{Ty}
use Rattle.ir_core.specs.Module.{Instruction, Line, Block, Function}
use Rattle.ir_core.specs.Lists.{In, Different, Each, Below}
use Rattle.ir_core.specs.Lookup.{block_numbers, definitions}
use Rattle.ir_core.specs.Sound.{Counts, counts_of, IsSound, LineInRange, BlockInRange, instruction_count}
use Rattle.ir_core.specs.Edits.{IsPoint, lines_of}
use Rattle.ir_core.specs.Viewed.{line_of}
use Rattle.ir_core.proofs.Members.{below_more}
use Rattle.ir_semantics.specs.Renaming.{typed_under}
use Rattle.ir_semantics.specs.Splice.{Naming, Splicing, kind_of, args_of, first_number, callee_names, body, after_blocks, new_types_by, line_types, new_types, spliced}
use Rattle.body_import.specs.declared.declarations.Import.{Import}
use Rattle.body_import.specs.Imports.{IsImportOf}
use Rattle.inline_body.specs.declared.names.Names.{Names}
use Rattle.inline_body.specs.declared.prepared.PreparedBody.{PreparedBody}
use Rattle.inline_body.specs.Inlined.{jump_line, blocks_from}
use Rattle.inline_body.specs.WithBody.{counts_with}
use Rattle.inline_body.specs.Prepared.{appended}
use Rattle.inline_body.specs.PlainCall.{splicing_at, IsSplice}
use Rattle.inline_body.proofs.ResultTypes.{types_moved}
use Rattle.inline_body.proofs.BodyRanges.{NamesInRange, jump_in_range}
use Rattle.inline_body.proofs.BodyDefinitions.{params_there, lines_there, params_differ, own_lines_differ, lines_apart, lines_ranged, params_ranged, lines_counted, numbers_listed, blocks_listed}
use Rattle.inline_body.proofs.Ready.{below_at, same_list, spliced_at}
use Rattle.inline_ends.specs.Ending.{numbered}
use Rattle.inline_ends.specs.LastBody.{IsLastBodyOf, IsLastReady, IsLastPrepared}
use Rattle.inline_ends.proofs.Numbered.{as_put}

-- a splice without new results has no new types
pub no_types : (p : Splicing) → ((c : ℕ) (i : Instruction) → new_types_by p c (kind_of p.site.inst) i ≡ []) → (bs : List Block) → new_types p bs ≡ []
no_types p h [] = refl
no_types p h (b ∷ bs) = ap₂ (λ (x y : List (ℕ × Ty)). x ++ y) (lines b.lines) (no_types p h bs)
  where
    lines : (ls : List Line) → line_types p b.number ls ≡ []
    lines [] = refl
    lines (l ∷ ls) = ap₂ (λ (x y : List (ℕ × Ty)). x ++ y) (h b.number l.inst) (lines ls)

-- ---- what is made

-- the names, and a body with the blocks B
pub record IsLastMade (f g : Function) (l : Line) (i : Import) (n : Names) (q : PreparedBody) (B : List Block) : Type 0 where
  pub values : n.values ≡ length f.types
  pub slots : n.slots ≡ length f.slots
  pub sigs : n.sigs ≡ i.sigs.table
  pub sig_count : n.sig_count ≡ length f.sigs + length i.sigs.added
  pub callees : n.callees ≡ i.callees.table
  pub callee_count : n.callee_count ≡ length f.callees + length i.callees.added
  pub piece_slots : q.slots ≡ g.slots
  pub piece_sigs : q.sigs ≡ i.sigs.added
  pub piece_callees : q.callees ≡ i.callees.added
  pub piece_types : q.types ≡ map (λ t. t.1) g.types
  pub jump : line_of q.jump ≡ jump_line (length f.blocks) (args_of l.inst)
  pub body : blocks_from (q.first ∷ q.block_params) q.block_lines ≡ B
  pub as_many : length (q.first ∷ q.block_params) ≡ length q.block_lines

-- there are numbers for what a body with so many blocks and lines brings
pub record Fewer (f g : Function) (blocks lines : ℕ) : Type 0 where
  pub few_slots : length f.slots + length g.slots < 2 ^ 32 - 1
  pub few_sigs : length f.sigs + length g.sigs < 2 ^ 32 - 1
  pub few_callees : length f.callees + length g.callees < 2 ^ 32 - 1
  pub few_values : length f.types + length g.types < 2 ^ 32 - 1
  pub few_blocks : length f.blocks + blocks < 2 ^ 32 - 1
  pub few_lines : instruction_count f.blocks + lines + 1 < 2 ^ 32 - 1

module _ (f g : Function) (at : Point) (l : Line) (i : Import) (imp : IsImportOf f g i) (n : Names) (q : PreparedBody) (B : List Block) (made : IsLastMade f g l i n q B) where
  abbrev pub after_counts : Counts
  after_counts = counts_with (appended f q) (length B)

  types_length : length q.types ≡ length g.types
  types_length = ap length made.piece_types ∙ length-map g.types (λ (t : ℕ × Ty). t.1)

  pub all_types : length (appended f q).types ≡ length f.types + length g.types
  all_types = length-append f.types (enumerate_from (length f.types) q.types) ∙ ap (λ (z : ℕ). length f.types + z) (length-enumerate_from (length f.types) q.types ∙ types_length)

  pub heads : length q.block_params + 1 ≡ length B
  heads = let a = blocks_listed (q.first ∷ q.block_params) q.block_lines made.as_many in let b = ap length made.body in omega (arith, a, b)

  -- each number of the callee has one that the caller has then
  pub in_range : ((b : ℕ) → b < length g.blocks → get_or n.blocks b 0 < length f.blocks + length B) → NamesInRange n (counts_of g) after_counts
  in_range blocks =
      record {
        values = λ v h. let a = all_types in let e = made.values in omega (arith, a, e, h);
        blocks = blocks;
        slots = λ k h. let a = length-append f.slots q.slots in let b = ap length made.piece_slots in let e = made.slots in omega (arith, a, b, e, h);
        sigs = λ k h. let a = length-append f.sigs q.sigs in let b = ap length made.piece_sigs in let r = below_at i.sigs.table k n.sig_count (length f.sigs + length i.sigs.added) imp.sigs_below (let s = imp.sig_table in omega (arith, s, h)) in let e = ap (λ (z : List ℕ). get_or z k n.sig_count) made.sigs in omega (arith, a, b, r, e);
        callees = λ k h. let a = length-append f.callees q.callees in let b = ap length made.piece_callees in let r = below_at i.callees.table k n.callee_count (length f.callees + length i.callees.added) imp.callees_below (let s = imp.callee_table in omega (arith, s, h)) in let e = ap (λ (z : List ℕ). get_or z k n.callee_count) made.callees in omega (arith, a, b, r, e);
      }

  pub ready : IsPoint f at → at.index + 1 ≡ length (lines_of at.block f.blocks) → Fewer f g (length B) (instruction_count B)
      → block_numbers B ≡ numbered (length f.blocks) B → Each (BlockInRange after_counts) B
      → Different (definitions B) → ((v : ℕ) → In v (definitions B) → In v (definitions f.blocks) → ⊥)
      → 0 < length B → Below (length f.types) (args_of l.inst)
      → IsLastReady f at q
  ready there last few numbers ranged differs undefined some args =
      let e = made.as_many in
      let pss = q.first ∷ q.block_params in
      let h = heads in
      let N : Counts = counts_with (appended f q) (length q.block_params + 1) in
      let N_is : after_counts ≡ N = ap (counts_with (appended f q)) (sym h) in
      let now_ranged : Each (BlockInRange N) (blocks_from pss q.block_lines) = subst (Each (BlockInRange N)) (sym made.body) (subst (λ (z : Counts). Each (BlockInRange z) B) N_is ranged) in
      let now_differs : Different (definitions (blocks_from pss q.block_lines)) = subst (λ (z : List Block). Different (definitions z)) (sym made.body) differs in
      record {
        few_slots = let a = few.few_slots in let b = ap length made.piece_slots in omega (arith, a, b);
        few_sigs = let a = few.few_sigs in let b = ap length made.piece_sigs in let d = imp.fewer_sigs in omega (arith, a, b, d);
        few_callees = let a = few.few_callees in let b = ap length made.piece_callees in let d = imp.fewer_callees in omega (arith, a, b, d);
        few_values = let a = few.few_values in let b = types_length in omega (arith, a, b);
        few_blocks = let a = few.few_blocks in omega (arith, a, h);
        few_lines = let a = few.few_lines in let b = lines_counted pss q.block_lines e ∙ ap instruction_count made.body in omega (arith, a, b);
        callees_in_range = subst (λ z. Each (λ c. c.sig < length f.sigs + length q.sigs) z) (sym made.piece_callees) (subst (λ z. Each (λ c. c.sig < length f.sigs + length z) i.callees.added) (sym made.piece_sigs) imp.in_range);
        there = there;
        last = last;
        numbers = numbers_listed pss q.block_lines e ∙ (ap block_numbers made.body ∙ (numbers ∙ as_put (length f.blocks) B q.block_params (omega (arith, h))));
        declared = params_ranged N pss q.block_lines e now_ranged;
        different = params_differ pss q.block_lines e now_differs;
        undefined = λ v j k. undefined v (subst (λ (z : List Block). In v (definitions z)) made.body (params_there pss q.block_lines e v j)) k;
        jump = subst (LineInRange N) (sym made.jump) (jump_in_range N (length f.blocks) (args_of l.inst) (omega arith) (below_more (length f.types) N.values (let a = all_types in omega (arith, a)) (args_of l.inst) args));
        jump_results = ap (λ (z : Line). z.results) made.jump;
        lines = lines_ranged N pss q.block_lines e now_ranged;
        lines_different = own_lines_differ pss q.block_lines e now_differs;
        lines_undefined = λ v j k. undefined v (subst (λ (z : List Block). In v (definitions z)) made.body (lines_there pss q.block_lines e v j)) k;
        apart = λ v j k. lines_apart pss q.block_lines e now_differs v j k;
      }

  -- ---- the splice by the code's own numbers

  module _ (new_block : ℕ → ℕ → ℕ) where
    abbrev pub own_naming : Naming
    own_naming = record { caller_value = λ v. v; callee_value = λ v. n.values + v; caller_block = λ b. b; callee_block = λ b. get_or n.blocks b 0; after = length f.blocks + 1; new_value = λ c j. 0; new_block = new_block }

    abbrev pub own_splicing : Splicing
    own_splicing = splicing_at own_naming f g at l

    types_are : IsSound g → ((c : ℕ) (j : Instruction) → new_types_by own_splicing c (kind_of l.inst) j ≡ []) → map (typed_under (callee_names own_splicing)) g.types ++ new_types own_splicing g.blocks ≡ enumerate_from (length f.types) q.types
    types_are sg none =
        let ty = map (λ (t : ℕ × Ty). t.1) g.types in
        let front : map (typed_under (callee_names own_splicing)) g.types ≡ enumerate_from (length f.types) ty = ap (map (typed_under (callee_names own_splicing))) sg.numbered ∙ types_moved (callee_names own_splicing) n.values 0 (length f.types) ty (λ v. refl) (let e = made.values in omega (arith, e)) in
        ap₂ (λ (x y : List (ℕ × Ty)). x ++ y) front (no_types own_splicing none g.blocks)
        ∙ (append-nil (enumerate_from (length f.types) ty) ∙ ap (enumerate_from (length f.types)) (sym made.piece_types))

    first_is : (bs : List Block) → 0 < length bs → get_or n.blocks (first_number bs) 0 ≡ length f.blocks → jump_line (get_or n.blocks (first_number bs) 0) (map (λ v. v) (args_of l.inst)) ≡ line_of q.jump
    first_is bs h e = ap₂ (λ (x : ℕ) (y : List ℕ). jump_line x y) e (same_list (args_of l.inst)) ∙ sym made.jump

    pub prepared : IsSound g → IsLastReady f at q → slice_get (lines_of at.block f.blocks) at.index ≡ Some l
        → after_blocks own_splicing (kind_of l.inst) ≡ []
        → ((c : ℕ) (j : Instruction) → new_types_by own_splicing c (kind_of l.inst) j ≡ [])
        → 0 < length g.blocks → get_or n.blocks (first_number g.blocks) 0 ≡ length f.blocks
        → body own_splicing g.blocks ≡ B
        → IsLastPrepared f g at i q
    prepared sg is_ready found none_behind none some first body_is =
        record {
          ready = is_ready;
          line = l;
          found = found;
          naming = own_naming;
          keeps = record { caller_value = λ v. refl; caller_block = λ b. refl; after = refl };
          is_body = record {
            caller = refl;
            at = refl;
            before = refl;
            none_behind = none_behind;
            caller_value = λ v. refl;
            caller_block = λ b. refl;
            slots = sym made.piece_slots;
            sigs = imp.sigs ∙ ap (λ z. f.sigs ++ z) (sym made.piece_sigs);
            callees = imp.callees ∙ ap (λ z. f.callees ++ z) (sym made.piece_callees);
            types = types_are sg none;
            jump = first_is g.blocks some first;
            body = body_is ∙ sym made.body;
          };
          sigs = made.piece_sigs;
          callees = made.piece_callees;
        }

-- ---- the splice

pub is_splice : (f g h k : Function) (at : Point) (i : Import) (q : PreparedBody) → IsLastPrepared f g at i q → h ≡ f → ((p : Splicing) → IsLastBodyOf p h at q → k ≡ spliced p) → IsSplice f g at k
is_splice f g h k at i q made same put =
    record {
      naming = made.naming;
      keeps = made.keeps;
      is = put (splicing_at made.naming f g at made.line) (subst (λ (z : Function). IsLastBodyOf (splicing_at made.naming f g at made.line) z at q) (sym same) made.is_body) ∙ spliced_at made.naming f g at made.line made.ready.there.0 made.found;
    }
