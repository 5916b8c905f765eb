-- From the clauses of the calls of `prepare_tail` to what it ensures.
use Rattle.std.proofs.Common.{◌≡◌, ℕ, ◌+◌, ◌<◌, List, [], ◌∷◌, ◌++◌, map, length, get_or, Some, refl, sym, ap, ap₂, ◌∙◌, subst, arith, length-append}
use Rattle.std.specs.Prelude.{slice_get}
use Rattle.std.proofs.lemmas.List.{length-map}
use Rattle.ir_core.specs.declared.places.Point.{Point}
use Rattle.ir_core.specs.Module.{Instruction, Plain, Branches, SequencePoint, Return, Call, ReturnCall, TryCall, Line, Block, Function}
use Rattle.ir_core.specs.Lists.{In, Different, Each, Below}
use Rattle.ir_core.specs.Lookup.{block_numbers, definitions}
use Rattle.ir_core.specs.Uses.{values_used, slots_shown, called_used}
use Rattle.ir_core.specs.Sound.{counts_of, IsSound, LineInRange, BlockInRange}
use Rattle.ir_core.specs.Edits.{lines_of}
use Rattle.ir_core.proofs.Members.{below_more, below_right, below_left}
use Rattle.ir_semantics.specs.Splice.{Last, kind_of, args_of, first_number, after_blocks, new_types_by}
use Rattle.body_import.specs.declared.declarations.Import.{Import}
use Rattle.body_import.specs.Imports.{IsImportOf}
use Rattle.inline_body.specs.declared.names.Names.{Names}
use Rattle.inline_body.specs.declared.prepared.PreparedBody.{PreparedBody}
use Rattle.inline_body.proofs.BodyDefinitions.{shifted_differ}
use Rattle.inline_body.proofs.Ready.{numbers_below, line_at, named_below, names_reach, moved_undefined}
use Rattle.inline_body.proofs.Preparing.{same_line}
use Rattle.inline_body.proofs.LastBody.{body_is}
use Rattle.inline_ends.specs.Copied.{copied_block, CanCopy}
use Rattle.inline_ends.specs.Ending.{numbered}
use Rattle.inline_ends.specs.TailCall.{IsTailCall, CanSpliceTail}
use Rattle.inline_ends.specs.LastBody.{IsLastPrepared}
use Rattle.inline_ends.proofs.Numbered.{below_end, other_list}
use Rattle.inline_ends.proofs.CopiedRanges.{blocks_in_range, can_copy}
use Rattle.inline_ends.proofs.CopiedDefinitions.{blocks_define, blocks_counted, blocks_numbers}
use Rattle.inline_ends.proofs.LastReady.{IsLastMade, after_counts, in_range, ready, own_splicing, prepared}

tail_args : (i : Instruction) → IsTailCall i → (n : ℕ) → Below n (values_used i) → Below n (args_of i)
tail_args (ReturnCall t args) h n b = below_right n (called_used t) args (below_left n (called_used t ++ args) [] b)
tail_args (Plain p) h n b = absurd h
tail_args (Branches c) h n b = absurd h
tail_args SequencePoint h n b = absurd h
tail_args (Return vs) h n b = absurd h
tail_args (Call t args) h n b = absurd h
tail_args (TryCall t sig args normal table) h n b = absurd h

is_last : (i : Instruction) → IsTailCall i → kind_of i ≡ Last
is_last (ReturnCall t args) h = refl
is_last (Plain p) h = absurd h
is_last (Branches c) h = absurd h
is_last SequencePoint h = absurd h
is_last (Return vs) h = absurd h
is_last (Call t args) h = absurd h
is_last (TryCall t sig args normal table) h = absurd h

first_of : (h : ℕ → ℕ) (n : ℕ) (bs : List Block) → 0 < length bs → map h (block_numbers bs) ≡ numbered n (block_numbers bs) → h (first_number bs) ≡ n
first_of h n [] s e = absurd (omega (arith, s))
first_of h n (b ∷ bs) s e = cc

module _ (f g : Function) (at : Point) (sf : IsSound f) (sg : IsSound g) (can : CanSpliceTail f g at) (l : Line) (found : slice_get (lines_of at.block f.blocks) at.index ≡ Some l) (i : Import) (imp : IsImportOf f g i) (n : Names) (values : n.values ≡ length f.types) (slots : n.slots ≡ length f.slots) (blocks : length n.blocks ≡ length g.blocks) (sigs : n.sigs ≡ i.sigs.table) (callees : n.callees ≡ i.callees.table) where
  tail : IsTailCall l.inst
  tail = subst (λ (z : Line). IsTailCall z.inst) (same_line can.line l (sym can.found ∙ found)) can.tail

  site_line : LineInRange (counts_of f) l
  site_line = line_at (counts_of f) at.block at.index l f.blocks sf.blocks found

  pub blocks_reached : Each (CanCopy n) g.blocks
  blocks_reached =
      let fv = can.few_values in
      let fs = can.few_slots in
      let reach = names_reach f g i imp n values slots blocks sigs callees (omega (arith, fv)) (omega (arith, fs)) in
      can_copy n (counts_of g) reach g.blocks sg.blocks (numbers_below g.blocks (length g.blocks) sg.block_range)

  module _ (numbers : map (λ b. get_or n.blocks b 0) (block_numbers g.blocks) ≡ numbered (length f.blocks) (block_numbers g.blocks)) (q : PreparedBody) where
    abbrev B : List Block
    B = map (copied_block n l.tags) g.blocks

    many : length B ≡ length g.blocks
    many = length-map g.blocks (copied_block n l.tags)

    module _ (made : IsLastMade f g l i n q B) where
      block_below : (b : ℕ) → b < length g.blocks → get_or n.blocks b 0 < length f.blocks + length B
      block_below b h =
          named_below n g sg (length f.blocks + length B)
          (subst (Below (length f.blocks + length B)) (sym numbers) (below_end (length f.blocks) (length f.blocks + length B) (block_numbers g.blocks) (let k = length-map g.blocks (λ (b : Block). b.number) in let m = many in omega (arith, k, m))))
          b h

      body_in_range : Each (BlockInRange (after_counts f g at l i imp n q B made)) B
      body_in_range =
          blocks_in_range n (counts_of g) (after_counts f g at l i imp n q B made) (in_range f g at l i imp n q B made block_below) l.tags
          (below_more (length f.slots) (length (f.slots ++ q.slots)) (let a = length-append f.slots q.slots in omega (arith, a)) (slots_shown l.tags) site_line.shown)
          g.blocks sg.blocks

      body_differs : Different (definitions B)
      body_differs = subst Different (sym (blocks_define n l.tags g.blocks)) (shifted_differ n.values (definitions g.blocks) sg.defined_once)

      body_undefined : (v : ℕ) → In v (definitions B) → In v (definitions f.blocks) → ⊥
      body_undefined v j k = moved_undefined f g sf n values v (subst (In v) (blocks_define n l.tags g.blocks) j) k

      pub tail_prepared : IsLastPrepared f g at i q
      tail_prepared =
          let m = many in
          let some : 0 < length B = let h = can.has_block in omega (arith, h, m) in
          let is_ready = ready f g at l i imp n q B made can.there can.last
          (record {
            few_slots = can.few_slots;
            few_sigs = can.few_sigs;
            few_callees = can.few_callees;
            few_values = can.few_values;
            few_blocks = let h = can.few_blocks in omega (arith, h, m);
            few_lines = let h = can.few_lines in let c = blocks_counted n l.tags g.blocks in omega (arith, h, c);
          })
          (blocks_numbers n l.tags g.blocks ∙ (numbers ∙ other_list (length f.blocks) (block_numbers g.blocks) B (length-map g.blocks (λ (b : Block). b.number) ∙ sym m)))
          body_in_range body_differs body_undefined some (tail_args l.inst tail (length f.types) site_line.values) in
          let p = own_splicing f g at l i imp n q B made (λ c j. 0) in
          let kind : kind_of l.inst ≡ Last = is_last l.inst tail in
          prepared f g at l i imp n q B made (λ c j. 0) sg is_ready found
          (ap (after_blocks p) kind)
          (λ c j. ap (λ k. new_types_by p c k j) kind)
          can.has_block
          (first_of (λ b. get_or n.blocks b 0) (length f.blocks) g.blocks can.has_block numbers)
          (body_is p n
          (record {
            kind = kind;
            value = λ v. refl;
            block = λ b. refl;
            slots = sym slots;
            sig = λ k. imp.sig k ∙ ap₂ (λ (z : List ℕ) (d : ℕ). get_or z k d) (sym sigs) (sym made.sig_count);
            callee = λ k. imp.callee k ∙ ap₂ (λ (z : List ℕ) (d : ℕ). get_or z k d) (sym callees) (sym made.callee_count);
          })
          g.blocks)
