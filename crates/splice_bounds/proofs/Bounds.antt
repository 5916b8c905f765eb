-- There are numbers for all that a splice within the limit of sizes brings.
use Rattle.std.proofs.Common.{◌≡◌, suc, ◌+◌, ◌≤◌, ◌<◌, List, [], ◌∷◌, length, take, drop, Some, refl}
use Rattle.std.proofs.Common.{ap, ◌∙◌, arith, length-append}
use Rattle.std.specs.Prelude.{slice_get}
use Rattle.std.proofs.Math.Nat.{mul-add}
use Rattle.std.proofs.lemmas.List.{drop_all}
use Rattle.std.proofs.lemmas.Option.{slice_get_within}
use Rattle.ir_core.specs.declared.places.Point.{Point}
use Rattle.ir_core.specs.Edits.{IsPoint, lines_of}
use Rattle.ir_core.specs.Module.{Line, Block, Function}
use Rattle.ir_core.specs.Size.{total, size_of}
use Rattle.ir_core.specs.Sound.{instruction_count}
use Rattle.ir_core.specs.WellFormed.{WellFormed}
use Rattle.ir_core.proofs.ByNumber.{found_number}
use Rattle.ir_semantics.specs.Splice.{Naming, Splicing, body, spliced, spliced_blocks}
use Rattle.inline_body.specs.PlainCall.{IsPlainCall, CanSplice}
use Rattle.inline_body.specs.Results.{tail_calls_in}
use Rattle.inline_ends.specs.TailCall.{IsTailCall, CanSpliceTail}
use Rattle.inline_ends.specs.TryCallSite.{IsTryCall, CanSpliceTry}
use Rattle.inline_numbering.proofs.Places.{splice_found}
use Rattle.splice_bounds.specs.Laws.{WithinLimit, PlainCallHasNumbers, TailCallHasNumbers, TryCallHasNumbers}
use Rattle.splice_bounds.proofs.Counts.{line_count, block_count, blocks_sized, callees_longer, counted}
use Rattle.splice_bounds.proofs.Counts.{plain_calls_counted, sigs_longer, sigs_sized, tail_calls_counted, total_cut}
use Rattle.splice_bounds.proofs.Counts.{types_counted}
use Rattle.splice_bounds.proofs.Growing.{Stays, blocks_grow, body_tails, found_within, stays_within}
use Rattle.inline_body.proofs.Ready.{is_within}
use Rattle.splice_bounds.proofs.Ends.{lines_there, one_tail, tail_is_last, try_is_last}

has_block : (g : Function) → WellFormed g → 0 < length g.blocks
has_block g w = by g.blocks refl
  where
    by : (bs : List Block) → g.blocks ≡ bs → 0 < length g.blocks
    by [] e = absurd (w.begins e)
    by (b ∷ bs) e = let n = ap length e in omega (arith, n)

module _ (n : Naming) (f g : Function) (at : Point) (l : Line) (w : WithinLimit n f g at l) where
  abbrev p : Splicing
  p =
      record {
        naming = n;
        caller = f;
        callee = g;
        at = at.block;
        before = take at.index w.block.lines;
        site = l;
        behind = drop (suc at.index) w.block.lines;
      }

  within : size_of (spliced p) ≤ 262144
  within =
      let is = ap size_of (splice_found n f at.block at.index g w.block l w.block_found w.line_found) in
      omega (arith, w.splice_size, is)

  lines_are : lines_of at.block f.blocks ≡ w.block.lines
  lines_are = lines_there f w.caller_whole w.caller_accepted at.block at.index w.block w.block_found l w.line_found

  found : slice_get (lines_of at.block f.blocks) at.index ≡ Some l
  found = ap (λ z. slice_get z at.index) lines_are ∙ w.line_found

  there : IsPoint f at
  there = (
    found_number at.block f.blocks w.block w.block_found,
    slice_get_within (lines_of at.block f.blocks) at.index l found,
  )

  -- ---- declarations

  slots : length f.slots + length g.slots ≤ 262144
  slots = omega (arith, within, length-append f.slots g.slots)

  sigs : length f.sigs + length g.sigs ≤ 524288
  sigs = omega (arith, within, w.callee_size, sigs_longer f g, sigs_sized (spliced p), sigs_sized g)

  callees : length f.callees + length g.callees ≤ 524288
  callees = omega (arith, within, w.callee_size, callees_longer f g)

  -- ---- blocks

  cut : total line_count w.block.lines ≡ total line_count p.before + line_count l + total line_count p.behind
  cut = total_cut line_count w.block.lines at.index l w.line_found

  of_callee : total block_count g.blocks ≤ 262144
  of_callee = omega (arith, blocks_sized g.blocks, w.callee_size)

  callee_types : length g.types ≤ 262144
  callee_types = omega (arith, of_callee, counted g.blocks, types_counted g w.callee_whole)

  callee_blocks : length g.blocks + instruction_count g.blocks ≤ 262144
  callee_blocks = omega (arith, of_callee, counted g.blocks)

  module _ (stays : Stays p) where
    grown : total block_count f.blocks + total block_count (body p g.blocks) ≤ 262144
    grown =
        let more = blocks_grow p f.blocks w.block w.block_found cut stays in
        let sized = blocks_sized (spliced_blocks p f.blocks) in
        omega (arith, within, more, sized)

    site_results : length l.results ≤ 262144
    site_results = omega (arith, grown, found_within at.block f.blocks w.block w.block_found, cut)

    caller_types : length f.types + total block_count (body p g.blocks) ≤ 262144
    caller_types = omega (arith, grown, counted f.blocks, types_counted f w.caller_whole)

    caller_blocks : length f.blocks + instruction_count f.blocks ≤ 262144
    caller_blocks = omega (arith, grown, counted f.blocks)

  -- ---- the kinds

  pub plain : IsPlainCall l.inst → CanSplice f g at
  plain h =
      let k = is_within l.inst h in
      let stays = stays_within p k in
      let types = caller_types stays in
      let blocks = caller_blocks stays in
      let results = site_results stays in
      let tails = body_tails p k g.blocks in
      let each = mul-add (length l.results) (tail_calls_in g.blocks) 1 in
      let calls = tail_calls_counted g.blocks in
      record {
        there = there;
        line = l;
        found = found;
        plain = h;
        has_block = has_block g w.callee_whole;
        one_tail = one_tail g w.callee_whole w.callee_accepted;
        few_slots = omega (arith, slots);
        few_sigs = omega (arith, sigs);
        few_callees = omega (arith, callees);
        few_values = omega (arith, types, callee_types, results, tails, each);
        few_blocks = omega (arith, blocks, callee_blocks);
        few_lines = omega (arith, blocks, callee_blocks, calls);
      }

  module _ (ends : (length w.block.lines ≤ suc at.index) × (length l.results ≡ 0)) where
    stays_last : Stays p
    stays_last =
        let none = ap (total line_count) (drop_all (suc at.index) w.block.lines ends.0) in
        omega (arith, none, ends.1)

    is_last : at.index + 1 ≡ length (lines_of at.block f.blocks)
    is_last = let e = ap length lines_are in omega (arith, e, ends.0, there.1)

    types_last : length f.types + length g.types ≤ 524288
    types_last = omega (arith, caller_types stays_last, callee_types)

    blocks_last : length f.blocks + instruction_count f.blocks ≤ 262144
    blocks_last = caller_blocks stays_last

  pub tail : IsTailCall l.inst → CanSpliceTail f g at
  tail h =
      let ends =
      tail_is_last f w.caller_whole w.caller_accepted at.block at.index w.block w.block_found l w.line_found h
      in
      let types = types_last ends in
      let blocks = blocks_last ends in
      record {
        there = there;
        last = is_last ends;
        line = l;
        found = found;
        tail = h;
        has_block = has_block g w.callee_whole;
        few_slots = omega (arith, slots);
        few_sigs = omega (arith, sigs);
        few_callees = omega (arith, callees);
        few_values = omega (arith, types);
        few_blocks = omega (arith, blocks, callee_blocks);
        few_lines = omega (arith, blocks, callee_blocks);
      }

  pub tries : IsTryCall l.inst → CanSpliceTry f g at
  tries h =
      let ends =
      try_is_last f w.caller_whole w.caller_accepted at.block at.index w.block w.block_found l w.line_found h
      in
      let types = types_last ends in
      let blocks = blocks_last ends in
      let calls = plain_calls_counted g.blocks in
      record {
        there = there;
        last = is_last ends;
        line = l;
        found = found;
        tries = h;
        has_block = has_block g w.callee_whole;
        few_slots = omega (arith, slots);
        few_sigs = omega (arith, sigs);
        few_callees = omega (arith, callees);
        few_values = omega (arith, types);
        few_blocks = omega (arith, blocks, callee_blocks, calls);
        few_lines = omega (arith, blocks, callee_blocks);
      }

pub plain_call_has_numbers : PlainCallHasNumbers
plain_call_has_numbers n f g at l w h = plain n f g at l w h

pub tail_call_has_numbers : TailCallHasNumbers
tail_call_has_numbers n f g at l w h = tail n f g at l w h

pub try_call_has_numbers : TryCallHasNumbers
try_call_has_numbers n f g at l w h = tries n f g at l w h
