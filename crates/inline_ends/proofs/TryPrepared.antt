-- From the clauses of the calls of `prepare_try` to what it ensures.
use Rattle.std.proofs.Common.{◌≡◌, ℕ, ◌+◌, ◌-◌, ◌<◌, ◌^◌, ◌≤◌, List, [], ◌∷◌, ◌++◌, map, length, take, append_assoc, get_or, Some, refl, sym, ap, ap₂, ◌∙◌, subst, arith, length-append}
use Rattle.std.specs.Prelude.{slice_get}
use Rattle.ir_core.specs.declared.places.Point.{Point}
use Rattle.ir_core.specs.declared.declarations.Callee.{Callee}
use Rattle.ir_core.specs.Module.{Instruction, Plain, Branches, SequencePoint, Return, Call, ReturnCall, TryCall, call_target, Line, Block, Function}
use Rattle.ir_core.specs.Lists.{In, Different, Each, Below}
use Rattle.ir_core.specs.Lookup.{block_numbers, definitions, line_definitions}
use Rattle.ir_core.specs.Uses.{values_used, blocks_used, called_used, targets_used, table_targets, arg_values_used, slots_shown}
use Rattle.ir_core.specs.Sound.{Counts, counts_of, IsSound, LineInRange, BlockInRange}
use Rattle.ir_core.specs.Edits.{lines_of}
use Rattle.ir_core.proofs.Members.{below_more, below_right, below_left, each_join}
use Rattle.ir_core.proofs.Counting.{defined_bound}
use Rattle.ir_semantics.specs.Splice.{Tries, kind_of, args_of, first_number, after_blocks, new_types_by}
use Rattle.body_import.specs.declared.declarations.Import.{Import}
use Rattle.body_import.specs.Imports.{IsImportOf}
use Rattle.inline_body.specs.declared.names.Names.{Names}
use Rattle.inline_body.specs.declared.prepared.PreparedBody.{PreparedBody}
use Rattle.inline_body.proofs.BodyDefinitions.{shifted_differ}
use Rattle.inline_body.proofs.Found.{found_at}
use Rattle.inline_body.proofs.Ready.{numbers_below, line_at, named_below, names_reach, moved_undefined}
use Rattle.inline_body.proofs.Preparing.{same_line}
use Rattle.inline_ends.specs.Copied.{CanCopy}
use Rattle.inline_ends.specs.Tried.{OuterTry, plain_calls, plain_calls_in, numbered_with_calls, tried_blocks}
use Rattle.inline_ends.specs.TriedParts.{CanTry}
use Rattle.inline_ends.specs.TryCallSite.{IsTryCall, CanSpliceTry}
use Rattle.inline_ends.specs.LastBody.{IsLastPrepared}
use Rattle.inline_ends.proofs.CopiedRanges.{can_copy}
use Rattle.inline_ends.proofs.LastReady.{IsLastMade, after_counts, all_types, in_range, ready, own_splicing, prepared}
use Rattle.inline_ends.proofs.TriedBody.{body_is}
use Rattle.inline_ends.proofs.TriedRanges.{SiteInRange, blocks_in_range}
use Rattle.inline_ends.proofs.TriedShape.{tried_length, tried_numbers, tried_count, tried_define}

try_args : (i : Instruction) → IsTryCall i → (n : ℕ) → Below n (values_used i) → Below n (args_of i)
try_args (TryCall t sig args normal table) h n b = below_right n (called_used (call_target t sig)) args (below_left n (called_used (call_target t sig) ++ args) (targets_used (normal ∷ table_targets table)) b)
try_args (ReturnCall t args) h n b = absurd h
try_args (Plain p) h n b = absurd h
try_args (Branches c) h n b = absurd h
try_args SequencePoint h n b = absurd h
try_args (Return vs) h n b = absurd h
try_args (Call t args) h n b = absurd h

pub is_tries : (f g : Function) (at : Point) (can : CanSpliceTry f g at) (l : Line) → slice_get (lines_of at.block f.blocks) at.index ≡ Some l → IsTryCall l.inst
is_tries f g at can l found = subst (λ (z : Line). IsTryCall z.inst) (same_line can.line l (sym can.found ∙ found)) can.tries

-- a number of the table is in range, with the calls of its block
with_calls_below : (h : ℕ → ℕ) (n m : ℕ) (bs : List Block) → map h (block_numbers bs) ≡ numbered_with_calls n bs → n + length bs + plain_calls_in bs ≤ m → Each (λ (b : Block). h b.number + plain_calls b.lines < m) bs
with_calls_below h n m [] e l = tt
with_calls_below h n m (b ∷ bs) e l =
    let k : h b.number ≡ n = cc in
    let r : map h (block_numbers bs) ≡ numbered_with_calls (n + plain_calls b.lines + 1) bs = cc in
    (omega (arith, k, l), with_calls_below h (n + plain_calls b.lines + 1) m bs r (omega (arith, l)))

keys_below : (h : ℕ → ℕ) (n m : ℕ) (bs : List Block) → map h (block_numbers bs) ≡ numbered_with_calls n bs → n + length bs + plain_calls_in bs ≤ m → Below m (map h (block_numbers bs))
keys_below h n m [] e l = tt
keys_below h n m (b ∷ bs) e l =
    let k : h b.number ≡ n = cc in
    let r : map h (block_numbers bs) ≡ numbered_with_calls (n + plain_calls b.lines + 1) bs = cc in
    (omega (arith, k, l), keys_below h (n + plain_calls b.lines + 1) m bs r (omega (arith, l)))

first_of : (h : ℕ → ℕ) (n : ℕ) (bs : List Block) → 0 < length bs → map h (block_numbers bs) ≡ numbered_with_calls n bs → h (first_number bs) ≡ n
first_of h n [] s e = absurd (omega (arith, s))
first_of h n (b ∷ bs) s e = cc

-- the lines by number are those of the blocks
lines_at : (bs : List Block) → Different (block_numbers bs) → Each (λ (b : Block). lines_of b.number bs ≡ b.lines) bs
lines_at bs d = go [] bs refl
  where
    go : (pre post : List Block) → bs ≡ pre ++ post → Each (λ (b : Block). lines_of b.number bs ≡ b.lines) post
    go pre [] e = tt
    go pre (b ∷ post) e =
        (ap (λ (z : Block). z.lines) (found_at bs b d pre post e), go (pre ++ (b ∷ [])) post (e ∙ sym (append_assoc pre (b ∷ []) post)))

-- a line has no more results than its function has values
results_few : (m : ℕ) (bs : List Block) → length (definitions bs) ≤ m → Each (λ (b : Block). Each (λ (l : Line). length l.results ≤ m) b.lines) bs
results_few m [] h = tt
results_few m (b ∷ bs) h =
    let a = length-append b.params (line_definitions b.lines ++ definitions bs) in
    let c = length-append (line_definitions b.lines) (definitions bs) in
    (lines b.lines (omega (arith, h, a, c)), results_few m bs (omega (arith, h, a, c)))
  where
    lines : (ls : List Line) → length (line_definitions ls) ≤ m → Each (λ (l : Line). length l.results ≤ m) ls
    lines [] h = tt
    lines (l ∷ ls) h = let a = length-append l.results (line_definitions ls) in (omega (arith, h, a), lines ls (omega (arith, h, a)))

can_try : (n : Names) (m : ℕ) (bs : List Block) → m < 2 ^ 32 → Each (CanCopy n) bs → Each (λ (b : Block). Each (λ (l : Line). length l.results ≤ m) b.lines) bs → Each (λ (b : Block). get_or n.blocks b.number 0 + plain_calls b.lines < 2 ^ 32 - 1) bs → Each (CanTry n) bs
can_try n m [] low c r e = tt
can_try n m (b ∷ bs) low c r e = (record { number = (c.0).number; params = (c.0).params; lines = (c.0).lines; few_results = lines b.lines r.0; numbers = let q = e.0 in omega (arith, q) }, can_try n m bs low c.1 r.1 e.1)
  where
    lines : (ls : List Line) → Each (λ (l : Line). length l.results ≤ m) ls → Each (λ (l : Line). length l.results < 2 ^ 32) ls
    lines [] h = tt
    lines (l ∷ ls) h = (let q = h.0 in omega (arith, q, low), lines ls h.1)

each_more_sigs : (m k : ℕ) (cs : List Callee) → m ≤ k → Each (λ (c : Callee). c.sig < m) cs → Each (λ (c : Callee). c.sig < k) cs
each_more_sigs m k [] h e = tt
each_more_sigs m k (c ∷ cs) h e = (let q = e.0 in omega (arith, q, h), each_more_sigs m k cs h e.1)

module _ (f g : Function) (at : Point) (sf : IsSound f) (sg : IsSound g) (can : CanSpliceTry f g at) (l : Line) (found : slice_get (lines_of at.block f.blocks) at.index ≡ Some l) (i : Import) (imp : IsImportOf f g i) (n : Names) (values : n.values ≡ length f.types) (slots : n.slots ≡ length f.slots) (blocks : length n.blocks ≡ length g.blocks) (sigs : n.sigs ≡ i.sigs.table) (callees : n.callees ≡ i.callees.table) (numbers : map (λ b. get_or n.blocks b 0) (block_numbers g.blocks) ≡ numbered_with_calls (length f.blocks) g.blocks) where
  pub tries : IsTryCall l.inst
  tries = is_tries f g at can l found

  site_line : LineInRange (counts_of f) l
  site_line = line_at (counts_of f) at.block at.index l f.blocks sf.blocks found

  pub blocks_reached : Each (CanTry n) g.blocks
  blocks_reached =
      let fv = can.few_values in
      let fs = can.few_slots in
      let fb = can.few_blocks in
      let reach = names_reach f g i imp n values slots blocks sigs callees (omega (arith, fv)) (omega (arith, fs)) in
      can_try n (length g.types) g.blocks (omega (arith, fv)) (can_copy n (counts_of g) reach g.blocks sg.blocks (numbers_below g.blocks (length g.blocks) sg.block_range)) (results_few (length g.types) g.blocks (defined_bound g sg))
      (with_calls_below (λ b. get_or n.blocks b 0) (length f.blocks) (2 ^ 32 - 1) g.blocks numbers (omega (arith, fb)))

  pub called : (s : OuterTry) → s.callees ≡ f.callees ++ i.callees.added → Below (length s.callees) n.callees
  called s e = subst (λ (z : List ℕ). Below (length s.callees) z) (sym callees) (subst (λ (z : ℕ). Below z i.callees.table) (sym (ap length e ∙ length-append f.callees i.callees.added)) imp.callees_below)

  module _ (s : OuterTry) (kind : kind_of l.inst ≡ Tries s.normal s.table) (tags : s.tags ≡ l.tags) (declared : s.callees ≡ f.callees ++ i.callees.added) (q : PreparedBody) where
    abbrev B : List Block
    B = tried_blocks n s g.blocks

    many : length B ≡ length g.blocks + plain_calls_in g.blocks
    many = tried_length n s g.blocks

    module _ (made : IsLastMade f g l i n q B) where
      abbrev N : Counts
      N = after_counts f g at l i imp n q B made

      block_below : (b : ℕ) → b < length g.blocks → get_or n.blocks b 0 < length f.blocks + length B
      block_below b h =
          named_below n g sg (length f.blocks + length B)
          (keys_below (λ k. get_or n.blocks k 0) (length f.blocks) (length f.blocks + length B) g.blocks numbers (let m = many in omega (arith, m)))
          b h

      -- the site's parts, read off its line
      parts : (j : Instruction) → kind_of j ≡ Tries s.normal s.table → Below (length f.types) (values_used j) → Below (length f.blocks) (blocks_used j)
          → Below (length f.types) (arg_values_used s.normal.args ++ targets_used (table_targets s.table)) × Below (length f.blocks) (s.normal.block ∷ map (λ t. t.block) (table_targets s.table))
      parts (TryCall t sig args normal table) e v b =
          let a : normal ≡ s.normal = cc in
          let c : table ≡ s.table = cc in (
            subst (λ z. Below (length f.types) (arg_values_used z.args ++ targets_used (table_targets s.table))) a (subst (λ z. Below (length f.types) (arg_values_used normal.args ++ targets_used (table_targets z))) c (below_right (length f.types) (called_used (call_target t sig) ++ args) (arg_values_used normal.args ++ targets_used (table_targets table)) v)),
            subst (λ z. Below (length f.blocks) (z.block ∷ map (λ t. t.block) (table_targets s.table))) a (subst (λ z. Below (length f.blocks) (normal.block ∷ map (λ t. t.block) (table_targets z))) c b),
          )
      parts (Plain p) e v b = absurd cc
      parts (Branches c) e v b = absurd cc
      parts SequencePoint e v b = absurd cc
      parts (Return vs) e v b = absurd cc
      parts (Call t args) e v b = absurd cc
      parts (ReturnCall t args) e v b = absurd cc

      site_in_range : SiteInRange s N
      site_in_range =
          let p = parts l.inst kind site_line.values site_line.blocks in
          let types = all_types f g at l i imp n q B made in
          let long = length-append f.slots q.slots in
          let longer = length-append f.sigs q.sigs in
          let most = length-append f.callees q.callees in
          let was = length-append f.callees i.callees.added in
          let e = ap length made.piece_sigs in
          let c = ap length made.piece_callees in
          let d = ap length declared in
          let wide = below_more (length f.types) (length f.types + length g.types) (omega arith) in
          record {
            tags = subst (λ z. Below N.slots (slots_shown z)) (sym tags) (below_more (length f.slots) N.slots (omega (arith, long)) (slots_shown l.tags) site_line.shown);
            normal = below_more (length f.types) N.values (omega (arith, types)) (arg_values_used s.normal.args) (below_left (length f.types) (arg_values_used s.normal.args) (targets_used (table_targets s.table)) p.0);
            block = let h = p.1.0 in omega (arith, h);
            table = below_more (length f.types) N.values (omega (arith, types)) (targets_used (table_targets s.table)) (below_right (length f.types) (arg_values_used s.normal.args) (targets_used (table_targets s.table)) p.0);
            blocks = below_more (length f.blocks) N.blocks (omega arith) (map (λ t. t.block) (table_targets s.table)) p.1.1;
            sigs = subst (Each (λ (c : Callee). c.sig < N.sigs)) (sym declared) (each_join (λ (c : Callee). c.sig < N.sigs) f.callees i.callees.added (each_more_sigs (length f.sigs) N.sigs f.callees (omega (arith, longer)) sf.callees) (each_more_sigs (length f.sigs + length i.sigs.added) N.sigs i.callees.added (omega (arith, longer, e)) imp.in_range));
            callees = omega (arith, most, was, c, d);
          }

      body_in_range : Each (BlockInRange N) B
      body_in_range = blocks_in_range n s (counts_of g) N (in_range f g at l i imp n q B made block_below) site_in_range (length f.blocks) g.blocks numbers (let m = many in omega (arith, m)) sg.blocks

      body_undefined : (v : ℕ) → In v (definitions B) → In v (definitions f.blocks) → ⊥
      body_undefined v j k = moved_undefined f g sf n values v ((tried_define n s g.blocks).inside v j) k

      pub try_prepared : IsLastPrepared f g at i q
      try_prepared =
          let m = many in
          let some : 0 < length B = let h = can.has_block in omega (arith, h, m) in
          let is_ready = ready f g at l i imp n q B made can.there can.last
          (record {
            few_slots = can.few_slots;
            few_sigs = can.few_sigs;
            few_callees = can.few_callees;
            few_values = can.few_values;
            few_blocks = let h = can.few_blocks in omega (arith, h, m);
            few_lines = let h = can.few_lines in let c = tried_count n s g.blocks in omega (arith, h, c);
          })
          (tried_numbers n s (length f.blocks) g.blocks numbers)
          body_in_range ((tried_define n s g.blocks).differ (shifted_differ n.values (definitions g.blocks) sg.defined_once)) body_undefined some (try_args l.inst tries (length f.types) site_line.values) in
          let new : ℕ → ℕ → ℕ = λ c j. get_or n.blocks c 0 + plain_calls (take j (lines_of c g.blocks)) + 1 in
          let p = own_splicing f g at l i imp n q B made new in
          prepared f g at l i imp n q B made new sg is_ready found
          (ap (after_blocks p) kind)
          (λ c j. ap (λ k. new_types_by p c k j) kind)
          can.has_block
          (first_of (λ b. get_or n.blocks b 0) (length f.blocks) g.blocks can.has_block numbers)
          (body_is p n s
          (record {
            kind = kind;
            tags = sym tags;
            callees = imp.callees ∙ sym declared;
            caller_value = λ v. refl;
            caller_block = λ b. refl;
            value = λ v. refl;
            block = λ b. refl;
            slots = sym slots;
            sig = λ k. imp.sig k ∙ ap₂ (λ (z : List ℕ) (d : ℕ). get_or z k d) (sym sigs) (sym made.sig_count);
            callee = λ k. imp.callee k ∙ ap₂ (λ (z : List ℕ) (d : ℕ). get_or z k d) (sym callees) (sym made.callee_count);
            new_block = λ c j. refl;
          })
          g.blocks (lines_at g.blocks sg.blocks_differ))
