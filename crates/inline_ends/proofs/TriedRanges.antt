-- The numbers in a body at a `try_call` are those of what the caller has then.
use Rattle.std.proofs.Common.{◌≡◌, ℕ, zero, suc, ◌+◌, ◌<◌, ◌≤◌, List, [], ◌∷◌, ◌++◌, map, length, get_or, Bool, true, false, Option, Some, None, refl, sym, ap, ◌∙◌, subst, arith, append_assoc}
use Rattle.std.specs.Prelude.{slice_get}
use Rattle.exn_tables.specs.declared.table.Entry.{Entry}
use Rattle.ir_core.specs.declared.declarations.Callee.{Callee}
use Rattle.ir_core.specs.declared.instructions.Arg.{Arg}
use Rattle.ir_core.specs.declared.instructions.Arg.TheVariants as arg
use Rattle.ir_core.specs.declared.instructions.BlockCall.{BlockCall}
use Rattle.ir_core.specs.Module.{CallTarget, Direct, Indirect, Instruction, Plain, Branches, SequencePoint, Return, Call, ReturnCall, TryCall, Line, Block}
use Rattle.ir_core.specs.Lists.{Each, Below}
use Rattle.ir_core.specs.Lookup.{block_numbers}
use Rattle.ir_core.specs.Uses.{values_used, operands, called_used, called_callees, called_sigs, callees_used, targets_used, table_targets, arg_values_used, slots_shown, blocks_used}
use Rattle.ir_core.specs.Sound.{Counts, LineInRange, BlockInRange}
use Rattle.ir_core.proofs.Members.{below_join, below_left, below_right, each_join}
use Rattle.ir_semantics.specs.Renaming.{instruction_under, target_under, entry_under}
use Rattle.ir_semantics.specs.Splice.{or_ret}
use Rattle.ir_semantics.proofs.Arguments.{rets_use}
use Rattle.inline_body.specs.declared.names.Names.{Names}
use Rattle.inline_body.specs.Named.{names_of}
use Rattle.inline_body.proofs.BodyRanges.{NamesInRange, below_mapped, both_shown, copied_in_range}
use Rattle.inline_body.proofs.BodyDefinitions.{counted}
use Rattle.inline_body.proofs.UsesUnder.{values_under, blocks_under, callees_under}
use Rattle.inline_ends.specs.Tried.{OuterTry, is_plain_call, plain_calls, plain_calls_in, numbered_with_calls, returned_arg, sig_called, try_of, try_line, to_next, tried_line, tried_lines, tried_block, tried_blocks}
use Rattle.inline_ends.proofs.TriedShape.{rest_of, made_of}

-- ---- lists

targets_joined : (xs ys : List (Entry BlockCall)) → targets_used (table_targets (xs ++ ys)) ≡ targets_used (table_targets xs) ++ targets_used (table_targets ys)
targets_joined [] ys = refl
targets_joined (x ∷ xs) ys = ap (λ z. arg_values_used x.target.args ++ z) (targets_joined xs ys) ∙ sym (append_assoc (arg_values_used x.target.args) (targets_used (table_targets xs)) (targets_used (table_targets ys)))

blocks_joined : (xs ys : List (Entry BlockCall)) → map (λ t. t.block) (table_targets (xs ++ ys)) ≡ map (λ t. t.block) (table_targets xs) ++ map (λ t. t.block) (table_targets ys)
blocks_joined [] ys = refl
blocks_joined (x ∷ xs) ys = ap (λ z. x.target.block ∷ z) (blocks_joined xs ys)

returned_used : (m : ℕ) (ws : List ℕ) (as' : List Arg) → Below m ws → Below m (arg_values_used as') → Below m (arg_values_used (map (returned_arg ws) as'))
returned_used m ws [] b h = tt
returned_used m ws (arg.Value v ∷ as') b h = (h.0, returned_used m ws as' b h.1)
returned_used m ws (arg.Ret i ∷ as') b h = go (slice_get ws i) refl (returned_used m ws as' b h)
  where
    get_below : (xs : List ℕ) (k v : ℕ) → Below m xs → slice_get xs k ≡ Some v → v < m
    get_below [] k v b e = cc
    get_below (x ∷ xs) zero v b e = let q : x ≡ v = cc in subst (λ (z : ℕ). z < m) q b.0
    get_below (x ∷ xs) (suc k) v b e = get_below xs k v b.1 e

    go : (o : Option ℕ) → slice_get ws i ≡ o → Below m (arg_values_used (map (returned_arg ws) as')) → Below m (arg_values_used (or_ret i o ∷ map (returned_arg ws) as'))
    go None e r = r
    go (Some v) e r = (get_below ws i v b e, r)
returned_used m ws (arg.Exn i ∷ as') b h = returned_used m ws as' b h

each_get : (P : Callee → Type 0) (cs : List Callee) (k : ℕ) (d : ℕ) → Each P cs → k < length cs → (c : Callee) × (slice_get cs k ≡ Some c) × P c
each_get P [] k d h e = absurd (omega (arith, e))
each_get P (c ∷ cs) zero d h e = (c, refl, h.0)
each_get P (c ∷ cs) (suc k) d h e = each_get P cs k d h.1 (omega (arith, e))

-- the site's own numbers are in range
pub record SiteInRange (s : OuterTry) (N : Counts) : Type 0 where
  pub tags : Below N.slots (slots_shown s.tags)
  pub normal : Below N.values (arg_values_used s.normal.args)
  pub block : s.normal.block < N.blocks
  pub table : Below N.values (targets_used (table_targets s.table))
  pub blocks : Below N.blocks (map (λ t. t.block) (table_targets s.table))
  pub sigs : Each (λ (c : Callee). c.sig < N.sigs) s.callees
  pub callees : length s.callees ≡ N.callees

module _ (n : Names) (s : OuterTry) (G N : Counts) (fit : NamesInRange n G N) (site : SiteInRange s N) where
  sig_below : (t : CallTarget) → Below N.callees (called_callees t) → Below N.sigs (called_sigs t) → sig_called s.callees t < N.sigs
  sig_below (Direct k) c g =
      let long = site.callees in
      let low = c.0 in
      let found = each_get (λ (x : Callee). x.sig < N.sigs) s.callees k 0 site.sigs (omega (arith, long, low)) in
      subst (λ (z : ℕ). z < N.sigs) (sym (ap (λ (o : Option Callee). elim o [ None ↦ 0 | Some x ↦ x.sig ]) found.1)) found.2
  sig_below (Indirect a b) c g = g.0

  -- a `try_call` with the site's table
  try_in_range : (l : Line) (t : CallTarget) (args : List ℕ) (own : BlockCall) → Below N.values (arg_values_used own.args) → own.block < N.blocks → Below G.values (called_used t ++ args) → Below G.callees (called_callees t) → Below G.sigs (called_sigs t) → Below G.slots (slots_shown l.tags) → LineInRange N (try_line n s l (try_of n s t args own))
  try_in_range l (Direct k) args own va vb hv hc hs ht =
      record {
        values = below_join N.values (map (names_of n).value args) (arg_values_used own.args ++ targets_used (table_targets s.table)) (below_mapped (names_of n).value G.values N.values fit.values args hv) (below_join N.values (arg_values_used own.args) (targets_used (table_targets s.table)) va site.table);
        blocks = (vb, site.blocks);
        slots = tt;
        shown = both_shown n G N fit s.tags site.tags l.tags ht;
        callees = (fit.callees k hc.0, tt);
        sigs = (sig_below (Direct ((names_of n).callee k)) (fit.callees k hc.0, tt) tt, tt);
        results = tt;
      }
  try_in_range l (Indirect a b) args own va vb hv hc hs ht =
      record {
        values = (fit.values b hv.0, below_join N.values (map (names_of n).value args) (arg_values_used own.args ++ targets_used (table_targets s.table)) (below_mapped (names_of n).value G.values N.values fit.values args hv.1) (below_join N.values (arg_values_used own.args) (targets_used (table_targets s.table)) va site.table));
        blocks = (vb, site.blocks);
        slots = tt;
        shown = both_shown n G N fit s.tags site.tags l.tags ht;
        callees = tt;
        sigs = (fit.sigs a hs.0, tt);
        results = tt;
      }

  tried_in_range : (next : ℕ) → next < N.blocks → (l : Line) (i : Instruction) → l.inst ≡ i → LineInRange G l → LineInRange N (tried_line n s next l i)
  tried_in_range next hn l (Plain x) e h = copied_in_range n G N fit s.tags site.tags l h
  tried_in_range next hn l (Branches x) e h = copied_in_range n G N fit s.tags site.tags l h
  tried_in_range next hn l SequencePoint e h = copied_in_range n G N fit s.tags site.tags l h
  tried_in_range next hn l (Return vs) e h =
      let used : Below G.values (vs ++ []) = subst (λ (z : Instruction). Below G.values (values_used z)) e h.values in
      let moved = below_mapped (names_of n).value G.values N.values fit.values vs (below_left G.values vs [] used) in
      record {
        values = below_join N.values (arg_values_used (map (returned_arg (map (names_of n).value vs)) s.normal.args)) [] (returned_used N.values (map (names_of n).value vs) s.normal.args moved site.normal) tt;
        blocks = (site.block, tt);
        slots = tt;
        shown = tt;
        callees = tt;
        sigs = tt;
        results = tt;
      }
  tried_in_range next hn l (Call t args) e h =
      let g : LineInRange G (record l { inst = Call t args }) = subst (λ (z : Instruction). LineInRange G (record l { inst = z })) e h in
      try_in_range l t args (to_next next l) (subst (Below N.values) (sym (rets_use 0 (length l.results))) tt) hn (below_left G.values (called_used t ++ args) [] g.values) g.callees g.sigs h.shown
  tried_in_range next hn l (ReturnCall t args) e h =
      let g : LineInRange G (record l { inst = ReturnCall t args }) = subst (λ (z : Instruction). LineInRange G (record l { inst = z })) e h in
      try_in_range l t args s.normal site.normal site.block (below_left G.values (called_used t ++ args) [] g.values) g.callees g.sigs h.shown
  tried_in_range next hn l (TryCall t sig args own inner) e h =
      let i = TryCall t sig args own inner in
      let j = instruction_under (names_of n) i in
      let g : LineInRange G (record l { inst = i }) = subst (λ (z : Instruction). LineInRange G (record l { inst = z })) e h in
      let values : Below N.values (values_used j) = subst (Below N.values) (sym (values_under (names_of n) i)) (below_mapped (names_of n).value G.values N.values fit.values (values_used i) g.values) in
      let blocks : Below N.blocks (blocks_used j) = subst (Below N.blocks) (sym (blocks_under (names_of n) i)) (below_mapped (names_of n).block G.blocks N.blocks fit.blocks (blocks_used i) g.blocks) in
      let callees : Below N.callees (callees_used j) = subst (Below N.callees) (sym (callees_under (names_of n) i)) (below_mapped (names_of n).callee G.callees N.callees fit.callees (callees_used i) g.callees) in
      let own' = target_under (names_of n) own in
      let inner' = map (entry_under (names_of n)) inner in
      let O = operands j in
      let A = arg_values_used own'.args in
      let T = targets_used (table_targets inner') in
      let rest = below_right N.values O (A ++ T) values in
      record {
        values =
            below_join N.values O (A ++ targets_used (table_targets (inner' ++ s.table))) (below_left N.values O (A ++ T) values)
            (below_join N.values A (targets_used (table_targets (inner' ++ s.table))) (below_left N.values A T rest)
            (subst (Below N.values) (sym (targets_joined inner' s.table)) (below_join N.values T (targets_used (table_targets s.table)) (below_right N.values A T rest) site.table)));
        blocks = (blocks.0, subst (Below N.blocks) (sym (blocks_joined inner' s.table)) (below_join N.blocks (map (λ t. t.block) (table_targets inner')) (map (λ t. t.block) (table_targets s.table)) blocks.1 site.blocks));
        slots = tt;
        shown = both_shown n G N fit s.tags site.tags l.tags h.shown;
        callees = callees;
        sigs = (fit.sigs sig g.sigs.0, tt);
        results = tt;
      }

  -- a block's lines, and the blocks behind its calls
  lines_in_range : (next : ℕ) (ls : List Line) → next + plain_calls ls ≤ N.blocks → 0 < N.blocks → Each (LineInRange G) ls → Each (LineInRange N) (tried_lines n s next ls).lines × Each (BlockInRange N) (tried_lines n s next ls).more
  lines_in_range next [] hn hz h = (tt, tt)
  lines_in_range next (l ∷ ls) hn hz h = go (is_plain_call l.inst) refl (λ k. lines_in_range (next + 1) ls k hz h.1) (λ k. lines_in_range next ls k hz h.1)
    where
      -- a line that is no plain call does not name the next block
      other : is_plain_call l.inst ≡ false → LineInRange N (tried_line n s next l l.inst)
      other e = by_kind l.inst refl e
        where
          by_kind : (i : Instruction) → l.inst ≡ i → is_plain_call i ≡ false → LineInRange N (tried_line n s next l i)
          by_kind (Call t args) q e = absurd (let z : true ≡ false = e in cc)
          by_kind (Plain x) q e = tried_in_range 0 hz l (Plain x) q h.0
          by_kind (Branches x) q e = tried_in_range 0 hz l (Branches x) q h.0
          by_kind SequencePoint q e = tried_in_range 0 hz l SequencePoint q h.0
          by_kind (Return vs) q e = tried_in_range 0 hz l (Return vs) q h.0
          by_kind (ReturnCall t args) q e = tried_in_range 0 hz l (ReturnCall t args) q h.0
          by_kind (TryCall t sig args own inner) q e = tried_in_range 0 hz l (TryCall t sig args own inner) q h.0

      go : (c : Bool) → is_plain_call l.inst ≡ c → (next + 1 + plain_calls ls ≤ N.blocks → Each (LineInRange N) (rest_of n s next ls true).lines × Each (BlockInRange N) (rest_of n s next ls true).more) → (next + plain_calls ls ≤ N.blocks → Each (LineInRange N) (rest_of n s next ls false).lines × Each (BlockInRange N) (rest_of n s next ls false).more) → Each (LineInRange N) (made_of n s next l ls c).lines × Each (BlockInRange N) (made_of n s next l ls c).more
      go true e a b =
          let one : counted (is_plain_call l.inst) ≡ counted true = ap counted e in
          let r = a (omega (arith, hn, one)) in
          ((tried_in_range next (omega (arith, hn, one)) l l.inst refl h.0, tt), (record { params = below_mapped (names_of n).value G.values N.values fit.values l.results (h.0).results; lines = r.0 }, r.1))
      go false e a b =
          let r = b (omega (arith, hn)) in
          ((other e, r.0), r.1)

  pub blocks_in_range : (first : ℕ) (bs : List Block) → map (λ b. get_or n.blocks b 0) (block_numbers bs) ≡ numbered_with_calls first bs → first + length bs + plain_calls_in bs ≤ N.blocks → Each (BlockInRange G) bs → Each (BlockInRange N) (tried_blocks n s bs)
  blocks_in_range first [] e hn h = tt
  blocks_in_range first (b ∷ bs) e hn h =
      let k : get_or n.blocks b.number 0 ≡ first = cc in
      let r : map (λ b. get_or n.blocks b 0) (block_numbers bs) ≡ numbered_with_calls (first + plain_calls b.lines + 1) bs = cc in
      let lines = lines_in_range (get_or n.blocks b.number 0 + 1) b.lines (omega (arith, hn, k)) (omega (arith, hn)) (h.0).lines in
      each_join (BlockInRange N) (tried_block n s b) (tried_blocks n s bs) (record { params = below_mapped (names_of n).value G.values N.values fit.values b.params (h.0).params; lines = lines.0 }, lines.1) (blocks_in_range (first + plain_calls b.lines + 1) bs r (omega (arith, hn)) h.1)
