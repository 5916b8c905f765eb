-- The numbers in a body are those of what the caller has then.
use Rattle.std.proofs.Common.{◌≡◌, ℕ, suc, ◌+◌, ◌<◌, ◌≤◌, ◌^◌, List, [], ◌∷◌, ◌++◌, map, length, get_or, Bool, true, false, refl, sym, ap, ◌∙◌, subst, arith}
use Rattle.std.specs.Prelude.{if◌then◌else◌}
use Rattle.debug_tags.specs.declared.tags.Tag.{Tag}
use Rattle.debug_tags.specs.declared.tags.Tag.TheVariants as tag
use Rattle.ir_core.specs.declared.instructions.Arg.TheVariants as arg
use Rattle.ir_core.specs.Module.{CallTarget, Instruction, Plain, Branches, SequencePoint, Return, Call, ReturnCall, TryCall, Line, Block}
use Rattle.ir_core.specs.Lists.{Each, Below}
use Rattle.ir_core.specs.Uses.{values_used, targets_used, slots_used, slots_shown, callees_used, sigs_used, blocks_used}
use Rattle.ir_core.specs.Sound.{Counts, LineInRange, BlockInRange}
use Rattle.ir_core.proofs.Members.{each_more, each_join, below_join, below_left}
use Rattle.ir_semantics.specs.Renaming.{tag_under, instruction_under, called_under}
use Rattle.ir_semantics.proofs.Arguments.{value_args_used}
use Rattle.inline_body.specs.declared.names.Names.{Names}
use Rattle.inline_body.specs.Named.{names_of, Moves, Reached}
use Rattle.inline_body.specs.Inlined.{takes_tags, copied_tags, copied_line, jump_line, call_in_place, inlined_line, inlined_lines, results_from, inlined_block, BlockReached}
use Rattle.inline_body.specs.Results.{is_tail_call, tail_calls}
use Rattle.inline_body.proofs.UsesUnder.{values_under, blocks_under, slots_under, callees_under, sigs_under, shown_under}

pub below_mapped : (h : ℕ → ℕ) (m k : ℕ) → ((v : ℕ) → v < m → h v < k) → (xs : List ℕ) → Below m xs → Below k (map h xs)
below_mapped h m k f [] b = tt
below_mapped h m k f (x ∷ xs) b = (f x b.0, below_mapped h m k f xs b.1)

pub each_below : (P : ℕ → Type 0) (m : ℕ) → ((v : ℕ) → v < m → P v) → (xs : List ℕ) → Below m xs → Each P xs
each_below P m f [] b = tt
each_below P m f (x ∷ xs) b = (f x b.0, each_below P m f xs b.1)

shown_join : (xs ys : List Tag) → slots_shown (xs ++ ys) ≡ slots_shown xs ++ slots_shown ys
shown_join [] ys = refl
shown_join (tag.User n ∷ xs) ys = shown_join xs ys
shown_join (tag.Slot k ∷ xs) ys = ap (λ z. k ∷ z) (shown_join xs ys)

-- each number of the callee has one that the caller has then
pub record NamesInRange (n : Names) (G N : Counts) : Type 0 where
  pub values : (v : ℕ) → v < G.values → n.values + v < N.values
  pub blocks : (b : ℕ) → b < G.blocks → get_or n.blocks b 0 < N.blocks
  pub slots : (k : ℕ) → k < G.slots → n.slots + k < N.slots
  pub sigs : (k : ℕ) → k < G.sigs → get_or n.sigs k n.sig_count < N.sigs
  pub callees : (k : ℕ) → k < G.callees → get_or n.callees k n.callee_count < N.callees

pub jump_in_range : (N : Counts) (b : ℕ) (vs : List ℕ) → b < N.blocks → Below N.values vs → LineInRange N (jump_line b vs)
jump_in_range N b vs hb hv = record { values = subst (Below N.values) (sym (value_args_used vs)) hv; blocks = (hb, tt); slots = tt; shown = tt; callees = tt; sigs = tt; results = tt }

module _ (n : Names) (G N : Counts) (fit : NamesInRange n G N) (outer : List Tag) (shown : Below N.slots (slots_shown outer)) where
  inner_shown : (ts : List Tag) → Below G.slots (slots_shown ts) → Below N.slots (slots_shown (map (tag_under (names_of n)) ts))
  inner_shown ts h = subst (Below N.slots) (sym (shown_under (names_of n) ts)) (below_mapped (names_of n).slot G.slots N.slots fit.slots (slots_shown ts) h)

  pub both_shown : (ts : List Tag) → Below G.slots (slots_shown ts) → Below N.slots (slots_shown (outer ++ map (tag_under (names_of n)) ts))
  both_shown ts h = subst (Below N.slots) (sym (shown_join outer (map (tag_under (names_of n)) ts))) (below_join N.slots (slots_shown outer) (slots_shown (map (tag_under (names_of n)) ts)) shown (inner_shown ts h))

  line_with_tags : (l : Line) (ts : List Tag) → Below N.slots (slots_shown ts) → (rs : List ℕ) → Below N.values rs → LineInRange G l → LineInRange N (record { inst = instruction_under (names_of n) l.inst; ty = l.ty; results = rs; tags = ts })
  line_with_tags l ts hs rs hr h =
      record {
        values = subst (Below N.values) (sym (values_under (names_of n) l.inst)) (below_mapped (names_of n).value G.values N.values fit.values (values_used l.inst) h.values);
        blocks = subst (Below N.blocks) (sym (blocks_under (names_of n) l.inst)) (below_mapped (names_of n).block G.blocks N.blocks fit.blocks (blocks_used l.inst) h.blocks);
        slots = subst (Below N.slots) (sym (slots_under (names_of n) l.inst)) (below_mapped (names_of n).slot G.slots N.slots fit.slots (slots_used l.inst) h.slots);
        shown = hs;
        callees = subst (Below N.callees) (sym (callees_under (names_of n) l.inst)) (below_mapped (names_of n).callee G.callees N.callees fit.callees (callees_used l.inst) h.callees);
        sigs = subst (Below N.sigs) (sym (sigs_under (names_of n) l.inst)) (below_mapped (names_of n).sig G.sigs N.sigs fit.sigs (sigs_used l.inst) h.sigs);
        results = hr;
      }

  pub copied_in_range : (l : Line) → LineInRange G l → LineInRange N (copied_line n outer l)
  copied_in_range l h = line_with_tags l (copied_tags n outer l.inst l.tags) (go (takes_tags l.inst)) (map (names_of n).value l.results) (below_mapped (names_of n).value G.values N.values fit.values l.results h.results) h
    where
      go : (b : Bool) → Below N.slots (slots_shown (if b then outer ++ map (tag_under (names_of n)) l.tags else map (tag_under (names_of n)) l.tags))
      go true = both_shown l.tags h.shown
      go false = inner_shown l.tags h.shown

  -- the block behind the body, to which it returns
  module _ (after : ℕ) (after_there : after < N.blocks) where
    line_in_range : (rs : List ℕ) (l : Line) (i : Instruction) → (is_tail_call i ≡ true → Below N.values rs) → l.inst ≡ i → LineInRange G l → Each (LineInRange N) (inlined_line n outer after rs l i)
    line_in_range rs l (Plain p) hr e h = (copied_in_range l h, tt)
    line_in_range rs l (Branches b) hr e h = (copied_in_range l h, tt)
    line_in_range rs l SequencePoint hr e h = (copied_in_range l h, tt)
    line_in_range rs l (Return vs) hr e h =
        let used : Below G.values (vs ++ []) = subst (λ (z : Instruction). Below G.values (values_used z)) e h.values in
        (jump_in_range N after (map (names_of n).value vs) after_there (below_mapped (names_of n).value G.values N.values fit.values vs (below_left G.values vs [] used)), tt)
    line_in_range rs l (Call t args) hr e h = (copied_in_range l h, tt)
    line_in_range rs l (ReturnCall t args) hr e h =
        let whole = line_with_tags l (outer ++ map (tag_under (names_of n)) l.tags) (both_shown l.tags h.shown) rs (hr refl) h in
        let z : LineInRange N (record { inst = instruction_under (names_of n) (ReturnCall t args); ty = l.ty; results = rs; tags = outer ++ map (tag_under (names_of n)) l.tags }) = subst (λ (z : Instruction). LineInRange N (record { inst = instruction_under (names_of n) z; ty = l.ty; results = rs; tags = outer ++ map (tag_under (names_of n)) l.tags })) e whole in
        (record { values = z.values; blocks = z.blocks; slots = z.slots; shown = z.shown; callees = z.callees; sigs = z.sigs; results = z.results }, (jump_in_range N after rs after_there (hr refl), tt))
    line_in_range rs l (TryCall t sig args normal table) hr e h = (copied_in_range l h, tt)

    lines_in_range : (rs : List ℕ) (ls : List Line) → (0 < tail_calls ls → Below N.values rs) → Each (LineInRange G) ls → Each (LineInRange N) (inlined_lines n outer after rs ls)
    lines_in_range rs [] hr h = tt
    lines_in_range rs (l ∷ ls) hr h =
        each_join (LineInRange N) (inlined_line n outer after rs l l.inst) (inlined_lines n outer after rs ls) (line_in_range rs l l.inst (λ t. hr (let one : Bool → ℕ = λ b. if b then 1 else 0 in let c : one (is_tail_call l.inst) ≡ one true = ap one t in omega (arith, c))) refl h.0) (lines_in_range rs ls (λ k. hr (omega (arith, k))) h.1)

    pub blocks_in_range : (starts : List ℕ) (count : ℕ) → (bs : List Block) → Each (λ b. 0 < tail_calls b.lines → Below N.values (results_from starts count b.number)) bs → Each (BlockInRange G) bs → Each (BlockInRange N) (map (inlined_block n outer after starts count) bs)
    blocks_in_range starts count [] hr h = tt
    blocks_in_range starts count (b ∷ bs) hr h =
        (record { params = below_mapped (names_of n).value G.values N.values fit.values b.params (h.0).params; lines = lines_in_range (results_from starts count b.number) b.lines hr.0 (h.0).lines }, blocks_in_range starts count bs hr.1 h.1)

-- what the copies ask of the callee's lines
pub record NamesReach (n : Names) (G : Counts) : Type 0 where
  pub values : n.values + G.values < 2 ^ 32
  pub slots : n.slots + G.slots < 2 ^ 32
  pub blocks : length n.blocks ≡ G.blocks
  pub callees : length n.callees ≡ G.callees
  pub sigs : length n.sigs ≡ G.sigs

module _ (n : Names) (G : Counts) (reach : NamesReach n G) where
  pub value_moves : (v : ℕ) → v < G.values → Moves n.values v
  value_moves v h = let r = reach.values in omega (arith, r, h)

  slot_moves : (k : ℕ) → k < G.slots → Moves n.slots k
  slot_moves k h = let r = reach.slots in omega (arith, r, h)

  line_reached : (l : Line) → LineInRange G l → Reached n l
  line_reached l h =
      record {
        values = each_below (Moves n.values) G.values value_moves (values_used l.inst) h.values;
        blocks = subst (λ (m : ℕ). Below m (blocks_used l.inst)) (sym reach.blocks) h.blocks;
        slots = each_below (Moves n.slots) G.slots slot_moves (slots_used l.inst) h.slots;
        shown = each_below (Moves n.slots) G.slots slot_moves (slots_shown l.tags) h.shown;
        callees = subst (λ (m : ℕ). Below m (callees_used l.inst)) (sym reach.callees) h.callees;
        sigs = subst (λ (m : ℕ). Below m (sigs_used l.inst)) (sym reach.sigs) h.sigs;
        results = each_below (Moves n.values) G.values value_moves l.results h.results;
      }

  pub lines_reached : (ls : List Line) → Each (LineInRange G) ls → Each (Reached n) ls
  lines_reached [] h = tt
  lines_reached (l ∷ ls) h = (line_reached l h.0, lines_reached ls h.1)

  pub blocks_reached : (starts : List ℕ) (count : ℕ) → length starts ≡ G.blocks → (bs : List Block) → Each (BlockInRange G) bs → Each (λ b. b.number < G.blocks) bs → Each (λ b. get_or starts b.number 0 + count ≤ 2 ^ 32) bs → Each (BlockReached n starts count) bs
  blocks_reached starts count e [] h there fits = tt
  blocks_reached starts count e (b ∷ bs) h there fits =
      let t = there.0 in
      let k = reach.blocks in
      (record { number = omega (arith, t, k); start = omega (arith, t, e); fits = fits.0; params = each_below (Moves n.values) G.values value_moves b.params (h.0).params; lines = lines_reached b.lines (h.0).lines }, blocks_reached starts count e bs h.1 there.1 fits.1)
