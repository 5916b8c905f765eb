-- The raw function of a whole function: its words mean the canonical numbers.
use Rattle.std.proofs.Common.{◌≡◌, ℕ, ◌+◌, ◌<◌, List, [], ◌∷◌, ◌++◌, map, length, Option, refl, sym, ap, ap₂, subst, ◌∙◌, arith, append_assoc}
use Rattle.std.specs.Prelude.{flat_map}
use Rattle.std.specs.List.{range_with_len}
use Rattle.std.proofs.lemmas.Grind.{flat_map-append}
use Rattle.std.proofs.lemmas.List.{map-append, append-nil}
use Rattle.ir_core.specs.Lists.{In, Each, Different}
use Rattle.ir_core.specs.Lookup.{line_definitions, definitions, block_numbers, number_in}
use Rattle.ir_core.specs.Module.{Line, Block, Function}
use Rattle.ir_text.specs.Numbering.{Numbering, numbering_of}
use Rattle.ir_semantics.specs.Canon.{canonical_names}
use Rattle.ir_semantics.specs.Renaming.{Renaming, line_under}
use Rattle.ir_text.specs.TextInstructions.{next_after}
use Rattle.ir_core.specs.declared.declarations.Callee.{Callee}
use Rattle.ir_core.specs.declared.signatures.Sig.{Sig}
use Rattle.ir_core.specs.Uses.{values_used, blocks_used, slots_used, slots_shown, sigs_used, callees_used}
use Rattle.ir_core.specs.WellFormed.{declared, LineWellFormed, WellFormed}
use Rattle.token_reader.specs.declared.raw.RawName.{RawName}
use Rattle.name_tables.specs.declared.firsts.Def.{Def}
use Rattle.name_tables.specs.Definitions.{Param, Line as Written, value_def, step_defs, block_steps, value_defs, slot_names, sig_names, callee_names}
use Rattle.name_tables.specs.Words.{place_among, place_in}
use Rattle.name_tables.specs.Chains.{numbered, IsNumbering}
use Rattle.clif_meaning.specs.Meaning.{numbers, decl_sigs, sig_place, callees_from}
use Rattle.text_read_back.specs.Defining.{number_of}
use Rattle.text_read_back.specs.RawOf as raws
use Rattle.ir_core.proofs.Members.{each_more}
use Rattle.text_read_back.proofs.Lists.{map_both, below_length, places}
use Rattle.names_read_back.specs.ReadNames.{read_under}
use Rattle.names_read_back.proofs.Names.{own_place, IsNoAlias, plain_numbering}
use Rattle.names_read_back.proofs.Declarations.{three, none_of, slot_words_from, sig_words_from, callee_words_from, sig_from, decls_of, callees_back}
use Rattle.names_read_back.proofs.Agreeing.{line_agrees}

-- words that are numbered by place mean the canonical places
numbered_place : (xs words : List ℕ) (v : ℕ) → Different xs → words ≡ map (number_in xs) xs → In v xs → place_among words (number_in xs v) ≡ number_in xs v
numbered_place xs words v d e h =
    ap (λ (ws : List ℕ). place_among ws (number_in xs v)) (e ∙ places xs d) ∙ own_place (length xs) (number_in xs v) (below_length xs v h)

-- ---- the definitions of a raw function

module _ (f : Function) (n : Numbering) where
  abbrev pub def_at : ℕ → Def
  def_at v = value_def (raws.value n v)

  pub params_defs : (vs : List ℕ) → flat_map step_defs (map Param (map (raws.block_parameter f n) vs)) ≡ map def_at vs
  params_defs [] = refl
  params_defs (v ∷ vs) = ap (λ (ds : List Def). def_at v ∷ ds) (params_defs vs)

  lines_defs : (next : ℕ) (ls : List Line) → flat_map step_defs (map Written (raws.lines f n next ls)) ≡ map def_at (line_definitions ls)
  lines_defs next [] = refl
  lines_defs next (l ∷ ls) =
      ap₂ (λ (xs ys : List Def). xs ++ ys) (map_both (raws.value n) value_def l.results) (lines_defs (next + length l.results) ls)
      ∙ sym (map-append def_at l.results (line_definitions ls))

  pub block_defs : (next : ℕ) (b : Block) → flat_map step_defs (block_steps (raws.block f n next b)) ≡ map def_at (b.params ++ line_definitions b.lines)
  block_defs next b =
      flat_map-append step_defs (map Param (map (raws.block_parameter f n) b.params)) (map Written (raws.lines f n (next + length b.params) b.lines))
      ∙ ap₂ (λ (xs ys : List Def). xs ++ ys) (params_defs b.params) (lines_defs (next + length b.params) b.lines)
      ∙ sym (map-append def_at b.params (line_definitions b.lines))

  pub blocks_defs : (next : ℕ) (bs : List Block) → flat_map step_defs (flat_map block_steps (raws.blocks f n next bs)) ≡ map def_at (definitions bs)
  blocks_defs next [] = refl
  blocks_defs next (b ∷ bs) =
      flat_map-append step_defs (block_steps (raws.block f n next b)) (flat_map block_steps (raws.blocks f n (next_after next b) bs))
      ∙ ap₂ (λ (xs ys : List Def). xs ++ ys) (block_defs next b) (blocks_defs (next_after next b) bs)
      ∙ sym (map-append def_at (b.params ++ line_definitions b.lines) (definitions bs))
      ∙ ap (map def_at) (append_assoc b.params (line_definitions b.lines) (definitions bs))

  no_alias : (vs : List ℕ) → Each IsNoAlias (map def_at vs)
  no_alias [] = tt
  no_alias (v ∷ vs) = (refl, no_alias vs)

  their_words : (vs : List ℕ) → map number_of (numbered (map def_at vs)) ≡ map (number_in n.values) vs
  their_words [] = refl
  their_words (v ∷ vs) = ap (λ (z : List ℕ). number_in n.values v ∷ z) (their_words vs)

  def_words : (vs : List ℕ) → map number_of (map (λ d. d.name) (map def_at vs)) ≡ map (number_in n.values) vs
  def_words [] = refl
  def_words (v ∷ vs) = ap (λ (z : List ℕ). number_in n.values v ∷ z) (def_words vs)

  block_words : (next : ℕ) (bs : List Block) → map number_of (map (λ b. b.block) (raws.blocks f n next bs)) ≡ map (number_in n.blocks) (block_numbers bs)
  block_words next [] = refl
  block_words next (b ∷ bs) = ap (λ (z : List ℕ). number_in n.blocks b.number ∷ z) (block_words (next_after next b) bs)

-- ---- a whole function

module _ (f : Function) (is : WellFormed f) where
  abbrev pub value_number : ℕ → ℕ
  value_number = place_in (numbered (value_defs (raws.raw_function f)))

  abbrev pub read_names : Renaming
  read_names = read_under (numbering_of f) (numbers (raws.raw_function f) value_number)

  pub none_aliased : Each IsNoAlias (value_defs (raws.raw_function f))
  none_aliased = subst (Each IsNoAlias) (sym (blocks_defs f (numbering_of f) 0 f.blocks)) (no_alias f (numbering_of f) (definitions f.blocks))

  pub is_numbering : IsNumbering (value_defs (raws.raw_function f)) value_number
  is_numbering = plain_numbering (value_defs (raws.raw_function f)) none_aliased

  pub values_canonical : (v : ℕ) → In v (definitions f.blocks) → read_names.value v ≡ (canonical_names f).value v
  values_canonical v h = numbered_place (definitions f.blocks) (map number_of (numbered (value_defs (raws.raw_function f)))) v is.defined_once
      (ap (λ (ds : List Def). map number_of (numbered ds)) (blocks_defs f (numbering_of f) 0 f.blocks) ∙ their_words f (numbering_of f) (definitions f.blocks)) h

  pub blocks_canonical : (b : ℕ) → In b (block_numbers f.blocks) → read_names.block b ≡ (canonical_names f).block b
  blocks_canonical b h = numbered_place (block_numbers f.blocks) (map number_of (map (λ b. b.block) (raws.raw_function f).blocks)) b is.blocks (block_words f (numbering_of f) 0 f.blocks) h

  pub slot_words_are : map number_of (flat_map slot_names (decls_of f)) ≡ range_with_len 0 (length f.slots)
  slot_words_are =
      ap (λ (ns : List RawName). map number_of ns) (
      three slot_names (raws.numbered raws.slot_decl 0 f.slots) (raws.numbered raws.sig_decl 0 f.sigs) (raws.numbered raws.callee_decl 0 f.callees)
      ∙ ap₂ (λ (x y : List RawName). flat_map slot_names (raws.numbered raws.slot_decl 0 f.slots) ++ (x ++ y)) (none_of slot_names raws.sig_decl (λ k x. refl) 0 f.sigs) (none_of slot_names raws.callee_decl (λ k x. refl) 0 f.callees)
      ∙ append-nil (flat_map slot_names (raws.numbered raws.slot_decl 0 f.slots)))
      ∙ slot_words_from 0 f.slots

  pub slots_canonical : (k : ℕ) → k < length f.slots → read_names.slot k ≡ k
  slots_canonical k h = ap (λ (ns : List ℕ). place_among ns k) slot_words_are ∙ own_place (length f.slots) k h

  pub callee_words_are : map number_of (flat_map callee_names (decls_of f)) ≡ range_with_len 0 (length f.callees)
  callee_words_are =
      ap (λ (ns : List RawName). map number_of ns) (
      three callee_names (raws.numbered raws.slot_decl 0 f.slots) (raws.numbered raws.sig_decl 0 f.sigs) (raws.numbered raws.callee_decl 0 f.callees)
      ∙ ap₂ (λ (x y : List RawName). x ++ (y ++ flat_map callee_names (raws.numbered raws.callee_decl 0 f.callees))) (none_of callee_names raws.slot_decl (λ k x. refl) 0 f.slots) (none_of callee_names raws.sig_decl (λ k x. refl) 0 f.sigs))
      ∙ callee_words_from 0 f.callees

  pub callees_canonical : (k : ℕ) → k < length f.callees → read_names.callee k ≡ k
  callees_canonical k h = ap (λ (ns : List ℕ). place_among ns k) callee_words_are ∙ own_place (length f.callees) k h

  pub sig_words_are : map number_of (flat_map sig_names (decls_of f)) ≡ range_with_len 0 (length f.sigs)
  sig_words_are =
      ap (λ (ns : List RawName). map number_of ns) (
      three sig_names (raws.numbered raws.slot_decl 0 f.slots) (raws.numbered raws.sig_decl 0 f.sigs) (raws.numbered raws.callee_decl 0 f.callees)
      ∙ ap₂ (λ (x y : List RawName). x ++ (flat_map sig_names (raws.numbered raws.sig_decl 0 f.sigs) ++ y)) (none_of sig_names raws.slot_decl (λ k x. refl) 0 f.slots) (none_of sig_names raws.callee_decl (λ k x. refl) 0 f.callees)
      ∙ append-nil (flat_map sig_names (raws.numbered raws.sig_decl 0 f.sigs)))
      ∙ sig_words_from 0 f.sigs

  -- values and blocks are defined in order
  pub value_words_are : map number_of (map (λ d. d.name) (value_defs (raws.raw_function f))) ≡ range_with_len 0 (length (definitions f.blocks))
  value_words_are =
      ap (λ (ds : List Def). map number_of (map (λ d. d.name) ds)) (blocks_defs f (numbering_of f) 0 f.blocks) ∙ def_words f (numbering_of f) (definitions f.blocks) ∙ places (definitions f.blocks) is.defined_once

  pub block_words_are : map number_of (map (λ b. b.block) (raws.raw_function f).blocks) ≡ range_with_len 0 (length (block_numbers f.blocks))
  block_words_are = block_words f (numbering_of f) 0 f.blocks ∙ places (block_numbers f.blocks) is.blocks

  pub sigs_canonical : (k : ℕ) → k < length f.sigs → read_names.sig k ≡ k
  sigs_canonical k h =
      ap (λ (ss : List (Option RawName × Sig)). sig_place ss k) (
      three decl_sigs (raws.numbered raws.slot_decl 0 f.slots) (raws.numbered raws.sig_decl 0 f.sigs) (raws.numbered raws.callee_decl 0 f.callees)
      ∙ ap₂ (λ (x y : List (Option RawName × Sig)). x ++ (flat_map decl_sigs (raws.numbered raws.sig_decl 0 f.sigs) ++ y)) (none_of decl_sigs raws.slot_decl (λ k x. refl) 0 f.slots) (none_of decl_sigs raws.callee_decl (λ k x. refl) 0 f.callees)
      ∙ append-nil (flat_map decl_sigs (raws.numbered raws.sig_decl 0 f.sigs)))
      ∙ sig_from 0 f.sigs k k (omega arith) h

  -- a line under the numbers that its text's numbers mean is the line under canonical numbers
  pub line_canonical : (l : Line) → LineWellFormed f l → Each (λ v. In v (definitions f.blocks)) l.results → line_under read_names l ≡ line_under (canonical_names f) l
  line_canonical l h defined = line_agrees read_names (canonical_names f) l
      (each_more (λ v. In v (declared f)) (λ v. read_names.value v ≡ (canonical_names f).value v) (λ v k. values_canonical v (is.defined v k)) (values_used l.inst) h.values)
      (each_more (λ v. In v (definitions f.blocks)) (λ v. read_names.value v ≡ (canonical_names f).value v) values_canonical l.results defined)
      (each_more (λ b. In b (block_numbers f.blocks)) (λ b. read_names.block b ≡ (canonical_names f).block b) blocks_canonical (blocks_used l.inst) h.blocks)
      (each_more (λ k. k < length f.slots) (λ k. read_names.slot k ≡ k) slots_canonical (slots_used l.inst) h.slots)
      (each_more (λ k. k < length f.slots) (λ k. read_names.slot k ≡ k) slots_canonical (slots_shown l.tags) h.shown)
      (each_more (λ k. k < length f.sigs) (λ k. read_names.sig k ≡ k) sigs_canonical (sigs_used l.inst) h.sigs)
      (each_more (λ k. k < length f.callees) (λ k. read_names.callee k ≡ k) callees_canonical (callees_used l.inst) h.callees)

  pub callees_read : callees_from read_names.sig 0 (decls_of f) ≡ f.callees
  callees_read = callees_back f read_names.sig (each_more (λ (c : Callee). c.sig < length f.sigs) (λ (c : Callee). read_names.sig c.sig ≡ c.sig) (λ c h. sigs_canonical c.sig h) f.callees is.callees)
