-- The words of each kind are those of the definitions in the text.
use Rattle.std.proofs.Common.{◌≡◌, List, [], ◌∷◌, ◌++◌, map, refl, sym, ap, ◌∙◌}
use Rattle.std.specs.Prelude.{fold, flat_map}
use Rattle.std.proofs.lemmas.Grind.{fold-append, flat_map-append}
use Rattle.clif_read.specs.declared.raw.RawDecl.{RawDecl}
use Rattle.clif_read.specs.declared.raw.RawDecl.TheVariants as decl
use Rattle.clif_read.specs.declared.raw.RawBlock.{RawBlock}
use Rattle.clif_read.specs.declared.raw.RawFunction.{RawFunction}
use Rattle.name_tables.specs.declared.firsts.Def.{Def}
use Rattle.name_tables.specs.declared.names.Names.{Names}
use Rattle.name_tables.specs.declared.tables.Tables.{Tables}
use Rattle.name_tables.specs.Taking.{no_names, declare}
use Rattle.name_tables.specs.Defining.{no_tables, define_decl, define_value, define_block, defined}
use Rattle.name_tables.specs.Definitions.{Kind, Slots, Sigs, Callees, Blocks, Values, definitions, slot_names, sig_names, callee_names, param_defs, line_defs, step_defs, block_steps, value_defs, names_of, Param, Line}
use Rattle.name_tables.proofs.ListParts.{flat_map_map, flat_flat, flat_same}

-- the words of a kind
abbrev pub names_at : Tables → Kind → Names
names_at t Slots = t.slots
names_at t Sigs = t.sigs
names_at t Callees = t.callees
names_at t Blocks = t.blocks
names_at t Values = t.values

-- ---- declarations

pub slots_decls : (t : Tables) (ds : List RawDecl) → (fold define_decl t ds).slots ≡ fold declare t.slots (flat_map slot_names ds)
slots_decls t [] = refl
slots_decls t (decl.Slot n a b ∷ ds) = slots_decls (define_decl t (decl.Slot n a b)) ds
slots_decls t (decl.Sig n a ∷ ds) = slots_decls (define_decl t (decl.Sig n a)) ds
slots_decls t (decl.Callee a n e b ∷ ds) = slots_decls (define_decl t (decl.Callee a n e b)) ds

pub sigs_decls : (t : Tables) (ds : List RawDecl) → (fold define_decl t ds).sigs ≡ fold declare t.sigs (flat_map sig_names ds)
sigs_decls t [] = refl
sigs_decls t (decl.Slot n a b ∷ ds) = sigs_decls (define_decl t (decl.Slot n a b)) ds
sigs_decls t (decl.Sig n a ∷ ds) = sigs_decls (define_decl t (decl.Sig n a)) ds
sigs_decls t (decl.Callee a n e b ∷ ds) = sigs_decls (define_decl t (decl.Callee a n e b)) ds

pub callees_decls : (t : Tables) (ds : List RawDecl) → (fold define_decl t ds).callees ≡ fold declare t.callees (flat_map callee_names ds)
callees_decls t [] = refl
callees_decls t (decl.Slot n a b ∷ ds) = callees_decls (define_decl t (decl.Slot n a b)) ds
callees_decls t (decl.Sig n a ∷ ds) = callees_decls (define_decl t (decl.Sig n a)) ds
callees_decls t (decl.Callee a n e b ∷ ds) = callees_decls (define_decl t (decl.Callee a n e b)) ds

record SameBlocks (t s : Tables) : Type 0 where
  blocks : t.blocks ≡ s.blocks
  values : t.values ≡ s.values
  firsts : t.firsts ≡ s.firsts

decls_same : (t : Tables) (ds : List RawDecl) → SameBlocks (fold define_decl t ds) t
decls_same t [] = record { blocks = refl; values = refl; firsts = refl }
decls_same t (decl.Slot n a b ∷ ds) = (let k = decls_same (define_decl t (decl.Slot n a b)) ds in record { blocks = k.blocks; values = k.values; firsts = k.firsts })
decls_same t (decl.Sig n a ∷ ds) = (let k = decls_same (define_decl t (decl.Sig n a)) ds in record { blocks = k.blocks; values = k.values; firsts = k.firsts })
decls_same t (decl.Callee a n e b ∷ ds) = (let k = decls_same (define_decl t (decl.Callee a n e b)) ds in record { blocks = k.blocks; values = k.values; firsts = k.firsts })

-- ---- values

-- definitions of values change no other words
record SameOthers (t s : Tables) : Type 0 where
  slots : t.slots ≡ s.slots
  sigs : t.sigs ≡ s.sigs
  callees : t.callees ≡ s.callees
  blocks : t.blocks ≡ s.blocks

values_same : (t : Tables) (ds : List Def) → SameOthers (fold define_value t ds) t
unfolding define_value
values_same t [] = record { slots = refl; sigs = refl; callees = refl; blocks = refl }
values_same t (d ∷ ds) = (let k = values_same (define_value t d) ds in record { slots = k.slots; sigs = k.sigs; callees = k.callees; blocks = k.blocks })

pub values_defs : (t : Tables) (ds : List Def) → (fold define_value t ds).values ≡ fold declare t.values (names_of ds)
unfolding define_value
values_defs t [] = refl
values_defs t (d ∷ ds) = values_defs (define_value t d) ds

-- what definitions of values do depends on the values alone
pub record SameValues (t s : Tables) : Type 0 where
  pub values : t.values ≡ s.values
  pub firsts : t.firsts ≡ s.firsts

along_value : (t s : Tables) (d : Def) → SameValues t s → SameValues (define_value t d) (define_value s d)
unfolding define_value
along_value t s d h = record { values = rw h.values refl; firsts = rw (h.values, h.firsts) refl }

along_values : (t s : Tables) (ds : List Def) → SameValues t s → SameValues (fold define_value t ds) (fold define_value s ds)
along_values t s [] h = h
along_values t s (d ∷ ds) h = along_values (define_value t d) (define_value s d) ds (along_value t s d h)

-- ---- blocks

abbrev block_defs : RawBlock → List Def
block_defs b = flat_map param_defs b.params ++ flat_map line_defs b.lines

record OfBlocks (t s : Tables) (bs : List RawBlock) : Type 0 where
  slots : t.slots ≡ s.slots
  sigs : t.sigs ≡ s.sigs
  callees : t.callees ≡ s.callees
  blocks : t.blocks ≡ fold declare s.blocks (map (λ (b : RawBlock). b.block) bs)
  values : SameValues t (fold define_value s (flat_map block_defs bs))

with_block : Tables → RawBlock → Tables
with_block t b = record t { blocks = declare t.blocks b.block }

of_blocks : (t : Tables) (bs : List RawBlock) → OfBlocks (fold define_block t bs) t bs
unfolding with_block
of_blocks t [] = record { slots = refl; sigs = refl; callees = refl; blocks = refl; values = record { values = refl; firsts = refl } }
of_blocks t (b ∷ bs) =
    let k = of_blocks (define_block t b) bs in
    let o = values_same (with_block t b) (block_defs b) in
    let a = along_values (define_block t b) (fold define_value t (block_defs b)) (flat_map block_defs bs)
    (along_values (with_block t b) t (block_defs b) (record { values = refl; firsts = refl })) in
    let e = fold-append define_value t (block_defs b) (flat_map block_defs bs) in
    record {
      slots = k.slots ∙ o.slots;
      sigs = k.sigs ∙ o.sigs;
      callees = k.callees ∙ o.callees;
      blocks = k.blocks ∙ ap (λ (n : Names). fold declare n (map (λ (b : RawBlock). b.block) bs)) o.blocks;
      values = record {
        values = k.values.values ∙ a.values ∙ sym (ap (λ (t : Tables). t.values) e);
        firsts = k.values.firsts ∙ a.firsts ∙ sym (ap (λ (t : Tables). t.firsts) e);
      };
    }

-- the definitions of the steps are those of the blocks
steps_defs : (bs : List RawBlock) → flat_map step_defs (flat_map block_steps bs) ≡ flat_map block_defs bs
steps_defs bs = flat_flat step_defs block_steps bs ∙ flat_same (λ b. flat_map step_defs (block_steps b)) block_defs one bs
  where
    one : (b : RawBlock) → flat_map step_defs (block_steps b) ≡ block_defs b
    one b = flat_map-append step_defs (map Param b.params) (map Line b.lines) ∙ rw (flat_map_map step_defs Param b.params, flat_map_map step_defs Line b.lines) refl

-- ---- functions

pub defined_names : (f : RawFunction) (k : Kind) → names_at (defined f) k ≡ fold declare no_names (definitions f k)
defined_names f Slots = (of_blocks (fold define_decl no_tables f.decls) f.blocks).slots ∙ slots_decls no_tables f.decls
defined_names f Sigs = (of_blocks (fold define_decl no_tables f.decls) f.blocks).sigs ∙ sigs_decls no_tables f.decls
defined_names f Callees = (of_blocks (fold define_decl no_tables f.decls) f.blocks).callees ∙ callees_decls no_tables f.decls
defined_names f Blocks =
    (of_blocks (fold define_decl no_tables f.decls) f.blocks).blocks ∙ ap (λ (n : Names). fold declare n (map (λ (b : RawBlock). b.block) f.blocks)) (decls_same no_tables f.decls).blocks
defined_names f Values =
    let t = fold define_decl no_tables f.decls in
    (of_blocks t f.blocks).values.values ∙ values_defs t (flat_map block_defs f.blocks)
    ∙ rw ((decls_same no_tables f.decls).values, ← steps_defs f.blocks) refl

pub defined_values : (f : RawFunction) → SameValues (defined f) (fold define_value no_tables (value_defs f))
defined_values f =
    let t = fold define_decl no_tables f.decls in
    let k = (of_blocks t f.blocks).values in
    let s = decls_same no_tables f.decls in
    let a = along_values t no_tables (flat_map block_defs f.blocks) (record { values = s.values; firsts = s.firsts }) in
    let e : fold define_value no_tables (flat_map block_defs f.blocks) ≡ fold define_value no_tables (value_defs f) = ap (fold define_value no_tables) (sym (steps_defs f.blocks)) in
    record { values = k.values ∙ a.values ∙ ap (λ (t : Tables). t.values) e; firsts = k.firsts ∙ a.firsts ∙ ap (λ (t : Tables). t.firsts) e }
