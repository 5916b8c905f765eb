-- A function under other numbers is the same up to numbering: it is enough that the new numbers differ.
use Rattle.std.proofs.Common.{◌≡◌, ℕ, suc, inl, inr, List, [], ◌∷◌, ◌++◌, map, refl, sym, ap, ap₂, ◌∙◌, subst, eq-eqb, ne_eqb}
use Rattle.std.specs.Prelude.{if◌then◌else◌}
use Rattle.std.proofs.lemmas.Bool.{cases_eq}
use Rattle.ir_core.specs.declared.signatures.Ty.{Ty}
use Rattle.ir_core.specs.declared.signatures.Sig.{Sig}
use Rattle.ir_core.specs.declared.names.FuncName.{FuncName}
use Rattle.ir_core.specs.declared.declarations.SlotDecl.{SlotDecl}
use Rattle.ir_core.specs.declared.declarations.Callee.{Callee}
use Rattle.ir_core.specs.Module.{Line, Block, Function}
use Rattle.ir_core.specs.Lookup.{type_in, type_of, line_definitions, definitions, block_numbers, number_in}
use Rattle.ir_core.specs.Lists.{In, Each, Different}
use Rattle.ir_semantics.specs.Renaming.{Renaming, block_under}
use Rattle.ir_semantics.specs.Splice.{with_type}
use Rattle.ir_semantics.specs.Canon.{canonical_names, types_in_order, canonical, SameFunction}
use Rattle.ir_core.specs.Uses.{values_used, blocks_used}
use Rattle.ir_core.specs.WellFormed.{declared, LineWellFormed, BlockWellFormed, WellFormed}
use Rattle.ir_core.proofs.Members.{in_left, in_right, each_more, each_by, in_map}
use Rattle.inline_outcomes.proofs.Linking.{same_numbers, values_same, lines_same}
use Rattle.inline_outcomes.proofs.Numbering.{back_names, back_rest, canonical_back}
use Rattle.inline_acceptance.proofs.KeptNumbers.{canonical_typed}
use Rattle.inline_acceptance.proofs.KeptCanon.{back_typed}
use Rattle.inline_acceptance.proofs.KeptCounts.{blocks_under}
use Rattle.inline_numbering.specs.Carried.{SamePlace}
use Rattle.inline_numbering.specs.Renamed.{Renamed, RenamedIsSame, SameIsRenamed}
use Rattle.inline_numbering.proofs.Via.{blocks_via}

-- ---- lists

map_append : (f : ℕ → ℕ) (xs ys : List ℕ) → map f (xs ++ ys) ≡ map f xs ++ map f ys
map_append f [] ys = refl
map_append f (x ∷ xs) ys = ap (λ r. f x ∷ r) (map_append f xs ys)

-- no injective renaming is asked
pub place_map : (f : ℕ → ℕ) (xs : List ℕ) (v : ℕ) → Different (map f xs) → In v xs → number_in (map f xs) (f v) ≡ number_in xs v
place_map f [] v d i = elim i [ ]
place_map f (x ∷ xs) v d i =
    elim (cases_eq x v) [
      | inl e ↦ ap (λ c. if c then 0 else suc (number_in (map f xs) (f v))) (eq-eqb (f x) (f v) (ap f e)) ∙ ap (λ c. if c then 0 else suc (number_in xs v)) (sym (eq-eqb x v e))
      | inr n ↦
          let r : In v xs = elim i [ inl e ↦ absurd (n (sym e)) | inr r ↦ r ] in
          ap (λ c. if c then 0 else suc (number_in (map f xs) (f v))) (ne_eqb (f x) (f v) (λ e. d.0 (subst (λ z. In z (map f xs)) (sym e) (in_map f v xs r)))) ∙ (ap suc (place_map f xs v d.1 r) ∙ ap (λ c. if c then 0 else suc (number_in xs v)) (sym (ne_eqb x v n)))
    ]

-- ---- numbers under a renaming

pub blocks_number : (r : Renaming) (bs : List Block) → block_numbers (map (block_under r) bs) ≡ map r.block (block_numbers bs)
blocks_number r [] = refl
blocks_number r (b ∷ bs) = ap (λ z. r.block b.number ∷ z) (blocks_number r bs)

-- ---- a whole function uses what it defines

module _ (f : Function) (whole : WellFormed f) where
  abbrev V : ℕ → Type 0
  V v = In v (definitions f.blocks)

  abbrev B : ℕ → Type 0
  B b = In b (block_numbers f.blocks)

  lines_in : (ls : List Line) → ((v : ℕ) → In v (line_definitions ls) → In v (definitions f.blocks)) → Each (LineWellFormed f) ls → Each (λ l. Each (λ v. In v (definitions f.blocks)) l.results × Each (λ v. In v (definitions f.blocks)) (values_used l.inst) × Each (λ b. In b (block_numbers f.blocks)) (blocks_used l.inst)) ls
  lines_in [] h w = tt
  lines_in (l ∷ ls) h w = (
    (each_by V l.results (λ v i. h v (in_left v l.results (line_definitions ls) i)), each_more (λ v. In v (declared f)) V whole.defined (values_used l.inst) w.0.values, w.0.blocks),
    lines_in ls (λ v i. h v (in_right v l.results (line_definitions ls) i)) w.1,
  )

  pub blocks_in : (bs : List Block) → ((v : ℕ) → In v (definitions bs) → In v (definitions f.blocks)) → ((b : ℕ) → In b (block_numbers bs) → In b (block_numbers f.blocks)) → Each (BlockWellFormed f) bs → Each (λ b. In b.number (block_numbers f.blocks) × Each (λ v. In v (definitions f.blocks)) b.params × Each (λ l. Each (λ v. In v (definitions f.blocks)) l.results × Each (λ v. In v (definitions f.blocks)) (values_used l.inst) × Each (λ b. In b (block_numbers f.blocks)) (blocks_used l.inst)) b.lines) bs
  blocks_in [] h k w = tt
  blocks_in (b ∷ bs) h k w = (
    (k b.number (inl refl), each_by V b.params (λ v i. h v (in_left v b.params (line_definitions b.lines ++ definitions bs) i)), lines_in b.lines (λ v i. h v (in_right v b.params (line_definitions b.lines ++ definitions bs) (in_left v (line_definitions b.lines) (definitions bs) i))) w.0),
    blocks_in bs (λ v i. h v (in_right v b.params (line_definitions b.lines ++ definitions bs) (in_right v (line_definitions b.lines) (definitions bs) i))) (λ b i. k b (inr i)) w.1,
  )

-- ---- the same up to numbering

types_same : (r new old : ℕ → ℕ) (ts us : List (ℕ × Ty)) (vs : List ℕ) → ((v : ℕ) → In v vs → new (r v) ≡ old v) → ((v : ℕ) → In v vs → type_in us (r v) ≡ type_in ts v) → types_in_order new us (map r vs) ≡ types_in_order old ts vs
types_same r new old ts us [] h k = refl
types_same r new old ts us (v ∷ vs) h k = ap₂ (λ (a b : List (ℕ × Ty)). a ++ b) (ap₂ with_type (h v (inl refl)) (k v (inl refl))) (types_same r new old ts us vs (λ w i. h w (inr i)) (λ w i. k w (inr i)))

made : FuncName → Sig → List SlotDecl → List Sig → List Callee → List (ℕ × Ty) → List Block → Function
made n s slots sigs callees types blocks = record { name = n; sig = s; slots = slots; sigs = sigs; callees = callees; types = types; blocks = blocks }

pub renamed_is_same : RenamedIsSame
unfolding made
renamed_is_same r f g wf wg h =
    ap (λ n. made n g.sig g.slots g.sigs g.callees gt gb) h.name
    ∙ (ap (λ n. made f.name n g.slots g.sigs g.callees gt gb) h.sig
    ∙ (ap (λ n. made f.name f.sig n g.sigs g.callees gt gb) h.slots
    ∙ (ap (λ n. made f.name f.sig f.slots n g.callees gt gb) h.sigs
    ∙ (ap (λ n. made f.name f.sig f.slots f.sigs n gt gb) h.callees
    ∙ ap₂ (made f.name f.sig f.slots f.sigs f.callees) types blocks))))
  where
    gt : List (ℕ × Ty)
    gt = (canonical g).types

    gb : List Block
    gb = (canonical g).blocks

    defs : definitions g.blocks ≡ map r.value (definitions f.blocks)
    defs = ap definitions h.blocks ∙ blocks_under r f.blocks

    numbers : block_numbers g.blocks ≡ map r.block (block_numbers f.blocks)
    numbers = ap block_numbers h.blocks ∙ blocks_number r f.blocks

    value : (v : ℕ) → In v (definitions f.blocks) → (canonical_names g).value (r.value v) ≡ (canonical_names f).value v
    value v i = ap (λ z. number_in z (r.value v)) defs ∙ place_map r.value (definitions f.blocks) v (subst Different defs wg.defined_once) i

    block : (b : ℕ) → In b (block_numbers f.blocks) → (canonical_names g).block (r.block b) ≡ (canonical_names f).block b
    block b i = ap (λ z. number_in z (r.block b)) numbers ∙ place_map r.block (block_numbers f.blocks) b (subst Different numbers wg.blocks) i

    types : gt ≡ (canonical f).types
    types = ap (types_in_order (canonical_names g).value g.types) defs ∙ types_same r.value (canonical_names g).value (canonical_names f).value f.types g.types (definitions f.blocks) value h.typed

    blocks : gb ≡ (canonical f).blocks
    blocks = ap (map (block_under (canonical_names g))) h.blocks ∙ blocks_via r (canonical_names g) (canonical_names f) (λ v. In v (definitions f.blocks)) (λ b. In b (block_numbers f.blocks)) value block h.slot h.signature h.callee f.blocks (blocks_in f wf f.blocks (λ v i. i) (λ b i. i) wf.lines)

-- ---- functions that are the same up to numbering

pub by_way : Function → Function → Renaming
by_way f g = record { value = λ v. (back_names g).value ((canonical_names f).value v); block = λ b. (back_names g).block ((canonical_names f).block b); slot = λ k. k; sig = λ k. k; callee = λ k. k }

fixed_in : (f h : ℕ → ℕ) (xs : List ℕ) → map f (map h xs) ≡ xs → (x : ℕ) → In x xs → f (h x) ≡ x
fixed_in f h [] e x i = elim i [ ]
fixed_in f h (y ∷ xs) e x (inl q) = let same : f (h y) ≡ y = cc in ap (λ z. f (h z)) q ∙ (same ∙ sym q)
fixed_in f h (y ∷ xs) e x (inr i) = let rest : map f (map h xs) ≡ xs = cc in fixed_in f h xs rest x i

back_block : (g : Function) → WellFormed g → (b : ℕ) → In b (block_numbers g.blocks) → (back_names g).block ((canonical_names g).block b) ≡ b
back_block g w b i =
    fixed_in (back_names g).block (canonical_names g).block (block_numbers g.blocks)
    (ap (map (back_names g).block) (sym (blocks_number (canonical_names g) g.blocks)) ∙ (sym (blocks_number (back_names g) (canonical g).blocks) ∙ ap block_numbers (canonical_back g w))) b i

-- it takes a block to the one at the same number_in
pub way_place : (f g : Function) → WellFormed g → (at there : ℕ) → SamePlace f g at there → (by_way f g).block at ≡ there
unfolding by_way
way_place f g w at there e = ap (back_names g).block (sym e.place) ∙ back_block g w there e.other

pub way_renamed : (f g : Function) → SameFunction f g → Renamed (by_way f g) f g
unfolding by_way
way_renamed f g h =
    let wf : WellFormed f = h.0 in
    let wg : WellFormed g = h.1 in
    let e : canonical f ≡ canonical g = h.2 in
    record {
      name = sym (ap (λ (z : Function). z.name) e);
      sig = sym (ap (λ (z : Function). z.sig) e);
      slots = sym (ap (λ (z : Function). z.slots) e);
      sigs = sym (ap (λ (z : Function). z.sigs) e);
      callees = sym (ap (λ (z : Function). z.callees) e);
      blocks =
          sym (canonical_back g wg)
          ∙ (ap (λ (z : Function). map (block_under (back_names g)) z.blocks) (sym e)
          ∙ blocks_via (canonical_names f) (back_names g) (by_way f g) (λ v. In v (definitions f.blocks)) (λ b. In b (block_numbers f.blocks)) (λ v i. refl) (λ b i. refl) (λ k. (back_rest g k).0) (λ k. (back_rest g k).1) (λ k. (back_rest g k).2) f.blocks (blocks_in f wf f.blocks (λ v i. i) (λ b i. i) wf.lines));
      typed = λ v i. back_typed g wg ((canonical_names f).value v) ∙ (ap (λ (z : Function). type_of z ((canonical_names f).value v)) (sym e) ∙ canonical_typed f wf v);
      slot = λ k. refl;
      signature = λ k. refl;
      callee = λ k. refl;
    }

pub same_is_renamed : SameIsRenamed
same_is_renamed f g h = (by_way f g, way_renamed f g h)

-- ---- a function is itself under its own numbers

block_itself : (b : Block) → block_under same_numbers b ≡ b
block_itself b = ap₂ (λ (vs : List ℕ) (ls : List Line). record b { params = vs; lines = ls }) (values_same b.params) (sym (lines_same b.lines))

blocks_itself : (bs : List Block) → bs ≡ map (block_under same_numbers) bs
blocks_itself [] = refl
blocks_itself (b ∷ bs) = ap₂ (λ (x : Block) xs. x ∷ xs) (sym (block_itself b)) (blocks_itself bs)

pub renamed_itself : (f : Function) → Renamed same_numbers f f
renamed_itself f = record { name = refl; sig = refl; slots = refl; sigs = refl; callees = refl; blocks = blocks_itself f.blocks; typed = λ v i. refl; slot = λ k. refl; signature = λ k. refl; callee = λ k. refl }
