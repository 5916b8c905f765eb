-- The types of a splice under other numbers, and the splice itself.
use Rattle.std.proofs.Common.{◌≡◌, ℕ, suc, ◌+◌, ◌<◌, inl, inr, List, [], ◌∷◌, ◌++◌, map, length, Option, Some, None, refl, sym, ap, ap₂, ◌∙◌, subst, arith, length-append}
use Rattle.std.proofs.lemmas.Bool.{cases_eq}
use Rattle.std.proofs.lemmas.List.{map-append}
use Rattle.ir_core.specs.declared.signatures.Ty.{Ty}
use Rattle.ir_core.specs.declared.declarations.SlotDecl.{SlotDecl}
use Rattle.ir_core.specs.Module.{Instruction, Plain, Branches, SequencePoint, Return, Call, ReturnCall, TryCall, Line, Block, Function}
use Rattle.ir_core.specs.Lookup.{find_block, type_in, type_of, line_definitions, definitions, block_numbers}
use Rattle.ir_core.specs.Lists.{In, Each, Different}
use Rattle.ir_core.specs.Sound.{IsSound, IsWhole}
use Rattle.ir_core.specs.WellFormed.{declared, WellFormed}
use Rattle.ir_core.proofs.Members.{in_left, in_right, in_cases, in_map}
use Rattle.ir_core.proofs.Counting.{subset_length, whole_by_count}
use Rattle.ir_core.proofs.Gets.{some_same}
use Rattle.ir_core.proofs.ByNumber.{found_number}
use Rattle.ir_semantics.specs.Renaming.{Renaming, instruction_under, line_under, block_under, typed_under}
use Rattle.ir_semantics.specs.Splice.{Naming, Splicing, Kind, Within, Last, Tries, kind_of, with_type, caller_names, callee_names, typed_results, new_types_by, line_types, new_types, spliced_blocks, spliced}
use Rattle.ir_semantics.proofs.SafetyPlaces.{has_type}
use Rattle.inline_outcomes.proofs.Places.{find_hit, find_skip}
use Rattle.inline_acceptance.proofs.KeptTypes.{type_hit, type_skip}
use Rattle.inline_acceptance.proofs.KeptCounts.{blocks_under}
use Rattle.inline_acceptance.proofs.KeptLists.{length_map}
use Rattle.inline_numbering.specs.Renamed.{Renamed}
use Rattle.inline_numbering.specs.Carried.{Carries, SiteUnder}
use Rattle.inline_numbering.proofs.Same.{blocks_number}
use Rattle.inline_numbering.proofs.Carried.{kind_under, kind_same, carried}
use Rattle.inline_numbering.proofs.Sides.{all_sigs}

-- ---- typed values in lists

in_under : (r : Renaming) (x : ℕ × Ty) (ts : List (ℕ × Ty)) → In x ts → In (typed_under r x) (map (typed_under r) ts)
in_under r x [] i = elim i [ ]
in_under r x (y ∷ ts) (inl e) = inl (ap (typed_under r) e)
in_under r x (y ∷ ts) (inr i) = inr (in_under r x ts i)

declared_in : (ts : List (ℕ × Ty)) (v : ℕ) (ty : Ty) → In (v, ty) ts → In v (map (λ x. x.0) ts)
declared_in [] v ty i = elim i [ ]
declared_in (y ∷ ts) v ty (inl e) = inl (ap (λ (z : ℕ × Ty). z.0) e)
declared_in (y ∷ ts) v ty (inr i) = inr (declared_in ts v ty i)

typed_in : (ts : List (ℕ × Ty)) (v : ℕ) (ty : Ty) → type_in ts v ≡ Some ty → In (v, ty) ts
typed_in [] v ty h = cc
typed_in (y ∷ ts) v ty h =
    elim (cases_eq y.0 v) [
      | inl e ↦
          let same : ty ≡ y.1 = some_same (sym h ∙ type_hit y ts v e) in
          inl (ap₂ (λ (a : ℕ) (u : Ty). (a, u)) (sym e) same)
      | inr e ↦ inr (typed_in ts v ty (sym (type_skip y ts v e) ∙ h))
    ]

typed_once : (ts : List (ℕ × Ty)) → Different (map (λ x. x.0) ts) → (v : ℕ) (ty : Ty) → In (v, ty) ts → type_in ts v ≡ Some ty
typed_once [] d v ty i = elim i [ ]
typed_once (y ∷ ts) d v ty (inl e) = type_hit y ts v (sym (ap (λ (z : ℕ × Ty). z.0) e)) ∙ sym (ap (λ (z : ℕ × Ty). Some z.1) e)
typed_once (y ∷ ts) d v ty (inr i) = type_skip y ts v (λ q. d.0 (subst (λ z. In z (map (λ x. x.0) ts)) (sym q) (declared_in ts v ty i))) ∙ typed_once ts d.1 v ty i

-- typed values that x takes to others, under two changes of numbers, of which t takes the one to the other
moves_under : (t u w : Renaming) (x : ℕ → ℕ) → ((v : ℕ) → t.value (u.value v) ≡ w.value (x v)) → (us ts : List (ℕ × Ty)) → ((v : ℕ) (ty : Ty) → In (v, ty) ts → In (x v, ty) us) → (v : ℕ) (ty : Ty) → In (v, ty) (map (typed_under u) ts) → In (t.value v, ty) (map (typed_under w) us)
moves_under t u w x same us [] go v ty i = elim i [ ]
moves_under t u w x same us (y ∷ ts) go v ty (inl e) =
    let to : (t.value v, ty) ≡ (w.value (x y.0), y.1) = ap (λ (z : ℕ × Ty). (t.value z.0, z.1)) e ∙ ap (λ (a : ℕ). (a, y.1)) (same y.0) in
    subst (λ z. In z (map (typed_under w) us)) (sym to) (in_under w (x y.0, y.1) us (go y.0 y.1 (inl refl)))
moves_under t u w x same us (y ∷ ts) go v ty (inr i) = moves_under t u w x same us ts (λ a b j. go a b (inr j)) v ty i

one_type : (t : Renaming) (v : ℕ) (o : Option Ty) → map (typed_under t) (with_type v o) ≡ with_type (t.value v) o
one_type t v None = refl
one_type t v (Some ty) = refl

-- ---- what is different after a map was different before

pub same_before : (f : ℕ → ℕ) (xs : List ℕ) → Different (map f xs) → (x y : ℕ) → In x xs → In y xs → f x ≡ f y → x ≡ y
same_before f [] d x y i j e = elim i [ ]
same_before f (z ∷ xs) d x y (inl p) (inl q) e = p ∙ sym q
same_before f (z ∷ xs) d x y (inl p) (inr j) e = absurd (d.0 (subst (λ w. In w (map f xs)) (sym e ∙ ap f p) (in_map f y xs j)))
same_before f (z ∷ xs) d x y (inr i) (inl q) e = absurd (d.0 (subst (λ w. In w (map f xs)) (e ∙ ap f q) (in_map f x xs i)))
same_before f (z ∷ xs) d x y (inr i) (inr j) e = same_before f xs d.1 x y i j e

-- ---- what a line defines is defined in its function

line_there : (before behind : List Line) (l : Line) (v : ℕ) → In v l.results → In v (line_definitions (before ++ (l ∷ behind)))
line_there [] behind l v i = in_left v l.results (line_definitions behind) i
line_there (x ∷ before) behind l v i = in_right v x.results (line_definitions (before ++ (l ∷ behind))) (line_there before behind l v i)

block_there : (at : ℕ) (bs : List Block) (k : Block) → find_block at bs ≡ Some k → (v : ℕ) → In v (line_definitions k.lines) → In v (definitions bs)
block_there at [] k h v i = cc
block_there at (b ∷ bs) k h v i =
    elim (cases_eq b.number at) [
      | inl e ↦
          let same : b ≡ k = some_same (sym (find_hit at b bs e) ∙ h) in
          in_right v b.params (line_definitions b.lines ++ definitions bs) (in_left v (line_definitions b.lines) (definitions bs) (subst (λ (z : Block). In v (line_definitions z.lines)) (sym same) i))
      | inr e ↦ in_right v b.params (line_definitions b.lines ++ definitions bs) (in_right v (line_definitions b.lines) (definitions bs) (block_there at bs k (sym (find_skip at b bs e) ∙ h) v i))
    ]

-- ---- a whole function declares as many values as it defines

count_same : (f : Function) → WellFormed f → length f.types ≡ length (definitions f.blocks)
count_same f w =
    let fewer = subset_length (declared f) (definitions f.blocks) w.declared_once w.defined in
    let more = subset_length (definitions f.blocks) (declared f) w.defined_once w.definitions_declared in
    omega (arith, fewer, more, length_map (λ (x : ℕ × Ty). x.0) f.types)

blocks_count : (r : Renaming) (f g : Function) → g.blocks ≡ map (block_under r) f.blocks → length (definitions g.blocks) ≡ length (definitions f.blocks)
blocks_count r f g h = ap (λ bs. length (definitions bs)) h ∙ (ap length (blocks_under r f.blocks) ∙ length_map r.value (definitions f.blocks))

types_count : (r : Renaming) (f g : Function) → g.blocks ≡ map (block_under r) f.blocks → WellFormed f → WellFormed g → length g.types ≡ length f.types
types_count r f g h wf wg = count_same g wg ∙ (blocks_count r f g h ∙ sym (count_same f wf))

some_block : (r : Renaming) (f g : Function) → g.blocks ≡ map (block_under r) f.blocks → WellFormed f → 0 < length g.blocks
some_block r f g h w = by f.blocks refl
  where
    by : (bs : List Block) → f.blocks ≡ bs → 0 < length g.blocks
    by [] e = absurd (w.begins e)
    by (b ∷ bs) e = let n : length g.blocks ≡ suc (length (map (block_under r) bs)) = ap length (h ∙ ap (map (block_under r)) e) in omega (arith, n)

-- a function of the code that has the blocks of a whole one under other numbers, and as many types, is whole
pub blocks_whole : (r : Renaming) (f g : Function) → g.blocks ≡ map (block_under r) f.blocks → WellFormed f → IsSound g → length g.types ≡ length f.types → IsWhole g
blocks_whole r f g h w s e = whole_by_count g s (some_block r f g h w) (blocks_count r f g h ∙ (sym (count_same f w) ∙ sym e))

-- ---- the splice p and the splice q, to which t takes it

module _ (t r s : Renaming) (n m : Naming) (b c g h : Function) (at : ℕ) (before : List Line) (site : Line) (behind : List Line) (k : Carries t r s n m b c g h) where
  abbrev p : Splicing
  p = record { naming = n; caller = b; callee = g; at = at; before = before; site = site; behind = behind }

  abbrev q : Splicing
  q = record { naming = m; caller = c; callee = h; at = r.block at; before = map (line_under r) before; site = line_under r site; behind = map (line_under r) behind }

  abbrev Keeps : List ℕ → Type 0
  Keeps vs = Each (λ v. type_of c (r.value v) ≡ type_of b v) vs

  results_under : (x i : ℕ) (vs : List ℕ) → Keeps vs → map (typed_under t) (typed_results p x i vs) ≡ typed_results q (s.block x) i (map r.value vs)
  results_under x i [] e = refl
  results_under x i (v ∷ vs) e =
      map-append (typed_under t) (with_type (n.new_value x i) (type_in b.types v)) (typed_results p x (suc i) vs)
      ∙ ap₂ (λ (us ws : List (ℕ × Ty)). us ++ ws) (one_type t (n.new_value x i) (type_in b.types v) ∙ ap₂ with_type (k.new_value x i) (sym e.0)) (results_under x (suc i) vs e.1)

  by_kind : (z : Kind) (x : ℕ) (i : Instruction) → Keeps site.results → map (typed_under t) (new_types_by p x z i) ≡ new_types_by q (s.block x) (kind_under r z) (instruction_under s i)
  by_kind Within x (Plain a) e = refl
  by_kind Within x (Branches a) e = refl
  by_kind Within x SequencePoint e = refl
  by_kind Within x (Return a) e = refl
  by_kind Within x (Call a d) e = refl
  by_kind Within x (ReturnCall a d) e = results_under x 0 site.results e
  by_kind Within x (TryCall a d u y w) e = refl
  by_kind Last x i e = refl
  by_kind (Tries normal table) x i e = refl

  lines_under : (x : ℕ) (ls : List Line) → Keeps site.results → map (typed_under t) (line_types p x ls) ≡ line_types q (s.block x) (map (line_under s) ls)
  lines_under x [] e = refl
  lines_under x (l ∷ ls) e =
      map-append (typed_under t) (new_types_by p x (kind_of site.inst) l.inst) (line_types p x ls)
      ∙ ap₂ (λ (us ws : List (ℕ × Ty)). us ++ ws) (by_kind (kind_of site.inst) x l.inst e ∙ ap (λ z. new_types_by q (s.block x) z (line_under s l).inst) (sym (kind_same r site.inst))) (lines_under x ls e)

  news_under : (bs : List Block) → Keeps site.results → map (typed_under t) (new_types p bs) ≡ new_types q (map (block_under s) bs)
  news_under [] e = refl
  news_under (x ∷ bs) e =
      map-append (typed_under t) (line_types p x.number x.lines) (new_types p bs)
      ∙ ap₂ (λ (us ws : List (ℕ × Ty)). us ++ ws) (lines_under x.number x.lines e) (news_under bs e)

  module _ (e : SiteUnder r s p c h) where
    results_there : (v : ℕ) → In v site.results → In v (definitions b.blocks)
    results_there v i = block_there at b.blocks e.stands.block e.stands.block_found v (subst (λ ls. In v (line_definitions ls)) (sym e.stands.lines) (line_there before behind site v i))

    keeps : (vs : List ℕ) → ((v : ℕ) → In v vs → In v (definitions b.blocks)) → Keeps vs
    keeps [] there = tt
    keeps (v ∷ vs) there = (e.caller.typed v (there v (inl refl)), keeps vs (λ w i. there w (inr i)))

    caller_moves : (v : ℕ) (ty : Ty) → In (v, ty) b.types → In (r.value v, ty) c.types
    caller_moves v ty i = typed_in c.types (r.value v) ty (e.caller.typed v (e.caller_whole.defined v (declared_in b.types v ty i)) ∙ typed_once b.types e.caller_whole.declared_once v ty i)

    callee_moves : (v : ℕ) (ty : Ty) → In (v, ty) g.types → In (s.value v, ty) h.types
    callee_moves v ty i = typed_in h.types (s.value v) ty (e.callee.typed v (e.callee_whole.defined v (declared_in g.types v ty i)) ∙ typed_once g.types e.callee_whole.declared_once v ty i)

    abbrev caller_p : List (ℕ × Ty)
    caller_p = map (typed_under (caller_names p)) b.types

    abbrev callee_p : List (ℕ × Ty)
    callee_p = map (typed_under (callee_names p)) g.types

    abbrev caller_q : List (ℕ × Ty)
    caller_q = map (typed_under (caller_names q)) c.types

    abbrev callee_q : List (ℕ × Ty)
    callee_q = map (typed_under (callee_names q)) h.types

    moves : (v : ℕ) (ty : Ty) → In (v, ty) (spliced p).types → In (t.value v, ty) (spliced q).types
    moves v ty i =
        elim (in_cases (v, ty) caller_p (callee_p ++ new_types p g.blocks) i) [
          | inl j ↦ in_left (t.value v, ty) caller_q (callee_q ++ new_types q h.blocks) (moves_under t (caller_names p) (caller_names q) r.value k.caller_value c.types b.types caller_moves v ty j)
          | inr j ↦ in_right (t.value v, ty) caller_q (callee_q ++ new_types q h.blocks) (behind_them j)
        ]
      where
        behind_them : In (v, ty) (callee_p ++ new_types p g.blocks) → In (t.value v, ty) (callee_q ++ new_types q h.blocks)
        behind_them j =
            elim (in_cases (v, ty) callee_p (new_types p g.blocks) j) [
              | inl a ↦ in_left (t.value v, ty) callee_q (new_types q h.blocks) (moves_under t (callee_names p) (callee_names q) s.value k.callee_value h.types g.types callee_moves v ty a)
              | inr a ↦
                  in_right (t.value v, ty) callee_q (new_types q h.blocks)
                  (subst (In (t.value v, ty)) (news_under g.blocks (keeps site.results results_there) ∙ ap (new_types q) (sym k.callee_blocks)) (in_under t (v, ty) (new_types p g.blocks) a))
            ]

    pub types_kept : WellFormed (spliced p) → Different (declared (spliced q)) → (v : ℕ) → In v (definitions (spliced p).blocks) → type_of (spliced q) (t.value v) ≡ type_of (spliced p) v
    types_kept w d v i =
        let there = has_type (spliced p).types v (w.definitions_declared v i) in
        typed_once (spliced q).types d (t.value v) there.0 (moves v there.0 (typed_in (spliced p).types v there.0 there.1)) ∙ sym there.1

    apart : (x : ℕ) → In x (block_numbers b.blocks) → r.block x ≡ r.block at → x ≡ at
    apart x i q = same_before r.block (block_numbers b.blocks) (subst Different (ap block_numbers e.caller.blocks ∙ blocks_number r b.blocks) e.caller_after_whole.blocks) x at i (found_number at b.blocks e.stands.block e.stands.block_found) q

    blocks_kept : (spliced q).blocks ≡ map (block_under t) (spliced p).blocks
    blocks_kept = ap (spliced_blocks q) e.caller.blocks ∙ sym (carried t r s n m b c g h at before site behind k b.blocks apart)

    pub splice_renamed : WellFormed (spliced p) → WellFormed (spliced q) → Renamed t (spliced p) (spliced q)
    splice_renamed w wq =
        record {
          name = e.caller.name;
          sig = e.caller.sig;
          slots = ap₂ (λ (us ws : List SlotDecl). us ++ ws) e.caller.slots e.callee.slots;
          sigs = all_sigs b c g h e.caller.sigs e.callee.sigs;
          callees = k.all_callees;
          blocks = blocks_kept;
          typed = types_kept w wq.declared_once;
          slot = k.slot;
          signature = k.sig;
          callee = k.callee;
        }

    -- as many types
    count : length (spliced q).types ≡ length (spliced p).types
    count =
        let callers : length caller_q ≡ length caller_p = length_map (typed_under (caller_names q)) c.types ∙ (types_count r b c e.caller.blocks e.caller_whole e.caller_after_whole ∙ sym (length_map (typed_under (caller_names p)) b.types)) in
        let callees : length callee_q ≡ length callee_p = length_map (typed_under (callee_names q)) h.types ∙ (types_count s g h e.callee.blocks e.callee_whole e.callee_after_whole ∙ sym (length_map (typed_under (callee_names p)) g.types)) in
        let news : length (new_types q h.blocks) ≡ length (new_types p g.blocks) = ap length (ap (new_types q) k.callee_blocks ∙ sym (news_under g.blocks (keeps site.results results_there))) ∙ length_map (typed_under t) (new_types p g.blocks) in
        length-append caller_q (callee_q ++ new_types q h.blocks)
        ∙ (ap₂ (λ x y. x + y) callers (length-append callee_q (new_types q h.blocks) ∙ (ap₂ (λ x y. x + y) callees news ∙ sym (length-append callee_p (new_types p g.blocks))))
        ∙ sym (length-append caller_p (callee_p ++ new_types p g.blocks)))

    pub splice_whole : WellFormed (spliced p) → IsSound (spliced q) → IsWhole (spliced q)
    splice_whole w sound = blocks_whole t (spliced p) (spliced q) blocks_kept w sound count
