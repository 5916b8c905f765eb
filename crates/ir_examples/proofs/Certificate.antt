-- That a module is well-formed and accepted, by computation. For each block a list of values is given, those that every
-- path into the block has defined; a test goes over the branches, and then a use of a value that is in the list, or
-- defined above in its block, is available. All other rules, and well-formedness, are tests already.
use Rattle.std.proofs.Common.{refl, inl, inr, sym, ap, subst, ◌∙◌, eq-eqb, ltb-true}
use Rattle.std.specs.Prelude.{◌≡◌, ◌<◌, ℕ, zero, suc, List, [], ◌∷◌, ◌++◌, length, Option, Some, None, Bool, true, false, not, ◌&&◌, ◌||◌, nat_eq, nat_lt, if◌then◌else◌, slice_get}
use Rattle.std.specs.List.{list_all}
use Rattle.std.proofs.lemmas.Bool.{and_parts}
use Rattle.ir_core.specs.declared.declarations.Callee.{Callee}
use Rattle.ir_core.specs.declared.instructions.BlockCall.{BlockCall}
use Rattle.ir_core.specs.declared.places.Item.{Item}
use Rattle.ir_core.specs.declared.places.Item.TheVariants as item
use Rattle.ir_core.specs.Module.{Line, Block, Function, Module}
use Rattle.ir_core.specs.Lists.{In, Each, Different}
use Rattle.ir_core.specs.Lookup.{find_block, definitions, block_numbers}
use Rattle.ir_core.specs.Uses.{targets, values_used, blocks_used, slots_used, slots_shown, callees_used, sigs_used}
use Rattle.ir_core.specs.WellFormed.{declared, LineWellFormed, BlockWellFormed, WellFormed, DifferentNames, IsModule}
use Rattle.ir_core.proofs.Equal.{number_equal}
use Rattle.ir_core.proofs.Members.{in_left, in_right, in_cases, each_in}
use Rattle.ir_core.proofs.Gets.{some_same, get_in}
use Rattle.ir_semantics.specs.Splice.{first_number}
use Rattle.ir_semantics.specs.Available.{Reach, begin, next, branch, Available}
use Rattle.ir_semantics.specs.Accepted.{Rule, no_terminator, entry_target, count_mismatch, type_mismatch, convention, signature_mismatch, slot_range, tag_place, not_available, Holds, Accepted}
use Rattle.ir_check.specs.Faults.{Check, checks, FirstBad, this, later, Passed, FirstFault}
use Rattle.ir_check.specs.Twins.{kept, kept_at_line, empty, if_some, passes, first_failing, first_fault}
use Rattle.ir_check.proofs.Firsts.{checks_of, accepted_of}
use Rattle.ir_check.proofs.ByTests.{rules_are_tests}
use Rattle.call_graph.proofs.PieceNumbers.{not_true}

-- ---- words

all_each : {A : Type 0} (t : A → Bool) (P : A → Type 0) → ((a : A) → t a ≡ true → P a) → (xs : List A) → list_all t xs ≡ true → Each P xs
all_each t P shows [] h = tt
all_each t P shows (x ∷ xs) h = let q = and_parts (t x) (list_all t xs) h in (shows x q.0, all_each t P shows xs q.1)

-- each test of a list of tests
abbrev all_true : List Bool → Bool
all_true bs = list_all (λ b. b) bs

each_true : (bs : List Bool) → all_true bs ≡ true → Each (λ b. b ≡ true) bs
each_true bs h = all_each (λ b. b) (λ b. b ≡ true) (λ b q. q) bs h

abbrev pub contains : List ℕ → ℕ → Bool
contains [] v = false
contains (x ∷ xs) v = nat_eq v x || contains xs v

contains_in : (xs : List ℕ) (v : ℕ) → contains xs v ≡ true → In v xs
contains_in [] v h = cc
contains_in (x ∷ xs) v h = go (nat_eq v x) refl h (contains_in xs v)
  where
    go : (z : Bool) → nat_eq v x ≡ z → z || contains xs v ≡ true → (contains xs v ≡ true → In v xs) → In v (x ∷ xs)
    go true q h rest = inl (number_equal v x q)
    go false q h rest = inr (rest h)

in_contains : (xs : List ℕ) (v : ℕ) → In v xs → contains xs v ≡ true
in_contains [] v i = elim i [ ]
in_contains (x ∷ xs) v i =
    elim i [
      | inl q ↦ ap (λ z. z || contains xs v) (eq-eqb v x q)
      | inr r ↦ ap (λ z. nat_eq v x || z) (in_contains xs v r) ∙ or_true (nat_eq v x)
    ]
  where
    or_true : (z : Bool) → z || true ≡ true
    or_true true = refl
    or_true false = refl

all_in : (ys xs : List ℕ) → list_all (contains ys) xs ≡ true → (v : ℕ) → In v xs → In v ys
all_in ys xs h v i = each_in (λ z. In z ys) xs (all_each (contains ys) (λ z. In z ys) (contains_in ys) xs h) v i

-- no number stands in the list twice
abbrev pub different : List ℕ → Bool
different [] = true
different (n ∷ ns) = not (contains ns n) && different ns

different_is : (ns : List ℕ) → different ns ≡ true → Different ns
different_is [] h = tt
different_is (n ∷ ns) h = let q = and_parts (not (contains ns n)) (different ns) h in (λ i. not_true (contains ns n) q.0 (in_contains ns n i), different_is ns q.1)

-- ---- well-formed functions

abbrev pub each_below : ℕ → List ℕ → Bool
each_below n ks = list_all (λ k. nat_lt k n) ks

each_below_is : (n : ℕ) (ks : List ℕ) → each_below n ks ≡ true → Each (λ k. k < n) ks
each_below_is n ks h = all_each (λ k. nat_lt k n) (λ k. k < n) (λ k q. ltb-true k n q) ks h

abbrev line_tests : Function → Line → List Bool
line_tests f l =
    list_all (contains (declared f)) (values_used l.inst) ∷
    list_all (contains (block_numbers f.blocks)) (blocks_used l.inst) ∷
    each_below (length f.slots) (slots_used l.inst) ∷
    each_below (length f.slots) (slots_shown l.tags) ∷
    each_below (length f.callees) (callees_used l.inst) ∷
    each_below (length f.sigs) (sigs_used l.inst) ∷
    []

abbrev line_well_formed : Function → Line → Bool
line_well_formed f l = all_true (line_tests f l)

abbrev block_well_formed : Function → Block → Bool
block_well_formed f b = list_all (line_well_formed f) b.lines

abbrev tests : Function → List Bool
tests f =
    not (empty f.blocks) ∷
    different (block_numbers f.blocks) ∷
    different (declared f) ∷
    different (definitions f.blocks) ∷
    list_all (contains (definitions f.blocks)) (declared f) ∷
    list_all (contains (declared f)) (definitions f.blocks) ∷
    list_all (λ (c : Callee). nat_lt c.sig (length f.sigs)) f.callees ∷
    list_all (block_well_formed f) f.blocks ∷
    []

abbrev pub well_formed : Function → Bool
well_formed f = all_true (tests f)

line_is : (f : Function) (l : Line) → line_well_formed f l ≡ true → LineWellFormed f l
line_is f l h =
    let t = each_true (line_tests f l) h in
    record {
      values = all_each (contains (declared f)) (λ v. In v (declared f)) (contains_in (declared f)) (values_used l.inst) t.0;
      blocks = all_each (contains (block_numbers f.blocks)) (λ b. In b (block_numbers f.blocks)) (contains_in (block_numbers f.blocks)) (blocks_used l.inst) t.1.0;
      slots = each_below_is (length f.slots) (slots_used l.inst) t.1.1.0;
      shown = each_below_is (length f.slots) (slots_shown l.tags) t.1.1.1.0;
      callees = each_below_is (length f.callees) (callees_used l.inst) t.1.1.1.1.0;
      sigs = each_below_is (length f.sigs) (sigs_used l.inst) t.1.1.1.1.1.0;
    }

not_empty : {A : Type 0} (xs : List A) → not (empty xs) ≡ true → xs ≡ [] → ⊥
not_empty xs h q = not_true (empty xs) h (ap empty q)

pub well_formed_is : (f : Function) → well_formed f ≡ true → WellFormed f
well_formed_is f h =
    let t = each_true (tests f) h in
    record {
      begins = not_empty f.blocks t.0;
      blocks = different_is (block_numbers f.blocks) t.1.0;
      declared_once = different_is (declared f) t.1.1.0;
      defined_once = different_is (definitions f.blocks) t.1.1.1.0;
      defined = all_in (definitions f.blocks) (declared f) t.1.1.1.1.0;
      definitions_declared = all_in (declared f) (definitions f.blocks) t.1.1.1.1.1.0;
      callees = all_each (λ (c : Callee). nat_lt c.sig (length f.sigs)) (λ (c : Callee). c.sig < length f.sigs) (λ c q. ltb-true c.sig (length f.sigs) q) f.callees t.1.1.1.1.1.1.0;
      lines = all_each (block_well_formed f) (BlockWellFormed f) (λ b q. all_each (line_well_formed f) (LineWellFormed f) (line_is f) b.lines q) f.blocks t.1.1.1.1.1.1.1.0;
    }

pub is_module : (m : Module) → DifferentNames m → list_all well_formed m ≡ true → IsModule m
is_module m names h = record { names = names; whole = all_each well_formed WellFormed well_formed_is m h }

-- ---- availability

-- the values defined before the line i, where those of `entry` are before the first
abbrev defined_before : List ℕ → List Line → ℕ → List ℕ
defined_before entry ls zero = entry
defined_before entry [] (suc i) = entry
defined_before entry (l ∷ ls) (suc i) = defined_before (l.results ++ entry) ls i

defined_next : (entry : List ℕ) (ls : List Line) (i : ℕ) (l : Line) → slice_get ls i ≡ Some l → defined_before entry ls (suc i) ≡ l.results ++ defined_before entry ls i
defined_next entry [] i l h = cc
defined_next entry (k ∷ ls) zero l h = ap (λ (z : Line). z.results ++ entry) (some_same h)
defined_next entry (k ∷ ls) (suc i) l h = defined_next (k.results ++ entry) ls i l h

-- what a block is found by
block_found : (n : ℕ) (bs : List Block) (b : Block) → find_block n bs ≡ Some b → (b.number ≡ n) × In b bs
block_found n [] b h = cc
block_found n (c ∷ bs) b h = go (nat_eq c.number n) refl h (block_found n bs b)
  where
    go : (z : Bool) → nat_eq c.number n ≡ z → (if z then Some c else find_block n bs) ≡ Some b → (find_block n bs ≡ Some b → (b.number ≡ n) × In b bs) → (b.number ≡ n) × In b (c ∷ bs)
    go true q k rest = let e = some_same k in (ap (λ (z : Block). z.number) (sym e) ∙ number_equal c.number n q, inl (sym e))
    go false q k rest = let r = rest k in (r.0, inr r.1)

-- known: of each block by its number the values that every path into it has defined
module _ (known : ℕ → List ℕ) where
  -- they are defined at a branch to it
  abbrev target_known : List ℕ → BlockCall → Bool
  target_known defs t = list_all (contains defs) (known t.block)

  abbrev lines_known : List ℕ → List Line → Bool
  lines_known defs [] = true
  lines_known defs (l ∷ ls) = list_all (target_known defs) (targets l.inst) && lines_known (l.results ++ defs) ls

  abbrev block_known : Block → Bool
  block_known b = lines_known (b.params ++ known b.number) b.lines

  -- nothing is before the first block, and at each branch is defined what is known of its target
  abbrev pub is_known : Function → Bool
  is_known f = empty (known (first_number f.blocks)) && list_all block_known f.blocks

  abbrev defined_in : ℕ → ℕ → Option Block → List ℕ
  defined_in b i None = []
  defined_in b i (Some block) = defined_before (block.params ++ known b) block.lines i

  -- the values defined on every path to the line i of the block b
  abbrev defined_at : Function → ℕ → ℕ → List ℕ
  defined_at f b i = defined_in b i (find_block b f.blocks)

  abbrev pub is_available : Function → ℕ → ℕ → ℕ → Bool
  is_available f b i v = contains (defined_at f b i) v

  line_known : (defs : List ℕ) (ls : List Line) (i : ℕ) (l : Line) → lines_known defs ls ≡ true → slice_get ls i ≡ Some l → list_all (target_known (defined_before defs ls i)) (targets l.inst) ≡ true
  line_known defs [] i l h g = cc
  line_known defs (k ∷ ls) zero l h g = subst (λ (z : Line). list_all (target_known defs) (targets z.inst) ≡ true) (some_same g) (and_parts (list_all (target_known defs) (targets k.inst)) (lines_known (k.results ++ defs) ls) h).0
  line_known defs (k ∷ ls) (suc i) l h g = line_known (k.results ++ defs) ls i l (and_parts (list_all (target_known defs) (targets k.inst)) (lines_known (k.results ++ defs) ls) h).1 g

  -- at a branch
  at_branch : (f : Function) → is_known f ≡ true → (b i : ℕ) (block : Block) → find_block b f.blocks ≡ Some block → (l : Line) → slice_get block.lines i ≡ Some l → (t : BlockCall) → In t (targets l.inst) → (v : ℕ) → In v (known t.block) → In v (defined_at f b i)
  at_branch f h b i block q l p t is v k =
      let found = block_found b f.blocks block q in
      let each = all_each block_known (λ z. block_known z ≡ true) (λ z e. e) f.blocks (and_parts (empty (known (first_number f.blocks))) (list_all block_known f.blocks) h).1 in
      let one = subst (λ n. lines_known (block.params ++ known n) block.lines ≡ true) found.0 (each_in (λ z. block_known z ≡ true) f.blocks each block found.1) in
      let line = line_known (block.params ++ known b) block.lines i l one p in
      let defs = defined_before (block.params ++ known b) block.lines i in
      let target = each_in (λ z. target_known defs z ≡ true) (targets l.inst) (all_each (target_known defs) (λ z. target_known defs z ≡ true) (λ z e. e) (targets l.inst) line) t is in
      subst (In v) (sym (ap (defined_in b i) q)) (all_in defs (known t.block) target v k)

  -- each path has defined them
  passed : (f : Function) → is_known f ≡ true → {b i : ℕ} {defs : List ℕ} → Reach f b i defs → (v : ℕ) → In v (defined_at f b i) → In v defs
  passed f h (begin first others q) v k = elim (in_cases v first.params (known first.number) (subst (In v) entered k)) [ inl r ↦ r | inr r ↦ absurd (nothing (known first.number) none r) ]
    where
      entered : defined_at f first.number 0 ≡ first.params ++ known first.number
      entered = ap (λ bs. defined_in first.number 0 (find_block first.number bs)) q ∙ ap (λ z. defined_in first.number 0 (if z then Some first else find_block first.number others)) (eq-eqb first.number first.number refl)

      none : empty (known first.number) ≡ true
      none = subst (λ bs. empty (known (first_number bs)) ≡ true) q (and_parts (empty (known (first_number f.blocks))) (list_all block_known f.blocks) h).0

      nothing : (xs : List ℕ) → empty xs ≡ true → In v xs → ⊥
      nothing [] e i = i
      nothing (x ∷ xs) e i = cc
  passed f h (next {b = b} {i = i} {defs = defs} r block q l p goes) v k =
      let before = defined_before (block.params ++ known b) block.lines i in
      elim (in_cases v l.results before (subst (In v) (ap (defined_in b (suc i)) q ∙ defined_next (block.params ++ known b) block.lines i l p) k)) [
        | inl s ↦ in_left v l.results defs s
        | inr s ↦ in_right v l.results defs (passed f h r v (subst (In v) (sym (ap (defined_in b i) q)) s))
      ]
  passed f h (branch {b = b} {i = i} {defs = defs} r block q l p t is entered e) v k =
      elim (in_cases v entered.params (known t.block) (subst (In v) (ap (defined_in t.block 0) e) k)) [
        | inl s ↦ in_left v entered.params defs s
        | inr s ↦ in_right v entered.params defs (passed f h r v (at_branch f h b i block q l p t is v s))
      ]

  available : (f : Function) → is_known f ≡ true → (b i v : ℕ) → is_available f b i v ≡ true → Available f b i v
  available f h b i v e = λ defs r. passed f h r v (contains_in (defined_at f b i) v e)

-- ---- acceptance, by a test for availability that may be wrong where it says no

abbrev Sound : (Function → ℕ → ℕ → ℕ → Bool) → Function → Type 0
Sound test f = (b i v : ℕ) → test f b i v ≡ true → Available f b i v

module _ (test : Function → ℕ → ℕ → ℕ → Bool) (m : Module) where
  by_test : (f : Function) (place : Item) (rule : Rule) → (rule ≡ not_available → ⊥) → kept test m f place rule ≡ true → Holds m f place rule
  by_test f place rule other h = (rules_are_tests test m f place rule (λ e. absurd (other e))).0 h

  uses_available : (f : Function) → Sound test f → (place : Item) → kept test m f place not_available ≡ true → Holds m f place not_available
  uses_available f sound item.Whole h = tt
  uses_available f sound (item.Callee k) h = λ c q. tt
  uses_available f sound (item.Block b) h = λ block q. tt
  uses_available f sound (item.Inst at) h = λ block l q g. all_each (test f at.block at.index) (Available f at.block at.index) (sound at.block at.index) (values_used l.inst) (at_line block l q g)
    where
      at_line : (block : Block) (l : Line) → find_block at.block f.blocks ≡ Some block → slice_get block.lines at.index ≡ Some l → list_all (test f at.block at.index) (values_used l.inst) ≡ true
      at_line block l q g =
          subst (λ z. if_some z (λ (l : Line). kept_at_line test f at.block block at.index l not_available) ≡ true) g
          (subst (λ z. if_some z (λ (block : Block). if_some (slice_get block.lines at.index) (λ (l : Line). kept_at_line test f at.block block at.index l not_available)) ≡ true) q h)

  holds : (f : Function) → Sound test f → (place : Item) (rule : Rule) → kept test m f place rule ≡ true → Holds m f place rule
  holds f sound place no_terminator h = by_test f place no_terminator (λ e. cc) h
  holds f sound place entry_target h = by_test f place entry_target (λ e. cc) h
  holds f sound place count_mismatch h = by_test f place count_mismatch (λ e. cc) h
  holds f sound place type_mismatch h = by_test f place type_mismatch (λ e. cc) h
  holds f sound place convention h = by_test f place convention (λ e. cc) h
  holds f sound place signature_mismatch h = by_test f place signature_mismatch (λ e. cc) h
  holds f sound place slot_range h = by_test f place slot_range (λ e. cc) h
  holds f sound place tag_place h = by_test f place tag_place (λ e. cc) h
  holds f sound place not_available h = uses_available f sound place h

all_good : (t : Check → Bool) (Good : Check → Type 0) (cs : List Check) → ((c : Check) → In c cs → t c ≡ true → Good c) → first_failing t cs ≡ None → Each Good cs
all_good t Good [] shows q = tt
all_good t Good (a ∷ cs) shows q = go (t a) (shows a (inl refl)) q (all_good t Good cs (λ c i. shows c (inr i)))
  where
    go : (z : Bool) → (z ≡ true → Good a) → (if z then first_failing t cs else Some a) ≡ None → (first_failing t cs ≡ None → Each Good cs) → Each Good (a ∷ cs)
    go true shows q rest = (shows refl, rest q)
    go false shows q rest = cc

first_bad : (t : Check → Bool) (Good : Check → Type 0) (cs : List Check) → ((c : Check) → In c cs → t c ≡ true → Good c) → (bad : Check) → first_failing t cs ≡ Some bad → (Good bad → ⊥) → FirstBad Good cs bad
first_bad t Good [] shows bad q no_good = cc
first_bad t Good (a ∷ cs) shows bad q no_good = go (t a) (shows a (inl refl)) q (first_bad t Good cs (λ c i. shows c (inr i)) bad)
  where
    go : (z : Bool) → (z ≡ true → Good a) → (if z then first_failing t cs else Some a) ≡ Some bad → (first_failing t cs ≡ Some bad → (Good bad → ⊥) → FirstBad Good cs bad) → FirstBad Good (a ∷ cs) bad
    go true shows q rest = later (shows refl) (rest q no_good)
    go false shows q rest = let e = some_same q in subst (λ z. FirstBad Good (a ∷ cs) z) e (this (λ g. no_good (subst Good e g)))

module _ (known : Function → ℕ → List ℕ) (m : Module) where
  abbrev pub known_available : Function → ℕ → ℕ → ℕ → Bool
  known_available f b i v = is_available (known f) f b i v

  abbrev pub all_known : Bool
  all_known = list_all (λ f. is_known (known f) f) m

  passes_good : all_known ≡ true → (c : Check) → In c (checks m) → passes known_available m c ≡ true → Passed m c
  passes_good h c i q =
      let each = all_each (λ f. is_known (known f) f) (λ f. is_known (known f) f ≡ true) (λ f e. e) m h in
      holds known_available m c.func (available (known c.func) c.func (each_in (λ f. is_known (known f) f ≡ true) m each c.func (get_in m c.number c.func (checks_of m c i)))) c.place c.rule q

  -- a module in which the tests find no fault is accepted
  pub accepted : all_known ≡ true → first_fault known_available m ≡ None → Accepted m
  accepted h q = accepted_of m (all_good (passes known_available m) (Passed m) (checks m) (passes_good h) q)

  -- the fault that they find is the first, if it is one
  pub faulty : all_known ≡ true → (c : Check) → first_fault known_available m ≡ Some c → (Passed m c → ⊥) → FirstFault m c.number c.place c.rule
  faulty h c q not_kept = (c.func, first_bad (passes known_available m) (Passed m) (checks m) (passes_good h) c q not_kept)
