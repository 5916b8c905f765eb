-- A search for the first fault: what is left of the checks, and the fronts that the code looks at.
use Rattle.std.proofs.Common.{◌≡◌, ◌⊎◌, inl, inr, ℕ, suc, ◌+◌, ◌<◌, ◌≤◌, ◌^◌, List, [], ◌∷◌, ◌++◌, length, map, drop, Option, Some, None, Bool, true, false, refl, sym, ap, subst, ◌∙◌, arith, add-one, append_assoc, get_or, eq-eqb, ne_eqb}
use Rattle.std.specs.Prelude.{slice_get, if◌then◌else◌, nat_eq, IsTrue, not, ◌↔◌, Result, Ok, Err, IfOk}
use Rattle.std.specs.List.{list_all}
use Rattle.std.proofs.lemmas.Bool.{cases_eq}
use Rattle.std.proofs.lemmas.Option.{slice_get_past, slice_get_within, slice_get-get_or, slice_get_read}
use Rattle.std.proofs.lemmas.List.{length-map}
use Rattle.ir_core.specs.declared.declarations.Callee.{Callee}
use Rattle.ir_core.specs.declared.instructions.InstData.{InstData}
use Rattle.ir_core.specs.declared.places.Item.{Item}
use Rattle.ir_core.specs.declared.places.Item.TheVariants as item
use Rattle.ir_core.specs.Edits.{params_of, lines_of}
use Rattle.ir_core.specs.Module.{Line, Block, Function, Module}
use Rattle.ir_core.specs.Lookup.{find_block, block_numbers}
use Rattle.ir_core.specs.Lists.{In, Each, Different, Below}
use Rattle.ir_core.specs.Sound.{IsSound, CalleeInRange, BlockInRange, LineInRange, counts_of, instruction_count}
use Rattle.ir_core.specs.Uses.{targets, values_used}
use Rattle.ir_core.specs.Viewed.{line_of, instruction_of}
use Rattle.ir_core.proofs.Gets.{some_same, next_left, get_in}
use Rattle.ir_core.proofs.Members.{each_by, each_in}
use Rattle.ir_core.proofs.ByNumber.{in_find}
use Rattle.ir_semantics.specs.Available.{Available, terminates}
use Rattle.ir_semantics.specs.Accepted.{Rule, no_terminator, entry_target, count_mismatch, type_mismatch, convention, signature_mismatch, slot_range, tag_place, not_available, Holds, UsesAvailable}
use Rattle.ir_semantics.specs.Splice.{first_number}
use Rattle.ir_semantics.proofs.SafetyPlaces.{block_in}
use Rattle.avail_flow.proofs.Blocks.{number_found, found_parts}
use Rattle.avail_flow.proofs.Edging.{line_at}
use Rattle.avail_flow.proofs.Listing.{left_past}
use Rattle.ir_check.specs.declared.faults.Fault.{Fault}
use Rattle.ir_check.specs.declared.kinds.CheckKind.{CheckKind}
use Rattle.ir_check.specs.declared.kinds.CheckKind.TheVariants as kind
use Rattle.ir_check.specs.Faults.{callee_items, line_items, block_items, items, Check, check, tried_at, tried, first_rules, last_rules, checks, FirstBad, this, later, Passed}
use Rattle.ir_check.specs.Found.{Finds, FindsAny, block_at, block_parts}
use Rattle.ir_check.specs.Kinds.{rule_of, rule_named, failing_rule, line_keeps}
use Rattle.ir_check.specs.Twins.{kept, filled, empty, implies, is_first, kept_at_line, kept_at_block, kept_at_callee, always_available, ends_by, ends_rightly, if_some, leaves}
use Rattle.ir_check.proofs.ByTests.{longer, not_last}
use Rattle.ir_check.proofs.Tests.{Twin, kept_is}

-- ---- what is left

pub record Rest (m : Module) (whole rest : List Check) : Type 0 where
  pub all : Each (Passed m) rest → Each (Passed m) whole
  pub bad : (c : Check) → FirstBad (Passed m) rest c → FirstBad (Passed m) whole c

pub whole_rest : (m : Module) (whole : List Check) → Rest m whole whole
whole_rest m whole = record { all = λ e. e; bad = λ c b. b }

each_join : (m : Module) (xs ys : List Check) → Each (Passed m) xs → Each (Passed m) ys → Each (Passed m) (xs ++ ys)
each_join m [] ys e d = d
each_join m (x ∷ xs) ys e d = (e.0, each_join m xs ys e.1 d)

behind : (m : Module) (xs ys : List Check) (c : Check) → Each (Passed m) xs → FirstBad (Passed m) ys c → FirstBad (Passed m) (xs ++ ys) c
behind m [] ys c e b = b
behind m (x ∷ xs) ys c e b = later e.0 (behind m xs ys c e.1 b)

-- the front passes
pub rest_more : (m : Module) (whole rest front others : List Check) → rest ≡ front ++ others → Each (Passed m) front → Rest m whole rest → Rest m whole others
rest_more m whole rest front others q e r = record {
  all = λ d. r.all (subst (Each (Passed m)) (sym q) (each_join m front others e d));
  bad = λ c b. r.bad c (subst (λ z. FirstBad (Passed m) z c) (sym q) (behind m front others c e b));
}

-- or it has the first fault
pub rest_bad : (m : Module) (whole rest front others : List Check) (c : Check) → rest ≡ front ++ others → FirstBad (Passed m) front c → Rest m whole rest → FirstBad (Passed m) whole c
rest_bad m whole rest front others c q b r = r.bad c (subst (λ z. FirstBad (Passed m) z c) (sym q) (longer (Passed m) front others c b))

pub rest_none : (m : Module) (whole rest : List Check) → rest ≡ [] → Rest m whole rest → Each (Passed m) whole
rest_none m whole rest q r = r.all (subst (Each (Passed m)) (sym q) tt)

-- two parts
pub both_find : (m : Module) (f : Function) (xs ys : List Check) (o : Option Fault) → Each (Passed m) xs → Finds m f ys o → Finds m f (xs ++ ys) o
both_find m f xs ys None e d = each_join m xs ys e d
both_find m f xs ys (Some g) e b = behind m xs ys (check g.func f g.item (rule_of g.kind)) e b

pub first_finds : (m : Module) (f : Function) (xs ys : List Check) (g : Fault) → Finds m f xs (Some g) → Finds m f (xs ++ ys) (Some g)
first_finds m f xs ys g b = longer (Passed m) xs ys (check g.func f g.item (rule_of g.kind)) b

-- ---- of the rules at one place

-- the fault of this kind at this place
abbrev pub fault_at : ℕ → Item → Option CheckKind → Option Fault
fault_at n place None = None
fault_at n place (Some k) = Some (record { kind = k; func = n; item = place })

pub finds_rule : (m : Module) (f : Function) (n : ℕ) (place : Item) (t : Rule → Bool) (rules : List Rule) → ((r : Rule) → In r rules → Twin (t r) (Holds m f place r)) → (k : Option CheckKind) → rule_named k ≡ failing_rule t rules → Finds m f (map (check n f place) rules) (fault_at n place k)
finds_rule m f n place t [] h None q = tt
finds_rule m f n place t [] h (Some k) q = absurd cc
finds_rule m f n place t (r ∷ rs) h k q = go (t r) (h r (inl refl)) k q (finds_rule m f n place t rs (λ s i. h s (inr i)) k)
  where
    go : (z : Bool) → Twin z (Holds m f place r) → (k : Option CheckKind) → rule_named k ≡ (if z then failing_rule t rs else Some r) → (rule_named k ≡ failing_rule t rs → Finds m f (map (check n f place) rs) (fault_at n place k)) → Finds m f (map (check n f place) (r ∷ rs)) (fault_at n place k)
    go true w None q ih = (w.yes refl, ih q)
    go true w (Some k) q ih = later (w.yes refl) (ih q)
    go false w None q ih = absurd cc
    go false w (Some k) q ih = subst (λ z. FirstBad (Passed m) (map (check n f place) (r ∷ rs)) (check n f place z)) (sym (some_same q)) (this (λ g. let e : false ≡ true = w.back g in cc))

twin_by : (b d : Bool) (P : Type 0) → b ≡ d → Twin d P → Twin b P
twin_by b d P q w = record { yes = λ h. w.yes (sym q ∙ h); back = λ p. q ∙ w.back p }

-- a rule of the first is not availability
early_is : (m : Module) (f : Function) (place : Item) (r : Rule) → In r first_rules → Twin (kept always_available m f place r) (Holds m f place r)
early_is m f place r i = kept_is always_available m f place r (λ e. absurd (each_in (λ (s : Rule). s ≡ not_available → ⊥) first_rules not_last r i e))

-- ---- a line

-- the block of a number, and its line
pub record Stands (f : Function) (b i : ℕ) (l : Line) : Type 0 where
  pub block : Block
  pub found : find_block b f.blocks ≡ Some block
  pub lines : lines_of b f.blocks ≡ block.lines
  pub got : slice_get block.lines i ≡ Some l

pub stands : (f : Function) (b i : ℕ) (l : Line) → In b (block_numbers f.blocks) → slice_get (lines_of b f.blocks) i ≡ Some l → Stands f b i l
stands f b i l there at =
    let r = number_found b f.blocks there in
    let p = (found_parts b f.blocks r.0 r.1).1 in
    record { block = r.0; found = r.1; lines = p; got = ap (λ (ls : List Line). slice_get ls i) (sym p) ∙ at }

pub line_range : (f : Function) → IsSound f → (b i : ℕ) (l : Line) → Stands f b i l → LineInRange (counts_of f) l
line_range f s b i l w = each_in (LineInRange (counts_of f)) w.block.lines (each_in (BlockInRange (counts_of f)) f.blocks s.blocks w.block (block_in b f.blocks w.block w.found)).lines l (get_in w.block.lines i l w.got)

counted : (bs : List Block) (b : Block) → In b bs → length b.lines ≤ instruction_count bs
counted [] b i = elim i [ ]
counted (c ∷ bs) b (inl q) = let e : length b.lines ≡ length c.lines = ap (λ (z : Block). length z.lines) q in omega arith
counted (c ∷ bs) b (inr i) = let h = counted bs b i in omega arith

pub line_fits : (f : Function) → IsSound f → (b i : ℕ) (l : Line) → Stands f b i l → i < 2 ^ 32
line_fits f s b i l w =
    let h = counted f.blocks w.block (block_in b f.blocks w.block w.found) in
    let k = slice_get_within w.block.lines i l w.got in
    let n = s.small.instructions in
    omega arith

ends_is : (ls : List Line) (i k : ℕ) (l : Line) → i < length ls → k ≡ length ls → (t : Bool) → ends_by t (nat_eq (i + 1) k) ≡ ends_rightly t (slice_get ls (suc i))
ends_is ls i k l low size t = by (cases_eq (i + 1) k)
  where
    last : (t : Bool) → ends_by t true ≡ ends_rightly t None
    last true = refl
    last false = refl

    inner : (t : Bool) (o : Line) → ends_by t false ≡ ends_rightly t (Some o)
    inner true o = refl
    inner false o = refl

    by : (i + 1 ≡ k) ⊎ (i + 1 ≡ k → ⊥) → ends_by t (nat_eq (i + 1) k) ≡ ends_rightly t (slice_get ls (suc i))
    by (inl e) = ap (ends_by t) (eq-eqb (i + 1) k e) ∙ (last t ∙ ap (ends_rightly t) (sym (slice_get_past ls (suc i) (omega arith))))
    by (inr ne) =
        let below : suc i < length ls = (let ne2 : i + 1 ≡ length ls → ⊥ = λ q. ne (q ∙ sym size) in omega arith) in
        ap (ends_by t) (ne_eqb (i + 1) k ne) ∙ (inner t (get_or ls (suc i) l) ∙ ap (ends_rightly t) (sym (slice_get-get_or ls (suc i) l below)))

module _ (f : Function) (b i : ℕ) (l : Line) (w : Stands f b i l) where
  line_kept : (m : Module) (r : Rule) → kept always_available m f (item.Inst (record { block = b; index = i })) r ≡ kept_at_line always_available f b w.block i l r
  line_kept m r =
      ap (λ o. if_some o (λ (k : Block). if_some (slice_get k.lines i) (λ (l : Line). kept_at_line always_available f b k i l r))) w.found
      ∙ ap (λ o. if_some o (λ (l : Line). kept_at_line always_available f b w.block i l r)) w.got

  line_same : (first k : ℕ) → first ≡ first_number f.blocks → k ≡ length (lines_of b f.blocks) → (r : Rule) → In r first_rules → line_keeps f first (nat_eq (i + 1) k) l r ≡ kept_at_line always_available f b w.block i l r
  line_same first k q size no_terminator j = ends_is w.block.lines i k l (slice_get_within w.block.lines i l w.got) (size ∙ ap length w.lines) (terminates l.inst)
  line_same first k q size entry_target j = ap (λ (z : ℕ). list_all (leaves z) (targets l.inst)) q
  line_same first k q size count_mismatch j = refl
  line_same first k q size type_mismatch j = refl
  line_same first k q size convention j = refl
  line_same first k q size signature_mismatch j = refl
  line_same first k q size slot_range j = refl
  line_same first k q size tag_place j = refl
  line_same first k q size not_available j = absurd (each_in (λ (s : Rule). s ≡ not_available → ⊥) first_rules not_last not_available j refl)

  -- what is found at a line
  pub line_finds : (m : Module) (n first k : ℕ) → first ≡ first_number f.blocks → k ≡ length (lines_of b f.blocks) → (o : Option CheckKind) → rule_named o ≡ failing_rule (line_keeps f first (nat_eq (i + 1) k) l) first_rules → Finds m f (map (check n f (item.Inst (record { block = b; index = i }))) first_rules) (fault_at n (item.Inst (record { block = b; index = i })) o)
  line_finds m n first k q size o e =
      finds_rule m f n (item.Inst (record { block = b; index = i })) (line_keeps f first (nat_eq (i + 1) k) l) first_rules
      (λ r j. twin_by (line_keeps f first (nat_eq (i + 1) k) l r) (kept always_available m f (item.Inst (record { block = b; index = i })) r) (Holds m f (item.Inst (record { block = b; index = i })) r) (line_same first k q size r j ∙ sym (line_kept m r)) (early_is m f (item.Inst (record { block = b; index = i })) r j)) o e

  same_line : (block : Block) (k : Line) → find_block b f.blocks ≡ Some block → slice_get block.lines i ≡ Some k → l ≡ k
  same_line block k found got =
      let q : w.block ≡ block = some_same (sym w.found ∙ found) in
      some_same (sym w.got ∙ (ap (λ (z : Block). slice_get z.lines i) q ∙ got))

  -- availability at a line
  pub line_held : (m : Module) → UsesAvailable f b i l → Holds m f (item.Inst (record { block = b; index = i })) not_available
  line_held m u = λ block k found got. let e : l ≡ k = same_line block k found got in subst (λ (z : Line). UsesAvailable f b i z) e u

  pub line_bad : (m : Module) → (UsesAvailable f b i l → ⊥) → Holds m f (item.Inst (record { block = b; index = i })) not_available → ⊥
  line_bad m ne h = ne (h w.block l w.found w.got)

-- the checks of what is left of a block's lines begin with those of the line
pub lines_left : (rules : List Rule) (n : ℕ) (f : Function) (b : ℕ) (ls : List Line) (i : ℕ) (l : Line) → slice_get ls i ≡ Some l → tried_at rules n f (line_items b i (drop i ls)) ≡ map (check n f (item.Inst (record { block = b; index = i }))) rules ++ tried_at rules n f (line_items b (i + 1) (drop (i + 1) ls))
lines_left rules n f b ls i l at =
    ap (λ (z : List Line). tried_at rules n f (line_items b i z)) (next_left ls i l at)
    ∙ ap (λ (k : ℕ). map (check n f (item.Inst (record { block = b; index = i }))) rules ++ tried_at rules n f (line_items b k (drop (i + 1) ls))) (sym (add-one i))

pub lines_past : (rules : List Rule) (n : ℕ) (f : Function) (b : ℕ) (ls : List Line) (i : ℕ) → length ls ≤ i → tried_at rules n f (line_items b i (drop i ls)) ≡ []
lines_past rules n f b ls i high = ap (λ (z : List Line). tried_at rules n f (line_items b i z)) (left_past ls i (slice_get_past ls i high))

-- ---- a line of the code

module _ (f : Function) (s : IsSound f) (b : ℕ) (there : In b (block_numbers f.blocks)) (xs : List InstData) (e : map line_of xs ≡ lines_of b f.blocks) (i : ℕ) (x : InstData) (low : i < length xs) (at : x ≡ get_or xs i x) where
  got : slice_get (lines_of b f.blocks) i ≡ Some (line_of x)
  got = line_at xs (lines_of b f.blocks) i x e low at

  here : Stands f b i (line_of x)
  here = stands f b i (line_of x) there got

  pub here_range : LineInRange (counts_of f) (line_of x)
  here_range = line_range f s b i (line_of x) here

  pub here_fits : i < 2 ^ 32
  here_fits = line_fits f s b i (line_of x) here

  size : length xs ≡ length (lines_of b f.blocks)
  size = sym (length-map xs line_of) ∙ ap length e

  abbrev pub All : List Rule → ℕ → List Check
  All rules n = tried_at rules n f (line_items b 0 (lines_of b f.blocks))

  abbrev pub From : List Rule → ℕ → ℕ → List Check
  From rules n k = tried_at rules n f (line_items b k (drop k (lines_of b f.blocks)))

  abbrev At : List Rule → ℕ → List Check
  At rules n = map (check n f (item.Inst (record { block = b; index = i }))) rules

  -- a rule but availability fails at the line, or none does
  pub here_bad : (n first : ℕ) → first ≡ first_number f.blocks → (k : CheckKind) → rule_named (Some k) ≡ failing_rule (line_keeps f first (nat_eq (i + 1) (length xs)) (line_of x)) first_rules → ((m : Module) → Rest m (All first_rules n) (From first_rules n i)) → (m : Module) → Finds m f (All first_rules n) (Some (record { kind = k; func = n; item = item.Inst (record { block = b; index = i }) }))
  here_bad n first q k r left m =
      rest_bad m (All first_rules n) (From first_rules n i) (At first_rules n) (From first_rules n (i + 1)) (check n f (item.Inst (record { block = b; index = i })) (rule_of k)) (lines_left first_rules n f b (lines_of b f.blocks) i (line_of x) got)
      (line_finds f b i (line_of x) here m n first (length xs) q size (Some k) r) (left m)

  pub here_good : (n first : ℕ) → first ≡ first_number f.blocks → (o : Option CheckKind) → o ≡ None → rule_named o ≡ failing_rule (line_keeps f first (nat_eq (i + 1) (length xs)) (line_of x)) first_rules → ((m : Module) → Rest m (All first_rules n) (From first_rules n i)) → (m : Module) → Rest m (All first_rules n) (From first_rules n (i + 1))
  here_good n first q o z r left m =
      rest_more m (All first_rules n) (From first_rules n i) (At first_rules n) (From first_rules n (i + 1)) (lines_left first_rules n f b (lines_of b f.blocks) i (line_of x) got)
      (line_finds f b i (line_of x) here m n first (length xs) q size None (sym (ap rule_named z) ∙ r)) (left m)

  module _ (g : Function) (gf : g ≡ f) where
    pub here_block : In b (block_numbers g.blocks)
    here_block = subst (λ (z : Function). In b (block_numbers z.blocks)) (sym gf) there

    pub here_inside : Below (length g.types) (values_used (instruction_of x.inst))
    here_inside = subst (λ (z : Function). Below (length z.types) (values_used (instruction_of x.inst))) (sym gf) here_range.values

    held : (r : Bool) → IsTrue r ↔ Each (Available g b i) (values_used (instruction_of x.inst)) → IsTrue r ↔ Each (Available f b i) (values_used (instruction_of x.inst))
    held r t = subst (λ (z : Function). IsTrue r ↔ Each (Available z b i) (values_used (instruction_of x.inst))) gf t

    -- a value is not available at the line, or each is
    pub use_bad : (r : Bool) → IsTrue r ↔ Each (Available g b i) (values_used (instruction_of x.inst)) → r ≡ false → (n : ℕ) → ((m : Module) → Rest m (All last_rules n) (From last_rules n i)) → (m : Module) → Finds m f (All last_rules n) (Some (record { kind = kind.NotAvailable; func = n; item = item.Inst (record { block = b; index = i }) }))
    use_bad r t q n left m =
        rest_bad m (All last_rules n) (From last_rules n i) (At last_rules n) (From last_rules n (i + 1)) (check n f (item.Inst (record { block = b; index = i })) not_available) (lines_left last_rules n f b (lines_of b f.blocks) i (line_of x) got)
        (this (line_bad f b i (line_of x) here m (λ u. let y : r ≡ true = (held r t).1 u in cc))) (left m)

    pub use_good : (r : Bool) → IsTrue r ↔ Each (Available g b i) (values_used (instruction_of x.inst)) → r ≡ true → (n : ℕ) → ((m : Module) → Rest m (All last_rules n) (From last_rules n i)) → (m : Module) → Rest m (All last_rules n) (From last_rules n (i + 1))
    use_good r t q n left m =
        rest_more m (All last_rules n) (From last_rules n i) (At last_rules n) (From last_rules n (i + 1)) (lines_left last_rules n f b (lines_of b f.blocks) i (line_of x) got)
        (line_held f b i (line_of x) here m ((held r t).0 q), tt) (left m)

pub lines_done : (f : Function) (b : ℕ) (xs : List InstData) → map line_of xs ≡ lines_of b f.blocks → (i : ℕ) → length xs ≤ i → (rules : List Rule) (n : ℕ) → ((m : Module) → Rest m (tried_at rules n f (line_items b 0 (lines_of b f.blocks))) (tried_at rules n f (line_items b i (drop i (lines_of b f.blocks))))) → (m : Module) → Each (Passed m) (tried_at rules n f (line_items b 0 (lines_of b f.blocks)))
lines_done f b xs e i high rules n left m =
    let size : length xs ≡ length (lines_of b f.blocks) = sym (length-map xs line_of) ∙ ap length e in
    rest_none m (tried_at rules n f (line_items b 0 (lines_of b f.blocks))) (tried_at rules n f (line_items b i (drop i (lines_of b f.blocks)))) (lines_past rules n f b (lines_of b f.blocks) i (omega arith)) (left m)

pub lines_begin : (f : Function) (b : ℕ) (rules : List Rule) (n : ℕ) → (m : Module) → Rest m (tried_at rules n f (line_items b 0 (lines_of b f.blocks))) (tried_at rules n f (line_items b 0 (drop 0 (lines_of b f.blocks))))
lines_begin f b rules n m = whole_rest m (tried_at rules n f (line_items b 0 (lines_of b f.blocks)))

-- ---- a block

pub filled_is : (f : Function) (b : ℕ) (xs : List InstData) → map line_of xs ≡ lines_of b f.blocks → (r : Bool) → r ≡ nat_eq (length xs) 0 → not r ≡ filled (block_at f b)
filled_is f b xs e r q = ap not q ∙ (counted_lines xs ∙ ap (λ (z : List Line). not (empty z)) e)
  where
    counted_lines : (ys : List InstData) → not (nat_eq (length ys) 0) ≡ not (empty (map line_of ys))
    counted_lines [] = refl
    counted_lines (y ∷ ys) = ap not (ne_eqb (length (y ∷ ys)) 0 (λ h. omega (arith, h)))

pub entry_skipped : (f : Function) (r : Bool) (b first : ℕ) (t : Bool) → r ≡ nat_eq b first → r ≡ false → first ≡ first_number f.blocks → true ≡ implies (is_first always_available f b) t
entry_skipped f r b first t q z e = sym (ap (λ (y : Bool). implies y t) (ap (nat_eq b) (sym e) ∙ (sym q ∙ z)))

pub entry_asked : (f : Function) (r : Bool) (b first : ℕ) (t u : Bool) → r ≡ nat_eq b first → r ≡ true → first ≡ first_number f.blocks → u ≡ t → u ≡ implies (is_first always_available f b) t
entry_asked f r b first t u q z e h = h ∙ sym (ap (λ (y : Bool). implies y t) (ap (nat_eq b) (sym e) ∙ (sym q ∙ z)))

block_kept : (m : Module) (f : Function) (b : ℕ) → In b (block_numbers f.blocks) → (r : Rule) → kept_at_block always_available f b (block_at f b) r ≡ kept always_available m f (item.Block b) r
block_kept m f b there r =
    let w = number_found b f.blocks there in
    let p = found_parts b f.blocks w.0 w.1 in
    same r w.0 p.0 p.1 ∙ sym (ap (λ o. if_some o (λ (k : Block). kept_at_block always_available f b k r)) w.1)
  where
    numberless : (r : Rule) (k : Block) → kept_at_block always_available f b (record { number = b; params = k.params; lines = k.lines }) r ≡ kept_at_block always_available f b k r
    numberless no_terminator k = refl
    numberless entry_target k = refl
    numberless count_mismatch k = refl
    numberless type_mismatch k = refl
    numberless convention k = refl
    numberless signature_mismatch k = refl
    numberless slot_range k = refl
    numberless tag_place k = refl
    numberless not_available k = refl

    same : (r : Rule) (k : Block) → params_of b f.blocks ≡ k.params → lines_of b f.blocks ≡ k.lines → kept_at_block always_available f b (block_at f b) r ≡ kept_at_block always_available f b k r
    same r k ps ls = ap (λ (z : List ℕ). kept_at_block always_available f b (record { number = b; params = z; lines = lines_of b f.blocks }) r) ps ∙ (ap (λ (z : List Line). kept_at_block always_available f b (record { number = b; params = k.params; lines = z }) r) ls ∙ numberless r k)

pub block_finds : (m : Module) (f : Function) (n b : ℕ) → In b (block_numbers f.blocks) → (o : Option CheckKind) → rule_named o ≡ failing_rule (kept_at_block always_available f b (block_at f b)) first_rules → Finds m f (map (check n f (item.Block b)) first_rules) (fault_at n (item.Block b) o)
block_finds m f n b there o e =
    finds_rule m f n (item.Block b) (kept_at_block always_available f b (block_at f b)) first_rules
    (λ r j. twin_by (kept_at_block always_available f b (block_at f b) r) (kept always_available m f (item.Block b) r) (Holds m f (item.Block b) r) (block_kept m f b there r) (early_is m f (item.Block b) r j)) o e

-- a rule but availability fails at the block, or none does
pub block_bad : (f : Function) (n b : ℕ) → In b (block_numbers f.blocks) → (k : CheckKind) → rule_named (Some k) ≡ failing_rule (kept_at_block always_available f b (block_at f b)) first_rules → (z : ℕ) → z ≡ b → (m : Module) → Finds m f (tried_at first_rules n f (block_parts f b)) (Some (record { kind = k; func = n; item = item.Block z }))
block_bad f n b there k e z q m =
    subst (λ (y : ℕ). Finds m f (tried_at first_rules n f (block_parts f b)) (Some (record { kind = k; func = n; item = item.Block y }))) (sym q)
    (first_finds m f (map (check n f (item.Block b)) first_rules) (tried_at first_rules n f (line_items b 0 (lines_of b f.blocks))) (record { kind = k; func = n; item = item.Block b }) (block_finds m f n b there (Some k) e))

pub block_good : (f : Function) (n b : ℕ) → In b (block_numbers f.blocks) → (o : Option CheckKind) → o ≡ None → rule_named o ≡ failing_rule (kept_at_block always_available f b (block_at f b)) first_rules → (p : Option Fault) → ((m : Module) → Finds m f (tried_at first_rules n f (line_items b 0 (lines_of b f.blocks))) p) → (m : Module) → Finds m f (tried_at first_rules n f (block_parts f b)) p
block_good f n b there o z e p h m =
    both_find m f (map (check n f (item.Block b)) first_rules) (tried_at first_rules n f (line_items b 0 (lines_of b f.blocks))) p (block_finds m f n b there None (sym (ap rule_named z) ∙ e)) (h m)

-- ---- the blocks, by their numbers

abbrev pub numbered_items : Function → List ℕ → List Item
numbered_items f [] = []
numbered_items f (b ∷ bs) = block_parts f b ++ numbered_items f bs

by_numbers : (f : Function) → Different (block_numbers f.blocks) → (bs : List Block) → ((b : Block) → In b bs → In b f.blocks) → block_items bs ≡ numbered_items f (block_numbers bs)
by_numbers f d [] h = refl
by_numbers f d (b ∷ bs) h =
    ap (λ (z : List Line). item.Block b.number ∷ (line_items b.number 0 z ++ block_items bs)) (sym (found_parts b.number f.blocks b (in_find b f.blocks d (h b (inl refl)))).1)
    ∙ ap (λ (z : List Item). item.Block b.number ∷ (line_items b.number 0 (lines_of b.number f.blocks) ++ z)) (by_numbers f d bs (λ c i. h c (inr i)))

pub numbered : (f : Function) → IsSound f → block_items f.blocks ≡ numbered_items f (block_numbers f.blocks)
numbered f s = by_numbers f s.blocks_differ f.blocks (λ b i. i)

pub tried_join : (rules : List Rule) (n : ℕ) (f : Function) (xs ys : List Item) → tried_at rules n f (xs ++ ys) ≡ tried_at rules n f xs ++ tried_at rules n f ys
tried_join rules n f [] ys = refl
tried_join rules n f (x ∷ xs) ys = ap (λ (z : List Check). map (check n f x) rules ++ z) (tried_join rules n f xs ys) ∙ sym (append_assoc (map (check n f x) rules) (tried_at rules n f xs) (tried_at rules n f ys))

pub blocks_left : (rules : List Rule) (n : ℕ) (f : Function) (numbers : List ℕ) (b : ℕ) (others : List ℕ) → numbers ≡ b ∷ others → tried_at rules n f (numbered_items f numbers) ≡ tried_at rules n f (block_parts f b) ++ tried_at rules n f (numbered_items f others)
blocks_left rules n f numbers b others q = ap (λ (z : List ℕ). tried_at rules n f (numbered_items f z)) q ∙ tried_join rules n f (block_parts f b) (numbered_items f others)

module _ (f : Function) (s : IsSound f) (rules : List Rule) (n : ℕ) where
  abbrev AllBlocks : List Check
  AllBlocks = tried_at rules n f (block_items f.blocks)

  abbrev BlocksFrom : List ℕ → List Check
  BlocksFrom numbers = tried_at rules n f (numbered_items f numbers)

  pub blocks_begin : (numbers : List ℕ) → numbers ≡ block_numbers f.blocks → (m : Module) → Rest m AllBlocks (BlocksFrom numbers)
  blocks_begin numbers q m = subst (λ (z : List ℕ). Rest m AllBlocks (BlocksFrom z)) (sym q) (subst (λ (z : List Item). Rest m AllBlocks (tried_at rules n f z)) (numbered f s) (whole_rest m AllBlocks))

  pub blocks_there : (numbers : List ℕ) → numbers ≡ block_numbers f.blocks → Each (λ k. In k (block_numbers f.blocks)) numbers
  blocks_there numbers q = subst (λ (z : List ℕ). Each (λ k. In k (block_numbers f.blocks)) z) (sym q) (each_by (λ k. In k (block_numbers f.blocks)) (block_numbers f.blocks) (λ k i. i))

  pub blocks_done : (numbers : List ℕ) → numbers ≡ [] → ((m : Module) → Rest m AllBlocks (BlocksFrom numbers)) → (m : Module) → Each (Passed m) AllBlocks
  blocks_done numbers q left m = rest_none m AllBlocks (BlocksFrom numbers) (ap (λ (z : List ℕ). BlocksFrom z) q) (left m)

  module _ (numbers : List ℕ) (b : ℕ) (others : List ℕ) (q : numbers ≡ b ∷ others) where
    pub first_there : Each (λ k. In k (block_numbers f.blocks)) numbers → In b (block_numbers f.blocks)
    first_there h = (subst (λ (z : List ℕ). Each (λ k. In k (block_numbers f.blocks)) z) q h).0

    pub others_there : Each (λ k. In k (block_numbers f.blocks)) numbers → Each (λ k. In k (block_numbers f.blocks)) others
    others_there h = (subst (λ (z : List ℕ). Each (λ k. In k (block_numbers f.blocks)) z) q h).1

    pub blocks_bad : ((m : Module) → Rest m AllBlocks (BlocksFrom numbers)) → (g : Fault) → ((m : Module) → Finds m f (tried_at rules n f (block_parts f b)) (Some g)) → (m : Module) → Finds m f AllBlocks (Some g)
    blocks_bad left g h m = rest_bad m AllBlocks (BlocksFrom numbers) (tried_at rules n f (block_parts f b)) (BlocksFrom others) (check g.func f g.item (rule_of g.kind)) (blocks_left rules n f numbers b others q) (h m) (left m)

    pub blocks_good : ((m : Module) → Rest m AllBlocks (BlocksFrom numbers)) → (o : Option Fault) → o ≡ None → ((m : Module) → Finds m f (tried_at rules n f (block_parts f b)) o) → (m : Module) → Rest m AllBlocks (BlocksFrom others)
    blocks_good left o z h m =
        rest_more m AllBlocks (BlocksFrom numbers) (tried_at rules n f (block_parts f b)) (BlocksFrom others) (blocks_left rules n f numbers b others q) (subst (λ (y : Option Fault). Finds m f (tried_at rules n f (block_parts f b)) y) z (h m)) (left m)

-- ---- callees

pub callee_finds : (m : Module) (f : Function) (n k : ℕ) (c : Callee) → slice_get f.callees k ≡ Some c → (o : Option CheckKind) → rule_named o ≡ failing_rule (kept_at_callee always_available m f c) first_rules → Finds m f (map (check n f (item.Callee k)) first_rules) (fault_at n (item.Callee k) o)
callee_finds m f n k c at o e =
    finds_rule m f n (item.Callee k) (kept_at_callee always_available m f c) first_rules
    (λ r j. twin_by (kept_at_callee always_available m f c r) (kept always_available m f (item.Callee k) r) (Holds m f (item.Callee k) r) (sym (ap (λ o. if_some o (λ (c : Callee). kept_at_callee always_available m f c r)) at)) (early_is m f (item.Callee k) r j)) o e

pub callees_left : (rules : List Rule) (n : ℕ) (f : Function) (cs : List Callee) (i : ℕ) (c : Callee) → slice_get cs i ≡ Some c → tried_at rules n f (callee_items i (drop i cs)) ≡ map (check n f (item.Callee i)) rules ++ tried_at rules n f (callee_items (i + 1) (drop (i + 1) cs))
callees_left rules n f cs i c at =
    ap (λ (z : List Callee). tried_at rules n f (callee_items i z)) (next_left cs i c at)
    ∙ ap (λ (k : ℕ). map (check n f (item.Callee i)) rules ++ tried_at rules n f (callee_items k (drop (i + 1) cs))) (sym (add-one i))

pub callees_past : (rules : List Rule) (n : ℕ) (f : Function) (cs : List Callee) (i : ℕ) → length cs ≤ i → tried_at rules n f (callee_items i (drop i cs)) ≡ []
callees_past rules n f cs i high = ap (λ (z : List Callee). tried_at rules n f (callee_items i z)) (left_past cs i (slice_get_past cs i high))

module _ (m : Module) (f : Function) (s : IsSound f) (n : ℕ) (cs : List Callee) (e : cs ≡ f.callees) where
  abbrev AllCallees : List Check
  AllCallees = tried_at first_rules n f (callee_items 0 f.callees)

  abbrev CalleesFrom : ℕ → List Check
  CalleesFrom k = tried_at first_rules n f (callee_items k (drop k f.callees))

  pub callees_done : (i : ℕ) → length cs ≤ i → Rest m AllCallees (CalleesFrom i) → Each (Passed m) AllCallees
  callees_done i high left = rest_none m AllCallees (CalleesFrom i) (callees_past first_rules n f f.callees i (let q : length cs ≡ length f.callees = ap length e in omega arith)) left

  module _ (i : ℕ) (x : Callee) (low : i < length cs) (at : x ≡ get_or cs i x) where
    stated : slice_get f.callees i ≡ Some x
    stated = ap (λ (z : List Callee). slice_get z i) (sym e) ∙ slice_get_read cs (length cs) i x refl low at

    pub callee_range : x.sig < length f.sigs
    callee_range = each_in (CalleeInRange (counts_of f)) f.callees s.callees x (get_in f.callees i x stated)

    pub callee_fits : i < 2 ^ 32
    callee_fits = let h = s.small.callees in let q : length cs ≡ length f.callees = ap length e in omega arith

    pub callee_bad : (k : CheckKind) → rule_named (Some k) ≡ failing_rule (kept_at_callee always_available m f x) first_rules → Rest m AllCallees (CalleesFrom i) → Finds m f AllCallees (Some (record { kind = k; func = n; item = item.Callee i }))
    callee_bad k r left = rest_bad m AllCallees (CalleesFrom i) (map (check n f (item.Callee i)) first_rules) (CalleesFrom (i + 1)) (check n f (item.Callee i) (rule_of k)) (callees_left first_rules n f f.callees i x stated) (callee_finds m f n i x stated (Some k) r) left

    pub callee_good : (o : Option CheckKind) → o ≡ None → rule_named o ≡ failing_rule (kept_at_callee always_available m f x) first_rules → Rest m AllCallees (CalleesFrom i) → Rest m AllCallees (CalleesFrom (i + 1))
    callee_good o z r left =
        rest_more m AllCallees (CalleesFrom i) (map (check n f (item.Callee i)) first_rules) (CalleesFrom (i + 1)) (callees_left first_rules n f f.callees i x stated) (callee_finds m f n i x stated None (sym (ap rule_named z) ∙ r)) left

-- ---- functions

pub functions_left : (rules : List Rule) (m : Module) (i : ℕ) (f : Function) → slice_get m i ≡ Some f → tried rules i (drop i m) ≡ tried_at rules i f (items f) ++ tried rules (i + 1) (drop (i + 1) m)
functions_left rules m i f at = ap (tried rules i) (next_left m i f at) ∙ ap (λ (k : ℕ). tried_at rules i f (items f) ++ tried rules k (drop (i + 1) m)) (sym (add-one i))

pub functions_past : (rules : List Rule) (m : Module) (i : ℕ) → length m ≤ i → tried rules i (drop i m) ≡ []
functions_past rules m i high = ap (tried rules i) (left_past m i (slice_get_past m i high))

module _ (m : Module) (rules : List Rule) where
  pub functions_done : (i : ℕ) → length m ≤ i → Rest m (tried rules 0 m) (tried rules i (drop i m)) → Each (Passed m) (tried rules 0 m)
  functions_done i high left = rest_none m (tried rules 0 m) (tried rules i (drop i m)) (functions_past rules m i high) left

  module _ (i : ℕ) (f : Function) (at : slice_get m i ≡ Some f) where
    pub function_bad : (g : Fault) → Finds m f (tried_at rules i f (items f)) (Some g) → Rest m (tried rules 0 m) (tried rules i (drop i m)) → FindsAny m (tried rules 0 m) (Some g)
    function_bad g h left = (f, rest_bad m (tried rules 0 m) (tried rules i (drop i m)) (tried_at rules i f (items f)) (tried rules (i + 1) (drop (i + 1) m)) (check g.func f g.item (rule_of g.kind)) (functions_left rules m i f at) h left)

    pub function_good : (o : Option Fault) → o ≡ None → Finds m f (tried_at rules i f (items f)) o → Rest m (tried rules 0 m) (tried rules i (drop i m)) → Rest m (tried rules 0 m) (tried rules (i + 1) (drop (i + 1) m))
    function_good o z h left =
        rest_more m (tried rules 0 m) (tried rules i (drop i m)) (tried_at rules i f (items f)) (tried rules (i + 1) (drop (i + 1) m)) (functions_left rules m i f at) (subst (λ (y : Option Fault). Finds m f (tried_at rules i f (items f)) y) z h) left

-- ---- availability is asked of lines alone

pub late_block : (m : Module) (n : ℕ) (f : Function) (b : ℕ) (o : Option Fault) → Finds m f (tried_at last_rules n f (line_items b 0 (lines_of b f.blocks))) o → Finds m f (tried_at last_rules n f (block_parts f b)) o
late_block m n f b o h = both_find m f (check n f (item.Block b) not_available ∷ []) (tried_at last_rules n f (line_items b 0 (lines_of b f.blocks))) o ((λ k e. tt), tt) h

late_callees : (m : Module) (n : ℕ) (f : Function) (k : ℕ) (cs : List Callee) → Each (Passed m) (tried_at last_rules n f (callee_items k cs))
late_callees m n f k [] = tt
late_callees m n f k (c ∷ cs) = ((λ d e. tt), late_callees m n f (suc k) cs)

pub items_find : (m : Module) (n : ℕ) (f : Function) (rules : List Rule) (o : Option Fault) → Each (Passed m) (tried_at rules n f (callee_items 0 f.callees)) → Finds m f (tried_at rules n f (block_items f.blocks)) o → Finds m f (tried_at rules n f (items f)) o
items_find m n f rules o e h =
    subst (λ (z : List Check). Finds m f z o) (sym (tried_join rules n f (callee_items 0 f.callees) (block_items f.blocks)))
    (both_find m f (tried_at rules n f (callee_items 0 f.callees)) (tried_at rules n f (block_items f.blocks)) o e h)

pub late_items : (m : Module) (n : ℕ) (f : Function) (o : Option Fault) → Finds m f (tried_at last_rules n f (block_items f.blocks)) o → Finds m f (tried_at last_rules n f (items f)) o
late_items m n f o h = items_find m n f last_rules o (late_callees m n f 0 f.callees) h

pub callees_find : (m : Module) (n : ℕ) (f : Function) (rules : List Rule) (g : Fault) → Finds m f (tried_at rules n f (callee_items 0 f.callees)) (Some g) → Finds m f (tried_at rules n f (items f)) (Some g)
callees_find m n f rules g h =
    subst (λ (z : List Check). Finds m f z (Some g)) (sym (tried_join rules n f (callee_items 0 f.callees) (block_items f.blocks)))
    (first_finds m f (tried_at rules n f (callee_items 0 f.callees)) (tried_at rules n f (block_items f.blocks)) g h)

-- ---- the whole module

pub checks_late : (m : Module) (o : Option Fault) → Each (Passed m) (tried first_rules 0 m) → FindsAny m (tried last_rules 0 m) o → FindsAny m (checks m) o
checks_late m None e d = each_join m (tried first_rules 0 m) (tried last_rules 0 m) e d
checks_late m (Some g) e b = (b.0, behind m (tried first_rules 0 m) (tried last_rules 0 m) (check g.func b.0 g.item (rule_of g.kind)) e b.1)

pub late_found : {E : Type 0} (m : Module) (r : Result (Option Fault) E) → Each (Passed m) (tried first_rules 0 m) → IfOk r (λ o. FindsAny m (tried last_rules 0 m) o) → IfOk r (λ o. FindsAny m (checks m) o)
late_found m (Ok o) e h = checks_late m o e h
late_found m (Err x) e h = tt

pub checks_early : (m : Module) (g : Fault) → FindsAny m (tried first_rules 0 m) (Some g) → FindsAny m (checks m) (Some g)
checks_early m g b = (b.0, longer (Passed m) (tried first_rules 0 m) (tried last_rules 0 m) (check g.func b.0 g.item (rule_of g.kind)) b.1)
