-- Which values each path to an instruction has passed: those defined in its block before it, and those defined in the
-- blocks of the chain before it.
use Rattle.std.proofs.Common.{◌≡◌, ◌⊎◌, inl, inr, ℕ, zero, suc, ◌+◌, ◌<◌, ◌≤◌, List, [], ◌∷◌, ◌++◌, map, length, Some, Bool, true, false, ◌&&◌, ◌||◌, get_or, refl, sym, ap, subst, ◌∙◌, arith}
use Rattle.std.specs.Prelude.{IfSome, slice_get, nat_lt, nat_le}
use Rattle.std.specs.List.{list_all}
use Rattle.std.proofs.lemmas.Bool.{cases_eq, cases_lt, ltb-true, leb-true, and_parts}
use Rattle.std.proofs.lemmas.Option.{same_Some, slice_get_read, slice_get_within}
use Rattle.std.proofs.lemmas.List.{length-map}
use Rattle.ir_core.specs.declared.instructions.Arg.{Arg}
use Rattle.ir_core.specs.declared.instructions.Arg.TheVariants as arg
use Rattle.ir_core.specs.declared.instructions.BlockCall.{BlockCall}
use Rattle.ir_core.specs.declared.instructions.InstData.{InstData}
use Rattle.ir_core.specs.Edits.{params_of, lines_of}
use Rattle.ir_core.specs.Module.{Line, Block, Function}
use Rattle.ir_core.specs.Lookup.{find_block, block_numbers}
use Rattle.ir_core.specs.Lists.{In, Each, Different}
use Rattle.ir_core.specs.Uses.{arg_values_used, targets_used, operands, targets}
use Rattle.ir_core.specs.Viewed.{line_of}
use Rattle.ir_core.proofs.Members.{in_left, in_right, each_join, in_or_not, each_by}
use Rattle.ir_core.proofs.Equal.{number_equal}
use Rattle.ir_core.proofs.Gets.{get_in}
use Rattle.ir_semantics.specs.Accepted.{UsesAvailable}
use Rattle.ir_semantics.specs.Available.{terminates, Reach, begin, next, branch, Available}
use Rattle.ir_semantics.specs.Splice.{first_number}
use Rattle.ir_semantics.proofs.SafetyPlaces.{find_first}
use Rattle.avail_flow.specs.Points.{Defines}
use Rattle.avail_flow.proofs.Blocks.{found_parts, has_lines, goes_nowhere}
use Rattle.used_values.specs.declared.nearby.Chain.{Chain}
use Rattle.used_values.specs.declared.nearby.Known.{Known}
use Rattle.used_values.specs.Nearby.{knows, knows_arg, knows_target, knows_used, UsesAvailableIn, AllUsesAvailable, IsPassed, leads_to, LeadsOnlyTo, EnteredBy, IsChain}

-- ---- paths

-- the value is defined in the block b before the line i
pub record Before (f : Function) (b i v : ℕ) : Type 0 where
  pub place : ℕ
  pub low : place ≤ i
  pub defines : Defines (params_of b f.blocks) (lines_of b f.blocks) v place

before_later : (f : Function) (b i j v : ℕ) → i ≤ j → Before f b i v → Before f b j v
before_later f b i j v h d = record { place = d.place; low = (let low = d.low in omega arith); defines = d.defines }

param_before : (f : Function) (b v : ℕ) → In v (params_of b f.blocks) → Before f b 0 v
param_before f b v h = record { place = 0; low = omega arith; defines = h }

result_before : (f : Function) (b i v : ℕ) (l : Line) → slice_get (lines_of b f.blocks) i ≡ Some l → In v l.results → Before f b (i + 1) v
result_before f b i v l got h = record { place = suc i; low = omega arith; defines = (l, got, h) }

-- the lines of the block are those of the block that is found
pub line_got : (f : Function) (b i : ℕ) (block : Block) (l : Line) → find_block b f.blocks ≡ Some block → slice_get block.lines i ≡ Some l → slice_get (lines_of b f.blocks) i ≡ Some l
line_got f b i block l found got = ap (λ (ls : List Line). slice_get ls i) (found_parts b f.blocks block found).1 ∙ got

first_params : (f : Function) (first : Block) (others : List Block) → f.blocks ≡ first ∷ others → params_of first.number f.blocks ≡ first.params
first_params f first others q = (found_parts first.number f.blocks first (ap (find_block first.number) q ∙ find_first first others)).0

-- a path to the line has passed what is defined before it in its block
passed : (f : Function) {b i : ℕ} {defs : List ℕ} → Reach f b i defs → (v k : ℕ) → k ≤ i → Defines (params_of b f.blocks) (lines_of b f.blocks) v k → In v defs
passed f (begin first others q) v zero low d = subst (In v) (first_params f first others q) d
passed f (begin first others q) v (suc k) low d = absurd (omega arith)
passed f (next {b = b} {i = i} {defs = defs} r block found l got goes) v k low d = by (cases_eq k (suc i)) (λ h. passed f r v k h d)
  where
    by : (k ≡ suc i) ⊎ (k ≡ suc i → ⊥) → (k ≤ i → In v defs) → In v (l.results ++ defs)
    by (inl e) ih =
        let x : Defines (params_of b f.blocks) (lines_of b f.blocks) v (suc i) = subst (λ (z : ℕ). Defines (params_of b f.blocks) (lines_of b f.blocks) v z) e d in
        in_left v l.results defs (subst (λ (z : Line). In v z.results) (same_Some x.0 l (sym x.1 ∙ line_got f b i block l found got)) x.2)
    by (inr ne) ih = in_right v l.results defs (ih (omega arith))
passed f (branch {defs = defs} r block found l got t there entered enters) v zero low d = in_left v entered.params defs (subst (In v) (found_parts t.block f.blocks entered enters).0 d)
passed f (branch r block found l got t there entered enters) v (suc k) low d = absurd (omega arith)

before_available : (f : Function) (b i v : ℕ) → Before f b i v → Available f b i v
before_available f b i v d defs r = passed f r v d.place d.low d.defines

-- each path to a block that is left has come out of the one by which they are entered
entered_passed : (f : Function) (left : List ℕ) (a v : ℕ) → (In (first_number f.blocks) left → ⊥) → EnteredBy f left a → IsPassed f a v → {b i : ℕ} {defs : List ℕ} → Reach f b i defs → In b left → In v defs
entered_passed f left a v begun from out (begin first others q) h = absurd (begun (subst (λ (z : ℕ). In z left) (sym (ap first_number q)) h))
entered_passed f left a v begun from out (next {defs = defs} r block found l got goes) h = in_right v l.results defs (entered_passed f left a v begun from out r h)
entered_passed f left a v begun from out (branch {b = b} {i = i} {defs = defs} r block found l got t there entered enters) h = in_right v entered.params defs (by (in_or_not b left) (λ k. entered_passed f left a v begun from out r k))
  where
    at : slice_get (lines_of b f.blocks) i ≡ Some l
    at = line_got f b i block l found got

    by : In b left ⊎ (In b left → ⊥) → (In b left → In v defs) → In v defs
    by (inl k) ih = ih k
    by (inr nk) ih =
        let same : b ≡ a = from b i l t at there h nk in
        out i defs l t (subst (λ (z : ℕ). Reach f z i defs) same r) (subst (λ (z : ℕ). slice_get (lines_of z f.blocks) i ≡ Some l) same at) there

-- no line of the block before i ends it
abbrev pub GoesTo : Function → ℕ → ℕ → Type 0
GoesTo f b i = (j : ℕ) (l : Line) → j < i → slice_get (lines_of b f.blocks) j ≡ Some l → terminates l.inst ≡ false

passed_out : (f : Function) (b i v : ℕ) → GoesTo f b i → Before f b i v → IsPassed f b v
passed_out f b i v goes d j defs l t r got there = by (cases_lt j i)
  where
    by : (j < i) ⊎ (i ≤ j) → In v defs
    by (inl h) = elim (subst (In t) (goes_nowhere l.inst (goes j l h got)) there) [ ]
    by (inr h) = before_available f b j v (before_later f b i j v h d) defs r

-- ---- the values that are counted

pub count_more : (values : List ℕ) (start end i x : ℕ) → i < length values → x ≡ get_or values i x → x ≡ end → ((v : ℕ) → start ≤ v → v < end → In v values) → (v : ℕ) → start ≤ v → v < end + 1 → In v values
count_more values start end i x low at is h v from to = by (cases_eq v end)
  where
    by : (v ≡ end) ⊎ (v ≡ end → ⊥) → In v values
    by (inl e) = subst (λ (z : ℕ). In z values) (is ∙ sym e) (get_in values i x (slice_get_read values (length values) i x refl low at))
    by (inr ne) = h v from (omega arith)

-- those from start on to end are defined in the block b before the line i
pub record Counted (f : Function) (b i start end : ℕ) : Type 0 where
  pub before : (v : ℕ) → start ≤ v → v < end → Before f b i v

pub counted_params : (f : Function) (b start end : ℕ) (params : List ℕ) → params ≡ params_of b f.blocks → ((v : ℕ) → start ≤ v → v < end → In v params) → Counted f b 0 start end
counted_params f b start end params e h = record { before = λ v low high. param_before f b v (subst (In v) e (h v low high)) }

pub counted_results : (f : Function) (b i start end more : ℕ) (l : Line) (results : List ℕ) → slice_get (lines_of b f.blocks) i ≡ Some l → results ≡ l.results → ((v : ℕ) → end ≤ v → v < more → In v results) → Counted f b i start end → Counted f b (i + 1) start more
counted_results f b i start end more l results got e h k = record { before = λ v low high. by v low high (cases_lt v end) }
  where
    by : (v : ℕ) → start ≤ v → v < more → (v < end) ⊎ (end ≤ v) → Before f b (i + 1) v
    by v low high (inl q) = before_later f b i (i + 1) v (omega arith) (k.before v low q)
    by v low high (inr q) = result_before f b i v l got (subst (In v) e (h v q high))

pub counted_passed : (f : Function) (b i start end : ℕ) → GoesTo f b i → Counted f b i start end → (v : ℕ) → start ≤ v → v < end → IsPassed f b v
counted_passed f b i start end goes k v low high = passed_out f b i v goes (k.before v low high)

pub goes_more : (f : Function) (b i : ℕ) (l : Line) → slice_get (lines_of b f.blocks) i ≡ Some l → terminates l.inst ≡ false → GoesTo f b i → GoesTo f b (i + 1)
goes_more f b i l got ends goes j k low at = by (cases_eq j i)
  where
    by : (j ≡ i) ⊎ (j ≡ i → ⊥) → terminates k.inst ≡ false
    by (inl e) = subst (λ (z : Line). terminates z.inst ≡ false) (same_Some l k (sym got ∙ subst (λ (z : ℕ). slice_get (lines_of b f.blocks) z ≡ Some k) e at)) ends
    by (inr ne) = goes j k (omega arith) at

-- ---- what is known is available

module _ (f : Function) (b i : ℕ) (known : Known) (early : (v : ℕ) → v < known.early → Available f b i v) (counted : Counted f b i known.start known.end) where
  known_available : (v : ℕ) → knows known v ≡ true → Available f b i v
  known_available v h = by (nat_lt v known.early) refl h
    where
      by : (z : Bool) → nat_lt v known.early ≡ z → (z || (nat_le known.start v && nat_lt v known.end)) ≡ true → Available f b i v
      by true e q = early v (ltb-true v known.early e)
      by false e q =
          let both = and_parts (nat_le known.start v) (nat_lt v known.end) q in
          before_available f b i v (counted.before v (leb-true known.start v both.0) (ltb-true v known.end both.1))

  values_available : (vs : List ℕ) → list_all (knows known) vs ≡ true → Each (Available f b i) vs
  values_available [] h = tt
  values_available (v ∷ vs) h = let both = and_parts (knows known v) (list_all (knows known) vs) h in (known_available v both.0, values_available vs both.1)

  args_available : (as' : List Arg) → list_all (knows_arg known) as' ≡ true → Each (Available f b i) (arg_values_used as')
  args_available [] h = tt
  args_available (arg.Value v ∷ as') h = let both = and_parts (knows known v) (list_all (knows_arg known) as') h in (known_available v both.0, args_available as' both.1)
  args_available (arg.Ret k ∷ as') h = args_available as' h
  args_available (arg.Exn k ∷ as') h = args_available as' h

  targets_available : (ts : List BlockCall) → list_all (knows_target known) ts ≡ true → Each (Available f b i) (targets_used ts)
  targets_available [] h = tt
  targets_available (t ∷ ts) h =
      let both = and_parts (knows_target known t) (list_all (knows_target known) ts) h in
      each_join (Available f b i) (arg_values_used t.args) (targets_used ts) (args_available t.args both.0) (targets_available ts both.1)

  pub uses_available : (l : Line) → knows_used known l.inst ≡ true → UsesAvailable f b i l
  uses_available l h =
      let both = and_parts (list_all (knows known) (operands l.inst)) (list_all (knows_target known) (targets l.inst)) h in
      each_join (Available f b i) (operands l.inst) (targets_used (targets l.inst)) (values_available (operands l.inst) both.0) (targets_available (targets l.inst) both.1)

-- ---- the lines of a block

-- those before i
pub record UsesAvailableTo (f : Function) (b i : ℕ) : Type 0 where
  pub uses : (j : ℕ) (l : Line) → j < i → slice_get (lines_of b f.blocks) j ≡ Some l → UsesAvailable f b j l

pub lines_none : (f : Function) (b : ℕ) → UsesAvailableTo f b 0
lines_none f b = record { uses = λ j l h got. absurd (omega arith) }

pub lines_more : (f : Function) (b i : ℕ) (l : Line) → slice_get (lines_of b f.blocks) i ≡ Some l → UsesAvailable f b i l → UsesAvailableTo f b i → UsesAvailableTo f b (i + 1)
lines_more f b i l got u k = record { uses = λ j m low at. by j m low at (cases_eq j i) }
  where
    by : (j : ℕ) (m : Line) → j < i + 1 → slice_get (lines_of b f.blocks) j ≡ Some m → (j ≡ i) ⊎ (j ≡ i → ⊥) → UsesAvailable f b j m
    by j m low at (inl e) =
        let same : l ≡ m = same_Some l m (sym got ∙ subst (λ (z : ℕ). slice_get (lines_of b f.blocks) z ≡ Some m) e at) in
        subst (λ (z : ℕ). UsesAvailable f b z m) (sym e) (subst (λ (z : Line). UsesAvailable f b i z) same u)
    by j m low at (inr ne) = k.uses j m (omega arith) at

line_inside : (f : Function) (b i : ℕ) (xs : List InstData) → map line_of xs ≡ lines_of b f.blocks → length xs ≤ i → (j : ℕ) (l : Line) → slice_get (lines_of b f.blocks) j ≡ Some l → j < i
line_inside f b i xs e high j l got =
    let low = slice_get_within (lines_of b f.blocks) j l got in
    let size : length xs ≡ length (lines_of b f.blocks) = sym (length-map xs line_of) ∙ ap length e in
    omega arith

pub lines_all : (f : Function) (b i : ℕ) (xs : List InstData) → map line_of xs ≡ lines_of b f.blocks → length xs ≤ i → UsesAvailableTo f b i → UsesAvailableIn f b
lines_all f b i xs e high k j l got = k.uses j l (line_inside f b i xs e high j l got) got

-- ---- the chain

leads_all : (b : ℕ) (ts : List BlockCall) → list_all (leads_to b) ts ≡ true → (t : BlockCall) → In t ts → t.block ≡ b
leads_all b [] h t i = elim i [ ]
leads_all b (u ∷ ts) h t (inl e) = let both = and_parts (leads_to b u) (list_all (leads_to b) ts) h in number_equal t.block b (subst (λ (z : BlockCall). leads_to b z ≡ true) (sym e) both.0)
leads_all b (u ∷ ts) h t (inr i) = let both = and_parts (leads_to b u) (list_all (leads_to b) ts) h in leads_all b ts both.1 t i

-- of the lines before i
pub record LeadsTo (f : Function) (a b i : ℕ) : Type 0 where
  pub leads : (j : ℕ) (l : Line) (t : BlockCall) → j < i → slice_get (lines_of a f.blocks) j ≡ Some l → In t (targets l.inst) → t.block ≡ b

pub leads_none : (f : Function) (a b : ℕ) → LeadsTo f a b 0
leads_none f a b = record { leads = λ j l t low got i. absurd (omega arith) }

pub leads_more : (f : Function) (a b i : ℕ) (l : Line) → slice_get (lines_of a f.blocks) i ≡ Some l → list_all (leads_to b) (targets l.inst) ≡ true → LeadsTo f a b i → LeadsTo f a b (i + 1)
leads_more f a b i l got h k = record { leads = λ j m t low at there. by j m t low at there (cases_eq j i) }
  where
    by : (j : ℕ) (m : Line) (t : BlockCall) → j < i + 1 → slice_get (lines_of a f.blocks) j ≡ Some m → In t (targets m.inst) → (j ≡ i) ⊎ (j ≡ i → ⊥) → t.block ≡ b
    by j m t low at there (inl e) =
        let same : l ≡ m = same_Some l m (sym got ∙ subst (λ (z : ℕ). slice_get (lines_of a f.blocks) z ≡ Some m) e at) in
        leads_all b (targets l.inst) h t (subst (λ (z : Line). In t (targets z.inst)) (sym same) there)
    by j m t low at there (inr ne) = k.leads j m t (omega arith) at there

pub leads_done : (f : Function) (a b i : ℕ) (xs : List InstData) → map line_of xs ≡ lines_of a f.blocks → length xs ≤ i → LeadsTo f a b i → LeadsOnlyTo f a b
leads_done f a b i xs e high k j l t got there = k.leads j l t (line_inside f a i xs e high j l got) got there

module _ (f : Function) (chain : Chain) (block : ℕ) (left : List ℕ) (k : IsChain f chain (block ∷ left)) where
  later : In (first_number f.blocks) left → ⊥
  later h = k.begun (inr h)

  -- it goes on
  module _ (last : ℕ) (is : chain.last ≡ Some last) (only : LeadsOnlyTo f last block) where
    entered_next : EnteredBy f left block
    entered_next p i l t got there h out = by (cases_eq p block)
      where
        by : (p ≡ block) ⊎ (p ≡ block → ⊥) → p ≡ block
        by (inl e) = e
        by (inr ne) =
            let same : p ≡ last = k.last last is p i l t got there (inr h) (λ j. elim j [ inl e ↦ ne e | inr m ↦ out m ]) in
            let leads : t.block ≡ block = only i l t (subst (λ (z : ℕ). slice_get (lines_of z f.blocks) i ≡ Some l) same got) there in
            absurd (k.differ.0 (subst (λ (z : ℕ). In z left) leads h))

    pub chain_goes_on : (early : ℕ) → ((v : ℕ) → chain.early ≤ v → v < early → IsPassed f block v) → IsChain f (record { last = Some block; early = early }) left
    chain_goes_on early h = record {
      begun = later;
      differ = k.differ.1;
      early = λ v b i low there. by v b i low there (cases_lt v chain.early);
      last = λ a e. subst (EnteredBy f left) (same_Some block a e) entered_next;
    }
      where
        by : (v b i : ℕ) → v < early → In b left → (v < chain.early) ⊎ (chain.early ≤ v) → Available f b i v
        by v b i low there (inl q) = k.early v b i q (inr there)
        by v b i low there (inr q) = λ defs r. entered_passed f left block v later entered_next (h v q low) r there

-- ---- the blocks

-- the blocks that are left, and those of which each use is of an available value
pub record BlocksLeft (f : Function) (chain : Chain) (left : List ℕ) : Type 0 where
  pub follows : IsChain f chain left
  pub last : IfSome chain.last (λ a. In a (block_numbers f.blocks))
  pub inside : Each (λ b. In b (block_numbers f.blocks)) left
  pub uses : (b : ℕ) → In b (block_numbers f.blocks) → In b left ⊎ UsesAvailableIn f b

first_is : (bs : List Block) (n : ℕ) (ns : List ℕ) → n ∷ ns ≡ block_numbers bs → n ≡ first_number bs
first_is [] n ns q = absurd cc
first_is (b ∷ bs) n ns q = cc

module _ (f : Function) (d : Different (block_numbers f.blocks)) (numbers : List ℕ) (e : numbers ≡ block_numbers f.blocks) (first : ℕ) (left : List ℕ) (q : numbers ≡ first ∷ left) where
  split : first ∷ left ≡ block_numbers f.blocks
  split = sym q ∙ e

  apart : Different (first ∷ left)
  apart = subst Different (sym split) d

  not_left : In (first_number f.blocks) left → ⊥
  not_left h = apart.0 (subst (λ (z : ℕ). In z left) (sym (first_is f.blocks first left split)) h)

  entered_first : EnteredBy f left first
  entered_first p i l t got there h out = by (subst (In p) (sym split) (has_lines p f.blocks i l got))
    where
      by : In p (first ∷ left) → p ≡ first
      by (inl same) = same
      by (inr m) = absurd (out m)

  pub blocks_begun : UsesAvailableIn f first → (early : ℕ) → ((v : ℕ) → 0 ≤ v → v < early → IsPassed f first v) → BlocksLeft f (record { last = Some first; early = early }) left
  blocks_begun uses early h = record {
    follows = record {
      begun = not_left;
      differ = apart.1;
      early = λ v b i low there defs r. entered_passed f left first v not_left entered_first (h v (omega arith) low) r there;
      last = λ a same. subst (EnteredBy f left) (same_Some first a same) entered_first;
    };
    last = subst (In first) split (inl refl);
    inside = each_by (λ b. In b (block_numbers f.blocks)) left (λ b i. subst (In b) split (inr i));
    uses = λ b i. by b (subst (In b) (sym split) i);
  }
    where
      by : (b : ℕ) → In b (first ∷ left) → In b left ⊎ UsesAvailableIn f b
      by b (inl same) = inr (subst (UsesAvailableIn f) (sym same) uses)
      by b (inr i) = inl i

module _ (f : Function) (chain : Chain) (left : List ℕ) (block : ℕ) (others : List ℕ) (q : left ≡ block ∷ others) (k : BlocksLeft f chain left) where
  stand : Each (λ b. In b (block_numbers f.blocks)) (block ∷ others)
  stand = subst (λ (z : List ℕ). Each (λ b. In b (block_numbers f.blocks)) z) q k.inside

  pub blocks_more : UsesAvailableIn f block → (more : Chain) → ((rest : List ℕ) → IsChain f chain (block ∷ rest) → IsChain f more rest) → IfSome more.last (λ a. In a (block_numbers f.blocks)) → BlocksLeft f more others
  blocks_more uses more h last = record { follows = h others (subst (IsChain f chain) q k.follows); last = last; inside = stand.1; uses = λ b i. by b (k.uses b i) }
    where
      by : (b : ℕ) → In b left ⊎ UsesAvailableIn f b → In b others ⊎ UsesAvailableIn f b
      by b (inr h) = inr h
      by b (inl h) = at (subst (In b) q h)
        where
          at : In b (block ∷ others) → In b others ⊎ UsesAvailableIn f b
          at (inl same) = inr (subst (UsesAvailableIn f) (sym same) uses)
          at (inr i) = inl i

pub blocks_done : (f : Function) (chain : Chain) (left : List ℕ) → left ≡ [] → BlocksLeft f chain left → AllUsesAvailable f
blocks_done f chain left q k b i = by (k.uses b i)
  where
    by : In b left ⊎ UsesAvailableIn f b → UsesAvailableIn f b
    by (inl h) = elim (subst (In b) q h) [ ]
    by (inr h) = h
