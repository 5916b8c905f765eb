-- The first fault: it is one, it is a fault, and there is none exactly where the module is accepted.
use Rattle.std.proofs.Common.{◌≡◌, ◌⊎◌, inl, inr, ℕ, zero, suc, ◌+◌, List, [], ◌∷◌, map, Some, refl, sym, ap, ◌∙◌, subst, arith}
use Rattle.std.specs.Prelude.{slice_get, nat_eq, if◌then◌else◌, Bool, true, false}
use Rattle.ir_core.specs.declared.declarations.Callee.{Callee}
use Rattle.ir_core.specs.declared.places.Item.{Item}
use Rattle.ir_core.specs.declared.places.Item.TheVariants as item
use Rattle.ir_core.specs.Module.{Line, Block, Function, Module}
use Rattle.ir_core.specs.Lookup.{find_block}
use Rattle.ir_core.specs.Lists.{In, Each}
use Rattle.ir_semantics.specs.Accepted.{Rule, no_terminator, entry_target, count_mismatch, type_mismatch, convention, signature_mismatch, slot_range, tag_place, not_available, Holds, RulesHold, Accepted}
use Rattle.ir_core.proofs.Equal.{number_equal}
use Rattle.ir_core.proofs.Gets.{some_same, get_in}
use Rattle.ir_core.proofs.Members.{in_left, in_right, each_by, each_in, in_cases, in_map, map_in}
use Rattle.ir_check.specs.Faults.{callee_items, line_items, block_items, items, Check, check, tried_at, tried, first_rules, last_rules, checks, FirstBad, this, later, Passed}
use Rattle.ir_check.specs.Laws.{AtMostOne, FaultIsReal, AcceptedHasNone, AllPassed, AcceptedOrFault}

-- ---- the first that is not good

one_bad : {A : Type 0} (Good : A → Type 0) (xs : List A) (x y : A) → FirstBad Good xs x → FirstBad Good xs y → x ≡ y
one_bad Good [] x y h k = elim h [ ]
one_bad Good (a ∷ xs) x y (this p) (this q) = refl
one_bad Good (a ∷ xs) x y (this p) (later q k) = absurd (p q)
one_bad Good (a ∷ xs) x y (later p h) (this q) = absurd (q p)
one_bad Good (a ∷ xs) x y (later p h) (later q k) = one_bad Good xs x y h k

bad_in : {A : Type 0} (Good : A → Type 0) (xs : List A) (x : A) → FirstBad Good xs x → In x xs
bad_in Good [] x h = elim h [ ]
bad_in Good (a ∷ xs) x (this p) = inl refl
bad_in Good (a ∷ xs) x (later p h) = inr (bad_in Good xs x h)

is_bad : {A : Type 0} (Good : A → Type 0) (xs : List A) (x : A) → FirstBad Good xs x → Good x → ⊥
is_bad Good [] x h = elim h [ ]
is_bad Good (a ∷ xs) x (this p) = p
is_bad Good (a ∷ xs) x (later p h) = is_bad Good xs x h

all_or_bad : {A : Type 0} (Good : A → Type 0) → ((x : A) → Good x ⊎ (Good x → ⊥)) → (xs : List A) → Each Good xs ⊎ ((x : A) × FirstBad Good xs x)
all_or_bad Good known [] = inl tt
all_or_bad Good known (a ∷ xs) =
    elim (known a) [
      | inl g ↦ elim (all_or_bad Good known xs) [ inl e ↦ inl (g, e) | inr b ↦ inr (b.0, later g b.1) ]
      | inr n ↦ inr (a, this n)
    ]

zero_and : (n : ℕ) → 0 + n ≡ n
zero_and n = omega arith

-- ---- what is tried

tried_at_has : (rules : List Rule) (n : ℕ) (f : Function) (place : Item) (rule : Rule) (places : List Item) → In place places → In rule rules → In (check n f place rule) (tried_at rules n f places)
tried_at_has rules n f place rule [] i r = elim i [ ]
tried_at_has rules n f place rule (p ∷ ps) (inl q) r = in_left (check n f place rule) (map (check n f p) rules) (tried_at rules n f ps) (subst (λ z. In (check n f place rule) (map (check n f z) rules)) q (in_map (check n f place) rule rules r))
tried_at_has rules n f place rule (p ∷ ps) (inr i) r = in_right (check n f place rule) (map (check n f p) rules) (tried_at rules n f ps) (tried_at_has rules n f place rule ps i r)

tried_has : (rules : List Rule) (n : ℕ) (fs : List Function) (f : Function) (place : Item) (rule : Rule) → In f fs → In place (items f) → In rule rules → (k : ℕ) × In (check k f place rule) (tried rules n fs)
tried_has rules n [] f place rule i p r = elim i [ ]
tried_has rules n (g ∷ fs) f place rule (inl q) p r = (n, in_left (check n f place rule) (tried_at rules n g (items g)) (tried rules (suc n) fs) (subst (λ z. In (check n f place rule) (tried_at rules n z (items z))) q (tried_at_has rules n f place rule (items f) p r)))
tried_has rules n (g ∷ fs) f place rule (inr i) p r = let t = tried_has rules (suc n) fs f place rule i p r in (t.0, in_right (check t.0 f place rule) (tried_at rules n g (items g)) (tried rules (suc n) fs) t.1)

-- each rule is tried
first_or_last : (rule : Rule) → In rule first_rules ⊎ In rule last_rules
first_or_last no_terminator = inl (inl refl)
first_or_last entry_target = inl (inr (inl refl))
first_or_last count_mismatch = inl (inr (inr (inl refl)))
first_or_last type_mismatch = inl (inr (inr (inr (inl refl))))
first_or_last convention = inl (inr (inr (inr (inr (inl refl)))))
first_or_last signature_mismatch = inl (inr (inr (inr (inr (inr (inl refl))))))
first_or_last slot_range = inl (inr (inr (inr (inr (inr (inr (inl refl)))))))
first_or_last tag_place = inl (inr (inr (inr (inr (inr (inr (inr (inl refl))))))))
first_or_last not_available = inr (inl refl)

checks_have : (m : Module) (f : Function) (place : Item) (rule : Rule) → In f m → In place (items f) → (k : ℕ) × In (check k f place rule) (checks m)
checks_have m f place rule i p =
    elim (first_or_last rule) [
      | inl r ↦ let t = tried_has first_rules 0 m f place rule i p r in (t.0, in_left (check t.0 f place rule) (tried first_rules 0 m) (tried last_rules 0 m) t.1)
      | inr r ↦ let t = tried_has last_rules 0 m f place rule i p r in (t.0, in_right (check t.0 f place rule) (tried first_rules 0 m) (tried last_rules 0 m) t.1)
    ]

pub tried_at_of : (rules : List Rule) (n : ℕ) (f : Function) (places : List Item) (c : Check) → In c (tried_at rules n f places) → (c.func ≡ f) × (c.number ≡ n) × In c.rule rules
tried_at_of rules n f [] c i = elim i [ ]
tried_at_of rules n f (p ∷ ps) c i =
    elim (in_cases c (map (check n f p) rules) (tried_at rules n f ps) i) [
      | inl j ↦ let t = map_in (check n f p) c rules j in (ap (λ (z : Check). z.func) t.2, ap (λ (z : Check). z.number) t.2, subst (λ z. In z rules) (sym (ap (λ (z : Check). z.rule) t.2)) t.1)
      | inr j ↦ tried_at_of rules n f ps c j
    ]

-- those tried stand in the module at their number
tried_of : (rules : List Rule) (n : ℕ) (fs : List Function) (m : Module) → ((k : ℕ) (f : Function) → slice_get fs k ≡ Some f → slice_get m (k + n) ≡ Some f) → (c : Check) → In c (tried rules n fs) → slice_get m c.number ≡ Some c.func
tried_of rules n [] m h c i = elim i [ ]
tried_of rules n (g ∷ fs) m h c i =
    elim (in_cases c (tried_at rules n g (items g)) (tried rules (suc n) fs) i) [
      | inl j ↦ let p = tried_at_of rules n g (items g) c j in ap (slice_get m) (p.1 ∙ sym (zero_and n)) ∙ h 0 g refl ∙ ap Some (sym p.0)
      | inr j ↦ tried_of rules (suc n) fs m (λ k f q. ap (slice_get m) (moved k n) ∙ h (suc k) f q) c j
    ]
  where
    moved : (k n : ℕ) → k + suc n ≡ suc k + n
    moved k n = omega arith

pub checks_of : (m : Module) (c : Check) → In c (checks m) → slice_get m c.number ≡ Some c.func
checks_of m c i =
    elim (in_cases c (tried first_rules 0 m) (tried last_rules 0 m) i) [
      | inl j ↦ tried_of first_rules 0 m m (λ k f q. ap (slice_get m) (none k) ∙ q) c j
      | inr j ↦ tried_of last_rules 0 m m (λ k f q. ap (slice_get m) (none k) ∙ q) c j
    ]
  where
    none : (k : ℕ) → k + 0 ≡ k
    none k = omega arith

-- ---- the parts of a function

-- by which rules
pub tried_by : (rules : List Rule) (n : ℕ) (fs : List Function) (c : Check) → In c (tried rules n fs) → In c.rule rules
tried_by rules n [] c i = elim i [ ]
tried_by rules n (g ∷ fs) c i =
    elim (in_cases c (tried_at rules n g (items g)) (tried rules (suc n) fs) i) [
      | inl j ↦ (tried_at_of rules n g (items g) c j).2
      | inr j ↦ tried_by rules (suc n) fs c j
    ]

callee_there : (cs : List Callee) (n k : ℕ) (c : Callee) → slice_get cs k ≡ Some c → In (item.Callee (k + n)) (callee_items n cs)
callee_there [] n k c h = cc
callee_there (d ∷ cs) n zero c h = inl (ap item.Callee (zero_and n))
callee_there (d ∷ cs) n (suc k) c h = inr (subst (λ z. In (item.Callee z) (callee_items (suc n) cs)) (moved k n) (callee_there cs (suc n) k c h))
  where
    moved : (k n : ℕ) → k + suc n ≡ suc k + n
    moved k n = omega arith

line_there : (b : ℕ) (ls : List Line) (n i : ℕ) (l : Line) → slice_get ls i ≡ Some l → In (item.Inst (record { block = b; index = i + n })) (line_items b n ls)
line_there b [] n i l h = cc
line_there b (k ∷ ls) n zero l h = inl (ap (λ z. item.Inst (record { block = b; index = z })) (zero_and n))
line_there b (k ∷ ls) n (suc i) l h = inr (subst (λ z. In (item.Inst (record { block = b; index = z })) (line_items b (suc n) ls)) (moved i n) (line_there b ls (suc n) i l h))
  where
    moved : (k n : ℕ) → k + suc n ≡ suc k + n
    moved k n = omega arith

-- what a found block is: the first of the list, or one further on
found : (n : ℕ) (c : Block) (bs : List Block) (b : Block) → find_block n (c ∷ bs) ≡ Some b → ((c.number ≡ n) × (c ≡ b)) ⊎ (find_block n bs ≡ Some b)
found n c bs b h = go (nat_eq c.number n) refl h
  where
    go : (z : Bool) → nat_eq c.number n ≡ z → (if z then Some c else find_block n bs) ≡ Some b → ((c.number ≡ n) × (c ≡ b)) ⊎ (find_block n bs ≡ Some b)
    go true q k = inl (number_equal c.number n q, some_same k)
    go false q k = inr k

block_there : (n : ℕ) (bs : List Block) (b : Block) → find_block n bs ≡ Some b → In (item.Block n) (block_items bs)
block_there n [] b h = cc
block_there n (c ∷ bs) b h =
    elim (found n c bs b h) [
      | inl p ↦ inl (ap item.Block (sym p.0))
      | inr k ↦ inr (in_right (item.Block n) (line_items c.number 0 c.lines) (block_items bs) (block_there n bs b k))
    ]

inst_there : (n i : ℕ) (bs : List Block) (b : Block) (l : Line) → find_block n bs ≡ Some b → slice_get b.lines i ≡ Some l → In (item.Inst (record { block = n; index = i })) (block_items bs)
inst_there n i [] b l h g = cc
inst_there n i (c ∷ bs) b l h g =
    elim (found n c bs b h) [
      | inl p ↦ inr (in_left (item.Inst (record { block = n; index = i })) (line_items c.number 0 c.lines) (block_items bs) (here p.0 (ap (λ (z : Block). slice_get z.lines i) p.1 ∙ g)))
      | inr k ↦ inr (in_right (item.Inst (record { block = n; index = i })) (line_items c.number 0 c.lines) (block_items bs) (inst_there n i bs b l k g))
    ]
  where
    none : (k : ℕ) → k + 0 ≡ k
    none k = omega arith

    here : c.number ≡ n → slice_get c.lines i ≡ Some l → In (item.Inst (record { block = n; index = i })) (line_items c.number 0 c.lines)
    here q g = subst (λ z. In (item.Inst (record { block = n; index = z })) (line_items c.number 0 c.lines)) (none i) (subst (λ z. In (item.Inst (record { block = z; index = i + 0 })) (line_items c.number 0 c.lines)) q (line_there c.number c.lines 0 i l g))

-- ---- the laws

-- the rules of a function, by those at its callee declarations and those at its blocks
rules_at : (m : Module) (f : Function) → ((k : ℕ) (rule : Rule) → Holds m f (item.Callee k) rule) → ((place : Item) (rule : Rule) → In place (block_items f.blocks) → Holds m f place rule) → RulesHold m f
rules_at m f callees passed item.Whole rule = tt
rules_at m f callees passed (item.Callee k) rule = callees k rule
rules_at m f callees passed (item.Block b) rule = λ c g. passed (item.Block b) rule (block_there b f.blocks c g) c g
rules_at m f callees passed (item.Inst p) rule = λ c l h g. passed (item.Inst p) rule (inst_there p.block p.index f.blocks c l h g) c l h g

pub accepted_of : (m : Module) → Each (Passed m) (checks m) → Accepted m
accepted_of m e f i = rules_at m f callees (λ place rule p. passed place rule (in_right place (callee_items 0 f.callees) (block_items f.blocks) p))
  where
    passed : (place : Item) (rule : Rule) → In place (items f) → Holds m f place rule
    passed place rule p = let t = checks_have m f place rule i p in each_in (Passed m) (checks m) e (check t.0 f place rule) t.1

    none : (k : ℕ) → k + 0 ≡ k
    none k = omega arith

    callees : (k : ℕ) (rule : Rule) → Holds m f (item.Callee k) rule
    callees k rule = λ c g. passed (item.Callee k) rule (in_left (item.Callee k) (callee_items 0 f.callees) (block_items f.blocks) (subst (λ z. In (item.Callee z) (callee_items 0 f.callees)) (none k) (callee_there f.callees 0 k c g))) c g

-- a function's own rules: in the empty module each callee declaration keeps its rule, since it names no function there
pub own_rules : (f : Function) (n : ℕ) → Each (Passed []) (tried_at first_rules n f (block_items f.blocks)) → Each (Passed []) (tried_at last_rules n f (items f)) → RulesHold [] f
own_rules f n early late = rules_at [] f callees passed
  where
    callees : (k : ℕ) (rule : Rule) → Holds [] f (item.Callee k) rule
    callees k no_terminator = λ c g. tt
    callees k entry_target = λ c g. tt
    callees k count_mismatch = λ c g. tt
    callees k type_mismatch = λ c g. tt
    callees k convention = λ c g. tt
    callees k signature_mismatch = λ c g h e. cc
    callees k slot_range = λ c g. tt
    callees k tag_place = λ c g. tt
    callees k not_available = λ c g. tt

    passed : (place : Item) (rule : Rule) → In place (block_items f.blocks) → Holds [] f place rule
    passed place rule p =
        elim (first_or_last rule) [
          | inl r ↦ each_in (Passed []) (tried_at first_rules n f (block_items f.blocks)) early (check n f place rule) (tried_at_has first_rules n f place rule (block_items f.blocks) p r)
          | inr r ↦ each_in (Passed []) (tried_at last_rules n f (items f)) late (check n f place rule) (tried_at_has last_rules n f place rule (items f) (in_right place (callee_items 0 f.callees) (block_items f.blocks) p) r)
        ]

pub of_accepted : (m : Module) → Accepted m → Each (Passed m) (checks m)
of_accepted m ok = each_by (Passed m) (checks m) (λ c i. ok c.func (get_in m c.number c.func (checks_of m c i)) c.place c.rule)

pub all_passed : AllPassed
all_passed m = (accepted_of m, of_accepted m)

pub at_most_one : AtMostOne
at_most_one m n k place other rule second h g =
    let q = one_bad (Passed m) (checks m) (check n h.0 place rule) (check k g.0 other second) h.1 g.1 in
    (ap (λ (z : Check). z.number) q, ap (λ (z : Check). z.place) q, ap (λ (z : Check). z.rule) q)

pub fault_is_real : FaultIsReal
fault_is_real m n place rule h = (h.0, checks_of m (check n h.0 place rule) (bad_in (Passed m) (checks m) (check n h.0 place rule) h.1), is_bad (Passed m) (checks m) (check n h.0 place rule) h.1)

pub accepted_has_none : AcceptedHasNone
accepted_has_none m n place rule ok h =
    is_bad (Passed m) (checks m) (check n h.0 place rule) h.1 (each_in (Passed m) (checks m) (of_accepted m ok) (check n h.0 place rule) (bad_in (Passed m) (checks m) (check n h.0 place rule) h.1))

pub accepted_or_fault : AcceptedOrFault
accepted_or_fault m known =
    elim (all_or_bad (Passed m) known (checks m)) [
      | inl e ↦ inl (accepted_of m e)
      | inr b ↦ inr (b.0.number, b.0.place, b.0.rule, (b.0.func, b.1))
    ]
