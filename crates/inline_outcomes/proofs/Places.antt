-- Where the blocks of a splice stand.
use Rattle.std.proofs.Common.{◌≡◌, ℕ, suc, ◌≤◌, inl, inr, List, [], ◌∷◌, ◌++◌, map, Some, None, refl, sym, ap, ◌∙◌, subst, arith, eq-eqb, ne_eqb}
use Rattle.std.specs.Prelude.{if◌then◌else◌}
use Rattle.std.proofs.lemmas.Bool.{cases_eq}
use Rattle.ir_core.specs.declared.instructions.BlockCall.{BlockCall}
use Rattle.exn_tables.specs.declared.table.Entry.{Entry}
use Rattle.ir_core.specs.Module.{Block, Branches, Call, Instruction, Line, Plain, Return, ReturnCall, SequencePoint, TryCall}
use Rattle.ir_core.specs.Lookup.{find_block}
use Rattle.ir_core.proofs.Gets.{some_same}
use Rattle.ir_semantics.specs.Step.{found}
use Rattle.ir_semantics.specs.Renaming.{Renaming, block_under, line_under}
use Rattle.ir_semantics.specs.Splice.{Kind, Last, Fragment, Splicing, Tries, Within, after_block, after_blocks, body, caller_names, cut_block, kind_of, fragment, fragment_by, spliced, spliced_blocks, tries_fragment, within_fragment}
use Rattle.inline_outcomes.proofs.Local.{Injective}
use Rattle.inline_outcomes.proofs.Related.{Distinct, Head, RestF, RestG, TriesHead, WithinHead}

-- the first block of a name

pub find_hit : (x : ℕ) (b : Block) (bs : List Block) → b.number ≡ x → find_block x (b ∷ bs) ≡ Some b
find_hit x b bs h = ap (λ c. if c then Some b else find_block x bs) (eq-eqb b.number x h)

pub find_skip : (x : ℕ) (b : Block) (bs : List Block) → (b.number ≡ x → ⊥) → find_block x (b ∷ bs) ≡ find_block x bs
find_skip x b bs h = ap (λ c. if c then Some b else find_block x bs) (ne_eqb b.number x h)

pub append_none : (x : ℕ) (a b : List Block) → find_block x a ≡ None → find_block x (a ++ b) ≡ find_block x b
append_none x [] b h = refl
append_none x (k ∷ a) b h =
    elim (cases_eq k.number x) [
      | inl q ↦ let e : Some k ≡ None = sym (find_hit x k a q) ∙ h in cc
      | inr q ↦ find_skip x k (a ++ b) q ∙ append_none x a b (sym (find_skip x k a q) ∙ h)
    ]

pub append_some : (x : ℕ) (a b : List Block) (k : Block) → find_block x a ≡ Some k → find_block x (a ++ b) ≡ Some k
append_some x [] b k h = cc
append_some x (m ∷ a) b k h =
    elim (cases_eq m.number x) [ inl q ↦ find_hit x m (a ++ b) q ∙ sym (find_hit x m a q) ∙ h | inr q ↦ find_skip x m (a ++ b) q ∙ append_some x a b k (sym (find_skip x m a q) ∙ h) ]

pub ren_find : (r : Renaming) → Injective r.block → (bs : List Block) (b : ℕ) (k : Block) → find_block b bs ≡ Some k → find_block (r.block b) (map (block_under r) bs) ≡ Some (block_under r k)
ren_find r inj [] b k h = cc
ren_find r inj (m ∷ bs) b k h =
    elim (cases_eq m.number b) [
      | inl q ↦ let e : m ≡ k = some_same (sym (find_hit b m bs q) ∙ h) in find_hit (r.block b) (block_under r m) (map (block_under r) bs) (ap r.block q) ∙ ap (λ z. Some (block_under r z)) e
      | inr q ↦ find_skip (r.block b) (block_under r m) (map (block_under r) bs) (λ p. q (inj m.number b p)) ∙ ren_find r inj bs b k (sym (find_skip b m bs q) ∙ h)
    ]

ren_off : (r : Renaming) (x : ℕ) → ((b : ℕ) → r.block b ≡ x → ⊥) → (bs : List Block) → find_block x (map (block_under r) bs) ≡ None
ren_off r x off [] = refl
ren_off r x off (m ∷ bs) = find_skip x (block_under r m) (map (block_under r) bs) (off m.number) ∙ ren_off r x off bs

module _ (S : Splicing) (names : Distinct S.naming) where
  abbrev pc : ℕ → ℕ → List Line → Fragment
  pc c j ls = fragment S c j ls

  -- the further blocks of a fragment have new names of its block
  within_same : (x c j : ℕ) (i : Line) (inst : Instruction) (p : Fragment) → find_block x (within_fragment S c j i inst p).more ≡ find_block x p.more
  within_same x c j i (Plain p0) p = refl
  within_same x c j i SequencePoint p = refl
  within_same x c j i (Branches c0) p = refl
  within_same x c j i (Return a1) p = refl
  within_same x c j i (Call a1 a2) p = refl
  within_same x c j i (ReturnCall a1 a2) p = refl
  within_same x c j i (TryCall a1 sg a2 a3 a4) p = refl

  tries_same : (normal : BlockCall) (table : List (Entry BlockCall)) (x c j : ℕ) (i : Line) (inst : Instruction) (p : Fragment) → (S.naming.new_block c j ≡ x → ⊥) → find_block x (tries_fragment S normal table c j i inst p).more ≡ find_block x p.more
  tries_same normal table x c j i (Plain p0) p off = refl
  tries_same normal table x c j i SequencePoint p off = refl
  tries_same normal table x c j i (Branches c0) p off = refl
  tries_same normal table x c j i (Return a1) p off = refl
  tries_same normal table x c j i (Call a1 a2) p off = find_skip x (record { number = S.naming.new_block c j; params = map S.naming.callee_value i.results; lines = p.lines }) p.more off
  tries_same normal table x c j i (ReturnCall a1 a2) p off = refl
  tries_same normal table x c j i (TryCall a1 sg a2 a3 a4) p off = refl

  pub by_same : (k : Kind) (x c j : ℕ) (i : Line) (p : Fragment) → (S.naming.new_block c j ≡ x → ⊥) → find_block x (fragment_by S k c j i p).more ≡ find_block x p.more
  by_same Within x c j i p off = within_same x c j i i.inst p
  by_same Last x c j i p off = refl
  by_same (Tries normal table) x c j i p off = tries_same normal table x c j i i.inst p off

  piece_off : (x c : ℕ) → ((j : ℕ) → S.naming.new_block c j ≡ x → ⊥) → (j : ℕ) (ls : List Line) → find_block x (fragment S c j ls).more ≡ None
  piece_off x c off j [] = refl
  piece_off x c off j (i ∷ is) = by_same (kind_of S.site.inst) x c j i (fragment S c (suc j) is) (off j) ∙ piece_off x c off (suc j) is

  pub g_off : (x : ℕ) → ((b : ℕ) → S.naming.callee_block b ≡ x → ⊥) → ((c j : ℕ) → S.naming.new_block c j ≡ x → ⊥) → (gs : List Block) → find_block x (body S gs) ≡ None
  g_off x off off_new [] = refl
  g_off x off off_new (b ∷ gs) =
      find_skip x (record { number = S.naming.callee_block b.number; params = map S.naming.callee_value b.params; lines = (fragment S b.number 0 b.lines).lines }) ((fragment S b.number 0 b.lines).more ++ body S gs) (off b.number) ∙ append_none x (fragment S b.number 0 b.lines).more (body S gs) (piece_off x b.number (off_new b.number) 0 b.lines) ∙ g_off x off off_new gs

  -- a block of g, and the further blocks of its fragment
  pub g_found : (gs : List Block) (b : ℕ) (k : Block) → find_block b gs ≡ Some k → find_block (S.naming.callee_block b) (body S gs) ≡ Some (record { number = S.naming.callee_block k.number; params = map S.naming.callee_value k.params; lines = (fragment S k.number 0 k.lines).lines })
  g_found [] b k h = cc
  g_found (m ∷ gs) b k h =
      let rest = (fragment S m.number 0 m.lines).more ++ body S gs in
      let head : Block = record { number = S.naming.callee_block m.number; params = map S.naming.callee_value m.params; lines = (fragment S m.number 0 m.lines).lines } in
      elim (cases_eq m.number b) [
        | inl q ↦ let e : m ≡ k = some_same (sym (find_hit b m gs q) ∙ h) in find_hit (S.naming.callee_block b) head rest (ap S.naming.callee_block q) ∙ ap (λ z. Some (record { number = S.naming.callee_block z.number; params = map S.naming.callee_value z.params; lines = (fragment S z.number 0 z.lines).lines })) e
        | inr q ↦ find_skip (S.naming.callee_block b) head rest (λ p. q (names.callee_block m.number b p)) ∙ append_none (S.naming.callee_block b) (fragment S m.number 0 m.lines).more (body S gs) (piece_off (S.naming.callee_block b) m.number (λ j p. names.callee_new b m.number j (sym p)) 0 m.lines) ∙ g_found gs b k (sym (find_skip b m gs q) ∙ h)
      ]

  pub new_found : (gs : List Block) (b : ℕ) (k : Block) → find_block b gs ≡ Some k → (j : ℕ) (k' : Block) → find_block (S.naming.new_block b j) (fragment S k.number 0 k.lines).more ≡ Some k' → find_block (S.naming.new_block b j) (body S gs) ≡ Some k'
  new_found [] b k h j k' h' = cc
  new_found (m ∷ gs) b k h j k' h' =
      let rest = (fragment S m.number 0 m.lines).more ++ body S gs in
      let head : Block = record { number = S.naming.callee_block m.number; params = map S.naming.callee_value m.params; lines = (fragment S m.number 0 m.lines).lines } in
      let skip = find_skip (S.naming.new_block b j) head rest (names.callee_new m.number b j) in
      elim (cases_eq m.number b) [
        | inl q ↦ let e : m ≡ k = some_same (sym (find_hit b m gs q) ∙ h) in skip ∙ append_some (S.naming.new_block b j) (fragment S m.number 0 m.lines).more (body S gs) k' (ap (λ z. find_block (S.naming.new_block b j) (fragment S z.number 0 z.lines).more) e ∙ h')
        | inr q ↦ skip ∙ append_none (S.naming.new_block b j) (fragment S m.number 0 m.lines).more (body S gs) (piece_off (S.naming.new_block b j) m.number (λ i p. q (names.new_block m.number i b j p).0) 0 m.lines) ∙ new_found gs b k (sym (find_skip b m gs q) ∙ h) j k' h'
      ]

  -- what is no name of f stands from the cut on
  pub after_cut : (x : ℕ) → ((b : ℕ) → S.naming.caller_block b ≡ x → ⊥) → (bs : List Block) (b0 : Block) → find_block S.at bs ≡ Some b0 → (tail : List Block) × (find_block x (spliced_blocks S bs) ≡ find_block x (body S S.callee.blocks ++ (after_blocks S (kind_of S.site.inst) ++ map (block_under (caller_names S)) tail)))
  after_cut x off [] b0 h = cc
  after_cut x off (m ∷ bs) b0 h =
      elim (cases_eq m.number S.at) [
        | inl q ↦ (bs, ap (λ c. find_block x (if c then cut_block S m ∷ (body S S.callee.blocks ++ (after_blocks S (kind_of S.site.inst) ++ map (block_under (caller_names S)) bs)) else block_under (caller_names S) m ∷ spliced_blocks S bs)) (eq-eqb m.number S.at q) ∙ find_skip x (cut_block S m) _ (off m.number))
        | inr q ↦ let r = after_cut x off bs b0 (sym (find_skip S.at m bs q) ∙ h) in (r.0, ap (λ c. find_block x (if c then cut_block S m ∷ (body S S.callee.blocks ++ (after_blocks S (kind_of S.site.inst) ++ map (block_under (caller_names S)) bs)) else block_under (caller_names S) m ∷ spliced_blocks S bs)) (ne_eqb m.number S.at q) ∙ find_skip x (block_under (caller_names S) m) _ (off m.number) ∙ r.1)
      ]

  pub after_off : (x : ℕ) → (S.naming.after ≡ x → ⊥) → (k : Kind) → find_block x (after_blocks S k) ≡ None
  after_off x off Within = find_skip x (after_block S) [] off
  after_off x off Last = refl
  after_off x off (Tries normal table) = refl

  -- a block of f
  pub f_found : (bs : List Block) (b0 : Block) → find_block S.at bs ≡ Some b0 → b0.lines ≡ S.before ++ (S.site ∷ S.behind) → (b : ℕ) (k : Block) → find_block b bs ≡ Some k → (k' : Block) × (find_block (S.naming.caller_block b) (spliced_blocks S bs) ≡ Some k') × (k'.params ≡ map S.naming.caller_value k.params) × RestF S k.lines k'.lines
  f_found [] b0 h0 lines b k h = cc
  f_found (m ∷ bs) b0 h0 lines b k h = elim (cases_eq m.number S.at) [ inl q ↦ cut q | inr q ↦ whole q (λ h1. f_found bs b0 (sym (find_skip S.at m bs q) ∙ h0) lines b k h1) ]
    where
      Found : Block → List Block → Type 0
      Found k1 blocks = (k' : Block) × (find_block (S.naming.caller_block b) blocks ≡ Some k') × (k'.params ≡ map S.naming.caller_value k1.params) × RestF S k1.lines k'.lines

      chosen : List Block
      chosen = spliced_blocks S (m ∷ bs)

      tail : List Block
      tail = body S S.callee.blocks ++ (after_blocks S (kind_of S.site.inst) ++ map (block_under (caller_names S)) bs)

      cut_is : m.number ≡ S.at → cut_block S m ∷ tail ≡ spliced_blocks S (m ∷ bs)
      cut_is q = sym (ap (λ c. if c then cut_block S m ∷ (body S S.callee.blocks ++ (after_blocks S (kind_of S.site.inst) ++ map (block_under (caller_names S)) bs)) else block_under (caller_names S) m ∷ spliced_blocks S bs) (eq-eqb m.number S.at q))

      whole_is : (m.number ≡ S.at → ⊥) → block_under (caller_names S) m ∷ spliced_blocks S bs ≡ spliced_blocks S (m ∷ bs)
      whole_is q = sym (ap (λ c. if c then cut_block S m ∷ (body S S.callee.blocks ++ (after_blocks S (kind_of S.site.inst) ++ map (block_under (caller_names S)) bs)) else block_under (caller_names S) m ∷ spliced_blocks S bs) (ne_eqb m.number S.at q))

      cut : m.number ≡ S.at → (k' : Block) × (find_block (S.naming.caller_block b) (spliced_blocks S (m ∷ bs)) ≡ Some k') × (k'.params ≡ map S.naming.caller_value k.params) × RestF S k.lines k'.lines
      cut q =
          subst (λ z. (k' : Block) × (find_block (S.naming.caller_block b) z ≡ Some k') × (k'.params ≡ map S.naming.caller_value k.params) × RestF S k.lines k'.lines) (cut_is q) (elim (cases_eq m.number b) [
            | inl p ↦
                let e : m ≡ k = some_same (sym (find_hit b m bs p) ∙ h) in
                let e0 : m ≡ b0 = some_same (sym (find_hit S.at m bs q) ∙ h0) in
                (cut_block S m, find_hit (S.naming.caller_block b) (cut_block S m) tail (ap S.naming.caller_block p), ap (λ z. map S.naming.caller_value z.params) e, inr (S.before, ap (λ z. z.lines) (sym e ∙ e0) ∙ lines, refl))
            | inr p ↦
                let there = ren_find (caller_names S) names.caller_block bs b k (sym (find_skip b m bs p) ∙ h) in
                (block_under (caller_names S) k, find_skip (S.naming.caller_block b) (cut_block S m) tail (λ r. p (names.caller_block m.number b r)) ∙ append_none (S.naming.caller_block b) (body S S.callee.blocks) _ (g_off (S.naming.caller_block b) (λ c r. names.blocks b c (sym r)) (λ c j r. names.caller_new b c j (sym r)) S.callee.blocks) ∙ append_none (S.naming.caller_block b) (after_blocks S (kind_of S.site.inst)) _ (after_off (S.naming.caller_block b) (λ r. names.caller_after b (sym r)) (kind_of S.site.inst)) ∙ there, refl, inl refl)
          ])

      whole : (m.number ≡ S.at → ⊥) → (find_block b bs ≡ Some k → (k' : Block) × (find_block (S.naming.caller_block b) (spliced_blocks S bs) ≡ Some k') × (k'.params ≡ map S.naming.caller_value k.params) × RestF S k.lines k'.lines) → (k' : Block) × (find_block (S.naming.caller_block b) (spliced_blocks S (m ∷ bs)) ≡ Some k') × (k'.params ≡ map S.naming.caller_value k.params) × RestF S k.lines k'.lines
      whole q ih =
          subst (λ z. (k' : Block) × (find_block (S.naming.caller_block b) z ≡ Some k') × (k'.params ≡ map S.naming.caller_value k.params) × RestF S k.lines k'.lines) (whole_is q) (elim (cases_eq m.number b) [
            | inl p ↦
                let e : m ≡ k = some_same (sym (find_hit b m bs p) ∙ h) in
                (block_under (caller_names S) m, find_hit (S.naming.caller_block b) (block_under (caller_names S) m) (spliced_blocks S bs) (ap S.naming.caller_block p), ap (λ z. map S.naming.caller_value z.params) e, inl (ap (λ z. map (line_under (caller_names S)) z.lines) e))
            | inr p ↦
                let r = ih (sym (find_skip b m bs p) ∙ h) in
                (r.0, find_skip (S.naming.caller_block b) (block_under (caller_names S) m) (spliced_blocks S bs) (λ s. p (names.caller_block m.number b s)) ∙ r.1, r.2, r.3)
          ])

  -- the lines of g's blocks
  within_rest : (c j : ℕ) (i : Line) (inst : Instruction) (p : Fragment) (more : List Line → Type 0) → more p.lines → WithinHead S inst i more (within_fragment S c j i inst p).lines
  within_rest c j i (Return a1) p more h = (p.lines, refl)
  within_rest c j i (ReturnCall a1 a2) p more h = (c, p.lines, refl)
  within_rest c j i (Call a1 a2) p more h = (p.lines, refl, h)
  within_rest c j i (TryCall a1 sg a2 a3 a4) p more h = (p.lines, refl, h)
  within_rest c j i (Plain p0) p more h = (p.lines, refl, h)
  within_rest c j i SequencePoint p more h = (p.lines, refl, h)
  within_rest c j i (Branches c0) p more h = (p.lines, refl, h)

  tries_rest : (normal : BlockCall) (table : List (Entry BlockCall)) (c j : ℕ) (i : Line) (inst : Instruction) (p : Fragment) (more : List Line → Type 0) → more p.lines → ((k : Block) → find_block (S.naming.new_block c j) (tries_fragment S normal table c j i inst p).more ≡ Some k → find_block (S.naming.new_block c j) (spliced S).blocks ≡ Some k) → TriesHead S normal table inst i more (tries_fragment S normal table c j i inst p).lines
  tries_rest normal table c j i (Return a1) p more h found = (p.lines, refl)
  tries_rest normal table c j i (ReturnCall a1 a2) p more h found = (p.lines, refl)
  tries_rest normal table c j i (Call a1 a2) p more h found =
      let k' : Block = record { number = S.naming.new_block c j; params = map S.naming.callee_value i.results; lines = p.lines } in
      (S.naming.new_block c j, k', [], refl, found k' (find_hit (S.naming.new_block c j) k' p.more refl), refl, h)
  tries_rest normal table c j i (TryCall a1 sg a2 a3 a4) p more h found = (p.lines, refl)
  tries_rest normal table c j i (Plain p0) p more h found = (p.lines, refl, h)
  tries_rest normal table c j i SequencePoint p more h found = (p.lines, refl, h)
  tries_rest normal table c j i (Branches c0) p more h found = (p.lines, refl, h)

  by_rest : (k : Kind) (c j : ℕ) (i : Line) (p : Fragment) (more : List Line → Type 0) → more p.lines → ((b : Block) → find_block (S.naming.new_block c j) (fragment_by S k c j i p).more ≡ Some b → find_block (S.naming.new_block c j) (spliced S).blocks ≡ Some b) → Head S k i more (fragment_by S k c j i p).lines
  by_rest Within c j i p more h found = within_rest c j i i.inst p more h
  by_rest Last c j i p more h found = (p.lines, refl, h)
  by_rest (Tries normal table) c j i p more h found = tries_rest normal table c j i i.inst p more h found

  pub piece_rest : (c j : ℕ) (ls : List Line) → ((i : ℕ) (b : Block) → j ≤ i → find_block (S.naming.new_block c i) (fragment S c j ls).more ≡ Some b → find_block (S.naming.new_block c i) (spliced S).blocks ≡ Some b) → RestG S (kind_of S.site.inst) ls (fragment S c j ls).lines
  piece_rest c j [] found = tt
  piece_rest c j (i ∷ is) found =
      by_rest (kind_of S.site.inst) c j i (fragment S c (suc j) is) (RestG S (kind_of S.site.inst) is) (piece_rest c (suc j) is (λ m b below h. found m b (omega arith) (by_same (kind_of S.site.inst) (S.naming.new_block c m) c j i (fragment S c (suc j) is) (λ q. let e : j ≡ m = (names.new_block c j c m q).1 in absurd (omega arith)) ∙ h))) (λ b h. found j b (omega arith) h)
