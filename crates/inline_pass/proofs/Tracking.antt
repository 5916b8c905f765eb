-- A call of the caller's own text calls the same after a splice, wherever the splice is.
use Rattle.std.proofs.Common.{◌≡◌, ℕ, zero, suc, ◌+◌, ◌-◌, ◌<◌, ◌⊎◌, inl, inr, List, [], ◌∷◌, ◌++◌, map, take, drop, Option, Some, None, Bool, true, false, ◌&&◌, nat_eq, nat_lt, refl, sym, ap, ◌∙◌, subst, arith, le-ltb}
use Rattle.std.specs.Prelude.{slice_get, if◌then◌else◌}
use Rattle.std.proofs.lemmas.Bool.{cases_eq, cases_lt, and_parts}
use Rattle.ir_core.specs.declared.names.FuncName.{FuncName}
use Rattle.ir_core.specs.declared.declarations.Callee.{Callee}
use Rattle.ir_core.specs.Module.{CallTarget, Direct, Indirect, call_target, Instruction, Plain, Branches, SequencePoint, Return, Call, ReturnCall, TryCall, Line, Block, Function}
use Rattle.ir_core.specs.Lookup.{find_block}
use Rattle.ir_core.specs.Lists.{In}
use Rattle.ir_semantics.specs.Renaming.{block_under, called_under, instruction_under, line_under}
use Rattle.ir_semantics.specs.Splice.{Splicing, Kind, Within, Last, Tries, kind_of, body, jump_in, cut_block, after_block, after_blocks, caller_names, spliced, spliced_blocks, sides, splice_with}
use Rattle.ir_core.specs.Uses.{named_callee, callee_of}
use Rattle.ir_core.proofs.Equal.{number_equal}
use Rattle.inline_outcomes.proofs.Local.{try_target_called}
use Rattle.inline_outcomes.proofs.Related.{Distinct, RestF}
use Rattle.inline_outcomes.proofs.Places.{find_hit, find_skip, append_none, g_off, after_off, after_cut, f_found}
use Rattle.inline_outcomes.proofs.Merging.{own_callee}
use Rattle.inline_outcomes.proofs.Linking.{distinct_sides}
use Rattle.inline_pass.specs.Sites.{Point, point_behind, called}
use Rattle.inline_pass.proofs.Passing.{found}
use Rattle.ir_core.proofs.Cutting.{cut_list}
use Rattle.ir_core.proofs.Gets.{some_same}

-- a call at the point is of a declared callee whose name is among these
pub record Names (names : List FuncName) (b : Function) (q : Point) : Type 0 where
  pub callee : (k : Block) (l : Line) (j : ℕ) → find_block q.0 b.blocks ≡ Some k → slice_get k.lines q.1 ≡ Some l → callee_of l.inst ≡ Some j → (c : Callee) × (slice_get b.callees j ≡ Some c) × In c.name names

pub name_in : (names : List FuncName) (b : Function) (q : Point) → Names names b q → (y : FuncName) → called b q.0 q.1 ≡ Some y → In y names
name_in names b q n y h =
    let d = found b q.0 q.1 y h in
    let c = n.callee d.block d.line d.index d.found d.get d.is in
    let e : c.0 ≡ d.callee = some_same (sym c.1 ∙ d.has) in
    subst (λ z. In z names) (ap (λ z. z.name) e ∙ d.name) c.2

-- lists of lines

pub get_of_map : (f : Line → Line) (ls : List Line) (j : ℕ) (l' : Line) → slice_get (map f ls) j ≡ Some l' → (l : Line) × (slice_get ls j ≡ Some l) × (f l ≡ l')
get_of_map f [] j l' h = cc
get_of_map f (x ∷ ls) zero l' h = (x, refl, some_same h)
get_of_map f (x ∷ ls) (suc j) l' h = get_of_map f ls j l' h

get_drop : (ls : List Line) (i j : ℕ) → slice_get (drop (suc i) ls) j ≡ slice_get ls (suc (i + j))
get_drop [] i j = refl
get_drop (x ∷ ls) zero j = let e : 0 + j ≡ j = omega arith in ap (slice_get ls) (sym e)
get_drop (x ∷ ls) (suc i) j = let e : suc i + j ≡ suc (i + j) = omega arith in get_drop ls i j ∙ ap (slice_get ls) (sym e)

get_front : (as' bs : List Line) (j : ℕ) (l : Line) → slice_get as' j ≡ Some l → slice_get (as' ++ bs) j ≡ Some l
get_front [] bs j l h = cc
get_front (x ∷ as') bs zero l h = h
get_front (x ∷ as') bs (suc j) l h = get_front as' bs j l h

get_of_append : (as' : List Line) (b : Line) (j : ℕ) (l : Line) → slice_get (as' ++ (b ∷ [])) j ≡ Some l → (slice_get as' j ≡ Some l) ⊎ (b ≡ l)
get_of_append [] b zero l h = inr (some_same h)
get_of_append [] b (suc j) l h = cc
get_of_append (x ∷ as') b zero l h = inl h
get_of_append (x ∷ as') b (suc j) l h = get_of_append as' b j l h

target_stays : (S : Splicing) (t : CallTarget) → named_callee (called_under (caller_names S) t) ≡ named_callee t
target_stays S (Direct k) = refl
target_stays S (Indirect s a) = refl

callee_stays : (S : Splicing) (i : Instruction) → callee_of (instruction_under (caller_names S) i) ≡ callee_of i
callee_stays S (Call t args) = target_stays S t
callee_stays S (ReturnCall t args) = target_stays S t
callee_stays S (TryCall t sg args n u) = ap named_callee (try_target_called (caller_names S) t sg) ∙ target_stays S (call_target t sg)
callee_stays S (Plain a) = refl
callee_stays S (Branches a) = refl
callee_stays S SequencePoint = refl
callee_stays S (Return a) = refl

-- the blocks that a splice has

module _ (S : Splicing) (names : Distinct S.naming) where
  ren_none : (bs : List Block) (b : ℕ) → find_block b bs ≡ None → find_block (S.naming.caller_block b) (map (block_under (caller_names S)) bs) ≡ None
  ren_none [] b h = refl
  ren_none (m ∷ bs) b h =
      elim (cases_eq m.number b) [
        | inl q ↦ let e : Some m ≡ None = sym (find_hit b m bs q) ∙ h in cc
        | inr q ↦ find_skip (S.naming.caller_block b) (block_under (caller_names S) m) (map (block_under (caller_names S)) bs) (λ p. q (names.caller_block m.number b p)) ∙ ren_none bs b (sym (find_skip b m bs q) ∙ h)
      ]

  pub ren_off : (x : ℕ) → ((b : ℕ) → S.naming.caller_block b ≡ x → ⊥) → (bs : List Block) → find_block x (map (block_under (caller_names S)) bs) ≡ None
  ren_off x off [] = refl
  ren_off x off (m ∷ bs) = find_skip x (block_under (caller_names S) m) (map (block_under (caller_names S)) bs) (off m.number) ∙ ren_off x off bs

  chosen : Bool → Block → List Block → List Block
  chosen c m bs = if c then cut_block S m ∷ (body S S.callee.blocks ++ (after_blocks S (kind_of S.site.inst) ++ map (block_under (caller_names S)) bs)) else block_under (caller_names S) m ∷ spliced_blocks S bs

  pub f_none : (bs : List Block) (b : ℕ) → find_block b bs ≡ None → find_block (S.naming.caller_block b) (spliced_blocks S bs) ≡ None
  unfolding chosen
  f_none [] b h = refl
  f_none (m ∷ bs) b h =
      elim (cases_eq m.number b) [
        | inl q ↦ let e : Some m ≡ None = sym (find_hit b m bs q) ∙ h in cc
        | inr q ↦ go (nat_eq m.number S.at) (λ r. q (names.caller_block m.number b r)) (sym (find_skip b m bs q) ∙ h) (f_none bs b (sym (find_skip b m bs q) ∙ h))
      ]
    where
      go : (c : Bool) → (S.naming.caller_block m.number ≡ S.naming.caller_block b → ⊥) → find_block b bs ≡ None → find_block (S.naming.caller_block b) (spliced_blocks S bs) ≡ None → find_block (S.naming.caller_block b) (chosen c m bs) ≡ None
      go true off rest ih =
          find_skip (S.naming.caller_block b) (cut_block S m) _ off ∙ append_none (S.naming.caller_block b) (body S S.callee.blocks) _ (g_off S names (S.naming.caller_block b) (λ c r. names.blocks b c (sym r)) (λ c j r. names.caller_new b c j (sym r)) S.callee.blocks) ∙ append_none (S.naming.caller_block b) (after_blocks S (kind_of S.site.inst)) _ (after_off S names (S.naming.caller_block b) (λ r. names.caller_after b (sym r)) (kind_of S.site.inst)) ∙ ren_none bs b rest
      go false off rest ih = find_skip (S.naming.caller_block b) (block_under (caller_names S) m) (spliced_blocks S bs) off ∙ ih

  -- a block under a name of the caller's is one of the caller's, or what stands before the cut
  own_block : (bs : List Block) (b0 : Block) → find_block S.at bs ≡ Some b0 → b0.lines ≡ S.before ++ (S.site ∷ S.behind) → (b : ℕ) (k' : Block) → find_block (S.naming.caller_block b) (spliced_blocks S bs) ≡ Some k' → (k : Block) × (find_block b bs ≡ Some k) × RestF S k.lines k'.lines
  own_block bs b0 h0 lines b k' h = go (find_block b bs) refl
    where
      go : (o : Option Block) → find_block b bs ≡ o → (k : Block) × (find_block b bs ≡ Some k) × RestF S k.lines k'.lines
      go None q = let e : Some k' ≡ None = sym h ∙ f_none bs b q in cc
      go (Some k) q =
          let r = f_found S names bs b0 h0 lines b k q in
          let e : r.0 ≡ k' = some_same (sym r.1 ∙ h) in
          (k, q, subst (λ z. RestF S k.lines z.lines) e r.3)

  -- the block behind the body
  behind_body : (bs : List Block) (b0 : Block) → find_block S.at bs ≡ Some b0 → (k' : Block) → find_block S.naming.after (spliced_blocks S bs) ≡ Some k' → after_block S ≡ k'
  behind_body bs b0 h0 k' h =
      let r = after_cut S names S.naming.after names.caller_after bs b0 h0 in
      by (kind_of S.site.inst) r.0 (sym (append_none S.naming.after (body S S.callee.blocks) _ (g_off S names S.naming.after names.callee_after names.new_after S.callee.blocks)) ∙ sym r.1 ∙ h)
    where
      by : (k : Kind) (tail : List Block) → find_block S.naming.after (after_blocks S k ++ map (block_under (caller_names S)) tail) ≡ Some k' → after_block S ≡ k'
      by Within tail e = some_same (sym (find_hit S.naming.after (after_block S) (map (block_under (caller_names S)) tail) refl) ∙ e)
      by Last tail e = let z : None ≡ Some k' = sym (ren_off S.naming.after names.caller_after tail) ∙ e in cc
      by (Tries normal table) tail e = let z : None ≡ Some k' = sym (ren_off S.naming.after names.caller_after tail) ∙ e in cc

  -- a call there is one of the caller's
  own_call : (ls ls' : List Line) → RestF S ls ls' → (j : ℕ) (l' : Line) (n : ℕ) → slice_get ls' j ≡ Some l' → callee_of l'.inst ≡ Some n → (l : Line) × (slice_get ls j ≡ Some l) × (callee_of l.inst ≡ Some n)
  own_call ls ls' (inl q) j l' n get is =
      let r = get_of_map (line_under (caller_names S)) ls j l' (sym (ap (λ z. slice_get z j) q) ∙ get) in
      (r.0, r.1, sym (callee_stays S r.0.inst) ∙ ap (λ z. callee_of z.inst) r.2 ∙ is)
  own_call ls ls' (inr (p, q, e)) j l' n get is =
      elim (get_of_append (map (line_under (caller_names S)) p) (jump_in S) j l' (sym (ap (λ z. slice_get z j) e) ∙ get)) [
        | inl u ↦
            let r = get_of_map (line_under (caller_names S)) p j l' u in
            (r.0, ap (λ z. slice_get z j) q ∙ get_front p (S.site ∷ S.behind) j r.0 r.1, sym (callee_stays S r.0.inst) ∙ ap (λ z. callee_of z.inst) r.2 ∙ is)
        | inr u ↦ let z : None ≡ Some n = ap (λ z. callee_of z.inst) u ∙ is in cc
      ]

module _ (b g : Function) (at i : ℕ) (k0 : Block) (l0 : Line) (there : find_block at b.blocks ≡ Some k0) (get0 : slice_get k0.lines i ≡ Some l0) where
  abbrev here : Splicing
  here = record { naming = sides; caller = b; callee = g; at = at; before = take i k0.lines; site = l0; behind = drop (suc i) k0.lines }

  pub splice_here : splice_with sides b at i g ≡ spliced here
  splice_here =
      ap (λ o. elim o as (λ z. Function) [ None ↦ b | Some k ↦ elim (slice_get k.lines i) as (λ z. Function) [ None ↦ b | Some l ↦ spliced (record { naming = sides; caller = b; callee = g; at = at; before = take i k.lines; site = l; behind = drop (suc i) k.lines }) ] ]) there ∙ ap (λ o. elim o as (λ z. Function) [ None ↦ b | Some l ↦ spliced (record { naming = sides; caller = b; callee = g; at = at; before = take i k0.lines; site = l; behind = drop (suc i) k0.lines }) ]) get0

  -- as the caller's callees keep their numbers
  stays : (names : List FuncName) (j : ℕ) → ((c : Callee) × (slice_get b.callees j ≡ Some c) × In c.name names) → (c : Callee) × (slice_get (spliced here).callees j ≡ Some c) × In c.name names
  stays names j (c, h, q) = (c, own_callee b g j c h, q)

  at_after : (names : List FuncName) (q : Point) → Names names b q → q.0 ≡ at → i < q.1 → Names names (spliced here) (sides.after, q.1 - (i + 1))
  at_after names q n e lt =
      record {
        callee = λ k' l' j found get is.
            let kk : after_block here ≡ k' = behind_body here distinct_sides b.blocks k0 there k' found in
            let r = get_of_map (line_under (caller_names here)) (drop (suc i) k0.lines) (q.1 - (i + 1)) l' (ap (λ z. slice_get z.lines (q.1 - (i + 1))) kk ∙ get) in
            let z : suc (i + (q.1 - (i + 1))) ≡ q.1 = omega (arith, lt) in
            stays names j (n.callee k0 r.0 j (ap (λ z. find_block z b.blocks) e ∙ there) (sym (get_drop k0.lines i (q.1 - (i + 1)) ∙ ap (slice_get k0.lines) z) ∙ r.1) (sym (callee_stays here r.0.inst) ∙ ap (λ z. callee_of z.inst) r.2 ∙ is));
      }

  at_own : (names : List FuncName) (q : Point) → Names names b q → Names names (spliced here) (sides.caller_block q.0, q.1)
  at_own names q n =
      record {
        callee = λ k' l' j found get is.
            let o = own_block here distinct_sides b.blocks k0 there (cut_list k0.lines i l0 get0) q.0 k' found in
            let r = own_call here distinct_sides o.0.lines k'.lines o.2 q.1 l' j get is in
            stays names j (n.callee o.0 r.0 j o.1 r.1 r.2);
      }

  pub track : (names : List FuncName) (q : Point) → Names names b q → Names names (spliced here) (point_behind at i q)
  track names q n = go (nat_eq q.0 at && nat_lt i q.1) refl
    where
      go : (c : Bool) → (nat_eq q.0 at && nat_lt i q.1) ≡ c → Names names (spliced here) (if c then (sides.after, q.1 - (i + 1)) else (sides.caller_block q.0, q.1))
      go true h =
          let p = and_parts (nat_eq q.0 at) (nat_lt i q.1) h in
          elim (cases_lt i q.1) [ inl lt ↦ at_after names q n (number_equal q.0 at p.0) lt | inr le ↦ absurd (let z : false ≡ true = sym (le-ltb i q.1 le) ∙ p.1 in cc) ]
      go false h = at_own names q n
