-- Where the lines of a splice come from, and what its paths have passed.
use Rattle.std.proofs.Common.{◌≡◌, ℕ, suc, ◌+◌, ◌⊎◌, inl, inr, List, ◌∷◌, length, map, Option, Some, None, true, false, refl, sym, ap, ap₂, ◌∙◌, subst, arith}
use Rattle.std.specs.Prelude.{slice_get}
use Rattle.exn_tables.specs.declared.table.Entry.{Entry}
use Rattle.ir_core.specs.declared.instructions.BlockCall.{BlockCall}
use Rattle.ir_core.specs.Module.{Module, Function, Branches, Call, Instruction, Line, Block, Plain, Return, ReturnCall, SequencePoint, TryCall}
use Rattle.ir_core.specs.Lookup.{find_block, block_numbers}
use Rattle.ir_core.specs.Lists.{In, Different}
use Rattle.ir_core.specs.Uses.{targets, table_targets}
use Rattle.ir_semantics.specs.Available.{terminates, Reach, begin, next, branch}
use Rattle.ir_semantics.specs.Renaming.{Renaming, entry_under, line_under, target_under}
use Rattle.ir_semantics.specs.Splice.{Kind, Last, Splicing, Tries, Within, callee_line, callee_names, caller_names, from, jump_in, kind_of, new_results, fragment, spliced, to_after}
use Rattle.ir_core.specs.Uses.{callee_of}
use Rattle.ir_core.proofs.Gets.{get_mapped}
use Rattle.ir_core.proofs.Members.{in_cases, map_in}
use Rattle.inline_acceptance.specs.Alone.{CallSite, standing}
use Rattle.ir_semantics.proofs.SafetyPlaces.{From}
use Rattle.inline_outcomes.proofs.Related.{Distinct, RestF, RestG}
use Rattle.inline_outcomes.proofs.Frames.{Embeds}
use Rattle.inline_outcomes.proofs.Linking.{embeds_f, embeds_g}
use Rattle.inline_acceptance.proofs.KeptLists.{table_under, table_append, target_from, map_get, none_map, Cut_get, before, last, cut_get, get_after, get_site, get_before}
use Rattle.inline_acceptance.proofs.Points.{from_line, from_is, Goes, ends_under, Ending, EndsWell, IsTail, Trans, piece_line, NewOf, GBlock, BlockOf, of_f, of_cut, of_g, of_after, block_of}

-- what paths need of a function
pub record Sound (h : Function) : Type 0 where
  pub first : Block
  pub others : List Block
  pub blocks : h.blocks ≡ first ∷ others
  pub numbers : Different (block_numbers h.blocks)
  pub lines : (b : ℕ) (k : Block) → find_block b h.blocks ≡ Some k → (l : Line) × (slice_get k.lines 0 ≡ Some l)
  pub ends : (b : ℕ) (k : Block) (i : ℕ) (l : Line) → find_block b h.blocks ≡ Some k → slice_get k.lines i ≡ Some l → Ending l.inst (slice_get k.lines (suc i))
  pub lands : (b : ℕ) (k : Block) (i : ℕ) (l : Line) → find_block b h.blocks ≡ Some k → slice_get k.lines i ≡ Some l → (t : BlockCall) → In t (targets l.inst) → (e : Block) × (find_block t.block h.blocks ≡ Some e)

pub block_head : {x y : Block} {xs ys : List Block} → x ∷ xs ≡ y ∷ ys → x ≡ y
block_head e = cc

-- what the site's kind says of its targets
pub site_targets : (i : Instruction) (normal : BlockCall) (table : List (Entry BlockCall)) → kind_of i ≡ Tries normal table → targets i ≡ normal ∷ table_targets table
site_targets (TryCall t sig args a b) normal table h = ap₂ (λ x y. x ∷ table_targets y) (tries_first h) (tries_second h)
  where
    tries_first : {t t' : BlockCall} {u u' : List (Entry BlockCall)} → Tries t u ≡ Tries t' u' → t ≡ t'
    tries_first q = cc

    tries_second : {t t' : BlockCall} {u u' : List (Entry BlockCall)} → Tries t u ≡ Tries t' u' → u ≡ u'
    tries_second q = cc
site_targets (Plain p) normal table h = cc
site_targets (Branches c) normal table h = cc
site_targets SequencePoint normal table h = cc
site_targets (Return a) normal table h = cc
site_targets (Call a b) normal table h = cc
site_targets (ReturnCall a b) normal table h = cc

pub site_goes : (i : Instruction) (k : ℕ) → callee_of i ≡ Some k → kind_of i ≡ Within → Goes i
site_goes (Call a b) k c h = refl
site_goes (ReturnCall a b) k c h = cc
site_goes (TryCall a b d e u) k c h = cc
site_goes (Plain p) k c h = cc
site_goes (Branches p) k c h = cc
site_goes SequencePoint k c h = cc
site_goes (Return p) k c h = cc

-- a path to a later line came over the line before
pub record Came (f : Function) (b i : ℕ) : Type 0 where
  pub k : Block
  pub l : Line
  pub found : find_block b f.blocks ≡ Some k
  pub get : slice_get k.lines i ≡ Some l
  pub goes : Goes l.inst

pub came : {f : Function} {b j : ℕ} {defs : List ℕ} → Reach f b j defs → (i : ℕ) → j ≡ suc i → Came f b i
came (begin b bs q) i e = absurd (omega (arith, e))
came (next {b = b} {i = j} r k q l p goes) i e = let z : j ≡ i = omega (arith, e) in record { k = k; l = l; found = q; get = ap (slice_get k.lines) (sym z) ∙ p; goes = goes }
came (branch r k q l p t is k' q') i e = absurd (omega (arith, e))

module _ (m : Module) (S : Splicing) (names : Distinct S.naming) (site : CallSite S) (f_ok : Sound S.caller) (g_ok : Sound S.callee) where
  abbrev pub SpotF : ℕ → ℕ → ℕ → ℕ → Type 0
  SpotF x i b s = ((x ≡ S.naming.caller_block b) × (s ≡ i)) ⊎ ((x ≡ S.naming.after) × (b ≡ S.at) × (s ≡ suc (length S.before + i)))

  abbrev pub SpotG : ℕ → ℕ → ℕ → ℕ → Type 0
  SpotG x i c s = ((x ≡ S.naming.callee_block c) × (s ≡ i)) ⊎ ((j : ℕ) × (x ≡ S.naming.new_block c j) × (s ≡ suc j + i))

  pub f_same : (x i b s b2 s2 : ℕ) → SpotF x i b s → SpotF x i b2 s2 → (b ≡ b2) × (s ≡ s2)
  f_same x i b s b2 s2 (inl p) (inl q) = (names.caller_block b b2 (sym p.0 ∙ q.0), p.1 ∙ sym q.1)
  f_same x i b s b2 s2 (inl p) (inr q) = absurd (names.caller_after b (sym p.0 ∙ q.0))
  f_same x i b s b2 s2 (inr p) (inl q) = absurd (names.caller_after b2 (sym q.0 ∙ p.0))
  f_same x i b s b2 s2 (inr p) (inr q) = (p.1 ∙ sym q.1, p.2 ∙ sym q.2)

  pub g_same : (x i c s c2 s2 : ℕ) → SpotG x i c s → SpotG x i c2 s2 → (c ≡ c2) × (s ≡ s2)
  g_same x i c s c2 s2 (inl p) (inl q) = (names.callee_block c c2 (sym p.0 ∙ q.0), p.1 ∙ sym q.1)
  g_same x i c s c2 s2 (inl p) (inr q) = absurd (names.callee_new c c2 q.0 (sym p.0 ∙ q.1))
  g_same x i c s c2 s2 (inr p) (inl q) = absurd (names.callee_new c2 c p.0 (sym q.0 ∙ p.1))
  g_same x i c s c2 s2 (inr p) (inr q) = let e = names.new_block c p.0 c2 q.0 (sym p.1 ∙ q.1) in (e.0, p.2 ∙ ap (λ z. suc z + i) e.1 ∙ sym q.2)

  pub apart : (x i b s c s2 : ℕ) → SpotF x i b s → SpotG x i c s2 → ⊥
  apart x i b s c s2 (inl p) (inl q) = names.blocks b c (sym p.0 ∙ q.0)
  apart x i b s c s2 (inl p) (inr q) = names.caller_new b c q.0 (sym p.0 ∙ q.1)
  apart x i b s c s2 (inr p) (inl q) = names.callee_after c (sym q.0 ∙ p.0)
  apart x i b s c s2 (inr p) (inr q) = names.new_after c q.0 (sym q.1 ∙ p.0)

  pub f_next : (x i b s : ℕ) → SpotF x i b s → SpotF x (suc i) b (suc s)
  f_next x i b s (inl p) = inl (p.0, ap suc p.1)
  f_next x i b s (inr p) = let e : suc s ≡ suc (length S.before + suc i) = omega (arith, p.2) in inr (p.0, p.1, e)

  pub g_next : (x i c s : ℕ) → SpotG x i c s → SpotG x (suc i) c (suc s)
  g_next x i c s (inl p) = inl (p.0, ap suc p.1)
  g_next x i c s (inr p) = let q : s ≡ suc p.0 + i = p.2 in let e : suc s ≡ suc p.0 + suc i = omega (arith, q) in inr (p.0, p.1, e)

  -- where a line of the result comes from
  pub data LineFrom (x i : ℕ) (i' : Line) : Type 0 where
    pf : (b s : ℕ) → (k : Block) → (li : Line) → SpotF x i b s → find_block b S.caller.blocks ≡ Some k → slice_get k.lines s ≡ Some li → i' ≡ line_under (caller_names S) li → LineFrom x i i'
    pj : SpotF x i S.at (length S.before) → i' ≡ jump_in S → LineFrom x i i'
    pg : (c s : ℕ) → (k : Block) → (li : Line) → SpotG x i c s → find_block c S.callee.blocks ≡ Some k → slice_get k.lines s ≡ Some li → Trans S names (kind_of S.site.inst) c s li.inst li i' → LineFrom x i i'
    px : (c s : ℕ) → (k : Block) → (li : Line) → SpotG x i c (suc s) → find_block c S.callee.blocks ≡ Some k → slice_get k.lines s ≡ Some li → IsTail li.inst → kind_of S.site.inst ≡ Within → i' ≡ to_after S (new_results S c) → LineFrom x i i'

  pub record Known (x i : ℕ) (k' : Block) (i' : Line) : Type 0 where
    pub which : LineFrom x i i'
    pub ending : Ending i'.inst (slice_get k'.lines (suc i))

  -- an ending is seen through an equation of what stands next
  same_ending : (i : Instruction) (a b : Option Line) → a ≡ b → Ending i b → Ending i a
  same_ending i a b q h = subst (Ending i) (sym q) h

  -- the same of a line under new names, among lines under new names
  under_ending : (r : Renaming) (ls : List Line) (s : ℕ) (li i' : Line) → i' ≡ line_under r li → Ending li.inst (slice_get ls s) → Ending i'.inst (slice_get (map (line_under r) ls) s)
  under_ending r ls s li i' h e =
      record {
        goes = λ q. let u = e.goes (sym (ends_under r li.inst) ∙ ap (λ z. terminates z.inst) (sym h) ∙ q) in (line_under r u.0, get_mapped (line_under r) ls s u.0 u.1);
        stops = λ q. none_map (line_under r) ls s (e.stops (sym (ends_under r li.inst) ∙ ap (λ z. terminates z.inst) (sym h) ∙ q));
      }

  of_piece : (x i : ℕ) (k' : Block) (i' : Line) (c t : ℕ) (k : Block) (rest : List Line) → find_block c S.callee.blocks ≡ Some k → From k.lines t rest → SpotG x i c (t + i) → k'.lines ≡ (fragment S c t rest).lines → slice_get k'.lines i ≡ Some i' → Known x i k' i'
  of_piece x i k' i' c t k rest found from spot lines get =
      let o = piece_line S names c t rest ends i i' (ap (λ ls. slice_get ls i) (sym lines) ∙ get) in
      record {
        which = elim o.which [
          | inl h ↦ pg c (t + i) k h.line spot found (from_line k.lines t rest i h.line from h.get) h.trans
          | inr h ↦
              let e : t + i ≡ suc (t + h.j) = let z = h.next in omega (arith, z) in
              px c (t + h.j) k h.line (subst (SpotG x i c) e spot) found (from_line k.lines t rest h.j h.line from h.get) h.tails h.within h.is
        ];
        ending = same_ending i'.inst (slice_get k'.lines (suc i)) (slice_get (fragment S c t rest).lines (suc i)) (ap (λ ls. slice_get ls (suc i)) lines) o.ending;
      }
    where
      ends : EndsWell rest
      ends j li q =
          let e = g_ok.ends c k (t + j) li found (from_line k.lines t rest j li from q) in
          let z : suc (t + j) ≡ t + suc j = omega arith in
          same_ending li.inst (slice_get rest (suc j)) (slice_get k.lines (suc (t + j))) (sym (from_is k.lines t rest (suc j) from) ∙ ap (slice_get k.lines) (sym z)) e

  pub known : (x : ℕ) (k' : Block) → find_block x (spliced S).blocks ≡ Some k' → (i : ℕ) (i' : Line) → slice_get k'.lines i ≡ Some i' → Known x i k' i'
  known x k' found i i' get = by (block_of S names S.caller.blocks site.block site.block_found g_ok.numbers x k' found)
    where
      by : BlockOf S names site.block S.caller.blocks x k' → Known x i k' i'
      by (of_f b k name q off is) =
          let a = map_get (line_under (caller_names S)) k.lines i i' (ap (λ z. slice_get z.lines i) (sym is) ∙ get) in
          record {
            which = pf b i k a.0 (inl (name, refl)) q a.1 a.2;
            ending = same_ending i'.inst (slice_get k'.lines (suc i)) (slice_get (map (line_under (caller_names S)) k.lines) (suc i)) (ap (λ z. slice_get z.lines (suc i)) is) (under_ending (caller_names S) k.lines (suc i) a.0 i' a.2 (f_ok.ends b k i a.0 q a.1));
          }
      by (of_cut name is) = cut_line (cut_get (line_under (caller_names S)) S.before (S.site ∷ S.behind) (jump_in S) i i' (ap (λ z. slice_get z.lines i) (sym is) ∙ get))
        where
          cut_line : Cut_get (line_under (caller_names S)) S.before (S.site ∷ S.behind) (jump_in S) i i' → Known x i k' i'
          cut_line (before a got same below c there) =
              let got' : slice_get site.block.lines i ≡ Some a = ap (λ ls. slice_get ls i) site.lines ∙ got in
              record {
                which = pf S.at i site.block a (inl (name, refl)) site.block_found got' same;
                ending = record {
                  goes = λ r. (c, ap (λ z. slice_get z.lines (suc i)) is ∙ there);
                  stops = λ r.
                      let e = (f_ok.ends S.at site.block i a site.block_found got').stops (sym (ends_under (caller_names S) a.inst) ∙ ap (λ z. terminates z.inst) (sym same) ∙ r) in
                      let u = get_before S.before S.site S.behind i below in
                      let v : Some u.0 ≡ None = sym u.1 ∙ ap (λ ls. slice_get ls (suc i)) (sym site.lines) ∙ e in cc;
                };
              }
          cut_line (last e same none) =
              record {
                which = pj (inl (name, sym e)) same;
                ending = record { goes = λ r. let z : true ≡ false = ap (λ y. terminates y.inst) (sym same) ∙ r in cc; stops = λ r. ap (λ z. slice_get z.lines (suc i)) is ∙ none };
              }
      by (of_after within name is) =
          let a = map_get (line_under (caller_names S)) S.behind i i' (ap (λ z. slice_get z.lines i) (sym is) ∙ get) in
          let got : slice_get site.block.lines (suc (length S.before + i)) ≡ Some a.0 = ap (λ ls. slice_get ls (suc (length S.before + i))) site.lines ∙ get_after S.before S.site S.behind i ∙ a.1 in
          let e = f_ok.ends S.at site.block (suc (length S.before + i)) a.0 site.block_found got in
          let z : suc (suc (length S.before + i)) ≡ suc (length S.before + suc i) = omega arith in
          let step_on : slice_get site.block.lines (suc (suc (length S.before + i))) ≡ slice_get S.behind (suc i) = ap (slice_get site.block.lines) z ∙ ap (λ ls. slice_get ls (suc (length S.before + suc i))) site.lines ∙ get_after S.before S.site S.behind (suc i) in
          record {
            which = pf S.at (suc (length S.before + i)) site.block a.0 (inr (name, refl, refl)) site.block_found got a.2;
            ending = same_ending i'.inst (slice_get k'.lines (suc i)) (slice_get (map (line_under (caller_names S)) S.behind) (suc i)) (ap (λ z. slice_get z.lines (suc i)) is) (under_ending (caller_names S) S.behind (suc i) a.0 i' a.2 (same_ending a.0.inst (slice_get S.behind (suc i)) (slice_get site.block.lines (suc (suc (length S.before + i)))) (sym step_on) e));
          }
      by (of_g o) = g_line_of o o.which
        where
          g_line_of : (o : GBlock S names S.callee.blocks x k') → ((x ≡ S.naming.callee_block o.c) × (k'.params ≡ map S.naming.callee_value o.k.params) × (k'.lines ≡ (fragment S o.c 0 o.k.lines).lines)) ⊎ NewOf S names o.c o.k.lines 0 x k' → Known x i k' i'
          g_line_of o (inl u) = of_piece x i k' i' o.c 0 o.k o.k.lines o.found refl (let e : 0 + i ≡ i = omega arith in inl (u.0, e)) u.2 get
          g_line_of o (inr w) =
              let e : 0 + w.j ≡ w.j = omega arith in
              of_piece x i k' i' o.c (suc w.j) o.k w.rest o.found w.from (inr (w.j, w.name ∙ ap (S.naming.new_block o.c) e, refl)) (w.lines ∙ ap (λ z. (fragment S o.c (suc z) w.rest).lines) e) get

  pub site_get : slice_get site.block.lines (length S.before) ≡ Some S.site
  site_get = ap (λ ls. slice_get ls (length S.before)) site.lines ∙ get_site S.before S.site S.behind

  pub ef : Embeds S.caller (spliced S) (caller_names S) (RestF S)
  ef = embeds_f S names (standing S site)

  pub eg : Embeds S.callee (spliced S) (callee_names S) (RestG S (kind_of S.site.inst))
  eg = embeds_g S names (standing S site)

  -- where a target of a line of g's part leads
  pub data GTarget (c s : ℕ) (li : Line) (b : ℕ) : Type 0 where
    into_g : (u : BlockCall) → In u (targets li.inst) → b ≡ S.naming.callee_block u.block → GTarget c s li b
    into_f : (u : BlockCall) → In u (targets S.site.inst) → b ≡ S.naming.caller_block u.block → GTarget c s li b
    into_after : kind_of S.site.inst ≡ Within → b ≡ S.naming.after → GTarget c s li b
    into_rest : Goes li.inst → b ≡ S.naming.new_block c s → GTarget c s li b

  module _ (c s : ℕ) (li i' : Line) (t' : BlockCall) where
    plain_to : i' ≡ callee_line S li → In t' (targets i'.inst) → GTarget c s li t'.block
    plain_to h is = let u = target_from (callee_names S) li.inst t' (subst (λ y. In t' (targets y.inst)) h is) in into_g u.0 u.1 (ap (λ z. z.block) u.2)

    site_to : (normal : BlockCall) (table : List (Entry BlockCall)) → kind_of S.site.inst ≡ Tries normal table → In t' (map (target_under (caller_names S)) (normal ∷ table_targets table)) → GTarget c s li t'.block
    site_to normal table kind is =
        let u = map_in (target_under (caller_names S)) t' (normal ∷ table_targets table) is in
        into_f u.0 (subst (In u.0) (sym (site_targets S.site.inst normal table kind)) u.1) (ap (λ z. z.block) u.2)

    table_to : (normal : BlockCall) (table : List (Entry BlockCall)) → kind_of S.site.inst ≡ Tries normal table → In t' (table_targets (map (entry_under (caller_names S)) table)) → GTarget c s li t'.block
    table_to normal table kind is = site_to normal table kind (inr (subst (In t') (table_under (caller_names S) table) is))

    within_to : kind_of S.site.inst ≡ Within → (inst : Instruction) → li.inst ≡ inst → Trans S names Within c s inst li i' → In t' (targets i'.inst) → GTarget c s li t'.block
    within_to kind (Return vs) q h is = elim (subst (λ y. In t' (targets y.inst)) h is) [ inl p ↦ into_after kind (ap (λ z. z.block) p) | inr p ↦ elim p [ ] ]
    within_to kind (ReturnCall j args) q h is = elim (subst (λ y. In t' (targets y.inst)) h is) [ ]
    within_to kind (Plain a) q h is = plain_to h is
    within_to kind (Branches a) q h is = plain_to h is
    within_to kind SequencePoint q h is = plain_to h is
    within_to kind (Call a b) q h is = plain_to h is
    within_to kind (TryCall a b x y z) q h is = plain_to h is

    tries_to : (normal : BlockCall) (table : List (Entry BlockCall)) → kind_of S.site.inst ≡ Tries normal table → (inst : Instruction) → li.inst ≡ inst → Trans S names (Tries normal table) c s inst li i' → In t' (targets i'.inst) → GTarget c s li t'.block
    tries_to normal table kind (Return vs) q h is =
        elim (subst (λ y. In t' (targets y.inst)) h is) [ inl p ↦ into_f normal (subst (In normal) (sym (site_targets S.site.inst normal table kind)) (inl refl)) (ap (λ z. z.block) p) | inr p ↦ elim p [ ] ]
    tries_to normal table kind (ReturnCall j args) q h is =
        elim (subst (λ y. In t' (targets y.inst)) h is) [ inl p ↦ site_to normal table kind (inl p) | inr p ↦ table_to normal table kind p ]
    tries_to normal table kind (Call j args) q h is =
        elim (subst (λ y. In t' (targets y.inst)) h is) [ inl p ↦ into_rest (ap terminates q) (ap (λ z. z.block) p) | inr p ↦ table_to normal table kind p ]
    tries_to normal table kind (TryCall j sig args own inner) q h is =
        elim (subst (λ y. In t' (targets y.inst)) h is) [
          | inl p ↦ into_g own (subst (λ y. In own (targets y)) (sym q) (inl refl)) (ap (λ z. z.block) p)
          | inr p ↦
              elim (in_cases t' (table_targets (map (entry_under (callee_names S)) inner)) (table_targets (map (entry_under (caller_names S)) table)) (subst (In t') (table_append (map (entry_under (callee_names S)) inner) (map (entry_under (caller_names S)) table)) p)) [
                | inl a ↦ let v = map_in (target_under (callee_names S)) t' (table_targets inner) (subst (In t') (table_under (callee_names S) inner) a) in into_g v.0 (subst (λ y. In v.0 (targets y)) (sym q) (inr v.1)) (ap (λ z. z.block) v.2)
                | inr a ↦ table_to normal table kind a
              ]
        ]
    tries_to normal table kind (Plain a) q h is = plain_to h is
    tries_to normal table kind (Branches a) q h is = plain_to h is
    tries_to normal table kind SequencePoint q h is = plain_to h is

    pub g_target : (kd : Kind) → kind_of S.site.inst ≡ kd → Trans S names kd c s li.inst li i' → In t' (targets i'.inst) → GTarget c s li t'.block
    g_target Within kind h is = within_to kind li.inst refl h is
    g_target Last kind h is = plain_to h is
    g_target (Tries normal table) kind h is = tries_to normal table kind li.inst refl h is
