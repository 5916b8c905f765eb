-- The pass is a chain of splices.
use Rattle.std.proofs.Common.{◌≡◌, ℕ, suc, inl, inr, List, [], ◌∷◌, take, drop, Option, Some, None, Bool, true, false, ◌||◌, ◌&&◌, refl, sym, ap, ◌∙◌, subst, arith}
use Rattle.std.specs.Prelude.{not, slice_get, if◌then◌else◌}
use Rattle.ir_core.specs.declared.names.FuncName.{FuncName}
use Rattle.ir_core.specs.declared.declarations.Callee.{Callee}
use Rattle.ir_core.specs.Module.{Line, Block, Function, Module}
use Rattle.ir_core.specs.Lookup.{and_then, same_name, find_block, find_function}
use Rattle.ir_semantics.specs.Splice.{Splicing, spliced, sides, splice_with, replace}
use Rattle.ir_semantics.specs.Site.{Site}
use Rattle.ir_core.specs.Uses.{callee_of}
use Rattle.ir_core.specs.WellFormed.{IsModule}
use Rattle.ir_semantics.specs.Accepted.{Accepted}
use Rattle.ir_semantics.specs.Same.{Same}
use Rattle.ir_semantics.specs.NeverStuck.{NeverStuck}
use Rattle.ir_semantics.proofs.SafetyTypes.{then_some}
use Rattle.call_graph.specs.Reach.{reaches, one_piece, apart}
use Rattle.inline_outcomes.specs.Laws.{RunsKept}
use Rattle.ir_core.proofs.Equal.{equal_name, cases_name}
use Rattle.inline_outcomes.proofs.Functions.{function_hit, function_skip, function_name, replaced, others_stay}
use Rattle.inline_outcomes.proofs.Linking.{distinct_sides, splice_runs}
use Rattle.inline_outcomes.proofs.Numbering.{runs_kept, kept_on}
use Rattle.inline_outcomes.proofs.Keeping.{same_of}
use Rattle.inline_pass.specs.Policy.{Policy, takes}
use Rattle.inline_pass.specs.Sites.{Point, own_sites, point_behind, called}
use Rattle.inline_pass.specs.Finished.{inline_by, body_of}
use Rattle.inline_pass.specs.Pass.{finish, pass_by, pass}
use Rattle.ir_core.proofs.Cutting.{cut_list}
use Rattle.ir_core.proofs.Gets.{some_same}

-- the point of a call
pub record Found (b : Function) (at i : ℕ) (x : FuncName) : Type 0 where
  pub block : Block
  pub line : Line
  pub index : ℕ
  pub callee : Callee
  pub found : find_block at b.blocks ≡ Some block
  pub get : slice_get block.lines i ≡ Some line
  pub is : callee_of line.inst ≡ Some index
  pub has : slice_get b.callees index ≡ Some callee
  pub name : callee.name ≡ x

pub found : (b : Function) (at i : ℕ) (x : FuncName) → called b at i ≡ Some x → Found b at i x
found b at i x h =
    let p = then_some (find_block at b.blocks) (λ k. and_then (slice_get k.lines i) (λ l. and_then (callee_of l.inst) (λ j. and_then (slice_get b.callees j) (λ c. Some c.name)))) x h in
    let q = then_some (slice_get p.0.lines i) (λ l. and_then (callee_of l.inst) (λ j. and_then (slice_get b.callees j) (λ c. Some c.name))) x p.2 in
    let r = then_some (callee_of q.0.inst) (λ j. and_then (slice_get b.callees j) (λ c. Some c.name)) x q.2 in
    let s = then_some (slice_get b.callees r.0) (λ c. Some c.name) x r.2 in
    record { block = p.0; line = q.0; index = r.0; callee = s.0; found = p.1; get = q.1; is = r.1; has = s.1; name = some_same {x = s.0.name} s.2 }

-- the splice there
abbrev pub at_place : (b g : Function) (at i : ℕ) (x : FuncName) → Found b at i x → Splicing
at_place b g at i x h = record { naming = sides; caller = b; callee = g; at = at; before = take i h.block.lines; site = h.line; behind = drop (suc i) h.block.lines }

pub site_of : (c : Module) (b g : Function) (at i : ℕ) (x : FuncName) → find_function b.name c ≡ Some b → find_function x c ≡ Some g → (h : Found b at i x) → Site c (at_place b g at i x h)
site_of c b g at i x there gone h =
    record {
      block = h.block;
      block_found = h.found;
      lines = cut_list h.block.lines i h.line h.get;
      caller_found = there;
      callee = h.index;
      is_call = h.is;
      declared = h.callee;
      declared_found = h.has;
      callee_found = ap (λ z. find_function z c) h.name ∙ gone;
    }

pub splice_is : (b g : Function) (at i : ℕ) (x : FuncName) (h : Found b at i x) → splice_with sides b at i g ≡ spliced (at_place b g at i x h)
splice_is b g at i x h =
    ap (λ o. elim o as (λ z. Function) [ None ↦ b | Some k ↦ elim (slice_get k.lines i) as (λ z. Function) [ None ↦ b | Some l ↦ spliced (record { naming = sides; caller = b; callee = g; at = at; before = take i k.lines; site = l; behind = drop (suc i) k.lines }) ] ]) h.found ∙ ap (λ o. elim o as (λ z. Function) [ None ↦ b | Some l ↦ spliced (record { naming = sides; caller = b; callee = g; at = at; before = take i h.block.lines; site = l; behind = drop (suc i) h.block.lines }) ]) h.get

-- a splice keeps runs
splice_kept : (c : Module) (b g : Function) (at i : ℕ) (x : FuncName) → find_function b.name c ≡ Some b → find_function x c ≡ Some g → (h : Found b at i x) → RunsKept c (replace (splice_with sides b at i g) c)
splice_kept c b g at i x there gone h =
    subst (λ z. RunsKept c (replace z c)) (sym (splice_is b g at i x h)) (runs_kept c (replace (spliced (at_place b g at i x h)) c) (splice_runs c (at_place b g at i x h) distinct_sides (site_of c b g at i x there gone h)))

pub spliced_name : (b g : Function) (at i : ℕ) (x : FuncName) → Found b at i x → (splice_with sides b at i g).name ≡ b.name
spliced_name b g at i x h = ap (λ z. z.name) (splice_is b g at i x h)

-- replacing twice, and by itself

pub replace_hit : (b j : Function) (js : Module) → j.name ≡ b.name → replace b (j ∷ js) ≡ b ∷ js
replace_hit b j js q = ap (λ c. if c then b ∷ js else j ∷ replace b js) (equal_name j.name b.name q)

pub replace_skip : (b j : Function) (js : Module) → same_name j.name b.name ≡ false → replace b (j ∷ js) ≡ j ∷ replace b js
replace_skip b j js q = ap (λ c. if c then b ∷ js else j ∷ replace b js) q

pub replace_twice : (a b : Function) (m : Module) → a.name ≡ b.name → replace b (replace a m) ≡ replace b m
replace_twice a b [] h = refl
replace_twice a b (k ∷ m) h =
    elim (cases_name k.name a.name) [
      | inl q ↦ ap (replace b) (replace_hit a k m q) ∙ replace_hit b a m h ∙ sym (replace_hit b k m (q ∙ h))
      | inr q ↦ ap (replace b) (replace_skip a k m q) ∙ replace_skip b k (replace a m) (ap (same_name k.name) (sym h) ∙ q) ∙ ap (λ z. k ∷ z) (replace_twice a b m h) ∙ sym (replace_skip b k m (ap (same_name k.name) (sym h) ∙ q))
    ]

pub replace_self : (f : Function) (m : Module) → find_function f.name m ≡ Some f → replace f m ≡ m
replace_self f [] h = refl
replace_self f (k ∷ m) h =
    elim (cases_name k.name f.name) [
      | inl q ↦ replace_hit f k m q ∙ ap (λ z. z ∷ m) (some_same (sym h ∙ function_hit f.name k m q))
      | inr q ↦ replace_skip f k m q ∙ ap (λ z. k ∷ z) (replace_self f m (sym (function_skip f.name k m q) ∙ h))
    ]

-- no function is apart from itself
pub apart_self : (m : Module) (x y : FuncName) → apart m x y ≡ true → x ≡ y → ⊥
apart_self m x y h q =
    let e : one_piece m x y ≡ true = ap (λ z. z || (reaches m x y && reaches m y x)) (equal_name x y q) in
    let e2 : false ≡ true = sym (ap not e) ∙ h in
    cc

module _ (p : Policy) (pieces m0 m : Module) (x0 : FuncName) where
  -- a body in another piece
  record Other (y : FuncName) (g : Function) : Type 0 where
    different : y ≡ x0 → ⊥
    there : find_function y m ≡ Some g

  other : (y : FuncName) (g : Function) (c : Bool) → apart pieces x0 y ≡ c → (if c then find_function y m else None) ≡ Some g → Other y g
  other y g true q h = record { different = λ e. apart_self pieces x0 y q (sym e); there = h }
  other y g false q h = cc

  inlined_kept : (now : Point → Point) (ss : List Point) (b : Function) → b.name ≡ x0 → (f : Function) → find_function b.name m ≡ Some f → RunsKept m0 (replace b m) → RunsKept m0 (replace (inline_by (body_of pieces m x0) p now ss b) m)
  inlined_kept now [] b hn f h ch = ch
  inlined_kept now (s ∷ ss) b hn f h ch =
      by (and_then (called b (now s).0 (now s).1) (body_of pieces m x0)) refl (inlined_kept now ss b hn f h ch) (λ b'. inlined_kept (λ q. point_behind (now s).0 (now s).1 (now q)) ss b')
    where
      by : (o : Option Function) → and_then (called b (now s).0 (now s).1) (body_of pieces m x0) ≡ o → RunsKept m0 (replace (inline_by (body_of pieces m x0) p now ss b) m) → ((b' : Function) → b'.name ≡ x0 → (f : Function) → find_function b'.name m ≡ Some f → RunsKept m0 (replace b' m) → RunsKept m0 (replace (inline_by (body_of pieces m x0) p (λ q. point_behind (now s).0 (now s).1 (now q)) ss b') m)) → RunsKept m0 (replace (elim o [ None ↦ inline_by (body_of pieces m x0) p now ss b | Some g ↦ if takes p g (splice_with sides b (now s).0 (now s).1 g) then inline_by (body_of pieces m x0) p (λ q. point_behind (now s).0 (now s).1 (now q)) ss (splice_with sides b (now s).0 (now s).1 g) else inline_by (body_of pieces m x0) p now ss b ]) m)
      by None q stay go = stay
      by (Some g) q stay go = choose (takes p g (splice_with sides b (now s).0 (now s).1 g))
        where
          with_body : RunsKept m0 (replace (inline_by (body_of pieces m x0) p (λ r. point_behind (now s).0 (now s).1 (now r)) ss (splice_with sides b (now s).0 (now s).1 g)) m)
          with_body =
              let u = then_some (called b (now s).0 (now s).1) (body_of pieces m x0) g q in
              let o = other u.0 g (apart pieces x0 u.0) refl u.2 in
              let d = found b (now s).0 (now s).1 u.0 u.1 in
              let b' = splice_with sides b (now s).0 (now s).1 g in
              let named : b'.name ≡ b.name = spliced_name b g (now s).0 (now s).1 u.0 d in
              let kept : RunsKept (replace b m) (replace b' (replace b m)) = splice_kept (replace b m) b g (now s).0 (now s).1 u.0 (replaced b m f h) (others_stay b m u.0 (λ e. o.different (e ∙ hn)) ∙ o.there) d in
              let kept' : RunsKept (replace b m) (replace b' m) = subst (RunsKept (replace b m)) (replace_twice b b' m (sym named)) kept in
              go b' (named ∙ hn) f (ap (λ z. find_function z m) named ∙ h) (kept_on m0 (replace b m) (replace b' m) ch kept')

          choose : (c : Bool) → RunsKept m0 (replace (if c then inline_by (body_of pieces m x0) p (λ r. point_behind (now s).0 (now s).1 (now r)) ss (splice_with sides b (now s).0 (now s).1 g) else inline_by (body_of pieces m x0) p now ss b) m)
          choose true = with_body
          choose false = stay

pass_kept : (p : Policy) (pieces m0 : Module) (order : List FuncName) (m : Module) → RunsKept m0 m → RunsKept m0 (pass_by p pieces order m)
pass_kept p pieces m0 [] m ch = ch
pass_kept p pieces m0 (x ∷ xs) m ch = by (find_function x m) refl (λ c. pass_kept p pieces m0 xs c)
  where
    by : (o : Option Function) → find_function x m ≡ o → ((c : Module) → RunsKept m0 c → RunsKept m0 (pass_by p pieces xs c)) → RunsKept m0 (elim o [ None ↦ pass_by p pieces xs m | Some f ↦ pass_by p pieces xs (replace (finish p pieces m f) m) ])
    by None q next = next m ch
    by (Some f) q next =
        let here : find_function f.name m ≡ Some f = ap (λ z. find_function z m) (function_name x m f q) ∙ q in
        next (replace (finish p pieces m f) m) (inlined_kept p pieces m0 m f.name (λ r. r) (own_sites f.blocks) f refl f here (subst (RunsKept m0) (sym (replace_self f m here)) ch))

pub pass_keeps_runs : (p : Policy) (order : List FuncName) (m : Module) → RunsKept m (pass p order m)
pass_keeps_runs p order m = pass_kept p m m order m (λ entry args w safe written. ((λ n. (n, omega arith, refl)), (λ k. (k, omega arith, refl))))

pub pass_keeps : NeverStuck → (p : Policy) (order : List FuncName) (m : Module) → IsModule m → Accepted m → Same m (pass p order m)
pass_keeps never p order m whole accepted = same_of never m (pass p order m) whole accepted (pass_keeps_runs p order m)
