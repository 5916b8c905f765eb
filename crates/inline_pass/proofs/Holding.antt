-- What every splice that the policy takes keeps is kept by the pass, and by finished bodies: acceptance is, and that the
-- module can be written.
use Rattle.std.proofs.Common.{◌≡◌, ◌≤◌, ℕ, List, [], ◌∷◌, Option, Some, None, Bool, true, false, refl, sym, ap, ◌∙◌, subst, arith}
use Rattle.std.specs.Prelude.{if◌then◌else◌, nat_le}
use Rattle.std.proofs.lemmas.Bool.{leb-true, and_parts}
use Rattle.ir_core.specs.declared.names.FuncName.{FuncName}
use Rattle.ir_core.specs.Module.{Function, Module}
use Rattle.ir_core.specs.Lookup.{and_then, find_function}
use Rattle.ir_semantics.specs.Splice.{sides, spliced, splice_with, replace}
use Rattle.ir_core.specs.Size.{size_of}
use Rattle.ir_core.specs.WellFormed.{IsModule}
use Rattle.ir_semantics.specs.Accepted.{Accepted}
use Rattle.ir_semantics.proofs.SafetyTypes.{then_some}
use Rattle.inline_acceptance.specs.Laws.{SpliceAccepted, SpliceWritable}
use Rattle.ir_text.specs.Writable.{Writable}
use Rattle.call_graph.specs.Reach.{apart}
use Rattle.call_graph.specs.Order.{bottom_up}
use Rattle.inline_outcomes.proofs.Functions.{function_name, replaced, others_stay}
use Rattle.inline_pass.specs.Policy.{Policy, takes}
use Rattle.inline_pass.specs.Sites.{Point, own_sites, point_behind, called}
use Rattle.inline_pass.specs.Finished.{inline_by, body_of, passed}
use Rattle.inline_pass.specs.Pass.{finish, pass_by, pass}
use Rattle.inline_pass.proofs.Passing.{Found, found, at_place, site_of, splice_is, spliced_name, replace_twice, replace_self, apart_self}
use Rattle.inline_pass.proofs.InOrder.{order_in_use}

module _ (p : Policy) (P : Module → Type 0) (step : (c : Module) (b g : Function) (at i : ℕ) (x : FuncName) → find_function b.name c ≡ Some b → find_function x c ≡ Some g → (h : Found b at i x) → takes p g (splice_with sides b at i g) ≡ true → P c → P (replace (splice_with sides b at i g) c)) where
  other_body : (pieces m : Module) (x y : FuncName) (g : Function) (c : Bool) → apart pieces x y ≡ c → (if c then find_function y m else None) ≡ Some g → (y ≡ x → ⊥) × (find_function y m ≡ Some g)
  other_body pieces m x y g true q h = ((λ e. apart_self pieces x y q (sym e)), h)
  other_body pieces m x y g false q h = cc

  inlined_holds : (pieces m : Module) (x0 : FuncName) (now : Point → Point) (ss : List Point) (b : Function) → b.name ≡ x0 → (f : Function) → find_function b.name m ≡ Some f → P (replace b m) → P (replace (inline_by (body_of pieces m x0) p now ss b) m)
  inlined_holds pieces m x0 now [] b hn f h holds = holds
  inlined_holds pieces m x0 now (s ∷ ss) b hn f h holds =
      by (and_then (called b (now s).0 (now s).1) (body_of pieces m x0)) refl (inlined_holds pieces m x0 now ss b hn f h holds) (λ b'. inlined_holds pieces m x0 (λ q. point_behind (now s).0 (now s).1 (now q)) ss b')
    where
      by : (o : Option Function) → and_then (called b (now s).0 (now s).1) (body_of pieces m x0) ≡ o → P (replace (inline_by (body_of pieces m x0) p now ss b) m) → ((b' : Function) → b'.name ≡ x0 → (f : Function) → find_function b'.name m ≡ Some f → P (replace b' m) → P (replace (inline_by (body_of pieces m x0) p (λ q. point_behind (now s).0 (now s).1 (now q)) ss b') m)) → P (replace (elim o [ None ↦ inline_by (body_of pieces m x0) p now ss b | Some g ↦ if takes p g (splice_with sides b (now s).0 (now s).1 g) then inline_by (body_of pieces m x0) p (λ q. point_behind (now s).0 (now s).1 (now q)) ss (splice_with sides b (now s).0 (now s).1 g) else inline_by (body_of pieces m x0) p now ss b ]) m)
      by None q stay go = stay
      by (Some g) q stay go = choose (takes p g (splice_with sides b (now s).0 (now s).1 g)) refl
        where
          with_body : takes p g (splice_with sides b (now s).0 (now s).1 g) ≡ true → P (replace (inline_by (body_of pieces m x0) p (λ r. point_behind (now s).0 (now s).1 (now r)) ss (splice_with sides b (now s).0 (now s).1 g)) m)
          with_body taken =
              let u = then_some (called b (now s).0 (now s).1) (body_of pieces m x0) g q in
              let o = other_body pieces m x0 u.0 g (apart pieces x0 u.0) refl u.2 in
              let d = found b (now s).0 (now s).1 u.0 u.1 in
              let b' = splice_with sides b (now s).0 (now s).1 g in
              let named : b'.name ≡ b.name = spliced_name b g (now s).0 (now s).1 u.0 d in
              let kept : P (replace b' (replace b m)) = step (replace b m) b g (now s).0 (now s).1 u.0 (replaced b m f h) (others_stay b m u.0 (λ e. o.0 (e ∙ hn)) ∙ o.1) d taken holds in
              go b' (named ∙ hn) f (ap (λ z. find_function z m) named ∙ h) (subst P (replace_twice b b' m (sym named)) kept)

          choose : (c : Bool) → takes p g (splice_with sides b (now s).0 (now s).1 g) ≡ c → P (replace (if c then inline_by (body_of pieces m x0) p (λ r. point_behind (now s).0 (now s).1 (now r)) ss (splice_with sides b (now s).0 (now s).1 g) else inline_by (body_of pieces m x0) p now ss b) m)
          choose true e = with_body e
          choose false e = stay

  pub pass_holds : (pieces : Module) (order : List FuncName) (m : Module) → P m → P (pass_by p pieces order m)
  pass_holds pieces [] m holds = holds
  pass_holds pieces (x ∷ xs) m holds = by (find_function x m) refl (λ c. pass_holds pieces xs c)
    where
      by : (o : Option Function) → find_function x m ≡ o → ((c : Module) → P c → P (pass_by p pieces xs c)) → P (elim o [ None ↦ pass_by p pieces xs m | Some f ↦ pass_by p pieces xs (replace (finish p pieces m f) m) ])
      by None q next = next m holds
      by (Some f) q next =
          let here : find_function f.name m ≡ Some f = ap (λ z. find_function z m) (function_name x m f q) ∙ q in
          next (replace (finish p pieces m f) m) (inlined_holds pieces m f.name (λ r. r) (own_sites f.blocks) f refl f here (subst P (sym (replace_self f m here)) holds))

-- ---- acceptance

abbrev pub AcceptedModule : Module → Type 0
AcceptedModule m = IsModule m × Accepted m

abbrev pub WrittenModule : Module → Type 0
WrittenModule m = IsModule m × Accepted m × Writable m

accepted_step : SpliceAccepted → (p : Policy) (c : Module) (b g : Function) (at i : ℕ) (x : FuncName) → find_function b.name c ≡ Some b → find_function x c ≡ Some g → (h : Found b at i x) → takes p g (splice_with sides b at i g) ≡ true → AcceptedModule c → AcceptedModule (replace (splice_with sides b at i g) c)
accepted_step law p c b g at i x there gone h taken a = subst (λ z. AcceptedModule (replace z c)) (sym (splice_is b g at i x h)) (law c a.0 a.1 (at_place b g at i x h) refl (site_of c b g at i x there gone h))

size_taken : (p : Policy) (g r : Function) → takes p g r ≡ true → size_of r ≤ p.caller_size
size_taken p g r h = leb-true (size_of r) p.caller_size (and_parts (nat_le (size_of g) p.callee_size) (nat_le (size_of r) p.caller_size) h).1

-- the pass of an accepted module is accepted, once a splice is
pub pass_accepted : SpliceAccepted → (p : Policy) (order : List FuncName) (m : Module) → IsModule m → Accepted m → AcceptedModule (pass p order m)
pass_accepted law p order m is ok = pass_holds p AcceptedModule (accepted_step law p) m order m (is, ok)

-- so are the finished bodies
pub finished_accepted : SpliceAccepted → (p : Policy) (m : Module) → IsModule m → Accepted m → AcceptedModule (passed p m)
finished_accepted law p m is ok = subst AcceptedModule (order_in_use p m is) (pass_accepted law p (bottom_up m) m is ok)

-- ---- a module that can be written, under a policy of the sizes that can

written_step : SpliceAccepted → SpliceWritable → (p : Policy) → p.caller_size ≤ 262144 → (c : Module) (b g : Function) (at i : ℕ) (x : FuncName) → find_function b.name c ≡ Some b → find_function x c ≡ Some g → (h : Found b at i x) → takes p g (splice_with sides b at i g) ≡ true → WrittenModule c → WrittenModule (replace (splice_with sides b at i g) c)
written_step law writes p small c b g at i x there gone h taken a =
    let site = site_of c b g at i x there gone h in
    let size : size_of (spliced (at_place b g at i x h)) ≤ p.caller_size = subst (λ z. size_of z ≤ p.caller_size) (splice_is b g at i x h) (size_taken p g (splice_with sides b at i g) taken) in
    let ok = law c a.0 a.1 (at_place b g at i x h) refl site in
    let can = writes c a.0 a.1 a.2 (at_place b g at i x h) refl site (omega (arith, size, small)) in
    subst (λ z. WrittenModule (replace z c)) (sym (splice_is b g at i x h)) (ok.0, ok.1, can)

pub pass_writable : SpliceAccepted → SpliceWritable → (p : Policy) → p.caller_size ≤ 262144 → (order : List FuncName) (m : Module) → IsModule m → Accepted m → Writable m → Writable (pass p order m)
pass_writable law writes p small order m is ok can = (pass_holds p WrittenModule (written_step law writes p small) m order m (is, ok, can)).2

pub finished_writable : SpliceAccepted → SpliceWritable → (p : Policy) → p.caller_size ≤ 262144 → (m : Module) → IsModule m → Accepted m → Writable m → Writable (passed p m)
finished_writable law writes p small m is ok can = subst Writable (order_in_use p m is) (pass_writable law writes p small (bottom_up m) m is ok can)
