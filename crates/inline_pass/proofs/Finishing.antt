-- Finished bodies satisfy their equation: only the bodies of what a function calls count, and a callee in another piece
-- reaches less.
use Rattle.std.proofs.Common.{◌≡◌, ℕ, zero, suc, ◌<◌, inl, inr, List, [], ◌∷◌, length, Option, Some, None, Bool, true, false, refl, sym, ap, ◌∙◌, subst, arith}
use Rattle.std.specs.Prelude.{slice_get, if◌then◌else◌}
use Rattle.std.proofs.lemmas.Bool.{cases_eq}
use Rattle.ir_core.specs.declared.names.FuncName.{FuncName}
use Rattle.ir_core.specs.declared.declarations.Callee.{Callee}
use Rattle.ir_core.specs.Module.{CallTarget, Direct, Indirect, call_target, Instruction, Plain, Branches, SequencePoint, Return, Call, ReturnCall, TryCall, Line, Block, Function, Module}
use Rattle.ir_core.specs.Lookup.{and_then, find_block, find_function}
use Rattle.ir_core.specs.Lists.{In, Each}
use Rattle.ir_semantics.specs.Splice.{sides, splice_with}
use Rattle.ir_semantics.proofs.SafetyTypes.{then_some}
use Rattle.ir_core.specs.Uses.{named_callee, callee_of}
use Rattle.ir_core.specs.Uses.{called_callees, callees_used}
use Rattle.ir_core.specs.WellFormed.{LineWellFormed, BlockWellFormed, WellFormed, DifferentNames}
use Rattle.ir_core.proofs.Gets.{some_same, each_at}
use Rattle.ir_core.proofs.Members.{in_left, in_right}
use Rattle.ir_core.proofs.Equal.{cases_name}
use Rattle.call_graph.specs.Reach.{called_name, or_nothing, names_in, called_names, calls_of, apart}
use Rattle.call_graph.specs.Order.{names_of}
use Rattle.call_graph.proofs.Ranks.{call_reaches, under_of, rank, rank_falls, rank_bound}
use Rattle.inline_outcomes.proofs.Places.{find_hit, find_skip}
use Rattle.inline_outcomes.proofs.Functions.{function_hit, function_skip, function_name}
use Rattle.inline_pass.specs.Policy.{Policy, takes}
use Rattle.inline_pass.specs.Sites.{Point, own_sites, point_behind, called}
use Rattle.inline_pass.specs.Finished.{inline_by, finish_by, body_of, finished_in, finished}
use Rattle.inline_pass.specs.FinishedLaws.{FinishedEquation}
use Rattle.inline_pass.proofs.Passing.{found}
use Rattle.inline_pass.proofs.Tracking.{Names, name_in, track, splice_here}

-- ---- a function's text calls the names that it calls

each_block : (P : Block → Type 0) (bs : List Block) (n : ℕ) (k : Block) → find_block n bs ≡ Some k → Each P bs → P k
each_block P [] n k h e = cc
each_block P (b ∷ bs) n k h e =
    elim (cases_eq b.number n) [
      | inl q ↦ subst P (some_same (sym (find_hit n b bs q) ∙ h)) e.0
      | inr q ↦ each_block P bs n k (sym (find_skip n b bs q) ∙ h) e.1
    ]

pub each_function : (P : Function → Type 0) (m : Module) (x : FuncName) (f : Function) → find_function x m ≡ Some f → Each P m → P f
each_function P [] x f h e = cc
each_function P (k ∷ m) x f h e =
    elim (cases_name k.name x) [
      | inl q ↦ subst P (some_same (sym (function_hit x k m q) ∙ h)) e.0
      | inr q ↦ each_function P m x f (sym (function_skip x k m q) ∙ h) e.1
    ]

target_used : (t : CallTarget) (j n : ℕ) → named_callee t ≡ Some j → Each (λ k. k < n) (called_callees t) → j < n
target_used (Direct k) j n h e = subst (λ z. z < n) (some_same h) e.0
target_used (Indirect s a) j n h e = cc

callee_used : (i : Instruction) (j n : ℕ) → callee_of i ≡ Some j → Each (λ k. k < n) (callees_used i) → j < n
callee_used (Call t args) j n h e = target_used t j n h e
callee_used (ReturnCall t args) j n h e = target_used t j n h e
callee_used (TryCall t sg args a u) j n h e = target_used (call_target t sg) j n h e
callee_used (Plain a) j n h e = cc
callee_used (Branches a) j n h e = cc
callee_used SequencePoint j n h e = cc
callee_used (Return a) j n h e = cc

get_at : (cs : List Callee) (j : ℕ) → j < length cs → (c : Callee) × (slice_get cs j ≡ Some c)
get_at [] j h = absurd (omega (arith, h))
get_at (c ∷ cs) zero h = (c, refl)
get_at (c ∷ cs) (suc j) h = get_at cs j (omega (arith, h))

names_of_line : (f : Function) (ls : List Line) (i : ℕ) (l : Line) (y : FuncName) → slice_get ls i ≡ Some l → called_name f l ≡ Some y → In y (names_in f ls)
names_of_line f [] i l y h q = cc
names_of_line f (x ∷ ls) zero l y h q = in_left y (or_nothing (called_name f x)) (names_in f ls) (subst (λ o. In y (or_nothing o)) (sym (ap (called_name f) (some_same h) ∙ q)) (inl refl))
names_of_line f (x ∷ ls) (suc i) l y h q = in_right y (or_nothing (called_name f x)) (names_in f ls) (names_of_line f ls i l y h q)

names_of_block : (f : Function) (bs : List Block) (n : ℕ) (k : Block) (y : FuncName) → find_block n bs ≡ Some k → In y (names_in f k.lines) → In y (called_names f bs)
names_of_block f [] n k y h i = cc
names_of_block f (b ∷ bs) n k y h i =
    elim (cases_eq b.number n) [
      | inl q ↦ in_left y (names_in f b.lines) (called_names f bs) (subst (λ z. In y (names_in f z.lines)) (sym (some_same {x = b} (sym (find_hit n b bs q) ∙ h))) i)
      | inr q ↦ in_right y (names_in f b.lines) (called_names f bs) (names_of_block f bs n k y (sym (find_skip n b bs q) ∙ h) i)
    ]

pub own_text : (f : Function) → WellFormed f → (q : Point) → Names (called_names f f.blocks) f q
own_text f w q =
    record {
      callee = λ k l j h get is.
          let line = each_at (LineWellFormed f) k.lines q.1 l (each_block (BlockWellFormed f) f.blocks q.0 k h w.lines) get in
          let c = get_at f.callees j (callee_used l.inst j (length f.callees) is line.callees) in
          let name : called_name f l ≡ Some c.0.name = ap (λ o. and_then o (λ z. and_then (slice_get f.callees z) (λ d. Some d.name))) is ∙ ap (λ o. and_then o (λ d. Some d.name)) c.1 in
          (c.0, c.1, names_of_block f f.blocks q.0 k c.0.name h (names_of_line f k.lines q.1 l c.0.name get name));
    }

-- ---- bodies that are the same where they are called

module _ (p : Policy) (bodies other : FuncName → Option Function) (names : List FuncName) (same : (y : FuncName) → In y names → bodies y ≡ other y) where
  same_called : (o : Option FuncName) → ((y : FuncName) → o ≡ Some y → In y names) → and_then o bodies ≡ and_then o other
  same_called None h = refl
  same_called (Some y) h = same y (h y refl)

  pub agree : (now : Point → Point) (ss : List Point) (b : Function) → ((q : Point) → Names names b (now q)) → inline_by bodies p now ss b ≡ inline_by other p now ss b
  agree now [] b t = refl
  agree now (s ∷ ss) b t =
      by (and_then (called b (now s).0 (now s).1) bodies) refl (agree now ss b t) (λ b'. agree (λ q. point_behind (now s).0 (now s).1 (now q)) ss b') ∙ ap (λ o. elim o as (λ z. Function) [ None ↦ inline_by other p now ss b | Some g ↦ if takes p g (splice_with sides b (now s).0 (now s).1 g) then inline_by other p (λ q. point_behind (now s).0 (now s).1 (now q)) ss (splice_with sides b (now s).0 (now s).1 g) else inline_by other p now ss b ]) (same_called (called b (now s).0 (now s).1) (λ y h. name_in names b (now s) (t s) y h))
    where
      by : (o : Option Function) → and_then (called b (now s).0 (now s).1) bodies ≡ o → inline_by bodies p now ss b ≡ inline_by other p now ss b → ((b' : Function) → ((q : Point) → Names names b' (point_behind (now s).0 (now s).1 (now q))) → inline_by bodies p (λ q. point_behind (now s).0 (now s).1 (now q)) ss b' ≡ inline_by other p (λ q. point_behind (now s).0 (now s).1 (now q)) ss b') → Path Function (elim o [ None ↦ inline_by bodies p now ss b | Some g ↦ if takes p g (splice_with sides b (now s).0 (now s).1 g) then inline_by bodies p (λ q. point_behind (now s).0 (now s).1 (now q)) ss (splice_with sides b (now s).0 (now s).1 g) else inline_by bodies p now ss b ]) (elim o [ None ↦ inline_by other p now ss b | Some g ↦ if takes p g (splice_with sides b (now s).0 (now s).1 g) then inline_by other p (λ q. point_behind (now s).0 (now s).1 (now q)) ss (splice_with sides b (now s).0 (now s).1 g) else inline_by other p now ss b ])
      by None e stay go = stay
      by (Some g) e stay go = choose (takes p g (splice_with sides b (now s).0 (now s).1 g))
        where
          with_body : inline_by bodies p (λ q. point_behind (now s).0 (now s).1 (now q)) ss (splice_with sides b (now s).0 (now s).1 g) ≡ inline_by other p (λ q. point_behind (now s).0 (now s).1 (now q)) ss (splice_with sides b (now s).0 (now s).1 g)
          with_body =
              let u = then_some (called b (now s).0 (now s).1) bodies g e in
              let d = found b (now s).0 (now s).1 u.0 u.1 in
              let is = splice_here b g (now s).0 (now s).1 d.block d.line d.found d.get in
              go (splice_with sides b (now s).0 (now s).1 g) (λ q. subst (λ z. Names names z (point_behind (now s).0 (now s).1 (now q))) (sym is) (track b g (now s).0 (now s).1 d.block d.line d.found d.get names (now q) (t q)))

          choose : (c : Bool) → (if c then inline_by bodies p (λ q. point_behind (now s).0 (now s).1 (now q)) ss (splice_with sides b (now s).0 (now s).1 g) else inline_by bodies p now ss b) ≡ (if c then inline_by other p (λ q. point_behind (now s).0 (now s).1 (now q)) ss (splice_with sides b (now s).0 (now s).1 g) else inline_by other p now ss b)
          choose true = with_body
          choose false = stay

pub finish_same : (p : Policy) (bodies other : FuncName → Option Function) (f : Function) → WellFormed f → ((y : FuncName) → In y (called_names f f.blocks) → bodies y ≡ other y) → finish_by bodies p f ≡ finish_by other p f
finish_same p bodies other f w same = agree p bodies other (called_names f f.blocks) same (λ q. q) (own_sites f.blocks) f (λ q. own_text f w q)

-- ---- enough turns

pub calls_is : (m : Module) (f : Function) → find_function f.name m ≡ Some f → (y : FuncName) → In y (called_names f f.blocks) → In y (calls_of m f.name)
calls_is m f h y i = subst (λ o. In y (elim o as (λ z. List FuncName) [ None ↦ [] | Some g ↦ called_names g g.blocks ])) (sym h) i

pub name_of_found : (m : Module) (x : FuncName) (f : Function) → find_function x m ≡ Some f → In x (names_of m)
name_of_found [] x f h = cc
name_of_found (k ∷ m) x f h = elim (cases_name k.name x) [ inl q ↦ inl (sym q) | inr q ↦ inr (name_of_found m x f (sym (function_skip x k m q) ∙ h)) ]

module _ (p : Policy) (m : Module) (whole : Each WellFormed m) where
  turns : (n : ℕ) (f : Function) → FuncName → Option Function
  turns n f y = and_then (body_of m m f.name y) (λ g. Some (finished_in n p m g))

  same_turns : (n k : ℕ) (f : Function) → find_function f.name m ≡ Some f → ((g : Function) → find_function g.name m ≡ Some g → rank m g.name < rank m f.name → finished_in n p m g ≡ finished_in k p m g) → (y : FuncName) → In y (called_names f f.blocks) → and_then (body_of m m f.name y) (λ g. Some (finished_in n p m g)) ≡ and_then (body_of m m f.name y) (λ g. Some (finished_in k p m g))
  same_turns n k f h ih y i = go (apart m f.name y) refl
    where
      lower : (o : Option Function) → find_function y m ≡ o → apart m f.name y ≡ true → and_then o (λ g. Some (finished_in n p m g)) ≡ and_then o (λ g. Some (finished_in k p m g))
      lower None q a = refl
      lower (Some g) q a =
          let named : g.name ≡ y = function_name y m g q in
          let falls = rank_falls m f.name y (under_of m f.name y (call_reaches m f.name y (calls_is m f h y i)) a) (name_of_found m y g q) in
          ap Some (ih g (ap (λ z. find_function z m) named ∙ q) (subst (λ z. rank m z < rank m f.name) (sym named) falls))

      go : (c : Bool) → apart m f.name y ≡ c → and_then (if c then find_function y m else None) (λ g. Some (finished_in n p m g)) ≡ and_then (if c then find_function y m else None) (λ g. Some (finished_in k p m g))
      go true a = lower (find_function y m) refl a
      go false a = refl

  enough : (n k : ℕ) (f : Function) → find_function f.name m ≡ Some f → rank m f.name < n → rank m f.name < k → finished_in n p m f ≡ finished_in k p m f
  enough zero k f h a b = absurd (omega (arith, a))
  enough (suc n) zero f h a b = absurd (omega (arith, b))
  enough (suc n) (suc k) f h a b =
      finish_same p (λ y. and_then (body_of m m f.name y) (λ g. Some (finished_in n p m g))) (λ y. and_then (body_of m m f.name y) (λ g. Some (finished_in k p m g))) f (each_function WellFormed m f.name f h whole) (same_turns n k f h (λ g q l. enough n k g q (omega (arith, a, l)) (omega (arith, b, l))))

  pub equation : (f : Function) → find_function f.name m ≡ Some f → finished p m f ≡ finish_by (λ y. and_then (body_of m m f.name y) (λ g. Some (finished p m g))) p f
  equation f h =
      let r = rank_bound m f.name (name_of_found m f.name f h) in
      enough (length m) (suc (length m)) f h r (omega (arith, r))

pub found_by_name : (m : Module) → DifferentNames m → (f : Function) → In f m → find_function f.name m ≡ Some f
found_by_name [] d f i = elim i [ ]
found_by_name (k ∷ m) d f (inl e) = function_hit f.name k m (ap (λ z. z.name) (sym e)) ∙ ap Some (sym e)
found_by_name (k ∷ m) d f (inr i) =
    let ih = found_by_name m d.1 f i in
    elim (cases_name k.name f.name) [
      | inl q ↦ let e : None ≡ Some f = sym d.0 ∙ ap (λ z. find_function z m) q ∙ ih in cc
      | inr q ↦ function_skip f.name k m q ∙ ih
    ]

pub finished_equation : FinishedEquation
finished_equation p m is f i = equation p m is.whole f (found_by_name m is.names f i)
