-- The pass from callees to callers gives the finished bodies: after each function the module has finished bodies for the
-- names that are done, and its own for the others.
use Rattle.std.proofs.Common.{◌≡◌, ◌⊎◌, inl, inr, ℕ, zero, suc, List, [], ◌∷◌, map, drop, take, Option, Some, None, Bool, true, false, ◌||◌, refl, sym, ap, ap₂, ◌∙◌, subst}
use Rattle.std.specs.Prelude.{slice_get, if◌then◌else◌}
use Rattle.ir_core.specs.declared.names.FuncName.{FuncName}
use Rattle.ir_core.specs.Module.{Line, Block, Function, Module}
use Rattle.ir_core.specs.Lookup.{and_then, same_name, find_block, find_function}
use Rattle.ir_core.specs.Lists.{In}
use Rattle.ir_semantics.specs.Splice.{sides, spliced, splice_with, replace}
use Rattle.ir_core.specs.WellFormed.{WellFormed, DifferentNames, IsModule}
use Rattle.ir_core.proofs.Equal.{equal_name, cases_name}
use Rattle.ir_core.proofs.Gets.{some_same}
use Rattle.call_graph.specs.Reach.{called_names, calls_of, apart}
use Rattle.call_graph.specs.Order.{names_of, stands, CalleesBefore, BottomUp, bottom_up}
use Rattle.call_graph.proofs.Standing.{stands_of, not_standing}
use Rattle.call_graph.proofs.Placing.{order_is_bottom_up}
use Rattle.inline_outcomes.specs.Laws.{RunsKept}
use Rattle.inline_outcomes.proofs.Functions.{function_hit, function_skip, function_name}
use Rattle.inline_outcomes.proofs.Linking.{map_same}
use Rattle.inline_pass.specs.Policy.{Policy, takes}
use Rattle.inline_pass.specs.Sites.{Point, own_sites, point_behind, called}
use Rattle.inline_pass.specs.Finished.{inline_by, body_of, finished_in, finished, passed}
use Rattle.inline_pass.specs.Pass.{finish, pass_by, pass}
use Rattle.inline_pass.specs.FinishedLaws.{PassIsFinished}
use Rattle.inline_pass.proofs.Passing.{replace_hit, replace_skip, pass_keeps_runs}
use Rattle.inline_pass.proofs.Finishing.{calls_is, each_function, equation, finish_same, name_of_found}

-- ---- names stay

splice_named : (b : Function) (at i : ℕ) (g : Function) → (splice_with sides b at i g).name ≡ b.name
splice_named b at i g = go (find_block at b.blocks)
  where
    line : (k : Block) (o : Option Line) → (elim o as (λ z. Function) [ None ↦ b | Some l ↦ spliced (record { naming = sides; caller = b; callee = g; at = at; before = take i k.lines; site = l; behind = drop (suc i) k.lines }) ]).name ≡ b.name
    line k None = refl
    line k (Some l) = refl

    go : (o : Option Block) → (elim o as (λ z. Function) [ None ↦ b | Some k ↦ elim (slice_get k.lines i) as (λ z. Function) [ None ↦ b | Some l ↦ spliced (record { naming = sides; caller = b; callee = g; at = at; before = take i k.lines; site = l; behind = drop (suc i) k.lines }) ] ]).name ≡ b.name
    go None = refl
    go (Some k) = line k (slice_get k.lines i)

inlined_named : (bodies : FuncName → Option Function) (p : Policy) (now : Point → Point) (ss : List Point) (b : Function) → (inline_by bodies p now ss b).name ≡ b.name
inlined_named bodies p now [] b = refl
inlined_named bodies p now (s ∷ ss) b = by (and_then (called b (now s).0 (now s).1) bodies) (inlined_named bodies p now ss b) (λ b'. inlined_named bodies p (λ q. point_behind (now s).0 (now s).1 (now q)) ss b')
  where
    choose : (c : Bool) (x y : Function) → x.name ≡ b.name → y.name ≡ b.name → (if c then x else y).name ≡ b.name
    choose true x y h q = h
    choose false x y h q = q

    by : (o : Option Function) → (inline_by bodies p now ss b).name ≡ b.name → ((b' : Function) → (inline_by bodies p (λ q. point_behind (now s).0 (now s).1 (now q)) ss b').name ≡ b'.name) → (elim o as (λ z. Function) [ None ↦ inline_by bodies p now ss b | Some g ↦ if takes p g (splice_with sides b (now s).0 (now s).1 g) then inline_by bodies p (λ q. point_behind (now s).0 (now s).1 (now q)) ss (splice_with sides b (now s).0 (now s).1 g) else inline_by bodies p now ss b ]).name ≡ b.name
    by None stay go = stay
    by (Some g) stay go = choose (takes p g (splice_with sides b (now s).0 (now s).1 g)) (inline_by bodies p (λ q. point_behind (now s).0 (now s).1 (now q)) ss (splice_with sides b (now s).0 (now s).1 g)) (inline_by bodies p now ss b) (go (splice_with sides b (now s).0 (now s).1 g) ∙ splice_named b (now s).0 (now s).1 g) stay

turns_named : (n : ℕ) (p : Policy) (m : Module) (f : Function) → (finished_in n p m f).name ≡ f.name
turns_named zero p m f = refl
turns_named (suc n) p m f = inlined_named (λ y. and_then (body_of m m f.name y) (λ g. Some (finished_in n p m g))) p (λ q. q) (own_sites f.blocks) f

pub finished_named : (p : Policy) (m : Module) (f : Function) → (finished p m f).name ≡ f.name
finished_named p m f = turns_named _ p m f

-- ---- and signatures

splice_signed : (b : Function) (at i : ℕ) (g : Function) → (splice_with sides b at i g).sig ≡ b.sig
splice_signed b at i g = go (find_block at b.blocks)
  where
    line : (k : Block) (o : Option Line) → (elim o as (λ z. Function) [ None ↦ b | Some l ↦ spliced (record { naming = sides; caller = b; callee = g; at = at; before = take i k.lines; site = l; behind = drop (suc i) k.lines }) ]).sig ≡ b.sig
    line k None = refl
    line k (Some l) = refl

    go : (o : Option Block) → (elim o as (λ z. Function) [ None ↦ b | Some k ↦ elim (slice_get k.lines i) as (λ z. Function) [ None ↦ b | Some l ↦ spliced (record { naming = sides; caller = b; callee = g; at = at; before = take i k.lines; site = l; behind = drop (suc i) k.lines }) ] ]).sig ≡ b.sig
    go None = refl
    go (Some k) = line k (slice_get k.lines i)

inlined_signed : (bodies : FuncName → Option Function) (p : Policy) (now : Point → Point) (ss : List Point) (b : Function) → (inline_by bodies p now ss b).sig ≡ b.sig
inlined_signed bodies p now [] b = refl
inlined_signed bodies p now (s ∷ ss) b = by (and_then (called b (now s).0 (now s).1) bodies) (inlined_signed bodies p now ss b) (λ b'. inlined_signed bodies p (λ q. point_behind (now s).0 (now s).1 (now q)) ss b')
  where
    choose : (c : Bool) (x y : Function) → x.sig ≡ b.sig → y.sig ≡ b.sig → (if c then x else y).sig ≡ b.sig
    choose true x y h q = h
    choose false x y h q = q

    by : (o : Option Function) → (inline_by bodies p now ss b).sig ≡ b.sig → ((b' : Function) → (inline_by bodies p (λ q. point_behind (now s).0 (now s).1 (now q)) ss b').sig ≡ b'.sig) → (elim o as (λ z. Function) [ None ↦ inline_by bodies p now ss b | Some g ↦ if takes p g (splice_with sides b (now s).0 (now s).1 g) then inline_by bodies p (λ q. point_behind (now s).0 (now s).1 (now q)) ss (splice_with sides b (now s).0 (now s).1 g) else inline_by bodies p now ss b ]).sig ≡ b.sig
    by None stay go = stay
    by (Some g) stay go = choose (takes p g (splice_with sides b (now s).0 (now s).1 g)) (inline_by bodies p (λ q. point_behind (now s).0 (now s).1 (now q)) ss (splice_with sides b (now s).0 (now s).1 g)) (inline_by bodies p now ss b) (go (splice_with sides b (now s).0 (now s).1 g) ∙ splice_signed b (now s).0 (now s).1 g) stay

turns_signed : (n : ℕ) (p : Policy) (m : Module) (f : Function) → (finished_in n p m f).sig ≡ f.sig
turns_signed zero p m f = refl
turns_signed (suc n) p m f = inlined_signed (λ y. and_then (body_of m m f.name y) (λ g. Some (finished_in n p m g))) p (λ q. q) (own_sites f.blocks) f

pub finished_signed : (p : Policy) (m : Module) (f : Function) → (finished p m f).sig ≡ f.sig
finished_signed p m f = turns_signed _ p m f

-- ---- functions in place of others

find_map : (φ : Function → Function) → ((f : Function) → (φ f).name ≡ f.name) → (y : FuncName) (m : Module) → find_function y (map φ m) ≡ and_then (find_function y m) (λ g. Some (φ g))
find_map φ named y [] = refl
find_map φ named y (k ∷ m) =
    elim (cases_name k.name y) [
      | inl q ↦ function_hit y (φ k) (map φ m) (named k ∙ q) ∙ sym (ap (λ o. and_then o (λ g. Some (φ g))) (function_hit y k m q))
      | inr q ↦ function_skip y (φ k) (map φ m) (ap (λ z. same_name z y) (named k) ∙ q) ∙ find_map φ named y m ∙ sym (ap (λ o. and_then o (λ g. Some (φ g))) (function_skip y k m q))
    ]

-- without a function of the name
same_map : (φ ψ : Function → Function) (x : FuncName) → ((k : Function) → same_name k.name x ≡ false → φ k ≡ ψ k) → (m : Module) → find_function x m ≡ None → map φ m ≡ map ψ m
same_map φ ψ x same [] h = refl
same_map φ ψ x same (k ∷ m) h =
    elim (cases_name k.name x) [
      | inl q ↦ let e : Some k ≡ None = sym (function_hit x k m q) ∙ h in cc
      | inr q ↦ ap₂ (λ (a : Function) (as' : Module). a ∷ as') (same k q) (same_map φ ψ x same m (sym (function_skip x k m q) ∙ h))
    ]

replace_map : (φ ψ : Function → Function) (f : Function) → ((k : Function) → (φ k).name ≡ k.name) → ((k : Function) → same_name k.name f.name ≡ false → φ k ≡ ψ k) → (ψ f).name ≡ f.name → (m : Module) → DifferentNames m → find_function f.name m ≡ Some f → replace (ψ f) (map φ m) ≡ map ψ m
replace_map φ ψ f named same name [] d h = cc
replace_map φ ψ f named same name (k ∷ m) d h =
    elim (cases_name k.name f.name) [
      | inl q ↦
          let e : k ≡ f = some_same (sym (function_hit f.name k m q) ∙ h) in
          replace_hit (ψ f) (φ k) (map φ m) (named k ∙ q ∙ sym name) ∙ ap₂ (λ (a : Function) (as' : Module). a ∷ as') (ap ψ (sym e)) (same_map φ ψ f.name same m (ap (λ z. find_function z m) (sym q) ∙ d.0))
      | inr q ↦
          replace_skip (ψ f) (φ k) (map φ m) (ap₂ same_name (named k) name ∙ q) ∙ ap₂ (λ (a : Function) (as' : Module). a ∷ as') (same k q) (replace_map φ ψ f named same name m d.1 (sym (function_skip f.name k m q) ∙ h))
    ]

-- names done, after more of them
ahead : List FuncName → List FuncName → List FuncName
ahead done [] = done
ahead done (x ∷ xs) = ahead (x ∷ done) xs

in_ahead : (xs done : List FuncName) (x : FuncName) → In x xs ⊎ In x done → In x (ahead done xs)
unfolding ahead
in_ahead [] done x (inl i) = elim i [ ]
in_ahead [] done x (inr i) = i
in_ahead (y ∷ xs) done x (inl (inl q)) = in_ahead xs (y ∷ done) x (inr (inl q))
in_ahead (y ∷ xs) done x (inl (inr i)) = in_ahead xs (y ∷ done) x (inl i)
in_ahead (y ∷ xs) done x (inr i) = in_ahead xs (y ∷ done) x (inr (inr i))

module _ (p : Policy) (m : Module) (is : IsModule m) where
  abbrev either : Bool → Function → Function
  either c f = if c then finished p m f else f

  -- the body of f, where the names of the list are done
  abbrev body_now : List FuncName → Function → Function
  body_now done f = either (stands f.name done) f

  now_named : (done : List FuncName) (f : Function) → (body_now done f).name ≡ f.name
  now_named done f = go (stands f.name done)
    where
      go : (c : Bool) → (either c f).name ≡ f.name
      go true = finished_named p m f
      go false = refl

  -- what f calls has its finished body by now
  finish_now : (done : List FuncName) (f : Function) → find_function f.name m ≡ Some f → ((y : FuncName) → In y (calls_of m f.name) → apart m f.name y ≡ true → In y (names_of m) → In y done) → finish p m (map (body_now done) m) f ≡ finished p m f
  finish_now done f h before =
      finish_same p (body_of m (map (body_now done) m) f.name) (λ y. and_then (body_of m m f.name y) (λ g. Some (finished p m g))) f (each_function WellFormed m f.name f h is.whole) (λ y i. go y i (apart m f.name y) refl) ∙ sym (equation p m is.whole f h)
    where
      done_now : (y : FuncName) → In y (calls_of m f.name) → apart m f.name y ≡ true → (o : Option Function) → find_function y m ≡ o → and_then o (λ g. Some (body_now done g)) ≡ and_then o (λ g. Some (finished p m g))
      done_now y i a None q = refl
      done_now y i a (Some g) q =
          let named : y ≡ g.name = sym (function_name y m g q) in
          let there : In g.name done = subst (λ z. In z done) named (before y i a (name_of_found m y g q)) in
          ap (λ c. Some (either c g)) (stands_of g.name done there)

      go : (y : FuncName) → In y (called_names f f.blocks) → (c : Bool) → apart m f.name y ≡ c → (if c then find_function y (map (body_now done) m) else None) ≡ and_then (if c then find_function y m else None) (λ g. Some (finished p m g))
      go y i true a = find_map (body_now done) (now_named done) y m ∙ done_now y (calls_is m f h y i) a (find_function y m) refl
      go y i false a = refl

  more_done : (done : List FuncName) (x : FuncName) (k : Function) → same_name k.name x ≡ false → body_now done k ≡ body_now (x ∷ done) k
  more_done done x k q = ap (λ c. either (c || stands k.name done) k) (sym q)

  one_more : (done : List FuncName) (x : FuncName) (f : Function) → find_function x m ≡ Some f → replace (finished p m f) (map (body_now done) m) ≡ map (body_now (x ∷ done)) m
  one_more done x f h =
      let named : f.name ≡ x = function_name x m f h in
      let new : body_now (x ∷ done) f ≡ finished p m f = ap (λ c. either (c || stands f.name done) f) (equal_name f.name x named) in
      ap (λ z. replace z (map (body_now done) m)) (sym new) ∙ replace_map (body_now done) (body_now (x ∷ done)) f (now_named done) (λ k q. more_done done x k (ap (same_name k.name) (sym named) ∙ q)) (now_named (x ∷ done) f) m is.names (ap (λ z. find_function z m) named ∙ h)

  in_turn : (order done : List FuncName) → CalleesBefore m done order → pass_by p m order (map (body_now done) m) ≡ map (body_now (ahead done order)) m
  unfolding ahead
  in_turn [] done b = refl
  in_turn (x ∷ xs) done (off, before, b) = by (find_function x m) refl (in_turn xs (x ∷ done) b)
    where
      step : Module → Option Function → Module
      step c o = elim o [ None ↦ pass_by p m xs c | Some f ↦ pass_by p m xs (replace (finish p m c f) c) ]

      by : (o : Option Function) → find_function x m ≡ o → pass_by p m xs (map (body_now (x ∷ done)) m) ≡ map (body_now (ahead (x ∷ done) xs)) m → pass_by p m (x ∷ xs) (map (body_now done) m) ≡ map (body_now (ahead (x ∷ done) xs)) m
      by None q ih =
          ap (step (map (body_now done) m)) (find_map (body_now done) (now_named done) x m ∙ ap (λ o. and_then o (λ g. Some (body_now done g))) q) ∙ ap (pass_by p m xs) (same_map (body_now done) (body_now (x ∷ done)) x (more_done done x) m q) ∙ ih
      by (Some f) q ih =
          let named : f.name ≡ x = function_name x m f q in
          let own : body_now done f ≡ f = ap (λ c. either c f) (not_standing f.name done (λ i. off (subst (λ z. In z done) named i))) in
          let here : find_function f.name m ≡ Some f = ap (λ z. find_function z m) named ∙ q in
          let finishes : finish p m (map (body_now done) m) f ≡ finished p m f = finish_now done f here (λ y i a n. before y (subst (λ z. In y (calls_of m z)) named i) (subst (λ z. apart m z y ≡ true) named a) n) in
          ap (step (map (body_now done) m)) (find_map (body_now done) (now_named done) x m ∙ ap (λ o. and_then o (λ g. Some (body_now done g))) q ∙ ap Some own) ∙ ap (λ z. pass_by p m xs (replace z (map (body_now done) m))) finishes ∙ ap (pass_by p m xs) (one_more done x f q) ∙ ih

  all_done : (ks : Module) (done : List FuncName) → ((x : FuncName) → In x (names_of ks) → In x done) → map (body_now done) ks ≡ map (finished p m) ks
  all_done [] done h = refl
  all_done (k ∷ ks) done h = ap₂ (λ (a : Function) (as' : Module). a ∷ as') (ap (λ c. either c k) (stands_of k.name done (h k.name (inl refl)))) (all_done ks done (λ x i. h x (inr i)))

  pub in_order : (order : List FuncName) → BottomUp m order → pass p order m ≡ passed p m
  in_order order b =
      ap (pass_by p m order) (sym (map_same (body_now []) (λ f. refl) m)) ∙ in_turn order [] b.callees_before ∙ all_done m (ahead [] order) (λ x i. in_ahead order [] x (inl (b.all x i)))

pub pass_is_finished : PassIsFinished
pass_is_finished p m is order b = in_order p m is order b

-- so does the order of pieces
pub order_in_use : (p : Policy) (m : Module) → IsModule m → pass p (bottom_up m) m ≡ passed p m
order_in_use p m is = pass_is_finished p m is (bottom_up m) (order_is_bottom_up m is.names)

pub finished_keep_runs : (p : Policy) (m : Module) → IsModule m → RunsKept m (passed p m)
finished_keep_runs p m is = subst (RunsKept m) (order_in_use p m is) (pass_keeps_runs p (bottom_up m) m)
