-- The splice of the code at an own line gives what the loop needs.
use Rattle.std.proofs.Common.{◌≡◌, ℕ, suc, inl, inr, List, [], ◌∷◌, ◌++◌, map, take, drop, Some, refl, sym, ap, ap₂, ◌∙◌, subst, eq-eqb, ne_eqb}
use Rattle.std.specs.Prelude.{slice_get, if◌then◌else◌}
use Rattle.std.proofs.Math.Path.{fun_ext}
use Rattle.std.proofs.lemmas.Bool.{cases_eq}
use Rattle.ir_core.specs.declared.names.FuncName.{FuncName}
use Rattle.ir_core.specs.Module.{Line, Block, Function, Module}
use Rattle.ir_core.specs.Edits.{lines_of}
use Rattle.ir_core.specs.Lists.{In, Different}
use Rattle.ir_core.specs.Lookup.{block_numbers, find_block}
use Rattle.ir_core.specs.Sound.{IsSound}
use Rattle.ir_core.specs.WellFormed.{WellFormed, IsModule}
use Rattle.ir_core.proofs.Members.{in_left, in_right, each_in}
use Rattle.ir_core.proofs.Wholeness.{whole_of}
use Rattle.ir_core.proofs.Gets.{some_same, get_in}
use Rattle.ir_core.proofs.ByNumber.{found_number}
use Rattle.ir_semantics.specs.Accepted.{Accepted}
use Rattle.ir_semantics.specs.Canon.{SameFunction}
use Rattle.ir_semantics.specs.Renaming.{Renaming, line_under, block_under}
use Rattle.ir_semantics.specs.Splice.{Naming, Splicing, Within, kind_of, after_block, after_blocks, body, cut_block, caller_names, sides, spliced, spliced_blocks}
use Rattle.ir_semantics.proofs.SafetyPlaces.{function_in}
use Rattle.ir_semantics.proofs.SafetyTypes.{then_some}
use Rattle.inline_outcomes.specs.Stands.{Stands}
use Rattle.inline_outcomes.proofs.Linking.{same_numbers, lines_same, distinct_sides, after_is}
use Rattle.inline_outcomes.proofs.Merging.{own_callee}
use Rattle.inline_outcomes.proofs.Places.{find_hit, find_skip}
use Rattle.inline_acceptance.proofs.Alone.{Free, free_same}
use Rattle.inline_numbering.specs.Renamed.{Renamed}
use Rattle.inline_numbering.specs.Carried.{Carries, SiteUnder, splicing_under}
use Rattle.inline_numbering.proofs.Carried.{kind_same}
use Rattle.inline_numbering.proofs.Same.{by_way, way_renamed, renamed_is_same}
use Rattle.inline_numbering.proofs.Sides.{joined, sides_carry}
use Rattle.inline_numbering.proofs.Places as points
use Rattle.inline_pass.specs.Sites.{Point, called}
use Rattle.inline_pass.specs.Policy.{Policy}
use Rattle.inline_pass.specs.Going.{Task, Ahead, Twins, Going, Done, Fit, finishing, before_line, stands, with_body, spliced_twins}
use Rattle.inline_pass.specs.Finished.{finished, finished_body, passed}
use Rattle.inline_pass.specs.Inlined.{inlined}
use Rattle.inline_pass.proofs.Steps.{Inlines, Put, PutWithin}
use Rattle.inline_pass.proofs.Finishing.{found_by_name, finished_equation}
use Rattle.inline_pass.proofs.Preserving.{finished_accepted}
use Rattle.inline_pass.proofs.Going.{here_is, get_first}
use Rattle.inline_pass.proofs.Passing.{Found, found, at_place, splice_is}
use Rattle.inline_pass.proofs.Others as others

-- numbers that leave those of the caller c as they are
pub record KeepsCaller (n : Naming) (c : Function) : Type 0 where
  pub values : (v : ℕ) → n.caller_value v ≡ v
  pub blocks : (x : ℕ) → n.caller_block x ≡ x
  pub fresh : In n.after (block_numbers c.blocks) → ⊥

-- the splice of h into the code's body at the point where the own line l stands
abbrev pub code_splice : Naming → Twins → Point → Line → Function → Splicing
code_splice n twins point l h =
    record {
      naming = n;
      caller = twins.code;
      callee = h;
      at = point.0;
      before = take point.1 (lines_of point.0 twins.code.blocks);
      site = l;
      behind = drop (suc point.1) (lines_of point.0 twins.code.blocks);
    }

-- what the loop needs of a splice into the code's body
pub record Spliced (task : Task) (old new : Twins) (point : Point) (after : ℕ) (l : Line) : Type 0 where
  pub put : Put old new point.0
  pub within : kind_of l.inst ≡ Within → PutWithin old new point after
  pub fit : Fit task.bodies new.body
  pub whole : WellFormed new.code

-- ---- blocks in lists

number_in : (bs : List Block) (k : Block) → In k bs → In k.number (block_numbers bs)
number_in [] k i = elim i [ ]
number_in (b ∷ bs) k (inl e) = inl (ap (λ z. z.number) e)
number_in (b ∷ bs) k (inr i) = inr (number_in bs k i)

block_of_number : (bs : List Block) (x : ℕ) → In x (block_numbers bs) → (k : Block) × In k bs × (k.number ≡ x)
block_of_number [] x i = elim i [ ]
block_of_number (b ∷ bs) x (inl e) = (b, inl refl, sym e)
block_of_number (b ∷ bs) x (inr i) = let t = block_of_number bs x i in (t.0, inr t.1, t.2)

-- numbers differ, so the lines of a block's number are the block's
lines_in : (bs : List Block) (k : Block) → Different (block_numbers bs) → In k bs → lines_of k.number bs ≡ k.lines
lines_in [] k d i = elim i [ ]
lines_in (b ∷ bs) k d (inl e) = ap (λ c. if c then b.lines else lines_of k.number bs) (eq-eqb b.number k.number (sym (ap (λ z. z.number) e))) ∙ sym (ap (λ z. z.lines) e)
lines_in (b ∷ bs) k d (inr i) = ap (λ c. if c then b.lines else lines_of k.number bs) (ne_eqb b.number k.number (λ e. d.0 (subst (λ z. In z (block_numbers bs)) (sym e) (number_in bs k i)))) ∙ lines_in bs k d.1 i

lines_found : (x : ℕ) (bs : List Block) (k : Block) → find_block x bs ≡ Some k → lines_of x bs ≡ k.lines
lines_found x [] k h = cc
lines_found x (b ∷ bs) k h =
    elim (cases_eq b.number x) [
      | inl e ↦ ap (λ c. if c then b.lines else lines_of x bs) (eq-eqb b.number x e) ∙ ap (λ z. z.lines) (some_same {x = b} (sym (find_hit x b bs e) ∙ h))
      | inr e ↦ ap (λ c. if c then b.lines else lines_of x bs) (ne_eqb b.number x e) ∙ lines_found x bs k (sym (find_skip x b bs e) ∙ h)
    ]

in_under : (r : Renaming) (bs : List Block) (k : Block) → In k bs → In (block_under r k) (map (block_under r) bs)
in_under r [] k i = elim i [ ]
in_under r (b ∷ bs) k (inl e) = inl (ap (block_under r) e)
in_under r (b ∷ bs) k (inr i) = inr (in_under r bs k i)

-- ---- a splice that leaves the caller's numbers

module _ (q : Splicing) (keeps : KeepsCaller q.naming q.caller) where
  names_are : caller_names q ≡ same_numbers
  names_are = ap₂ (λ (v b : ℕ → ℕ). record { value = v; block = b; slot = λ k. k; sig = λ k. k; callee = λ k. k }) (fun_ext keeps.values) (fun_ext keeps.blocks)

  lines_stay : (ls : List Line) → map (line_under (caller_names q)) ls ≡ ls
  lines_stay ls = ap (λ r. map (line_under r) ls) names_are ∙ sym (lines_same ls)

  abbrev whole_cut : Block → List Block → List Block
  whole_cut b bs = cut_block q b ∷ (body q q.callee.blocks ++ (after_blocks q (kind_of q.site.inst) ++ map (block_under (caller_names q)) bs))

  -- another block of the caller
  stays_in : (bs : List Block) (k : Block) → In k bs → (k.number ≡ q.at → ⊥) → In (block_under (caller_names q) k) (spliced_blocks q bs)
  stays_in [] k i off = elim i [ ]
  stays_in (b ∷ bs) k i off =
      elim (cases_eq b.number q.at) [
        | inl e ↦ subst (In (block_under (caller_names q) k)) (sym (ap (λ c. if c then whole_cut b bs else block_under (caller_names q) b ∷ spliced_blocks q bs) (eq-eqb b.number q.at e))) (at_cut e i)
        | inr e ↦ subst (In (block_under (caller_names q) k)) (sym (ap (λ c. if c then whole_cut b bs else block_under (caller_names q) b ∷ spliced_blocks q bs) (ne_eqb b.number q.at e))) (elim i [ inl p ↦ inl (ap (block_under (caller_names q)) p) | inr p ↦ inr (stays_in bs k p off) ])
      ]
    where
      at_cut : b.number ≡ q.at → In k (b ∷ bs) → In (block_under (caller_names q) k) (whole_cut b bs)
      at_cut e (inl p) = absurd (off (ap (λ z. z.number) p ∙ e))
      at_cut e (inr p) = inr (in_right (block_under (caller_names q) k) (body q q.callee.blocks) (after_blocks q (kind_of q.site.inst) ++ map (block_under (caller_names q)) bs) (in_right (block_under (caller_names q) k) (after_blocks q (kind_of q.site.inst)) (map (block_under (caller_names q)) bs) (in_under (caller_names q) bs k p)))

  -- the block behind the body
  after_in : kind_of q.site.inst ≡ Within → (bs : List Block) → In q.at (block_numbers bs) → In (after_block q) (spliced_blocks q bs)
  after_in within [] i = elim i [ ]
  after_in within (b ∷ bs) i =
      elim (cases_eq b.number q.at) [
        | inl e ↦
            subst (In (after_block q)) (sym (ap (λ c. if c then whole_cut b bs else block_under (caller_names q) b ∷ spliced_blocks q bs) (eq-eqb b.number q.at e)))
            (inr (in_right (after_block q) (body q q.callee.blocks) (after_blocks q (kind_of q.site.inst) ++ map (block_under (caller_names q)) bs) (in_left (after_block q) (after_blocks q (kind_of q.site.inst)) (map (block_under (caller_names q)) bs) (subst (λ z. In (after_block q) (after_blocks q z)) (sym within) (inl refl)))))
        | inr e ↦
            let rest : In q.at (block_numbers bs) = elim i [ inl p ↦ absurd (e (sym p)) | inr p ↦ p ] in
            subst (In (after_block q)) (sym (ap (λ c. if c then whole_cut b bs else block_under (caller_names q) b ∷ spliced_blocks q bs) (ne_eqb b.number q.at e))) (inr (after_in within bs rest))
      ]

  others_stay : Different (block_numbers q.caller.blocks) → Different (block_numbers (spliced q).blocks) → (x : ℕ) → In x (block_numbers q.caller.blocks) → (x ≡ q.at → ⊥) → lines_of x (spliced q).blocks ≡ lines_of x q.caller.blocks
  others_stay d d' x i off =
      let t = block_of_number q.caller.blocks x i in
      let number : (block_under (caller_names q) t.0).number ≡ x = keeps.blocks t.0.number ∙ t.2 in
      let new = lines_in (spliced q).blocks (block_under (caller_names q) t.0) d' (stays_in q.caller.blocks t.0 t.1 (λ e. off (sym t.2 ∙ e))) in
      let old = lines_in q.caller.blocks t.0 d t.1 in
      ap (λ z. lines_of z (spliced q).blocks) (sym number) ∙ (new ∙ (lines_stay t.0.lines ∙ (sym old ∙ ap (λ z. lines_of z q.caller.blocks) t.2)))

  behind_there : kind_of q.site.inst ≡ Within → In q.at (block_numbers q.caller.blocks) → Different (block_numbers (spliced q).blocks) → lines_of q.naming.after (spliced q).blocks ≡ q.behind
  behind_there within i d' = lines_in (spliced q).blocks (after_block q) d' (after_in within q.caller.blocks i) ∙ lines_stay q.behind

-- ---- at an own line

module _ (task : Task) (ahead : Ahead) (l : Line) (twins : Twins) (point : Point) (count : ℕ) (going : Going task (before_line l ahead) twins point count) (fit : Fit task.bodies twins.body) (wc : WellFormed twins.code) (g h : Function) (inlines : Inlines task ahead l twins g) (fit_g : Fit task.bodies g) (gh : SameFunction g h) (n : Naming) (keeps : KeepsCaller n twins.code) (sound : IsSound (spliced (code_splice n twins point l h))) where
  abbrev b : Function
  b = twins.body

  abbrev c : Function
  c = twins.code

  abbrev r : Renaming
  r = twins.names

  abbrev at : ℕ
  at = (stands twins ahead).0

  abbrev i : ℕ
  i = (stands twins ahead).1

  fb : Free b
  fb = record { whole = fit.whole; accepted = fit.accepted }

  fg : Free g
  fg = record { whole = fit_g.whole; accepted = fit_g.accepted }

  fc : Free c
  fc = free_same b c (fit.whole, wc, sym (renamed_is_same r b c fit.whole wc going.same)) fb

  -- the call there
  call : (y : FuncName) × (called b at i ≡ Some y) × (task.bodies y ≡ Some g)
  call = then_some (called b at i) task.bodies g inlines.body

  f : Found b at i call.0
  f = found b at i call.0 call.1

  sig : slice_get b.sigs f.callee.sig ≡ Some g.sig
  sig = fit.states f.callee (get_in b.callees f.index f.callee f.has) g (ap task.bodies f.name ∙ call.2)

  abbrev p : Splicing
  p = at_place b g at i call.0 f

  abbrev under : Splicing
  under = splicing_under r n c h p

  abbrev q : Splicing
  q = code_splice n twins point l h

  abbrev t : Renaming
  t = joined r (by_way g h) n

  there : find_block (r.block at) c.blocks ≡ Some (block_under r f.block)
  there = others.other_found b c g h r going.same fb fc gh fg at i call.0 f sig

  here : stands twins ahead ≡ (going.block, point.1)
  here = here_is task ahead l twins point count going

  at_is : r.block at ≡ point.0
  at_is = ap (λ z. r.block z.0) here ∙ going.is

  i_is : i ≡ point.1
  i_is = ap (λ z. z.1) here

  text : lines_of point.0 c.blocks ≡ map (line_under r) f.block.lines
  text = ap (λ x. lines_of x c.blocks) (sym at_is) ∙ lines_found (r.block at) c.blocks (block_under r f.block) there

  line_is : line_under r f.line ≡ l
  line_is =
      let own : slice_get (lines_of point.0 c.blocks) point.1 ≡ Some l = get_first (lines_of point.0 c.blocks) point.1 l ahead.lines going.text in
      let got : slice_get (map (line_under r) f.block.lines) i ≡ Some (line_under r f.line) = points.get_map (line_under r) f.block.lines i f.line f.get in
      some_same (sym got ∙ (ap₂ slice_get (sym text) i_is ∙ own))

  under_is : under ≡ q
  under_is =
      ap₂ (λ (x : ℕ) (z : Line). record { naming = n; caller = c; callee = h; at = x; before = map (line_under r) (take i f.block.lines); site = z; behind = map (line_under r) (drop (suc i) f.block.lines) }) at_is line_is
      ∙ ap₂ (λ (us ws : List Line). record { naming = n; caller = c; callee = h; at = point.0; before = us; site = l; behind = ws })
      (sym (points.take_map (line_under r) i f.block.lines) ∙ ap₂ take i_is (sym text))
      (sym (points.drop_map (line_under r) (suc i) f.block.lines) ∙ ap₂ (λ k ls. drop (suc k) ls) i_is (sym text))

  carry : Carries t r (by_way g h) sides n b c g h
  carry = sides_carry r (by_way g h) n b c g h going.same (way_renamed g h gh) fit_g.whole

  site : SiteUnder r (by_way g h) p c h
  site = others.site b c g h r going.same fb fc gh fg at i call.0 f sig

  free_p : Free (spliced p)
  free_p = others.free_b b c g h r going.same fb fc gh fg at i call.0 f sig

  whole_q : WellFormed (spliced q)
  whole_q =
      let sound_under : IsSound (spliced under) = subst (λ z. IsSound (spliced z)) (sym under_is) sound in
      subst (λ z. WellFormed (spliced z)) under_is (whole_of (spliced under) sound_under (points.splice_stays_whole t r (by_way g h) p n c h carry site free_p.whole sound_under))

  renamed : Renamed t (spliced p) (spliced q)
  renamed = subst (λ z. Renamed t (spliced p) (spliced z)) under_is (points.splice_renamed t r (by_way g h) p n c h carry site free_p.whole (subst (λ z. WellFormed (spliced z)) (sym under_is) whole_q))

  b_is : with_body twins ahead g ≡ spliced p
  b_is = splice_is b g at i call.0 f

  abbrev new : Twins
  new = spliced_twins twins ahead g (spliced q) t

  stands_p : Stands p
  stands_p = others.stands_b b c g h r going.same fb fc gh fg at i call.0 f sig

  put : Put twins new point.0
  put =
      record {
        same = subst (λ z. Renamed t z (spliced q)) (sym b_is) renamed;
        numbers = whole_q.blocks;
        own = λ x j. subst (λ z. In (sides.caller_block x) (block_numbers z.blocks)) (sym b_is) (others.own_there p distinct_sides stands_p x j);
        keeps = λ x j. carry.caller_block x ∙ keeps.blocks (r.block x);
        others = λ x j off. others_stay q keeps going.numbers whole_q.blocks x j off;
        callees = λ j d e. own_callee c h j d e;
      }

  -- the site's kind is that of the own line
  kind_is : kind_of l.inst ≡ Within → kind_of f.line.inst ≡ Within
  kind_is e = others.kind_back r (kind_of f.line.inst) (sym (kind_same r f.line.inst) ∙ (ap (λ z. kind_of z.inst) line_is ∙ e))

  place_in : In point.0 (block_numbers c.blocks)
  place_in = subst (λ z. In z (block_numbers c.blocks)) at_is (found_number (r.block at) c.blocks (block_under r f.block) there)

  put_within : kind_of l.inst ≡ Within → PutWithin twins new point n.after
  put_within e =
      record {
        put = put;
        behind = subst (λ z. In 2 (block_numbers z.blocks)) (sym b_is) (found_number 2 (spliced p).blocks (after_block p) (after_is p distinct_sides stands_p (kind_is e)));
        is = carry.after;
        text = behind_there q keeps e place_in whole_q.blocks;
        fresh = keeps.fresh;
      }

  spliced_here : Spliced task twins new point n.after l
  spliced_here =
      record {
        put = put;
        within = put_within;
        fit = subst (Fit task.bodies) (sym b_is) (record { whole = free_p.whole; accepted = free_p.accepted; states = others.states_more task.bodies b g fit.states fit_g.states });
        whole = whole_q;
      }

-- the splice of a body that is the definition's up to numbering is such a one
pub splices : (task : Task) (ahead : Ahead) (l : Line) (twins : Twins) (point : Point) (count : ℕ) → Going task (before_line l ahead) twins point count → Fit task.bodies twins.body → WellFormed twins.code → (g h : Function) → Inlines task ahead l twins g → Fit task.bodies g → SameFunction g h → (n : Naming) → KeepsCaller n twins.code → IsSound (spliced (code_splice n twins point l h)) → (names : Renaming) × Spliced task twins (spliced_twins twins ahead g (spliced (code_splice n twins point l h)) names) point n.after l
splices task ahead l twins point count going fit wc g h inlines fit_g gh n keeps sound = (joined twins.names (by_way g h) n, spliced_here task ahead l twins point count going fit wc g h inlines fit_g gh n keeps sound)

-- a function of an accepted module fits, and so do the finished bodies that go into it
pub finished_fit : (p : Policy) (m : Module) → IsModule m → Accepted m → (f : Function) → In f m → Fit (finished_body p m f.name) f × ((x : FuncName) (g : Function) → finished_body p m f.name x ≡ Some g → Fit (finished_body p m f.name) g)
finished_fit p m is ok f there = (
  record { whole = others.f_whole p m is ok f there; accepted = (others.free_f p m is ok f there).accepted; states = others.f_states p m is ok f there },
  λ x g e. let t = others.good p m is ok f there x g e in record { whole = t.0.whole; accepted = t.0.accepted; states = t.1 },
)

-- when all own lines are behind, the code's body is the finished one up to numbering, and the count is its count
pub done_is_finished : (p : Policy) (m : Module) → IsModule m → Accepted m → (f : Function) → In f m → (twins : Twins) (count : ℕ) → Done (finishing p m f) twins count → WellFormed twins.code → SameFunction (finished p m f) twins.code × (count ≡ inlined p m f)
done_is_finished p m is ok f there twins count done whole =
    let kept = finished_accepted p m is ok in
    let here : In (finished p m f) (passed p m) = function_in f.name (passed p m) (finished p m f) (others.passed_is p m is ok f there f.name f (found_by_name m is.names f there)) in
    let w : WellFormed (finished p m f) = each_in WellFormed (passed p m) kept.0.whole (finished p m f) here in
    let same : Renamed twins.names (finished p m f) twins.code = subst (λ z. Renamed twins.names z twins.code) (sym (finished_equation p m is f there)) done.same in
    ((w, whole, sym (renamed_is_same twins.names (finished p m f) twins.code w whole same)), done.counted)
