-- The loop over a function's own lines keeps its invariant.
use Rattle.std.proofs.Common.{◌≡◌, ℕ, zero, suc, ◌+◌, ◌-◌, ◌<◌, inl, inr, List, [], ◌∷◌, ◌++◌, map, drop, Option, Some, None, Bool, true, false, ◌&&◌, nat_lt, refl, sym, ap, ap₂, ◌∙◌, subst, arith, eq-eqb, ne_eqb, lt-ltb, append_assoc}
use Rattle.std.specs.Prelude.{slice_get, if◌then◌else◌}
use Rattle.std.proofs.lemmas.Bool.{cases_eq}
use Rattle.ir_core.specs.declared.declarations.Callee.{Callee}
use Rattle.ir_core.specs.Module.{CallTarget, Direct, Indirect, call_target, Instruction, Plain, Branches, SequencePoint, Return, Call, ReturnCall, TryCall, Line, Block, Function}
use Rattle.ir_core.specs.Lookup.{and_then, find_block, block_numbers}
use Rattle.ir_core.specs.Lists.{In, Each, Different}
use Rattle.ir_core.specs.Edits.{lines_of}
use Rattle.ir_core.specs.Uses.{named_callee, callee_of}
use Rattle.ir_core.specs.WellFormed.{WellFormed}
use Rattle.ir_core.proofs.Members.{in_map}
use Rattle.ir_semantics.specs.Renaming.{Renaming, called_under, instruction_under, line_under, block_under}
use Rattle.ir_semantics.specs.Splice.{sides}
use Rattle.inline_outcomes.proofs.Local.{try_target_called}
use Rattle.inline_numbering.specs.Renamed.{Renamed}
use Rattle.inline_numbering.proofs.Same.{blocks_number, renamed_itself}
use Rattle.inline_pass.specs.Policy.{takes}
use Rattle.inline_pass.specs.Sites.{Point, is_site, sites_in, own_sites, point_behind, called}
use Rattle.inline_pass.specs.Finished.{callee_at, inline_by, finish_by}
use Rattle.inline_pass.specs.Inlined.{inlined_by, inlined_with}
use Rattle.inline_pass.specs.Going.{Task, Ahead, Twins, Later, Going, Onward, before_block, before_line, behind_line, sites_left, stands, body_called, with_body, spliced_twins}
use Rattle.inline_pass.proofs.Steps.{untouched, Refused, Inlines, Put, PutWithin}
use Rattle.inline_pass.proofs.Tracking.{get_of_map}

-- ---- lists

pub get_first : (xs : List Line) (n : ℕ) (l : Line) (ls : List Line) → drop n xs ≡ l ∷ ls → slice_get xs n ≡ Some l
get_first [] zero l ls e = cc
get_first [] (suc n) l ls e = cc
get_first (x ∷ xs) zero l ls e = let q : x ≡ l = cc in ap (λ z. Some z) q
get_first (x ∷ xs) (suc n) l ls e = get_first xs n l ls e

drop_next : (xs : List Line) (n : ℕ) (l : Line) (ls : List Line) → drop n xs ≡ l ∷ ls → drop (suc n) xs ≡ ls
drop_next [] zero l ls e = cc
drop_next [] (suc n) l ls e = cc
drop_next (x ∷ xs) zero l ls e = cc
drop_next (x ∷ xs) (suc n) l ls e = drop_next xs n l ls e

-- ---- a block of the definition's body, and its lines in the code's

find_under : (r : Renaming) (bs : List Block) (x : ℕ) → In x (block_numbers bs) → Different (map r.block (block_numbers bs)) → (k : Block) × (find_block x bs ≡ Some k) × (lines_of (r.block x) (map (block_under r) bs) ≡ map (line_under r) k.lines)
find_under r [] x i d = elim i [ ]
find_under r (b ∷ bs) x i d =
    elim (cases_eq b.number x) [
      | inl e ↦ (b, ap (λ c. if c then Some b else find_block x bs) (eq-eqb b.number x e), ap (λ c. if c then map (line_under r) b.lines else lines_of (r.block x) (map (block_under r) bs)) (eq-eqb (r.block b.number) (r.block x) (ap r.block e)))
      | inr e ↦
          let j : In x (block_numbers bs) = elim i [ inl q ↦ absurd (e (sym q)) | inr q ↦ q ] in
          let t = find_under r bs x j d.1 in
          let off : r.block b.number ≡ r.block x → ⊥ = λ q. d.0 (subst (λ z. In z (map r.block (block_numbers bs))) (sym q) (in_map r.block x (block_numbers bs) j)) in
          (t.0, ap (λ c. if c then Some b else find_block x bs) (ne_eqb b.number x e) ∙ t.1, ap (λ c. if c then map (line_under r) b.lines else lines_of (r.block x) (map (block_under r) bs)) (ne_eqb (r.block b.number) (r.block x) off) ∙ t.2)
    ]

target_stays : (r : Renaming) → ((k : ℕ) → r.callee k ≡ k) → (t : CallTarget) → named_callee (called_under r t) ≡ named_callee t
target_stays r h (Direct k) = ap (λ z. Some z) (h k)
target_stays r h (Indirect s a) = refl

pub callee_stays : (r : Renaming) → ((k : ℕ) → r.callee k ≡ k) → (i : Instruction) → callee_of (instruction_under r i) ≡ callee_of i
callee_stays r h (Call t args) = target_stays r h t
callee_stays r h (ReturnCall t args) = target_stays r h t
callee_stays r h (TryCall t sg args n u) = ap named_callee (try_target_called r t sg) ∙ target_stays r h (call_target t sg)
callee_stays r h (Plain a) = refl
callee_stays r h (Branches a) = refl
callee_stays r h SequencePoint = refl
callee_stays r h (Return a) = refl

named : (b : Function) (x n j : ℕ) (k : Block) (l : Line) (d : Callee) → find_block x b.blocks ≡ Some k → slice_get k.lines n ≡ Some l → callee_of l.inst ≡ Some j → slice_get b.callees j ≡ Some d → called b x n ≡ Some d.name
named b x n j k l d e1 e2 e3 e4 =
    ap (λ o. and_then o (λ k. and_then (slice_get k.lines n) (λ l. and_then (callee_of l.inst) (λ j. and_then (slice_get b.callees j) (λ d. Some d.name))))) e1
    ∙ (ap (λ o. and_then o (λ l. and_then (callee_of l.inst) (λ j. and_then (slice_get b.callees j) (λ d. Some d.name)))) e2
    ∙ (ap (λ o. and_then o (λ j. and_then (slice_get b.callees j) (λ d. Some d.name))) e3
    ∙ ap (λ o. and_then o (λ d. Some d.name)) e4))

-- a block of the definition's body is one of the code's, under its other number
in_code : (twins : Twins) → Renamed twins.names twins.body twins.code → (x n : ℕ) → In x (block_numbers twins.body.blocks) → twins.names.block x ≡ n → In n (block_numbers twins.code.blocks)
in_code twins same x n i e =
    subst (In n) (sym (ap block_numbers same.blocks ∙ blocks_number twins.names twins.body.blocks)) (subst (λ z. In z (map twins.names.block (block_numbers twins.body.blocks))) e (in_map twins.names.block x (block_numbers twins.body.blocks) i))

-- ---- at an own line

module _ (task : Task) (ahead : Ahead) (l : Line) (twins : Twins) (point : Point) (count : ℕ) (g : Going task (before_line l ahead) twins point count) where
  pub here_is : stands twins ahead ≡ (g.block, point.1)
  here_is =
      let a : ahead.line ≡ ahead.line + 0 = omega arith in
      let e : point.1 + 0 ≡ point.1 = omega arith in
      ap (λ (z : ℕ). twins.now (ahead.block, z)) a ∙ (g.here 0 ∙ ap (λ (z : ℕ). (g.block, z)) e)

  next_is : (j : ℕ) → twins.now (ahead.block, suc ahead.line + j) ≡ (g.block, suc point.1 + j)
  next_is j =
      let a : suc ahead.line + j ≡ ahead.line + suc j = omega arith in
      let e : point.1 + suc j ≡ suc point.1 + j = omega arith in
      ap (λ (z : ℕ). twins.now (ahead.block, z)) a ∙ (g.here (suc j) ∙ ap (λ (z : ℕ). (g.block, z)) e)

  pub calls_here : (j : ℕ) (d : Callee) → callee_of l.inst ≡ Some j → slice_get task.function.callees j ≡ Some d → called twins.body (stands twins ahead).0 (stands twins ahead).1 ≡ Some d.name
  calls_here j d is has =
      let n : block_numbers twins.code.blocks ≡ map twins.names.block (block_numbers twins.body.blocks) = ap block_numbers g.same.blocks ∙ blocks_number twins.names twins.body.blocks in
      let t = find_under twins.names twins.body.blocks g.block g.there (subst Different n g.numbers) in
      let lines : lines_of point.0 twins.code.blocks ≡ map (line_under twins.names) t.0.lines = ap₂ (λ (x : ℕ) (bs : List Block). lines_of x bs) (sym g.is) g.same.blocks ∙ t.2 in
      let got = get_of_map (line_under twins.names) t.0.lines point.1 l (ap (λ z. slice_get z point.1) (sym lines) ∙ get_first (lines_of point.0 twins.code.blocks) point.1 l ahead.lines g.text) in
      let callee : callee_of got.0.inst ≡ Some j = sym (callee_stays twins.names g.same.callee got.0.inst) ∙ (ap (λ (z : Line). callee_of z.inst) got.2 ∙ is) in
      let declared : slice_get twins.body.callees j ≡ Some d = ap (λ (z : List Callee). slice_get z j) (sym g.same.callees) ∙ g.callees j d has in
      ap (λ (q : Point). called twins.body q.0 q.1) here_is ∙ named twins.body g.block point.1 j t.0 got.0 d t.1 got.1 callee declared

  abbrev others : List Point
  others = sites_left (behind_line ahead)

  abbrev site_here : Point
  site_here = (ahead.block, ahead.line)

  sites_yes : is_site (callee_of l.inst) ≡ true → sites_left (before_line l ahead) ≡ site_here ∷ others
  sites_yes h = ap (λ (z : Bool). (if z then site_here ∷ sites_in ahead.block (suc ahead.line) ahead.lines else sites_in ahead.block (suc ahead.line) ahead.lines) ++ own_sites ahead.rest) h

  sites_no : is_site (callee_of l.inst) ≡ false → sites_left (before_line l ahead) ≡ others
  sites_no h = ap (λ (z : Bool). (if z then site_here ∷ sites_in ahead.block (suc ahead.line) ahead.lines else sites_in ahead.block (suc ahead.line) ahead.lines) ++ own_sites ahead.rest) h

  abbrev after_it : Point → Point
  after_it q = point_behind (stands twins ahead).0 (stands twins ahead).1 (twins.now q)

  -- what is made of the sites that are left, and how many of them are inlined
  abbrev made : (Point → Point) → List Point → Function → Function
  made now ss b = inline_by task.bodies task.policy now ss b

  abbrev many : (Point → Point) → List Point → Function → ℕ
  many now ss b = inlined_by task.bodies task.policy now ss b

  abbrev made_by : Option Function → Function
  made_by o = elim o [ None ↦ made twins.now others twins.body | Some h ↦ if takes task.policy h (with_body twins ahead h) then made after_it others (with_body twins ahead h) else made twins.now others twins.body ]

  abbrev many_by : Option Function → ℕ
  many_by o = elim o [ None ↦ many twins.now others twins.body | Some h ↦ if takes task.policy h (with_body twins ahead h) then suc (many after_it others (with_body twins ahead h)) else many twins.now others twins.body ]

  made_here : (o : Option Function) → body_called task twins ahead ≡ o → made twins.now (site_here ∷ others) twins.body ≡ made_by o
  made_here o e = ap made_by e

  many_here : (o : Option Function) → body_called task twins ahead ≡ o → many twins.now (site_here ∷ others) twins.body ≡ many_by o
  many_here o e = ap many_by e

  made_stays : Refused task ahead twins → made twins.now (site_here ∷ others) twins.body ≡ made twins.now others twins.body
  made_stays (None, e, no_body) = made_here None e
  made_stays (Some h, e, refused) = made_here (Some h) e ∙ ap (λ (z : Bool). if z then made after_it others (with_body twins ahead h) else made twins.now others twins.body) (refused h refl)

  many_stays : Refused task ahead twins → many twins.now (site_here ∷ others) twins.body ≡ many twins.now others twins.body
  many_stays (None, e, no_body) = many_here None e
  many_stays (Some h, e, refused) = many_here (Some h) e ∙ ap (λ (z : Bool). if z then suc (many after_it others (with_body twins ahead h)) else many twins.now others twins.body) (refused h refl)

  made_then : (o : Bool) → is_site (callee_of l.inst) ≡ o → (is_site (callee_of l.inst) ≡ true → Refused task ahead twins) → made twins.now others twins.body ≡ made twins.now (sites_left (before_line l ahead)) twins.body
  made_then true e h = sym (made_stays (h e)) ∙ ap (λ ss. made twins.now ss twins.body) (sym (sites_yes e))
  made_then false e h = ap (λ ss. made twins.now ss twins.body) (sym (sites_no e))

  many_then : (o : Bool) → is_site (callee_of l.inst) ≡ o → (is_site (callee_of l.inst) ≡ true → Refused task ahead twins) → many twins.now others twins.body ≡ many twins.now (sites_left (before_line l ahead)) twins.body
  many_then true e h = sym (many_stays (h e)) ∙ ap (λ ss. many twins.now ss twins.body) (sym (sites_yes e))
  many_then false e h = ap (λ ss. many twins.now ss twins.body) (sym (sites_no e))

  pub passes_here : (is_site (callee_of l.inst) ≡ true → Refused task ahead twins) → Going task (behind_line ahead) twins (point.0, suc point.1) count
  passes_here h =
      record {
        left = made_then (is_site (callee_of l.inst)) refl h ∙ g.left;
        counted = ap (λ z. count + z) (many_then (is_site (callee_of l.inst)) refl h) ∙ g.counted;
        same = g.same;
        numbers = g.numbers;
        block = g.block;
        there = g.there;
        here = next_is;
        is = g.is;
        text = drop_next (lines_of point.0 twins.code.blocks) point.1 l ahead.lines g.text;
        later = g.later;
        apart = g.apart;
        callees = g.callees;
      }

  -- where points go
  moves_behind : (j : ℕ) → after_it (ahead.block, suc ahead.line + j) ≡ (sides.after, 0 + j)
  moves_behind j =
      let lt : point.1 < suc point.1 + j = omega arith in
      let m : suc point.1 + j - (point.1 + 1) ≡ 0 + j = omega arith in
      ap₂ (λ (s q : Point). point_behind s.0 s.1 q) here_is (next_is j)
      ∙ (ap (λ (z : Bool). if z && nat_lt point.1 (suc point.1 + j) then (sides.after, suc point.1 + j - (point.1 + 1)) else (sides.caller_block g.block, suc point.1 + j)) (eq-eqb g.block g.block refl)
      ∙ (ap (λ (z : Bool). if z then (sides.after, suc point.1 + j - (point.1 + 1)) else (sides.caller_block g.block, suc point.1 + j)) (lt-ltb point.1 (suc point.1 + j) lt)
      ∙ ap (λ (z : ℕ). (sides.after, z)) m))

  moves_other : (x y j : ℕ) → twins.now (x, j) ≡ (y, j) → (y ≡ g.block → ⊥) → after_it (x, j) ≡ (sides.caller_block y, j)
  moves_other x y j e off =
      ap₂ (λ (s q : Point). point_behind s.0 s.1 q) here_is e ∙ ap (λ (z : Bool). if z && nat_lt point.1 j then (sides.after, j - (point.1 + 1)) else (sides.caller_block y, j)) (ne_eqb y g.block off)

  module _ (h code : Function) (names : Renaming) (inlines : Inlines task ahead l twins h) where
    abbrev new : Twins
    new = spliced_twins twins ahead h code names

    made_left : made after_it others (with_body twins ahead h) ≡ finish_by task.bodies task.policy task.function
    made_left =
        sym (made_here (Some h) inlines.body ∙ ap (λ (z : Bool). if z then made after_it others (with_body twins ahead h) else made twins.now others twins.body) inlines.taken)
        ∙ (ap (λ ss. made twins.now ss twins.body) (sym (sites_yes inlines.site)) ∙ g.left)

    many_left : suc count + many after_it others (with_body twins ahead h) ≡ inlined_with task.bodies task.policy task.function
    many_left =
        let here : many twins.now (site_here ∷ others) twins.body ≡ suc (many after_it others (with_body twins ahead h)) = many_here (Some h) inlines.body ∙ ap (λ (z : Bool). if z then suc (many after_it others (with_body twins ahead h)) else many twins.now others twins.body) inlines.taken in
        let next : suc count + many after_it others (with_body twins ahead h) ≡ count + suc (many after_it others (with_body twins ahead h)) = omega arith in
        next ∙ (ap (λ z. count + z) (sym here ∙ ap (λ ss. many twins.now ss twins.body) (sym (sites_yes inlines.site))) ∙ g.counted)

    module _ (put : Put twins new point.0) where
      later_is : (own : Block) (n : ℕ) → Later twins point.0 own → (own.number ≡ n → ⊥) → Later new n own
      later_is own n a off =
          let there : In own.number (block_numbers twins.code.blocks) = in_code twins g.same a.block own.number a.there a.is in
          record {
            block = sides.caller_block a.block;
            there = put.own a.block a.there;
            points = λ j. moves_other own.number a.block j (a.points j) (λ e. a.apart (sym a.is ∙ (ap twins.names.block e ∙ g.is)));
            is = put.keeps a.block a.there ∙ a.is;
            text = put.others own.number there a.apart ∙ a.text;
            apart = off;
          }

      all_later : (n : ℕ) (owns : List Block) → Each (Later twins point.0) owns → ((own : Block) → Later twins point.0 own → In own.number (block_numbers owns) → own.number ≡ n → ⊥) → Each (Later new n) owns
      all_later n [] a off = tt
      all_later n (own ∷ owns) a off = (later_is own n a.0 (off own a.0 (inl refl)), all_later n owns a.1 (λ x z i. off x z (inr i)))

      pub onward_here : ahead.lines ≡ [] → (owns : List Block) → owns ≡ ahead.rest → Onward task owns new (suc count)
      onward_here e [] q =
          let none : others ≡ [] = ap (λ ls. sites_in ahead.block (suc ahead.line) ls ++ own_sites ahead.rest) e ∙ ap own_sites (sym q) in
          let nothing : suc count ≡ suc count + 0 = omega arith in
          record {
            same = subst (λ z. Renamed names z code) (sym (ap (λ ss. made after_it ss (with_body twins ahead h)) none) ∙ made_left) put.same;
            counted = nothing ∙ (ap (λ ss. suc count + many after_it ss (with_body twins ahead h)) (sym none) ∙ many_left);
          }
      onward_here e (own ∷ owns) q =
          let next : others ≡ sites_in own.number 0 own.lines ++ own_sites owns = ap (λ ls. sites_in ahead.block (suc ahead.line) ls ++ own_sites ahead.rest) e ∙ ap own_sites (sym q) in
          let later : Each (Later twins point.0) (own ∷ owns) = subst (Each (Later twins point.0)) (sym q) g.later in
          let apart : Different (block_numbers (own ∷ owns)) = subst (λ bs. Different (block_numbers bs)) (sym q) g.apart in
          let first = later_is own own.number later.0 in
          let a = later.0 in
          let there : In own.number (block_numbers twins.code.blocks) = in_code twins g.same a.block own.number a.there a.is in
          record {
            left = sym (ap (λ ss. made after_it ss (with_body twins ahead h)) next) ∙ made_left;
            counted = ap (λ ss. suc count + many after_it ss (with_body twins ahead h)) (sym next) ∙ many_left;
            same = put.same;
            numbers = put.numbers;
            block = sides.caller_block a.block;
            there = put.own a.block a.there;
            here = λ j. let z : 0 + j ≡ j = omega arith in ap (λ (y : ℕ). after_it (own.number, y)) z ∙ (moves_other own.number a.block j (a.points j) (λ y. a.apart (sym a.is ∙ (ap twins.names.block y ∙ g.is))) ∙ ap (λ (y : ℕ). (sides.caller_block a.block, y)) (sym z));
            is = put.keeps a.block a.there ∙ a.is;
            text = put.others own.number there a.apart ∙ a.text;
            later = all_later own.number owns later.1 (λ x z i y. apart.0 (subst (λ w. In w (block_numbers owns)) y i));
            apart = apart.1;
            callees = λ j d y. put.callees j d (g.callees j d y);
          }

    pub takes_here : (after : ℕ) → PutWithin twins new point after → Going task (behind_line ahead) new (after, 0) (suc count)
    takes_here after within =
        let put = within.put in
        record {
          left = made_left;
          counted = many_left;
          same = put.same;
          numbers = put.numbers;
          block = sides.after;
          there = within.behind;
          here = moves_behind;
          is = within.is;
          text = within.text ∙ drop_next (lines_of point.0 twins.code.blocks) point.1 l ahead.lines g.text;
          later = all_later put after ahead.rest g.later (λ own a i e. within.fresh (in_code twins g.same a.block after a.there (a.is ∙ e)));
          apart = g.apart;
          callees = λ j d e. put.callees j d (g.callees j d e);
        }

-- what the definition's body calls at the point of an own line is what the own line calls
pub calls : (task : Task) (ahead : Ahead) (l : Line) (twins : Twins) (point : Point) (count : ℕ) → Going task (before_line l ahead) twins point count → (j : ℕ) (d : Callee) → callee_of l.inst ≡ Some j → slice_get task.function.callees j ≡ Some d → callee_at twins.body (stands twins ahead) ≡ Some d.name
calls task ahead l twins point count g j d is has = calls_here task ahead l twins point count g j d is has

-- behind a line that is no site, or at which nothing is inlined
pub passes : (task : Task) (ahead : Ahead) (l : Line) (twins : Twins) (point : Point) (count : ℕ) → Going task (before_line l ahead) twins point count → (is_site (callee_of l.inst) ≡ true → Refused task ahead twins) → Going task (behind_line ahead) twins (point.0, suc point.1) count
passes task ahead l twins point count g h = passes_here task ahead l twins point count g h

-- behind a plain call that is inlined
pub takes_call : (task : Task) (ahead : Ahead) (l : Line) (twins : Twins) (point : Point) (count : ℕ) → Going task (before_line l ahead) twins point count → (g code : Function) (names : Renaming) (after : ℕ) → Inlines task ahead l twins g → PutWithin twins (spliced_twins twins ahead g code names) point after → Going task (behind_line ahead) (spliced_twins twins ahead g code names) (after, 0) (suc count)
takes_call task ahead l twins point count g h code names after inlines put = takes_here task ahead l twins point count g h code names inlines after put

-- behind a tail call or a `try_call` that is inlined: no own line of the block stands behind it
pub takes_last : (task : Task) (ahead : Ahead) (l : Line) (twins : Twins) (point : Point) (count : ℕ) → Going task (before_line l ahead) twins point count → ahead.lines ≡ [] → (g code : Function) (names : Renaming) → Inlines task ahead l twins g → Put twins (spliced_twins twins ahead g code names) point.0 → Onward task ahead.rest (spliced_twins twins ahead g code names) (suc count)
takes_last task ahead l twins point count g e h code names inlines put = onward_here task ahead l twins point count g h code names inlines put e ahead.rest refl

-- ---- the end of a block, and of all

later_other : (twins : Twins) (at n : ℕ) (owns : List Block) → (In n (block_numbers owns) → ⊥) → Each (Later twins at) owns → Each (Later twins n) owns
later_other twins at n [] off a = tt
later_other twins at n (own ∷ owns) off a = (
  record { block = a.0.block; there = a.0.there; points = a.0.points; is = a.0.is; text = a.0.text; apart = λ e. off (inl (sym e)) },
  later_other twins at n owns (λ i. off (inr i)) a.1,
)

turns_by : (task : Task) (ahead : Ahead) (twins : Twins) (point : Point) (count : ℕ) → Going task ahead twins point count → ahead.lines ≡ [] → (owns : List Block) → owns ≡ ahead.rest → Onward task owns twins count
turns_by task ahead twins point count g e [] q =
    let none : sites_left ahead ≡ [] = ap (λ ls. sites_in ahead.block ahead.line ls ++ own_sites ahead.rest) e ∙ ap own_sites (sym q) in
    let nothing : count ≡ count + 0 = omega arith in
    record {
      same = subst (λ z. Renamed twins.names z twins.code) (sym (ap (λ ss. inline_by task.bodies task.policy twins.now ss twins.body) none) ∙ g.left) g.same;
      counted = nothing ∙ (ap (λ ss. count + inlined_by task.bodies task.policy twins.now ss twins.body) (sym none) ∙ g.counted);
    }
turns_by task ahead twins point count g e (own ∷ owns) q =
    let next : sites_left ahead ≡ sites_in own.number 0 own.lines ++ own_sites owns = ap (λ ls. sites_in ahead.block ahead.line ls ++ own_sites ahead.rest) e ∙ ap own_sites (sym q) in
    let later : Each (Later twins point.0) (own ∷ owns) = subst (Each (Later twins point.0)) (sym q) g.later in
    let apart : Different (block_numbers (own ∷ owns)) = subst (λ bs. Different (block_numbers bs)) (sym q) g.apart in
    record {
      left = sym (ap (λ ss. inline_by task.bodies task.policy twins.now ss twins.body) next) ∙ g.left;
      counted = ap (λ ss. count + inlined_by task.bodies task.policy twins.now ss twins.body) (sym next) ∙ g.counted;
      same = g.same;
      numbers = g.numbers;
      block = later.0.block;
      there = later.0.there;
      here = λ j. let z : 0 + j ≡ j = omega arith in ap (λ (y : ℕ). twins.now (own.number, y)) z ∙ (later.0.points j ∙ ap (λ (y : ℕ). (later.0.block, y)) (sym z));
      is = later.0.is;
      text = later.0.text;
      later = later_other twins point.0 own.number owns apart.0 later.1;
      apart = apart.1;
      callees = g.callees;
    }

-- behind the last line of an own block
pub turns : (task : Task) (ahead : Ahead) (twins : Twins) (point : Point) (count : ℕ) → Going task ahead twins point count → ahead.lines ≡ [] → Onward task ahead.rest twins count
turns task ahead twins point count g e = turns_by task ahead twins point count g e ahead.rest refl

-- ---- the beginning

numbers_after : (pre hs : List Block) (x : ℕ) → In x (block_numbers hs) → In x (block_numbers (pre ++ hs))
numbers_after [] hs x i = i
numbers_after (b ∷ pre) hs x i = inr (numbers_after pre hs x i)

-- the first block of the rest has its lines in the whole
first_lines : (pre hs : List Block) (h : Block) → Different (block_numbers (pre ++ (h ∷ hs))) → lines_of h.number (pre ++ (h ∷ hs)) ≡ h.lines
first_lines [] hs h d = ap (λ c. if c then h.lines else lines_of h.number hs) (eq-eqb h.number h.number refl)
first_lines (x ∷ pre) hs h d =
    ap (λ c. if c then x.lines else lines_of h.number (pre ++ (h ∷ hs))) (ne_eqb x.number h.number (λ q. d.0 (subst (λ z. In z (block_numbers (pre ++ (h ∷ hs)))) (sym q) (numbers_after pre (h ∷ hs) h.number (inl refl))))) ∙ first_lines pre hs h d.1

pub move_one : (pre hs : List Block) (h : Block) → pre ++ (h ∷ hs) ≡ (pre ++ (h ∷ [])) ++ hs
move_one pre hs h = sym (append_assoc pre (h ∷ []) hs)

all_untouched : (f : Function) (at : ℕ) (pre owns : List Block) → f.blocks ≡ pre ++ owns → Different (block_numbers f.blocks) → (In at (block_numbers owns) → ⊥) → Each (Later (untouched f) at) owns
all_untouched f at pre [] e d off = tt
all_untouched f at pre (own ∷ owns) e d off = (
  record {
    block = own.number;
    there = subst (λ z. In own.number (block_numbers z)) (sym e) (numbers_after pre (own ∷ owns) own.number (inl refl));
    points = λ j. refl;
    is = refl;
    text = ap (lines_of own.number) e ∙ first_lines pre owns own (subst (λ z. Different (block_numbers z)) e d);
    apart = λ q. off (inl (sym q));
  },
  all_untouched f at (pre ++ (own ∷ [])) owns (e ∙ move_one pre owns own) d (λ i. off (inr i)),
)

-- before the first own line
pub begins : (task : Task) (own : Block) (rest : List Block) → task.function.blocks ≡ own ∷ rest → WellFormed task.function → Going task (before_block own rest) (untouched task.function) (own.number, 0) 0
begins task own rest e w =
    let f = task.function in
    let d : Different (block_numbers (own ∷ rest)) = subst (λ z. Different (block_numbers z)) e w.blocks in
    let nothing : (n : ℕ) → 0 + n ≡ n = λ n. omega arith in
    record {
      left = ap (λ bs. inline_by task.bodies task.policy (λ q. q) (own_sites bs) f) (sym e);
      counted = nothing (inlined_by task.bodies task.policy (λ q. q) (own_sites (own ∷ rest)) f) ∙ ap (λ bs. inlined_by task.bodies task.policy (λ q. q) (own_sites bs) f) (sym e);
      same = renamed_itself f;
      numbers = w.blocks;
      block = own.number;
      there = subst (λ z. In own.number (block_numbers z)) (sym e) (inl refl);
      here = λ j. refl;
      is = refl;
      text = ap (lines_of own.number) e ∙ first_lines [] rest own d;
      later = all_untouched f own.number (own ∷ []) rest e w.blocks d.0;
      apart = d.1;
      callees = λ j x q. q;
    }
