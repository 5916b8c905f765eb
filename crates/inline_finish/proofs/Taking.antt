-- At an own line that is a site: what it calls, whether the body is taken, and the step behind it.
use Rattle.std.proofs.Common.{◌≡◌, inl, inr, ℕ, suc, ◌+◌, ◌<◌, List, [], ◌∷◌, length, drop, Option, Some, None, true, false, refl, sym, ap, ◌∙◌, subst, add-one, arith}
use Rattle.std.specs.Prelude.{slice_get, nat_le}
use Rattle.std.proofs.lemmas.Bool.{leb-true, and_parts}
use Rattle.std.proofs.lemmas.List.{length-drop}
use Rattle.ir_core.specs.declared.declarations.Callee.{Callee}
use Rattle.ir_core.specs.declared.places.Point.{Point}
use Rattle.ir_core.specs.Module.{Line, Function, Module}
use Rattle.ir_core.specs.Edits.{lines_of}
use Rattle.ir_core.specs.Lists.{In}
use Rattle.ir_core.specs.Lookup.{and_then, block_numbers}
use Rattle.ir_core.specs.Size.{size_of}
use Rattle.ir_core.specs.Sound.{IsSound}
use Rattle.ir_core.specs.Uses.{callee_of}
use Rattle.ir_core.specs.WellFormed.{WellFormed}
use Rattle.ir_core.proofs.Gets.{some_same, in_get}
use Rattle.ir_core.proofs.Members.{each_in}
use Rattle.ir_semantics.specs.Canon.{SameFunction}
use Rattle.ir_semantics.specs.Renaming.{Renaming}
use Rattle.ir_semantics.specs.Splice.{Naming, sides, spliced, kind_of, Within}
use Rattle.ir_semantics.proofs.SafetyPlaces.{some_and}
use Rattle.avail_flow.proofs.Blocks.{line_found}
use Rattle.call_graph.specs.Reach.{called_names}
use Rattle.inline_body.proofs.Ready.{is_within}
use Rattle.inline_body.specs.PlainCall.{IsSplice, splicing_at}
use Rattle.inline_caller.specs.Replacing.{CanReplace, plain, tail, tries}
use Rattle.inline_pass.specs.Policy.{Policy, takes}
use Rattle.inline_pass.specs.Sites.{is_site}
use Rattle.inline_pass.specs.Finished.{finished}
use Rattle.inline_pass.specs.Going.{Task, Ahead, Twins, Going, body_called, with_body, spliced_twins, Fit, finishing}
use Rattle.inline_pass.proofs.Steps.{Refused, Inlines}
use Rattle.inline_pass.proofs.Finishing.{own_text}
use Rattle.inline_pass.proofs.Going.{calls, takes_call, takes_last}
use Rattle.inline_pass.proofs.Putting.{KeepsCaller, Spliced, splices, finished_fit}
use Rattle.splice_bounds.specs.Laws.{WithinLimit, PlainCallHasNumbers, TailCallHasNumbers, TryCallHasNumbers}
use Rattle.splice_size.specs.Laws.{SpliceSizeUnder}
use Rattle.inline_finish.specs.declared.deciding.Taken.{Taken}
use Rattle.inline_finish.specs.Bodies.{IsBodyOf, HasCallees}
use Rattle.inline_finish.specs.Deciding.{IsSite, IsDecided}
use Rattle.inline_finish.specs.Midway.{IsReady, point_of, Twin, twins_of, Left, ahead_of, Midway, Behind, IsOwnLine}
use Rattle.call_graph.specs.Marks.{target_by}
use Rattle.inline_finish.specs.Targets.{targets_in}
use Rattle.inline_finish.proofs.Places as places
use Rattle.inline_finish.proofs.Replaceable.{replaceable}
use Rattle.inline_finish.proofs.Naming.{named, not_named, target_apart, body_found, no_body}

-- ---- what an own line calls

pub site_index : (o : Option ℕ) → is_site o ≡ true → (j : ℕ) × (o ≡ Some j)
site_index None h = cc
site_index (Some j) h = (j, refl)

is_site_of : (o : Option ℕ) (j : ℕ) → o ≡ Some j → is_site o ≡ true
is_site_of o j e = ap is_site e

declared_at : (f : Function) → WellFormed f → (block : ℕ) (l : Line) → IsOwnLine f block l → (j : ℕ) → callee_of l.inst ≡ Some j → (d : Callee) × (slice_get f.callees j ≡ Some d) × In d.name (called_names f f.blocks)
declared_at f w block l own j is =
    let t = in_get (lines_of block f.blocks) l own in
    let u = line_found block f.blocks t.0 l t.1 in
    (own_text f w (block, t.0)).callee u.0 l j u.1 u.2 is

module _ (p : Policy) (m : Module) (f : Function) (ready : IsReady p m f) (block : ℕ) (l : Line) (own : IsOwnLine f block l) where
  abbrev task : Task
  task = finishing p m f

  pub fits : Fit task.bodies f
  fits = (finished_fit p m ready.functions ready.accepted f ready.there).0

  -- the function that it calls has a body
  pub has_target : (k : ℕ) (has : List ℕ) → target_by (targets_in m f) l ≡ Some k → HasCallees m f has → In k has
  has_target k has h all =
      let n = named m f l k h in
      let d = declared_at f fits.whole block l own n.index n.is in
      let same : d.0 ≡ n.callee = some_same (sym d.1 ∙ n.has) in
      let t = target_apart m f.name n.callee.name k n.target in
      all n.callee.name (subst (λ z. In z (called_names f f.blocks)) (ap (λ (z : Callee). z.name) same) d.2) t.0 k t.1

  module _ (left : Left) (code : Function) (at : Point) (count : ℕ) (mid : Midway task (record { lines = l ∷ left.lines; rest = left.rest }) code at count) where
    abbrev ahead : Ahead
    ahead = ahead_of mid.place left

    abbrev twins : Twins
    twins = twins_of mid.twin code

    called_is : (j : ℕ) (d : Callee) → callee_of l.inst ≡ Some j → slice_get f.callees j ≡ Some d → body_called task twins ahead ≡ task.bodies d.name
    called_is j d is has = ap (λ o. and_then o task.bodies) (calls task ahead l twins (point_of at) count mid.going j d is has)

    -- no function in another piece
    pub refused_none : target_by (targets_in m f) l ≡ None → is_site (callee_of l.inst) ≡ true → Refused task ahead twins
    refused_none h s =
        let j = site_index (callee_of l.inst) s in
        let d = declared_at f fits.whole block l own j.0 j.1 in
        (None, called_is j.0 d.0 j.1 d.1 ∙ no_body p m f.name d.0.name (not_named m f l j.0 d.0 h j.1 d.1), λ g e. cc)

    -- h is the body of what the line calls, up to numbering
    pub record BodyThere (h : Function) : Type 0 where
      pub site : is_site (callee_of l.inst) ≡ true
      pub index : ℕ
      pub is : callee_of l.inst ≡ Some index
      pub body : Function
      pub called : body_called task twins ahead ≡ Some body
      pub fit : Fit task.bodies body
      pub same : SameFunction body h

    pub body_there : (k : ℕ) (h : Function) → target_by (targets_in m f) l ≡ Some k → IsBodyOf p m k h → BodyThere h
    body_there k h e is =
        let n = named m f l k e in
        let g = some_and (slice_get m k) (λ g. SameFunction (finished p m g) h) is in
        let found = body_found p m f.name n.callee.name k g.0 n.target g.1 in
        record {
          site = is_site_of (callee_of l.inst) n.index n.is;
          index = n.index;
          is = n.is;
          body = finished p m g.0;
          called = called_is n.index n.callee n.is n.has ∙ found;
          fit = (finished_fit p m ready.functions ready.accepted f ready.there).1 n.callee.name (finished p m g.0) found;
          same = g.2;
        }

    module _ (whole : WellFormed code) (h : Function) (there : BodyThere h) where
      -- its size can be told
      pub site_there : IsSite code h at l
      site_there n = places.sited task ahead l twins at count mid.going mid.fit whole there.body h there.called there.fit there.same n

      takes_same : SpliceSizeUnder → (n : Naming) → takes p h (spliced (splicing_at n code h at l)) ≡ takes p there.body (with_body twins ahead there.body)
      takes_same law n = places.takes_is task ahead l twins at count mid.going mid.fit whole there.body h there.called there.fit there.same n law p

      -- not taken
      pub refused_some : SpliceSizeUnder → IsDecided p code h at l None → Refused task ahead twins
      refused_some law decided =
          (Some there.body, there.called, λ g e. subst (λ z. takes p z (with_body twins ahead z) ≡ false) (some_same e) (sym (takes_same law sides) ∙ decided sides))

      -- taken
      module _ (law : SpliceSizeUnder) (t : Taken) (decided : IsDecided p code h at l (Some t)) where
        pub inlines : Inlines task ahead l twins there.body
        inlines = record { site = there.site; body = there.called; taken = sym (takes_same law sides) ∙ decided.0 sides }

        pub small : (n : Naming) → WithinLimit n code h at l
        small n =
            let both = and_parts (nat_le (size_of h) p.callee_size) (nat_le (size_of (spliced (splicing_at n code h at l))) p.caller_size) (decided.0 n) in
            let one = leb-true (size_of h) p.callee_size both.0 in
            let other = leb-true (size_of (spliced (splicing_at n code h at l))) p.caller_size both.1 in
            let limit = ready.callee_size in
            let most = ready.caller_size in
            places.within task ahead l twins at count mid.going mid.fit whole there.body h there.called there.fit there.same n (omega (arith, one, limit)) (omega (arith, other, most))

        -- so it can be replaced
        pub can_replace : PlainCallHasNumbers → TailCallHasNumbers → TryCallHasNumbers → CanReplace code h at
        can_replace plain_law tail_law try_law = replaceable code h at l plain_law tail_law try_law there.index there.is (small sides)

        pub line_at : slice_get (lines_of at.block code.blocks) at.index ≡ Some l
        line_at = places.line_in task ahead l twins at count mid.going mid.fit whole there.body h there.called there.fit there.same

        none_left : at.index + 1 ≡ length (lines_of at.block code.blocks) → left.lines ≡ []
        none_left last =
            let cut : length (drop at.index (lines_of at.block code.blocks)) ≡ length (l ∷ left.lines) = ap length mid.going.text in
            let long = length-drop at.index (lines_of at.block code.blocks) in
            no_more left.lines (omega (arith, last, cut, long))
          where
            no_more : (ls : List Line) → length (l ∷ ls) ≡ 1 → ls ≡ []
            no_more [] e = refl
            no_more (x ∷ ls) e = absurd (omega (arith, e))

        -- the step behind it
        module _ (can : CanReplace code h at) (before : IsSound code) (new : Function) (splice : IsSplice code h at new) (after : IsSound new) where
          pub new_is : new ≡ spliced (splicing_at splice.naming code h at l)
          new_is = splice.is ∙ places.spliced_there task ahead l twins at count mid.going mid.fit whole there.body h there.called there.fit there.same splice.naming

          pub keeps : KeepsCaller splice.naming code
          keeps =
              record {
                values = splice.keeps.caller_value;
                blocks = splice.keeps.caller_block;
                fresh = λ i. let below = each_in (λ n. n < length code.blocks) (block_numbers code.blocks) before.block_range splice.naming.after i in let is = splice.keeps.after in omega (arith, below, is);
              }

          abbrev made : Function
          made = spliced (splicing_at splice.naming code h at l)

          pub put : (names : Renaming) × Spliced task twins (spliced_twins twins ahead there.body made names) (point_of at) splice.naming.after l
          put = splices task ahead l twins (point_of at) count mid.going mid.fit whole there.body h inlines there.fit there.same splice.naming keeps (subst IsSound new_is after)

          abbrev next_twin : Twin
          next_twin = record { body = with_body twins ahead there.body; now = (spliced_twins twins ahead there.body made put.0).now; names = put.0 }

          pub taken : Behind task left new (record { block = length code.blocks + 1; index = 0 }) (count + 1)
          taken = subst (λ z. Behind task left z (record { block = length code.blocks + 1; index = 0 }) (count + 1)) (sym new_is) (subst (λ n. Behind task left made (record { block = length code.blocks + 1; index = 0 }) n) (sym (add-one count)) (by can))
            where
              last : at.index + 1 ≡ length (lines_of at.block code.blocks) → Behind task left made (record { block = length code.blocks + 1; index = 0 }) (suc count)
              last e =
                  let none = none_left e in
                  inr (none, record { twin = next_twin; onward = takes_last task ahead l twins (point_of at) count mid.going none there.body made put.0 inlines put.1.put; fit = put.1.fit; whole = put.1.whole })

              by : CanReplace code h at → Behind task left made (record { block = length code.blocks + 1; index = 0 }) (suc count)
              by (plain c) =
                  let kind : kind_of l.inst ≡ Within = subst (λ (z : Line). kind_of z.inst ≡ Within) (some_same (sym c.found ∙ line_at)) (is_within c.line.inst c.plain) in
                  inl (record {
                    place = (mid.place.0, suc mid.place.1);
                    twin = next_twin;
                    going = subst (λ n. Going task (ahead_of (mid.place.0, suc mid.place.1) left) (twins_of next_twin made) (n, 0) (suc count)) splice.keeps.after (takes_call task ahead l twins (point_of at) count mid.going there.body made put.0 splice.naming.after inlines (put.1.within kind));
                    fit = put.1.fit;
                    whole = put.1.whole;
                  })
              by (tail c) = last c.last
              by (tries c) = last c.last
