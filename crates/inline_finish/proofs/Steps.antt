-- The steps of the loop over a function's own lines.
use Rattle.std.proofs.Common.{◌≡◌, inl, inr, ℕ, suc, ◌+◌, ◌-◌, ◌<◌, ◌^◌, List, [], ◌∷◌, length, drop, true, refl, sym, ap, ◌∙◌, subst, add-one, arith}
use Rattle.std.proofs.lemmas.List.{length-drop}
use Rattle.ir_core.specs.declared.places.Point.{Point}
use Rattle.ir_core.specs.Module.{Line, Block, Function, Module}
use Rattle.ir_core.specs.Edits.{lines_of, IsPoint}
use Rattle.ir_core.specs.Lists.{In, Each}
use Rattle.ir_core.specs.Lookup.{block_numbers}
use Rattle.ir_core.specs.Sound.{IsSound, instruction_count}
use Rattle.ir_core.specs.Uses.{callee_of}
use Rattle.ir_core.proofs.Members.{each_by, in_map}
use Rattle.ir_semantics.specs.Canon.{SameFunction}
use Rattle.inline_numbering.proofs.Same.{blocks_number}
use Rattle.inline_pass.specs.Policy.{Policy}
use Rattle.inline_pass.specs.Sites.{is_site}
use Rattle.inline_pass.specs.Finished.{finished, finished_body}
use Rattle.inline_pass.specs.Inlined.{inlined}
use Rattle.inline_pass.specs.Going.{Task, Going, Fit, finishing}
use Rattle.inline_pass.proofs.Steps.{Refused}
use Rattle.inline_pass.proofs.Going.{begins, passes, turns}
use Rattle.inline_pass.proofs.Putting.{finished_fit, done_is_finished}
use Rattle.inline_body.proofs.Ready.{index_small}
use Rattle.inline_finish.specs.declared.lines.Progress.{Progress}
use Rattle.inline_finish.specs.Midway.{IsReady, point_of, Twin, twins_of, ahead_of, Midway, Between, IsMidway, IsBehind, IsBetween, IsOwnLine, from_block, left_in, passed_line}
use Rattle.inline_finish.proofs.Blocks.{here}

-- ---- from own block to own block

pub begins_between : (p : Policy) (m : Module) (f : Function) → IsReady p m f → (code : Function) → code ≡ f → (n : ℕ) → n ≡ 0 → Between (finishing p m f) f.blocks code n
begins_between p m f ready code e n z = subst (λ x. Between (finishing p m f) f.blocks x n) (sym e) (subst (Between (finishing p m f) f.blocks f) (sym z) (go f.blocks refl))
  where
    fits : Fit (finished_body p m f.name) f
    fits = (finished_fit p m ready.functions ready.accepted f ready.there).0

    twin : Twin
    twin = record { body = f; now = λ q. q; names = record { value = λ v. v; block = λ b. b; slot = λ k. k; sig = λ k. k; callee = λ k. k } }

    go : (bs : List Block) → f.blocks ≡ bs → Between (finishing p m f) f.blocks f 0
    go [] q = absurd (fits.whole.begins q)
    go (own ∷ rest) q = subst (λ bs. Between (finishing p m f) bs f 0) (sym q) (record { twin = twin_of; onward = begins (finishing p m f) own rest q fits.whole; fit = fits; whole = fits.whole })
      where
        twin_of : Twin
        twin_of = record { body = f; now = λ q. q; names = record { value = λ v. v; block = λ b. b; slot = λ k. k; sig = λ k. k; callee = λ k. k } }

pub enters : (task : Task) (f : Function) (block : ℕ) (lines : List Line) (p : Progress) → In block (block_numbers f.blocks) → lines ≡ lines_of block f.blocks → IsBetween task (from_block block f.blocks) p → IsBehind task (left_in f block lines) (record p { at = record { block = block; index = 0 } })
enters task f block lines p i e h =
    let t = here f.blocks block i in
    let there = subst (λ bs. Between task bs p.caller p.inlined) t.from h.between in
    let line_eq : t.own.lines ≡ lines = sym t.lines ∙ sym e in
    record {
      behind = inl (subst (λ ls. Midway task (left_in f block ls) p.caller (record { block = block; index = 0 }) p.inlined) line_eq (subst (λ n. Midway task (left_in f block t.own.lines) p.caller (record { block = n; index = 0 }) p.inlined) t.number (record { place = (t.own.number, 0); twin = there.twin; going = there.onward; fit = there.fit; whole = there.whole })));
      size = h.size;
    }

pub goes_on : (task : Task) (l : Line) (lines : List Line) (rest : List Block) (p : Progress) → IsBehind task (record { lines = l ∷ lines; rest = rest }) p → IsMidway task (record { lines = l ∷ lines; rest = rest }) p
goes_on task l lines rest p h = record { midway = elim h.behind [ inl m ↦ m | inr e ↦ let no : l ∷ lines ≡ [] = e.0 in absurd cc ]; size = h.size }

pub leaves : (task : Task) (lines : List Line) (rest : List Block) (p : Progress) → lines ≡ [] → IsBehind task (record { lines = lines; rest = rest }) p → IsBetween task rest p
leaves task lines rest p e h =
    record {
      between = elim h.behind [
        | inl m ↦ record { twin = m.twin; onward = turns task (ahead_of m.place (record { lines = lines; rest = rest })) (twins_of m.twin p.caller) (point_of p.at) p.inlined m.going e; fit = m.fit; whole = m.whole }
        | inr b ↦ b.1
      ];
      size = h.size;
    }

pub ends_finished : (p : Policy) (m : Module) (f : Function) → IsReady p m f → (code : Function) (count : ℕ) → Between (finishing p m f) [] code count → SameFunction (finished p m f) code × (count ≡ inlined p m f)
ends_finished p m f ready code count h = done_is_finished p m ready.functions ready.accepted f ready.there (twins_of h.twin code) count h.onward h.whole

-- ---- the point of an own line

pub point_there : (task : Task) (l : Line) (lines : List Line) (rest : List Block) (code : Function) (at : Point) (count : ℕ) → Midway task (record { lines = l ∷ lines; rest = rest }) code at count → IsPoint code at
point_there task l lines rest code at count h =
    let r = h.twin.names in
    let g = h.going in
    let in_code : In (r.block g.block) (block_numbers code.blocks) = subst (In (r.block g.block)) (sym (ap block_numbers g.same.blocks ∙ blocks_number r h.twin.body.blocks)) (in_map r.block g.block (block_numbers h.twin.body.blocks) g.there) in
    let left : length (drop at.index (lines_of at.block code.blocks)) ≡ length (l ∷ lines) = ap length g.text in
    let long = length-drop at.index (lines_of at.block code.blocks) in
    (subst (λ n. In n (block_numbers code.blocks)) g.is in_code, omega (arith, left, long))

-- ---- a line at which nothing is inlined

pub still : (task : Task) (l : Line) (lines : List Line) (rest : List Block) (p : Progress) → (h : IsMidway task (record { lines = l ∷ lines; rest = rest }) p) → (is_site (callee_of l.inst) ≡ true → Refused task (ahead_of h.midway.place (record { lines = lines; rest = rest })) (twins_of h.midway.twin p.caller)) → IsBehind task (record { lines = lines; rest = rest }) (passed_line p)
still task l lines rest p h refused =
    let m = h.midway in
    record {
      behind = inl (record {
        place = (m.place.0, suc m.place.1);
        twin = m.twin;
        going = subst (λ n. Going task (ahead_of (m.place.0, suc m.place.1) (record { lines = lines; rest = rest })) (twins_of m.twin p.caller) (p.at.block, n) p.inlined) (sym (add-one p.at.index)) (passes task (ahead_of m.place (record { lines = lines; rest = rest })) l (twins_of m.twin p.caller) (point_of p.at) p.inlined m.going refused);
        fit = m.fit;
        whole = m.whole;
      });
      size = h.size;
    }

-- so the place behind it has a number
pub point_fits : (f : Function) (at : Point) (g : Function) → IsPoint f at → g ≡ f → IsSound g → at.index + 1 < 2 ^ 32
point_fits f at g i e s =
    let few : instruction_count f.blocks < 2 ^ 32 - 1 = subst (λ (z : Function). instruction_count z.blocks < 2 ^ 32 - 1) e s.small.instructions in
    let most = index_small at.block f.blocks in
    let below = i.1 in
    omega (arith, few, most, below)

pub all_own : (f : Function) (block : ℕ) (lines : List Line) → lines ≡ lines_of block f.blocks → Each (IsOwnLine f block) lines
all_own f block lines e = subst (Each (IsOwnLine f block)) (sym e) (each_by (IsOwnLine f block) (lines_of block f.blocks) (λ l i. i))
