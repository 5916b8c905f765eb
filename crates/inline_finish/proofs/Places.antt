-- The point of an own line in the code's function: what is called there, and the splice there.
use Rattle.std.proofs.Common.{◌≡◌, ℕ, suc, ◌≤◌, List, map, take, drop, Some, Bool, ◌&&◌, sym, ap, ap₂, ◌∙◌, subst}
use Rattle.std.specs.Prelude.{slice_get, nat_le}
use Rattle.ir_core.specs.declared.names.FuncName.{FuncName}
use Rattle.ir_core.specs.declared.places.Point.{Point}
use Rattle.ir_core.specs.Module.{Line, Function}
use Rattle.ir_core.specs.Edits.{lines_of}
use Rattle.ir_core.specs.Lookup.{find_block}
use Rattle.ir_core.specs.Size.{size_of}
use Rattle.ir_core.specs.WellFormed.{WellFormed}
use Rattle.ir_semantics.specs.Canon.{SameFunction}
use Rattle.ir_semantics.specs.Renaming.{Renaming, line_under, block_under}
use Rattle.ir_semantics.specs.Splice.{Naming, Splicing, spliced, splice_with}
use Rattle.ir_semantics.proofs.SafetyTypes.{then_some}
use Rattle.avail_flow.proofs.Blocks.{found_parts}
use Rattle.inline_outcomes.specs.Stands.{Stands}
use Rattle.inline_acceptance.proofs.Alone.{Free, free_same}
use Rattle.inline_numbering.specs.Carried.{SiteUnder, splicing_under}
use Rattle.inline_numbering.proofs.Same.{by_way, way_renamed, renamed_is_same}
use Rattle.inline_numbering.proofs.Sizes.{size_renamed}
use Rattle.inline_numbering.proofs.Places as points
use Rattle.inline_pass.specs.Policy.{Policy, takes}
use Rattle.inline_pass.specs.Sites.{called}
use Rattle.inline_pass.specs.Going.{Task, Ahead, Twins, Going, before_line, stands, body_called, with_body, Fit}
use Rattle.inline_pass.proofs.Putting.{code_splice}
use Rattle.inline_pass.proofs.Going.{here_is, get_first}
use Rattle.inline_pass.proofs.Passing.{Found, found, at_place, splice_is}
use Rattle.inline_pass.proofs.Others as others
use Rattle.splice_bounds.specs.Laws.{WithinLimit}
use Rattle.splice_size.specs.Laws.{Sited, SpliceSizeUnder}
use Rattle.inline_finish.specs.Midway.{point_of}
use Rattle.ir_core.proofs.Cutting.{cut_list}
use Rattle.ir_core.proofs.Gets.{some_same, get_in}

abbrev takes_of : Policy → ℕ → ℕ → Bool
takes_of p body result = nat_le body p.callee_size && nat_le result p.caller_size

-- h is g up to numbering, the body of what the own line calls
module _ (task : Task) (ahead : Ahead) (l : Line) (twins : Twins) (at_code : Point) (count : ℕ) (going : Going task (before_line l ahead) twins (point_of at_code) count) (fit : Fit task.bodies twins.body) (wc : WellFormed twins.code) (g h : Function) (called_g : body_called task twins ahead ≡ Some g) (fit_g : Fit task.bodies g) (gh : SameFunction g h) where
  abbrev b : Function
  b = twins.body

  abbrev c : Function
  c = twins.code

  abbrev r : Renaming
  r = twins.names

  abbrev at : ℕ
  at = (stands twins ahead).0

  abbrev i : ℕ
  i = (stands twins ahead).1

  pub fb : Free b
  fb = record { whole = fit.whole; accepted = fit.accepted }

  pub fg : Free g
  fg = record { whole = fit_g.whole; accepted = fit_g.accepted }

  pub fh : Free h
  fh = free_same g h gh fg

  pub fc : Free c
  fc = free_same b c (fit.whole, wc, sym (renamed_is_same r b c fit.whole wc going.same)) fb

  pub call : (y : FuncName) × (called b at i ≡ Some y) × (task.bodies y ≡ Some g)
  call = then_some (called b at i) task.bodies g called_g

  pub f : Found b at i call.0
  f = found b at i call.0 call.1

  pub sig : slice_get b.sigs f.callee.sig ≡ Some g.sig
  sig = fit.states f.callee (get_in b.callees f.index f.callee f.has) g (ap task.bodies f.name ∙ call.2)

  abbrev p : Splicing
  p = at_place b g at i call.0 f

  -- the block there, and the line
  there : find_block (r.block at) c.blocks ≡ Some (block_under r f.block)
  there = others.other_found b c g h r going.same fb fc gh fg at i call.0 f sig

  here : stands twins ahead ≡ (going.block, at_code.index)
  here = here_is task ahead l twins (point_of at_code) count going

  at_is : r.block at ≡ at_code.block
  at_is = ap (λ z. r.block z.0) here ∙ going.is

  i_is : i ≡ at_code.index
  i_is = ap (λ z. z.1) here

  pub block_there : find_block at_code.block c.blocks ≡ Some (block_under r f.block)
  block_there = ap (λ x. find_block x c.blocks) (sym at_is) ∙ there

  text : lines_of at_code.block c.blocks ≡ map (line_under r) f.block.lines
  text = (found_parts at_code.block c.blocks (block_under r f.block) block_there).1

  pub line_in : slice_get (lines_of at_code.block c.blocks) at_code.index ≡ Some l
  line_in = get_first (lines_of at_code.block c.blocks) at_code.index l ahead.lines going.text

  pub line_there : slice_get (map (line_under r) f.block.lines) at_code.index ≡ Some l
  line_there = ap (λ ls. slice_get ls at_code.index) (sym text) ∙ line_in

  line_is : line_under r f.line ≡ l
  line_is =
      let got : slice_get (map (line_under r) f.block.lines) i ≡ Some (line_under r f.line) = points.get_map (line_under r) f.block.lines i f.line f.get in
      some_same (sym got ∙ (ap (slice_get (map (line_under r) f.block.lines)) i_is ∙ line_there))

  site : SiteUnder r (by_way g h) p c h
  site = others.site b c g h r going.same fb fc gh fg at i call.0 f sig

  pub is_with : with_body twins ahead g ≡ spliced p
  is_with = splice_is b g at i call.0 f

  module _ (n : Naming) where
    abbrev under : Splicing
    under = splicing_under r n c h p

    abbrev q : Splicing
    q = code_splice n twins (point_of at_code) l h

    under_is : under ≡ q
    under_is =
        ap₂ (λ (x : ℕ) (z : Line). record { naming = n; caller = c; callee = h; at = x; before = map (line_under r) (take i f.block.lines); site = z; behind = map (line_under r) (drop (suc i) f.block.lines) }) at_is line_is
        ∙ ap₂ (λ (us ws : List Line). record { naming = n; caller = c; callee = h; at = at_code.block; before = us; site = l; behind = ws })
        (sym (points.take_map (line_under r) i f.block.lines) ∙ ap₂ take i_is (sym text))
        (sym (points.drop_map (line_under r) (suc i) f.block.lines) ∙ ap₂ (λ k ls. drop (suc k) ls) i_is (sym text))

    -- the code's splice has the size of the definition's
    pub size_is : SpliceSizeUnder → size_of (spliced q) ≡ size_of (with_body twins ahead g)
    size_is law = ap (λ z. size_of (spliced z)) (sym under_is) ∙ (law r (by_way g h) p n c h site ∙ ap size_of (sym is_with))

    -- so the policy takes the one exactly where it takes the other
    pub takes_is : SpliceSizeUnder → (policy : Policy) → takes policy h (spliced q) ≡ takes policy g (with_body twins ahead g)
    takes_is law policy = ap₂ (λ (x y : ℕ). takes_of policy x y) (size_renamed (by_way g h) g h (way_renamed g h gh)) (size_is law)

    pub stands_here : Stands q
    stands_here =
        record {
          block = block_under r f.block;
          block_found = block_there;
          lines = sym text ∙ cut_list (lines_of at_code.block c.blocks) at_code.index l line_in;
        }

    pub sited : Sited q
    sited = record { stands = stands_here; caller = fc.accepted; callee = fh.accepted; callee_blocks = fh.whole.blocks }

    pub spliced_there : splice_with n c at_code.block at_code.index h ≡ spliced q
    spliced_there =
        points.splice_found n c at_code.block at_code.index h (block_under r f.block) l block_there line_there
        ∙ ap (λ (ls : List Line). spliced (record { naming = n; caller = c; callee = h; at = at_code.block; before = take at_code.index ls; site = l; behind = drop (suc at_code.index) ls })) (sym text)

    pub within : size_of h ≤ 262144 → size_of (spliced q) ≤ 262144 → WithinLimit n c h at_code l
    within small fits =
        record {
          caller_whole = wc;
          callee_whole = fh.whole;
          caller_accepted = fc.accepted;
          callee_accepted = fh.accepted;
          block = block_under r f.block;
          block_found = block_there;
          line_found = line_there;
          callee_size = small;
          splice_size = subst (λ z. size_of z ≤ 262144) (sym spliced_there) fits;
        }
