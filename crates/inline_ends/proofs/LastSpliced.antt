-- What stands in a caller once a body is put in the place of a call that ends its block is the splice.
use Rattle.std.proofs.Common.{◌≡◌, List, [], ◌∷◌, ◌++◌, take, Bool, refl, ap, ap₂, ◌∙◌, eq-eqb, ne_eqb, append-nil}
use Rattle.std.specs.Prelude.{if◌then◌else◌}
use Rattle.ir_core.specs.declared.places.Point.{Point}
use Rattle.ir_core.specs.Module.{Block, Function}
use Rattle.ir_core.specs.Viewed.{line_of}
use Rattle.ir_semantics.specs.Splice.{Splicing, kind_of, body, after_blocks, spliced}
use Rattle.inline_ends.specs.Ending.{with_last_body}
use Rattle.inline_body.specs.declared.prepared.PreparedBody.{PreparedBody}
use Rattle.inline_body.specs.Prepared.{appended, body_of}
use Rattle.inline_body.proofs.Spliced.{splice_with_blocks}
use Rattle.inline_body.proofs.SplicedBlocks.{spliced_blocks_are}
use Rattle.inline_ends.specs.LastBody.{IsLastBodyOf}

module _ (p : Splicing) (f : Function) (site : Point) (q : PreparedBody) (is : IsLastBodyOf p f site q) where
  all_is : body p p.callee.blocks ++ after_blocks p (kind_of p.site.inst) ≡ body_of q
  all_is = ap₂ (λ (x y : List Block). x ++ y) is.body is.none_behind ∙ append-nil (body_of q)

  abbrev put : List Block → List Block
  put bs = with_last_body site.block site.index (line_of q.jump) (body_of q) bs

  -- a block, where it is that of the call, and where it is not
  abbrev by_case : Block → List Block → Bool → List Block
  by_case b bs c =
      if c then record b { lines = take site.index b.lines ++ (line_of q.jump ∷ []) } ∷ (body_of q ++ bs)
      else b ∷ put bs

  pub splice_is : spliced p ≡ record (appended f q) { blocks = put f.blocks }
  splice_is =
      splice_with_blocks p f q (put f.blocks) is.caller is.caller_value is.slots is.sigs is.callees is.types
      (spliced_blocks_are p f site (line_of q.jump) is.at is.before is.caller_value is.caller_block is.jump
      (λ b. body_of q) put (λ b e. all_is) refl
      (λ b bs h. ap (by_case b bs) (eq-eqb b.number site.block h))
      (λ b bs h. ap (by_case b bs) (ne_eqb b.number site.block h)))
