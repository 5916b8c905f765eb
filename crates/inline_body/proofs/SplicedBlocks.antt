-- The blocks of a splice at any kind of call, where the caller's numbers stay.
use Rattle.std.proofs.Common.{◌≡◌, ℕ, List, [], ◌∷◌, ◌++◌, map, take, inl, inr, refl, sym, ap, ap₂, ◌∙◌, eq-eqb, ne_eqb}
use Rattle.std.proofs.Common.{append_assoc}
use Rattle.std.specs.Prelude.{if◌then◌else◌}
use Rattle.std.proofs.lemmas.Bool.{cases_eq}
use Rattle.ir_core.specs.declared.places.Point.{Point}
use Rattle.ir_core.specs.Module.{Line, Block, Function}
use Rattle.ir_core.specs.Edits.{lines_of}
use Rattle.ir_semantics.specs.Renaming.{line_under, block_under}
use Rattle.ir_semantics.specs.Splice.{Splicing, kind_of, caller_names, body, jump_in, cut_block, after_blocks}
use Rattle.ir_semantics.specs.Splice.{spliced_blocks}
use Rattle.inline_body.proofs.OwnNames.{values_kept, lines_kept, block_kept, blocks_kept}

module _ (p : Splicing) (f : Function) (site : Point) (jump : Line) (at : p.at ≡ site.block) (before : p.before ≡ take site.index (lines_of site.block f.blocks)) (caller_value : (v : ℕ) → p.naming.caller_value v ≡ v) (caller_block : (b : ℕ) → p.naming.caller_block b ≡ b) (jump_is : jump_in p ≡ jump) where
  sig_kept : (k : ℕ) → (caller_names p).sig k ≡ k
  sig_kept k = refl

  -- the block of the call
  abbrev cut : Block → Block
  cut b = record b { lines = take site.index b.lines ++ (jump ∷ []) }

  cut_is : (b : Block) → lines_of site.block f.blocks ≡ b.lines → cut_block p b ≡ cut b
  cut_is b e =
      ap (λ (x : ℕ). record b { number = x; params = map p.naming.caller_value b.params; lines = map (line_under (caller_names p)) p.before ++ (jump_in p ∷ []) }) (caller_block b.number)
      ∙ (ap (λ (x : List ℕ). record b { params = x; lines = map (line_under (caller_names p)) p.before ++ (jump_in p ∷ []) }) (values_kept (caller_names p) caller_value caller_block sig_kept sig_kept sig_kept b.params)
      ∙ ap₂ (λ (x : List Line) (y : Line). record b { lines = x ++ (y ∷ []) }) (lines_kept (caller_names p) caller_value caller_block sig_kept sig_kept sig_kept p.before ∙ (before ∙ ap (take site.index) e)) jump_is)

  -- what stands behind the block of the call, and how it is put there
  module _ (all : Block → List Block) (put : List Block → List Block) (all_is : (b : Block) → lines_of site.block f.blocks ≡ b.lines → body p p.callee.blocks ++ after_blocks p (kind_of p.site.inst) ≡ all b) (none : put [] ≡ []) (here : (b : Block) (bs : List Block) → b.number ≡ site.block → put (b ∷ bs) ≡ cut b ∷ (all b ++ bs)) (other : (b : Block) (bs : List Block) → (b.number ≡ site.block → ⊥) → put (b ∷ bs) ≡ b ∷ put bs) where
    blocks_are : (bs : List Block) → lines_of site.block bs ≡ lines_of site.block f.blocks → spliced_blocks p bs ≡ put bs
    blocks_are [] e = sym none
    blocks_are (b ∷ bs) e =
        elim (cases_eq b.number site.block) [
          | inl h ↦
              let lines : lines_of site.block f.blocks ≡ b.lines = sym e ∙ ap (λ c. if c then b.lines else lines_of site.block bs) (eq-eqb b.number site.block h) in
              ap (λ c. if c then cut_block p b ∷ (body p p.callee.blocks ++ (after_blocks p (kind_of p.site.inst) ++ map (block_under (caller_names p)) bs)) else block_under (caller_names p) b ∷ spliced_blocks p bs) (eq-eqb b.number p.at (h ∙ sym at))
              ∙ (ap (λ (x : List Block). cut_block p b ∷ x) (sym (append_assoc (body p p.callee.blocks) (after_blocks p (kind_of p.site.inst)) (map (block_under (caller_names p)) bs)))
              ∙ (ap₂ (λ (x : Block) (y : List Block). x ∷ (y ++ map (block_under (caller_names p)) bs)) (cut_is b lines) (all_is b lines)
              ∙ (ap (λ (x : List Block). cut b ∷ (all b ++ x)) (blocks_kept (caller_names p) caller_value caller_block sig_kept sig_kept sig_kept bs)
              ∙ sym (here b bs h))))
          | inr h ↦
              let rest : lines_of site.block bs ≡ lines_of site.block f.blocks = sym (ap (λ c. if c then b.lines else lines_of site.block bs) (ne_eqb b.number site.block h)) ∙ e in
              ap (λ c. if c then cut_block p b ∷ (body p p.callee.blocks ++ (after_blocks p (kind_of p.site.inst) ++ map (block_under (caller_names p)) bs)) else block_under (caller_names p) b ∷ spliced_blocks p bs) (ne_eqb b.number p.at (λ x. h (x ∙ at)))
              ∙ (ap₂ (λ (x : Block) (xs : List Block). x ∷ xs) (block_kept (caller_names p) caller_value caller_block sig_kept sig_kept sig_kept b) (blocks_are bs rest)
              ∙ sym (other b bs h))
        ]

    pub spliced_blocks_are : spliced_blocks p f.blocks ≡ put f.blocks
    spliced_blocks_are = blocks_are f.blocks refl
