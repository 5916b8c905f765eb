-- What stands in a caller once a piece is put is the splice.
use Rattle.std.proofs.Common.{◌≡◌, ℕ, suc, ◌+◌, List, [], ◌∷◌, ◌++◌, map, length, take, drop, Bool, refl, sym, ap, ap₂}
use Rattle.std.proofs.Common.{◌∙◌, eq-eqb, ne_eqb, append_assoc}
use Rattle.std.specs.Prelude.{if◌then◌else◌}
use Rattle.std.specs.List.{enumerate_from}
use Rattle.ir_core.specs.declared.places.Point.{Point}
use Rattle.ir_core.specs.declared.signatures.Ty.{Ty}
use Rattle.ir_core.specs.Module.{Line, Block, Function}
use Rattle.ir_core.specs.Edits.{lines_of}
use Rattle.ir_semantics.specs.Import.{sigs_after, callees_after}
use Rattle.ir_semantics.specs.Renaming.{Renaming, typed_under, line_under}
use Rattle.ir_semantics.specs.Splice.{Splicing, Kind, kind_of, caller_names, callee_names, body, after_block}
use Rattle.ir_semantics.specs.Splice.{after_blocks, spliced_blocks, new_types, spliced}
use Rattle.ir_core.specs.Viewed.{line_of}
use Rattle.inline_body.specs.WithBody.{with_body}
use Rattle.inline_body.specs.declared.prepared.PreparedBody.{PreparedBody}
use Rattle.inline_body.specs.Prepared.{IsBodyOf, appended, body_of}
use Rattle.inline_body.proofs.OwnNames.{values_kept, lines_kept}
use Rattle.inline_body.proofs.SplicedBlocks.{spliced_blocks_are}

types_kept : (u : Renaming) → ((v : ℕ) → u.value v ≡ v) → (ts : List (ℕ × Ty)) → map (typed_under u) ts ≡ ts
types_kept u h [] = refl
types_kept u h (t ∷ ts) = ap₂ (λ (v : ℕ) (xs : List (ℕ × Ty)). (v, t.1) ∷ xs) (h t.0) (types_kept u h ts)

-- a splice has the body's declarations, and these blocks
pub splice_with_blocks : (p : Splicing) (f : Function) (q : PreparedBody) (bs : List Block) → p.caller ≡ f
    → ((v : ℕ) → p.naming.caller_value v ≡ v) → p.callee.slots ≡ q.slots
    → sigs_after p.caller p.callee ≡ f.sigs ++ q.sigs → callees_after p.caller p.callee ≡ f.callees ++ q.callees
    → map (typed_under (callee_names p)) p.callee.types ++ new_types p p.callee.blocks
    ≡ enumerate_from (length f.types) q.types
    → spliced_blocks p f.blocks ≡ bs → spliced p ≡ record (appended f q) { blocks = bs }
splice_with_blocks p f q bs caller caller_value slots sigs callees types blocks =
    ap₂ (λ (x : Function) (y : List Block). record { name = x.name; sig = x.sig; slots = x.slots ++ p.callee.slots; sigs = sigs_after p.caller p.callee; callees = callees_after p.caller p.callee; types = map (typed_under (caller_names p)) x.types ++ (map (typed_under (callee_names p)) p.callee.types ++ new_types p p.callee.blocks); blocks = y }) caller (ap (spliced_blocks p) (ap (λ (z : Function). z.blocks) caller) ∙ blocks)
    ∙ (ap₂ (λ x y. record f { slots = f.slots ++ x; sigs = y; callees = callees_after p.caller p.callee; types = map (typed_under (caller_names p)) f.types ++ (map (typed_under (callee_names p)) p.callee.types ++ new_types p p.callee.blocks); blocks = bs }) slots sigs
    ∙ (ap₂ (λ x (y : List (ℕ × Ty)). record f { slots = f.slots ++ q.slots; sigs = f.sigs ++ q.sigs; callees = x; types = y ++ (map (typed_under (callee_names p)) p.callee.types ++ new_types p p.callee.blocks); blocks = bs }) callees (types_kept (caller_names p) caller_value f.types)
    ∙ ap (λ (y : List (ℕ × Ty)). record f { slots = f.slots ++ q.slots; sigs = f.sigs ++ q.sigs; callees = f.callees ++ q.callees; types = f.types ++ y; blocks = bs }) types))

module _ (p : Splicing) (f : Function) (site : Point) (q : PreparedBody) (is : IsBodyOf p f site q) where
  sig_kept : (k : ℕ) → (caller_names p).sig k ≡ k
  sig_kept k = refl

  abbrev put : List Block → List Block
  put bs = with_body site.block site.index (line_of q.jump) (body_of q) (length f.blocks + 1) q.results bs

  -- the block behind the body
  abbrev after : Block → Block
  after b = record { number = length f.blocks + 1; params = q.results; lines = drop (suc site.index) b.lines }

  after_is : (b : Block) → lines_of site.block f.blocks ≡ b.lines → after_block p ≡ after b
  after_is b e =
      ap (λ (x : ℕ). record { number = x; params = map p.naming.caller_value p.site.results; lines = map (line_under (caller_names p)) p.behind }) is.after
      ∙ ap₂ (λ (x : List ℕ) (y : List Line). record { number = length f.blocks + 1; params = x; lines = y }) (values_kept (caller_names p) is.caller_value is.caller_block sig_kept sig_kept sig_kept p.site.results ∙ is.results) (lines_kept (caller_names p) is.caller_value is.caller_block sig_kept sig_kept sig_kept p.behind ∙ (is.behind ∙ ap (drop (suc site.index)) e))

  all_is : (b : Block) → lines_of site.block f.blocks ≡ b.lines
      → body p p.callee.blocks ++ after_blocks p (kind_of p.site.inst) ≡ body_of q ++ (after b ∷ [])
  all_is b e =
      ap₂ (λ (x : List Block) (k : Kind). x ++ after_blocks p k) is.body is.kind
      ∙ ap (λ (x : Block). body_of q ++ (x ∷ [])) (after_is b e)

  -- a block, where it is that of the call, and where it is not
  abbrev by_case : Block → List Block → Bool → List Block
  by_case b bs c =
      if c then record b { lines = take site.index b.lines ++ (line_of q.jump ∷ []) } ∷ (body_of q ++ (after b ∷ bs))
      else b ∷ put bs

  here : (b : Block) (bs : List Block) → b.number ≡ site.block
      → put (b ∷ bs) ≡ record b { lines = take site.index b.lines ++ (line_of q.jump ∷ []) } ∷ ((body_of q ++ (after b ∷ [])) ++ bs)
  here b bs h =
      ap (by_case b bs) (eq-eqb b.number site.block h)
      ∙ ap (λ (x : List Block). record b { lines = take site.index b.lines ++ (line_of q.jump ∷ []) } ∷ x)
      (sym (append_assoc (body_of q) (after b ∷ []) bs))

  other : (b : Block) (bs : List Block) → (b.number ≡ site.block → ⊥) → put (b ∷ bs) ≡ b ∷ put bs
  other b bs h = ap (by_case b bs) (ne_eqb b.number site.block h)

  pub splice_is : spliced p ≡ record (appended f q) { blocks = put f.blocks }
  splice_is =
      splice_with_blocks p f q (put f.blocks) is.caller is.caller_value is.slots is.sigs is.callees is.types
      (spliced_blocks_are p f site (line_of q.jump) is.at is.before is.caller_value is.caller_block is.jump
      (λ b. body_of q ++ (after b ∷ [])) put all_is refl here other)
