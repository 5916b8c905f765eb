-- From the clauses of the calls of `prepare_body` to what it ensures.
use Rattle.std.proofs.Common.{◌≡◌, ℕ, ◌+◌, ◌*◌, ◌<◌, List, [], ◌∷◌, ◌++◌, map, length, get_or, Some, refl, sym, ap, ap₂, ◌∙◌, subst, arith}
use Rattle.std.specs.Prelude.{slice_get, slice_index_or}
use Rattle.std.specs.List.{remove}
use Rattle.std.proofs.lemmas.List.{length-map}
use Rattle.ir_core.specs.declared.places.Point.{Point}
use Rattle.ir_core.specs.declared.signatures.Ty.{Ty}
use Rattle.ir_core.specs.Module.{Line, Block, Function}
use Rattle.ir_core.specs.Lists.{Each, Below}
use Rattle.ir_core.specs.Lookup.{block_numbers, type_of}
use Rattle.ir_core.specs.Sound.{IsSound}
use Rattle.ir_core.specs.Edits.{lines_of}
use Rattle.ir_core.specs.Viewed.{line_of}
use Rattle.ir_semantics.specs.Splice.{Splicing, args_of, spliced}
use Rattle.body_import.specs.declared.declarations.Import.{Import}
use Rattle.body_import.specs.Imports.{IsImportOf}
use Rattle.inline_body.specs.declared.blocks.BlockLines.{BlockLines}
use Rattle.inline_body.specs.declared.names.Names.{Names}
use Rattle.inline_body.specs.declared.prepared.PreparedBody.{PreparedBody}
use Rattle.inline_body.specs.Dense.{numbers_along}
use Rattle.inline_body.specs.Inlined.{jump_line, inlined_block, blocks_from, BlockReached}
use Rattle.inline_body.specs.Results.{tail_calls_in, starts_along, repeated}
use Rattle.inline_body.specs.Prepared.{IsBodyOf}
use Rattle.inline_body.specs.PlainCall.{IsPlainCall, CanSplice, splicing_at, IsPrepared, IsSplice}
use Rattle.inline_body.proofs.BodyDefinitions.{blocks_listed}
use Rattle.inline_body.proofs.Ready.{IsMade, results_below, reached, prepared, spliced_at}

-- the first of a list taken away
pub removed : {A : Type 0} (xs ys : List A) (x : A) → 0 < length xs → x ≡ slice_index_or xs 0 x → ys ≡ remove xs 0 → x ∷ ys ≡ xs
removed [] ys x h e g = absurd (omega (arith, h))
removed (z ∷ xs) ys x h e g = ap₂ (λ y ys. y ∷ ys) e g

-- there are as many parameter lists as blocks
pub listed : {A : Type 0} (f : A → Block) (pss : List (List ℕ)) (xs : List BlockLines) (bs : List A) → length pss ≡ length xs → blocks_from pss xs ≡ map f bs → length pss ≡ length bs
listed f pss xs bs e g = sym (blocks_listed pss xs e) ∙ (ap length g ∙ length-map bs f)

pub same_line : (a b : Line) → Some a ≡ Some b → a ≡ b
same_line a b e = cc

-- the conditions of a splice, at the line that is found
abbrev at_line : (f g : Function) (at : Point) (can : CanSplice f g at) (l : Line) → slice_get (lines_of at.block f.blocks) at.index ≡ Some l → CanSplice f g at
at_line f g at can l found =
    let same : can.line ≡ l = same_line can.line l (sym can.found ∙ found) in
    record {
      there = can.there;
      line = l;
      found = found;
      plain = subst (λ (z : Line). IsPlainCall z.inst) same can.plain;
      has_block = can.has_block;
      one_tail = can.one_tail;
      few_slots = can.few_slots;
      few_sigs = can.few_sigs;
      few_callees = can.few_callees;
      few_values = let e = ap (λ (z : Line). length z.results * (tail_calls_in g.blocks + 1)) same in let h = can.few_values in omega (arith, e, h);
      few_blocks = can.few_blocks;
      few_lines = can.few_lines;
    }

module _ (f g : Function) (at : Point) (sf : IsSound f) (sg : IsSound g) (can : CanSplice f g at) (l : Line) (found : slice_get (lines_of at.block f.blocks) at.index ≡ Some l) (rs : List ℕ) (results : rs ≡ l.results) where
  pub results_declared : Below (length f.types) rs
  results_declared = subst (Below (length f.types)) (sym results) (results_below f g at sf sg (at_line f g at can l found))

module _ (f g : Function) (at : Point) (sf : IsSound f) (sg : IsSound g) (can : CanSplice f g at) (l : Line) (found : slice_get (lines_of at.block f.blocks) at.index ≡ Some l) (rs : List ℕ) (results : rs ≡ l.results) (i : Import) (imp : IsImportOf f g i) (n : Names) (values : n.values ≡ length f.types) (slots : n.slots ≡ length f.slots) (blocks : length n.blocks ≡ length g.blocks) (sigs : n.sigs ≡ i.sigs.table) (callees : n.callees ≡ i.callees.table) (first : ℕ) (first_is : first ≡ length f.types + length g.types) (starts items : List ℕ) (starts_is : starts ≡ items) (long : length items ≡ length g.blocks) (are : map (λ b. get_or items b 0) (block_numbers g.blocks) ≡ starts_along first (length rs) g.blocks) where
  starts_are : map (λ b. get_or starts b 0) (block_numbers g.blocks) ≡ starts_along (length f.types + length g.types) (length l.results) g.blocks
  starts_are = ap (λ (z : List ℕ). map (λ b. get_or z b 0) (block_numbers g.blocks)) starts_is ∙ (are ∙ ap₂ (λ (x y : ℕ). starts_along x y g.blocks) first_is (ap length results))

  starts_long : length starts ≡ length g.blocks
  starts_long = ap length starts_is ∙ long

  pub blocks_reached : Each (BlockReached n starts (length rs)) g.blocks
  blocks_reached = subst (λ (z : ℕ). Each (BlockReached n starts z) g.blocks) (sym (ap length results)) (reached f g at sf sg (at_line f g at can l found) i imp n starts values slots blocks sigs callees starts_long starts_are)

  pub body_prepared : (k kb ab : ℕ) → k ≡ length f.blocks → kb ≡ k → ab ≡ k + 1
      → map (λ b. get_or n.blocks b 0) (block_numbers g.blocks) ≡ numbers_along k k (block_numbers g.blocks)
      → n.sig_count ≡ length f.sigs + length i.sigs.added → n.callee_count ≡ length f.callees + length i.callees.added
      → (ts us : List Ty) → map Some ts ≡ map (type_of f) rs → us ≡ ts → (tails : ℕ) → tails ≡ tail_calls_in g.blocks
      → (q : PreparedBody) → q.slots ≡ g.slots → q.sigs ≡ i.sigs.added → q.callees ≡ i.callees.added → q.types ≡ map (λ (t : ℕ × Ty). t.1) g.types ++ repeated tails us
      → (vs : List ℕ) → vs ≡ args_of l.inst → line_of q.jump ≡ jump_line kb vs → q.results ≡ rs
      → (pss : List (List ℕ)) → q.first ∷ q.block_params ≡ pss → blocks_from pss q.block_lines ≡ map (inlined_block n l.tags ab starts (length rs)) g.blocks → length pss ≡ length q.block_lines
      → IsPrepared f g at i q
  body_prepared k kb ab count kb_is ab_is numbers sig_count callee_count ts us typed us_is tails tails_is q q_slots q_sigs q_callees q_types vs vs_is jump q_results pss params body as_many =
      let made : IsMade f g l i n starts ts q = record {
        values = values;
        slots = slots;
        blocks = blocks;
        numbers = numbers ∙ ap (λ (z : ℕ). numbers_along z z (block_numbers g.blocks)) count;
        sigs = sigs;
        sig_count = sig_count;
        callees = callees;
        callee_count = callee_count;
        starts_length = starts_long;
        starts_are = starts_are;
        typed = typed ∙ ap (map (type_of f)) results;
        piece_slots = q_slots;
        piece_sigs = q_sigs;
        piece_callees = q_callees;
        piece_types = q_types ∙ ap₂ (λ (x : ℕ) (z : List Ty). map (λ (t : ℕ × Ty). t.1) g.types ++ repeated x z) tails_is us_is;
        jump = jump ∙ ap₂ (λ (x : ℕ) (z : List ℕ). jump_line x z) (kb_is ∙ count) vs_is;
        results = q_results ∙ results;
        body = ap (λ (z : List (List ℕ)). blocks_from z q.block_lines) params ∙ (body ∙ ap₂ (λ (x y : ℕ). map (inlined_block n l.tags x starts y) g.blocks) (ab_is ∙ ap (λ (z : ℕ). z + 1) count) (ap length results));
        as_many = ap length params ∙ as_many;
      } in
      prepared f g at sf sg (at_line f g at can l found) i imp n starts ts q made

-- ---- the splice

pub is_splice : (f g h k : Function) (at : Point) (i : Import) (q : PreparedBody) → IsPrepared f g at i q → h ≡ f → ((p : Splicing) → IsBodyOf p h at q → k ≡ spliced p) → IsSplice f g at k
is_splice f g h k at i q made same put =
    record {
      naming = made.naming;
      keeps = made.keeps;
      is = put (splicing_at made.naming f g at made.line) (subst (λ (z : Function). IsBodyOf (splicing_at made.naming f g at made.line) z at q) (sym same) made.is_body) ∙ spliced_at made.naming f g at made.line made.ready.there.0 made.found;
    }
