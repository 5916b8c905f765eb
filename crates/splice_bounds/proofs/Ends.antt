-- In a whole function that is accepted a line that ends its block stands last, so a block has one tail call at most.
use Rattle.std.proofs.Common.{◌≡◌, ℕ, suc, ◌+◌, ◌≤◌, inl, inr, List, [], ◌∷◌, length, Some, None, refl, sym, ap}
use Rattle.std.proofs.Common.{◌∙◌, subst, arith}
use Rattle.std.specs.Prelude.{if◌then◌else◌, slice_get}
use Rattle.std.proofs.lemmas.Option.{slice_get_cases}
use Rattle.ir_core.specs.declared.signatures.Sig.{Sig}
use Rattle.ir_core.specs.Edits.{lines_of}
use Rattle.ir_core.specs.Lists.{In, Each}
use Rattle.ir_core.specs.Lookup.{find_block, signature_of}
use Rattle.ir_core.specs.Module.{Instruction, Plain, Branches, SequencePoint, Return, Call, ReturnCall, TryCall, Line}
use Rattle.ir_core.specs.Module.{Block, Function, call_target}
use Rattle.ir_core.specs.Uses.{table_targets}
use Rattle.ir_core.specs.WellFormed.{WellFormed}
use Rattle.ir_core.proofs.Members.{in_right, each_by}
use Rattle.ir_core.proofs.Splitting.{Split, split}
use Rattle.ir_core.proofs.Gets.{some_same}
use Rattle.ir_core.proofs.ByNumber.{found_number, in_find}
use Rattle.ir_semantics.specs.Accepted.{RulesHold, count_mismatch}
use Rattle.ir_semantics.specs.Available.{terminates}
use Rattle.ir_semantics.specs.CountRules.{InstructionCounts, TargetCounts}
use Rattle.ir_semantics.specs.Splice.{Within, kind_of}
use Rattle.ir_semantics.proofs.SafetyPlaces.{some_and}
use Rattle.inline_body.specs.Results.{is_tail_call, tail_calls, OneTail}
use Rattle.inline_body.specs.PlainCall.{IsPlainCall}
use Rattle.inline_ends.specs.TailCall.{IsTailCall}
use Rattle.inline_ends.specs.TryCallSite.{IsTryCall}
use Rattle.inline_acceptance.proofs.KeptFunctions.{sound}
use Rattle.inline_acceptance.proofs.KeptSite.{rule_at}
use Rattle.inline_acceptance.proofs.Points.{EndsWell, Stops, none_first}

-- ---- tail calls

tails_once : (ls : List Line) → EndsWell ls → tail_calls ls ≤ 1
tails_once [] h = omega arith
tails_once (l ∷ ls) h = by l.inst refl (tails_once ls (λ j i get. h (suc j) i get))
  where
    by : (i : Instruction) → l.inst ≡ i → tail_calls ls ≤ 1 → (if is_tail_call i then 1 else 0) + tail_calls ls ≤ 1
    by (ReturnCall t args) e ih =
        let none : ls ≡ [] = none_first ls ((h 0 l refl).stops (ap terminates e)) in
        let few = ap tail_calls none in
        omega (arith, few)
    by (Plain s) e ih = omega (arith, ih)
    by (Branches b) e ih = omega (arith, ih)
    by SequencePoint e ih = omega (arith, ih)
    by (Return vs) e ih = omega (arith, ih)
    by (Call t args) e ih = omega (arith, ih)
    by (TryCall t sig args normal table) e ih = omega (arith, ih)

pub one_tail : (g : Function) → WellFormed g → RulesHold [] g → OneTail g.blocks
one_tail g whole ok =
    let s = sound [] g ok whole in
    each_by (λ b. tail_calls b.lines ≤ 1) g.blocks
    (λ b p. let q = in_find b g.blocks whole.blocks p in tails_once b.lines (λ j i get. s.ends b.number b j i q get))

-- ---- the site

past : {A : Type 0} (xs : List A) (i : ℕ) → slice_get xs i ≡ None → length xs ≤ i
past xs i h = elim (slice_get_cases xs i).1 [ inl s ↦ let e : None ≡ Some s.0 = sym h ∙ s.2 in cc | inr e ↦ e.0 ]

-- no result, and it ends its block
abbrev Leaving : Line → Type 0
Leaving l = Stops l.inst × (length l.results ≡ 0)

tail_leaves : (f : Function) (l : Line) (i : Instruction) → l.inst ≡ i → IsTailCall i → InstructionCounts f l i
    → Leaving l
tail_leaves f l (ReturnCall t args) e h c =
    let P = λ (s : Sig). (length l.results ≡ 0) × (length s.results ≡ length f.sig.results) in
    (ap terminates e, (some_and (signature_of f t) (λ (s : Sig). (length args ≡ length s.params) × P s) c).2.1.0)
tail_leaves f l (Plain s) e h c = absurd h
tail_leaves f l (Branches b) e h c = absurd h
tail_leaves f l SequencePoint e h c = absurd h
tail_leaves f l (Return vs) e h c = absurd h
tail_leaves f l (Call t args) e h c = absurd h
tail_leaves f l (TryCall t sig args normal table) e h c = absurd h

try_leaves : (f : Function) (l : Line) (i : Instruction) → l.inst ≡ i → IsTryCall i → InstructionCounts f l i
    → Leaving l
try_leaves f l (TryCall t sig args normal table) e h c =
    let T = λ (s : Sig). Each (TargetCounts f (Some (length s.results))) (normal ∷ table_targets table) in
    let P = λ (s : Sig). (length args ≡ length s.params) × ((length l.results ≡ 0) × T s) in
    (ap terminates e, (some_and (signature_of f (call_target t sig)) P c).2.1.0)
try_leaves f l (Plain s) e h c = absurd h
try_leaves f l (Branches b) e h c = absurd h
try_leaves f l SequencePoint e h c = absurd h
try_leaves f l (Return vs) e h c = absurd h
try_leaves f l (Call t args) e h c = absurd h
try_leaves f l (ReturnCall t args) e h c = absurd h

module _
    (f : Function) (whole : WellFormed f) (ok : RulesHold [] f) (a i : ℕ) (b : Block)
    (found : find_block a f.blocks ≡ Some b) (l : Line) (get : slice_get b.lines i ≡ Some l) where
  -- the block of the number has the lines of the number
  pub lines_there : lines_of a f.blocks ≡ b.lines
  lines_there =
      let s : Split a f.blocks = split a f.blocks (found_number a f.blocks b found) whole.blocks in
      let here : In s.here f.blocks =
      subst (In s.here) (sym s.is) (in_right s.here s.before (s.here ∷ s.behind) (inl refl))
      in
      let same : find_block a f.blocks ≡ Some s.here =
      ap (λ z. find_block z f.blocks) (sym s.number) ∙ in_find s.here f.blocks whole.blocks here
      in
      s.lines ∙ ap (λ (z : Block). z.lines) (some_same (sym same ∙ found))

  counts : InstructionCounts f l l.inst
  counts = rule_at [] f ok a b i l found get count_mismatch

  nothing_behind : Stops l.inst → length b.lines ≤ suc i
  nothing_behind h = past b.lines (suc i) (((sound [] f ok whole).ends a b i l found get).stops h)

  pub tail_is_last : IsTailCall l.inst → (length b.lines ≤ suc i) × (length l.results ≡ 0)
  tail_is_last h = let t = tail_leaves f l l.inst refl h counts in (nothing_behind t.0, t.1)

  pub try_is_last : IsTryCall l.inst → (length b.lines ≤ suc i) × (length l.results ≡ 0)
  try_is_last h = let t = try_leaves f l l.inst refl h counts in (nothing_behind t.0, t.1)
