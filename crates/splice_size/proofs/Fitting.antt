-- What acceptance says of the lines of the callee and of the site.
use Rattle.std.specs.Prelude.{slice_get}
use Rattle.std.proofs.Common.{◌≡◌, ℕ, suc, ◌+◌, List, [], ◌∷◌, ◌++◌, length, Option, Some, None, true, refl, ap, ◌∙◌, subst, arith}
use Rattle.ir_core.specs.Lists.{Each, Different}
use Rattle.ir_core.specs.Lookup.{block_numbers, find_block, signature_of}
use Rattle.ir_core.specs.Module.{call_target, Instruction, Plain, Branches, SequencePoint, Return, Call, ReturnCall, TryCall, Line, Block, Function}
use Rattle.ir_core.specs.Uses.{table_targets}
use Rattle.ir_core.proofs.Members.{each_by}
use Rattle.ir_core.proofs.Gets.{in_get}
use Rattle.ir_core.proofs.ByNumber.{in_find}
use Rattle.ir_semantics.specs.Accepted.{RulesHold, count_mismatch, no_terminator, tag_place}
use Rattle.ir_semantics.specs.Available.{terminates}
use Rattle.ir_semantics.specs.CallRules.{InstructionTags}
use Rattle.ir_semantics.specs.CountRules.{InstructionCounts, TargetCounts}
use Rattle.ir_semantics.specs.EndRules.{EndsRightly}
use Rattle.ir_semantics.specs.Splice.{Splicing, kind_of}
use Rattle.ir_semantics.proofs.SafetyPlaces.{some_and}
use Rattle.inline_acceptance.proofs.Points.{none_first}
use Rattle.inline_acceptance.proofs.KeptSite.{rule_at}
use Rattle.inline_acceptance.proofs.KeptLists.{get_after, get_site}
use Rattle.splice_size.proofs.Blocks.{AllFit, Ends}
use Rattle.splice_size.proofs.Lines.{Fits}

fits : (f : Function) (l : Line) (i : Instruction) → InstructionCounts f l i → InstructionTags l.tags i → Fits l i
fits f l (Return vs) c t = (c.0, t)
fits f l (ReturnCall a args) c t = (some_and (signature_of f a) (λ s. (length args ≡ length s.params) × ((length l.results ≡ 0) × (length s.results ≡ length f.sig.results))) c).2.1.0
fits f l (TryCall a sig args normal table) c t =
    (some_and (signature_of f (call_target a sig)) (λ s. (length args ≡ length s.params) × ((length l.results ≡ 0) × Each (TargetCounts f (Some (length s.results))) (normal ∷ table_targets table))) c).2.1.0
fits f l (Plain p) c t = tt
fits f l (Branches b) c t = tt
fits f l SequencePoint c t = tt
fits f l (Call a args) c t = tt

-- each line of an accepted function
pub all_fit : (f : Function) → RulesHold [] f → Different (block_numbers f.blocks) → AllFit f.blocks
all_fit f ok d =
    each_by (λ (b : Block). Each (λ l. Fits l l.inst) b.lines) f.blocks (λ b i.
    each_by (λ (l : Line). Fits l l.inst) b.lines (λ l j.
    let found : find_block b.number f.blocks ≡ Some b = in_find b f.blocks d i in
    let at : (k : ℕ) × (slice_get b.lines k ≡ Some l) = in_get b.lines l j in
    fits f l l.inst (rule_at [] f ok b.number b at.0 l found at.1 count_mismatch) (rule_at [] f ok b.number b at.0 l found at.1 tag_place)))

none_of : (o : Option Line) → EndsRightly true o → o ≡ None
none_of None e = refl
none_of (Some l) e = absurd e

ends_by : (p : Splicing) (i : Instruction) → EndsRightly (terminates i) (slice_get p.behind 0) → Ends p (kind_of i)
ends_by p (ReturnCall a args) e = none_first p.behind (none_of (slice_get p.behind 0) e)
ends_by p (TryCall a sig args normal table) e = none_first p.behind (none_of (slice_get p.behind 0) e)
ends_by p (Plain x) e = tt
ends_by p (Branches x) e = tt
ends_by p SequencePoint e = tt
ends_by p (Return vs) e = tt
ends_by p (Call a args) e = tt

-- a tail call and a `try_call` stand last
pub ends : (p : Splicing) → RulesHold [] p.caller → (b : Block) → find_block p.at p.caller.blocks ≡ Some b → b.lines ≡ p.before ++ (p.site ∷ p.behind) → Ends p (kind_of p.site.inst)
ends p ok b found lines =
    let here : slice_get b.lines (length p.before) ≡ Some p.site = ap (λ (ls : List Line). slice_get ls (length p.before)) lines ∙ get_site p.before p.site p.behind in
    let next : suc (length p.before) ≡ suc (length p.before + 0) = omega arith in
    let behind : slice_get b.lines (suc (length p.before)) ≡ slice_get p.behind 0 =
    ap (slice_get b.lines) next ∙ (ap (λ (ls : List Line). slice_get ls (suc (length p.before + 0))) lines ∙ get_after p.before p.site p.behind 0) in
    ends_by p p.site.inst (subst (EndsRightly (terminates p.site.inst)) behind (rule_at [] p.caller ok p.at b (length p.before) p.site found here no_terminator))
