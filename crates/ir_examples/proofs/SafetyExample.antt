-- A module that is whole and accepted, with a call that can be replaced: %f calls %g, and %g adds its argument to itself. So
-- the laws of accepted modules speak of something.
use Rattle.std.proofs.Common.{◌≡◌, ◌⊎◌, ℕ, zero, suc, inl, inr, List, [], ◌∷◌, ◌++◌, Some, None, Bool, true, false, nat_eq, refl, sym, ap, ◌∙◌, subst, arith}
use Rattle.std.specs.Prelude.{⊤, slice_get, if◌then◌else◌}
use Rattle.clk_num.specs.declared.op.Op.TheVariants.{Iadd}
use Rattle.clk_num.specs.Rows.{row}
use Rattle.ir_core.specs.declared.names.FuncName.{FuncName}
use Rattle.ir_core.specs.declared.signatures.Ty.TheVariants.{I64}
use Rattle.ir_core.specs.declared.signatures.Conv.TheVariants.{Fast}
use Rattle.ir_core.specs.declared.declarations.Callee.{Callee}
use Rattle.ir_core.specs.declared.instructions.BlockCall.{BlockCall}
use Rattle.ir_core.specs.declared.places.Item.TheVariants as item
use Rattle.ir_core.specs.Module.{Pure, Direct, Plain, Call, Line, Block, Function, Module}
use Rattle.ir_core.specs.Lookup.{find_block}
use Rattle.ir_core.specs.Lists.{In}
use Rattle.ir_core.specs.Uses.{targets}
use Rattle.ir_semantics.specs.Available.{Reach, begin, next, branch}
use Rattle.ir_semantics.specs.Splice.{Splicing, sides}
use Rattle.ir_semantics.specs.Site.{Site}
use Rattle.ir_core.specs.WellFormed.{WellFormed, IsModule}
use Rattle.ir_core.proofs.Gets.{some_same}
use Rattle.ir_semantics.specs.Accepted.{Rule, no_terminator, entry_target, count_mismatch, type_mismatch, convention, signature_mismatch, slot_range, tag_place, not_available, HoldsAtLine, HoldsAtBlock, HoldsAtCallee, RulesHold, Accepted}
use Rattle.ir_semantics.specs.CallRules.{Declared}
use Rattle.ir_semantics.proofs.SafetyTypes.{head_same}
use Rattle.ir_examples.proofs.Written.{declares, f, g, of_i64, line, returns, block, function}

abbrev last_line : Line
last_line = returns (1 ∷ [])

-- one block: v0 comes in, the line gives v1, and v1 is returned
abbrev block_of : Line → Block
block_of l = block 0 (0 ∷ []) (l ∷ last_line ∷ [])

abbrev function_of : FuncName → List Callee → Line → Function
function_of name callees l = function name (of_i64 Fast) [] (of_i64 Fast ∷ []) callees (I64 ∷ I64 ∷ []) (block_of l ∷ [])

abbrev call_line : Line
call_line = line None (1 ∷ []) (Call (Direct 0) (0 ∷ []))

abbrev add_line : Line
add_line = line (Some I64) (1 ∷ []) (Plain (Pure Iadd (0 ∷ 0 ∷ [])))

abbrev caller : Function
caller = function_of f (declares g 0 ∷ []) call_line

abbrev callee : Function
callee = function_of g [] add_line

abbrev both : Module
both = caller ∷ callee ∷ []

-- ---- a function of one block

module _ (m : Module) (n : FuncName) (callees : List Callee) (l : Line) (results : l.results ≡ 1 ∷ []) (ends : targets l.inst ≡ []) where
  only_block : (b : ℕ) (k : Block) → find_block b (block_of l ∷ []) ≡ Some k → block_of l ≡ k
  only_block b k h = go (nat_eq 0 b) h
    where
      go : (c : Bool) → (if c then Some (block_of l) else None) ≡ Some k → block_of l ≡ k
      go true q = some_same q
      go false q = cc

  two_lines : (i : ℕ) (l' : Line) → slice_get (l ∷ last_line ∷ []) i ≡ Some l' → ((i ≡ 0) × (l ≡ l')) ⊎ ((i ≡ 1) × (last_line ≡ l'))
  two_lines zero l' h = inl (refl, some_same h)
  two_lines (suc zero) l' h = inr (refl, some_same h)
  two_lines (suc (suc i)) l' h = cc

  -- what each path has passed
  abbrev Passed : ℕ → List ℕ → Type 0
  Passed zero defs = In 0 defs
  Passed (suc zero) defs = In 1 defs
  Passed (suc (suc i)) defs = ⊤

  no_target : (i : ℕ) (l' : Line) → slice_get (l ∷ last_line ∷ []) i ≡ Some l' → (t : BlockCall) → In t (targets l'.inst) → ⊥
  no_target i l' h t p =
      elim (two_lines i l' h) [
        | inl q ↦ let w : In t [] = subst (In t) (ap (λ (z : Line). targets z.inst) (sym q.1) ∙ ends) p in w
        | inr q ↦ let w : In t [] = subst (In t) (ap (λ (z : Line). targets z.inst) (sym q.1)) p in w
      ]

  passes : {b i : ℕ} {defs : List ℕ} → Reach (function_of n callees l) b i defs → Passed i defs
  passes (begin first others q) = subst (λ (z : Block). In 0 z.params) (head_same q) (inl refl)
  passes (next {b = b} {i = zero} {defs = defs} r k found l' get goes) =
      let get' : slice_get (l ∷ last_line ∷ []) 0 ≡ Some l' = ap (λ (z : Block). slice_get z.lines 0) (only_block b k found) ∙ get in
      subst (λ z. In 1 (z ++ defs)) (sym results ∙ ap (λ (z : Line). z.results) (some_same get')) (inl refl)
  passes (next {i = suc i} r k found l' get goes) = tt
  passes (branch {b = b} {i = i} r k found l' get t is entered e) =
      absurd (no_target i l' (ap (λ (z : Block). slice_get z.lines i) (only_block b k found) ∙ get) t is)

  callee_kept : (c : Callee) → Declared m (function_of n callees l) c → (rule : Rule) → HoldsAtCallee m (function_of n callees l) c rule
  callee_kept c h signature_mismatch = h
  callee_kept c h no_terminator = tt
  callee_kept c h entry_target = tt
  callee_kept c h count_mismatch = tt
  callee_kept c h type_mismatch = tt
  callee_kept c h convention = tt
  callee_kept c h slot_range = tt
  callee_kept c h tag_place = tt
  callee_kept c h not_available = tt

  block_kept : (b : ℕ) (rule : Rule) → HoldsAtBlock (function_of n callees l) b (block_of l) rule
  block_kept b no_terminator = λ e. cc
  block_kept b count_mismatch = λ e. refl
  block_kept b type_mismatch = λ e. refl
  block_kept b entry_target = tt
  block_kept b convention = tt
  block_kept b signature_mismatch = tt
  block_kept b slot_range = tt
  block_kept b tag_place = tt
  block_kept b not_available = tt

  last_kept : (b : ℕ) (rule : Rule) → HoldsAtLine (function_of n callees l) b (block_of l) 1 last_line rule
  last_kept b no_terminator = tt
  last_kept b entry_target = tt
  last_kept b count_mismatch = (refl, refl)
  last_kept b type_mismatch = (refl, refl)
  last_kept b convention = tt
  last_kept b signature_mismatch = tt
  last_kept b slot_range = tt
  last_kept b tag_place = refl
  last_kept b not_available = ((λ defs r. passes r), tt)

  all_kept : ((c : Callee) → In c callees → Declared m (function_of n callees l) c) → ((b : ℕ) (rule : Rule) → HoldsAtLine (function_of n callees l) b (block_of l) 0 l rule) → RulesHold m (function_of n callees l)
  all_kept declared first item.Whole rule = tt
  all_kept declared first (item.Callee k) rule = λ c get. callee_kept c (declared c (in_of callees k c get)) rule
    where
      in_of : (cs : List Callee) (i : ℕ) (c : Callee) → slice_get cs i ≡ Some c → In c cs
      in_of [] i c h = cc
      in_of (d ∷ cs) zero c h = inl (sym (some_same h))
      in_of (d ∷ cs) (suc i) c h = inr (in_of cs i c h)
  all_kept declared first (item.Block b) rule = λ k found. subst (λ z. HoldsAtBlock (function_of n callees l) b z rule) (only_block b k found) (block_kept b rule)
  all_kept declared first (item.Inst at) rule =
      λ k l' found get.
      let same = only_block at.block k found in
      let get' : slice_get (l ∷ last_line ∷ []) at.index ≡ Some l' = ap (λ (z : Block). slice_get z.lines at.index) same ∙ get in
      subst (λ z. HoldsAtLine (function_of n callees l) at.block z at.index l' rule) same (elim (two_lines at.index l' get') [
        | inl q ↦ subst (λ i. HoldsAtLine (function_of n callees l) at.block (block_of l) i l' rule) (sym q.0) (subst (λ z. HoldsAtLine (function_of n callees l) at.block (block_of l) 0 z rule) q.1 (first at.block rule))
        | inr q ↦ subst (λ i. HoldsAtLine (function_of n callees l) at.block (block_of l) i l' rule) (sym q.0) (subst (λ z. HoldsAtLine (function_of n callees l) at.block (block_of l) 1 z rule) q.1 (last_kept at.block rule))
      ])

-- ---- the two functions

call_kept : (b : ℕ) (rule : Rule) → HoldsAtLine caller b (block_of call_line) 0 call_line rule
call_kept b no_terminator = tt
call_kept b entry_target = tt
call_kept b count_mismatch = (refl, refl)
call_kept b type_mismatch = (refl, tt, (refl, refl))
call_kept b convention = tt
call_kept b signature_mismatch = tt
call_kept b slot_range = tt
call_kept b tag_place = tt
call_kept b not_available = ((λ defs r. passes both f (declares g 0 ∷ []) call_line refl refl r), tt)

add_kept : (b : ℕ) (rule : Rule) → HoldsAtLine callee b (block_of add_line) 0 add_line rule
unfolding row
add_kept b no_terminator = tt
add_kept b entry_target = tt
add_kept b count_mismatch = refl
add_kept b type_mismatch = (refl, refl)
add_kept b convention = tt
add_kept b signature_mismatch = tt
add_kept b slot_range = tt
add_kept b tag_place = refl
add_kept b not_available = ((λ defs r. passes both g [] add_line refl refl r), ((λ defs r. passes both g [] add_line refl refl r), tt))

g_declared : (c : Callee) → In c (declares g 0 ∷ []) → Declared both caller c
g_declared c (inl q) = subst (Declared both caller) (sym q) (λ h e. ap (λ (z : Function). Some z.sig) (some_same e))
g_declared c (inr p) = elim p [ ]

pub both_accepted : Accepted both
both_accepted h (inl q) = subst (RulesHold both) (sym q) (all_kept both f (declares g 0 ∷ []) call_line refl refl g_declared call_kept)
both_accepted h (inr (inl q)) = subst (RulesHold both) (sym q) (all_kept both g [] add_line refl refl (λ c p. elim p [ ]) add_kept)
both_accepted h (inr (inr p)) = elim p [ ]

caller_whole : WellFormed caller
caller_whole =
    record {
      begins = λ e. cc;
      blocks = ((λ p. p), tt);
      declared_once = ((λ p. elim p [ inl e ↦ cc | inr q ↦ q ]), ((λ p. p), tt));
      defined_once = ((λ p. elim p [ inl e ↦ cc | inr q ↦ q ]), ((λ p. p), tt));
      defined = λ v p. p;
      definitions_declared = λ v p. p;
      callees = (omega arith, tt);
      lines = ((record { values = (inl refl, tt); blocks = tt; slots = tt; shown = tt; callees = (omega arith, tt); sigs = tt }, (record { values = (inr (inl refl), tt); blocks = tt; slots = tt; shown = tt; callees = tt; sigs = tt }, tt)), tt);
    }

callee_whole : WellFormed callee
callee_whole =
    record {
      begins = λ e. cc;
      blocks = ((λ p. p), tt);
      declared_once = ((λ p. elim p [ inl e ↦ cc | inr q ↦ q ]), ((λ p. p), tt));
      defined_once = ((λ p. elim p [ inl e ↦ cc | inr q ↦ q ]), ((λ p. p), tt));
      defined = λ v p. p;
      definitions_declared = λ v p. p;
      callees = tt;
      lines = ((record { values = (inl refl, (inl refl, tt)); blocks = tt; slots = tt; shown = tt; callees = tt; sigs = tt }, (record { values = (inr (inl refl), tt); blocks = tt; slots = tt; shown = tt; callees = tt; sigs = tt }, tt)), tt);
    }

pub both_whole : IsModule both
both_whole = record { names = (refl, (refl, tt)); whole = (caller_whole, (callee_whole, tt)) }

-- the call is a site
abbrev call_of_both : Splicing
call_of_both = record { naming = sides; caller = caller; callee = callee; at = 0; before = []; site = call_line; behind = last_line ∷ [] }

pub both_site : Site both call_of_both
both_site = record { block = block_of call_line; block_found = refl; lines = refl; caller_found = refl; callee = 0; is_call = refl; declared = declares g 0; declared_found = refl; callee_found = refl }
