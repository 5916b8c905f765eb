-- What is found in a module before a run is what its runs rely on.
use Rattle.std.proofs.Common.{◌≡◌, ℕ, zero, suc, ◌+◌, ◌-◌, ◌<◌, ◌≤◌, List, [], ◌∷◌, length, Option, Some, None, get_or, slice_get, refl, arith, ap, ◌∙◌, sym, inl, inr, Bool, true, false, ◌&&◌}
use Rattle.std.specs.Prelude.{IsTrue, MatchOption}
use Rattle.std.proofs.lemmas.List.{get_or-map, length-map}
use Rattle.ir_core.specs.declared.declarations.Callee.{Callee}
use Rattle.ir_core.specs.declared.names.FuncName.{FuncName}
use Rattle.ir_core.specs.declared.places.Item.TheVariants as item
use Rattle.ir_core.specs.Module.{Simple, Nop, Const, Pure, PureImm, Load, Store, StackLoad, StackStore, FuncAddr, Trap, Trapz, Trapnz, Instruction, Plain, Branches, SequencePoint, Return, Call, ReturnCall, TryCall, Line, Block, Function, Module}
use Rattle.ir_core.specs.Lookup.{find_function, find_block}
use Rattle.ir_core.specs.Lists.{In}
use Rattle.ir_core.specs.Named.{place_of}
use Rattle.ir_core.specs.Sound.{IsSound}
use Rattle.ir_core.proofs.Indexing.{place_found}
use Rattle.ir_semantics.specs.Accepted.{RulesHold, Accepted, count_mismatch, type_mismatch}
use Rattle.ir_semantics.specs.CountRules.{InstructionCounts}
use Rattle.ir_semantics.specs.TypeRules.{InstructionTypes}
use Rattle.interp.specs.Lines.{has_none, simple_fits, instruction_fits, line_fits, lines_fit}
use Rattle.interp.specs.Linking.{LinksOf}
use Rattle.interp.specs.State.{function_at, found_at, Linked}
use Rattle.interp.specs.declared.state.Links.{Links}
use Rattle.interp.specs.declared.state.Program.{Program}

-- ---- lines of an accepted module fit

no_results : (vs : List ℕ) → length vs ≡ 0 → IsTrue (has_none vs)
no_results [] h = refl
no_results (v ∷ vs) h = absurd (omega arith)

simple_kept : (f : Function) (l : Line) (p : Simple) → InstructionCounts f l (Plain p) → InstructionTypes f l (Plain p) → IsTrue (simple_fits l.results p)
simple_kept f l Nop c t = refl
simple_kept f l (Const x) c t = refl
simple_kept f l (Pure o args) c t = refl
simple_kept f l (PureImm o a imm) c t = refl
simple_kept f l (Load access flags a offset) c t = t.2
simple_kept f l (Store narrow flags v a offset) c t = no_results l.results c
simple_kept f l (StackLoad t' k offset) c t = refl
simple_kept f l (StackStore v k offset) c t = refl
simple_kept f l (FuncAddr k) c t = refl
simple_kept f l (Trap code) c t = refl
simple_kept f l (Trapz v code) c t = refl
simple_kept f l (Trapnz v code) c t = refl

kept : (f : Function) (l : Line) (i : Instruction) → InstructionCounts f l i → InstructionTypes f l i → IsTrue (instruction_fits l.results i)
kept f l (Plain p) c t = simple_kept f l p c t
kept f l (Branches b) c t = refl
kept f l SequencePoint c t = refl
kept f l (Return vs) c t = refl
kept f l (Call to args) c t = refl
kept f l (ReturnCall to args) c t = refl
kept f l (TryCall to sig args normal table) c t = refl

and_true : (a b : Bool) → IsTrue a → IsTrue b → IsTrue (a && b)
and_true true b g h = h
and_true false b g h = cc g

all_fit : (ls : List Line) → ((j : ℕ) (l : Line) → slice_get ls j ≡ Some l → IsTrue (line_fits l)) → IsTrue (lines_fit ls)
all_fit [] h = refl
all_fit (l ∷ ls) h = and_true (line_fits l) (lines_fit ls) (h 0 l refl) (all_fit ls (λ j k e. h (suc j) k e))

there : (m : Module) (i : ℕ) → i < length m → In (function_at m i) m
there [] i h = absurd (omega arith)
there (f ∷ fs) zero h = inl refl
there (f ∷ fs) (suc i) h = inr (there fs i (omega arith))

pub fit_of : (m : Module) → Accepted m → (i b : ℕ) (k : Block) → i < length m → find_block b (function_at m i).blocks ≡ Some k → IsTrue (lines_fit k.lines)
fit_of m a i b k lt e =
    let f : RulesHold m (function_at m i) = a (function_at m i) (there m i lt) in
    all_fit k.lines (λ j l get. kept (function_at m i) l l.inst (f (item.Inst (record { block = b; index = j })) count_mismatch k l e get) (f (item.Inst (record { block = b; index = j })) type_mismatch k l e get))

-- ---- functions by name

at_get : (m : Module) (k : ℕ) → k < length m → slice_get m k ≡ Some (function_at m k)
at_get [] k h = absurd (omega arith)
at_get (f ∷ fs) zero h = refl
at_get (f ∷ fs) (suc k) h = at_get fs k (omega arith)

by_place : (m : Module) (n : FuncName) (o : Option ℕ) → MatchOption o (find_function n m ≡ None) (λ k. (0 ≤ k) × (k < 0 + length m) × (find_function n m ≡ slice_get m (k - 0))) → find_function n m ≡ found_at m o
by_place m n None r = r
by_place m n (Some k) r =
    let e : k - 0 ≡ k = omega arith in
    let lt : k < length m = omega (arith, r.1) in
    r.2 ∙ (ap (slice_get m) e ∙ at_get m k lt)

pub found_by_name : (m : Module) (n : FuncName) → find_function n m ≡ found_at m (place_of n m)
found_by_name m n = by_place m n (place_of n m) (place_found n 0 m)

-- ---- the whole

pub linked : (p : Program) → length p.links.items ≡ length p.module.now → ((k : ℕ) → k < length p.module.now → IsSound (function_at p.module.now k)) → ((k : ℕ) (d : Links) → k < length p.module.now → LinksOf p.module.now (function_at p.module.now k) (get_or p.links.items k d)) → Accepted p.module.now → Linked p
linked p count sound found accepted = record {
  lengths = count;
  sound = sound;
  callees = λ i l lt. ap length (found i l lt).callees ∙ length-map (function_at p.module.now i).callees (λ (c : Callee). place_of c.name p.module.now);
  found = λ i k l d c lt lt'.
      found_by_name p.module.now (get_or (function_at p.module.now i).callees k c).name
      ∙ ap (found_at p.module.now) (sym (get_or-map (λ (c : Callee). place_of c.name p.module.now) (function_at p.module.now i).callees k c d lt') ∙ ap (λ xs. get_or xs k d) (sym (found i l lt).callees));
  fit = fit_of p.module.now accepted;
  blocks = λ i l lt. (found i l lt).blocks;
}
