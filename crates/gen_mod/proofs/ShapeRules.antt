-- Each of the four shapes keeps every rule, in any module whose functions all have the one signature.
use Rattle.std.proofs.Common.{◌≡◌, ◌≢◌, ℕ, suc, ◌<◌, ◌^◌, List, [], ◌∷◌, Some, refl, sym, ap, ◌∙◌, arith, inl}
use Rattle.std.specs.Prelude.{slice_get}
use Rattle.clk_num.specs.Rows.{row}
use Rattle.ir_core.specs.declared.names.FuncName.{FuncName}
use Rattle.ir_core.specs.declared.signatures.Ty.TheVariants.{I64}
use Rattle.ir_core.specs.Module.{Block, Function, Module}
use Rattle.ir_core.specs.Lists.{Each}
use Rattle.ir_core.proofs.Members.{each_in}
use Rattle.ir_semantics.specs.Available.{Available}
use Rattle.ir_semantics.specs.Accepted.{RulesHold}
use Rattle.ir_semantics.specs.EndRules.{Terminated}
use Rattle.ir_semantics.specs.CountRules.{Counts}
use Rattle.ir_semantics.specs.TypeRules.{HaveTypes, Types}
use Rattle.ir_semantics.specs.CallRules.{Declared}
use Rattle.ir_semantics.proofs.SafetyPlaces.{function_in}
use Rattle.gen_mod.specs.Shapes.{generated_name, host_name, signature, callee, block, iconst, icmp_ult, call, returned}
use Rattle.gen_mod.specs.Shapes.{brif, try_call}
use Rattle.gen_mod.specs.Shapes.{adding, calling_two, trying, choosing}
use Rattle.gen_mod.proofs.Paths.{entry_param, own_param, result_behind}
use Rattle.gen_mod.proofs.Rules.{LineKeeps, Keeps, rules_hold}

-- ---- declarations

abbrev pub Signed : Function → Type 0
Signed f = f.sig ≡ signature

declared : (m : Module) → Each Signed m → (f : Function) → slice_get f.sigs 0 ≡ Some signature → (name : FuncName)
    → Declared m f (callee name)
declared m signed f states name = λ h q.
    states ∙ ap (λ s. Some s) (sym (each_in Signed m signed h (function_in name m h q)))

-- ---- lines that come several times

iconst_keeps : {f : Function} {b : ℕ} {block : Block} {i : ℕ} (v c : ℕ) → c < 1000 → Terminated block i (iconst v c)
    → HaveTypes f (v ∷ []) (I64 ∷ []) → LineKeeps f b block i (iconst v c)
iconst_keeps v c small ends typed =
    let range : c < 2 ^ 64 = omega (arith, small) in
    record {
      ends = ends;
      targets = tt;
      counts = refl;
      types = (refl, (λ e. cc), range, typed);
      conventions = tt;
      signatures = tt;
      slots = tt;
      tags = refl;
      uses = tt;
    }

call_keeps : {f : Function} {b : ℕ} {block : Block} {i : ℕ} (v k x : ℕ) → Terminated block i (call v k x)
    → Counts f (call v k x) → Types f (call v k x) → Available f b i x → LineKeeps f b block i (call v k x)
call_keeps v k x ends counts types there = record {
  ends = ends;
  targets = tt;
  counts = counts;
  types = types;
  conventions = tt;
  signatures = tt;
  slots = tt;
  tags = tt;
  uses = (there, tt);
}

returned_keeps : {f : Function} {b : ℕ} {block : Block} {i : ℕ} (v : ℕ) → Terminated block i (returned v)
    → Counts f (returned v) → Types f (returned v) → Available f b i v → LineKeeps f b block i (returned v)
returned_keeps v ends counts types there = record {
  ends = ends;
  targets = tt;
  counts = counts;
  types = types;
  conventions = tt;
  signatures = tt;
  slots = tt;
  tags = refl;
  uses = (there, tt);
}

-- the rules on the first block ask nothing of another
behind : {A : Type 0} (n : ℕ) → suc n ≡ 0 → A
behind n e = absurd cc

some : {A : Type 0} {x : A} {xs : List A} → x ∷ xs ≢ []
some e = absurd cc

-- ---- the shapes

pub adding_keeps : (m : Module) (i c : ℕ) → c < 1000 → RulesHold m (adding i c)
unfolding row
adding_keeps m i c small =
    let f = adding i c in
    let sum : LineKeeps f 0 _ 1 _ = record {
      ends = tt;
      targets = tt;
      counts = refl;
      types = (refl, refl);
      conventions = tt;
      signatures = tt;
      slots = tt;
      tags = refl;
      uses = (entry_param f _ _ refl 0 (inl refl) 0 1, (result_behind f 0 0 _ refl _ refl 1 (inl refl), tt));
    } in
    rules_hold m f tt (
      record {
        filled = some;
        counts = λ e. refl;
        types = λ e. refl;
        lines = (
          iconst_keeps 1 c small tt refl,
          (
            sum,
            (returned_keeps 2 tt (refl, refl) (refl, refl) (result_behind f 0 1 _ refl _ refl 2 (inl refl)), tt),
          ),
        );
      },
      tt,
    )

pub calling_two_keeps : (m : Module) → Each Signed m → (i a b : ℕ) → RulesHold m (calling_two i a b)
calling_two_keeps m signed i a b =
    let f = calling_two i a b in
    rules_hold m f (declared m signed f refl (generated_name a), (declared m signed f refl (generated_name b), tt)) (
      record {
        filled = some;
        counts = λ e. refl;
        types = λ e. refl;
        lines = (
          call_keeps 1 0 0 tt (refl, refl) (refl, tt, (refl, refl)) (entry_param f _ _ refl 0 (inl refl) 0 0),
          (
            call_keeps 2 1 1 tt (refl, refl) (refl, tt, (refl, refl)) (result_behind f 0 0 _ refl _ refl 1 (inl refl)),
            (returned_keeps 2 tt (refl, refl) (refl, refl) (result_behind f 0 1 _ refl _ refl 2 (inl refl)), tt),
          ),
        );
      },
      tt,
    )

pub trying_keeps : (m : Module) → Each Signed m → (i a : ℕ) → RulesHold m (trying i a)
trying_keeps m signed i a =
    let f = trying i a in
    let tries : LineKeeps f 0 _ 0 (try_call 0 0 1 2) = record {
      ends = tt;
      targets = (behind 0, (behind 1, (behind 1, tt)));
      counts = (
        refl,
        (refl, ((refl, (omega arith, tt)), ((refl, (omega arith, tt)), ((refl, (omega arith, tt)), tt)))),
      );
      types = (refl, tt, (refl, (refl, (refl, (refl, tt)))));
      conventions = tt;
      signatures = refl;
      slots = tt;
      tags = tt;
      uses = (entry_param f _ _ refl 0 (inl refl) 0 0, tt);
    } in
    let entry : Keeps f (block 0 (0 ∷ []) (try_call 0 0 1 2 ∷ [])) = record {
      filled = some;
      counts = λ e. refl;
      types = λ e. refl;
      lines = (tries, tt);
    } in
    let normal : Keeps f (block 1 (1 ∷ []) (returned 1 ∷ [])) = record {
      filled = some;
      counts = behind 0;
      types = behind 0;
      lines = (returned_keeps 1 tt (refl, refl) (refl, refl) (own_param f 1 _ refl 1 (inl refl)), tt);
    } in
    let handler : Keeps f (block 2 (2 ∷ []) (returned 2 ∷ [])) = record {
      filled = some;
      counts = behind 1;
      types = behind 1;
      lines = (returned_keeps 2 tt (refl, refl) (refl, refl) (own_param f 2 _ refl 2 (inl refl)), tt);
    } in
    rules_hold m f (declared m signed f refl (generated_name a), tt) (entry, (normal, (handler, tt)))

pub choosing_keeps : (m : Module) → Each Signed m → (i c a : ℕ) → c < 1000 → RulesHold m (choosing i c a)
unfolding row
choosing_keeps m signed i c a small =
    let f = choosing i c a in
    let test : LineKeeps f 0 _ 1 (icmp_ult 2 0 1) = record {
      ends = tt;
      targets = tt;
      counts = refl;
      types = (refl, refl);
      conventions = tt;
      signatures = tt;
      slots = tt;
      tags = refl;
      uses = (entry_param f _ _ refl 0 (inl refl) 0 1, (result_behind f 0 0 _ refl _ refl 1 (inl refl), tt));
    } in
    let parts : LineKeeps f 0 _ 2 (brif 2 1 2) = record {
      ends = tt;
      targets = (behind 0, (behind 1, tt));
      counts = (refl, ((refl, tt), ((refl, tt), tt)));
      types = (refl, (refl, (refl, tt)));
      conventions = tt;
      signatures = tt;
      slots = tt;
      tags = refl;
      uses = (result_behind f 0 1 _ refl _ refl 2 (inl refl), tt);
    } in
    let entry : Keeps f (block 0 (0 ∷ []) (iconst 1 c ∷ icmp_ult 2 0 1 ∷ brif 2 1 2 ∷ [])) = record {
      filled = some;
      counts = λ e. refl;
      types = λ e. refl;
      lines = (iconst_keeps 1 c small tt refl, (test, (parts, tt)));
    } in
    let below : Keeps f (block 1 [] (call 3 0 0 ∷ returned 3 ∷ [])) = record {
      filled = some;
      counts = behind 0;
      types = behind 0;
      lines = (
        call_keeps 3 0 0 tt (refl, refl) (refl, tt, (refl, refl)) (entry_param f _ _ refl 0 (inl refl) 1 0),
        (returned_keeps 3 tt (refl, refl) (refl, refl) (result_behind f 1 0 _ refl _ refl 3 (inl refl)), tt),
      );
    } in
    let other : Keeps f (block 2 [] (call 4 1 0 ∷ returned 4 ∷ [])) = record {
      filled = some;
      counts = behind 1;
      types = behind 1;
      lines = (
        call_keeps 4 1 0 tt (refl, refl) (refl, tt, (refl, refl)) (entry_param f _ _ refl 0 (inl refl) 2 0),
        (returned_keeps 4 tt (refl, refl) (refl, refl) (result_behind f 2 0 _ refl _ refl 4 (inl refl)), tt),
      );
    } in
    rules_hold m f (declared m signed f refl (generated_name a), (declared m signed f refl host_name, tt))
    (entry, (below, (other, tt)))
