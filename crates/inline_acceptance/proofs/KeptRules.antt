-- What a line keeps under other numbers, in a function that has the parts of its function under them: counts, types,
-- conventions, signatures, slots and the values that it uses.
use Rattle.inline_outcomes.proofs.Local.{try_target_called}
use Rattle.std.proofs.Common.{◌≡◌, ℕ, zero, suc, List, [], ◌∷◌, ◌++◌, length, map, Option, Some, None, false, true, refl, sym, ap, ap₂, ◌∙◌, subst}
use Rattle.std.specs.Prelude.{slice_get, IsSomeAnd, IsSome, IsTrue, ℤ}
use Rattle.std.proofs.lemmas.List.{map-append}
use Rattle.clk_num.specs.declared.width.Width.{Width}
use Rattle.clk_num.specs.declared.op.Op.{Op}
use Rattle.clk_num.specs.declared.op.Op.TheVariants as op
use Rattle.clk_num.specs.Rows.{row}
use Rattle.ir_core.specs.declared.signatures.Ty.{Ty}
use Rattle.ir_core.specs.declared.signatures.Ty.TheVariants.{I64}
use Rattle.ir_core.specs.declared.signatures.Sig.{Sig}
use Rattle.ir_core.specs.declared.signatures.Conv.TheVariants.{Tail}
use Rattle.ir_core.specs.declared.declarations.Callee.{Callee}
use Rattle.ir_core.specs.declared.declarations.SlotDecl.{SlotDecl}
use Rattle.ir_core.specs.declared.instructions.Arg.{Arg}
use Rattle.ir_core.specs.declared.instructions.Arg.TheVariants as arg
use Rattle.ir_core.specs.declared.instructions.BlockCall.{BlockCall}
use Rattle.ir_core.specs.Module.{Simple, Nop, Const, Pure, PureImm, Load, Store, StackLoad, StackStore, FuncAddr, Trap, Trapz, Trapnz, Branch, Jump, Brif, BrTable, CallTarget, Direct, Indirect, Function, Branches, Call, Instruction, Line, Plain, Return, ReturnCall, SequencePoint, TryCall, TryTarget, TryDirect, TryIndirect, call_target}
use Rattle.ir_core.specs.Lookup.{and_then, find_block, type_of, signature_of, param_types, width_of, ty_of}
use Rattle.ir_core.specs.Lists.{Each}
use Rattle.ir_semantics.specs.Values.{cons_some, slot_place, place_in, bytes_in}
use Rattle.ir_core.specs.Uses.{targets, table_targets, values_used, operands, simple_used, called_used, targets_used, arg_values_used}
use Rattle.ir_semantics.specs.Renaming.{Renaming, arg_under, target_under, simple_under, branch_under, called_under, entry_under, instruction_under, try_target_under}
use Rattle.ir_semantics.specs.CountRules.{TargetCounts, ArgCounts, CallCounts, InstructionCounts, simple_results}
use Rattle.ir_semantics.specs.TypeRules.{types_of, each_some, HaveTypes, TargetTypes, arg_type, type_at, widths_of_values, OpTypes, SimpleTypes, BranchTypes, CalledTypes, CallTypes, InstructionTypes, store_form}
use Rattle.ir_semantics.specs.CallRules.{InstructionConvention, InstructionSignature}
use Rattle.ir_semantics.specs.SlotRules.{SimpleSlot, InstructionSlot}
use Rattle.ir_semantics.proofs.SafetyPlaces.{some_and}
use Rattle.ir_core.specs.Forms.{access_type, controlling}
use Rattle.inline_outcomes.proofs.Frames.{Embeds}
use Rattle.inline_acceptance.proofs.KeptLists.{and_some, each_map, length_map, table_under, targets_under}

pub some_map : {A : Type 0} (o : Option A) (P Q : A → Type 0) → ((a : A) → o ≡ Some a → P a → Q a) → IsSomeAnd o P → IsSomeAnd o Q
some_map None P Q go h = elim h [ ]
some_map (Some a) P Q go h = go a refl h

-- the instructions that leave the function
abbrev pub Leaves : Instruction → Type 0
Leaves (Return vs) = Unit {0}
Leaves (ReturnCall t args) = Unit {0}
Leaves _ = ⊥

-- ---- values used

pub arg_used_under : (r : Renaming) (as' : List Arg) → arg_values_used (map (arg_under r) as') ≡ map r.value (arg_values_used as')
arg_used_under r [] = refl
arg_used_under r (arg.Value v ∷ as') = ap (λ z. r.value v ∷ z) (arg_used_under r as')
arg_used_under r (arg.Ret i ∷ as') = arg_used_under r as'
arg_used_under r (arg.Exn i ∷ as') = arg_used_under r as'

pub targets_used_under : (r : Renaming) (ts : List BlockCall) → targets_used (map (target_under r) ts) ≡ map r.value (targets_used ts)
targets_used_under r [] = refl
targets_used_under r (t ∷ ts) = ap₂ (λ x y. x ++ y) (arg_used_under r t.args) (targets_used_under r ts) ∙ sym (map-append r.value (arg_values_used t.args) (targets_used ts))

pub simple_used_under : (r : Renaming) (p : Simple) → simple_used (simple_under r p) ≡ map r.value (simple_used p)
simple_used_under r Nop = refl
simple_used_under r (Const a) = refl
simple_used_under r (Pure a b) = refl
simple_used_under r (PureImm a b c) = refl
simple_used_under r (Load a b c d) = refl
simple_used_under r (Store a b c d e) = refl
simple_used_under r (StackLoad a b c) = refl
simple_used_under r (StackStore a b c) = refl
simple_used_under r (FuncAddr a) = refl
simple_used_under r (Trap a) = refl
simple_used_under r (Trapz a b) = refl
simple_used_under r (Trapnz a b) = refl

pub called_used_under : (r : Renaming) (t : CallTarget) (args : List ℕ) → called_used (called_under r t) ++ map r.value args ≡ map r.value (called_used t ++ args)
called_used_under r (Direct k) args = refl
called_used_under r (Indirect s a) args = refl

pub operands_under : (r : Renaming) (i : Instruction) → operands (instruction_under r i) ≡ map r.value (operands i)
operands_under r (Plain p) = simple_used_under r p
operands_under r (Branches (Jump t)) = refl
operands_under r (Branches (Brif v t u)) = refl
operands_under r (Branches (BrTable v d ts)) = refl
operands_under r SequencePoint = refl
operands_under r (Return vs) = refl
operands_under r (Call t args) = called_used_under r t args
operands_under r (ReturnCall t args) = called_used_under r t args
operands_under r (TryCall (TryDirect k) s args n u) = refl
operands_under r (TryCall (TryIndirect a) s args n u) = refl

pub used_under : (r : Renaming) (i : Instruction) → values_used (instruction_under r i) ≡ map r.value (values_used i)
used_under r i = ap₂ (λ x y. x ++ y) (operands_under r i) (ap targets_used (targets_under r i) ∙ targets_used_under r (targets i)) ∙ sym (map-append r.value (operands i) (targets_used (targets i)))

-- ---- a function F, whose parts G has under r

module _ (F G : Function) (r : Renaming) (Rest : List Line → List Line → Type 0) (emb : Embeds F G r Rest) (typed : (v : ℕ) → type_of G (r.value v) ≡ type_of F v) where
  pub sig_under : (t : CallTarget) (s : Sig) → signature_of F t ≡ Some s → signature_of G (called_under r t) ≡ Some s
  sig_under (Indirect n a) s h = emb.fits.sig n s h
  sig_under (Direct k) s h = by (slice_get F.callees k) refl h
    where
      by : (o : Option Callee) → slice_get F.callees k ≡ o → and_then (and_then o (λ c. Some c.sig)) (slice_get F.sigs) ≡ Some s → signature_of G (Direct (r.callee k)) ≡ Some s
      by None q e = cc
      by (Some c) q e =
          let u = emb.fits.callee k c q in
          ap (λ o. and_then (and_then o (λ (d : Callee). Some d.sig)) (slice_get G.sigs)) u.1 ∙ u.2.sig s e

  pub vals_typed : (vs : List ℕ) → types_of G (map r.value vs) ≡ types_of F vs
  vals_typed [] = refl
  vals_typed (v ∷ vs) = ap₂ (λ x y. x ∷ y) (typed v) (vals_typed vs)

  pub have_under : (vs : List ℕ) (ts : List Ty) → HaveTypes F vs ts → HaveTypes G (map r.value vs) ts
  have_under vs ts h = vals_typed vs ∙ h

  -- ---- targets

  arg_counts : (results : Option ℕ) (a : Arg) → ArgCounts results a → ArgCounts results (arg_under r a)
  arg_counts results (arg.Value v) h = h
  arg_counts results (arg.Ret i) h = h
  arg_counts results (arg.Exn i) h = h

  pub target_counts : (results : Option ℕ) (t : BlockCall) → TargetCounts F results t → TargetCounts G results (target_under r t)
  target_counts results t h =
      let u = some_and (find_block t.block F.blocks) (λ b. length t.args ≡ length b.params) h.0 in
      let e = emb.block t.block u.0 u.1 in (
        and_some (find_block (r.block t.block) G.blocks) (λ b. length (map (arg_under r) t.args) ≡ length b.params) e.0 e.1 (length_map (arg_under r) t.args ∙ u.2 ∙ sym (length_map r.value u.0.params) ∙ ap length (sym e.2)),
        each_map (ArgCounts results) (ArgCounts results) (arg_under r) (arg_counts results) t.args h.1,
      )

  pub args_typed : (results payloads : List Ty) (as' : List Arg) → map (arg_type G results payloads) (map (arg_under r) as') ≡ map (arg_type F results payloads) as'
  args_typed results payloads [] = refl
  args_typed results payloads (arg.Value v ∷ as') = ap₂ (λ x y. x ∷ y) (typed v) (args_typed results payloads as')
  args_typed results payloads (arg.Ret i ∷ as') = ap (λ y. slice_get results i ∷ y) (args_typed results payloads as')
  args_typed results payloads (arg.Exn i ∷ as') = ap (λ y. slice_get payloads i ∷ y) (args_typed results payloads as')

  pub target_types : (results payloads : List Ty) (t : BlockCall) → TargetTypes F results payloads t → TargetTypes G results payloads (target_under r t)
  target_types results payloads t h =
      let u = some_and (find_block t.block F.blocks) (λ b. map (arg_type F results payloads) t.args ≡ types_of F b.params) h in
      let e = emb.block t.block u.0 u.1 in
      and_some (find_block (r.block t.block) G.blocks) (λ b. map (arg_type G results payloads) (map (arg_under r) t.args) ≡ types_of G b.params) e.0 e.1 (args_typed results payloads t.args ∙ u.2 ∙ sym (vals_typed u.0.params) ∙ ap (types_of G) (sym e.2))

  pub targets_counts : (results : Option ℕ) (ts : List BlockCall) → Each (TargetCounts F results) ts → Each (TargetCounts G results) (map (target_under r) ts)
  targets_counts results ts h = each_map (TargetCounts F results) (TargetCounts G results) (target_under r) (target_counts results) ts h

  pub targets_types : (results payloads : List Ty) (ts : List BlockCall) → Each (TargetTypes F results payloads) ts → Each (TargetTypes G results payloads) (map (target_under r) ts)
  targets_types results payloads ts h = each_map (TargetTypes F results payloads) (TargetTypes G results payloads) (target_under r) (target_types results payloads) ts h

  -- ---- calls

  pub call_counts : (t : CallTarget) (args : List ℕ) (P Q : Sig → Type 0) → ((s : Sig) → signature_of F t ≡ Some s → P s → Q s) → CallCounts F t args P → CallCounts G (called_under r t) (map r.value args) Q
  call_counts t args P Q go h =
      let u = some_and (signature_of F t) (λ s. (length args ≡ length s.params) × P s) h in
      and_some (signature_of G (called_under r t)) (λ s. (length (map r.value args) ≡ length s.params) × Q s) u.0 (sig_under t u.0 u.1) (length_map r.value args ∙ u.2.0, go u.0 u.1 u.2.1)

  try_counts : (t : TryTarget) (sig : ℕ) (args : List ℕ) (P Q : Sig → Type 0) → ((s : Sig) → signature_of F (call_target t sig) ≡ Some s → P s → Q s) → CallCounts F (call_target t sig) args P → CallCounts G (call_target (try_target_under r t) (r.sig sig)) (map r.value args) Q
  try_counts (TryDirect k) sig args P Q go h = call_counts (Direct k) args P Q go h
  try_counts (TryIndirect a) sig args P Q go h = call_counts (Indirect sig a) args P Q go h

  called_types : (t : CallTarget) → CalledTypes F t → CalledTypes G (called_under r t)
  called_types (Direct k) h = h
  called_types (Indirect s a) h = typed a ∙ h

  pub call_types : (l l' : Line) → l'.ty ≡ l.ty → (t : CallTarget) (args : List ℕ) (P Q : Sig → Type 0) → ((s : Sig) → signature_of F t ≡ Some s → P s → Q s) → CallTypes F l t args P → CallTypes G l' (called_under r t) (map r.value args) Q
  call_types l l' ty t args P Q go h =
      let u = some_and (signature_of F t) (λ s. HaveTypes F args (param_types s.params) × P s) h.2 in
      (ty ∙ h.0, called_types t h.1, and_some (signature_of G (called_under r t)) (λ s. HaveTypes G (map r.value args) (param_types s.params) × Q s) u.0 (sig_under t u.0 u.1) (have_under args (param_types u.0.params) u.2.0, go u.0 u.1 u.2.1))

  try_types : (l l' : Line) → l'.ty ≡ l.ty → (t : TryTarget) (sig : ℕ) (args : List ℕ) (P Q : Sig → Type 0) → ((s : Sig) → signature_of F (call_target t sig) ≡ Some s → P s → Q s) → CallTypes F l (call_target t sig) args P → CallTypes G l' (call_target (try_target_under r t) (r.sig sig)) (map r.value args) Q
  try_types l l' ty (TryDirect k) sig args P Q go h = call_types l l' ty (Direct k) args P Q go h
  try_types l l' ty (TryIndirect a) sig args P Q go h = call_types l l' ty (Indirect sig a) args P Q go h

  -- ---- counts

  simple_count : (p : Simple) → simple_results (simple_under r p) ≡ simple_results p
  simple_count Nop = refl
  simple_count (Const a) = refl
  simple_count (Pure a b) = refl
  simple_count (PureImm a b c) = refl
  simple_count (Load a b c d) = refl
  simple_count (Store a b c d e) = refl
  simple_count (StackLoad a b c) = refl
  simple_count (StackStore a b c) = refl
  simple_count (FuncAddr a) = refl
  simple_count (Trap a) = refl
  simple_count (Trapz a b) = refl
  simple_count (Trapnz a b) = refl

  module _ (l l' : Line) (results : l'.results ≡ map r.value l.results) where
    counted : (c : ℕ) → length l.results ≡ c → length l'.results ≡ c
    counted c h = ap length results ∙ length_map r.value l.results ∙ h

    pub counts_under : (i : Instruction) → (Leaves i → length F.sig.results ≡ length G.sig.results) → InstructionCounts F l i → InstructionCounts G l' (instruction_under r i)
    counts_under (Plain p) lv h = counted (simple_results p) h ∙ sym (simple_count p)
    counts_under (Branches b) lv h = (counted 0 h.0, subst (Each (TargetCounts G None)) (sym (targets_under r (Branches b))) (targets_counts None (targets (Branches b)) h.1))
    counts_under SequencePoint lv h = counted 0 h
    counts_under (Return vs) lv h = (counted 0 h.0, length_map r.value vs ∙ h.1 ∙ lv tt)
    counts_under (Call t args) lv h = call_counts t args (λ s. length l.results ≡ length s.results) (λ s. length l'.results ≡ length s.results) (λ s q p. counted (length s.results) p) h
    counts_under (ReturnCall t args) lv h =
        call_counts t args (λ s. (length l.results ≡ 0) × (length s.results ≡ length F.sig.results)) (λ s. (length l'.results ≡ 0) × (length s.results ≡ length G.sig.results)) (λ s q p. (counted 0 p.0, p.1 ∙ lv tt)) h
    counts_under (TryCall t sig args normal table) lv h =
        try_counts t sig args (λ s. (length l.results ≡ 0) × Each (TargetCounts F (Some (length s.results))) (normal ∷ table_targets table)) (λ s. (length l'.results ≡ 0) × Each (TargetCounts G (Some (length s.results))) (target_under r normal ∷ table_targets (map (entry_under r) table))) (λ s q p. (counted 0 p.0, subst (Each (TargetCounts G (Some (length s.results)))) (sym (targets_under r (TryCall t sig args normal table))) (targets_counts (Some (length s.results)) (normal ∷ table_targets table) p.1))) h

  -- ---- types

  some_typed : (v : ℕ) (P Q : Ty → Type 0) → ((t : Ty) → P t → Q t) → IsSomeAnd (type_of F v) P → IsSomeAnd (type_of G (r.value v)) Q
  some_typed v P Q go h = subst (λ o. IsSomeAnd o Q) (sym (typed v)) (some_map (type_of F v) P Q (λ t q p. go t p) h)

  widths_same : (vs : List ℕ) → widths_of_values G (map r.value vs) ≡ widths_of_values F vs
  widths_same [] = refl
  widths_same (v ∷ vs) = ap₂ (λ x y. cons_some (and_then x (λ t. Some (width_of t))) y) (typed v) (widths_same vs)

  at_place : (vs : List ℕ) (i : ℕ) → type_at G (slice_get (map r.value vs) i) ≡ type_at F (slice_get vs i)
  at_place [] i = refl
  at_place (v ∷ vs) zero = typed v
  at_place (v ∷ vs) (suc i) = at_place vs i

  at_controlling : (o : Op) (vs : List ℕ) → type_at G (controlling o (map r.value vs)) ≡ type_at F (controlling o vs)
  at_controlling op.Select vs = at_place vs 1
  at_controlling (op.Uextend w) vs = refl
  at_controlling (op.Sextend w) vs = refl
  at_controlling (op.Ireduce w) vs = refl
  at_controlling _ vs = at_place vs 0

  module _ (l l' : Line) (results : l'.results ≡ map r.value l.results) (ty : l'.ty ≡ l.ty) where
    have : (ts : List Ty) → HaveTypes F l.results ts → HaveTypes G l'.results ts
    have ts h = ap (types_of G) results ∙ have_under l.results ts h

    op_types : (o : Op) (ws : Option (List Width)) → OpTypes F l o ws → OpTypes G l' o ws
    op_types o ws h = some_map ws (λ given. IsSomeAnd (row o given) (λ ts. HaveTypes F l.results (map ty_of ts))) (λ given. IsSomeAnd (row o given) (λ ts. HaveTypes G l'.results (map ty_of ts))) (λ given q p. some_map (row o given) (λ ts. HaveTypes F l.results (map ty_of ts)) (λ ts. HaveTypes G l'.results (map ty_of ts)) (λ ts q2 p2. have (map ty_of ts) p2) p) h

    simple_types : (p : Simple) → SimpleTypes F l p → SimpleTypes G l' (simple_under r p)
    simple_types Nop h = ty ∙ h
    simple_types (Const x) h = (ty ∙ h.0, h.1, h.2, have (ty_of x.width ∷ []) h.3)
    simple_types (Pure o args) h = (op_types o (widths_of_values G (map r.value args)) (subst (OpTypes F l o) (sym (widths_same args)) h.0), ty ∙ h.1 ∙ sym (at_controlling o args))
    simple_types (PureImm o a imm) h = (
      h.0,
      h.1,
      some_typed a (λ t. (l.ty ≡ Some t) × (imm.width ≡ width_of t) × OpTypes F l o (Some (width_of t ∷ (imm.width ∷ [])))) (λ t. (l'.ty ≡ Some t) × (imm.width ≡ width_of t) × OpTypes G l' o (Some (width_of t ∷ (imm.width ∷ [])))) (λ t p. (ty ∙ p.0, p.1, op_types o (Some (width_of t ∷ (imm.width ∷ []))) p.2)) h.2,
    )
    simple_types (Load access flags a offset) h = (ty ∙ h.0, h.1, h.2, typed a ∙ h.3, have (access_type access ∷ []) h.4)
    simple_types (Store narrow flags v a offset) h = (h.0, typed a ∙ h.1, some_typed v (λ t. (l.ty ≡ Some t) × IsTrue (store_form narrow t)) (λ t. (l'.ty ≡ Some t) × IsTrue (store_form narrow t)) (λ t p. (ty ∙ p.0, p.1)) h.2)
    simple_types (StackLoad t k offset) h = (ty ∙ h.0, have (t ∷ []) h.1)
    simple_types (StackStore v k offset) h = some_typed v (λ t. l.ty ≡ Some t) (λ t. l'.ty ≡ Some t) (λ t p. ty ∙ p) h
    simple_types (FuncAddr k) h = (ty ∙ h.0, have (I64 ∷ []) h.1)
    simple_types (Trap code) h = ty ∙ h
    simple_types (Trapz v code) h = some_typed v (λ t. l.ty ≡ Some t) (λ t. l'.ty ≡ Some t) (λ t p. ty ∙ p) h
    simple_types (Trapnz v code) h = some_typed v (λ t. l.ty ≡ Some t) (λ t. l'.ty ≡ Some t) (λ t p. ty ∙ p) h

    branch_types : (b : Branch) → BranchTypes F l b → BranchTypes G l' (branch_under r b)
    branch_types (Jump t) h = ty ∙ h
    branch_types (Brif v t u) h = some_typed v (λ t. l.ty ≡ Some t) (λ t. l'.ty ≡ Some t) (λ t p. ty ∙ p) h
    branch_types (BrTable v default ts) h = (ty ∙ h.0, typed v ∙ h.1)

    pub types_under : (i : Instruction) → (Leaves i → param_types F.sig.results ≡ param_types G.sig.results) → InstructionTypes F l i → InstructionTypes G l' (instruction_under r i)
    types_under (Plain p) lv h = simple_types p h
    types_under (Branches b) lv h = (branch_types b h.0, subst (Each (TargetTypes G [] [])) (sym (targets_under r (Branches b))) (targets_types [] [] (targets (Branches b)) h.1))
    types_under SequencePoint lv h = ty ∙ h
    types_under (Return vs) lv h = (ty ∙ h.0, have_under vs (param_types F.sig.results) h.1 ∙ ap each_some (lv tt))
    types_under (Call t args) lv h = call_types l l' ty t args (λ s. HaveTypes F l.results (param_types s.results)) (λ s. HaveTypes G l'.results (param_types s.results)) (λ s q p. have (param_types s.results) p) h
    types_under (ReturnCall t args) lv h = call_types l l' ty t args (λ s. param_types s.results ≡ param_types F.sig.results) (λ s. param_types s.results ≡ param_types G.sig.results) (λ s q p. p ∙ lv tt) h
    types_under (TryCall t sig args normal table) lv h =
        try_types l l' ty t sig args (λ s. TargetTypes F (param_types s.results) [] normal × Each (TargetTypes F [] (I64 ∷ I64 ∷ [])) (table_targets table)) (λ s. TargetTypes G (param_types s.results) [] (target_under r normal) × Each (TargetTypes G [] (I64 ∷ I64 ∷ [])) (table_targets (map (entry_under r) table))) (λ s q p. (target_types (param_types s.results) [] normal p.0, subst (Each (TargetTypes G [] (I64 ∷ I64 ∷ []))) (sym (table_under r table)) (targets_types [] (I64 ∷ I64 ∷ []) (table_targets table) p.1))) h

  -- ---- convention, signature and slots

  pub convention_under : (i : Instruction) → (Leaves i → F.sig.conv ≡ Tail → G.sig.conv ≡ Tail) → InstructionConvention F i → InstructionConvention G (instruction_under r i)
  convention_under (ReturnCall t args) lv h =
      let u = some_and (signature_of F t) (λ s. s.conv ≡ Tail) h.1 in (lv tt h.0, and_some (signature_of G (called_under r t)) (λ s. s.conv ≡ Tail) u.0 (sig_under t u.0 u.1) u.2)
  convention_under (Plain p) lv h = h
  convention_under (Branches p) lv h = h
  convention_under SequencePoint lv h = h
  convention_under (Return p) lv h = h
  convention_under (Call p a) lv h = h
  convention_under (TryCall p a b c d) lv h = h

  pub signature_under : (l : Line) (i : Instruction) → InstructionCounts F l i → InstructionSignature F i → InstructionSignature G (instruction_under r i)
  signature_under l (TryCall t sig args normal table) c h =
      let u = some_and (signature_of F (call_target t sig)) (λ s. (length args ≡ length s.params) × ((length l.results ≡ 0) × Each (TargetCounts F (Some (length s.results))) (normal ∷ table_targets table))) c in
      emb.fits.sig sig u.0 (h ∙ u.1) ∙ sym (sig_under (call_target t sig) u.0 u.1) ∙ ap (signature_of G) (sym (try_target_called r t sig))
  signature_under l (Plain p) c h = h
  signature_under l (Branches p) c h = h
  signature_under l SequencePoint c h = h
  signature_under l (Return p) c h = h
  signature_under l (Call p a) c h = h
  signature_under l (ReturnCall p a) c h = h

  slot_there : (k : ℕ) (offset : ℤ) (n : ℕ) → IsSome (slot_place F k offset n) → IsSome (slot_place G (r.slot k) offset n)
  slot_there k offset n h = by (slice_get F.slots k) refl h
    where
      by : (o : Option SlotDecl) → slice_get F.slots k ≡ o → IsSome (slot_place F k offset n) → IsSome (slot_place G (r.slot k) offset n)
      by None q e = let z : false ≡ true = subst (λ o. IsSome (and_then o (λ (d : SlotDecl). place_in d.size offset n))) q e in cc
      by (Some d) q e = subst (λ o. IsSome (and_then o (λ (d : SlotDecl). place_in d.size offset n))) (sym (emb.fits.size k d q).0) (subst (λ o. IsSome (and_then o (λ (d : SlotDecl). place_in d.size offset n))) q e)

  simple_slot : (p : Simple) → SimpleSlot F p → SimpleSlot G (simple_under r p)
  simple_slot (StackLoad t k offset) h = slot_there k offset (bytes_in (width_of t)) h
  simple_slot (StackStore v k offset) h = some_typed v (λ t. IsSome (slot_place F k offset (bytes_in (width_of t)))) (λ t. IsSome (slot_place G (r.slot k) offset (bytes_in (width_of t)))) (λ t p. slot_there k offset (bytes_in (width_of t)) p) h
  simple_slot Nop h = h
  simple_slot (Const a) h = h
  simple_slot (Pure a b) h = h
  simple_slot (PureImm a b c) h = h
  simple_slot (Load a b c d) h = h
  simple_slot (Store a b c d e) h = h
  simple_slot (FuncAddr a) h = h
  simple_slot (Trap a) h = h
  simple_slot (Trapz a b) h = h
  simple_slot (Trapnz a b) h = h

  pub slot_under : (i : Instruction) → InstructionSlot F i → InstructionSlot G (instruction_under r i)
  slot_under (Plain p) h = simple_slot p h
  slot_under (Branches p) h = h
  slot_under SequencePoint h = h
  slot_under (Return p) h = h
  slot_under (Call p a) h = h
  slot_under (ReturnCall p a) h = h
  slot_under (TryCall p a b c d) h = h
