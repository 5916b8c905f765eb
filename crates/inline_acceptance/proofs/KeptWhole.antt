-- What a line that keeps the rules uses is there: values of a type, blocks, slots and signatures.
use Rattle.std.proofs.Common.{◌≡◌, ℕ, ◌<◌, inl, inr, List, [], ◌∷◌, ◌++◌, length, map, Option, Some, None, false, true, refl, sym, ap, ◌∙◌, subst}
use Rattle.std.specs.Prelude.{slice_get, IsSomeAnd, IsSome, IsTrue, ℤ}
use Rattle.std.proofs.lemmas.Bool.{cases_eq}
use Rattle.clk_num.specs.declared.width.Width.{Width}
use Rattle.clk_num.specs.Rows.{row}
use Rattle.ir_core.specs.declared.signatures.Ty.{Ty}
use Rattle.ir_core.specs.declared.signatures.Ty.TheVariants.{I32, I64}
use Rattle.ir_core.specs.declared.signatures.Sig.{Sig}
use Rattle.ir_core.specs.declared.declarations.SlotDecl.{SlotDecl}
use Rattle.ir_core.specs.declared.instructions.Arg.{Arg}
use Rattle.ir_core.specs.declared.instructions.Arg.TheVariants as arg
use Rattle.ir_core.specs.declared.instructions.BlockCall.{BlockCall}
use Rattle.ir_core.specs.Module.{Simple, Nop, Const, Pure, PureImm, Load, Store, StackLoad, StackStore, FuncAddr, Trap, Trapz, Trapnz, Jump, Brif, BrTable, CallTarget, Direct, Indirect, Function, Branches, Call, Instruction, Line, Block, Plain, Return, ReturnCall, SequencePoint, TryCall, call_target}
use Rattle.ir_core.specs.Lookup.{and_then, find_block, type_in, type_of, signature_of, param_types, width_of, ty_of, block_numbers}
use Rattle.ir_core.specs.Lists.{In, Each}
use Rattle.ir_semantics.specs.Values.{cons_some, slot_place, place_in, bytes_in}
use Rattle.ir_core.specs.Uses.{targets, table_targets, values_used, simple_used, targets_used, called_used, arg_values_used, slots_used, sigs_used, called_sigs, blocks_used}
use Rattle.ir_core.proofs.ByNumber.{found_number}
use Rattle.ir_core.proofs.Members.{each_by, map_in, each_join}
use Rattle.ir_core.proofs.Gets.{get_below}
use Rattle.ir_semantics.specs.CountRules.{InstructionCounts, TargetCounts}
use Rattle.ir_semantics.specs.TypeRules.{InstructionTypes, SimpleTypes, TargetTypes, HaveTypes, arg_type, types_of, each_some, widths_of_values, OpTypes, CalledTypes, store_form}
use Rattle.ir_semantics.specs.CallRules.{InstructionSignature}
use Rattle.ir_semantics.specs.SlotRules.{InstructionSlot}
use Rattle.ir_semantics.proofs.SafetyPlaces.{some_and}
use Rattle.inline_acceptance.proofs.KeptTypes.{type_skip}
use Rattle.inline_acceptance.proofs.KeptFunctions.{line_lands}

-- ---- a value that has a type is declared, and a well typed line uses such values only

abbrev pub HasType : Function → ℕ → Type 0
HasType f v = (t : Ty) × (type_of f v ≡ Some t)

pub typed_declared : (ts : List (ℕ × Ty)) (v : ℕ) (t : Ty) → type_in ts v ≡ Some t → In v (map (λ x. x.0) ts)
typed_declared [] v t h = cc
typed_declared (x ∷ ts) v t h = elim (cases_eq x.0 v) [ inl q ↦ inl (sym q) | inr q ↦ inr (typed_declared ts v t (sym (type_skip x ts v q) ∙ h)) ]

module _ (f : Function) (params : (x : ℕ) (k : Block) → find_block x f.blocks ≡ Some k → (v : ℕ) → In v k.params → (t : Ty) × (type_of f v ≡ Some t)) where
  have_typed : (vs : List ℕ) (ts : List Ty) → HaveTypes f vs ts → Each (HasType f) vs
  have_typed [] ts h = tt
  have_typed (v ∷ vs) [] h = cc
  have_typed (v ∷ vs) (t ∷ ts) h = ((t, let e : type_of f v ≡ Some t = cc in e), have_typed vs ts (let e : types_of f vs ≡ each_some ts = cc in e))

  widths_typed : (vs : List ℕ) (P : List Width → Type 0) → IsSomeAnd (widths_of_values f vs) P → Each (HasType f) vs
  widths_typed [] P h = tt
  widths_typed (v ∷ vs) P h = by (type_of f v) refl (widths_of_values f vs) refl h (λ z. widths_typed vs (λ ws. Unit {0}) z)
    where
      by : (o : Option Ty) → type_of f v ≡ o → (ws : Option (List Width)) → widths_of_values f vs ≡ ws → IsSomeAnd (cons_some (and_then o (λ t. Some (width_of t))) ws) P → (IsSomeAnd (widths_of_values f vs) (λ ws. Unit {0}) → Each (HasType f) vs) → Each (HasType f) (v ∷ vs)
      by None q ws r e ih = elim e [ ]
      by (Some t) q None r e ih = elim e [ ]
      by (Some t) q (Some ws) r e ih = ((t, q), ih (subst (λ o. IsSomeAnd o (λ ws. Unit {0})) (sym r) tt))

  args_typed : (rs ps : List Ty) (as' : List Arg) (vs : List ℕ) → map (arg_type f rs ps) as' ≡ types_of f vs → ((v : ℕ) → In v vs → HasType f v) → Each (HasType f) (arg_values_used as')
  args_typed rs ps [] vs e h = tt
  args_typed rs ps (a ∷ as') [] e h = cc
  args_typed rs ps (arg.Value w ∷ as') (v ∷ vs) e h =
      let t = h v (inl refl) in
      let q : type_of f w ≡ type_of f v = cc in
      ((t.0, q ∙ t.1), args_typed rs ps as' vs (let z : map (arg_type f rs ps) as' ≡ types_of f vs = cc in z) (λ u p. h u (inr p)))
  args_typed rs ps (arg.Ret i ∷ as') (v ∷ vs) e h = args_typed rs ps as' vs (let z : map (arg_type f rs ps) as' ≡ types_of f vs = cc in z) (λ u p. h u (inr p))
  args_typed rs ps (arg.Exn i ∷ as') (v ∷ vs) e h = args_typed rs ps as' vs (let z : map (arg_type f rs ps) as' ≡ types_of f vs = cc in z) (λ u p. h u (inr p))

  target_typed : (rs ps : List Ty) (t : BlockCall) → TargetTypes f rs ps t → Each (HasType f) (arg_values_used t.args)
  target_typed rs ps t h =
      let u = some_and (find_block t.block f.blocks) (λ b. map (arg_type f rs ps) t.args ≡ types_of f b.params) h in
      args_typed rs ps t.args u.0.params u.2 (λ v p. params t.block u.0 u.1 v p)

  targets_typed : (rs ps : List Ty) (ts : List BlockCall) → Each (TargetTypes f rs ps) ts → Each (HasType f) (targets_used ts)
  targets_typed rs ps [] h = tt
  targets_typed rs ps (t ∷ ts) h = each_join (HasType f) (arg_values_used t.args) (targets_used ts) (target_typed rs ps t h.0) (targets_typed rs ps ts h.1)

  one_typed : (v : ℕ) (P : Ty → Type 0) → IsSomeAnd (type_of f v) P → HasType f v
  one_typed v P h = let u = some_and (type_of f v) P h in (u.0, u.1)

  simple_typed : (l : Line) (p : Simple) → SimpleTypes f l p → Each (HasType f) (simple_used p)
  simple_typed l Nop h = tt
  simple_typed l (Const x) h = tt
  simple_typed l (Pure o args) h = widths_typed args (λ given. IsSomeAnd (row o given) (λ results. HaveTypes f l.results (map ty_of results))) h.0
  simple_typed l (PureImm o a imm) h = (one_typed a (λ t. (l.ty ≡ Some t) × (imm.width ≡ width_of t) × OpTypes f l o (Some (width_of t ∷ (imm.width ∷ [])))) h.2, tt)
  simple_typed l (Load access flags a offset) h = ((I64, h.3), tt)
  simple_typed l (Store narrow flags v a offset) h = (one_typed v (λ t. (l.ty ≡ Some t) × IsTrue (store_form narrow t)) h.2, ((I64, h.1), tt))
  simple_typed l (StackLoad t k offset) h = tt
  simple_typed l (StackStore v k offset) h = (one_typed v (λ t. l.ty ≡ Some t) h, tt)
  simple_typed l (FuncAddr k) h = tt
  simple_typed l (Trap code) h = tt
  simple_typed l (Trapz v code) h = (one_typed v (λ t. l.ty ≡ Some t) h, tt)
  simple_typed l (Trapnz v code) h = (one_typed v (λ t. l.ty ≡ Some t) h, tt)

  called_typed : (t : CallTarget) → CalledTypes f t → Each (HasType f) (called_used t)
  called_typed (Direct k) h = tt
  called_typed (Indirect s a) h = ((I64, h), tt)

  call_typed : (t : CallTarget) (args : List ℕ) (P : Sig → Type 0) → CalledTypes f t → IsSomeAnd (signature_of f t) (λ s. HaveTypes f args (param_types s.params) × P s) → Each (HasType f) (called_used t ++ args)
  call_typed t args P c h =
      let u = some_and (signature_of f t) (λ s. HaveTypes f args (param_types s.params) × P s) h in
      each_join (HasType f) (called_used t) args (called_typed t c) (have_typed args (param_types u.0.params) u.2.0)

  pub used_typed : (l : Line) (i : Instruction) → InstructionTypes f l i → Each (HasType f) (values_used i)
  used_typed l (Plain p) h = each_join (HasType f) (simple_used p) [] (simple_typed l p h) tt
  used_typed l (Branches (Jump t)) h = targets_typed [] [] (t ∷ []) h.1
  used_typed l (Branches (Brif v t u)) h = (one_typed v (λ ty. l.ty ≡ Some ty) h.0, targets_typed [] [] (t ∷ (u ∷ [])) h.1)
  used_typed l (Branches (BrTable v default ts)) h = ((I32, h.0.1), targets_typed [] [] (default ∷ ts) h.1)
  used_typed l SequencePoint h = tt
  used_typed l (Return vs) h = each_join (HasType f) vs [] (have_typed vs (param_types f.sig.results) h.1) tt
  used_typed l (Call t args) h = each_join (HasType f) (called_used t ++ args) [] (call_typed t args (λ s. HaveTypes f l.results (param_types s.results)) h.1 h.2) tt
  used_typed l (ReturnCall t args) h = each_join (HasType f) (called_used t ++ args) [] (call_typed t args (λ s. param_types s.results ≡ param_types f.sig.results) h.1 h.2) tt
  used_typed l (TryCall t sig args normal table) h =
      let P = λ (s : Sig). TargetTypes f (param_types s.results) [] normal × Each (TargetTypes f [] (I64 ∷ (I64 ∷ []))) (table_targets table) in
      let u = some_and (signature_of f (call_target t sig)) (λ s. HaveTypes f args (param_types s.params) × P s) h.2 in
      each_join (HasType f) (called_used (call_target t sig) ++ args) (targets_used (normal ∷ table_targets table)) (call_typed (call_target t sig) args P h.1 h.2) (each_join (HasType f) (arg_values_used normal.args) (targets_used (table_targets table)) (target_typed (param_types u.0.results) [] normal u.2.1.0) (targets_typed [] (I64 ∷ (I64 ∷ [])) (table_targets table) u.2.1.1))

  -- ---- blocks, slots and signatures

  pub used_blocks : (l : Line) (i : Instruction) → InstructionCounts f l i → Each (λ b. In b (block_numbers f.blocks)) (blocks_used i)
  used_blocks l i h =
      each_by (λ b. In b (block_numbers f.blocks)) (blocks_used i) (λ b p.
      let u = map_in (λ (t : BlockCall). t.block) b (targets i) p in
      let e = line_lands f l i h u.0 u.1 in
      found_number b f.blocks e.0 (ap (λ z. find_block z f.blocks) u.2 ∙ e.1))

  slot_below : (k : ℕ) (offset : ℤ) (n : ℕ) → IsSome (slot_place f k offset n) → k < length f.slots
  slot_below k offset n h = by (slice_get f.slots k) refl h
    where
      by : (o : Option SlotDecl) → slice_get f.slots k ≡ o → IsSome (and_then o (λ d. place_in d.size offset n)) → k < length f.slots
      by None q e = let z : false ≡ true = e in cc
      by (Some d) q e = get_below f.slots k d q

  pub used_slots : (i : Instruction) → InstructionSlot f i → Each (λ k. k < length f.slots) (slots_used i)
  used_slots (Plain (StackLoad t k offset)) h = (slot_below k offset (bytes_in (width_of t)) h, tt)
  used_slots (Plain (StackStore v k offset)) h = let u = some_and (type_of f v) (λ t. IsSome (slot_place f k offset (bytes_in (width_of t)))) h in (slot_below k offset (bytes_in (width_of u.0)) u.2, tt)
  used_slots (Plain Nop) h = tt
  used_slots (Plain (Const a)) h = tt
  used_slots (Plain (Pure a b)) h = tt
  used_slots (Plain (PureImm a b c)) h = tt
  used_slots (Plain (Load a b c d)) h = tt
  used_slots (Plain (Store a b c d e)) h = tt
  used_slots (Plain (FuncAddr a)) h = tt
  used_slots (Plain (Trap a)) h = tt
  used_slots (Plain (Trapz a b)) h = tt
  used_slots (Plain (Trapnz a b)) h = tt
  used_slots (Branches p) h = tt
  used_slots SequencePoint h = tt
  used_slots (Return p) h = tt
  used_slots (Call p a) h = tt
  used_slots (ReturnCall p a) h = tt
  used_slots (TryCall p a b c d) h = tt

  called_below : (t : CallTarget) (P : Sig → Type 0) → IsSomeAnd (signature_of f t) P → Each (λ s. s < length f.sigs) (called_sigs t)
  called_below (Direct k) P h = tt
  called_below (Indirect s a) P h = let u = some_and (slice_get f.sigs s) P h in (get_below f.sigs s u.0 u.1, tt)

  pub used_sigs : (l : Line) (i : Instruction) → InstructionCounts f l i → InstructionSignature f i → Each (λ s. s < length f.sigs) (sigs_used i)
  used_sigs l (Plain p) c h = tt
  used_sigs l (Branches p) c h = tt
  used_sigs l SequencePoint c h = tt
  used_sigs l (Return p) c h = tt
  used_sigs l (Call t args) c h = called_below t (λ s. (length args ≡ length s.params) × (length l.results ≡ length s.results)) c
  used_sigs l (ReturnCall t args) c h = called_below t (λ s. (length args ≡ length s.params) × ((length l.results ≡ 0) × (length s.results ≡ length f.sig.results))) c
  used_sigs l (TryCall t sig args normal table) c h =
      let P = λ (s : Sig). (length args ≡ length s.params) × ((length l.results ≡ 0) × Each (TargetCounts f (Some (length s.results))) (normal ∷ table_targets table)) in
      let u = some_and (signature_of f (call_target t sig)) P c in
      (get_below f.sigs sig u.0 (h ∙ u.1), tt)
