-- The tests are the rules.
use Rattle.std.proofs.Common.{◌^◌, ◌≡◌, ◌≢◌, ◌<◌, ℕ, suc, List, [], ◌∷◌, length, map, Option, Some, None, Bool, true, false, not, ◌&&◌, refl, ap, ap₂, subst, eq-eqb, ltb-true, lt-ltb}
use Rattle.std.specs.Prelude.{nat_eq, nat_lt, IsSomeAnd, IsSome, is_some, slice_get, ⊤}
use Rattle.std.specs.List.{list_all, list_any}
use Rattle.debug_tags.specs.declared.tags.Tag.{Tag}
use Rattle.debug_tags.specs.Tags.{is_slot}
use Rattle.clk_num.specs.Width.{same, bits_of}
use Rattle.clk_num.specs.declared.width.Width.{Width}
use Rattle.clk_num.specs.declared.width.Width.TheVariants.{W8, W16, W32, W64, W128}
use Rattle.clk_num.specs.declared.op.Op.{Op}
use Rattle.clk_num.specs.Rows.{row}
use Rattle.clk_num.proofs.RowLemmas.{same_width}
use Rattle.ir_core.specs.declared.signatures.Ty.{Ty}
use Rattle.ir_core.specs.declared.signatures.Ty.TheVariants as ty
use Rattle.ir_core.specs.declared.signatures.Sig.{Sig}
use Rattle.ir_core.specs.declared.signatures.Conv.{Conv}
use Rattle.ir_core.specs.declared.signatures.Conv.TheVariants.{Tail}
use Rattle.ir_core.specs.declared.declarations.Callee.{Callee}
use Rattle.ir_core.specs.declared.instructions.Arg.{Arg}
use Rattle.ir_core.specs.declared.instructions.Arg.TheVariants as arg
use Rattle.ir_core.specs.declared.instructions.BlockCall.{BlockCall}
use Rattle.ir_core.specs.declared.places.Item.{Item}
use Rattle.ir_core.specs.declared.places.Item.TheVariants as item
use Rattle.ir_core.specs.Module.{Simple, Nop, Const, Pure, PureImm, Load, Store, StackLoad, StackStore, FuncAddr, Trap, Trapz, Trapnz, Branch, Jump, Brif, BrTable, CallTarget, Direct, Indirect, call_target, Instruction, Plain, Branches, SequencePoint, Return, Call, ReturnCall, TryCall, Line, Block, Function, Module}
use Rattle.ir_core.specs.Lookup.{find_function, find_block, type_of, signature_of, param_types, width_of, ty_of}
use Rattle.ir_core.specs.Signatures.{same_type, same_conv, same_sig}
use Rattle.ir_core.specs.Lists.{Each}
use Rattle.ir_semantics.specs.Values.{bytes_in, slot_place}
use Rattle.ir_semantics.specs.Splice.{first_number}
use Rattle.ir_core.specs.Uses.{targets, table_targets, values_used}
use Rattle.ir_semantics.specs.Available.{terminates, Available}
use Rattle.ir_core.specs.Forms as forms
use Rattle.ir_semantics.specs.CallRules as call_rules
use Rattle.ir_semantics.specs.CountRules as count_rules
use Rattle.ir_semantics.specs.EndRules as end_rules
use Rattle.ir_semantics.specs.SlotRules as slot_rules
use Rattle.ir_semantics.specs.TypeRules as type_rules
use Rattle.ir_semantics.specs.Accepted as rule
use Rattle.ir_semantics.proofs.SafetyTypes.{head_same, tail_same}
use Rattle.ir_core.proofs.Equal.{number_equal, sig_equal, sig_same, type_equal, conv_equal, conv_same}
use Rattle.ir_core.proofs.Gets.{some_same}
use Rattle.ir_check.specs.Twins as test

-- the test is true exactly where P holds
pub record Twin (b : Bool) (P : Type 0) : Type 0 where
  pub yes : b ≡ true → P
  pub back : P → b ≡ true

-- ---- words

always : Twin true ⊤
always = record { yes = λ h. tt; back = λ p. refl }

never : {P : Type 0} → (P → ⊥) → Twin false P
never not_so = record { yes = λ h. cc; back = λ p. absurd (not_so p) }

itself : (b : Bool) → Twin b (b ≡ true)
itself b = record { yes = λ h. h; back = λ h. h }

denied : (b : Bool) → Twin (not b) (b ≡ false)
denied true = record { yes = λ h. cc; back = λ h. cc }
denied false = record { yes = λ h. refl; back = λ h. refl }

both : {a b : Bool} {P Q : Type 0} → Twin a P → Twin b Q → Twin (a && b) (P × Q)
both {a} {b} {P} {Q} t u = go a t
  where
    go : (a : Bool) → Twin a P → Twin (a && b) (P × Q)
    go true t = record { yes = λ h. (t.yes refl, u.yes h); back = λ p. u.back p.1 }
    go false t = record { yes = λ h. cc; back = λ p. t.back p.0 }

hence : {a b : Bool} {P Q : Type 0} → Twin a P → Twin b Q → Twin (test.implies a b) (P → Q)
hence {a} {b} {P} {Q} t u = go a t
  where
    go : (a : Bool) → Twin a P → Twin (test.implies a b) (P → Q)
    go true t = record { yes = λ h p. u.yes h; back = λ f. u.back (f (t.yes refl)) }
    go false t = record { yes = λ h p. absurd (let z : false ≡ true = t.back p in cc); back = λ f. refl }

refused : {a : Bool} {P : Type 0} → Twin a P → Twin (not a) (P → ⊥)
refused {a} {P} t = go a t
  where
    go : (a : Bool) → Twin a P → Twin (not a) (P → ⊥)
    go true t = record { yes = λ h. cc; back = λ f. absurd (f (t.yes refl)) }
    go false t = record { yes = λ h p. let z : false ≡ true = t.back p in cc; back = λ f. refl }

each_is : {A : Type 0} (t : A → Bool) (P : A → Type 0) → ((a : A) → Twin (t a) (P a)) → (xs : List A) → Twin (list_all t xs) (Each P xs)
each_is t P h [] = always
each_is t P h (a ∷ xs) = both (h a) (each_is t P h xs)

some_is : {A : Type 0} (t : A → Bool) (P : A → Type 0) → ((a : A) → Twin (t a) (P a)) → (o : Option A) → Twin (test.some_and o t) (IsSomeAnd o P)
some_is t P h None = never (λ p. p)
some_is t P h (Some a) = h a

if_is : {A : Type 0} (t : A → Bool) (P : A → Type 0) → ((a : A) → Twin (t a) (P a)) → (o : Option A) → Twin (test.if_some o t) ((a : A) → o ≡ Some a → P a)
if_is t P h None = record { yes = λ k a q. cc; back = λ f. refl }
if_is t P h (Some b) = record { yes = λ k a q. subst P (some_same q) ((h b).yes k); back = λ f. (h b).back (f b refl) }

empty_is : {A : Type 0} (xs : List A) → Twin (test.empty xs) (xs ≡ [])
empty_is [] = record { yes = λ h. refl; back = λ h. refl }
empty_is (a ∷ xs) = never (λ q. cc)

-- ---- equal things

numbers : (a b : ℕ) → Twin (nat_eq a b) (a ≡ b)
numbers a b = record { yes = number_equal a b; back = eq-eqb a b }

less : (a b : ℕ) → Twin (nat_lt a b) (a < b)
less a b = record { yes = ltb-true a b; back = lt-ltb a b }

options : {A : Type 0} (t : A → A → Bool) → ((a b : A) → Twin (t a b) (a ≡ b)) → (o p : Option A) → Twin (test.same_option t o p) (o ≡ p)
options t h None None = record { yes = λ k. refl; back = λ k. refl }
options t h (Some a) (Some b) = record { yes = λ k. ap Some ((h a b).yes k); back = λ q. (h a b).back (some_same q) }
options t h None (Some b) = never (λ q. cc)
options t h (Some a) None = never (λ q. cc)

lists : {A : Type 0} (t : A → A → Bool) → ((a b : A) → Twin (t a b) (a ≡ b)) → (xs ys : List A) → Twin (test.same_list t xs ys) (xs ≡ ys)
lists t h [] [] = record { yes = λ k. refl; back = λ k. refl }
lists t h (a ∷ xs) (b ∷ ys) =
    let p = both (h a b) (lists t h xs ys) in
    record { yes = λ k. ap₂ (λ z zs. z ∷ zs) (p.yes k).0 (p.yes k).1; back = λ q. p.back (head_same q, tail_same q) }
lists t h [] (b ∷ ys) = never (λ q. cc)
lists t h (a ∷ xs) [] = never (λ q. cc)

width_same : (a : Width) → same a a ≡ true
width_same W8 = refl
width_same W16 = refl
width_same W32 = refl
width_same W64 = refl
width_same W128 = refl

widths : (a b : Width) → Twin (same a b) (a ≡ b)
widths a b = record { yes = same_width a b; back = λ q. subst (λ z. same a z ≡ true) q (width_same a) }

one_type : (a b : Ty) → Twin (same_type a b) (a ≡ b)
one_type a b = record { yes = type_equal a b; back = λ q. subst (λ z. same_type a z ≡ true) q (width_same (width_of a)) }

convs : (a b : Conv) → Twin (same_conv a b) (a ≡ b)
convs a b = record { yes = conv_equal a b; back = λ q. subst (λ z. same_conv a z ≡ true) q (conv_same a) }

sigs : (a b : Sig) → Twin (same_sig a b) (a ≡ b)
sigs a b = record { yes = sig_equal a b; back = λ q. subst (λ z. same_sig a z ≡ true) q (sig_same a) }

a_type : (a b : Option Ty) → Twin (test.is_type a b) (a ≡ b)
a_type a b = options same_type one_type a b

-- ---- NoTerminator

pub filled_is : (b : Block) → Twin (test.filled b) (end_rules.Filled b)
filled_is b = refused (empty_is b.lines)

ends_is : (z : Bool) (o : Option Line) → Twin (test.ends_rightly z o) (end_rules.EndsRightly z o)
ends_is true None = always
ends_is true (Some l) = never (λ p. p)
ends_is false None = never (λ p. p)
ends_is false (Some l) = always

pub terminated_is : (b : Block) (i : ℕ) (l : Line) → Twin (test.terminated b i l) (end_rules.Terminated b i l)
terminated_is b i l = ends_is (terminates l.inst) (slice_get b.lines (suc i))

-- ---- EntryTarget

pub entry_target_is : (f : Function) (l : Line) → Twin (test.entry_is_no_target f l) (end_rules.EntryIsNoTarget f l)
entry_target_is f l = each_is (test.not_first f) (λ (t : BlockCall). t.block ≢ first_number f.blocks) (λ t. refused (numbers t.block (first_number f.blocks))) (targets l.inst)

-- ---- CountMismatch

below_is : (o : Option ℕ) (i : ℕ) → Twin (test.below o i) (count_rules.Below o i)
below_is None i = always
below_is (Some n) i = less i n

arg_counts_is : (o : Option ℕ) (a : Arg) → Twin (test.arg_counts o a) (count_rules.ArgCounts o a)
arg_counts_is o (arg.Value v) = always
arg_counts_is o (arg.Ret i) = below_is o i
arg_counts_is o (arg.Exn i) = less i 2

target_counts_is : (f : Function) (o : Option ℕ) (t : BlockCall) → Twin (test.target_counts f o t) (count_rules.TargetCounts f o t)
target_counts_is f o t =
    both (some_is (λ (b : Block). nat_eq (length t.args) (length b.params)) (λ (b : Block). length t.args ≡ length b.params) (λ b. numbers (length t.args) (length b.params)) (find_block t.block f.blocks)) (each_is (test.arg_counts o) (count_rules.ArgCounts o) (arg_counts_is o) t.args)

call_counts_is : (f : Function) (t : CallTarget) (args : List ℕ) (more : Sig → Bool) (More : Sig → Type 0) → ((s : Sig) → Twin (more s) (More s)) → Twin (test.call_counts f t args more) (count_rules.CallCounts f t args More)
call_counts_is f t args more More h =
    some_is (λ (s : Sig). nat_eq (length args) (length s.params) && more s) (λ (s : Sig). (length args ≡ length s.params) × More s) (λ s. both (numbers (length args) (length s.params)) (h s)) (signature_of f t)

counts_is_by : (f : Function) (l : Line) (i : Instruction) → Twin (test.instruction_counts f l i) (count_rules.InstructionCounts f l i)
counts_is_by f l (Plain p) = numbers (length l.results) (count_rules.simple_results p)
counts_is_by f l (Branches b) = both (numbers (length l.results) 0) (each_is (test.target_counts f None) (count_rules.TargetCounts f None) (target_counts_is f None) (targets (Branches b)))
counts_is_by f l SequencePoint = numbers (length l.results) 0
counts_is_by f l (Return vs) = both (numbers (length l.results) 0) (numbers (length vs) (length f.sig.results))
counts_is_by f l (Call t args) = call_counts_is f t args (λ s. nat_eq (length l.results) (length s.results)) (λ s. length l.results ≡ length s.results) (λ s. numbers (length l.results) (length s.results))
counts_is_by f l (ReturnCall t args) =
    call_counts_is f t args (λ s. nat_eq (length l.results) 0 && nat_eq (length s.results) (length f.sig.results)) (λ s. (length l.results ≡ 0) × (length s.results ≡ length f.sig.results)) (λ s. both (numbers (length l.results) 0) (numbers (length s.results) (length f.sig.results)))
counts_is_by f l (TryCall t sig args normal table) =
    call_counts_is f (call_target t sig) args (λ s. nat_eq (length l.results) 0 && list_all (test.target_counts f (Some (length s.results))) (normal ∷ table_targets table)) (λ s. (length l.results ≡ 0) × Each (count_rules.TargetCounts f (Some (length s.results))) (normal ∷ table_targets table))
    (λ s. both (numbers (length l.results) 0) (each_is (test.target_counts f (Some (length s.results))) (count_rules.TargetCounts f (Some (length s.results))) (target_counts_is f (Some (length s.results))) (normal ∷ table_targets table)))

pub counts_is : (f : Function) (l : Line) → Twin (test.counts f l) (count_rules.Counts f l)
counts_is f l = counts_is_by f l l.inst

-- ---- TypeMismatch

have_types_is : (f : Function) (vs : List ℕ) (ts : List Ty) → Twin (test.have_types f vs ts) (type_rules.HaveTypes f vs ts)
have_types_is f vs ts = lists test.is_type a_type (type_rules.types_of f vs) (type_rules.each_some ts)

target_types_is : (f : Function) (rs ps : List Ty) (t : BlockCall) → Twin (test.target_types f rs ps t) (type_rules.TargetTypes f rs ps t)
target_types_is f rs ps t =
    some_is (λ (b : Block). test.same_types (map (type_rules.arg_type f rs ps) t.args) (type_rules.types_of f b.params)) (λ (b : Block). map (type_rules.arg_type f rs ps) t.args ≡ type_rules.types_of f b.params) (λ b. lists test.is_type a_type (map (type_rules.arg_type f rs ps) t.args) (type_rules.types_of f b.params)) (find_block t.block f.blocks)

op_types_is : (f : Function) (l : Line) (o : Op) (ws : Option (List Width)) → Twin (test.op_types f l o ws) (type_rules.OpTypes f l o ws)
op_types_is f l o ws =
    some_is (λ given. test.some_and (row o given) (λ results. test.have_types f l.results (map ty_of results))) (λ given. IsSomeAnd (row o given) (λ results. type_rules.HaveTypes f l.results (map ty_of results)))
    (λ given. some_is (λ results. test.have_types f l.results (map ty_of results)) (λ results. type_rules.HaveTypes f l.results (map ty_of results)) (λ results. have_types_is f l.results (map ty_of results)) (row o given)) ws

by_value_is : (f : Function) (l : Line) (v : ℕ) → Twin (test.by_value f l v) (IsSomeAnd (type_of f v) (λ t. l.ty ≡ Some t))
by_value_is f l v = some_is (λ t. test.is_type l.ty (Some t)) (λ t. l.ty ≡ Some t) (λ t. a_type l.ty (Some t)) (type_of f v)

four : {a b c d : Bool} {P Q R S : Type 0} → Twin a P → Twin b Q → Twin c R → Twin d S → Twin (a && b && c && d) (P × Q × R × S)
four t u v w =
    let h = both (both (both t u) v) w in
    record { yes = λ z. let p = h.yes z in (p.0.0.0, p.0.0.1, p.0.1, p.1); back = λ p. h.back (((p.0, p.1), p.2), p.3) }

three : {a b c : Bool} {P Q R : Type 0} → Twin a P → Twin b Q → Twin c R → Twin (a && b && c) (P × Q × R)
three t u v = let h = both (both t u) v in record { yes = λ z. let p = h.yes z in (p.0.0, p.0.1, p.1); back = λ p. h.back ((p.0, p.1), p.2) }

five : {a b c d e : Bool} {P Q R S T : Type 0} → Twin a P → Twin b Q → Twin c R → Twin d S → Twin e T → Twin (a && b && c && d && e) (P × Q × R × S × T)
five t u v w x =
    let h = both (both (both (both t u) v) w) x in
    record { yes = λ z. let p = h.yes z in (p.0.0.0.0, p.0.0.0.1, p.0.0.1, p.0.1, p.1); back = λ p. h.back ((((p.0, p.1), p.2), p.3), p.4) }

simple_types_is : (f : Function) (l : Line) (s : Simple) → Twin (test.simple_types f l s) (type_rules.SimpleTypes f l s)
simple_types_is f l Nop = a_type l.ty None
simple_types_is f l (Const x) = four (a_type l.ty None) (refused (widths x.width W128)) (less x.value (2 ^ bits_of x.width)) (have_types_is f l.results (ty_of x.width ∷ []))
simple_types_is f l (Pure o args) = both (op_types_is f l o (type_rules.widths_of_values f args)) (a_type l.ty (type_rules.type_at f (forms.controlling o args)))
simple_types_is f l (PureImm o a imm) =
    three (itself (forms.has_immediate o)) (less imm.value (2 ^ bits_of imm.width))
    (some_is (λ t. test.is_type l.ty (Some t) && same imm.width (width_of t) && test.op_types f l o (Some (width_of t ∷ imm.width ∷ []))) (λ t. (l.ty ≡ Some t) × (imm.width ≡ width_of t) × type_rules.OpTypes f l o (Some (width_of t ∷ imm.width ∷ [])))
    (λ t. three (a_type l.ty (Some t)) (widths imm.width (width_of t)) (op_types_is f l o (Some (width_of t ∷ imm.width ∷ [])))) (type_of f a))
simple_types_is f l (Load access flags a offset) =
    five (a_type l.ty (type_rules.access_suffix access)) (itself (forms.flags_form flags)) (itself (type_rules.access_form access)) (a_type (type_of f a) (Some ty.I64)) (have_types_is f l.results (forms.access_type access ∷ []))
simple_types_is f l (Store narrow flags v a offset) =
    three (itself (forms.flags_form flags)) (a_type (type_of f a) (Some ty.I64))
    (some_is (λ t. test.is_type l.ty (Some t) && type_rules.store_form narrow t) (λ t. (l.ty ≡ Some t) × (type_rules.store_form narrow t ≡ true)) (λ t. both (a_type l.ty (Some t)) (itself (type_rules.store_form narrow t))) (type_of f v))
simple_types_is f l (StackLoad t k offset) = both (a_type l.ty None) (have_types_is f l.results (t ∷ []))
simple_types_is f l (StackStore v k offset) = by_value_is f l v
simple_types_is f l (FuncAddr k) = both (a_type l.ty None) (have_types_is f l.results (ty.I64 ∷ []))
simple_types_is f l (Trap code) = a_type l.ty None
simple_types_is f l (Trapz v code) = by_value_is f l v
simple_types_is f l (Trapnz v code) = by_value_is f l v

branch_types_is : (f : Function) (l : Line) (b : Branch) → Twin (test.branch_types f l b) (type_rules.BranchTypes f l b)
branch_types_is f l (Jump t) = a_type l.ty None
branch_types_is f l (Brif v t u) = by_value_is f l v
branch_types_is f l (BrTable v default ts) = both (a_type l.ty None) (a_type (type_of f v) (Some ty.I32))

called_types_is : (f : Function) (t : CallTarget) → Twin (test.called_types f t) (type_rules.CalledTypes f t)
called_types_is f (Direct k) = always
called_types_is f (Indirect s a) = a_type (type_of f a) (Some ty.I64)

call_types_is : (f : Function) (l : Line) (t : CallTarget) (args : List ℕ) (more : Sig → Bool) (More : Sig → Type 0) → ((s : Sig) → Twin (more s) (More s)) → Twin (test.call_types f l t args more) (type_rules.CallTypes f l t args More)
call_types_is f l t args more More h =
    three (a_type l.ty None) (called_types_is f t)
    (some_is (λ (s : Sig). test.have_types f args (param_types s.params) && more s) (λ (s : Sig). type_rules.HaveTypes f args (param_types s.params) × More s) (λ s. both (have_types_is f args (param_types s.params)) (h s)) (signature_of f t))

types_is_by : (f : Function) (l : Line) (i : Instruction) → Twin (test.instruction_types f l i) (type_rules.InstructionTypes f l i)
types_is_by f l (Plain p) = simple_types_is f l p
types_is_by f l (Branches b) = both (branch_types_is f l b) (each_is (test.target_types f [] []) (type_rules.TargetTypes f [] []) (target_types_is f [] []) (targets (Branches b)))
types_is_by f l SequencePoint = a_type l.ty None
types_is_by f l (Return vs) = both (a_type l.ty None) (have_types_is f vs (param_types f.sig.results))
types_is_by f l (Call t args) = call_types_is f l t args (λ s. test.have_types f l.results (param_types s.results)) (λ s. type_rules.HaveTypes f l.results (param_types s.results)) (λ s. have_types_is f l.results (param_types s.results))
types_is_by f l (ReturnCall t args) =
    call_types_is f l t args (λ s. test.same_list same_type (param_types s.results) (param_types f.sig.results)) (λ s. param_types s.results ≡ param_types f.sig.results) (λ s. lists same_type one_type (param_types s.results) (param_types f.sig.results))
types_is_by f l (TryCall t sig args normal table) =
    call_types_is f l (call_target t sig) args (λ s. test.target_types f (param_types s.results) [] normal && list_all (test.target_types f [] (ty.I64 ∷ ty.I64 ∷ [])) (table_targets table)) (λ s. type_rules.TargetTypes f (param_types s.results) [] normal × Each (type_rules.TargetTypes f [] (ty.I64 ∷ ty.I64 ∷ [])) (table_targets table))
    (λ s. both (target_types_is f (param_types s.results) [] normal) (each_is (test.target_types f [] (ty.I64 ∷ ty.I64 ∷ [])) (type_rules.TargetTypes f [] (ty.I64 ∷ ty.I64 ∷ [])) (target_types_is f [] (ty.I64 ∷ ty.I64 ∷ [])) (table_targets table)))

pub types_is : (f : Function) (l : Line) → Twin (test.types f l) (type_rules.Types f l)
types_is f l = types_is_by f l l.inst

-- ---- Convention

pub convention_is : (f : Function) (i : Instruction) → Twin (test.instruction_convention f i) (call_rules.InstructionConvention f i)
convention_is f (ReturnCall t args) = both (convs f.sig.conv Tail) (some_is (λ (s : Sig). same_conv s.conv Tail) (λ (s : Sig). s.conv ≡ Tail) (λ s. convs s.conv Tail) (signature_of f t))
convention_is f (Plain p) = always
convention_is f (Branches b) = always
convention_is f SequencePoint = always
convention_is f (Return vs) = always
convention_is f (Call t args) = always
convention_is f (TryCall t sig args normal table) = always

-- ---- SignatureMismatch

pub declared_is : (m : Module) (f : Function) (c : Callee) → Twin (test.declared m f c) (call_rules.Declared m f c)
declared_is m f c =
    if_is (λ (h : Function). test.same_option same_sig (slice_get f.sigs c.sig) (Some h.sig)) (λ (h : Function). slice_get f.sigs c.sig ≡ Some h.sig) (λ h. options same_sig sigs (slice_get f.sigs c.sig) (Some h.sig)) (find_function c.name m)

pub signature_is : (f : Function) (i : Instruction) → Twin (test.instruction_signature f i) (call_rules.InstructionSignature f i)
signature_is f (TryCall t sig args normal table) = options same_sig sigs (slice_get f.sigs sig) (signature_of f (call_target t sig))
signature_is f (Plain p) = always
signature_is f (Branches b) = always
signature_is f SequencePoint = always
signature_is f (Return vs) = always
signature_is f (Call t args) = always
signature_is f (ReturnCall t args) = always

-- ---- SlotRange

simple_slot_is : (f : Function) (s : Simple) → Twin (test.simple_slot f s) (slot_rules.SimpleSlot f s)
simple_slot_is f (StackLoad t k offset) = itself (is_some (slot_place f k offset (bytes_in (width_of t))))
simple_slot_is f (StackStore v k offset) =
    some_is (λ t. is_some (slot_place f k offset (bytes_in (width_of t)))) (λ t. IsSome (slot_place f k offset (bytes_in (width_of t)))) (λ t. itself (is_some (slot_place f k offset (bytes_in (width_of t))))) (type_of f v)
simple_slot_is f Nop = always
simple_slot_is f (Const x) = always
simple_slot_is f (Pure o args) = always
simple_slot_is f (PureImm o a imm) = always
simple_slot_is f (Load access flags a offset) = always
simple_slot_is f (Store narrow flags v a offset) = always
simple_slot_is f (FuncAddr k) = always
simple_slot_is f (Trap code) = always
simple_slot_is f (Trapz v code) = always
simple_slot_is f (Trapnz v code) = always

pub slot_range_is : (f : Function) (i : Instruction) → Twin (test.instruction_slot f i) (slot_rules.InstructionSlot f i)
slot_range_is f (Plain p) = simple_slot_is f p
slot_range_is f (Branches b) = always
slot_range_is f SequencePoint = always
slot_range_is f (Return vs) = always
slot_range_is f (Call t args) = always
slot_range_is f (ReturnCall t args) = always
slot_range_is f (TryCall t sig args normal table) = always

-- ---- TagPlace

pub tag_place_is : (tags : List Tag) (i : Instruction) → Twin (test.instruction_tags tags i) (call_rules.InstructionTags tags i)
tag_place_is tags (Plain p) = empty_is tags
tag_place_is tags (Branches b) = empty_is tags
tag_place_is tags SequencePoint = always
tag_place_is tags (Return vs) = empty_is tags
tag_place_is tags (Call t args) = always
tag_place_is tags (ReturnCall t args) = denied (list_any is_slot tags)
tag_place_is tags (TryCall t sig args normal table) = always

-- ---- where each holds

at_line : (available : Function → ℕ → ℕ → ℕ → Bool) (f : Function) (b : ℕ) (block : Block) (i : ℕ) (l : Line) (r : rule.Rule) → (r ≡ rule.not_available → (v : ℕ) → Twin (available f b i v) (Available f b i v)) → Twin (test.kept_at_line available f b block i l r) (rule.HoldsAtLine f b block i l r)
at_line available f b block i l rule.no_terminator h = terminated_is block i l
at_line available f b block i l rule.entry_target h = entry_target_is f l
at_line available f b block i l rule.count_mismatch h = counts_is f l
at_line available f b block i l rule.type_mismatch h = types_is f l
at_line available f b block i l rule.convention h = convention_is f l.inst
at_line available f b block i l rule.signature_mismatch h = signature_is f l.inst
at_line available f b block i l rule.slot_range h = slot_range_is f l.inst
at_line available f b block i l rule.tag_place h = tag_place_is l.tags l.inst
at_line available f b block i l rule.not_available h = each_is (available f b i) (Available f b i) (h refl) (values_used l.inst)

at_block : (available : Function → ℕ → ℕ → ℕ → Bool) (f : Function) (b : ℕ) (block : Block) (r : rule.Rule) → Twin (test.kept_at_block available f b block r) (rule.HoldsAtBlock f b block r)
at_block available f b block rule.no_terminator = filled_is block
at_block available f b block rule.count_mismatch = hence (numbers b (first_number f.blocks)) (numbers (length block.params) (length f.sig.params))
at_block available f b block rule.type_mismatch = hence (numbers b (first_number f.blocks)) (have_types_is f block.params (param_types f.sig.params))
at_block available f b block rule.entry_target = always
at_block available f b block rule.convention = always
at_block available f b block rule.signature_mismatch = always
at_block available f b block rule.slot_range = always
at_block available f b block rule.tag_place = always
at_block available f b block rule.not_available = always

at_callee : (available : Function → ℕ → ℕ → ℕ → Bool) (m : Module) (f : Function) (c : Callee) (r : rule.Rule) → Twin (test.kept_at_callee available m f c r) (rule.HoldsAtCallee m f c r)
at_callee available m f c rule.signature_mismatch = declared_is m f c
at_callee available m f c rule.no_terminator = always
at_callee available m f c rule.entry_target = always
at_callee available m f c rule.count_mismatch = always
at_callee available m f c rule.type_mismatch = always
at_callee available m f c rule.convention = always
at_callee available m f c rule.slot_range = always
at_callee available m f c rule.tag_place = always
at_callee available m f c rule.not_available = always

-- by a test for availability that is right in the function, if the rule is availability
pub kept_is : (available : Function → ℕ → ℕ → ℕ → Bool) (m : Module) (f : Function) (place : Item) (r : rule.Rule) → (r ≡ rule.not_available → (b i v : ℕ) → Twin (available f b i v) (Available f b i v)) → Twin (test.kept available m f place r) (rule.Holds m f place r)
kept_is available m f item.Whole r h = always
kept_is available m f (item.Callee k) r h = if_is (λ (c : Callee). test.kept_at_callee available m f c r) (λ (c : Callee). rule.HoldsAtCallee m f c r) (λ c. at_callee available m f c r) (slice_get f.callees k)
kept_is available m f (item.Block b) r h = if_is (λ (block : Block). test.kept_at_block available f b block r) (λ (block : Block). rule.HoldsAtBlock f b block r) (λ block. at_block available f b block r) (find_block b f.blocks)
kept_is available m f (item.Inst at) r h =
    let t =
    if_is (λ (block : Block). test.if_some (slice_get block.lines at.index) (λ (l : Line). test.kept_at_line available f at.block block at.index l r)) (λ (block : Block). (l : Line) → slice_get block.lines at.index ≡ Some l → rule.HoldsAtLine f at.block block at.index l r)
    (λ block. if_is (λ (l : Line). test.kept_at_line available f at.block block at.index l r) (λ (l : Line). rule.HoldsAtLine f at.block block at.index l r) (λ l. at_line available f at.block block at.index l r (λ q. h q at.block at.index)) (slice_get block.lines at.index)) (find_block at.block f.blocks) in
    record { yes = λ k block l q g. t.yes k block q l g; back = λ p. t.back (λ block q l g. p block l q g) }
