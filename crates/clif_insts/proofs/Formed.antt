-- What the grammar gives of an instruction besides its words: operands and a suffix of the opcode's form, and what stands in them.
use Rattle.std.proofs.Common.{◌≡◌, ℕ, ◌==◌, Bool, true, false, not, ◌&&◌, ◌||◌, cond, List, [], ◌∷◌, ◌++◌, map, Option, Some, None, refl, sym, ap, subst, ◌∙◌, inl, inr}
use Rattle.std.specs.Prelude.{◌⊎◌, IsTrue}
use Rattle.std.specs.List.{list_any}
use Rattle.grammar.specs.Rules.{Lexeme, Rule, Opt, Seq, Refuse, Kind, Tree, Derives, member}
use Rattle.ir_core.specs.Lists.{Each}
use Rattle.ir_core.proofs.Members.{each_right}
use Rattle.clif_words.specs.declared.class.Class.{Class}
use Rattle.clif_words.specs.declared.class.Class.TheVariants as classes
use Rattle.clif_words.specs.Classes.{code}
use Rattle.clif_words.specs.Opcodes.{opcode_of}
use Rattle.clif_words.specs.OpcodeForms as opcodes
use Rattle.clif_words.specs.TextTokens.{is_form, IsTextToken}
use Rattle.clif_words.proofs.Codes.{code_tells}
use Rattle.clif_words.specs.Terminals.{◌then◌, ◌or◌, one, codes_of, value, ret, exn, big, little, signed, comma, condition, slot, sig, callee, iconst, binary, unary, icmp, select, convert, binary_imm, icmp_imm, load, load_wide, store, stack_load, stack_store, func_addr, nullary, jump, brif, br_table, return_word, trap, trap_if, call, try_call, call_indirect, try_call_indirect}
use Rattle.clif_insts.specs.declared.raw.RawArg.{RawArg}
use Rattle.clif_insts.specs.declared.raw.RawArg.TheVariants as arg
use Rattle.clif_insts.specs.declared.raw.RawFlag.{RawFlag}
use Rattle.clif_insts.specs.declared.raw.RawFlag.TheVariants as flag_words
use Rattle.clif_insts.specs.declared.raw.RawInst.{RawInst}
use Rattle.token_reader.specs.Grammar.{commas, number, suffix, suffix_i64}
use Rattle.clif_insts.specs.Grammar.{any_trap, plain_flag, flags, call_to, target, normal_target, handler, entry, table, args, target_list, inst, return_values, whole_inst}
use Rattle.token_reader.specs.Reading.{name, opcode}
use Rattle.clif_insts.specs.Flags.{flag_of}
use Rattle.token_reader.specs.Values.{◌otherwise◌, perhaps, commas_value}
use Rattle.clif_insts.specs.Values.{plain_flag_value, from_big, from_little, flags_value, value_arg, target_value, branch_value, normal_value, handler_value, target_list_value, entry_value, table_value}
use Rattle.clif_insts.specs.InstValues.{iconst_value, binary_value, unary_value, icmp_value, select_value, convert_value, binary_imm_value, icmp_imm_value, load_value, load_wide_value, store_value, stack_load_value, stack_store_value, func_addr_value, nullary_value, jump_value, brif_value, br_table_value, return_inst_value, trap_inst_value, trap_if_value, call_value, try_call_value, call_indirect_value, try_call_indirect_value, inst_value, return_values_value, whole_value}
use Rattle.clif_insts.specs.OfForm.{operand_forms, suffix_fits, is_value, is_normal, is_handler, is_big, is_little, one_order, TargetHas, TableHas, ArgumentsFit, InstFormed}

-- ---- lists

each_mapped : {A B : Type 0} (P : B → Type 0) (f : A → B) → ((x : A) → P (f x)) → (xs : List A) → Each P (map f xs)
each_mapped P f h [] = tt
each_mapped P f h (x ∷ xs) = (h x, each_mapped P f h xs)

each_of_commas : {A : Type 0} (a : Rule) (P : A → Type 0) (f : Tree a → A) → ((v : Tree a) → P (f v)) → (v : Tree (commas a)) → Each P (commas_value a f v)
each_of_commas a P f h v = (h v.0, each_mapped P (λ (w : Lexeme × Tree a). f w.1) (λ w. h w.1) v.1)

each_perhaps : {A C : Type 0} (P : C → Type 0) (f : A → List C) → ((x : A) → Each P (f x)) → (o : Option A) → Each P (perhaps [] f o)
each_perhaps P f h None = tt
each_perhaps P f h (Some x) = h x

-- ---- targets and tables

target_formed : (a : Rule) (f : Tree a → RawArg) (may : RawArg → Bool) → ((v : Tree a) → IsTrue (may (f v))) → (v : Tree (call_to a)) → TargetHas may (target_value a f v)
target_formed a f may h v =
    each_perhaps (λ (x : RawArg). IsTrue (may x)) (λ w. perhaps [] (commas_value a f) w.1.0)
    (λ w. each_perhaps (λ (x : RawArg). IsTrue (may x)) (commas_value a f) (each_of_commas a (λ (x : RawArg). IsTrue (may x)) f h) w.1.0) v.1

branch_formed : (v : Tree target) → TargetHas is_value (branch_value v)
branch_formed = target_formed value value_arg is_value (λ x. refl)

normal_formed : (v : Tree normal_target) → TargetHas is_normal (normal_value v)
normal_formed = target_formed (value or ret) (value_arg otherwise (λ x. arg.Ret (name x))) is_normal one_of
  where
    one_of : (v : Lexeme ⊎ Lexeme) → IsTrue (is_normal ((value_arg otherwise (λ x. arg.Ret (name x))) v))
    one_of (inl x) = refl
    one_of (inr x) = refl

handler_formed : (v : Tree handler) → TargetHas is_handler (handler_value v)
handler_formed = target_formed (value or exn) (value_arg otherwise (λ x. arg.Exn (name x))) is_handler one_of
  where
    one_of : (v : Lexeme ⊎ Lexeme) → IsTrue (is_handler ((value_arg otherwise (λ x. arg.Exn (name x))) v))
    one_of (inl x) = refl
    one_of (inr x) = refl

targets_formed : (v : Tree target_list) → Each (TargetHas is_value) (target_list_value v)
targets_formed v = each_perhaps (TargetHas is_value) (commas_value target branch_value) (each_of_commas target (TargetHas is_value) branch_value branch_formed) v.1.0

table_formed : (v : Tree table) → TableHas (table_value v)
table_formed v = each_perhaps (λ e. TargetHas is_handler e.target) (commas_value entry entry_value) (each_of_commas entry (λ e. TargetHas is_handler e.target) entry_value (λ w. handler_formed w.1.1)) v.1.0

-- ---- flags

-- a flag that is neither `big` nor `little`
abbrev is_unordered : RawFlag → Bool
is_unordered f = not (is_big f) && not (is_little f)

word_unordered : (n : ℕ) → is_unordered (flag_of n) ≡ true
word_unordered n =
    pick (n == 0) flag_words.Notrap _ refl
    (pick (n == 1) flag_words.Aligned _ refl
    (pick (n == 2) flag_words.Readonly _ refl
    (pick (n == 3) flag_words.CanMove _ refl
    (pick (n == 4) flag_words.Heap flag_words.Table refl refl))))
  where
    pick : (b : Bool) (f g : RawFlag) → is_unordered f ≡ true → is_unordered g ≡ true → is_unordered (cond b f g) ≡ true
    pick true f g p q = p
    pick false f g p q = q

plain_unordered : (v : Tree plain_flag) → is_unordered (plain_flag_value v) ≡ true
plain_unordered (inl x) = word_unordered x.number
plain_unordered (inr (inl x)) = refl
plain_unordered (inr (inr h)) = absurd h

-- none of a list of trees means such a flag
none_such : {A : Type 0} (such : RawFlag → Bool) (f : A → RawFlag) → ((v : A) → such (f v) ≡ false) → (vs : List A) → list_any such (map f vs) ≡ false
none_such such f h [] = refl
none_such such f h (v ∷ vs) = rw (h v) (none_such such f h vs)

parts_of : (a b : Bool) → (not a && not b) ≡ true → (a ≡ false) × (b ≡ false)
parts_of false false e = (refl, refl)
parts_of false true e = absurd cc
parts_of true b e = absurd cc

plain_no_big : (v : Tree plain_flag) → is_big (plain_flag_value v) ≡ false
plain_no_big v = (parts_of (is_big (plain_flag_value v)) (is_little (plain_flag_value v)) (plain_unordered v)).0

plain_no_little : (v : Tree plain_flag) → is_little (plain_flag_value v) ≡ false
plain_no_little v = (parts_of (is_big (plain_flag_value v)) (is_little (plain_flag_value v)) (plain_unordered v)).1

any_append : (such : RawFlag → Bool) (fs gs : List RawFlag) → list_any such fs ≡ false → list_any such gs ≡ false → list_any such (fs ++ gs) ≡ false
any_append such [] gs p q = q
any_append such (f ∷ fs) gs p q = go (such f) p (any_append such fs gs)
  where
    go : (b : Bool) → (b || list_any such fs) ≡ false → (list_any such fs ≡ false → list_any such gs ≡ false → list_any such (fs ++ gs) ≡ false) → (b || list_any such (fs ++ gs)) ≡ false
    go true p ih = absurd cc
    go false p ih = ih p q

not_big : (fs : List RawFlag) → list_any is_big fs ≡ false → IsTrue (one_order fs)
not_big fs e = rw e refl

not_little : (fs : List RawFlag) → list_any is_little fs ≡ false → IsTrue (one_order fs)
not_little fs e = rw (both_false (list_any is_big fs) (list_any is_little fs) e) refl
  where
    both_false : (a b : Bool) → b ≡ false → (a && b) ≡ false
    both_false true b e = e
    both_false false b e = refl

flags_formed : (v : Tree flags) → IsTrue (one_order (flags_value v))
flags_formed (vs, None) = not_big (map plain_flag_value vs ++ []) (any_append is_big (map plain_flag_value vs) [] (none_such is_big plain_flag_value plain_no_big vs) refl)
flags_formed (vs, Some (inl v)) =
    not_little (map plain_flag_value vs ++ from_big v) (any_append is_little (map plain_flag_value vs) (from_big v) (none_such is_little plain_flag_value plain_no_little vs)
    (none_such is_little (plain_flag_value otherwise (λ x. flag_words.Big)) rest v.1))
  where
    rest : (v : Tree (plain_flag or big)) → is_little ((plain_flag_value otherwise (λ x. flag_words.Big)) v) ≡ false
    rest (inl w) = plain_no_little w
    rest (inr x) = refl
flags_formed (vs, Some (inr v)) =
    not_big (map plain_flag_value vs ++ from_little v) (any_append is_big (map plain_flag_value vs) (from_little v) (none_such is_big plain_flag_value plain_no_big vs)
    (none_such is_big (plain_flag_value otherwise (λ x. flag_words.Little)) rest v.1))
  where
    rest : (v : Tree (plain_flag or little)) → is_big ((plain_flag_value otherwise (λ x. flag_words.Little)) v) ≡ false
    rest (inl w) = plain_no_big w
    rest (inr x) = refl

-- ---- trees

-- what the trees of the rule mean has the property, where their tokens are those of a text
pub record Formed {A : Type 0} (P : A → Type 0) (r : Rule) (f : Tree r → A) : Type 0 where
  pub formed : (len : ℕ) (ts : List Lexeme) (v : Tree r) → Each (IsTextToken len) ts → Derives r ts v → P (f v)

-- one rule, and then another whose meaning has the property
pub then_formed : {A : Type 0} {P : A → Type 0} (a : Rule) {b : Rule} (f : Tree a → Tree b → A) → ((x : Tree a) → Formed P b (f x)) → Formed P (Seq a b) (λ v. f v.0 v.1)
then_formed {A} {P} a {b} f h = record {
  formed = λ len ts v tokens d. (h v.0).formed len d.1 v.1 (each_right (IsTextToken len) d.0 d.1 (subst (Each (IsTextToken len)) d.2 tokens)) d.3.1;
}

-- one of two
pub or_formed : {A : Type 0} {P : A → Type 0} {a b : Rule} {f : Tree a → A} {g : Tree b → A} → Formed P a f → Formed P b g → Formed P (a or b) (f otherwise g)
or_formed {A} {P} {a} {b} {f} {g} p q = record { formed = go }
  where
    go : (len : ℕ) (ts : List Lexeme) (v : Tree a ⊎ Tree b) → Each (IsTextToken len) ts → Derives (a or b) ts v → P ((f otherwise g) v)
    go len ts (inl v) tokens d = p.formed len ts v tokens d
    go len ts (inr v) tokens d = q.formed len ts v tokens d

pub refused_formed : {A : Type 0} {P : A → Type 0} {cs : List ℕ} {kind : Kind} {f : ⊥ → A} → Formed P (Refuse cs kind) f
refused_formed = record { formed = λ len ts v tokens d. absurd v }

-- the same of what is made of it
pub also_formed : {A B : Type 0} {P : A → Type 0} {r : Rule} {f : Tree r → A} → Formed P r f → (Q : B → Type 0) (k : Tree r → B) → ((v : Tree r) → P (f v) → Q (k v)) → Formed Q r k
also_formed {A} {B} {P} {r} {f} p Q k h = record { formed = λ len ts v tokens d. h v (p.formed len ts v tokens d) }

-- ---- forms

opcode_form : (class : Class) (len : ℕ) (x : Lexeme) → is_form (code class) ≡ true → x.class ≡ code class → IsTextToken len x → opcodes.form (opcode_of x.number) ≡ class
opcode_form class len x is same token = code_tells (opcodes.form (opcode_of x.number)) class (token.opcode (rw same is) ∙ same)

-- what holds of the form holds of the opcode
of_class : (class : Class) (inst : RawInst) → opcodes.form inst.opcode.kind ≡ class → IsTrue (member (code class) (codes_of (operand_forms inst.operands))) → IsTrue (suffix_fits class inst.suffix) → ArgumentsFit inst.operands → InstFormed inst
of_class class inst same operands suffix arguments = record {
  operands = subst (λ (c : Class). IsTrue (member (code c) (codes_of (operand_forms inst.operands)))) (sym same) operands;
  suffix = subst (λ (c : Class). IsTrue (suffix_fits c inst.suffix)) (sym same) suffix;
  arguments = arguments;
}

-- an opcode, and what stands behind it
opened : (class : Class) (b : Rule) (f : Tree (one class then b) → RawInst) → is_form (code class) ≡ true → ((v : Tree (one class then b)) → (f v).opcode ≡ opcode v.0)
    → ((v : Tree (one class then b)) → IsTrue (member (code class) (codes_of (operand_forms (f v).operands)))) → ((v : Tree (one class then b)) → IsTrue (suffix_fits class (f v).suffix))
    → ((v : Tree (one class then b)) → ArgumentsFit (f v).operands) → Formed InstFormed (one class then b) f
opened class b f is begins operands suffix arguments = record {
  formed = λ len ts v tokens d.
      let front : ts ≡ v.0 ∷ d.1 = d.2 ∙ ap (λ (us : List Lexeme). us ++ d.1) d.3.0.0 in
      let token = (subst (Each (IsTextToken len)) front tokens).0 in
      of_class class (f v) (ap (λ o. opcodes.form o.kind) (begins v) ∙ opcode_form class len v.0 is d.3.0.1 token) (operands v) (suffix v) (arguments v);
}

-- an opcode alone
alone : (class : Class) (f : Lexeme → RawInst) → is_form (code class) ≡ true → ((x : Lexeme) → (f x).opcode ≡ opcode x)
    → ((x : Lexeme) → IsTrue (member (code class) (codes_of (operand_forms (f x).operands)))) → ((x : Lexeme) → IsTrue (suffix_fits class (f x).suffix))
    → ((x : Lexeme) → ArgumentsFit (f x).operands) → Formed InstFormed (one class) f
alone class f is begins operands suffix arguments = record {
  formed = λ len ts x tokens d.
      let token = (subst (Each (IsTextToken len)) d.0 tokens).0 in
      of_class class (f x) (ap (λ o. opcodes.form o.kind) (begins x) ∙ opcode_form class len x is d.1 token) (operands x) (suffix x) (arguments x);
}

iconst_formed : Formed InstFormed (iconst then suffix then number) iconst_value
iconst_formed = opened classes.Iconst (suffix then number) iconst_value refl (λ v. refl) (λ v. refl) (λ v. refl) (λ v. tt)

binary_formed : Formed InstFormed (binary then Opt suffix then value then comma then value) binary_value
binary_formed = opened classes.Binary (Opt suffix then value then comma then value) binary_value refl (λ v. refl) (λ v. refl) (λ v. refl) (λ v. tt)

unary_formed : Formed InstFormed (unary then Opt suffix then value) unary_value
unary_formed = opened classes.Unary (Opt suffix then value) unary_value refl (λ v. refl) (λ v. refl) (λ v. refl) (λ v. tt)

icmp_formed : Formed InstFormed (icmp then Opt suffix then condition then value then comma then value) icmp_value
icmp_formed = opened classes.Icmp (Opt suffix then condition then value then comma then value) icmp_value refl (λ v. refl) (λ v. refl) (λ v. refl) (λ v. tt)

select_formed : Formed InstFormed (select then Opt suffix then value then comma then value then comma then value) select_value
select_formed = opened classes.Select (Opt suffix then value then comma then value then comma then value) select_value refl (λ v. refl) (λ v. refl) (λ v. refl) (λ v. tt)

convert_formed : Formed InstFormed (convert then suffix then value) convert_value
convert_formed = opened classes.Convert (suffix then value) convert_value refl (λ v. refl) (λ v. refl) (λ v. refl) (λ v. tt)

binary_imm_formed : Formed InstFormed (binary_imm then Opt suffix then value then comma then number) binary_imm_value
binary_imm_formed = opened classes.BinaryImm (Opt suffix then value then comma then number) binary_imm_value refl (λ v. refl) (λ v. refl) (λ v. refl) (λ v. tt)

icmp_imm_formed : Formed InstFormed (icmp_imm then Opt suffix then condition then value then comma then number) icmp_imm_value
icmp_imm_formed = opened classes.IcmpImm (Opt suffix then condition then value then comma then number) icmp_imm_value refl (λ v. refl) (λ v. refl) (λ v. refl) (λ v. tt)

load_formed : Formed InstFormed (load then suffix then flags then value then Opt signed) load_value
load_formed = opened classes.Load (suffix then flags then value then Opt signed) load_value refl (λ v. refl) (λ v. refl) (λ v. refl) (λ v. flags_formed v.1.1.0)

load_wide_formed : Formed InstFormed (load_wide then Opt suffix then flags then value then Opt signed) load_wide_value
load_wide_formed = opened classes.LoadWide (Opt suffix then flags then value then Opt signed) load_wide_value refl (λ v. refl) (λ v. refl) (λ v. refl) (λ v. flags_formed v.1.1.0)

store_formed : Formed InstFormed (store then Opt suffix then flags then value then comma then value then Opt signed) store_value
store_formed = opened classes.Store (Opt suffix then flags then value then comma then value then Opt signed) store_value refl (λ v. refl) (λ v. refl) (λ v. refl) (λ v. flags_formed v.1.1.0)

stack_load_formed : Formed InstFormed (stack_load then suffix then slot then Opt signed) stack_load_value
stack_load_formed = opened classes.StackLoad (suffix then slot then Opt signed) stack_load_value refl (λ v. refl) (λ v. refl) (λ v. refl) (λ v. tt)

stack_store_formed : Formed InstFormed (stack_store then Opt suffix then value then comma then slot then Opt signed) stack_store_value
stack_store_formed = opened classes.StackStore (Opt suffix then value then comma then slot then Opt signed) stack_store_value refl (λ v. refl) (λ v. refl) (λ v. refl) (λ v. tt)

func_addr_formed : Formed InstFormed (func_addr then suffix_i64 then callee) func_addr_value
func_addr_formed = opened classes.FuncAddr (suffix_i64 then callee) func_addr_value refl (λ v. refl) (λ v. refl) (λ v. refl) (λ v. tt)

nullary_formed : Formed InstFormed nullary nullary_value
nullary_formed = alone classes.Nullary nullary_value refl (λ v. refl) (λ v. refl) (λ v. refl) (λ v. tt)

jump_formed : Formed InstFormed (jump then target) jump_value
jump_formed = opened classes.Jump (target) jump_value refl (λ v. refl) (λ v. refl) (λ v. refl) (λ v. branch_formed v.1)

brif_formed : Formed InstFormed (brif then Opt suffix then value then comma then target then comma then target) brif_value
brif_formed = opened classes.Brif (Opt suffix then value then comma then target then comma then target) brif_value refl (λ v. refl) (λ v. refl) (λ v. refl) (λ v. (branch_formed v.1.1.1.1.0, branch_formed v.1.1.1.1.1.1))

br_table_formed : Formed InstFormed (br_table then value then comma then target then comma then target_list) br_table_value
br_table_formed = opened classes.BrTable (value then comma then target then comma then target_list) br_table_value refl (λ v. refl) (λ v. refl) (λ v. refl) (λ v. (branch_formed v.1.1.1.0, targets_formed v.1.1.1.1.1))

return_inst_formed : Formed InstFormed return_word return_inst_value
return_inst_formed = alone classes.Return return_inst_value refl (λ v. refl) (λ v. refl) (λ v. refl) (λ v. tt)

trap_inst_formed : Formed InstFormed (trap then any_trap) trap_inst_value
trap_inst_formed = opened classes.Trap (any_trap) trap_inst_value refl (λ v. refl) (λ v. refl) (λ v. refl) (λ v. tt)

trap_if_formed : Formed InstFormed (trap_if then Opt suffix then value then comma then any_trap) trap_if_value
trap_if_formed = opened classes.TrapIf (Opt suffix then value then comma then any_trap) trap_if_value refl (λ v. refl) (λ v. refl) (λ v. refl) (λ v. tt)

call_formed : Formed InstFormed (call then callee then args) call_value
call_formed = opened classes.Call (callee then args) call_value refl (λ v. refl) (λ v. refl) (λ v. refl) (λ v. tt)

try_call_formed : Formed InstFormed (try_call then callee then args then comma then sig then comma then normal_target then comma then table) try_call_value
try_call_formed = opened classes.TryCall (callee then args then comma then sig then comma then normal_target then comma then table) try_call_value refl (λ v. refl) (λ v. refl) (λ v. refl) (λ v. (normal_formed v.1.1.1.1.1.1.0, table_formed v.1.1.1.1.1.1.1.1))

call_indirect_formed : Formed InstFormed (call_indirect then Opt suffix_i64 then sig then comma then value then args) call_indirect_value
call_indirect_formed = opened classes.CallIndirect (Opt suffix_i64 then sig then comma then value then args) call_indirect_value refl (λ v. refl) (λ v. refl) (λ v. refl) (λ v. tt)

try_call_indirect_formed : Formed InstFormed (try_call_indirect then Opt suffix_i64 then value then args then comma then sig then comma then normal_target then comma then table) try_call_indirect_value
try_call_indirect_formed = opened classes.TryCallIndirect (Opt suffix_i64 then value then args then comma then sig then comma then normal_target then comma then table) try_call_indirect_value refl (λ v. refl) (λ v. refl) (λ v. refl) (λ v. (normal_formed v.1.1.1.1.1.1.1.0, table_formed v.1.1.1.1.1.1.1.1.1))

return_values_formed : Formed InstFormed return_values return_values_value
return_values_formed = opened classes.Return (Opt (commas value)) return_values_value refl (λ v. refl) (λ v. refl) (λ v. refl) (λ v. tt)

-- ---- instructions

pub inst_formed : (excepted : List Class) → Formed InstFormed (inst excepted) (inst_value excepted)
inst_formed excepted =
    or_formed iconst_formed
    (or_formed binary_formed
    (or_formed unary_formed
    (or_formed icmp_formed
    (or_formed select_formed
    (or_formed convert_formed
    (or_formed binary_imm_formed
    (or_formed icmp_imm_formed
    (or_formed load_formed
    (or_formed load_wide_formed
    (or_formed store_formed
    (or_formed stack_load_formed
    (or_formed stack_store_formed
    (or_formed func_addr_formed
    (or_formed nullary_formed
    (or_formed jump_formed
    (or_formed brif_formed
    (or_formed br_table_formed
    (or_formed return_inst_formed
    (or_formed trap_inst_formed
    (or_formed trap_if_formed
    (or_formed call_formed
    (or_formed try_call_formed
    (or_formed call_indirect_formed
    (or_formed try_call_indirect_formed
    (or_formed refused_formed refused_formed)))))))))))))))))))))))))

pub whole_formed : Formed InstFormed whole_inst whole_value
whole_formed =
    or_formed iconst_formed
    (or_formed binary_formed
    (or_formed unary_formed
    (or_formed icmp_formed
    (or_formed select_formed
    (or_formed convert_formed
    (or_formed binary_imm_formed
    (or_formed icmp_imm_formed
    (or_formed load_formed
    (or_formed load_wide_formed
    (or_formed store_formed
    (or_formed stack_load_formed
    (or_formed stack_store_formed
    (or_formed func_addr_formed
    (or_formed nullary_formed
    (or_formed jump_formed
    (or_formed brif_formed
    (or_formed br_table_formed
    (or_formed return_values_formed
    (or_formed trap_inst_formed
    (or_formed trap_if_formed
    (or_formed call_formed
    (or_formed try_call_formed
    (or_formed call_indirect_formed
    (or_formed try_call_indirect_formed
    (or_formed refused_formed refused_formed)))))))))))))))))))))))))
