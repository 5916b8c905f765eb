-- A raw function without its spots defines and uses the same words, and has the same numbers.
use Rattle.std.proofs.Common.{◌≡◌, List, ◌∷◌, ◌++◌, map, Option, None, Some, refl, sym, ap, ap₂, ◌∙◌}
use Rattle.std.specs.Prelude.{flat_map}
use Rattle.std.proofs.lemmas.List.{map-append}
use Rattle.ir_core.specs.declared.signatures.Ty.{Ty}
use Rattle.clif_insts.specs.declared.raw.RawArg.{RawArg}
use Rattle.clif_insts.specs.declared.raw.RawArg.TheVariants as args
use Rattle.clif_insts.specs.declared.raw.RawEntry.{RawEntry}
use Rattle.clif_insts.specs.declared.raw.RawInst.{RawInst}
use Rattle.token_reader.specs.declared.raw.RawName.{RawName}
use Rattle.token_reader.specs.declared.raw.RawNumber.{RawNumber}
use Rattle.clif_insts.specs.declared.raw.RawOperands.{RawOperands}
use Rattle.clif_insts.specs.declared.raw.RawOperands.TheVariants as form
use Rattle.clif_insts.specs.declared.raw.RawTarget.{RawTarget}
use Rattle.clif_insts.specs.declared.raw.RawTrap.{RawTrap}
use Rattle.clif_insts.specs.declared.raw.RawTrap.TheVariants as traps
use Rattle.clif_read.specs.declared.raw.RawBlock.{RawBlock}
use Rattle.clif_read.specs.declared.raw.RawCalleeSig.TheVariants as callee_sigs
use Rattle.clif_read.specs.declared.raw.RawDecl.{RawDecl}
use Rattle.clif_read.specs.declared.raw.RawDecl.TheVariants as decls
use Rattle.clif_read.specs.declared.raw.RawFuncName.{RawFuncName}
use Rattle.clif_read.specs.declared.raw.RawFuncName.TheVariants as func_names
use Rattle.clif_read.specs.declared.raw.RawFunction.{RawFunction}
use Rattle.clif_read.specs.declared.raw.RawLine.{RawLine}
use Rattle.clif_read.specs.declared.raw.RawLine.TheVariants as raw_lines
use Rattle.clif_read.specs.declared.raw.RawTag.{RawTag}
use Rattle.clif_read.specs.declared.raw.RawTag.TheVariants as tags
use Rattle.name_tables.specs.declared.firsts.Def.{Def}
use Rattle.clif_names.specs.declared.limits.Limit.{Limit}
use Rattle.clif_names.specs.declared.limits.Limit.TheVariants.{Offset}
use Rattle.clif_names.specs.declared.limits.Limited.{Limited}
use Rattle.name_tables.specs.Definitions.{Kind, Slots, Sigs, Callees, Blocks, Values, slot_names, sig_names, callee_names, value_defs, definitions, lines}
use Rattle.clif_names.specs.Limits.{name_limits, maybe_number, decl_limits, arg_limits, target_limits, entry_limits, trap_limits, constant_limits, operand_limits, tag_limits, line_limits}
use Rattle.clif_names.specs.Typing.{gives_type, asks}
use Rattle.name_tables.specs.Uses.{operand_values, operand_targets, operand_slots, operand_callees, operand_sigs, arg_values, target_values, tag_slots, line_uses, decl_uses, uses}
use Rattle.text_read_back.specs.Bare as bare
use Rattle.text_read_back.proofs.Lists.{flat_bare, map_bare}
use Rattle.names_read_back.proofs.TextMeans.{bare_def, defs_bare}

-- ---- operands

values_bare : (o : RawOperands) → operand_values (bare.bare_operands o) ≡ map bare.bare_name (operand_values o)
values_bare form.Nullary = refl
values_bare _ = refl

table_bare : (es : List RawEntry) → map (λ (e : RawEntry). e.target) (map bare.bare_entry es) ≡ map bare.bare_target (map (λ (e : RawEntry). e.target) es)
table_bare es = map_bare (λ (e : RawEntry). e.target) bare.bare_entry bare.bare_target (λ e. refl) es

pub targets_bare : (o : RawOperands) → operand_targets (bare.bare_operands o) ≡ map bare.bare_target (operand_targets o)
targets_bare (form.TryCall callee vs sig t es) = ap (λ (ts : List RawTarget). bare.bare_target t ∷ ts) (table_bare es)
targets_bare (form.TryCallIndirect p vs sig t es) = ap (λ (ts : List RawTarget). bare.bare_target t ∷ ts) (table_bare es)
targets_bare _ = refl

slots_bare : (o : RawOperands) → operand_slots (bare.bare_operands o) ≡ map bare.bare_name (operand_slots o)
slots_bare form.Nullary = refl
slots_bare _ = refl

callees_bare : (o : RawOperands) → operand_callees (bare.bare_operands o) ≡ map bare.bare_name (operand_callees o)
callees_bare form.Nullary = refl
callees_bare _ = refl

sigs_bare : (o : RawOperands) → operand_sigs (bare.bare_operands o) ≡ map bare.bare_name (operand_sigs o)
sigs_bare form.Nullary = refl
sigs_bare _ = refl

arg_bare : (a : RawArg) → arg_values (bare.bare_arg a) ≡ map bare.bare_name (arg_values a)
arg_bare (args.Value x) = refl
arg_bare (args.Ret x) = refl
arg_bare (args.Exn x) = refl

target_bare : (t : RawTarget) → target_values (bare.bare_target t) ≡ map bare.bare_name (target_values t)
target_bare t = flat_bare arg_values bare.bare_arg bare.bare_name arg_bare t.args

tag_bare : (t : RawTag) → tag_slots (bare.bare_tag t) ≡ map bare.bare_name (tag_slots t)
tag_bare (tags.User n) = refl
tag_bare (tags.Slot x) = refl

-- ---- uses

abbrev both : List RawName → List RawName → List RawName
both xs ys = xs ++ ys

line_uses_bare : (k : Kind) (l : RawLine) → line_uses k (bare.bare_line l) ≡ map bare.bare_name (line_uses k l)
line_uses_bare Values (raw_lines.Alias location x y) = refl
line_uses_bare Slots (raw_lines.Alias location x y) = refl
line_uses_bare Sigs (raw_lines.Alias location x y) = refl
line_uses_bare Callees (raw_lines.Alias location x y) = refl
line_uses_bare Blocks (raw_lines.Alias location x y) = refl
line_uses_bare Slots (raw_lines.Inst location ts rs i) =
    ap₂ both (flat_bare tag_slots bare.bare_tag bare.bare_name tag_bare ts) (slots_bare i.operands) ∙ sym (map-append bare.bare_name (flat_map tag_slots ts) (operand_slots i.operands))
line_uses_bare Sigs (raw_lines.Inst location ts rs i) = sigs_bare i.operands
line_uses_bare Callees (raw_lines.Inst location ts rs i) = callees_bare i.operands
line_uses_bare Blocks (raw_lines.Inst location ts rs i) =
    ap (map (λ (t : RawTarget). t.block)) (targets_bare i.operands) ∙ map_bare (λ (t : RawTarget). t.block) bare.bare_target bare.bare_name (λ t. refl) (operand_targets i.operands)
line_uses_bare Values (raw_lines.Inst location ts rs i) =
    ap₂ both (values_bare i.operands) (ap (flat_map target_values) (targets_bare i.operands) ∙ flat_bare target_values bare.bare_target bare.bare_name target_bare (operand_targets i.operands))
    ∙ sym (map-append bare.bare_name (operand_values i.operands) (flat_map target_values (operand_targets i.operands)))

decl_uses_bare : (k : Kind) (d : RawDecl) → decl_uses k (bare.bare_decl d) ≡ map bare.bare_name (decl_uses k d)
decl_uses_bare Sigs (decls.Callee colocated x (callee_sigs.Declared s) name) = refl
decl_uses_bare Sigs (decls.Callee colocated x (callee_sigs.Inline s) name) = refl
decl_uses_bare Sigs (decls.Slot x size align) = refl
decl_uses_bare Sigs (decls.Sig x s) = refl
decl_uses_bare Slots d = refl
decl_uses_bare Callees d = refl
decl_uses_bare Blocks d = refl
decl_uses_bare Values d = refl

pub lines_bare : (r : RawFunction) → lines (bare.bare_function r) ≡ map bare.bare_line (lines r)
lines_bare r = flat_bare (λ (b : RawBlock). b.lines) bare.bare_block bare.bare_line (λ b. refl) r.blocks

pub uses_bare : (r : RawFunction) (k : Kind) → uses (bare.bare_function r) k ≡ map bare.bare_name (uses r k)
uses_bare r k =
    ap₂ both (flat_bare (decl_uses k) bare.bare_decl bare.bare_name (decl_uses_bare k) r.decls)
    (ap (flat_map (line_uses k)) (lines_bare r) ∙ flat_bare (line_uses k) bare.bare_line bare.bare_name (line_uses_bare k) (lines r))
    ∙ sym (map-append bare.bare_name (flat_map (decl_uses k) r.decls) (flat_map (line_uses k) (lines r)))

-- ---- definitions

slot_bare : (d : RawDecl) → slot_names (bare.bare_decl d) ≡ map bare.bare_name (slot_names d)
slot_bare (decls.Slot x size align) = refl
slot_bare (decls.Sig x s) = refl
slot_bare (decls.Callee colocated x s name) = refl

sig_bare : (d : RawDecl) → sig_names (bare.bare_decl d) ≡ map bare.bare_name (sig_names d)
sig_bare (decls.Slot x size align) = refl
sig_bare (decls.Sig x s) = refl
sig_bare (decls.Callee colocated x s name) = refl

callee_bare : (d : RawDecl) → callee_names (bare.bare_decl d) ≡ map bare.bare_name (callee_names d)
callee_bare (decls.Slot x size align) = refl
callee_bare (decls.Sig x s) = refl
callee_bare (decls.Callee colocated x s name) = refl

pub definitions_bare : (r : RawFunction) (k : Kind) → definitions (bare.bare_function r) k ≡ map bare.bare_name (definitions r k)
definitions_bare r Slots = flat_bare slot_names bare.bare_decl bare.bare_name slot_bare r.decls
definitions_bare r Sigs = flat_bare sig_names bare.bare_decl bare.bare_name sig_bare r.decls
definitions_bare r Callees = flat_bare callee_names bare.bare_decl bare.bare_name callee_bare r.decls
definitions_bare r Blocks = map_bare (λ (b : RawBlock). b.block) bare.bare_block bare.bare_name (λ b. refl) r.blocks
definitions_bare r Values = ap (map (λ (d : Def). d.name)) (defs_bare r) ∙ map_bare (λ (d : Def). d.name) bare_def bare.bare_name (λ d. refl) (value_defs r)

-- ---- types that are asked for

gives_bare : (o : RawOperands) → gives_type (bare.bare_operands o) ≡ bare.bare_option bare.bare_name (gives_type o)
gives_bare form.Nullary = refl
gives_bare _ = refl

pub asks_bare : (i : RawInst) → asks (bare.bare_inst i) ≡ bare.bare_option bare.bare_name (asks i)
asks_bare i = go i.suffix refl
  where
    go : (s : Option Ty) → i.suffix ≡ s → asks (bare.bare_inst i) ≡ bare.bare_option bare.bare_name (asks i)
    go None e = rw e (gives_bare i.operands)
    go (Some t) e = rw e refl

-- ---- numbers

abbrev pub bare_limited : Limited → Limited
bare_limited n = record { value = n.value; spot = 0; limit = n.limit }

abbrev both_limits : List Limited → List Limited → List Limited
both_limits xs ys = xs ++ ys

pub name_limits_bare : (x : RawFuncName) → name_limits (bare.bare_func_name x) ≡ map bare_limited (name_limits x)
name_limits_bare (func_names.Text bytes spot) = refl
name_limits_bare (func_names.User space number) = refl

maybe_bare : (l : Limit) (z : Option RawNumber) → maybe_number l (bare.bare_option bare.bare_number z) ≡ map bare_limited (maybe_number l z)
maybe_bare l None = refl
maybe_bare l (Some z) = refl

pub decl_limits_bare : (d : RawDecl) → decl_limits (bare.bare_decl d) ≡ map bare_limited (decl_limits d)
decl_limits_bare (decls.Slot x size None) = refl
decl_limits_bare (decls.Slot x size (Some align)) = refl
decl_limits_bare (decls.Sig x s) = refl
decl_limits_bare (decls.Callee colocated x s name) = name_limits_bare name

arg_limits_bare : (a : RawArg) → arg_limits (bare.bare_arg a) ≡ map bare_limited (arg_limits a)
arg_limits_bare (args.Value x) = refl
arg_limits_bare (args.Ret x) = refl
arg_limits_bare (args.Exn x) = refl

target_limits_bare : (t : RawTarget) → target_limits (bare.bare_target t) ≡ map bare_limited (target_limits t)
target_limits_bare t = flat_bare arg_limits bare.bare_arg bare_limited arg_limits_bare t.args

entry_limits_bare : (e : RawEntry) → entry_limits (bare.bare_entry e) ≡ map bare_limited (entry_limits e)
entry_limits_bare e = go e.tag refl
  where
    go : (t : Option RawName) → e.tag ≡ t → entry_limits (bare.bare_entry e) ≡ map bare_limited (entry_limits e)
    go None s = rw s refl
    go (Some x) s = rw s refl

trap_limits_bare : (c : RawTrap) → trap_limits (bare.bare_trap c) ≡ map bare_limited (trap_limits c)
trap_limits_bare (traps.User x) = refl
trap_limits_bare _ = refl

constant_limits_bare : (s : Option Ty) (z : RawNumber) → constant_limits s (bare.bare_number z) ≡ map bare_limited (constant_limits s z)
constant_limits_bare None z = refl
constant_limits_bare (Some t) z = refl

operand_limits_bare : (s : Option Ty) (o : RawOperands) → operand_limits s (bare.bare_operands o) ≡ map bare_limited (operand_limits s o)
operand_limits_bare s (form.Number z) = constant_limits_bare s z
operand_limits_bare s (form.Load flags p z) = maybe_bare Offset z
operand_limits_bare s (form.Store flags x p z) = maybe_bare Offset z
operand_limits_bare s (form.StackLoad slot z) = maybe_bare Offset z
operand_limits_bare s (form.StackStore x slot z) = maybe_bare Offset z
operand_limits_bare s (form.Trap c) = trap_limits_bare c
operand_limits_bare s (form.TrapIf x c) = trap_limits_bare c
operand_limits_bare s (form.TryCall callee vs sig t es) = flat_bare entry_limits bare.bare_entry bare_limited entry_limits_bare es
operand_limits_bare s (form.TryCallIndirect p vs sig t es) = flat_bare entry_limits bare.bare_entry bare_limited entry_limits_bare es
operand_limits_bare s _ = refl

tag_limits_bare : (t : RawTag) → tag_limits (bare.bare_tag t) ≡ map bare_limited (tag_limits t)
tag_limits_bare (tags.User n) = refl
tag_limits_bare (tags.Slot x) = refl

pub line_limits_bare : (l : RawLine) → line_limits (bare.bare_line l) ≡ map bare_limited (line_limits l)
line_limits_bare (raw_lines.Alias location x y) = refl
line_limits_bare (raw_lines.Inst location ts rs i) =
    let own = operand_limits i.suffix i.operands in
    ap₂ both_limits
    (ap₂ both_limits (flat_bare tag_limits bare.bare_tag bare_limited tag_limits_bare ts) (operand_limits_bare i.suffix i.operands) ∙ sym (map-append bare_limited (flat_map tag_limits ts) own))
    (ap (flat_map target_limits) (targets_bare i.operands) ∙ flat_bare target_limits bare.bare_target bare_limited target_limits_bare (operand_targets i.operands))
    ∙ sym (map-append bare_limited (flat_map tag_limits ts ++ own) (flat_map target_limits (operand_targets i.operands)))
