-- The faults of a raw module counted out, to try the relations on worked rows. More may be listed than stand.
use Rattle.std.specs.Prelude.{◌≡◌, ℕ, List, [], ◌∷◌, ◌++◌, length, flat_map, Option, None, Some, nat_eq, nat_lt, nat_le}
use Rattle.std.specs.Prelude.{Bool, true, false, if◌then◌else◌, drop, ◌&&◌, ℤ, pos, negsuc}
use Rattle.std.specs.List.{list_any, list_all}
use Rattle.ir_core.specs.Lists.{In}
use Rattle.ir_core.specs.Lookup.{same_bytes}
use Rattle.clif_lex.specs.declared.faults.TextKind.{TextKind}
use Rattle.clif_lex.specs.declared.faults.TextKind.TheVariants.{Duplicate, Undefined, NumberRange, Untyped, TooLarge}
use Rattle.token_reader.specs.declared.raw.RawName.{RawName}
use Rattle.clif_insts.specs.declared.raw.RawInst.{RawInst}
use Rattle.clif_read.specs.declared.raw.RawFuncName.{RawFuncName}
use Rattle.clif_read.specs.declared.raw.RawFuncName.TheVariants as func_name
use Rattle.clif_read.specs.declared.raw.RawFunction.{RawFunction}
use Rattle.clif_read.specs.declared.raw.RawModule.{RawModule}
use Rattle.name_tables.specs.declared.firsts.Def.{Def}
use Rattle.name_tables.specs.Definitions.{Kind, all_kinds, Step, definitions, steps, defs_of, value_defs, names_of}
use Rattle.name_tables.specs.Uses.{uses}
use Rattle.name_tables.specs.Words.{place_in}
use Rattle.name_tables.specs.Chains.{Ending, Ends, Lost, look, chain, numbered, IsNumbering}
use Rattle.clif_names.specs.declared.limits.Limited.{Limited}
use Rattle.clif_names.specs.Limits.{limits, keeps}
use Rattle.clif_names.specs.Sizes.{raw_size, greatest_size, most_functions}
use Rattle.clif_names.specs.Typing.{asks, step_inst}
use Rattle.clif_read.specs.Marks.{name_spot}
use Rattle.clif_names.specs.Faults.{IsFault, NoFault, FirstFault, rank}

abbrev pub spot_where : Bool → ℕ → List ℕ
spot_where true spot = spot ∷ []
spot_where false spot = []

abbrev pub spot_unless : Bool → ℕ → List ℕ
spot_unless true spot = []
spot_unless false spot = spot ∷ []

abbrev pub is_defined : List RawName → ℕ → Bool
is_defined defs n = list_any (λ d. nat_eq n d.number) defs

-- the spots at which a word stands again
abbrev pub same_word : RawName → RawName → List ℕ
same_word d e = spot_where (nat_eq d.number e.number) e.spot

abbrev pub repeats : List RawName → List ℕ
repeats [] = []
repeats (d ∷ ds) = flat_map (same_word d) ds ++ repeats ds

abbrev pub missing_at : List RawName → RawName → List ℕ
missing_at defs u = spot_unless (is_defined defs u.number) u.spot

abbrev pub missing : List RawName → List RawName → List ℕ
missing defs uses = flat_map (missing_at defs) uses

-- a chain that does not end within as many steps as there are definitions
abbrev pub spot_without : Option Ending → ℕ → List ℕ
spot_without None spot = spot ∷ []
spot_without (Some e) spot = []

abbrev pub endless_at : List Def → Def → List ℕ
endless_at defs d = spot_without (chain defs (length defs) d) d.name.spot

abbrev pub endless : List Def → List ℕ
endless defs = flat_map (endless_at defs) defs

abbrev pub outside_at : Limited → List ℕ
outside_at n = spot_unless (keeps n.limit n.value) n.spot

abbrev pub late_end : List Step → ℕ → Option Ending → List ℕ
late_end before spot None = spot ∷ []
late_end before spot (Some Lost) = []
late_end before spot (Some (Ends e)) = spot_unless (is_defined (names_of (defs_of before)) e.name.number) spot

abbrev pub late_word : List Def → List Step → ℕ → Option Def → List ℕ
late_word defs before spot None = []
late_word defs before spot (Some d) = late_end before spot (chain defs (length defs) d)

abbrev pub late_operand : List Def → List Step → ℕ → Option RawName → List ℕ
late_operand defs before spot None = []
late_operand defs before spot (Some x) = late_word defs before spot (look defs x.number)

abbrev pub late_inst : List Def → List Step → Option RawInst → List ℕ
late_inst defs before None = []
late_inst defs before (Some inst) = late_operand defs before inst.opcode.spot (asks inst)

abbrev pub late_from : List Def → List Step → List Step → List ℕ
late_from defs before [] = []
late_from defs before (s ∷ ss) = late_inst defs before (step_inst s) ++ late_from defs (before ++ s ∷ []) ss

abbrev pub of_each_kind : (Kind → List ℕ) → List ℕ
of_each_kind g = flat_map g all_kinds

abbrev pub function_listed : TextKind → RawFunction → List ℕ
function_listed Duplicate f = of_each_kind (λ k. repeats (definitions f k))
function_listed Undefined f = of_each_kind (λ k. missing (definitions f k) (uses f k)) ++ endless (value_defs f)
function_listed NumberRange f = flat_map outside_at (limits f)
function_listed Untyped f = late_from (value_defs f) [] (steps f)
function_listed TooLarge f = spot_where (nat_lt greatest_size (raw_size f)) (name_spot f.name)
function_listed _ f = []

-- ---- among functions

abbrev pub same_integer : ℤ → ℤ → Bool
same_integer (pos a) (pos b) = nat_eq a b
same_integer (negsuc a) (negsuc b) = nat_eq a b
same_integer (pos a) (negsuc b) = false
same_integer (negsuc a) (pos b) = false

abbrev pub same_name : RawFuncName → RawFuncName → Bool
same_name (func_name.Text a s) (func_name.Text b t) = same_bytes a b
same_name (func_name.User a i) (func_name.User b j) = nat_eq a.number b.number && same_integer i.value j.value
same_name (func_name.Text a s) (func_name.User b j) = false
same_name (func_name.User a i) (func_name.Text b t) = false

abbrev pub name_again : RawFunction → RawFunction → List ℕ
name_again f g = spot_where (same_name f.name g.name) (name_spot g.name)

abbrev pub repeated_names : List RawFunction → List ℕ
repeated_names [] = []
repeated_names (f ∷ fs) = flat_map (name_again f) fs ++ repeated_names fs

abbrev pub function_spot : RawFunction → List ℕ
function_spot f = name_spot f.name ∷ []

abbrev pub list_listed : TextKind → List RawFunction → List ℕ
list_listed Duplicate fs = repeated_names fs
list_listed TooLarge fs = flat_map function_spot (drop most_functions fs)
list_listed _ fs = []

-- the spots of a kind
abbrev pub listed : RawModule → TextKind → List ℕ
listed raw kind = list_listed kind raw.functions ++ flat_map (function_listed kind) raw.functions

abbrev pub AllListed : Type 0
AllListed = (raw : RawModule) (kind : TextKind) (spot : ℕ) → IsFault raw kind spot → In spot (listed raw kind)

-- no listed fault is before this one
abbrev pub none_before : TextKind → ℕ → TextKind → List ℕ → Bool
none_before kind spot other spots =
    if nat_le (rank kind) (rank other) then list_all (λ at. nat_le spot at) spots
    else list_all (λ at. nat_lt spot at) spots

abbrev pub names_kinds : List TextKind
names_kinds = Duplicate ∷ Undefined ∷ NumberRange ∷ Untyped ∷ TooLarge ∷ []

abbrev pub leads : RawModule → TextKind → ℕ → Bool
leads raw kind spot = list_all (λ other. none_before kind spot other (listed raw other)) names_kinds

abbrev pub is_empty : List ℕ → Bool
is_empty [] = true
is_empty (n ∷ ns) = false

-- nothing is listed
abbrev pub none_listed : RawModule → Bool
none_listed raw = list_all (λ kind. is_empty (listed raw kind)) names_kinds

abbrev pub ListedNone : Type 0
ListedNone = (raw : RawModule) → none_listed raw ≡ true → NoFault raw

-- a fault before which none is listed, is the first
abbrev pub ListedFirst : Type 0
ListedFirst =
    (raw : RawModule) (kind : TextKind) (spot : ℕ) → IsFault raw kind spot →
    leads raw kind spot ≡ true → FirstFault raw kind spot

-- ---- numbers of values, where each chain ends

abbrev pub has_end : Option Ending → Bool
has_end None = false
has_end (Some Lost) = false
has_end (Some (Ends d)) = true

abbrev pub chains_end : List Def → Bool
chains_end defs = list_all (λ d. has_end (chain defs (length defs) d)) defs

abbrev pub end_place : List Def → Option Ending → ℕ
end_place defs None = 0
end_place defs (Some Lost) = 0
end_place defs (Some (Ends e)) = place_in (numbered defs) e.name.number

abbrev pub word_place : List Def → Option Def → ℕ
word_place defs None = length (numbered defs)
word_place defs (Some d) = end_place defs (chain defs (length defs) d)

abbrev pub value_of : List Def → ℕ → ℕ
value_of defs n = word_place defs (look defs n)

-- where each chain ends within as many steps as there are definitions, the numbers of values are these
abbrev pub ChainsEnd : Type 0
ChainsEnd = (defs : List Def) → chains_end defs ≡ true → IsNumbering defs (value_of defs)
