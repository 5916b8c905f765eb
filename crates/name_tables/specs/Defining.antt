-- The words of a function by kind, as its declarations and blocks define them in order.
use Rattle.std.specs.Prelude.{[], ◌∷◌, ◌++◌, fold, flat_map, if◌then◌else◌}
use Rattle.clif_read.specs.declared.raw.RawDecl.{RawDecl}
use Rattle.clif_read.specs.declared.raw.RawDecl.TheVariants as decl
use Rattle.clif_read.specs.declared.raw.RawBlock.{RawBlock}
use Rattle.clif_read.specs.declared.raw.RawFunction.{RawFunction}
use Rattle.name_tables.specs.declared.firsts.Def.{Def}
use Rattle.name_tables.specs.declared.tables.Tables.{Tables}
use Rattle.name_tables.specs.Definitions.{param_defs, line_defs}
use Rattle.name_tables.specs.Taking.{no_names, is_new, declare}

abbrev pub no_tables : Tables
no_tables = record {
  slots = no_names;
  sigs = no_names;
  callees = no_names;
  blocks = no_names;
  values = no_names;
  firsts = [];
}

abbrev pub define_decl : Tables → RawDecl → Tables
define_decl t (decl.Slot n size align) = record t { slots = declare t.slots n }
define_decl t (decl.Sig n signature) = record t { sigs = declare t.sigs n }
define_decl t (decl.Callee colocated n sig name) = record t { callees = declare t.callees n }

-- of two definitions of a word the first is kept
unfoldable pub define_value : Tables → Def → Tables
define_value t d = record t {
  values = declare t.values d.name;
  firsts = if is_new t.values d.name.number then t.firsts ++ d ∷ [] else t.firsts;
}

abbrev pub define_block : Tables → RawBlock → Tables
define_block t b =
    fold define_value (record t { blocks = declare t.blocks b.block })
    (flat_map param_defs b.params ++ flat_map line_defs b.lines)

-- tables when the definitions of a function are taken
abbrev pub define : Tables → RawFunction → Tables
define t f = fold define_block (fold define_decl t f.decls) f.blocks

abbrev pub defined : RawFunction → Tables
defined f = define no_tables f
