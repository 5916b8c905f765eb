use Rattle.std.proofs.Common.{◌≡◌, refl, ap, ◌∙◌}
use Rattle.name_tables.specs.declared.tables.Tables.{Tables}
use Rattle.name_tables.specs.Defining.{define, defined}
use Rattle.name_tables.proofs.LinkLaws.{links_in_range}
use Rattle.clif_names.proofs.function.FunctionNames.of.Goals as goal

pub ends-requires : goal.ends-requires
ends-requires c =
    let tables = c.in_ok-define.ensures ∙ ap (λ (t : Tables). define t c.args.func.now) c.new-tables.ensures in
    record { links_in_range = rw (c.as_slice.ensures, tables) (links_in_range c.args.func.now) }

pub returns : goal.returns
returns c =
    let tables = c.in_ok-define.ensures ∙ ap (λ (t : Tables). define t c.args.func.now) c.new-tables.ensures in
    let same : c.as_slice-3.result.now ≡ (defined c.args.func.now).firsts = c.as_slice-3.ensures ∙ ap (λ (t : Tables). t.firsts) tables in
    record {
      ends = rw (c.as_slice.ensures, tables) at c.in_ok-ends.ensures;
      uses = c.use_function.ensures ∙ rw (c.begun-uses.ensures, tables) refl;
      endless = c.endless-endless.ensures ∙ rw (c.as_slice-2.ensures, tables) refl;
      counts = rw (← same) c.in_ok-values_before.ensures;
    }
