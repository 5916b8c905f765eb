-- A raw function that says what a whole function's own one says uses only words that it defines, and its alias chains
-- end.
use Rattle.std.proofs.Common.{◌≡◌, ℕ, ◌<◌, map, sym, ap, subst, ◌∙◌, arith, inl, inr}
use Rattle.std.specs.List.{range_with_len}
use Rattle.ir_core.specs.Lists.{In}
use Rattle.ir_core.specs.Module.{Function}
use Rattle.ir_core.specs.WellFormed.{WellFormed}
use Rattle.ir_text.specs.Writable.{FunctionWritable}
use Rattle.clif_lex.specs.declared.faults.TextKind.TheVariants.{Undefined}
use Rattle.token_reader.specs.declared.raw.RawName.{RawName}
use Rattle.clif_read.specs.declared.raw.RawFunction.{RawFunction}
use Rattle.name_tables.specs.Definitions.{Kind, definitions}
use Rattle.clif_names.specs.Faults.{FunctionFault}
use Rattle.name_tables.specs.Uses.{uses}
use Rattle.name_tables.specs.Words.{IsMissing}
use Rattle.ir_core.proofs.Gets.{each_at}
use Rattle.clif_meaning.proofs.WholeLaws.{word_in}
use Rattle.text_read_back.specs.Bare as bare
use Rattle.text_read_back.specs.Defining.{number_of}
use Rattle.text_read_back.specs.RawOf as raws
use Rattle.names_read_back.proofs.NoRepeats.{none_endless}
use Rattle.canonical_reads.proofs.Lists.{Within, within_bare, numbers_bare, in_range, counted_within}
use Rattle.canonical_reads.proofs.Spotless.{uses_bare, definitions_bare}
use Rattle.canonical_reads.proofs.Counted.{count, counted}
use Rattle.canonical_reads.proofs.Used.{used_within}

module _ (f : Function) (is : WellFormed f) (w : FunctionWritable f) (r : RawFunction) (says : bare.bare_function r ≡ raws.raw_function f) where
  -- its words are numbered in order
  pub counted_here : (k : Kind) → map number_of (definitions r k) ≡ range_with_len 0 (count f k)
  counted_here k =
      sym (numbers_bare (definitions r k)) ∙ ap (map number_of) (sym (definitions_bare r k)) ∙ ap (λ (x : RawFunction). map number_of (definitions x k)) says ∙ counted f is k

  pub defined_below : (k : Kind) → Within (count f k) (definitions r k)
  defined_below k = counted_within (definitions r k) (count f k) (counted_here k)

  pub used_below : (k : Kind) → Within (count f k) (uses r k)
  used_below k = within_bare (count f k) (uses r k) (subst (Within (count f k)) (sym (ap (λ (x : RawFunction). uses x k) says) ∙ uses_bare r k) (used_within f is k))

  none_missing : (k : Kind) (spot : ℕ) → IsMissing (definitions r k) (uses r k) spot → ⊥
  none_missing k spot (i, u, at, here, missing) =
      let below : u.number < count f k = each_at (λ (w : RawName). w.number < count f k) (uses r k) i u (used_below k) at in
      missing (word_in (definitions r k) u.number (subst (In u.number) (sym (counted_here k)) (in_range 0 (count f k) u.number (omega arith) (omega (arith, below)))))

  pub nothing_undefined : (spot : ℕ) → FunctionFault r Undefined spot → ⊥
  nothing_undefined spot (inl h) = none_missing h.0 spot h.1
  nothing_undefined spot (inr h) = none_endless f is w r says spot h
