-- In a function without a fault each chain of alias lines ends at a value, and each word has a number.
use Rattle.std.proofs.Common.{◌≡◌, inl, inr, Bool, true, List, [], ◌∷◌, length, Option, None, Some, refl, sym, ◌∙◌}
use Rattle.std.specs.Prelude.{flat_map}
use Rattle.std.specs.List.{list_all}
use Rattle.ir_core.specs.Lists.{In}
use Rattle.ir_core.proofs.Members.{in_right}
use Rattle.ir_core.proofs.Gets.{in_get}
use Rattle.clif_lex.specs.declared.faults.TextKind.TheVariants.{Duplicate, Undefined}
use Rattle.token_reader.specs.declared.raw.RawName.{RawName}
use Rattle.clif_read.specs.declared.raw.RawFunction.{RawFunction}
use Rattle.name_tables.specs.declared.firsts.Def.{Def}
use Rattle.name_tables.specs.Definitions.{Values, value_defs, names_of, lines}
use Rattle.name_tables.specs.Uses.{uses, line_uses, decl_uses}
use Rattle.name_tables.specs.Chains.{Ending, Ends, Lost, look, chain, IsNumbering}
use Rattle.clif_names.specs.FunctionNames.{NoFunctionFault}
use Rattle.clif_names.specs.Listed as listed
use Rattle.name_tables.proofs.AliasTargets.{block_targets}
use Rattle.name_tables.proofs.ChainLaws.{lost_at}
use Rattle.name_tables.proofs.DefinedWords.{NoRepeats, look_defined, look_own}
use Rattle.name_tables.proofs.Endings.{never_ends}
use Rattle.clif_names.proofs.ListedLaws.{chains_number}

all_true : {A : Type 0} (p : A → Bool) (xs : List A) → ((x : A) → In x xs → p x ≡ true) → list_all p xs ≡ true
all_true p [] go = refl
all_true p (x ∷ xs) go = rw (go x (inl refl)) (all_true p xs (λ y i. go y (inr i)))

module _ (r : RawFunction) (free : NoFunctionFault r) where
  pub no_repeats : NoRepeats (names_of (value_defs r))
  no_repeats spot h = free Duplicate spot (Values, h)

  no_lost : (x : Def) (m : RawName) → In x (value_defs r) → x.target ≡ Some m → look (value_defs r) m.number ≡ None → ⊥
  no_lost x m i t none =
      let (j, at) = in_get (uses r Values) m (in_right m (flat_map (decl_uses Values) r.decls) (flat_map (line_uses Values) (lines r)) (block_targets r.blocks x m i t)) in
      free Undefined m.spot (inl (Values, (j, m, at, refl, λ h. (let p = look_defined (value_defs r) m.number h in (let q = sym none ∙ p.1 in cc)))))

  pub ends : (d : Def) → In d (value_defs r) → listed.has_end (chain (value_defs r) (length (value_defs r)) d) ≡ true
  ends d i = by (chain (value_defs r) (length (value_defs r)) d) refl
    where
      found : look (value_defs r) d.name.number ≡ Some d
      found = let p = in_get (value_defs r) d i in look_own (value_defs r) no_repeats p.0 d p.1

      by : (o : Option Ending) → chain (value_defs r) (length (value_defs r)) d ≡ o → listed.has_end o ≡ true
      by None c = absurd (free Undefined d.name.spot (inr (d.name.number, d, found, refl, never_ends (value_defs r) d.name.number d found c)))
      by (Some Lost) c = absurd (let (x, m, j, t, none) = lost_at (value_defs r) (length (value_defs r)) d.name.number d found c in no_lost x m j t none)
      by (Some (Ends e)) c = refl

  pub all_end : listed.chains_end (value_defs r) ≡ true
  all_end = all_true (λ d. listed.has_end (chain (value_defs r) (length (value_defs r)) d)) (value_defs r) ends

  pub numbering : IsNumbering (value_defs r) (listed.value_of (value_defs r))
  numbering = chains_number (value_defs r) all_end
