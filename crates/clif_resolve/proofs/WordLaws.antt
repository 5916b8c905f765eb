-- In a function without a fault the tables give each word the number that it has in the module that is meant.
use Rattle.std.proofs.Common.{◌≡◌, ℕ, suc, ◌+◌, ◌≤◌, inl, inr, List, [], ◌∷◌, ◌++◌, length, get_or, Option, None, Some, refl, sym, ap, ◌∙◌, arith}
use Rattle.std.specs.Prelude.{flat_map}
use Rattle.std.proofs.Math.Nat.{zero-add}
use Rattle.std.proofs.lemmas.Bool.Decides.{eqb_tells}
use Rattle.ir_core.specs.declared.signatures.Sig.{Sig}
use Rattle.ir_semantics.specs.Renaming.{Renaming}
use Rattle.token_reader.specs.declared.raw.RawName.{RawName}
use Rattle.clif_read.specs.declared.raw.RawCalleeSig.TheVariants as callee_sig
use Rattle.clif_read.specs.declared.raw.RawDecl.{RawDecl}
use Rattle.clif_read.specs.declared.raw.RawDecl.TheVariants as decl
use Rattle.clif_read.specs.declared.raw.RawFunction.{RawFunction}
use Rattle.name_tables.specs.declared.firsts.Def.{Def}
use Rattle.clif_names.specs.declared.function.FunctionNames.{FunctionNames}
use Rattle.name_tables.specs.Chains.{HasNumber, numbered}
use Rattle.name_tables.specs.Definitions.{Blocks, Callees, Sigs, Slots, definitions, sig_names}
use Rattle.clif_names.specs.FunctionNames.{AreNamesOf, NoFunctionFault, WordsPlaced, value_number}
use Rattle.name_tables.specs.Taking.{place_or_count}
use Rattle.name_tables.specs.Words.{place_in}
use Rattle.name_tables.proofs.DefinedWords.{place_here, place_there}
use Rattle.clif_meaning.specs.Meaning.{decl_sigs, numbers, sig_place}
use Rattle.clif_resolve.specs.Parts.{own_sigs}
use Rattle.clif_lines.specs.WordNumbers.{numbers_in, sig_numbers}

more : (k c : ℕ) → k + suc c ≡ suc k + c
more k c = omega arith

-- the numbers of declared signatures by their place among these, and at last how many signatures there are
pub sig_numbered : (k : ℕ) (ds : List RawDecl) (n : ℕ)
    → get_or (sig_numbers k ds ++ (k + length (flat_map own_sigs ds)) ∷ []) (place_in (flat_map sig_names ds) n) 0 ≡ k + sig_place (flat_map decl_sigs ds) n
sig_numbered k [] n = refl
sig_numbered k (decl.Slot m size align ∷ ds) n = sig_numbered k ds n
sig_numbered k (decl.Sig m signature ∷ ds) n = elim (eqb_tells n m.number) [
  | inl t ↦ rw (place_here m (flat_map sig_names ds) n t.1, t.0) (omega arith)
  | inr f ↦ rw (place_there m (flat_map sig_names ds) n f.1, f.0)
      (ap (λ c. get_or (sig_numbers (suc k) ds ++ c ∷ []) (place_in (flat_map sig_names ds) n) 0) (more k (length (flat_map own_sigs ds)))
      ∙ sig_numbered (suc k) ds n ∙ sym (more k (sig_place (flat_map decl_sigs ds) n)))
]
sig_numbered k (decl.Callee colocated m (callee_sig.Declared s) name ∷ ds) n = sig_numbered k ds n
sig_numbered k (decl.Callee colocated m (callee_sig.Inline signature) name ∷ ds) n =
    ap (λ c. get_or (sig_numbers (suc k) ds ++ c ∷ []) (place_in (flat_map sig_names ds) n) 0) (more k (length (flat_map own_sigs ds)))
    ∙ sig_numbered (suc k) ds n ∙ sym (more k (sig_place (flat_map decl_sigs ds) n))

renaming_of : (value block slot sig callee : ℕ → ℕ) → Renaming
renaming_of value block slot sig callee = record { value = value; block = block; slot = slot; sig = sig; callee = callee }

module _ (placed : WordsPlaced) (f : RawFunction) (names : FunctionNames) (free : NoFunctionFault f) (are : AreNamesOf f names) where
  pub words_right : numbers_in names (sig_numbers 0 f.decls ++ length (flat_map own_sigs f.decls) ∷ []) ≡ numbers f (value_number names)
  unfolding renaming_of
  words_right =
      ap (λ (g : ℕ → ℕ). renaming_of (value_number names) g (place_or_count names.uses.slots.words) sigs (place_or_count names.uses.callees.words)) (λ i n. placed f names free are Blocks n i)
      ∙ ap (λ (g : ℕ → ℕ). renaming_of (value_number names) (place_in (definitions f Blocks)) g sigs (place_or_count names.uses.callees.words)) (λ i n. placed f names free are Slots n i)
      ∙ ap (λ (g : ℕ → ℕ). renaming_of (value_number names) (place_in (definitions f Blocks)) (place_in (definitions f Slots)) g (place_or_count names.uses.callees.words)) (λ i n. sig_right n i)
      ∙ ap (λ (g : ℕ → ℕ). renaming_of (value_number names) (place_in (definitions f Blocks)) (place_in (definitions f Slots)) (sig_place (flat_map decl_sigs f.decls)) g) (λ i n. placed f names free are Callees n i)
    where
      sigs : ℕ → ℕ
      sigs n = get_or (sig_numbers 0 f.decls ++ length (flat_map own_sigs f.decls) ∷ []) (place_or_count names.uses.sigs.words n) 0

      sig_right : (n : ℕ) → sigs n ≡ sig_place (flat_map decl_sigs f.decls) n
      sig_right n =
          ap (λ p. get_or (sig_numbers 0 f.decls ++ length (flat_map own_sigs f.decls) ∷ []) p 0) (placed f names free are Sigs n)
          ∙ ap (λ m. get_or (sig_numbers 0 f.decls ++ m ∷ []) (place_in (definitions f Sigs) n) 0) (sym (zero-add (length (flat_map own_sigs f.decls))))
          ∙ sig_numbered 0 f.decls n ∙ zero-add (sig_place (flat_map decl_sigs f.decls) n)

-- ---- all of them are small

pub place_le : (ns : List RawName) (n : ℕ) → place_in ns n ≤ length ns
place_le [] n = omega arith
place_le (x ∷ xs) n = elim (eqb_tells x.number n) [ inl t ↦ rw t.0 (omega arith) | inr f ↦ rw f.0 (let a = place_le xs n in omega (arith, a)) ]

pub sig_le : (ss : List (Option RawName × Sig)) (n : ℕ) → sig_place ss n ≤ length ss
sig_le [] n = omega arith
sig_le ((None, s) ∷ ss) n = let a = sig_le ss n in omega (arith, a)
sig_le ((Some x, s) ∷ ss) n = elim (eqb_tells n x.number) [ inl t ↦ rw t.0 (omega arith) | inr f ↦ rw f.0 (let a = sig_le ss n in omega (arith, a)) ]

pub value_le : (ds : List Def) (o : Option Def) (v : ℕ) → HasNumber ds o v → v ≤ length (numbered ds)
value_le ds None v h = omega (arith, h)
value_le ds (Some d) v (e, c, p) = let a = place_le (numbered ds) e.name.number in omega (arith, a, p)
