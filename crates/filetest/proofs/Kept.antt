-- What was told of a command, found and put in.
use Rattle.std.proofs.Common.{◌≡◌, ℕ, ◌+◌, List, [], ◌∷◌, ◌++◌, cond, Option, Some, IfSome, refl, sym, ap, subst, ◌∙◌, arith}
use Rattle.std.proofs.lemmas.Map.Lookups.{CmpEqualImpliesEq}
use Rattle.std.specs.declared.cmp.Ordering.{Ordering}
use Rattle.std.specs.declared.cmp.Ordering.TheVariants.{Less, Equal, Greater}
use Rattle.std.specs.Ordering.{is_eq, match_ordering}
use Rattle.std.specs.Map.{lookup}
use Rattle.std.specs.BTreeMap.{insert_entry, is_at}
use Rattle.std.specs.List.{AllByRecursion}
use Rattle.ir_core.specs.Module.{Module}
use Rattle.test_directives.specs.Commands.{Command}
use Rattle.test_directives.specs.Tests.{FunctionTests}
use Rattle.filetest.specs.declared.sections.Kind.{Kind}
use Rattle.filetest.specs.declared.sections.Kind.TheVariants as kind
use Rattle.filetest.specs.contracts.sections.KindOrd.TheImpl as order
use Rattle.filetest.specs.Telling.{Told}
use Rattle.filetest.specs.Carrying.{IsCarriedOut}
use Rattle.filetest.specs.Checks.{command_text}
use Rattle.filetest.specs.Sections.{nothing_told}

-- kinds that compare as equal are the same
pub same_kind : (a b : Kind) → (order.cmp-value).it a b ≡ Equal → a ≡ b
same_kind kind.Cat kind.Cat e = refl
same_kind kind.Verifier kind.Verifier e = refl
same_kind kind.Interpret kind.Interpret e = refl
same_kind kind.Run kind.Run e = refl
same_kind (kind.Inline p x y) (kind.Inline q z w) e = grind (arith, e)
same_kind a b e = grind (arith, e)

module _ {K X : Type 0} (R : K → K → Ordering) (same : CmpEqualImpliesEq R) (P : K × X → Type 0) where
  pub found : (k : K) (es : List (K × X)) → AllByRecursion P es → IfSome (lookup (is_at (R k)) es) (λ x. P (k, x))
  found k [] h = tt
  found k (e ∷ es) h = go (R k e.0) refl (found k es h.1)
    where
      go : (o : Ordering) → R k e.0 ≡ o → IfSome (lookup (is_at (R k)) es) (λ x. P (k, x)) → IfSome (cond (is_eq o) (Some e.1) (lookup (is_at (R k)) es)) (λ x. P (k, x))
      go Less q more = more
      go Greater q more = more
      go Equal q more = subst (λ (z : K). P (z, e.1)) (sym (same k e.0 q)) h.0

  pub put : (k : K) (x : X) (es : List (K × X)) → AllByRecursion P es → P (k, x) → AllByRecursion P (insert_entry R es k x)
  put k x [] h p = (p, tt)
  put k x (e ∷ es) h p = go (R k e.0) refl (put k x es h.1 p)
    where
      go : (o : Ordering) → R k e.0 ≡ o → AllByRecursion P (insert_entry R es k x) → AllByRecursion P (match_ordering o ((k, x) ∷ e ∷ es) ((e.0, x) ∷ es) (e ∷ insert_entry R es k x))
      go Less q more = (p, h)
      go Equal q more = (subst (λ (z : K). P (z, x)) (same k e.0 q) p, h.1)
      go Greater q more = (h.0, more)

module _ (m : Module) (ts : List FunctionTests) (faults : List (Option ℕ)) (c : Command) where
  -- where a section that was told nothing else is told again, the command is carried out
  pub carried_again : (a b section : Told) → IsCarriedOut nothing_told section m ts faults c → b.text ≡ a.text ++ section.text
      → (b.passed ≡ a.passed + section.passed) × (b.failed ≡ a.failed + section.failed) × (b.skipped ≡ a.skipped + section.skipped) → IsCarriedOut a b m ts faults c
  carried_again a b section is t n = record {
    text = t ∙ ap (λ x. a.text ++ x) is.text;
    passed = omega (arith, n.0, is.passed);
    failed = omega (arith, n.1, is.failed);
    skipped = omega (arith, n.2, is.skipped);
  }

  -- a section that was empty was told of the command alone
  pub carried_alone : (a b : Told) → a.text ≡ [] → (a.passed ≡ 0) × (a.failed ≡ 0) × (a.skipped ≡ 0) → IsCarriedOut a b m ts faults c → IsCarriedOut nothing_told b m ts faults c
  carried_alone a b t n is = record {
    text = is.text ∙ ap (λ x. x ++ command_text m ts faults c) t;
    passed = omega (arith, n.0, is.passed);
    failed = omega (arith, n.1, is.failed);
    skipped = omega (arith, n.2, is.skipped);
  }
