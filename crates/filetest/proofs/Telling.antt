-- What a report in the making is told.
use Rattle.std.proofs.Common.{◌≡◌, ℕ, suc, ◌+◌, ◌<◌, ◌≤◌, List, [], ◌∷◌, ◌++◌, length, flat_map, sym, ap, ◌∙◌, arith, append_assoc, append-nil, length-append, subst}
use Rattle.std.proofs.lemmas.Grind.{flat_map-append}
use Rattle.std.proofs.lemmas.List.Elements.{filter-append}
use Rattle.test_directives.specs.Commands.{Command}
use Rattle.filetest.specs.Report.{Check, check_text, has_failed, passed, failed}
use Rattle.filetest.specs.Telling.{Told, Puts, Tells, TellsWith}

-- one piece behind another
pub puts_both : (a b d : Told) (x y : List ℕ) → Puts a b x → Puts b d y → Puts a d (x ++ y)
puts_both a b d x y p q = record {
  counted = p.counted;
  text = q.text ∙ (ap (λ t. t ++ y) p.text ∙ append_assoc a.text x y);
  passed = q.passed ∙ p.passed;
  failed = q.failed ∙ p.failed;
  skipped = q.skipped ∙ p.skipped;
}

-- behind a piece there is room for one more count
pub room : (a b : Told) (x : List ℕ) → Puts a b x → 0 < length x → suc (b.passed + b.failed + b.skipped) ≤ length b.text
room a b x p h = omega (arith, ap length p.text, length-append a.text x, p.counted, p.passed, p.failed, p.skipped)

-- ---- checks one after another

pub passed_both : (xs ys : List Check) → passed (xs ++ ys) ≡ passed xs + passed ys
passed_both xs ys = ap length (filter-append _ xs ys) ∙ length-append _ _

pub failed_both : (xs ys : List Check) → failed (xs ++ ys) ≡ failed xs + failed ys
failed_both xs ys = ap length (filter-append has_failed xs ys) ∙ length-append _ _

-- the first of those that are left are told
pub tells_more : (a b d : Told) (command : Command) (xs rest all : List Check)
    → TellsWith a b command (xs ++ rest) all → Tells b d command xs → TellsWith a d command rest all
tells_more a b d command xs rest all p q = record {
  text = ap (λ t. t ++ flat_map (check_text command) rest) q.text
      ∙ (append_assoc b.text (flat_map (check_text command) xs) (flat_map (check_text command) rest)
      ∙ (ap (λ t. b.text ++ t) (sym (flat_map-append (check_text command) xs rest)) ∙ p.text));
  passed = omega (arith, q.passed, p.passed, passed_both xs rest);
  failed = omega (arith, q.failed, p.failed, failed_both xs rest);
  skipped = q.skipped ∙ p.skipped;
}

-- none is left
pub tells_all : (a b : Told) (command : Command) (rest all : List Check) → rest ≡ [] → TellsWith a b command rest all → Tells a b command all
tells_all a b command rest all e p = record {
  text = sym (append-nil b.text) ∙ (ap (λ xs. b.text ++ flat_map (check_text command) xs) (sym e) ∙ p.text);
  passed = omega (arith, ap passed e, p.passed);
  failed = omega (arith, ap failed e, p.failed);
  skipped = p.skipped;
}

-- those that are left are these
pub tells_same : (a b : Told) (command : Command) (xs ys all : List Check) → xs ≡ ys → TellsWith a b command xs all → TellsWith a b command ys all
tells_same a b command xs ys all e p = subst (λ zs. TellsWith a b command zs all) e p

-- the first of those that are left is told
pub tells_step : (a b d : Told) (command : Command) (c c' : Check) (rest all : List Check)
    → TellsWith a b command (c ∷ rest) all → Tells b d command (c' ∷ []) → c' ≡ c → TellsWith a d command rest all
tells_step a b d command c c' rest all p q e = tells_more a b d command (c ∷ []) rest all p (subst (λ x. Tells b d command (x ∷ [])) e q)

-- those that are left are in front of others
pub tells_front : (a b d : Told) (command : Command) (left xs rest all : List Check)
    → left ≡ xs ++ rest → TellsWith a b command left all → Tells b d command xs → TellsWith a d command rest all
tells_front a b d command left xs rest all e p q = tells_more a b d command xs rest all (tells_same a b command left (xs ++ rest) all e p) q
