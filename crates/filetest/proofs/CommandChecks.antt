-- Commands, one after another.
use Rattle.std.proofs.Common.{◌≡◌, ℕ, ◌+◌, ◌<◌, Bool, true, false, if◌then◌else◌, List, [], ◌∷◌, ◌++◌, length, drop, map, flat_map, get_or, Option, sym, ap, subst, ◌∙◌, arith, append_assoc, append-nil, ◌||◌, Result, Ok, Err, IfOk, OnOk, All}
use Rattle.std.proofs.lemmas.List.Elements.{All-drop, All-head}
use Rattle.std.specs.List.{filter, list_any}
use Rattle.ir_core.specs.Module.{Module}
use Rattle.test_directives.specs.Commands as command
use Rattle.test_directives.specs.Commands.{Command, InlineWords}
use Rattle.test_directives.specs.Tests.{FunctionTests}
use Rattle.filetest.specs.Report as report
use Rattle.filetest.specs.Report.{Check, check_text, last_line}
use Rattle.filetest.specs.declared.report.Report.{Report}
use Rattle.filetest.specs.Telling.{Told, Tells}
use Rattle.filetest.specs.Checks.{checks_of, command_text, is_skipped, passed, failed, skipped}
use Rattle.inline_finish.specs.Building.{IsLimited}
use Rattle.inline_finish.specs.declared.bodies.Policy.{Policy}
use Rattle.filetest.specs.Limits.{AreWithin, IsLimitedCommand}
use Rattle.filetest.specs.Carrying.{one_if, IsCarriedOut, CarriesWith}
use Rattle.filetest.specs.Reporting.{IsReportOf}
use Rattle.filetest.specs.Sections.{nothing_told}
use Rattle.test_directives.specs.declared.commands.Command.{Command as CodeCommand}
use Rattle.test_directives.specs.Views.{command_of}
use Rattle.filetest.proofs.Telling.{passed_both, failed_both}
use Rattle.filetest.proofs.TextChecks.{mapped_at}

module _ (m : Module) (ts : List FunctionTests) (faults : List (Option ℕ)) where
  -- told of its checks, a command that is not skipped is carried out
  pub told_carried : (a b : Told) (c : Command) → is_skipped c ≡ false → Tells a b c (checks_of m ts faults c) → IsCarriedOut a b m ts faults c
  told_carried a b c s h = record {
    text = h.text ∙ ap (λ xs. a.text ++ xs) (sym (ap (λ t. if t then report.skip_text c else flat_map (check_text c) (checks_of m ts faults c)) s));
    passed = h.passed;
    failed = h.failed;
    skipped = let z : a.skipped ≡ a.skipped + 0 = omega arith in h.skipped ∙ (z ∙ ap (λ t. a.skipped + one_if t) (sym s));
  }

  -- and so is one that is the same
  pub carried_as : (a b : Told) (c d : Command) (cs : List Check) → c ≡ d → is_skipped d ≡ false → cs ≡ checks_of m ts faults d → Tells a b c cs → IsCarriedOut a b m ts faults c
  carried_as a b c d cs e s x h = told_carried a b c (ap is_skipped e ∙ s) (subst (Tells a b c) (x ∙ sym (ap (checks_of m ts faults) e)) h)

  -- a command that is skipped is carried out, too
  pub carried_skipped : (a b : Told) (c : Command) (word : List ℕ) → c ≡ command.Other word → b.text ≡ a.text ++ report.skip_text c
      → (b.passed ≡ a.passed) × (b.failed ≡ a.failed) × (b.skipped ≡ a.skipped + 1) → IsCarriedOut a b m ts faults c
  carried_skipped a b c word e t n =
      let none : checks_of m ts faults c ≡ [] = ap (checks_of m ts faults) e in
      let s : is_skipped c ≡ true = ap is_skipped e in
      record {
        text = t ∙ ap (λ xs. a.text ++ xs) (sym (ap (λ z. if z then report.skip_text c else flat_map (check_text c) (checks_of m ts faults c)) s));
        passed = let z : a.passed ≡ a.passed + 0 = omega arith in n.0 ∙ (z ∙ ap (λ xs. a.passed + report.passed xs) (sym none));
        failed = let z : a.failed ≡ a.failed + 0 = omega arith in n.1 ∙ (z ∙ ap (λ xs. a.failed + report.failed xs) (sym none));
        skipped = n.2 ∙ ap (λ z. a.skipped + one_if z) (sym s);
      }

  count_skipped : (c : Command) (rest : List Command) → skipped (c ∷ rest) ≡ one_if (is_skipped c) + skipped rest
  count_skipped c rest = go (is_skipped c)
    where
      go : (t : Bool) → length (if t then c ∷ filter is_skipped rest else filter is_skipped rest) ≡ one_if t + skipped rest
      go true = omega arith
      go false = omega arith

  pub carries_step : (start a b : Told) (c : Command) (rest all : List Command) → CarriesWith start a m ts faults (c ∷ rest) all → IsCarriedOut a b m ts faults c → CarriesWith start b m ts faults rest all
  carries_step start a b c rest all h k = record {
    text = ap (λ t. t ++ flat_map (command_text m ts faults) rest) k.text ∙ (append_assoc a.text (command_text m ts faults c) (flat_map (command_text m ts faults) rest) ∙ h.text);
    passed = omega (arith, k.passed, h.passed, passed_both (checks_of m ts faults c) (flat_map (checks_of m ts faults) rest));
    failed = omega (arith, k.failed, h.failed, failed_both (checks_of m ts faults c) (flat_map (checks_of m ts faults) rest));
    skipped = omega (arith, k.skipped, h.skipped, count_skipped c rest);
  }

  -- the next of some commands
  pub carries_command : (start a b : Told) (xs : List CodeCommand) (all : List Command) (i : ℕ) (x : CodeCommand) → i < length xs → x ≡ get_or xs i x
      → CarriesWith start a m ts faults (drop i (map command_of xs)) all → IsCarriedOut a b m ts faults (command_of x) → CarriesWith start b m ts faults (drop (i + 1) (map command_of xs)) all
  carries_command start a b xs all i x l e h k =
      carries_step start a b (command_of x) (drop (i + 1) (map command_of xs)) all (subst (λ ys. CarriesWith start a m ts faults ys all) (mapped_at command_of xs i x l e) h) k

  pub carries_fresh : (a : Told) (cs : List Command) → a.text ≡ [] → (a.passed ≡ 0) × (a.failed ≡ 0) × (a.skipped ≡ 0) → CarriesWith nothing_told a m ts faults cs cs
  carries_fresh a cs t n = record {
    text = ap (λ x. x ++ flat_map (command_text m ts faults) cs) t;
    passed = ap (λ k. k + passed m ts faults cs) n.0;
    failed = ap (λ k. k + failed m ts faults cs) n.1;
    skipped = ap (λ k. k + skipped cs) n.2;
  }

  -- all are carried out
  pub reported : (start now : Told) (rest all : List Command) (r : Report) → rest ≡ []
      → start.text ≡ [] → start.passed ≡ 0 → start.failed ≡ 0 → start.skipped ≡ 0
      → CarriesWith start now m ts faults rest all
      → r.text ≡ now.text ++ last_line now.passed now.failed now.skipped → r.passed ≡ now.passed → r.failed ≡ now.failed → r.skipped ≡ now.skipped
      → IsReportOf m ts faults all r
  reported start now rest all r e t p f s h rt rp rf rs =
      let text : now.text ≡ flat_map (command_text m ts faults) all =
      sym (append-nil now.text) ∙ (ap (λ xs. now.text ++ flat_map (command_text m ts faults) xs) (sym e) ∙ (h.text ∙ ap (λ x. x ++ flat_map (command_text m ts faults) all) t)) in
      let np : now.passed ≡ passed m ts faults all = omega (arith, h.passed, p, ap (passed m ts faults) e) in
      let nf : now.failed ≡ failed m ts faults all = omega (arith, h.failed, f, ap (failed m ts faults) e) in
      let ns : now.skipped ≡ skipped all = omega (arith, h.skipped, s, ap skipped e) in
      record {
        text_is = rt ∙ (ap (λ x. x ++ last_line now.passed now.failed now.skipped) text
            ∙ (ap (λ x. flat_map (command_text m ts faults) all ++ last_line x now.failed now.skipped) np
            ∙ (ap (λ x. flat_map (command_text m ts faults) all ++ last_line (passed m ts faults all) x now.skipped) nf
            ∙ ap (λ x. flat_map (command_text m ts faults) all ++ last_line (passed m ts faults all) (failed m ts faults all) x) ns)));
        passed_is = rp ∙ np;
        failed_is = rf ∙ nf;
        skipped_is = rs ∙ ns;
      }

-- ---- whether some command is one of a kind

pub any_here : (p : Command → Bool) (xs : List CodeCommand) (i : ℕ) (x : CodeCommand) (b : Bool) → i < length xs → x ≡ get_or xs i x → b ≡ p (command_of x) → b ≡ true → true ≡ list_any p (drop i (map command_of xs))
any_here p xs i x b l e h t = sym (ap (list_any p) (mapped_at command_of xs i x l e) ∙ ap (λ z. z || list_any p (drop (i + 1) (map command_of xs))) (sym h ∙ t))

pub any_later : (p : Command → Bool) (xs : List CodeCommand) (i : ℕ) (x : CodeCommand) (b : Bool) → i < length xs → x ≡ get_or xs i x → b ≡ p (command_of x) → b ≡ false → list_any p (drop (i + 1) (map command_of xs)) ≡ list_any p (drop i (map command_of xs))
any_later p xs i x b l e h t = sym (ap (list_any p) (mapped_at command_of xs i x l e) ∙ ap (λ z. z || list_any p (drop (i + 1) (map command_of xs))) (sym h ∙ t))

-- two facts about an `Ok` give a third
pub ok_both : {A E : Type 0} (P Q R : A → Type 0) (r : Result A E) → ((x : A) → P x → Q x → R x) → IfOk r P → IfOk r Q → IfOk r R
ok_both P Q R (Ok x) f p q = f x p q
ok_both P Q R (Err e) f p q = p

pub on_both : {A E P Q R : Type 0} (r : Result A E) → (P → Q → R) → OnOk r P → OnOk r Q → OnOk r R
on_both (Ok x) f p q = f p q
on_both (Err e) f p q = p

-- ---- limits

pub limited_at : (xs : List CodeCommand) (i : ℕ) (x : CodeCommand) → i < length xs → x ≡ get_or xs i x → All IsLimitedCommand (map command_of xs) → IsLimitedCommand (command_of x)
limited_at xs i x l e h =
    All-head IsLimitedCommand (command_of x) (drop (i + 1) (map command_of xs)) (subst (All IsLimitedCommand) (mapped_at command_of xs i x l e) (All-drop IsLimitedCommand i (map command_of xs) h))

pub policy_limited : (p : Policy) (c : Command) (w : InlineWords) → c ≡ command.Inline w → w.callee_size ≡ p.callee_size → w.caller_size ≡ p.caller_size → IsLimitedCommand c → IsLimited p
policy_limited p c w e a b h =
    let k : AreWithin w = subst IsLimitedCommand e h in
    record { callee_size = omega (arith, k.callee_size, a); caller_size = omega (arith, k.caller_size, b) }
