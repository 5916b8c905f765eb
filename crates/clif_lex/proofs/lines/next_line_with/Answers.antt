use Rattle.std.proofs.Common.{◌≡◌, ◌<◌, ◌≤◌, ◌+◌, ◌-◌, ℕ, true, false, ◌⊎◌, nat_eq, List, drop, length, slice_index, sym, ap, subst, ◌∙◌, arith, inr}
use Rattle.std.proofs.lemmas.Bool.{eqb-true}
use Rattle.std.proofs.lemmas.List.{length-drop}
use Rattle.memchr.specs.Find.{Nowhere, OccursAt}
use Rattle.clif_lex.specs.Bytes.{line_feed}
use Rattle.clif_lex.proofs.LineStarts.{NoLine, none_between, none_more, goes_on_with}
use Rattle.clif_lex.proofs.lines.next_line_with.Goals as goal

pub returns-in_default-clause-none_before : goal.returns-in_default-clause-none_before
returns-in_default-clause-none_before c =
    let text = c.args.text.now in
    let word = c.args.word.now in
    let at = c.words.at in
    let n : ℕ = length text - at in
    let all : Nowhere (OccursAt (drop (at + 1) text) word) 0 (length (drop (at + 1) text) + 1) = subst (λ (w : List ℕ). Nowhere (OccursAt (drop (at + 1) text) w) 0 (length (drop (at + 1) text) + 1)) c.new-finder.ensures (subst (λ (rest : List ℕ). Nowhere (OccursAt rest c.new-finder.result) 0 (length rest + 1)) c.split_at.ensures.back c.in_default.ensures) in
    let none : Nowhere (OccursAt (drop (at + 1) text) word) 0 n = λ k low high. all k low (omega (arith, high, length-drop (at + 1) text)) in
    λ k above below line.
    none_between text word c.args.from at n c.words.invariant.none none (omega (arith, c.words.invariant.within)) k above (omega (arith, below, c.words.invariant.within)) line

pub returns-then-text-at-eq10-clause-there : goal.returns-then-text-at-eq10-clause-there
returns-then-text-at-eq10-clause-there c =
    let text = c.args.text.now in
    let word = c.args.word.now in
    let at = c.words.at in
    let n = c.in-Some.length in
    let occurs : OccursAt (drop (at + 1) text) word n = subst (λ (w : List ℕ). OccursAt (drop (at + 1) text) w n) c.new-finder.ensures (subst (λ (rest : List ℕ). OccursAt rest c.new-finder.result n) c.split_at.ensures.back c.in-Some.ensures.1) in
    inr (omega (arith, c.words.invariant.behind), (inr (omega arith, c.if-text-at-eq10.true), goes_on_with text word at n occurs))

pub returns-then-text-at-eq10-clause-none_before : goal.returns-then-text-at-eq10-clause-none_before
returns-then-text-at-eq10-clause-none_before c =
    let text = c.args.text.now in
    let word = c.args.word.now in
    let at = c.words.at in
    let n = c.in-Some.length in
    let none : Nowhere (OccursAt (drop (at + 1) text) word) 0 n = subst (λ (w : List ℕ). Nowhere (OccursAt (drop (at + 1) text) w) 0 n) c.new-finder.ensures (subst (λ (rest : List ℕ). Nowhere (OccursAt rest c.new-finder.result) 0 n) c.split_at.ensures.back c.in-Some.ensures.0.before) in
    let high : n < length (drop (at + 1) text) + 1 = subst (λ (rest : List ℕ). n < length rest + 1) c.split_at.ensures.back c.in-Some.ensures.0.high in
    λ k above below line.
    none_between text word c.args.from at n c.words.invariant.none none (omega (arith, high, c.words-test.true, length-drop (at + 1) text)) k above (omega (arith, below)) line

pub words-preserved : goal.words-preserved
words-preserved c =
    let text = c.args.text.now in
    let word = c.args.word.now in
    let at = c.words.at in
    let n = c.in-Some.length in
    let none : Nowhere (OccursAt (drop (at + 1) text) word) 0 n = subst (λ (w : List ℕ). Nowhere (OccursAt (drop (at + 1) text) w) 0 n) c.new-finder.ensures (subst (λ (rest : List ℕ). Nowhere (OccursAt rest c.new-finder.result) 0 n) c.split_at.ensures.back c.in-Some.ensures.0.before) in
    let high : n < length (drop (at + 1) text) + 1 = subst (λ (rest : List ℕ). n < length rest + 1) c.split_at.ensures.back c.in-Some.ensures.0.high in
    let within : at + n + 1 ≤ length text = omega (arith, high, c.words-test.true, length-drop (at + 1) text) in
    let e : at + (n + 1) - 1 ≡ at + n = omega arith in
    let last : at + n + 1 ≡ at + (n + 1) = omega arith in
    let before : NoLine text word c.args.from (at + n) = none_between text word c.args.from at n c.words.invariant.none none (omega (arith, within)) in
    record {
      behind = omega (arith, c.words.invariant.behind);
      within = omega (arith, within);
      none = subst (NoLine text word c.args.from) last
          (none_more text word c.args.from (at + n) before (λ feed. c.if-text-at-eq10.false (ap (slice_index text) e ∙ feed)));
    }
