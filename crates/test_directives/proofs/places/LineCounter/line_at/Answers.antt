use Rattle.std.proofs.Common.{◌≡◌, ℕ, ◌+◌, ◌-◌, ◌≤◌, List, length, take, drop, subst, sym, ap, ◌∙◌, arith}
use Rattle.clif_lex.specs.Places.{line_at}
use Rattle.test_directives.specs.Placing.{line_feeds, Counted}
use Rattle.test_directives.proofs.TokenSteps.{line_on}
use Rattle.test_directives.proofs.places.LineCounter.line_at.Goals as goal

on : (text : List ℕ) (at spot line count : ℕ) → at ≤ spot → line ≡ line_at text at → count ≡ line_feeds (take (spot - at) (drop at text)) → line + count ≡ line_at text spot
on text at spot line count le e more = let h = line_on text at spot le in omega (arith, h, e, more)

pub invariant_of-self : goal.invariant_of-self
invariant_of-self c =
    let le : c.self.inside.at ≤ c.args.spot = subst (λ (v : Counted). v.at ≤ c.args.spot) (sym c.self.view_is) c.requires.forward in
    let within : c.args.spot ≤ length c.self.inside.text.now = subst (λ (v : Counted). c.args.spot ≤ length v.text) (sym c.self.view_is) c.requires.within in
    record {
      short = c.self.invariant.short;
      within = within;
      counted = on c.self.inside.text.now c.self.inside.at c.args.spot c.self.inside.line c.line_feeds.result le c.self.invariant.counted c.line_feeds.ensures.count;
    }

pub returns-clause-line : goal.returns-clause-line
returns-clause-line c =
    let le : c.self.inside.at ≤ c.args.spot = subst (λ (v : Counted). v.at ≤ c.args.spot) (sym c.self.view_is) c.requires.forward in
    on c.self.inside.text.now c.self.inside.at c.args.spot c.self.inside.line c.line_feeds.result le c.self.invariant.counted c.line_feeds.ensures.count
    ∙ ap (λ (v : Counted). line_at v.text c.args.spot) c.self.view_is
