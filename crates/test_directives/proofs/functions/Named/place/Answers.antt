use Rattle.std.proofs.Common.{◌≡◌, rules}
use Rattle.test_directives.specs.Names.{names_of, first_place}
use Rattle.test_directives.proofs.Calls.{place_within}
use Rattle.test_directives.proofs.functions.Named.place.Goals as goal

pub returns-clause-within : goal.returns-clause-within
returns-clause-within c =
    let e : c.copied.result ≡ first_place c.args.name.now (names_of c.args.self.now.functions.now) = search rules in
    place_within c.args.name.now c.args.self.now.functions.now c.copied.result e
