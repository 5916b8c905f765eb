use Rattle.std.proofs.Common.{◌<◌, ◌≤◌, length, arith}
use Rattle.ir_core.specs.declared.declarations.Callee.{Callee}
use Rattle.ir_semantics.specs.Names.{names, address_of}
use Rattle.interp_run.proofs.Addressing.{past_rows, past_callees, the_callee}
use Rattle.interp_run.proofs.addresses.address_of_callee.Goals as goal

pub returns-then-at-len : goal.returns-then-at-len
returns-then-at-len c =
    let m = c.args.program.now.module.now in
    let all = c.args.addresses.now.callees in
    let past : length all.items ≤ c.args.at = omega (arith, all.ok.0) in
    past_rows m (names m) all.items c.args.at c.args.callee (λ (k : Callee). address_of (names m) k.name) c.requires.addressed.callees past

pub returns-then-number-len : goal.returns-then-number-len
returns-then-number-len c =
    let m = c.args.program.now.module.now in
    let all = c.args.addresses.now.callees in
    let row = c.index-found.result.now in
    let there : c.args.at < length all.items = omega (arith, all.ok.0) in
    let past : length row.addresses.items ≤ c.number-number.result = omega (arith, row.addresses.ok.0) in
    past_callees m (names m) all.items c.args.at c.args.callee c.number-number.result row row c.requires.addressed.callees there c.index-found.ensures c.number-number.ensures past

pub returns : goal.returns
returns c =
    let m = c.args.program.now.module.now in
    let all = c.args.addresses.now.callees in
    let row = c.index-found.result.now in
    let there : c.args.at < length all.items = omega (arith, all.ok.0) in
    let within : c.number-number.result < length row.addresses.items = omega (arith, row.addresses.ok.0) in
    the_callee m (names m) all.items c.args.at c.args.callee c.number-number.result row row c.index.result.now c.index.result.now c.requires.addressed.callees there c.index-found.ensures c.number-number.ensures within c.index.ensures
