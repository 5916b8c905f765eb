use Rattle.std.proofs.Common.{◌≡◌, ◌∙◌, ◌+◌, ◌-◌, ◌*◌, ◌/◌, ◌%◌, ◌<◌, length, arith, sym, ap}
use Rattle.std.proofs.lemmas.List.{length-map}
use Rattle.ir_semantics.specs.Names.{address}
use Rattle.func_addrs.specs.declared.mentions.Mention.{Mention}
use Rattle.func_addrs.specs.Mentions.{names_of}
use Rattle.func_addrs.proofs.Finding.{name_there, name_nowhere}
use Rattle.func_addrs.proofs.addresses.FuncAddrs.place.Goals as goal

pub returns-then-address-first : goal.returns-then-address-first
returns-then-address-first c =
    let low = c.if-address-first.true in
    name_nowhere 0 (names_of c.args.self.now.names.items) c.args.address (λ k lt e. omega (arith, low, e))

pub returns-then-offset-ne0 : goal.returns-then-offset-ne0
returns-then-offset-ne0 c =
    let odd = c.if-offset-ne0.true in
    name_nowhere 0 (names_of c.args.self.now.names.items) c.args.address (λ k lt e. omega (arith, odd, e))

pub returns-then-place-len : goal.returns-then-place-len
returns-then-place-len c =
    let past = c.if-place-len.true in
    let count = length-map c.args.self.now.names.items (λ (m : Mention). m.name.now) in
    let few = c.len.ensures in
    name_nowhere 0 (names_of c.args.self.now.names.items) c.args.address (λ k lt e. omega (arith, past, e, count, few))

pub returns : goal.returns
returns c =
    let within = c.if-place-len.false in
    let even = c.if-offset-ne0.false in
    let high = c.if-address-first.false in
    let few = c.len.ensures in
    let k = (c.args.address - 4294967296) / 16 in
    let count = length-map c.args.self.now.names.items (λ (m : Mention). m.name.now) in
    let lt : k < length c.args.self.now.names.items = omega arith in
    (lt, name_there 0 (names_of c.args.self.now.names.items) k c.args.address (omega arith) (omega arith))
