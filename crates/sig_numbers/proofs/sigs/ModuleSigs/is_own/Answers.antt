use Rattle.std.proofs.Common.{Some, sym, ap, ◌∙◌, arith}
use Rattle.ir_core.proofs.Gets.{get_some}
use Rattle.sig_numbers.specs.declared.tables.SigEntry.{SigEntry}
use Rattle.sig_numbers.specs.Known.{module_of}
use Rattle.sig_numbers.proofs.Tabled.{same_by_number, number_read, entries_long, table_at}
use Rattle.sig_numbers.proofs.sigs.ModuleSigs.is_own.Goals as goal

pub index-requires : goal.index-requires
index-requires c =
    let there = get_some c.args.self.now c.args.i c.requires.caller in
    let low = c.requires.there there.0 there.1 in
    let table = table_at (module_of c.self.inside) c.args.self.now c.self.inside.tables.items c.self.invariant c.self.view_is c.args.i c.requires.caller c.index-caller.result.now c.index-caller.ensures there.0 there.1 in
    let long = entries_long c.self.invariant.number there.0 c.index-caller.result.now.entries.items table.entries in
    let len = c.index-caller.result.now.entries.ok.0 in
    let n = c.number.ensures in
    omega (arith, low, long, len, n)

pub returns : goal.returns
returns c = λ f g s p q r.
    let number = c.self.invariant.number in
    let caller = table_at (module_of c.self.inside) c.args.self.now c.self.inside.tables.items c.self.invariant c.self.view_is c.args.i c.requires.caller c.index-caller.result.now c.index-caller.ensures f p in
    let callee = table_at (module_of c.self.inside) c.args.self.now c.self.inside.tables.items c.self.invariant c.self.view_is c.args.callee c.requires.callee c.index-2.result.now c.index-2.ensures g q in
    same_by_number number c.self.invariant.tells s g.sig c.index.result.now.number c.index-2.result.now.own (number_read number f c.index-caller.result.now.entries.items caller.entries c.args.sig c.number.result c.index.result.now s r c.number.ensures ∙ ap (λ (e : SigEntry). Some e.number) (sym c.index.ensures)) callee.own
