use Rattle.std.proofs.Common.{◌≡◌, ◌∙◌, ap, sym, subst, ◌<◌, ◌^◌, ◌*◌, ◌%◌, [], ◌∷◌, arith, rules, ℕ, to_z-of_z}
use Rattle.std.specs.Prelude.{Some}
use Rattle.clk_num.specs.declared.op.Op.TheVariants.{Uextend}
use Rattle.clk_num.specs.declared.width.Width.{Width}
use Rattle.clk_num.specs.Width.{bits_of}
use Rattle.clk_num.specs.Operations.{operation}
use Rattle.clk_num.specs.Views.{data_of}
use Rattle.ir_core.specs.declared.instructions.Access.TheVariants.{Uload}
use Rattle.ir_semantics.specs.Values.{memory_read, address_at}
use Rattle.byte_store.specs.Bytes.{number_by}
use Rattle.interp.specs.State.{env_of, world_of}
use Rattle.interp.proofs.Fitting.{sizes, at_most, zero_extended, read_is}
use Rattle.interp.proofs.accesses.load_by_zeros.Goals as goal

pub read-requires : goal.read-requires
read-requires c = let f = at_most c.args.bytes c.args.ty c.requires in omega (arith, f, c.from.ensures)

pub returns-in_ok-moved-in-Ok : goal.returns-in_ok-moved-in-Ok
returns-in_ok-moved-in-Ok c =
    let eb : Some (data_of c.in-Some.base) ≡ env_of c.args.frame.now.values c.args.address = search rules in
    let en : Some c.in-Ok.number ≡ number_by c.args.flags.big (memory_read c.args.world.now.memory (address_at c.in-Some.base.value c.args.offset) c.args.bytes) =
    c.in-Ok.ensures.read ∙ (ap (λ a. number_by c.args.flags.big (memory_read c.args.world.now.memory a c.from.result)) c.address_of.ensures ∙ (ap (λ z. number_by c.args.flags.big (memory_read c.args.world.now.memory (address_at c.in-Some.base.value z) c.from.result)) (to_z-of_z c.ranges.offset) ∙ ap (λ n. number_by c.args.flags.big (memory_read c.args.world.now.memory (address_at c.in-Some.base.value c.args.offset) n)) c.from.ensures)) in
    let ew : bits_of c.new-narrow.result.width ≡ 8 * c.args.bytes = ap bits_of c.new-narrow.ensures.width ∙ c.narrow_width.ensures (sizes c.args.bytes c.args.ty c.requires) in
    let small : c.in-Ok.number < 2 ^ (8 * c.args.bytes) = subst (λ (n : ℕ). c.in-Ok.number < 2 ^ (8 * n)) c.from.ensures c.in-Ok.ensures.small in
    let ex : c.new-narrow.result.value ≡ c.in-Ok.number % 2 ^ bits_of c.new-narrow.result.width = c.new-narrow.ensures.value ∙ ap (λ (w : Width). c.in-Ok.number % 2 ^ bits_of w) (sym c.new-narrow.ensures.width) in
    λ m below. c.in_ok-moved-in-Ok.ensures m below (world_of c.args.world.now)
    ∙ read_is m c.args.frame.now below (world_of c.args.world.now) c.args.line.now (Uload c.args.ty c.args.bytes) c.args.flags c.args.address c.args.offset (data_of c.in-Some.base) c.in-Ok.number (operation (Uextend c.width.result) (data_of c.new-narrow.result ∷ [])) eb en
    (zero_extended c.args.bytes c.in-Ok.number c.args.ty c.width.result (data_of c.new-narrow.result) c.requires c.width.ensures ew small ex)
