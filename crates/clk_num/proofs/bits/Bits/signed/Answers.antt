use Rattle.clk_num.proofs.Numbers.{read_low, read_high}
use Rattle.clk_num.proofs.bits.Bits.signed.Goals as goal

pub returns-then-self-greatest_signed : goal.returns-then-self-greatest_signed
returns-then-self-greatest_signed c = read_low _ _ _ c.greatest_signed.ensures c.if-self-greatest_signed.true

pub returns-else-self-greatest_signed : goal.returns-else-self-greatest_signed
returns-else-self-greatest_signed c = read_high _ _ _ _ c.greatest_signed.ensures c.greatest.ensures c.if-self-greatest_signed.false c.args.self.now.in_range
