use Rattle.std.proofs.Common.{[], None, refl, sym, ap, subst, arith}
use Rattle.ir_core.specs.Edits.{Body, head_of}
use Rattle.ir_core.specs.Layout.{function_of, Laid}
use Rattle.ir_core.specs.Module.{Function}
use Rattle.ir_core.specs.Sound.{IsSound}
use Rattle.ir_core.proofs.func.Func.drop_body.Goals as goal

sound_head : (f : Function) → IsSound f → IsSound (head_of f)
sound_head f s = record {
  callees = s.callees;
  blocks = tt;
  numbered = refl;
  defined_once = tt;
  block_range = tt;
  blocks_differ = tt;
  small = record { slots = s.small.slots; sigs = s.small.sigs; callees = s.small.callees; values = omega arith; blocks = omega arith; instructions = omega arith };
}

empty_laid : Laid [] [] None None
empty_laid = record {
  linked = refl;
  different = tt;
  full = refl;
  ends = refl;
  short = λ b k e. absurd cc;
  within = λ b k e. absurd cc;
  apart = λ b d k j e. absurd cc;
}

pub invariant_of-self : goal.invariant_of-self
invariant_of-self c = record {
  laid = rw (c.new-2.ensures.items, c.new-3.ensures.items) empty_laid;
  defined = rw (c.new-2.ensures.items, c.new-3.ensures.items) refl;
  sound = subst IsSound (sym (rw (c.new.ensures.items, c.new-2.ensures.items, c.new-3.ensures.items) refl)) (sound_head (function_of c.self.inside) c.self.invariant.sound);
}

pub returns : goal.returns
returns c = rw (c.new.ensures.items, c.new-2.ensures.items, c.new-3.ensures.items) (ap (λ (z : Body). head_of z.function) c.self.view_is)
