use Rattle.std.proofs.Common.{◌≡◌, ◌<◌, ℕ, length, get_or}
use Rattle.ir_core.specs.Sound.{IsSound}
use Rattle.interp.specs.declared.state.Links.{Links}
use Rattle.interp.specs.State.{function_at}
use Rattle.interp.specs.Linking.{LinksOf}
use Rattle.interp.proofs.link.link.Given as goal

abbrev pub invariant-funcs : goal.invariant-funcs
invariant-funcs l = record {
  count : length l.links.items ≡ l.i;
  sound : (k : ℕ) → k < l.i → IsSound (function_at l.module k);
  found : (k : ℕ) (d : Links) → k < l.i → LinksOf l.module (function_at l.module k) (get_or l.links.items k d);
}
