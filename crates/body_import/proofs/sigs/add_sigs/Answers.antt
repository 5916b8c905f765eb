use Rattle.std.proofs.Common.{ℕ, List, sym, subst, append-nil, arith}
use Rattle.body_import.specs.Keys.{Knows}
use Rattle.body_import.specs.SigKeys.{sig_key}
use Rattle.body_import.proofs.Extended.{more_known}
use Rattle.body_import.proofs.sigs.add_sigs.Goals as goal

pub loop-sig-init : goal.loop-sig-init
loop-sig-init c = (λ keys knows count. subst (λ (z : List (List ℕ)). Knows 0 z c.args.places.now) (sym (append-nil keys)) knows, omega arith)

pub loop-sig-preserved : goal.loop-sig-preserved
loop-sig-preserved c = (
  λ keys knows count.
      more_known sig_key keys c.args.sigs.now c.loop-sig.sig-index c.sig-item.result c.in_ok-sig_key.field-0.items c.args.count c.loop-sig.place c.loop-sig.places c.put.new.self c.loop-sig-test.true c.sig-item.is c.in_ok-sig_key.ensures count c.loop-sig.invariant.1 c.in_ok-put.ensures (c.loop-sig.invariant.0 keys knows count),
  let q = c.loop-sig.invariant.1 in omega (arith, q),
)
