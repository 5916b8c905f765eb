use Rattle.std.proofs.Common.{◌≡◌, ◌<◌, ◌∷◌, length, ap, refl, ◌∙◌, arith}
use Rattle.inline_body.proofs.Preparing.{removed}
use Rattle.inline_body.proofs.prepared.PreparedBody.of_parts.Goals as goal

pub returns : goal.returns
returns c =
    let some : 0 < length c.into_vec-block_params.result.items = let e = ap length c.into_vec-block_params.ensures in let r = c.requires in omega (arith, e, r) in
    record {
      slots = refl;
      sigs = refl;
      callees = refl;
      types = refl;
      jump = refl;
      results = refl;
      params = ap (λ z. c.remove-first.result ∷ z) c.from_vec.ensures ∙ (removed c.into_vec-block_params.result.items c.remove-first.new.self.items c.remove-first.result some c.remove-first.ensures.value c.remove-first.ensures.items ∙ c.into_vec-block_params.ensures);
      lines = refl;
    }
