use Rattle.std.proofs.Common.{refl}
use Rattle.std.proofs.lemmas.Result.{IfOk-weaker, on_ok_weaker}
use Rattle.clif_names.proofs.NameSetLaws.{new_text, adds_text, new_user, adds_user}
use Rattle.clif_names.proofs.repeated.NameSet.insert.Goals as goal

pub returns-in_ok-is_new-in-Text-clause-added : goal.returns-in_ok-is_new-in-Text-clause-added
returns-in_ok-is_new-in-Text-clause-added c =
    rw c.in-Text.is (new_text c.args.self.now c.as_slice.result c.in-Text.name c.in-Text.spot c.in_ok-is_new-in-Text.is_new c.as_slice.ensures c.in_ok-is_new-in-Text.ensures.added)

pub returns-in_ok-is_new-in-Text-clause-names : goal.returns-in_ok-is_new-in-Text-clause-names
returns-in_ok-is_new-in-Text-clause-names c =
    rw c.in-Text.is (adds_text c.args.self.now _ c.as_slice.result c.in-Text.name c.in-Text.spot c.as_slice.ensures c.in_ok-is_new-in-Text.ensures.keys refl)

pub returns-in-User-clause-added : goal.returns-in-User-clause-added
returns-in-User-clause-added c =
    rw c.in-User.is (IfOk-weaker c.insert_user.result _ _ (λ is_new added. new_user c.args.self.now c.in-User.space c.in-User.number is_new added) c.insert_user.ensures.added)

pub returns-in-User-clause-names : goal.returns-in-User-clause-names
returns-in-User-clause-names c =
    rw c.in-User.is (on_ok_weaker c.insert_user.result (λ added. adds_user c.args.self.now (record { texts = c.args.self.now.texts; users = c.insert_user.new.users }) c.in-User.space c.in-User.number added refl) c.insert_user.ensures.keys)
