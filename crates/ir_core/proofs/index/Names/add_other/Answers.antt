use Rattle.std.proofs.Common.{◌≡◌, length, None, Some, cond, sym, ap, ap₂, ◌∙◌, nat_eq}
use Rattle.std.specs.Prelude.{is_none}
use Rattle.std.proofs.lemmas.List.{length-map}
use Rattle.ir_core.specs.Named.{function_in, functions_in, name_hash, place_of, place_of_hash}
use Rattle.ir_core.specs.declared.names.FuncName.TheVariants as name
use Rattle.ir_core.proofs.Firsts.{hash_new, no_hash, place_stays, first_before}
use Rattle.ir_core.proofs.Apart.{not_met}
use Rattle.ir_core.proofs.index.Names.add_other.Goals as goal
use Rattle.ir_core.proofs.index.Names.add_other.Goals.{In_default}

named : (c : In_default) → c.hash-hash.result ≡ name_hash c.args.func.now.function.name
named c = c.hash-hash.ensures ∙ ap name_hash c.name.ensures.value

new : (c : In_default) → place_of_hash (name_hash c.args.func.now.function.name) (functions_in c.args.funcs.now) ≡ None
new c =
    ap (λ h. place_of_hash h (functions_in c.args.funcs.now)) (sym (named c))
    ∙ (sym (c.requires.index.places c.hash-hash.result) ∙ (sym c.in_ok-first.ensures.old ∙ c.in_default.is))

pub returns-in_default-clause-cases : goal.returns-in_default-clause-cases
returns-in_default-clause-cases c =
    sym (ap is_none (no_hash c.args.func.now.function.name 0 (functions_in c.args.funcs.now) (new c)))

pub add-requires-clause-new : goal.add-requires-clause-new
add-requires-clause-new c =
    let before = functions_in c.args.funcs.now in
    not_met c.args.func.now.function.name before c.find.result (c.find.ensures ∙ ap (λ n. place_of n before) c.name-2.ensures.value) (sym c.is_some.ensures ∙ c.if-is_some.false)

pub returns-in_default-clause-added : goal.returns-in_default-clause-added
returns-in_default-clause-added c t =
    let fs = functions_in c.args.funcs.now in
    let f = c.args.func.now.function in
    let count : length c.args.funcs.now ≡ length fs = sym (length-map c.args.funcs.now function_in) in
    record {
      places = λ h.
          c.in_ok-first.ensures.updates.0 h
          ∙ (ap₂ (λ k o. cond (nat_eq k h) (Some (length c.args.funcs.now)) o) (named c) (c.requires.index.places h)
          ∙ sym (hash_new fs f (length c.args.funcs.now) h count (new c)));
      texts = λ text h.
          c.requires.index.texts text (first_before (name.Text text) fs f h)
          ∙ sym (place_stays (name.Text text) fs f (new c) h);
      users = λ first second h.
          c.requires.index.users first second (first_before (name.User first second) fs f h)
          ∙ sym (place_stays (name.User first second) fs f (new c) h);
    }
