use Rattle.std.proofs.Common.{◌≡◌, length, None, Some, cond, sym, ap, ap₂, ◌∙◌}
use Rattle.std.specs.Prelude.{is_some, nat_eq}
use Rattle.std.proofs.lemmas.List.{length-map}
use Rattle.std.specs.Map.{lookup}
use Rattle.std.specs.BTreeMap.{is_at}
use Rattle.ir_core.specs.declared.names.FuncName.TheVariants as name
use Rattle.ir_core.specs.Named.{function_in, functions_in, name_hash, place_of_hash, compare_texts, compare_users}
use Rattle.ir_core.proofs.Indexing.{text_more, user_more, texts_stay, users_stay}
use Rattle.ir_core.proofs.Firsts.{first_before, place_stays, hash_new, hash_known, none_of, known_in}
use Rattle.ir_core.proofs.index.Names.add.Goals as goal

pub returns-in_ok-insert-in-Text-clause-ok : goal.returns-in_ok-insert-in-Text-clause-ok
returns-in_ok-insert-in-Text-clause-ok c =
    let fs = functions_in c.args.funcs.now in
    let f = c.args.func.now.function in
    let count : length c.args.funcs.now ≡ length fs = sym (length-map c.args.funcs.now function_in) in
    let known : c.contains_key.result ≡ is_some (place_of_hash (name_hash f.name) fs) = known_in c.args.self.now fs f.name c.args.hash c.contains_key.result c.requires.index c.contains_key.ensures c.requires.hash in
    let named : f.name ≡ name.Text c.in-Text.text = sym c.name.ensures.value ∙ c.in-Text.is in
    record {
      places = λ h. c.requires.index.places h ∙ sym (hash_known fs f h (sym known ∙ c.if-contains_key.true));
      texts = λ text h.
          ap (lookup (is_at (compare_texts text))) c.in_ok-insert-in-Text.ensures.entries
          ∙ text_more fs f c.in_ok-text-in-Text.text (length c.args.funcs.now) c.args.self.now.texts.entries (named ∙ ap (λ z. name.Text z) (sym (c.in_ok-text-in-Text.ensures.items ∙ c.as_slice.ensures))) c.requires.new count text (c.requires.index.texts text (first_before (name.Text text) fs f h));
      users = λ first second h.
          c.requires.index.users first second (first_before (name.User first second) fs f h)
          ∙ sym (users_stay fs f c.in-Text.text named first second);
    }

pub returns-in_ok-insert-in-User-clause-ok : goal.returns-in_ok-insert-in-User-clause-ok
returns-in_ok-insert-in-User-clause-ok c =
    let fs = functions_in c.args.funcs.now in
    let f = c.args.func.now.function in
    let count : length c.args.funcs.now ≡ length fs = sym (length-map c.args.funcs.now function_in) in
    let known : c.contains_key.result ≡ is_some (place_of_hash (name_hash f.name) fs) = known_in c.args.self.now fs f.name c.args.hash c.contains_key.result c.requires.index c.contains_key.ensures c.requires.hash in
    let named : f.name ≡ name.User c.in-User.first c.in-User.second = sym c.name.ensures.value ∙ c.in-User.is in
    record {
      places = λ h. c.requires.index.places h ∙ sym (hash_known fs f h (sym known ∙ c.if-contains_key.true));
      texts = λ text h.
          c.requires.index.texts text (first_before (name.Text text) fs f h)
          ∙ sym (texts_stay fs f c.in-User.first c.in-User.second named text);
      users = λ first second h.
          ap (lookup (is_at (compare_users (first, second)))) c.in_ok-insert-in-User.ensures.entries
          ∙ user_more fs f (c.in-User.first, c.in-User.second) (length c.args.funcs.now) c.args.self.now.users.entries named c.requires.new count first second (c.requires.index.users first second (first_before (name.User first second) fs f h));
    }

pub returns-in_ok-insert-clause-ok : goal.returns-in_ok-insert-clause-ok
returns-in_ok-insert-clause-ok c =
    let fs = functions_in c.args.funcs.now in
    let f = c.args.func.now.function in
    let count : length c.args.funcs.now ≡ length fs = sym (length-map c.args.funcs.now function_in) in
    let known : c.contains_key.result ≡ is_some (place_of_hash (name_hash f.name) fs) = known_in c.args.self.now fs f.name c.args.hash c.contains_key.result c.requires.index c.contains_key.ensures c.requires.hash in
    let none : place_of_hash (name_hash f.name) fs ≡ None = none_of (place_of_hash (name_hash f.name) fs) (sym known ∙ c.if-contains_key.false) in
    record {
      places = λ h.
          c.in_ok-insert.ensures.updates.0 h
          ∙ (ap₂ (λ k o. cond (nat_eq k h) (Some (length c.args.funcs.now)) o) c.requires.hash (c.requires.index.places h)
          ∙ sym (hash_new fs f (length c.args.funcs.now) h count none));
      texts = λ text h.
          c.requires.index.texts text (first_before (name.Text text) fs f h)
          ∙ sym (place_stays (name.Text text) fs f none h);
      users = λ first second h.
          c.requires.index.users first second (first_before (name.User first second) fs f h)
          ∙ sym (place_stays (name.User first second) fs f none h);
    }
