use Rattle.std.proofs.Common.{◌≡◌, ◌<◌, length, Some, true, false, sym, ap, ◌∙◌, arith}
use Rattle.ir_core.specs.declared.names.FuncName.TheVariants as name
use Rattle.ir_core.specs.Named.{name_hash, place_of, place_of_hash, is_first, functions_in}
use Rattle.ir_core.proofs.Firsts.{no_hash, first_place, place_within, is_first_by, place_in}
use Rattle.ir_core.proofs.index.Names.find.Goals as goal

pub returns-in_err-place : goal.returns-in_err-place
returns-in_err-place c =
    let none = sym (place_in c.args.self.now (functions_in c.args.funcs.now) c.args.name.now c.args.hash c.copied.result c.requires.index (c.copied.ensures ∙ c.get.ensures.value) c.requires.hash) ∙ c.in_err-place.was in
    c.from_residual.ensures ∙ sym (no_hash c.args.name.now 0 (functions_in c.args.funcs.now) none)

pub bounds-funcs-place : goal.bounds-funcs-place
bounds-funcs-place c =
    let e = sym c.in_ok-place.was ∙ place_in c.args.self.now (functions_in c.args.funcs.now) c.args.name.now c.args.hash c.copied.result c.requires.index (c.copied.ensures ∙ c.get.ensures.value) c.requires.hash in
    omega (arith, place_within c.args.name.now c.in_ok-place.place c.args.funcs.now e)

pub offset_bounds-funcs-place : goal.offset_bounds-funcs-place
offset_bounds-funcs-place c =
    let within : c.in_ok-place.place < length c.args.funcs.now = bounds-funcs-place c in
    omega (arith, within)

pub returns-then-is : goal.returns-then-is
returns-then-is c =
    let e : Some c.in_ok-place.place ≡ place_of_hash (name_hash c.args.name.now) (functions_in c.args.funcs.now) = sym c.in_ok-place.was ∙ place_in c.args.self.now (functions_in c.args.funcs.now) c.args.name.now c.args.hash c.copied.result c.requires.index (c.copied.ensures ∙ c.get.ensures.value) c.requires.hash in
    let first : is_first c.args.name.now (functions_in c.args.funcs.now) ≡ true = is_first_by c.args.name.now c.in_ok-place.place c.args.funcs.now c.index-funcs-place.result c.name.result.now c.is.result e c.index-funcs-place.is (c.name.ensures.value ∙ ap (λ f. f.function.name) c.get-2.ensures) c.is.ensures ∙ c.if-is.true in
    e ∙ first_place c.args.name.now 0 (functions_in c.args.funcs.now) first

pub returns-in-Text : goal.returns-in-Text
returns-in-Text c =
    let e : Some c.in_ok-place.place ≡ place_of_hash (name_hash c.args.name.now) (functions_in c.args.funcs.now) = sym c.in_ok-place.was ∙ place_in c.args.self.now (functions_in c.args.funcs.now) c.args.name.now c.args.hash c.copied.result c.requires.index (c.copied.ensures ∙ c.get.ensures.value) c.requires.hash in
    let other : is_first c.args.name.now (functions_in c.args.funcs.now) ≡ false = is_first_by c.args.name.now c.in_ok-place.place c.args.funcs.now c.index-funcs-place.result c.name.result.now c.is.result e c.index-funcs-place.is (c.name.ensures.value ∙ ap (λ f. f.function.name) c.get-2.ensures) c.is.ensures ∙ c.if-is.false in
    let named : c.args.name.now ≡ name.Text c.as_slice.result.now = c.in-Text.is ∙ ap (λ z. name.Text z) (sym c.as_slice.ensures) in
    c.copied-in-Text.ensures
    ∙ (c.get-in-Text.ensures.value
    ∙ (c.requires.index.texts c.as_slice.result.now (ap (λ z. is_first z (functions_in c.args.funcs.now)) (sym named) ∙ other)
    ∙ ap (λ z. place_of z (functions_in c.args.funcs.now)) (sym named)))

pub returns-in-User : goal.returns-in-User
returns-in-User c =
    let e : Some c.in_ok-place.place ≡ place_of_hash (name_hash c.args.name.now) (functions_in c.args.funcs.now) = sym c.in_ok-place.was ∙ place_in c.args.self.now (functions_in c.args.funcs.now) c.args.name.now c.args.hash c.copied.result c.requires.index (c.copied.ensures ∙ c.get.ensures.value) c.requires.hash in
    let other : is_first c.args.name.now (functions_in c.args.funcs.now) ≡ false = is_first_by c.args.name.now c.in_ok-place.place c.args.funcs.now c.index-funcs-place.result c.name.result.now c.is.result e c.index-funcs-place.is (c.name.ensures.value ∙ ap (λ f. f.function.name) c.get-2.ensures) c.is.ensures ∙ c.if-is.false in
    c.copied-in-User.ensures
    ∙ (c.get-in-User.ensures.value
    ∙ (c.requires.index.users c.in-User.first c.in-User.second (ap (λ z. is_first z (functions_in c.args.funcs.now)) (sym c.in-User.is) ∙ other)
    ∙ ap (λ z. place_of z (functions_in c.args.funcs.now)) (sym c.in-User.is)))
