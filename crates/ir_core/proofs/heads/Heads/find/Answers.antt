use Rattle.std.proofs.Common.{◌≡◌, ◌<◌, ℕ, List, length, Some, None, refl, sym, ap, ◌∙◌, arith}
use Rattle.std.specs.Prelude.{slice_get}
use Rattle.std.proofs.lemmas.List.{length-map}
use Rattle.std.proofs.lemmas.Option.{slice_get_read}
use Rattle.ir_core.specs.declared.names.FuncName.{FuncName}
use Rattle.ir_core.specs.Edits.{Body}
use Rattle.ir_core.specs.Lookup.{find_function}
use Rattle.ir_core.specs.Named.{function_in, functions_in, place_of}
use Rattle.ir_core.proofs.Indexing.{place_cases}
use Rattle.ir_core.proofs.heads.Heads.find.Goals as goal
use Rattle.ir_core.proofs.Gets.{get_mapped}

pub returns-in_err-place : goal.returns-in_err-place
returns-in_err-place c =
    let fs = functions_in c.self.inside.funcs.items in
    let none : find_function c.args.name.now fs ≡ None = place_cases c.args.name.now fs None (c.in_err-place.ensures ∙ ap (λ xs. place_of c.args.name.now (functions_in xs)) c.as_slice.ensures.value) in
    rw (c.from_residual.ensures) (ap (find_function c.args.name.now) (sym c.self.view_is) ∙ none)

found : (n : FuncName) (xs ys : List Body) (k : ℕ) → Some k ≡ place_of n (functions_in ys) → ys ≡ xs → (k < length xs) × (find_function n (functions_in xs) ≡ slice_get (functions_in xs) k)
found n xs ys k e same =
    let at = place_cases n (functions_in xs) (Some k) (e ∙ ap (λ zs. place_of n (functions_in zs)) same) in
    (omega (arith, at.0, length-map xs function_in), at.1)

pub index-requires : goal.index-requires
index-requires c = omega (arith, (found c.args.name.now c.self.inside.funcs.items c.as_slice.result.now c.in_ok-place.place c.in_ok-place.ensures c.as_slice.ensures.value).0, c.as_slice.ensures.len, ap length c.as_slice.ensures.value)

pub returns : goal.returns
returns c =
    let xs = c.self.inside.funcs.items in
    let at = found c.args.name.now xs c.as_slice.result.now c.in_ok-place.place c.in_ok-place.ensures c.as_slice.ensures.value in
    let there = get_mapped function_in xs c.in_ok-place.place c.index.result.now (slice_get_read xs (length xs) c.in_ok-place.place c.index.result.now refl at.0 c.index.ensures) in
    ap (find_function c.args.name.now) (sym c.self.view_is) ∙ (at.1 ∙ (there ∙ ap (λ f. Some (function_in f)) (sym c.get.ensures)))
