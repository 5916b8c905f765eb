-- Sites and sizes of a module that were counted by hand, and what `gen` writes of a module of one function.
use Rattle.std.proofs.Common.{◌≡◌, [], ◌∷◌, Bool, true, false, codes, refl}
use Rattle.std.specs.Fmt.{digits}
use Rattle.clk_num.specs.Numbers.{signed}
use Rattle.gen_mod.specs.Generated.{function, functions_from}
use Rattle.gen_mod.specs.Shapes.{adding, calling_two, choosing, trying}
use Rattle.ir_core.specs.Module.{Module}
use Rattle.ir_core.specs.Size.{size_of, total}
use Rattle.settings.specs.Settings.{GenSettings}
use Rattle.clifinl.specs.GenCommand.{gen_text, sites_in}

abbrev chain : Module
chain = adding 0 5 ∷ calling_two 1 0 0 ∷ trying 2 1 ∷ choosing 3 7 2 ∷ []

-- two calls in a block, a `try_call`, and of two calls in branches the one whose callee is no host function
sites : sites_in chain ≡ 4
unfolding digits
sites = refl

sizes : total size_of chain ≡ 73
sizes = refl

-- a callee that is not there makes no site
others : sites_in (calling_two 1 0 0 ∷ []) ≡ 0
unfolding digits
others = refl

abbrev one : Bool → GenSettings
one text = record { number = 1; functions = 1; text = text; pass = record { callee_size = 64; caller_size = 4096; workers = 4 } }

numbers : gen_text (one false) ≡ codes "functions 1\nsites 0\ninlined 0\nsize before 10\nsize after 10\nsteps 1\n"
unfolding function functions_from digits
numbers = refl

text : gen_text (one true)
    ≡ codes "function %g0(i64) -> i64 fast {\nblock0(v0: i64):\n    v1 = iconst.i64 774\n    v2 = iadd v0, v1\n    return v2\n}\n"
unfolding function functions_from digits signed
text = refl
