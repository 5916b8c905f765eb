-- The loop over the declarations of a function.
use Rattle.std.proofs.Common.{◌≡◌, ℕ, zero, suc, ◌<◌, true, List, [], ◌∷◌, ◌++◌, length, Ok, Err, refl, sym, ap, ◌∙◌, arith, append_assoc}
use Rattle.grammar.specs.Rules.{Lexeme, Kind, Syntax, UnknownOpcode, Unsupported, Out, heads, ◌>>=◌}
use Rattle.grammar.proofs.Sets.{heads_some}
use Rattle.clif_words.specs.Terminals.{codes_of}
use Rattle.token_reader.specs.declared.stop.Stop.{Stop}
use Rattle.token_reader.specs.declared.stop.Stop.TheVariants as stops
use Rattle.token_reader.specs.Reading.{Stops, each, with_front}
use Rattle.token_reader.proofs.Loops.{Keeps}
use Rattle.clif_read.specs.declared.raw.RawDecl.{RawDecl}
use Rattle.clif_read.specs.Declarations.{begins_decl, decl_at, adding}

-- What the loop keeps: the declarations so far, and what is still read, are what is read in all.
abbrev pub KeepsDecls : List RawDecl → List Lexeme → Out (List RawDecl) → Type 0
KeepsDecls before ts total = Keeps decl_at (codes_of begins_decl) before ts total

-- at most n declarations
abbrev some_decls : ℕ → List Lexeme → Out (List RawDecl)
some_decls n ts = each decl_at (codes_of begins_decl) n ts

-- the declarations behind those before
abbrev behind : ℕ → List RawDecl × List Lexeme → Out (List RawDecl)
behind n x = with_front x.0 (some_decls n x.1)

one_more : (before : List RawDecl) (d : RawDecl) (given : Out (List RawDecl)) → with_front before (given >>= λ y. Ok (d ∷ y.0, y.1)) ≡ with_front (before ++ d ∷ []) given
one_more before d (Ok x) = ap (λ (l : List RawDecl). Ok (l, x.1)) (simp append_assoc)
one_more before d (Err f) = refl

one_by_one : (n : ℕ) (before : List RawDecl) (o : Out RawDecl) → with_front before (o >>= λ x. some_decls n x.1 >>= λ y. Ok (x.0 ∷ y.0, y.1)) ≡ (adding before o >>= behind n)
one_by_one n before (Ok x) = one_more before x.0 (some_decls n x.1)
one_by_one n before (Err e) = refl

pub goes_on : (before now : List RawDecl) (ts after : List Lexeme) (total : Out (List RawDecl))
    → heads (codes_of begins_decl) ts ≡ true → adding before (decl_at ts) ≡ Ok (now, after) → length after < length ts
    → KeepsDecls before ts total → KeepsDecls now after total
unfolding each
goes_on before now ts after total h e less (zero, le, so_far) = absurd (let k = heads_some (codes_of begins_decl) ts h in omega arith)
goes_on before now ts after total h e less (suc n, le, so_far) =
    let one : with_front before (some_decls (suc n) ts) ≡ with_front now (some_decls n after) = rw h (one_by_one n before (decl_at ts) ∙ ap (λ o. o >>= behind n) e) in
    (n, omega arith, sym one ∙ so_far)

fails_as : (before : List RawDecl) (ts now : List Lexeme) (k : Kind) (total : Out (List RawDecl))
    → heads (codes_of begins_decl) ts ≡ true → adding before (decl_at ts) ≡ Err (k, now) → KeepsDecls before ts total → total ≡ Err (k, now)
unfolding each
fails_as before ts now k total h e (zero, le, so_far) = absurd (let s = heads_some (codes_of begins_decl) ts h in omega arith)
fails_as before ts now k total h e (suc n, le, so_far) =
    let one : with_front before (some_decls (suc n) ts) ≡ Err (k, now) = rw h (one_by_one n before (decl_at ts) ∙ ap (λ o. o >>= behind n) e) in
    sym so_far ∙ one

pub fails : (before : List RawDecl) (ts now : List Lexeme) (stop : Stop) (total : Out (List RawDecl))
    → heads (codes_of begins_decl) ts ≡ true → Stops now stop (adding before (decl_at ts)) → KeepsDecls before ts total → Stops now stop total
fails before ts now stops.NoMemory total h e k = tt
fails before ts now stops.Syntax total h e k = fails_as before ts now Syntax total h e k
fails before ts now stops.UnknownOpcode total h e k = fails_as before ts now UnknownOpcode total h e k
fails before ts now stops.Unsupported total h e k = fails_as before ts now Unsupported total h e k
