-- A text is accepted where of its functions, which keep their own rules, parts stay that differ in their names and whose
-- callee declarations state the signatures of the functions that they name.
use Rattle.std.proofs.Common.{◌≡◌, ◌≤◌, ℕ, List, [], ◌∷◌, length, map, refl, sym, ap, subst, ◌∙◌}
use Rattle.std.proofs.lemmas.List.{length-map, map-id}
use Rattle.ir_core.specs.Edits.{Body, head_of}
use Rattle.ir_core.specs.Lists.{Each}
use Rattle.ir_core.specs.Module.{Function, Module}
use Rattle.ir_core.specs.Sound.{IsWhole}
use Rattle.ir_core.specs.WellFormed.{DifferentNames}
use Rattle.clif_names.specs.Sizes.{most_functions}
use Rattle.clif_check.specs.declared.parts.Part.{Part}
use Rattle.clif_check.specs.declared.parts.Part.TheVariants as part
use Rattle.clif_check.specs.Declarations.{DeclareWithin}
use Rattle.clif_check.specs.Faults.{IsAccepted}
use Rattle.clif_check.specs.Heads.{IsAcceptedHeads}
use Rattle.clif_check.specs.Stretches.{KeptOfText, part_of}
use Rattle.clif_check.proofs.HeadLaws.{accepted_by_functions, accepted_by_heads, heads_differ}
use Rattle.clif_check.proofs.MeantLaws.{module_read}

-- ---- parts of functions

-- as many functions as parts, which are few
as_few : (p : Part) (fs : List Function) (kept : List Body) → map (λ (b : Body). b.function) kept ≡ map (part_of p) fs → length kept ≤ most_functions → length fs ≤ most_functions
as_few p fs kept parts few =
    subst (λ (n : ℕ). n ≤ most_functions) (sym (length-map kept (λ (b : Body). b.function)) ∙ (ap length parts ∙ length-map fs (part_of p))) few

each_body : (bs : List Body) → Each IsWhole (map (λ (b : Body). b.function) bs) → Each (λ (b : Body). IsWhole b.function) bs
each_body [] all = tt
each_body (b ∷ bs) all = (all.0, each_body bs all.1)

twice_headed : (m : Module) → map head_of (map head_of m) ≡ map head_of m
twice_headed [] = refl
twice_headed (f ∷ m) = ap (λ (fs : List Function). head_of f ∷ fs) (twice_headed m)

-- ---- all of each function

pub kept_are_whole : (text : List ℕ) (kept : List Body) → KeptOfText part.Whole text kept → Each (λ (b : Body). IsWhole b.function) kept
kept_are_whole text kept (raw, is, (fs, meant, parts)) = each_body kept (subst (Each IsWhole) (sym (parts ∙ map-id fs)) meant.whole)

pub functions_accepted : (text : List ℕ) (kept : List Body) (m : Module) → KeptOfText part.Whole text kept → length kept ≤ most_functions
    → m ≡ map (λ (b : Body). b.function) kept → DifferentNames m → DeclareWithin m 0 (length m) → IsAccepted text m
functions_accepted text kept m (raw, is, (fs, meant, parts)) few same apart declared =
    let all : m ≡ fs = same ∙ (parts ∙ map-id fs) in
    let accepted : IsAccepted text fs = record {
      reads = module_read text raw fs is meant (subst DifferentNames all apart) (as_few part.Whole fs kept parts few);
      accepted = accepted_by_functions fs meant.own (subst (λ (gs : Module). DeclareWithin gs 0 (length gs)) all declared);
    } in
    subst (IsAccepted text) (sym all) accepted

-- ---- the head of each

pub heads_accepted : (text : List ℕ) (kept : List Body) (heads : Module) → KeptOfText part.Head text kept → length kept ≤ most_functions
    → heads ≡ map (λ (b : Body). b.function) kept → DifferentNames heads → DeclareWithin heads 0 (length heads) → IsAcceptedHeads text heads
heads_accepted text kept heads (raw, is, (fs, meant, parts)) few same apart declared =
    let headed : heads ≡ map head_of fs = same ∙ parts in (
      fs,
      record {
        reads = module_read text raw fs is meant (heads_differ fs (subst DifferentNames headed apart)) (as_few part.Head fs kept parts few);
        accepted = accepted_by_heads fs meant.own (subst (λ (hs : Module). DeclareWithin hs 0 (length hs)) headed declared);
      },
      ap (λ (gs : List Function). map head_of gs) headed ∙ twice_headed fs,
    )
