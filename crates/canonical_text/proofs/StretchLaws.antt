-- What is left of the stretches of a text is left of the text.
use Rattle.std.proofs.Common.{◌≡◌, ◌≤◌, ℕ, List, [], ◌∷◌, ◌++◌, length, map, drop, sym, ap, subst, ◌∙◌}
use Rattle.std.proofs.lemmas.List.{append-nil, length-map}
use Rattle.std.proofs.lemmas.List.Concat.{flat_map-append}
use Rattle.ir_core.specs.Edits.{Body, head_of}
use Rattle.ir_core.specs.Module.{Module}
use Rattle.ir_core.specs.WellFormed.{DifferentNames}
use Rattle.clif_lex.specs.Stretches.{IsCut}
use Rattle.clif_read.specs.declared.raw.RawFunction.{RawFunction}
use Rattle.clif_read.specs.declared.raw.RawModule.{RawModule}
use Rattle.read_workers.specs.Ranges.{AreFunctions, IsFront, with_functions}
use Rattle.read_workers.proofs.RangeLaws.{no_functions, range_follows, whole_text}
use Rattle.range_workers.specs.Follow.{Follow}
use Rattle.clif_names.specs.Sizes.{most_functions}
use Rattle.clif_check.specs.Declarations.{DeclareWithin}
use Rattle.clif_check.specs.Laws.{AcceptedByHeads}
use Rattle.canonical_text.specs.declared.stretches.Stretch.{Stretch}
use Rattle.canonical_text.specs.Accepted.{IsAcceptedText}
use Rattle.canonical_text.specs.Printed.{ArePrinted}
use Rattle.canonical_text.specs.Stretches.{PrintedOfRange, PrintedOfText, heads_in, text_in}
use Rattle.canonical_text.proofs.PrintedLaws.{but_first, none_printed, printed_join}

-- ---- stretches

pub one_stretch : (rs : List RawFunction) (s : Stretch) → ArePrinted rs s.heads.items s.text.items → ArePrinted rs (heads_in (s ∷ [])) (text_in (s ∷ []))
one_stretch rs s printed =
    subst (λ (hs : List Body). ArePrinted rs hs (s.text.items ++ [])) (sym (append-nil s.heads.items))
    (subst (ArePrinted rs s.heads.items) (sym (append-nil s.text.items)) printed)

stretches_join : (rs qs : List RawFunction) (ss us : List Stretch) → ArePrinted rs (heads_in ss) (text_in ss) → ArePrinted qs (heads_in us) (text_in us)
    → ArePrinted (rs ++ qs) (heads_in (ss ++ us)) (text_in (ss ++ us))
stretches_join rs qs ss us p q =
    subst (λ (hs : List Body). ArePrinted (rs ++ qs) hs (text_in (ss ++ us))) (sym (flat_map-append (λ (s : Stretch). s.heads.items) ss us))
    (subst (ArePrinted (rs ++ qs) (heads_in ss ++ heads_in us)) (sym (flat_map-append (λ (s : Stretch). s.text.items) ss us))
    (printed_join rs qs (heads_in ss) (heads_in us) (text_in ss) (text_in us) p q))

pub stretches_follow : (text : List ℕ) (a b : ℕ) (rs : List RawFunction) (ss : List Stretch) → IsCut text a → AreFunctions text a b rs → ArePrinted rs (heads_in ss) (text_in ss)
    → Follow (PrintedOfRange text) a b ss
stretches_follow text a b rs ss cut stand printed start before (qs, stood, were) =
    (qs ++ rs, range_follows text a b rs cut stand start qs stood, stretches_join qs rs before ss were printed)

-- ---- the whole text

pub text_printed : (text : List ℕ) (at : ℕ) (front : RawModule) (first rest : List Stretch) → IsCut text at → IsFront text at front
    → ArePrinted front.functions (heads_in first) (text_in first) → Follow (PrintedOfRange text) at (length text) rest → PrintedOfText text (first ++ rest)
text_printed text at front first rest cut is printed follow =
    let (more, stand, were) = follow at [] ([], no_functions text at cut, none_printed) in (
      with_functions front more,
      whole_text text at front more cut is stand,
      stretches_join front.functions more first rest printed were,
    )

pub text_accepted : AcceptedByHeads → (text : List ℕ) (ss : List Stretch) (kept : List Body) (heads : Module) → PrintedOfText text ss → kept ≡ heads_in ss → length kept ≤ most_functions
    → heads ≡ map (λ (b : Body). b.function) kept → DifferentNames heads → DeclareWithin heads 0 (length heads) → IsAcceptedText text (drop 1 (text_in ss))
text_accepted law text ss kept heads (raw, is, printed) all few same apart declared =
    let bodies : map (λ (b : Body). b.function) kept ≡ map head_of printed.functions = ap (map (λ (b : Body). b.function)) all ∙ printed.headed in
    let headed : heads ≡ map head_of printed.functions = same ∙ bodies in
    let long : length kept ≡ length printed.functions = sym (length-map kept (λ (b : Body). b.function)) ∙ (ap length bodies ∙ length-map printed.functions head_of) in (
      printed.functions,
      law text raw printed.functions is printed.meant (subst (λ (n : ℕ). n ≤ most_functions) long few) (subst DifferentNames headed apart)
          (subst (λ (hs : Module). DeclareWithin hs 0 (length hs)) headed declared),
      ap (drop 1) printed.written ∙ but_first printed.functions,
    )
