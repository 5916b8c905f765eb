-- Whatever numbers a splice is given, it is the definition's up to numbering.
use Rattle.std.proofs.Common.{◌≡◌, refl, sym, ap, ap₂, ◌∙◌, subst}
use Rattle.ir_core.specs.Sound.{IsSound, IsWhole}
use Rattle.ir_core.specs.WellFormed.{WellFormed}
use Rattle.ir_core.proofs.Wholeness.{whole_of}
use Rattle.ir_semantics.specs.Canon.{canonical, SameFunction}
use Rattle.ir_semantics.specs.Renaming.{Renaming, line_under}
use Rattle.ir_semantics.specs.Splice.{Splicing, sides, spliced}
use Rattle.inline_outcomes.proofs.Linking.{same_numbers, lines_same, line_same}
use Rattle.inline_acceptance.specs.Alone.{AloneParts, CallSite, standing}
use Rattle.inline_acceptance.proofs.Alone.{splice_alone}
use Rattle.inline_numbering.specs.Renamed.{Renamed}
use Rattle.inline_numbering.specs.Carried.{Carries, SiteUnder, splicing_under}
use Rattle.inline_numbering.specs.Laws.{by_sides, SpliceOfAnyNumbers}
use Rattle.inline_numbering.proofs.Same.{renamed_itself, renamed_is_same}
use Rattle.inline_numbering.proofs.Sides.{joined, sides_carry}
use Rattle.inline_numbering.proofs.Places.{splice_renamed, splice_stays_whole}

module _ (q : Splicing) (site : CallSite q) (parts : AloneParts q) where
  abbrev p : Splicing
  p = by_sides q

  site_p : CallSite p
  site_p =
      record {
        block = site.block;
        block_found = site.block_found;
        lines = site.lines;
        callee = site.callee;
        is_call = site.is_call;
        declared = site.declared;
        declared_found = site.declared_found;
        signature = site.signature;
      }

  parts_p : AloneParts p
  parts_p = record { caller_whole = parts.caller_whole; callee_whole = parts.callee_whole; caller_accepted = parts.caller_accepted; callee_accepted = parts.callee_accepted }

  whole_p : WellFormed (spliced p)
  whole_p = (splice_alone p refl site_p parts_p).0

  abbrev under : Splicing
  under = splicing_under same_numbers q.naming q.caller q.callee p

  under_is : under ≡ q
  under_is =
      ap₂ (λ us ws. record { naming = q.naming; caller = q.caller; callee = q.callee; at = q.at; before = us; site = line_under same_numbers q.site; behind = ws }) (sym (lines_same q.before)) (sym (lines_same q.behind))
      ∙ ap (λ l. record { naming = q.naming; caller = q.caller; callee = q.callee; at = q.at; before = q.before; site = l; behind = q.behind }) (line_same q.site)

  stays : SiteUnder same_numbers same_numbers p q.caller q.callee
  stays =
      record {
        stands = standing p site_p;
        caller = renamed_itself q.caller;
        callee = renamed_itself q.callee;
        caller_whole = parts.caller_whole;
        caller_after_whole = parts.caller_whole;
        callee_whole = parts.callee_whole;
        callee_after_whole = parts.callee_whole;
      }

  abbrev t : Renaming
  t = joined same_numbers same_numbers q.naming

  carry : Carries t same_numbers same_numbers sides q.naming q.caller q.caller q.callee q.callee
  carry = sides_carry same_numbers same_numbers q.naming q.caller q.caller q.callee q.callee (renamed_itself q.caller) (renamed_itself q.callee) parts.callee_whole

  is_whole : IsSound (spliced q) → IsWhole (spliced q)
  is_whole sound =
      subst (λ z. IsWhole (spliced z)) under_is (splice_stays_whole t same_numbers same_numbers p q.naming q.caller q.callee carry stays whole_p (subst (λ z. IsSound (spliced z)) (sym under_is) sound))

  same : IsSound (spliced q) → SameFunction (spliced p) (spliced q)
  same sound =
      let whole_q : WellFormed (spliced q) = whole_of (spliced q) sound (is_whole sound) in
      let whole_under : WellFormed (spliced under) = subst (λ z. WellFormed (spliced z)) (sym under_is) whole_q in
      let renamed : Renamed t (spliced p) (spliced under) = splice_renamed t same_numbers same_numbers p q.naming q.caller q.callee carry stays whole_p whole_under in
      (whole_p, whole_q, sym (renamed_is_same t (spliced p) (spliced under) whole_p whole_under renamed) ∙ ap (λ z. canonical (spliced z)) under_is)

pub splice_of_any_numbers : SpliceOfAnyNumbers
splice_of_any_numbers q site parts sound = (is_whole q site parts sound, same q site parts sound)
