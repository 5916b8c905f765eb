-- What a line of the callee adds to a fragment, by the kind of the site.
use Rattle.std.proofs.Common.{◌≡◌, ℕ, suc, ◌+◌, List, [], ◌∷◌, length, map, refl, ap, ◌∙◌, sym, arith, length-append}
use Rattle.exn_tables.specs.declared.table.Entry.{Entry}
use Rattle.debug_tags.specs.declared.tags.Tag.{Tag}
use Rattle.ir_core.specs.declared.instructions.Arg.TheVariants as arg
use Rattle.ir_core.specs.declared.instructions.BlockCall.{BlockCall}
use Rattle.ir_core.specs.Lists.{Each}
use Rattle.ir_core.specs.Module.{Instruction, Plain, Branches, SequencePoint, Return, Call, ReturnCall, TryCall, Line}
use Rattle.ir_core.specs.Size.{line_size}
use Rattle.ir_semantics.specs.Import.{sig_after}
use Rattle.ir_semantics.specs.Renaming.{arg_under, called_under, entry_under}
use Rattle.ir_semantics.specs.Splice.{Splicing, Kind, Within, Last, Tries, Fragment, callee_line, callee_names, caller_names, fragment, fragment_by, from, front, kind_of, named_sig, new_results, outer_table, returned_arg, to_after, tries_fragment, within_fragment}
use Rattle.splice_size.specs.Counts.{counts_by, line_counts, summed}
use Rattle.splice_size.specs.SizeAfter.{body_size}
use Rattle.inline_acceptance.proofs.KeptLists.{length_map}
use Rattle.splice_size.proofs.Lines as lines
use Rattle.splice_size.proofs.Lines.{Fits, fragment_size, as_try_same, call_same, entries_join, entries_same, try_same}
use Rattle.splice_size.proofs.Sums.{body_plus}
use Rattle.ir_semantics.proofs.Ranges.{length_from}

module _ (p : Splicing) where
  abbrev tag_count : ℕ
  tag_count = length p.site.tags

  abbrev result_count : ℕ
  result_count = length p.site.results

  -- ---- a plain call

  after_size : (vs : List ℕ) → line_size (to_after p vs) ≡ 1 + length vs
  after_size vs = let e = length_map arg.Value vs in omega (arith, e)

  within_step : (c j : ℕ) (l : Line) (q : Fragment) (i : Instruction) → l.inst ≡ i → Fits l i → fragment_size (within_fragment p c j l i q) ≡ body_size Within tag_count result_count (counts_by l i) + fragment_size q
  within_step c j l q (Return vs) e (f, g) =
      let a = after_size (map p.naming.callee_value vs) in
      let b = length_map p.naming.callee_value vs in
      let d = ap (λ (z : List Tag). length z) g in omega (arith, a, b, d, f)
  within_step c j l q (ReturnCall t args) e f =
      let a = call_same (callee_names p) t args in
      let b = lines.new_length p c in
      let d = lines.known_tags p l (ReturnCall t args) e in
      let g = lines.known_size l (ReturnCall t args) e in
      let h = length_map arg.Value (new_results p c) in omega (arith, a, b, d, f, g, h)
  within_step c j l q (Plain x) e f = let a = lines.stays p l (Plain x) e in omega (arith, a)
  within_step c j l q (Branches x) e f = let a = lines.stays p l (Branches x) e in omega (arith, a)
  within_step c j l q SequencePoint e f = let a = lines.stays p l SequencePoint e in omega (arith, a)
  within_step c j l q (Call t args) e f = let a = lines.stays p l (Call t args) e in omega (arith, a)
  within_step c j l q (TryCall t sig args normal table) e f = let a = lines.stays p l (TryCall t sig args normal table) e in omega (arith, a)

  -- ---- a tail call

  last_step : (l : Line) (q : Fragment) (i : Instruction) → l.inst ≡ i → fragment_size (front p (callee_line p l) q) ≡ body_size Last tag_count result_count (counts_by l i) + fragment_size q
  last_step l q i e = let a = lines.stays p l i e in let b = lines.whole l i e in omega (arith, a, b)

  -- ---- a `try_call`

  module _ (normal : BlockCall) (table : List (Entry BlockCall)) where
    tries_step : (c j : ℕ) (l : Line) (q : Fragment) (i : Instruction) → l.inst ≡ i → Fits l i → fragment_size (tries_fragment p normal table c j l i q) ≡ body_size (Tries normal table) tag_count result_count (counts_by l i) + fragment_size q
    tries_step c j l q (Return vs) e (f, g) =
        let a = length_map (returned_arg p vs) normal.args in
        let b = ap (λ (z : List Tag). length z) g in omega (arith, a, b, f)
    tries_step c j l q (Call t args) e f =
        let a = as_try_same (callee_names p) t (named_sig p (called_under (callee_names p) t)) args in
        let b = lines.outer_size p table in
        let d = lines.known_tags p l (Call t args) e in
        let g = lines.known_size l (Call t args) e in
        let h = length_map arg.Ret (from 0 (length l.results)) ∙ length_from 0 (length l.results) in
        let k = length_map p.naming.callee_value l.results in omega (arith, a, b, d, g, h, k)
    tries_step c j l q (TryCall t sig args own inner) e f =
        let a = try_same (callee_names p) t (sig_after p.caller p.callee sig) sig args in
        let b = lines.outer_size p table in
        let d = lines.known_tags p l (TryCall t sig args own inner) e in
        let g = lines.known_size l (TryCall t sig args own inner) e in
        let h = length_map (arg_under (callee_names p)) own.args in
        let k = length-append (map (entry_under (callee_names p)) inner) (outer_table p table) in
        let m = length_map (entry_under (callee_names p)) inner in
        let n = entries_join (map (entry_under (callee_names p)) inner) (outer_table p table) in
        let o = entries_same (callee_names p) inner in omega (arith, a, b, d, f, g, h, k, m, n, o)
    tries_step c j l q (ReturnCall t args) e f =
        let a = as_try_same (callee_names p) t (named_sig p (called_under (callee_names p) t)) args in
        let b = lines.outer_size p table in
        let d = lines.known_tags p l (ReturnCall t args) e in
        let g = lines.known_size l (ReturnCall t args) e in
        let h = length_map (arg_under (caller_names p)) normal.args in omega (arith, a, b, d, f, g, h)
    tries_step c j l q (Plain x) e f = let a = lines.stays p l (Plain x) e in omega (arith, a)
    tries_step c j l q (Branches x) e f = let a = lines.stays p l (Branches x) e in omega (arith, a)
    tries_step c j l q SequencePoint e f = let a = lines.stays p l SequencePoint e in omega (arith, a)

  -- ---- any kind

  step : (k : Kind) (c j : ℕ) (l : Line) (q : Fragment) → Fits l l.inst → fragment_size (fragment_by p k c j l q) ≡ body_size k tag_count result_count (line_counts l) + fragment_size q
  step Within c j l q f = within_step c j l q l.inst refl f
  step Last c j l q f = last_step l q l.inst refl
  step (Tries normal table) c j l q f = tries_step normal table c j l q l.inst refl f

  pub nothing : (k : Kind) → 0 ≡ body_size k tag_count result_count (summed line_counts [])
  nothing Within = omega arith
  nothing Last = omega arith
  nothing (Tries normal table) = omega arith

  -- what the lines of a block become
  pub lines_size : (c j : ℕ) (ls : List Line) → Each (λ l. Fits l l.inst) ls → fragment_size (fragment p c j ls) ≡ body_size (kind_of p.site.inst) tag_count result_count (summed line_counts ls)
  lines_size c j [] f = nothing (kind_of p.site.inst)
  lines_size c j (l ∷ ls) f =
      let k = kind_of p.site.inst in
      step k c j l (fragment p c (suc j) ls) f.0
      ∙ (ap (λ n. body_size k tag_count result_count (line_counts l) + n) (lines_size c (suc j) ls f.1)
      ∙ sym (body_plus k tag_count result_count (line_counts l) (summed line_counts ls)))
